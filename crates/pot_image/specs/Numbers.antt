-- The fields of an image that are numbers, flags and digests.
use Rattle.std.specs.Prelude.{ℕ, List, Bool, true, ◌==◌, ◌&&◌, nat_le}
use Rattle.byteorder.specs.Endian.{big_number}
use Rattle.pot_bytes.specs.declared.digest.Digest.{Digest}
use Rattle.pot_image.specs.Fields.{Grammar, done, wants}

-- a number of so many bytes, the highest first, that keeps a rule
unfoldable pub natural : ℕ → (ℕ → Bool) → Grammar ℕ
natural size rule =
    wants (record { size = size; holds = λ x. rule (big_number size x) })
    (λ x. done (big_number size x))

-- so many bytes that keep a rule
unfoldable pub text : ℕ → (List ℕ → Bool) → Grammar (List ℕ)
text size rule = wants (record { size = size; holds = rule }) done

abbrev pub any : {A : Type 0} → A → Bool
any x = true

abbrev pub at_most : ℕ → ℕ → Bool
at_most most n = nat_le n most

abbrev pub between : ℕ → ℕ → ℕ → Bool
between least most n = nat_le least n && nat_le n most

-- so many bytes of zero
abbrev pub zeros : ℕ → Grammar ℕ
zeros size = natural size (λ n. n == 0)

-- a byte of 0 or 1
unfoldable pub flag : Grammar Bool
flag =
    wants (record { size = 1; holds = λ x. nat_le (big_number 1 x) 1 })
    (λ x. done (big_number 1 x == 1))

-- 32 bytes
unfoldable pub digest : Grammar Digest
digest = wants (record { size = 32; holds = any }) (λ x. done (record { bytes = x }))
