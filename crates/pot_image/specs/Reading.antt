-- Grammars one after another, and reading by them from the front.
use Rattle.std.specs.Prelude.{ℕ, zero, suc, ◌+◌, ◌++◌, List, [], ◌∷◌, Bool, ◌&&◌, nat_le}
use Rattle.std.specs.Prelude.{if◌then◌else◌, Result, Ok, Err, length, take, drop}
use Rattle.pot_image.specs.Fields.{Field, Grammar, done, wants}

-- one grammar, and then the other, which may depend on the value of the first
infixl 10 ◌>>=◌
unfoldable pub ◌>>=◌ : {A B : Type 0} → Grammar A → (A → Grammar B) → Grammar B
(done a) >>= next = next a
(wants f g) >>= next = wants f (λ x. g x >>= next)

-- a grammar for each of the `count` numbers from `first` on, where each goes on with the value of
-- the one before
unfoldable pub over : {A : Type 0} → ℕ → ℕ → (ℕ → A → Grammar A) → A → Grammar A
over first zero each a = done a
over first (suc count) each a = each first a >>= over (first + 1) count each

-- a list of values behind those `before`: the `count` numbers from `first` on have one each, which
-- may depend on those before it
unfoldable pub several : {A : Type 0} → ℕ → ℕ → (ℕ → List A → Grammar A) → List A → Grammar (List A)
several first zero each before = done before
several first (suc count) each before =
    each first before >>= λ x. several (first + 1) count each (before ++ x ∷ [])

-- a field stands at the front of the bytes
abbrev pub stands : Field → List ℕ → Bool
stands f bytes = nat_le f.size (length bytes) && f.holds (take f.size bytes)

-- The value that is read from the front, and the bytes behind; or how many bytes are left from the
-- first field that does not stand there.
unfoldable pub reading : {A : Type 0} → Grammar A → List ℕ → Result (A × List ℕ) ℕ
reading (done a) bytes = Ok (a, bytes)
reading (wants f next) bytes =
    if stands f bytes then reading (next (take f.size bytes)) (drop f.size bytes)
    else Err (length bytes)
