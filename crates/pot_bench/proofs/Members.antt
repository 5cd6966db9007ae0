-- A fact at each place of a list, and of one more element.
use Rattle.std.proofs.Common.{◌≡◌, ◌++◌, ℕ, zero, suc, List, [], ◌∷◌, length, subst}
use Rattle.std.specs.Prelude.{Some, slice_get}
use Rattle.std.proofs.lemmas.Option.{same_Some}

pub each_more : {M : Type 0} (P : ℕ → M → Type 0) (ms : List M) (m : M) → ((n : ℕ) (x : M) → slice_get ms n ≡ Some x → P n x) → P (length ms) m
    → (n : ℕ) (x : M) → slice_get (ms ++ m ∷ []) n ≡ Some x → P n x
each_more P [] m f p zero x e = subst (P 0) (same_Some m x e) p
each_more P [] m f p (suc n) x e = absurd (cc)
each_more P (d ∷ ms) m f p zero x e = f zero x e
each_more P (d ∷ ms) m f p (suc n) x e = each_more (λ k. P (suc k)) ms m (λ k y q. f (suc k) y q) p n x e
