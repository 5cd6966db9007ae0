-- What stands behind the kind of an entry.
use Rattle.std.proofs.Common.{◌≡◌, ◌≤◌, ◌==◌, ℕ, List, Ok, nat_le, Bool, true, false, cond, ap, ◌∙◌, refl, arith}
use Rattle.std.proofs.lemmas.Bool.{le-leb, ne_eqb}
use Rattle.pot_bytes.specs.declared.rack.Rack.{Rack}
use Rattle.pot_index.specs.declared.entry.IndexEntry.TheVariants.{Often}
use Rattle.pot_image.specs.Fields.{done}
use Rattle.pot_image.specs.Reading.{reading}
use Rattle.pot_image.proofs.Once.{done_reads}
use Rattle.pot_image.specs.Logs.{of_place, placed, entry_of, behind_name}

-- the third of four
third : {X : Type 0} (a b c : Bool) (p q r s : X) → a ≡ false → b ≡ false → c ≡ true → r ≡ cond a p (cond b q (cond c r s))
third false false true p q r s e f g = refl
third true b c p q r s e f g = absurd ((cc))
third false true c p q r s e f g = absurd ((cc))
third false false false p q r s e f g = absurd ((cc))

pub of_place_kind : (rack : Rack) (job kind : ℕ) → 3 ≤ kind → kind ≤ 9 → of_place rack (placed kind job) ≡ entry_of rack job kind
unfolding entry_of
of_place_kind rack job kind l m = third (kind == 1) (kind == 2) (nat_le kind 9) _ _ _ _ (ne_eqb kind 1 (λ e. omega (arith, e, l))) (ne_eqb kind 2 (λ e. omega (arith, e, l))) (le-leb _ _ m)

last_of : {X : Type 0} (a b c d e f : Bool) (p q r s t u v : X) → a ≡ false → b ≡ false → c ≡ false → d ≡ false → e ≡ false → f ≡ false
    → cond a p (cond b q (cond c r (cond d s (cond e t (cond f u v))))) ≡ v
last_of false false false false false false p q r s t u v e1 e2 e3 e4 e5 e6 = refl
last_of true b c d e f p q r s t u v e1 e2 e3 e4 e5 e6 = absurd ((cc))
last_of false true c d e f p q r s t u v e1 e2 e3 e4 e5 e6 = absurd ((cc))
last_of false false true d e f p q r s t u v e1 e2 e3 e4 e5 e6 = absurd ((cc))
last_of false false false true e f p q r s t u v e1 e2 e3 e4 e5 e6 = absurd ((cc))
last_of false false false false true f p q r s t u v e1 e2 e3 e4 e5 e6 = absurd ((cc))
last_of false false false false false true p q r s t u v e1 e2 e3 e4 e5 e6 = absurd ((cc))

pub often_reads : (job kind : ℕ) (x bytes : List ℕ) → (kind ≡ 1 → ⊥) → (kind ≡ 2 → ⊥) → (kind ≡ 3 → ⊥) → (kind ≡ 4 → ⊥) → (kind ≡ 5 → ⊥) → (kind ≡ 7 → ⊥)
    → reading (behind_name job kind x) bytes ≡ Ok (Often job x, bytes)
unfolding behind_name
often_reads job kind x bytes a b c d e f =
    ap (λ g. reading g bytes) (last_of (kind == 1) (kind == 2) (kind == 3) (kind == 4) (kind == 5) (kind == 7) _ _ _ _ _ _ (done (Often job x)) (ne_eqb kind 1 a) (ne_eqb kind 2 b) (ne_eqb kind 3 c) (ne_eqb kind 4 d) (ne_eqb kind 5 e) (ne_eqb kind 7 f)) ∙ done_reads _ _
