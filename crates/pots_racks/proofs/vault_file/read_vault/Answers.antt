use Rattle.std.proofs.Common.{◌≡◌, ◌≢◌, ℕ, List, Bool, false, length, ap, sym, ◌∙◌, refl}
use Rattle.std.specs.Prelude.{◌==◌}
use Rattle.std.specs.Cmp.Lexicographic.{pointwise}
use Rattle.std.proofs.lemmas.Bool.{false≢true}
use Rattle.std.proofs.lemmas.Bool.Decides.{Decides-eqb}
use Rattle.std.proofs.lemmas.Slice.Eq.{slice_eq-Decides}
use Rattle.pots_racks.proofs.TextLemmas.{long_text, none_other}
use Rattle.pots_racks.proofs.vault_file.read_vault.Goals as goal

-- what is found to differ differs
differ : (a b : List ℕ) (r : Bool) → r ≡ pointwise ◌==◌ a b → r ≡ false → a ≢ b
differ a b r e f same = false≢true (sym f ∙ e ∙ (slice_eq-Decides Decides-eqb a b (pointwise ◌==◌ a b) refl).1 same)

pub returns-in-None : goal.returns-in-None
returns-in-None c = λ n is e. c.in-None.ensures n is (ap (λ (l : List ℕ). length l) e ∙ long_text n)

pub returns : goal.returns
returns c = λ n is e.
    let wanted = c.as_slice.result.now in
    let text = c.args.text.now in
    none_other text wanted c.in-Some.count n (c.as_slice.ensures.value ∙ c.in_ok-wanted.ensures) c.in-Some.ensures.1
    (differ wanted text c.eq.result c.eq.ensures c.if-eq.false) e
