use Rattle.std.proofs.Common.{◌≡◌, ◌≢◌, Bool, true, false, List, ℕ, refl, sym, ap, ◌∙◌}
use Rattle.std.specs.Prelude.{◌==◌, not}
use Rattle.std.specs.Cmp.Lexicographic.{pointwise}
use Rattle.std.proofs.lemmas.Bool.{true≢false}
use Rattle.std.proofs.lemmas.Bool.Decides.{Decides-eqb}
use Rattle.std.proofs.lemmas.Slice.Eq.{slice_eq-Decides}
use Rattle.pot_client.proofs.ListedLemmas.{no_listed_end, no_listed_word, other_first_word, other_words, listed_stands}
use Rattle.pot_client.proofs.replies.Replies.next_listed.Goals as goal

-- what `!=` of two slices says
differ : (a b word : List ℕ) (r : Bool) → r ≡ not (pointwise ◌==◌ a b) → r ≡ true → b ≡ word → a ≢ word
differ a b word r is told same e =
    let equal : pointwise ◌==◌ a b ≡ true = (slice_eq-Decides Decides-eqb a b (pointwise ◌==◌ a b) refl).1 (e ∙ sym same) in
    true≢false (sym told ∙ is ∙ ap not equal)

not_false : (b : Bool) → not b ≡ false → b ≡ true
not_false true h = refl
not_false false h = absurd (true≢false h)

agree : (a b word : List ℕ) (r : Bool) → r ≡ not (pointwise ◌==◌ a b) → r ≡ false → b ≡ word → a ≡ word
agree a b word r is told same =
    (slice_eq-Decides Decides-eqb a b (pointwise ◌==◌ a b) refl).0 (not_false (pointwise ◌==◌ a b) (sym is ∙ told)) ∙ same

pub returns-in_err-line : goal.returns-in_err-line
returns-in_err-line c = rw c.from_residual.ensures (no_listed_end c.args.self.now c.self.inside.left.now c.self.view_is c.in_err-line.ensures)

pub returns-in_err-next : goal.returns-in_err-next
returns-in_err-next c =
    rw c.from_residual-in_err-next.ensures
    (no_listed_word c.args.self.now c.self.inside.left.now c.in_ok-line.line.now c.in_ok-line.rest.now c.self.view_is c.in_ok-line.ensures
    (sym c.of-words.ensures ∙ c.in_err-next.ensures))

pub returns-then-ne : goal.returns-then-ne
returns-then-ne c =
    other_first_word c.args.self.now c.self.inside.left.now c.in_ok-line.line.now c.in_ok-line.rest.now c.self.view_is c.in_ok-line.ensures
    c.in_ok-next.field-0.now c.next.new.self (sym c.of-words.ensures ∙ c.in_ok-next.ensures)
    (differ c.in_ok-next.field-0.now c.as_slice.result.now _ c.ne.result c.ne.ensures c.if-ne.true c.as_slice.ensures)

pub returns-in_err-name : goal.returns-in_err-name
returns-in_err-name c =
    rw c.from_residual-in_err-name.ensures
    (other_words c.args.self.now c.self.inside.left.now c.in_ok-line.line.now c.in_ok-line.rest.now c.self.view_is c.in_ok-line.ensures
    c.in_ok-next.field-0.now c.next.new.self (sym c.of-words.ensures ∙ c.in_ok-next.ensures) c.in_err-name.ensures)

pub returns : goal.returns
returns c = (
  (c.in_ok-name.ensures.0.0, rw c.from.ensures c.in_ok-name.ensures.0.1),
  listed_stands c.args.self.now c.self.inside.left.now c.in_ok-line.line.now c.in_ok-line.rest.now c.self.view_is c.in_ok-line.ensures
      c.in_ok-next.field-0.now c.next.new.self (sym c.of-words.ensures ∙ c.in_ok-next.ensures) c.in_ok-name.name c.in_ok-name.length c.from.result
      (agree c.in_ok-next.field-0.now c.as_slice.result.now _ c.ne.result c.ne.ensures c.if-ne.false c.as_slice.ensures) c.in_ok-name.ensures.0.2 c.from.ensures,
)
