use Rattle.std.proofs.Common.{◌≡◌, ◌++◌, ℕ, List, ap, ap₂, sym, ◌∙◌, arith}
use Rattle.pots_racks.specs.Racks.{head, tail, lines}
use Rattle.pots_racks.proofs.TextLemmas.{lines_next, lines_none, text_is}
use Rattle.pots_racks.proofs.vault_file.vault_text.Goals as goal

pub loop-before-init : goal.loop-before-init
loop-before-init c = c.in_ok-text.ensures.items ∙ ap (λ (z : List ℕ). head ++ z) (sym lines_none)

pub loop-before-preserved : goal.loop-before-preserved
loop-before-preserved c =
    c.in_ok-extend_from_slice.ensures.items
    ∙ ap₂ (λ (x y : List ℕ). x ++ y) c.loop-before.invariant c.line_of.ensures
    ∙ ap (λ (z : List ℕ). head ++ z) (sym (lines_next c.loop-before.before))

pub returns : goal.returns
returns c =
    let all : c.loop-before.before ≡ c.args.count = omega (arith, c.loop-before-test.false, c.loop-before.auto.before-end) in
    c.in_ok-extend_from_slice-2.ensures.items
    ∙ ap (λ (z : List ℕ). z ++ tail) c.loop-before.invariant
    ∙ ap (λ (n : ℕ). (head ++ lines n) ++ tail) all
    ∙ sym (text_is c.args.count)
