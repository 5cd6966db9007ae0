use Rattle.std.proofs.Common.{◌++◌, List, ℕ, ap, sym, ◌∙◌, arith, take, get_or}
use Rattle.std.proofs.lemmas.List.{take_more}
use Rattle.pot_looks.specs.Escapes.{escaped, spelled}
use Rattle.pot_looks.proofs.EscapeLemmas.{escaped_more, escaped_none}
use Rattle.pot_looks.proofs.escaping.escape.Goals as goal

pub loop-at-init : goal.loop-at-init
loop-at-init c = c.new-whole.ensures.items ∙ sym escaped_none

pub loop-at-preserved : goal.loop-at-preserved
loop-at-preserved c =
    let text = c.args.text.now in
    let at = c.loop-at.at in
    let b = get_or text at 0 in
    c.in_ok-append.ensures ∙ ap (λ (z : List ℕ). z ++ spelled b) c.loop-at.invariant ∙ sym (escaped_more (take at text) b)
    ∙ sym (ap escaped (take_more text at 0 (omega (arith, c.loop-at-test.true))))
