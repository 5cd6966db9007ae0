use Rattle.std.proofs.Common.{◌∙◌, drop, ap, arith, length-drop}
use Rattle.std.proofs.lemmas.List.{take_all}
use Rattle.pot_bytes.specs.Sums.{xor}
use Rattle.pot_recover.proofs.choices.add_fragment.Goals as goal

pub returns : goal.returns
returns c =
    c.xor_into.ensures ∙ ap (xor c.args.object.now) (take_all 928 (drop 64 c.args.content.now) (omega (arith, length-drop 64 c.args.content.now, c.told-content)))
