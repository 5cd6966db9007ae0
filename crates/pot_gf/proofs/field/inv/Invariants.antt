use Rattle.std.proofs.Common.{◌≡◌, ◌-◌}
use Rattle.pot_gf.proofs.FieldLemmas.{chain}
use Rattle.pot_gf.proofs.field.inv.Given as goal

abbrev pub invariant-loop-step : goal.invariant-loop-step
invariant-loop-step l = chain (7 - l.step) l.square l.product ≡ chain 7 l.a 1
