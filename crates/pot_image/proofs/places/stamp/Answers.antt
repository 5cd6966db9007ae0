use Rattle.std.proofs.Common.{sym, subst, ◌++◌, [], ◌∷◌}
use Rattle.std.proofs.Common.{set}
use Rattle.pot_image.specs.Marks.{HaveMarks}
use Rattle.pot_image.proofs.MarkRules.{marked}
use Rattle.pot_image.proofs.places.stamp.Goals as goal

pub returns-clause-marks : goal.returns-clause-marks
returns-clause-marks c = λ before h. subst (λ i. HaveMarks c.args.rack.now (set c.args.stamps.now i c.args.last) c.args.last (before ++ c.args.place ∷ [])) (sym c.spot-spot.ensures.value) (marked _ _ _ _ c.requires.group c.requires.column c.requires.stripe before h)
