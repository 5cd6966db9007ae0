use Rattle.pot_image.specs.Reading.{reading}
use Rattle.std.proofs.Common.{ap, sym, ◌∙◌}
use Rattle.pot_image.proofs.Once.{ok_then}
use Rattle.pot_image.proofs.Steps.{fails_then, fails_as, exits, done_as}
use Rattle.pot_image.proofs.EntryKinds.{of_place_kind}
use Rattle.pot_image.proofs.entries.read_placed.Goals as goal

pub returns-in_err-stripe : goal.returns-in_err-stripe
returns-in_err-stripe c = exits _ _ _ _ c.from_residual.ensures.1 (fails_as _ _ _ (ap (λ g. reading g c.args.bytes.now) (of_place_kind c.args.rack.now c.args.job c.args.kind c.requires.least c.requires.most)) (fails_then _ _ _ _ c.in_err-stripe.ensures))

pub returns : goal.returns
returns c = sym (ap (λ g. reading g c.args.bytes.now) (of_place_kind c.args.rack.now c.args.job c.args.kind c.requires.least c.requires.most)) ∙ ok_then _ _ _ _ _ _ c.in_ok-stripe.ensures (done_as _ _ _ (sym c.placed.ensures))
