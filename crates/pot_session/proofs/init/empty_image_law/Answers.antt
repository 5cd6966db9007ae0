use Rattle.pot_session.proofs.EmptyImage.{empty_image}
use Rattle.pot_session.proofs.init.empty_image_law.Goals as goal

pub returns : goal.returns
returns c = empty_image c.args.rack.now c.requires
