use Rattle.std.proofs.Common.{refl}
use Rattle.pot_recover.proofs.JoinLemmas.{points_front}
use Rattle.pot_recover.proofs.joining.first_points.Goals as goal

pub returns : goal.returns
returns c = points_front _ c.args.count refl c.requires
