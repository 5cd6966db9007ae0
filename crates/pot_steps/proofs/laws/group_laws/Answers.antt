use Rattle.pot_steps.proofs.Group.{put_keeps_group, look_keeps, count_keeps, full_keeps}
use Rattle.pot_steps.proofs.Opening.{start_makes}
use Rattle.pot_steps.proofs.laws.group_laws.Goals as goal

pub returns : goal.returns
returns c = record { start = start_makes; put = put_keeps_group; look = look_keeps; count = count_keeps; full = full_keeps }
