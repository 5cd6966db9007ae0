use Rattle.pot_index.proofs.StoryLemmas.{reserved_here, reserved_before}
use Rattle.pot_index.proofs.tests.abandon.Goals as goal

pub abandon-requires : goal.abandon-requires
abandon-requires c = reserved_here c.args.index.now c.reserve.new.self 2 c.args.name.now c.in-Ok.ensures.2

pub ended_at-requires : goal.ended_at-requires
ended_at-requires c = reserved_before c.args.index.now c.reserve.new.self c.abandon.new.self 2 c.args.name.now c.in-Ok.ensures.2 c.abandon.ensures
