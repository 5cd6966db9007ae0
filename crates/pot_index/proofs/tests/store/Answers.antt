use Rattle.std.proofs.Common.{subst, sym}
use Rattle.pot_index.specs.Index.{IsReservedBy}
use Rattle.pot_index.proofs.StoryLemmas.{reserved_here, small_published}
use Rattle.pot_index.proofs.tests.store.Goals as goal

pub publish-requires-clause-reserved : goal.publish-requires-clause-reserved
publish-requires-clause-reserved c =
    subst (λ name. IsReservedBy c.reserve.new.self.now 1 name) (sym c.in_ok-kept.ensures.named) (reserved_here c.args.index.now c.reserve.new.self 1 c.args.name.now c.in-Ok.ensures.2)

pub returns-clause-there : goal.returns-clause-there
returns-clause-there c =
    small_published c.reserve.new.self c.publish.new.self 1 c.args.name.now c.in_ok-kept.kept c.publish.ensures c.in_ok-kept.ensures.named c.in_ok-kept.ensures.long
