use Rattle.std.proofs.Common.{arith, refl}
use Rattle.pot_index.proofs.ListLemmas.{log_is, brought_fits, length-values, values_grown}
use Rattle.pot_index.proofs.PublishLemmas.{renewed_at}
use Rattle.pot_index.proofs.lists.Lists.renew.Goals as goal

pub push_reserved-requires : goal.push_reserved-requires
push_reserved-requires c =
    omega (arith, c.self.inside.brought.ok, brought_fits _ _ _ _ c.self.invariant (omega (arith, log_is c.args.self.now _ _ _ _ _ _ c.self.view_is)))

pub push_reserved-requires-2 : goal.push_reserved-requires-2
push_reserved-requires-2 c = omega (arith, c.self.inside.log.ok, log_is c.args.self.now _ _ _ _ _ _ c.self.view_is)

pub returns-clause-ok : goal.returns-clause-ok
returns-clause-ok c =
    renewed_at c.args.self.now _ _ _ _ _ _ _ _ _ c.args.job c.args.split c.index_mut-record.result.now c.renew.new.self c.mark_of-mark.result c.args.at c.self.view_is
    (length-values _ _ _ _ c.self.invariant) c.requires.ascends c.requires.within c.index_mut-record.ensures.value c.in_ok-renew.ensures.ok c.mark_of-mark.ensures
    (values_grown _ _ _ c.renew.new.self c.push_reserved.ensures.items c.of.ensures) refl c.push_reserved-2.ensures.items
