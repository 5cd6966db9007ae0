use Rattle.std.proofs.Common.{subst, sym}
use Rattle.pot_index.specs.Index.{IndexView, IsReservedBy}
use Rattle.pot_index.proofs.IndexLemmas.{abandoning_is}
use Rattle.pot_index.proofs.index.Index.abandon.Goals as goal

pub invariant_of-self : goal.invariant_of-self
invariant_of-self c =
    abandoning_is c.self.inside.lists _ c.args.job c.args.name.now c.self.invariant c.abandon.ensures
    (subst (λ (v : IndexView). IsReservedBy v.now c.args.job c.args.name.now) (sym c.self.view_is) c.requires)
