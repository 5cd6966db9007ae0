use Rattle.std.proofs.Common.{subst, sym}
use Rattle.pot_index.specs.Fits.{FitsRack}
use Rattle.pot_index.specs.Index.{IndexView, IsReservedBy}
use Rattle.pot_index.proofs.IndexLemmas.{publishing_is}
use Rattle.pot_index.proofs.NamesKept.{reserved_unpublished}
use Rattle.pot_index.proofs.RecordLemmas.{stands_published}
use Rattle.pot_index.proofs.index.Index.publish.Goals as goal

pub unreachable-requires : goal.unreachable-requires
unreachable-requires c =
    reserved_unpublished c.self.inside.lists.rack c.self.inside.lists.now c.args.job c.args.kept.name c.self.invariant.names
    (subst (λ (v : IndexView). IsReservedBy v.now c.args.job c.args.kept.name) (sym c.self.view_is) c.requires.reserved)
    (stands_published c.self.inside.lists.now.published c.args.kept.name c.in_default.field-0 c.in_default.ensures)

pub invariant_of-self : goal.invariant_of-self
invariant_of-self c =
    publishing_is c.self.inside.lists _ c.args.job c.args.kept c.self.invariant c.publish.ensures
    (subst (λ (v : IndexView). IsReservedBy v.now c.args.job c.args.kept.name) (sym c.self.view_is) c.requires.reserved)
    (subst (λ (v : IndexView). FitsRack v.rack c.args.kept) (sym c.self.view_is) c.requires.fits)
