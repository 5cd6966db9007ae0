use Rattle.std.proofs.Common.{arith, refl, subst, true, false, Err}
use Rattle.pot_index.specs.declared.entry.IndexEntry.TheVariants.{Find}
use Rattle.pot_index.specs.declared.fault.FindFault.TheVariants.{Absent}
use Rattle.pot_index.specs.Index.{IndexView}
use Rattle.pot_index.specs.Calls.{Finds}
use Rattle.pot_index.proofs.IndexLemmas.{entered_is, found_no_memory}
use Rattle.pot_index.proofs.RecordLemmas.{stands_published, belongs_unpublished}
use Rattle.pot_index.proofs.index.Index.find.Goals as goal

pub invariant_of-self : goal.invariant_of-self
invariant_of-self c =
    entered_is c.self.inside.lists _ (Find c.args.job c.args.name.now false) c.self.invariant c.enter.ensures tt
    (λ t. absurd (cc), λ k. absurd (belongs_unpublished c.self.inside.lists.now.published c.args.name.now c.in_default.field-0 c.in_default.ensures k)) (omega (arith, c.owed.ensures))

pub returns-in_default : goal.returns-in_default
returns-in_default c =
    subst (λ (v : IndexView). Finds c.args.job c.args.name.now v c.enter.new.self (Err Absent)) c.self.view_is
    (omega (arith, c.owed.ensures), belongs_unpublished c.self.inside.lists.now.published c.args.name.now c.in_default.field-0 c.in_default.ensures, c.enter.ensures)

pub returns-in_err-found : goal.returns-in_err-found
returns-in_err-found c =
    subst (λ (v : IndexView). Finds c.args.job c.args.name.now v v c.from_residual.result) c.self.view_is
    (found_no_memory c.self.inside.lists c.args.job c.args.name.now c.from_residual.result (omega (arith, c.owed.ensures))
    (stands_published c.self.inside.lists.now.published c.args.name.now c.in-Ok.at c.in-Ok.ensures) c.from_residual.ensures.1)

pub invariant_of-self-2 : goal.invariant_of-self-2
invariant_of-self-2 c =
    entered_is c.self.inside.lists _ (Find c.args.job c.args.name.now true) c.self.invariant c.enter-2.ensures tt
    (λ t. stands_published c.self.inside.lists.now.published c.args.name.now c.in-Ok.at c.in-Ok.ensures, λ k. refl) (omega (arith, c.owed.ensures))
