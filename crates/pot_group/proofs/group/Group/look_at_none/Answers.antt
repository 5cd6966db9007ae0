use Rattle.std.proofs.Common.{IsTrue, [], arith, subst, sym}
use Rattle.pot_group.specs.declared.sweeping.Swept.{Swept}
use Rattle.pot_group.specs.Calls.{Made}
use Rattle.pot_group.specs.Sweeping.{SweepCall}
use Rattle.pot_group.specs.Group.{view_of}
use Rattle.pot_group.proofs.LookSteps.{full_made}
use Rattle.pot_group.proofs.SweepLemmas.{sweep_full, sweep_none, sweeps_none}
use Rattle.pot_group.proofs.group.Group.look_at_none.Goals as goal

pub returns-in-Some : goal.returns-in-Some
returns-in-Some g c = λ job.
    let told = IsTrue g.A.Archive.account.tells in
    let v = view_of g.A.Archive.account.meaning c.args.self.now in
    subst (λ (x : Swept). Made (SweepCall told job c.args.stripe c.args.column x) v v) (sym c.nothing.ensures)
    (sweep_full told job c.args.stripe c.args.column 0 c.args.stripe c.args.column _ v v v [] (sweeps_none told job c.args.stripe c.args.column v) c.in-Some.field-0 [] c.in-Some.ensures (omega arith)
    (full_made told v job c.in-Some.field-0 [] c.requires.full))

pub returns-in-None : goal.returns-in-None
returns-in-None g c = λ job.
    let told = IsTrue g.A.Archive.account.tells in
    let v = view_of g.A.Archive.account.meaning c.args.self.now in
    subst (λ (x : Swept). Made (SweepCall told job c.args.stripe c.args.column x) v v) (sym c.nothing-in-None.ensures)
    (sweep_none told job c.args.stripe c.args.column 0 c.args.stripe c.args.column _ v v [] (sweeps_none told job c.args.stripe c.args.column v) (omega arith) c.in-None.ensures)
