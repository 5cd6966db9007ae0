use Rattle.std.proofs.Common.{◌<◌, IsTrue, Err, subst, sym}
use Rattle.pot_group.specs.declared.relaying.BeginFault.{BeginFault}
use Rattle.pot_group.specs.declared.relaying.Mend.{Mend}
use Rattle.pot_group.specs.Group.{GroupView, view_of}
use Rattle.pot_group.specs.Calls.{BeginCall, Made}
use Rattle.pot_group.proofs.MendSteps.{Mends, began_mends, crowded_mends, full_mends, full_relays, standing_mends, stuck_mends, whole_mends}
use Rattle.pot_group.proofs.group.Group.mend.Goals as goal

pub returns-in-Ok : goal.returns-in-Ok
returns-in-Ok g c = record {
  mends = began_mends (IsTrue g.A.Archive.account.tells) c.args.job c.args.place c.args.blind.now (view_of g.A.Archive.account.meaning c.args.self.now) (view_of g.A.Archive.account.meaning c.begin.new.self) c.in-Ok.ensures.begins;
}

pub returns-in-Err-LogFull : goal.returns-in-Err-LogFull
returns-in-Err-LogFull g c =
    let told = IsTrue g.A.Archive.account.tells in
    let old = view_of g.A.Archive.account.meaning c.args.self.now in
    let mid = view_of g.A.Archive.account.meaning c.begin.new.self in
    let begun = subst (λ (f : BeginFault). Made (BeginCall told c.args.job c.args.place c.args.blind.now (Err f)) old mid) c.in-Err-LogFull.field-0-is c.in-Err-LogFull.ensures.begins in
    record { mends = full_mends told c.args.job c.args.place c.args.blind.now old mid begun }

pub returns-in-Err-Whole : goal.returns-in-Err-Whole
returns-in-Err-Whole g c =
    let told = IsTrue g.A.Archive.account.tells in
    let old = view_of g.A.Archive.account.meaning c.args.self.now in
    let mid = view_of g.A.Archive.account.meaning c.begin.new.self in
    let begun = subst (λ (f : BeginFault). Made (BeginCall told c.args.job c.args.place c.args.blind.now (Err f)) old mid) c.in-Err-Whole.field-0-is c.in-Err-Whole.ensures.begins in
    record { mends = whole_mends told c.args.job c.args.place c.args.blind.now old mid begun }

pub returns-in-Err-TwoGone : goal.returns-in-Err-TwoGone
returns-in-Err-TwoGone g c =
    let told = IsTrue g.A.Archive.account.tells in
    let old = view_of g.A.Archive.account.meaning c.args.self.now in
    let mid = view_of g.A.Archive.account.meaning c.begin.new.self in
    let begun = subst (λ (f : BeginFault). Made (BeginCall told c.args.job c.args.place c.args.blind.now (Err f)) old mid) c.in-Err-TwoGone.field-0-is c.in-Err-TwoGone.ensures.begins in
    record { mends = stuck_mends told c.args.job c.args.place c.args.blind.now old mid c.in-Err-TwoGone.first c.in-Err-TwoGone.second begun }

pub advance-step-requires-clause-stripe : goal.advance-step-requires-clause-stripe
advance-step-requires-clause-stripe g c =
    let told = IsTrue g.A.Archive.account.tells in
    let old = view_of g.A.Archive.account.meaning c.args.self.now in
    let mid = view_of g.A.Archive.account.meaning c.begin.new.self in
    let begun = subst (λ (f : BeginFault). Made (BeginCall told c.args.job c.args.place c.args.blind.now (Err f)) old mid) c.in-Err-Standing.field-0-is c.in-Err-Standing.ensures.begins in
    subst (λ (w : GroupView). c.args.place.stripe < w.table.stripes) (sym begun.2.tells.1) c.requires.stripe

pub returns-in-Err-Standing : goal.returns-in-Err-Standing
returns-in-Err-Standing g c =
    let told = IsTrue g.A.Archive.account.tells in
    let old = view_of g.A.Archive.account.meaning c.args.self.now in
    let mid = view_of g.A.Archive.account.meaning c.begin.new.self in
    let new = view_of g.A.Archive.account.meaning c.advance-step.new.self in
    let begun = subst (λ (f : BeginFault). Made (BeginCall told c.args.job c.args.place c.args.blind.now (Err f)) old mid) c.in-Err-Standing.field-0-is c.in-Err-Standing.ensures.begins in
    record {
      mends = subst (λ (a : Mend). Mends told c.args.job c.args.place c.args.blind.now a old new) (sym c.answered.ensures)
          (standing_mends told c.args.job c.args.place c.args.blind.now old mid new c.in-Err-Standing.column c.advance-step.result begun c.advance-step.ensures.advances);
    }

pub advance-step-requires-in-Err-Crowded-clause-stripe : goal.advance-step-requires-in-Err-Crowded-clause-stripe
advance-step-requires-in-Err-Crowded-clause-stripe g c =
    let told = IsTrue g.A.Archive.account.tells in
    let old = view_of g.A.Archive.account.meaning c.args.self.now in
    let mid = view_of g.A.Archive.account.meaning c.begin.new.self in
    let begun = subst (λ (f : BeginFault). Made (BeginCall told c.args.job c.args.place c.args.blind.now (Err f)) old mid) c.in-Err-Crowded.field-0-is c.in-Err-Crowded.ensures.begins in
    c.first_stripe-stripe.ensures.within (full_relays told c.args.job c.args.place c.args.blind.now old mid mid c.logged-settled.ensures.settled c.requires.stripe c.requires.column begun)

pub returns-in-Err-Crowded : goal.returns-in-Err-Crowded
returns-in-Err-Crowded g c =
    let told = IsTrue g.A.Archive.account.tells in
    let old = view_of g.A.Archive.account.meaning c.args.self.now in
    let mid = view_of g.A.Archive.account.meaning c.begin.new.self in
    let new = view_of g.A.Archive.account.meaning c.advance-step-in-Err-Crowded.new.self in
    let begun = subst (λ (f : BeginFault). Made (BeginCall told c.args.job c.args.place c.args.blind.now (Err f)) old mid) c.in-Err-Crowded.field-0-is c.in-Err-Crowded.ensures.begins in
    record {
      mends = subst (λ (a : Mend). Mends told c.args.job c.args.place c.args.blind.now a old new) (sym c.answered-in-Err-Crowded.ensures)
          (crowded_mends told c.args.job c.args.place c.args.blind.now old mid new c.logged-settled.ensures.settled c.requires.stripe c.requires.column begun c.first_stripe-stripe.result
          c.advance-step-in-Err-Crowded.result c.first_stripe-stripe.ensures.value c.advance-step-in-Err-Crowded.ensures.advances);
    }
