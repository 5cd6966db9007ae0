use Rattle.std.proofs.Common.{◌≡◌, ◌<◌, IsTrue, length, ap, subst, sym, ◌∙◌, arith}
use Rattle.pot_machine.specs.declared.entry.Entry.TheVariants as entry
use Rattle.pot_group.specs.declared.answers.Looked.TheVariants as looked
use Rattle.pot_group.specs.Group.{GroupParts, view_of, noted}
use Rattle.pot_group.specs.Calls.{LookCall, Made}
use Rattle.pot_group.proofs.LookSteps.{seen_made, gone_made, faulted_made, full_made}
use Rattle.pot_group.proofs.group.Group.look.Goals as goal

pub returns-then-len-ge-LOG_BOUND : goal.returns-then-len-ge-LOG_BOUND
returns-then-len-ge-LOG_BOUND g c =
    record {
      looks = full_made (IsTrue g.A.Archive.account.tells) (view_of g.A.Archive.account.meaning c.args.self.now) c.args.job c.args.place c.args.into.now
          (subst (λ (v : GroupParts _). length v.log ≡ 262144) c.self.view_is (omega (arith, c.self.invariant.0.bound)));
    }

pub returns-in-Sound : goal.returns-in-Sound
returns-in-Sound g c =
    let told = IsTrue g.A.Archive.account.tells in
    record {
      looks = subst (λ (w : GroupParts _). Made (LookCall told c.args.job c.args.place c.look_slot.new.into looked.Seen) (view_of g.A.Archive.account.meaning c.args.self.now) (view_of g.A.Archive.account.meaning w))
          (sym (c.note.ensures ∙ ap (λ (w : GroupParts _). noted w (entry.Seen c.args.job c.args.place.stripe c.args.place.column)) c.look_slot.ensures.same))
          (seen_made told (view_of g.A.Archive.account.meaning c.args.self.now) (view_of g.A.Archive.account.meaning c.look_slot.new.self) c.args.job c.args.place c.look_slot.new.into c.requires.stripe c.requires.column
          (subst (λ (w : GroupParts _). length w.log < 262144) c.self.view_is (omega (arith, c.len.ensures, c.if-len-ge-LOG_BOUND.false))) c.in-Sound.ensures.looks);
    }

pub returns-in-Missing : goal.returns-in-Missing
returns-in-Missing g c =
    let told = IsTrue g.A.Archive.account.tells in
    record {
      looks = subst (λ (w : GroupParts _). Made (LookCall told c.args.job c.args.place c.look_slot.new.into looked.Gone) (view_of g.A.Archive.account.meaning c.args.self.now) (view_of g.A.Archive.account.meaning w))
          (sym (c.note-in-Missing.ensures ∙ ap (λ (w : GroupParts _). noted w (entry.Gone c.args.job c.args.place.stripe c.args.place.column)) c.look_slot.ensures.same))
          (gone_made told (view_of g.A.Archive.account.meaning c.args.self.now) (view_of g.A.Archive.account.meaning c.look_slot.new.self) c.args.job c.args.place c.look_slot.new.into c.requires.stripe c.requires.column
          (subst (λ (w : GroupParts _). length w.log < 262144) c.self.view_is (omega (arith, c.len.ensures, c.if-len-ge-LOG_BOUND.false))) c.in-Missing.ensures.looks);
    }

pub returns-in-NotRead : goal.returns-in-NotRead
returns-in-NotRead g c =
    let told = IsTrue g.A.Archive.account.tells in
    record {
      looks = subst (λ (w : GroupParts _). Made (LookCall told c.args.job c.args.place c.look_slot.new.into (looked.Faulted c.args.place.column)) (view_of g.A.Archive.account.meaning c.args.self.now) (view_of g.A.Archive.account.meaning w))
          (sym (c.note-in-NotRead.ensures ∙ ap (λ (w : GroupParts _). noted w (entry.Fault c.args.job c.args.place.stripe c.args.place.column)) c.look_slot.ensures.same))
          (faulted_made told (view_of g.A.Archive.account.meaning c.args.self.now) (view_of g.A.Archive.account.meaning c.look_slot.new.self) c.args.job c.args.place c.look_slot.new.into c.requires.stripe c.requires.column
          (subst (λ (w : GroupParts _). length w.log < 262144) c.self.view_is (omega (arith, c.len.ensures, c.if-len-ge-LOG_BOUND.false))) c.in-NotRead.ensures.looks);
    }
