use Rattle.std.proofs.Common.{◌≡◌, inl, inr, false, subst, ◌∙◌, arith}
use Rattle.std.proofs.lemmas.Bool.{cases_lt}
use Rattle.pot_outside.specs.Rooms.{room_transition}
use Rattle.pot_session.proofs.RecoveringLemmas.{all_read, held_more, some_failed, were_read}
use Rattle.pot_session.proofs.Counts.{err_again}
use Rattle.pot_session.proofs.recovery.recovering.read_archives.Goals as goal

pub loop-number-preserved : goal.loop-number-preserved
loop-number-preserved g c =
    let number = c.loop-number.number in
    let home = c.loop-number.invariant.home in
    let others = c.in-Ok.ensures.others in
    record {
      held = λ told. held_more number c.args.task.now.stripes _ _ _ _ _ (c.loop-number.invariant.held told) c.loop-number.invariant.others (c.in-Ok.ensures.gathers told) (λ n ne. (others n ne).0);
      few = (let a = c.loop-number.invariant.few in let b = c.in-Ok.ensures.length in let s = c.requires.task.stripes in omega (arith, a, b, s));
      home = λ n. elim (cases_lt n number) [
        | inl less ↦ (others n (λ e. omega (arith, less, e))).1 ∙ home n
        | inr le ↦ elim (cases_lt number n) [
          | inl more ↦ (others n (λ e. omega (arith, more, e))).1 ∙ home n
          | inr ge ↦ subst (λ k. (g.R.Room.meaning c.read_archive.new.room).out k ≡ false) (let e : number ≡ n = omega (arith, le, ge) in e) c.in-Ok.ensures.home
        ]
      ];
      others = λ n le. (others n (λ e. omega (arith, le, e))).0 ∙ c.loop-number.invariant.others n (omega (arith, le));
      later = (let a = c.loop-number.invariant.later in let b = c.in-Ok.ensures.cause.later in omega (arith, a, b));
      own = (let a = c.loop-number.invariant.own in let b = c.read_archive.ensures.own.later in omega (arith, a, b));
    }

pub returns-in-Err-clause-own : goal.returns-in-Err-clause-own
returns-in-Err-clause-own g c = record {
  later = (let a = c.loop-number.invariant.own in let b = c.read_archive.ensures.own.later in omega (arith, a, b));
  why = λ e. some_failed (room_transition g.R.A.Archive.account g.R.Room.meaning c.args.room.now c.read_archive.new.room) (g.R.Room.meaning c.loop-number.room) c.args.task.now.archives c.loop-number.number
      c.loop-number-test.true c.loop-number.invariant.own (c.loop-number.invariant.others c.loop-number.number (omega arith)) (c.in-Err.ensures.own.why (err_again _ _ e));
}

pub returns-in-Err-clause-read : goal.returns-in-Err-clause-read
returns-in-Err-clause-read g c = λ told.
    were_read c.args.task.now.archives c.loop-number.number (g.R.Room.meaning c.args.room.now) (g.R.Room.meaning c.loop-number.room) (g.R.Room.meaning c.read_archive.new.room) (c.loop-number.invariant.held told).read
    c.loop-number.invariant.others c.loop-number.invariant.own (λ n ne. (c.read_archive.ensures.others n ne).0) (c.read_archive.ensures.read told)

pub returns-clause-read : goal.returns-clause-read
returns-clause-read g c = λ told.
    all_read c.args.task.now.archives c.loop-number.number (g.R.Room.meaning c.args.room.now) (g.R.Room.meaning c.loop-number.room) (omega (arith, c.loop-number-test.false)) (c.loop-number.invariant.held told).read
    c.loop-number.invariant.others
