use Rattle.std.proofs.Common.{◌≡◌, length, take, get_or, refl, sym, ap, subst, ◌∙◌, arith}
use Rattle.std.proofs.lemmas.List.{take_more}
use Rattle.std.proofs.Math.Seq.{take-length}
use Rattle.pot_shelves.specs.Shelves.{numbers_of}
use Rattle.std.specs.Prelude.{Contains}
use Rattle.pot_bytes.proofs.Elements.{none_contained}
use Rattle.pot_outside.specs.Archives.{IsMeant}
use Rattle.pot_outside.specs.Counts.{Rose}
use Rattle.pot_doubles.proofs.CallLemmas.{rose_later}
use Rattle.pot_shared.specs.Hands.{times, AreMeant}
use Rattle.pot_shared.proofs.LostLemmas.{all_lost_none}
use Rattle.pot_commands.specs.Holding.{AreOut}
use Rattle.pot_commands.proofs.ArrivingLemmas.{same_at}
use Rattle.pot_session.proofs.Counts.{rose_before, err_again}
use Rattle.pot_session.proofs.GivingLemmas.{is_unlent, is_unopened}
use Rattle.pot_session.proofs.OutLemmas.{none_out, is_home, out_more, out_same, apart_before, apart_from, apart_next, none_before, times-next, numbers-snoc, numbers-length}
use Rattle.pot_session.proofs.MeantLemmas.{meant_more}
use Rattle.pot_session.proofs.session.archives.take_all.Goals as goal

pub take-requires : goal.take-requires
take-requires g c =
    is_home (g.R.Room.meaning c.loop-number.room) (take c.loop-number.number-index c.args.numbers.now) (get_or c.args.numbers.now c.loop-number.number-index 0) c.loop-number.invariant.out
    (apart_before c.args.numbers.now c.loop-number.number-index c.requires.apart c.loop-number-test.true)

pub push_reserved-requires : goal.push_reserved-requires
push_reserved-requires g c =
    omega (arith, c.loop-number.hand.ok.0, numbers-length c.loop-number.hand.items c.args.numbers.now c.loop-number.number-index c.loop-number.invariant.taken (omega (arith, c.loop-number-test.true)), c.loop-number-test.true, c.requires.space, c.loop-number.invariant.space)

pub give_all-given-requires-after_bounds : goal.give_all-given-requires-after_bounds
give_all-given-requires-after_bounds g c bounds within =
    subst (λ ns. AreOut (g.R.Room.meaning c.take.new.self) ns) (sym c.loop-number.invariant.taken)
    (out_same (g.R.Room.meaning c.loop-number.room) (g.R.Room.meaning c.take.new.self) (take c.loop-number.number-index c.args.numbers.now) (get_or c.args.numbers.now c.loop-number.number-index 0) c.loop-number.invariant.out
    (is_home (g.R.Room.meaning c.loop-number.room) (take c.loop-number.number-index c.args.numbers.now) (get_or c.args.numbers.now c.loop-number.number-index 0) c.loop-number.invariant.out
    (apart_before c.args.numbers.now c.loop-number.number-index c.requires.apart c.loop-number-test.true))
    c.in-Err.ensures.refused (λ n ne. (c.take.ensures.others n ne).1))

pub loop-number-init : goal.loop-number-init
loop-number-init g c = record {
  taken = ap numbers_of c.requires.empty;
  out = none_out (g.R.Room.meaning c.args.room.now) c.requires.home;
  meant = λ told s has. absurd (none_contained s (subst (λ ss. Contains ss s) c.requires.empty has));
  untouched = λ n e. refl;
  space = refl;
  later = omega arith;
  own = refl;
}

pub loop-number-preserved : goal.loop-number-preserved
loop-number-preserved g c =
    let more = take_more c.args.numbers.now c.loop-number.number-index 0 c.loop-number-test.true in
    record {
      taken = ap numbers_of c.push_reserved.ensures.items ∙ (numbers-snoc c.loop-number.hand.items _ (take c.loop-number.number-index c.args.numbers.now) c.loop-number.invariant.taken ∙ sym more);
      out = subst (λ ns. AreOut (g.R.Room.meaning c.take.new.self) ns) (sym more)
          (out_more (g.R.Room.meaning c.loop-number.room) (g.R.Room.meaning c.take.new.self) (take c.loop-number.number-index c.args.numbers.now) (get_or c.args.numbers.now c.loop-number.number-index 0) c.loop-number.invariant.out
          (is_home (g.R.Room.meaning c.loop-number.room) (take c.loop-number.number-index c.args.numbers.now) (get_or c.args.numbers.now c.loop-number.number-index 0) c.loop-number.invariant.out
          (apart_before c.args.numbers.now c.loop-number.number-index c.requires.apart c.loop-number-test.true))
          c.in-Ok.ensures.taken (λ n ne. (c.take.ensures.others n ne).1));
      meant = λ told. subst (λ ss. AreMeant g.R.A.Archive.account.meaning (g.R.Room.meaning c.args.room.now).means ss) (sym c.push_reserved.ensures.items)
          (meant_more g.R.A.Archive.account.meaning (g.R.Room.meaning c.args.room.now).means c.loop-number.hand.items _ (c.loop-number.invariant.meant told)
          (subst (λ m. IsMeant m (g.R.A.Archive.account.meaning c.in-Ok.archive))
          (c.loop-number.invariant.untouched (get_or c.args.numbers.now c.loop-number.number-index 0) (apart_before c.args.numbers.now c.loop-number.number-index c.requires.apart c.loop-number-test.true)) (c.in-Ok.ensures.told told)));
      untouched = λ n none.
          (let parts = times-next n c.args.numbers.now c.loop-number.number-index c.loop-number-test.true in
          let before : times n (take c.loop-number.number-index c.args.numbers.now) ≡ 0 = omega (arith, parts, none) in
          (c.take.ensures.others n (apart_next c.args.numbers.now c.loop-number.number-index n c.loop-number-test.true none)).0 ∙ c.loop-number.invariant.untouched n before);
      space = c.push_reserved.ensures.capacity ∙ c.loop-number.invariant.space;
      later = omega (arith, c.loop-number.invariant.later, c.take.ensures.cause.later);
      own = c.in-Ok.ensures.sound ∙ c.loop-number.invariant.own;
    }

pub returns-in-Err : goal.returns-in-Err
returns-in-Err g c = record {
  taken = tt;
  out = tt;
  home = c.give_all-given.ensures.home;
  empty = c.give_all-given.ensures.empty;
  space = c.give_all-given.ensures.space ∙ c.loop-number.invariant.space;
  untouched = λ n none.
      c.give_all-given.ensures.untouched n (ap (times n) c.loop-number.invariant.taken ∙ none_before n c.args.numbers.now c.loop-number.number-index none)
      ∙ ((c.take.ensures.others n (apart_from c.args.numbers.now c.loop-number.number-index n c.loop-number-test.true none)).0
      ∙ c.loop-number.invariant.untouched n (none_before n c.args.numbers.now c.loop-number.number-index none));
  meant = λ told. tt;
  cause = record {
    later = omega (arith, c.loop-number.invariant.later, c.take.ensures.cause.later, c.give_all-given.ensures.cause.later);
    rose = λ e. rose_before _ _ _ c.give_all-given.ensures.cause.later (rose_later _ _ _ c.loop-number.invariant.later (c.in-Err.ensures.cause.rose (err_again _ _ e)));
  };
  own = record {
    later = (let a = c.loop-number.invariant.own in let b = c.take.ensures.own.later in let d = c.give_all-given.ensures.back.failed_at.later in omega (arith, a, b, d));
    rose = λ e. rose_before _ _ _ c.give_all-given.ensures.back.failed_at.later
        (subst (λ k. Rose k (g.R.Room.meaning c.take.new.self).failures) c.loop-number.invariant.own (c.in-Err.ensures.own.rose (err_again _ _ e)));
  };
  sound = tt;
  unlent = λ e. is_unlent g.R.A.Archive.account c.loop-number.hand.items (g.R.Room.meaning c.args.room.now) (g.R.Room.meaning c.take.new.self) (g.R.Room.meaning c.give_all-given.new.room) c.give_all-given.result
      (subst (λ k. Rose k (g.R.Room.meaning c.take.new.self).failures) c.loop-number.invariant.own (c.in-Err.ensures.own.rose (err_again _ _ e)))
      c.give_all-given.ensures.back c.loop-number.invariant.meant
      (λ n none. c.give_all-given.ensures.untouched n none
      ∙ (same_at (g.R.Room.meaning c.loop-number.room).means (g.R.Room.meaning c.take.new.self).means (get_or c.args.numbers.now c.loop-number.number-index 0) c.in-Err.ensures.unchanged (λ m ne. (c.take.ensures.others m ne).0) n
      ∙ c.loop-number.invariant.untouched n (sym (ap (times n) c.loop-number.invariant.taken) ∙ none)));
  unopened = λ e. is_unopened g.R.A.Archive.account c.loop-number.hand.items (g.R.Room.meaning c.args.room.now) (g.R.Room.meaning c.take.new.self) (g.R.Room.meaning c.give_all-given.new.room) c.give_all-given.result
      (c.in-Err.ensures.starved (err_again _ _ e) ∙ c.loop-number.invariant.own)
      c.give_all-given.ensures.back (λ told. all_lost_none g.R.A.Archive.account.meaning (g.R.Room.meaning c.args.room.now).means c.loop-number.hand.items (c.loop-number.invariant.meant told))
      (λ n none. c.give_all-given.ensures.untouched n none
      ∙ (same_at (g.R.Room.meaning c.loop-number.room).means (g.R.Room.meaning c.take.new.self).means (get_or c.args.numbers.now c.loop-number.number-index 0) c.in-Err.ensures.unchanged (λ m ne. (c.take.ensures.others m ne).0) n
      ∙ c.loop-number.invariant.untouched n (sym (ap (times n) c.loop-number.invariant.taken) ∙ none)));
}

pub returns : goal.returns
returns g c =
    let last : c.loop-number.number-index ≡ length c.args.numbers.now = omega (arith, c.loop-number-test.false, c.loop-number.auto.number-index-end) in
    let all : take c.loop-number.number-index c.args.numbers.now ≡ c.args.numbers.now = ap (λ n. take n c.args.numbers.now) last ∙ take-length c.args.numbers.now in
    record {
      taken = c.loop-number.invariant.taken ∙ all;
      out = subst (λ ns. AreOut (g.R.Room.meaning c.loop-number.room) ns) all c.loop-number.invariant.out;
      home = tt;
      empty = tt;
      space = c.loop-number.invariant.space;
      untouched = λ n none. c.loop-number.invariant.untouched n (none_before n c.args.numbers.now c.loop-number.number-index none);
      meant = c.loop-number.invariant.meant;
      cause = record { later = c.loop-number.invariant.later; rose = λ e. absurd (cc) };
      own = record { later = (let a = c.loop-number.invariant.own in omega (arith, a)); rose = λ e. absurd (cc) };
      sound = c.loop-number.invariant.own;
      unlent = λ e. absurd (cc);
      unopened = λ e. absurd (cc);
    }
