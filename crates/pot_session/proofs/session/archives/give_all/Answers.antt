use Rattle.std.proofs.Common.{◌≡◌, ◌<◌, true, false, length, refl, sym, ap, subst, ◌∙◌, arith}
use Rattle.std.specs.Prelude.{[]}
use Rattle.std.proofs.lemmas.List.{nil_from_length}
use Rattle.pot_shelves.specs.Shelves.{numbers_of}
use Rattle.pot_shared.specs.Hands.{times}
use Rattle.pot_commands.specs.Holding.{AreOut}
use Rattle.pot_session.proofs.Counts.{caused_both}
use Rattle.pot_session.proofs.OutLemmas.{times-removed, is_out, out_less, is_another, all_home}
use Rattle.pot_shared.proofs.Lists.{is_zero}
use Rattle.pot_session.proofs.GivingLemmas.{GivenSofar, all_given, none_given, one_given}
use Rattle.pot_session.proofs.session.archives.give_all.Goals as goal

apart : {X : Type 0} → false ≡ true → X
apart e = absurd (cc)

pub give-requires : goal.give-requires
give-requires g c =
    is_out (g.R.Room.meaning c.loop-hand.room) c.loop-hand.hand.items c.least_place-place.result c.remove-number.result c.loop-hand.invariant.out
    (omega (arith, c.least_place-place.ensures, ap length c.deref.ensures.value)) c.remove-number.ensures.value

pub loop-hand-init : goal.loop-hand-init
loop-hand-init g c = record {
  out = c.requires;
  fewer = λ n. omega arith;
  untouched = λ n e. refl;
  given = none_given g.R.A.Archive.account c.args.hand.now.items (g.R.Room.meaning c.args.room.now);
  space = refl;
  cause = record { later = omega arith; rose = λ e. apart e };
}

pub loop-hand-preserved : goal.loop-hand-preserved
loop-hand-preserved g c =
    let lt : c.least_place-place.result < length c.loop-hand.hand.items = omega (arith, c.least_place-place.ensures, ap length c.deref.ensures.value) in
    record {
      out = subst (λ ss. AreOut (g.R.Room.meaning c.give.new.self) (numbers_of ss)) (sym c.remove-number.ensures.items)
          (out_less (g.R.Room.meaning c.loop-hand.room) (g.R.Room.meaning c.give.new.self) c.loop-hand.hand.items c.least_place-place.result c.remove-number.result c.loop-hand.invariant.out
          lt c.remove-number.ensures.value c.give.ensures.back (λ n ne. (c.give.ensures.others n ne).1));
      fewer = λ n.
          let r = times-removed n c.loop-hand.hand.items c.least_place-place.result c.remove-number.result lt c.remove-number.ensures.value in
          let f = c.loop-hand.invariant.fewer n in
          let e : times n (numbers_of c.remove-number.new.self.items) ≡ _ = ap (λ ss. times n (numbers_of ss)) c.remove-number.ensures.items in
          omega (arith, r, f, e);
      untouched = λ n none.
          let f = c.loop-hand.invariant.fewer n in
          let z : times n (numbers_of c.loop-hand.hand.items) ≡ 0 = omega (arith, f, none) in
          (c.give.ensures.others n (is_another n c.loop-hand.hand.items c.least_place-place.result c.remove-number.result lt c.remove-number.ensures.value z)).0
          ∙ c.loop-hand.invariant.untouched n none;
      given = subst (λ ss. GivenSofar g.R.A.Archive.account c.args.hand.now.items ss (g.R.Room.meaning c.args.room.now) (g.R.Room.meaning c.give.new.self) c.either-answer.result)
          (sym c.remove-number.ensures.items)
          (one_given g.R.A.Archive.account c.args.hand.now.items c.loop-hand.hand.items (g.R.Room.meaning c.args.room.now) (g.R.Room.meaning c.loop-hand.room) (g.R.Room.meaning c.give.new.self) c.least_place-place.result c.remove-number.result c.loop-hand.answer c.either-answer.result
          c.loop-hand.invariant.given lt c.remove-number.ensures.value
          (is_out (g.R.Room.meaning c.loop-hand.room) c.loop-hand.hand.items c.least_place-place.result c.remove-number.result c.loop-hand.invariant.out lt c.remove-number.ensures.value) c.give.ensures.back
          (λ n ne. ((c.give.ensures.others n ne).0, (c.give.ensures.others n ne).1))
          c.give.result c.give.ensures.told c.give.ensures.own c.give.ensures.sound c.either-answer.ensures.some c.either-answer.ensures.first c.either-answer.ensures.second);
      space = c.remove-number.ensures.capacity ∙ c.loop-hand.invariant.space;
      cause = caused_both _ _ _ c.loop-hand.invariant.cause c.give.ensures.cause c.either-answer.ensures.some;
    }

pub returns : goal.returns
returns g c =
    let z : length c.loop-hand.hand.items ≡ 0 = omega (arith, is_zero _ (sym c.loop-hand-test.ensures), c.loop-hand.hand.ok.0) in
    let none : c.loop-hand.hand.items ≡ [] = nil_from_length c.loop-hand.hand.items z in
    record {
      home = all_home (g.R.Room.meaning c.loop-hand.room) (subst (λ ss. AreOut (g.R.Room.meaning c.loop-hand.room) (numbers_of ss)) none c.loop-hand.invariant.out);
      empty = none;
      space = c.loop-hand.invariant.space;
      untouched = c.loop-hand.invariant.untouched;
      back = all_given g.R.A.Archive.account c.args.hand.now.items c.loop-hand.hand.items (g.R.Room.meaning c.args.room.now) (g.R.Room.meaning c.loop-hand.room) c.loop-hand.answer c.loop-hand.invariant.given none;
      cause = c.loop-hand.invariant.cause;
    }
