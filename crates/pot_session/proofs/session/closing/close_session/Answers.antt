use Rattle.std.proofs.Common.{ap, refl, sym, subst, ◌∙◌}
use Rattle.std.specs.Prelude.{slice_get}
use Rattle.pot_outside.specs.Accounts.{whole_transition}
use Rattle.pot_shared.specs.Works.{known}
use Rattle.pot_session.specs.Serving.{IsCloseStop}
use Rattle.pot_session.proofs.OutLemmas.{none_out_of, out_apart}
use Rattle.pot_session.proofs.Countable.{countable}
use Rattle.pot_session.proofs.GivingLemmas.{missed}
use Rattle.pot_session.proofs.CloseImages.{closes, close_stop, room_failure, desk_failure}
use Rattle.pot_session.proofs.session.closing.close_session.Goals as goal

pub end-tables-requires-clause-served : goal.end-tables-requires-clause-served
end-tables-requires-clause-served g c = (
  c.requires.old,
  c.requires.numbers,
  c.requires.served,
  c.requires.come,
  out_apart (g.R.Room.meaning c.args.room.now) c.requires.numbers c.requires.out,
  c.requires.low,
)

pub end-tables-requires-clause-vault : goal.end-tables-requires-clause-vault
end-tables-requires-clause-vault g c = c.requires.vault

pub end-tables-requires-clause-bare : goal.end-tables-requires-clause-bare
end-tables-requires-clause-bare g c = c.requires.bare

pub end-tables-requires-clause-space : goal.end-tables-requires-clause-space
end-tables-requires-clause-space g c = c.requires.space

pub give_hand-given-requires-after_bounds : goal.give_hand-given-requires-after_bounds
give_hand-given-requires-after_bounds g c = λ bounds within n.
    c.end-tables.ensures.hand c.requires.old c.requires.numbers c.requires.served c.requires.come n ∙ c.requires.out n

pub keep_image-kept-requires : goal.keep_image-kept-requires
keep_image-kept-requires g c =
    countable _ _ refl c.end-tables.ensures.countable.0 c.end-tables.ensures.countable.1 c.end-tables.ensures.countable.2

pub returns-clause-untouched : goal.returns-clause-untouched
returns-clause-untouched g c n home =
    c.give_hand-given.ensures.untouched n
    (c.end-tables.ensures.hand c.requires.old c.requires.numbers c.requires.served c.requires.come n ∙ none_out_of (g.R.Room.meaning c.args.room.now) c.requires.numbers n c.requires.out home)

pub returns-clause-closes : goal.returns-clause-closes
returns-clause-closes g c s is =
    closes g.R.A.Archive.account _ s.room (g.R.Room.meaning c.args.room.now) (g.R.Room.meaning c.give_hand-given.new.room) _ s.old (known c.args.opened.passes.groups c.args.opened.passes.index) _
    (whole_transition g.D.Desk.account c.args.desk.now c.keep_image-kept.new.desk) s.first _
    c.give_hand-given.result c.keep_image-kept.result _ c.keep_image-kept.ensures.told c.keep_image-kept.ensures.came c.keep_image-kept.ensures.had c.keep_image-kept.ensures.which c.keep_image-kept.ensures.cause c.give_hand-given.ensures.back is.served.served.opened is.begun c.requires.rack
    (c.end-tables.ensures.groups s.old s.room.means is.served) (c.end-tables.ensures.logs s.old is.served.served)
    (λ told g t q. c.end-tables.ensures.opened s.old s.room.means is.served told g t (ap (λ ts. slice_get ts g) (sym is.begun.are_tables) ∙ q))
    c.first_failure.ensures c.keep_image-kept.ensures.whole

pub returns-clause-which : goal.returns-clause-which
returns-clause-which g c = subst IsCloseStop (sym c.first_failure.ensures) (close_stop c.give_hand-given.result c.keep_image-kept.result c.keep_image-kept.ensures.which)

pub returns-clause-room : goal.returns-clause-room
returns-clause-room g c = record {
  later = c.give_hand-given.ensures.cause.later;
  rose = λ e. c.give_hand-given.ensures.cause.rose (room_failure c.give_hand-given.result c.keep_image-kept.result c.keep_image-kept.ensures.which (sym c.first_failure.ensures ∙ e));
}

pub returns-clause-desk : goal.returns-clause-desk
returns-clause-desk g c = record {
  later = c.keep_image-kept.ensures.cause.later;
  rose = c.keep_image-kept.ensures.cause.rose;
}

pub returns-clause-first : goal.returns-clause-first
returns-clause-first g c e = desk_failure c.give_hand-given.result c.keep_image-kept.result (sym c.first_failure.ensures ∙ e)

pub returns-clause-own : goal.returns-clause-own
returns-clause-own g c = record {
  later = c.give_hand-given.ensures.back.failed_at.later;
  rose = λ e. missed _ c.give_hand-given.ensures.back (room_failure c.give_hand-given.result c.keep_image-kept.result c.keep_image-kept.ensures.which (sym c.first_failure.ensures ∙ e));
}
