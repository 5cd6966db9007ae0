use Rattle.std.proofs.Common.{length, refl, sym, ap, subst, ◌∙◌, arith}
use Rattle.pot_image.specs.Images.{contents}
use Rattle.std.specs.Prelude.{flat_map}
use Rattle.pot_machine.specs.Table.{archives_in}
use Rattle.pot_shared.specs.Hands.{AreApart}
use Rattle.pot_commands.specs.Holding.{AreOut, Untouched}
use Rattle.pot_shared.specs.Groups.{AreLow}
use Rattle.pot_session.proofs.ArchiveLemmas.{image_apart}
use Rattle.pot_session.proofs.GivingLemmas.{is_unopened}
use Rattle.pot_session.proofs.LendLemmas.{image_low}
use Rattle.pot_session.proofs.ServeLemmas.{first_tables}
use Rattle.pot_session.proofs.session.serving.open_session.Goals as goal

pub take_archives-requires-clause-apart : goal.take_archives-requires-clause-apart
take_archives-requires-clause-apart g c = λ bounds within. subst (λ ts. AreApart (flat_map archives_in ts)) (sym c.deref.ensures.value) (image_apart (contents c.args.image) c.requires.together)

pub take_archives-requires-clause-low : goal.take_archives-requires-clause-low
take_archives-requires-clause-low g c = λ bounds within. subst (λ ts. AreLow (flat_map archives_in ts)) (sym c.deref.ensures.value) (image_low (contents c.args.image) c.requires.together)

pub open-requires-clause-tables : goal.open-requires-clause-tables
open-requires-clause-tables g c = λ bounds within. first_tables c.args.image.rack c.args.image.tables.items c.requires.together.tables.fits

pub open-requires-clause-space : goal.open-requires-clause-space
open-requires-clause-space g c = λ bounds within.
    let e = ap length c.deref.ensures.value in let space = c.in-Ok.ensures.space in
    record {
      tables = (let s = space.tables in omega (arith, e, s));
      logs = (let s = space.logs in omega (arith, e, s));
      hand = (let s = space.hand in let n = c.in-Ok.ensures.few in omega (arith, s, n));
    }

pub returns-in-Ok-open-clause-opened : goal.returns-in-Ok-open-clause-opened
returns-in-Ok-open-clause-opened g c = record {
  session = refl;
  rack = refl;
  vault = c.in-Ok-open.ensures.opened;
  places = c.in-Ok-open.ensures.places;
  bare = c.in-Ok-open.ensures.bare;
  space =
      let e = ap length c.deref.ensures.value in let space = c.in-Ok.ensures.space in let kept = c.in-Ok-open.ensures.space in
      record {
        tables = (let s = space.tables in let k = kept.tables in omega (arith, e, s, k));
        logs = (let s = space.logs in let k = kept.logs in omega (arith, e, s, k));
        hand = (let s = space.hand in let k = kept.hand in omega (arith, s, k));
      };
}

pub returns-in-Ok-open-clause-taken : goal.returns-in-Ok-open-clause-taken
returns-in-Ok-open-clause-taken g c = λ told. c.in-Ok-open.ensures.taken (g.R.Room.meaning c.args.room.now).means told (c.in-Ok.ensures.meant told)

pub returns-in-Ok-open-clause-out : goal.returns-in-Ok-open-clause-out
returns-in-Ok-open-clause-out g c = subst (λ ts. AreOut (g.R.Room.meaning c.take_archives.new.room) (flat_map archives_in ts)) c.deref.ensures.value c.in-Ok.ensures.out

pub returns-in-Ok-open-clause-untouched : goal.returns-in-Ok-open-clause-untouched
returns-in-Ok-open-clause-untouched g c =
    subst (λ ts. Untouched (flat_map archives_in ts) (g.R.Room.meaning c.args.room.now) (g.R.Room.meaning c.take_archives.new.room)) c.deref.ensures.value c.take_archives.ensures.untouched

pub give_back-given-requires-after_bounds : goal.give_back-given-requires-after_bounds
give_back-given-requires-after_bounds g c = λ bounds within n.
    c.in-Err-open.ensures.refused n ∙ subst (λ ts. AreOut (g.R.Room.meaning c.take_archives.new.room) (flat_map archives_in ts)) c.deref.ensures.value c.in-Ok.ensures.out n

pub returns-clause-unopened : goal.returns-clause-unopened
returns-clause-unopened g c e =
    is_unopened g.R.A.Archive.account c.open.new.remains.hand.items (g.R.Room.meaning c.args.room.now) (g.R.Room.meaning c.take_archives.new.room) (g.R.Room.meaning c.give_back-given.new.room) c.give_back-given.result
    c.in-Ok.ensures.sound c.give_back-given.ensures.back
    (λ told. c.in-Err-open.ensures.lost (g.R.Room.meaning c.args.room.now).means told (image_apart (contents c.args.image) c.requires.together) (c.in-Ok.ensures.meant told))
    (λ n none. c.give_back-given.ensures.untouched n none
    ∙ subst (λ ts. Untouched (flat_map archives_in ts) (g.R.Room.meaning c.args.room.now) (g.R.Room.meaning c.take_archives.new.room)) c.deref.ensures.value c.take_archives.ensures.untouched n (sym (c.in-Err-open.ensures.refused n) ∙ none))
