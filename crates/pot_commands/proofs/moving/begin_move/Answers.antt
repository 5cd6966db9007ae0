use Rattle.std.proofs.Common.{[], ◌∷◌, refl, IsTrue}
use Rattle.pot_commands.proofs.ArrivingLemmas.{back_took, back_used, back_work, came_took, came_used, came_work, check_took, check_used, checked_work, free_home}
use Rattle.pot_commands.proofs.MigrateLemmas.{begin_says, goes_on, may_begin, refused_begins, unbegun_says}
use Rattle.pot_commands.proofs.moving.begin_move.Goals as goal

pub returns-in-Err-clause-worked : goal.returns-in-Err-clause-worked
returns-in-Err-clause-worked g c = checked_work c.args.job c.requires.can.ready c.check_migrate.ensures.ready c.requires.can.index_ready c.check_migrate.ensures.index c.check_migrate.ensures.asked

pub returns-in-Err-clause-says : goal.returns-in-Err-clause-says
returns-in-Err-clause-says g c =
    refused_begins c.args.job c.args.from c.args.to c.requires.can.ready c.check_migrate.ensures.ready c.requires.can.index_ready c.check_migrate.ensures.index c.check_migrate.ensures.asked
    c.in-Err.fault c.use_reply.result c.use_reply.ensures c.in-Err.ensures.says

pub returns-in-Err-clause-used : goal.returns-in-Err-clause-used
returns-in-Err-clause-used g c =
    check_used c.args.job c.requires.can.ready c.check_migrate.ensures.ready c.requires.can.index_ready c.check_migrate.ensures.index c.check_migrate.ensures.asked
    (g.R.Room.meaning c.args.room.now) (g.R.Room.meaning c.args.room.now) (λ n. refl) c.requires.used

pub returns-in-Err-clause-took : goal.returns-in-Err-clause-took
returns-in-Err-clause-took g c =
    check_took c.args.job c.requires.can.ready c.check_migrate.ensures.ready c.requires.can.index_ready c.check_migrate.ensures.index c.check_migrate.ensures.asked
    _ _ (c.args.to ∷ []) _ _ (λ n. refl) (λ n. refl)

pub returns-then-at-clause-worked : goal.returns-then-at-clause-worked
returns-then-at-clause-worked g c = checked_work c.args.job c.requires.can.ready c.check_migrate.ensures.ready c.requires.can.index_ready c.check_migrate.ensures.index c.check_migrate.ensures.asked

pub returns-then-at-clause-says : goal.returns-then-at-clause-says
returns-then-at-clause-says g c =
    goes_on c.args.job c.args.from c.args.to c.requires.can.ready c.check_migrate.ensures.ready c.requires.can.index_ready c.check_migrate.ensures.index c.check_migrate.ensures.asked
    c.in-Ok.at.group c.in-Ok.at.column c.in-Ok.at.resumes c.if-at.true c.in-Ok.ensures.says

pub returns-then-at-clause-used : goal.returns-then-at-clause-used
returns-then-at-clause-used g c =
    check_used c.args.job c.requires.can.ready c.check_migrate.ensures.ready c.requires.can.index_ready c.check_migrate.ensures.index c.check_migrate.ensures.asked
    (g.R.Room.meaning c.args.room.now) (g.R.Room.meaning c.args.room.now) (λ n. refl) c.requires.used

pub returns-then-at-clause-took : goal.returns-then-at-clause-took
returns-then-at-clause-took g c =
    check_took c.args.job c.requires.can.ready c.check_migrate.ensures.ready c.requires.can.index_ready c.check_migrate.ensures.index c.check_migrate.ensures.asked
    _ _ (c.args.to ∷ []) _ _ (λ n. refl) (λ n. refl)

pub take_shelf-requires-clause-home : goal.take_shelf-requires-clause-home
take_shelf-requires-clause-home g c = λ κs bounds.
    free_home c.args.job c.requires.can.ready c.check_migrate.ensures.ready c.requires.can.index_ready c.check_migrate.ensures.index c.check_migrate.ensures.asked
    (g.R.Room.meaning c.args.room.now) c.args.to c.requires.can.count c.requires.used (λ s set. (may_begin _ _ _ _ _ _ _ c.if-at.false (c.in-Ok.ensures.says s set)).2)

pub returns-in-Err-take_shelf-clause-worked : goal.returns-in-Err-take_shelf-clause-worked
returns-in-Err-take_shelf-clause-worked g c = checked_work c.args.job c.requires.can.ready c.check_migrate.ensures.ready c.requires.can.index_ready c.check_migrate.ensures.index c.check_migrate.ensures.asked

pub returns-in-Err-take_shelf-clause-used : goal.returns-in-Err-take_shelf-clause-used
returns-in-Err-take_shelf-clause-used g c =
    check_used c.args.job c.requires.can.ready c.check_migrate.ensures.ready c.requires.can.index_ready c.check_migrate.ensures.index c.check_migrate.ensures.asked
    (g.R.Room.meaning c.args.room.now) (g.R.Room.meaning c.take_shelf.new.room) (λ n. (c.in-Err-take_shelf.ensures.stays n).1) c.requires.used

pub returns-in-Err-take_shelf-clause-took : goal.returns-in-Err-take_shelf-clause-took
returns-in-Err-take_shelf-clause-took g c =
    check_took c.args.job c.requires.can.ready c.check_migrate.ensures.ready c.requires.can.index_ready c.check_migrate.ensures.index c.check_migrate.ensures.asked
    _ _ (c.args.to ∷ []) _ _ (λ n. (c.in-Err-take_shelf.ensures.stays n).1) (λ n. (c.in-Err-take_shelf.ensures.stays n).0)

pub returns-in-Ok-move_begin-clause-worked : goal.returns-in-Ok-move_begin-clause-worked
returns-in-Ok-move_begin-clause-worked g c =
    let call = c.in-Ok-move_begin.ensures.call in
    came_work c.args.job c.requires.can.ready c.check_migrate.ensures.ready c.requires.can.index_ready c.check_migrate.ensures.index c.check_migrate.ensures.asked
    c.move_begin.ensures.index c.move_begin.ensures.ready c.in-Ok.ensures.place.0 call call.turn.call c.in-Ok-take_shelf.ensures.number refl refl

pub returns-in-Ok-move_begin-clause-says : goal.returns-in-Ok-move_begin-clause-says
returns-in-Ok-move_begin-clause-says g c =
    begin_says c.args.job c.args.from c.args.to c.requires.can.ready c.check_migrate.ensures.ready c.requires.can.index_ready c.check_migrate.ensures.index c.check_migrate.ensures.asked
    (IsTrue g.R.A.Archive.account.tells) g.R.A.Archive.account.meaning c.in-Ok.at.group c.in-Ok.at.column c.in-Ok-take_shelf.shelf c.in-Ok-take_shelf.ensures.number c.move_begin.ensures.index c.move_begin.ensures.ready c.in-Ok.ensures.place.0 tt c.in-Ok-move_begin.ensures.call c.in-Ok.at.resumes c.if-at.false c.in-Ok.ensures.says

pub returns-in-Ok-move_begin-clause-used : goal.returns-in-Ok-move_begin-clause-used
returns-in-Ok-move_begin-clause-used g c =
    let call = c.in-Ok-move_begin.ensures.call in
    came_used c.args.job c.requires.can.ready c.check_migrate.ensures.ready c.requires.can.index_ready c.check_migrate.ensures.index c.check_migrate.ensures.asked
    c.move_begin.ensures.index c.move_begin.ensures.ready c.in-Ok.ensures.place.0 call call.turn.call c.in-Ok-take_shelf.ensures.number refl refl
    (g.R.Room.meaning c.args.room.now) (g.R.Room.meaning c.take_shelf.new.room) (λ n ne. (c.take_shelf.ensures.others n ne).1) c.requires.used

pub returns-in-Ok-move_begin-clause-took : goal.returns-in-Ok-move_begin-clause-took
returns-in-Ok-move_begin-clause-took g c =
    let call = c.in-Ok-move_begin.ensures.call in
    came_took c.args.job c.requires.can.ready c.check_migrate.ensures.ready c.requires.can.index_ready c.check_migrate.ensures.index c.check_migrate.ensures.asked
    c.move_begin.ensures.index c.move_begin.ensures.ready c.in-Ok.ensures.place.0 call call.turn.call c.in-Ok-take_shelf.ensures.number refl refl
    _ (g.R.Room.meaning c.args.room.now) (g.R.Room.meaning c.take_shelf.new.room)
    (free_home c.args.job c.requires.can.ready c.check_migrate.ensures.ready c.requires.can.index_ready c.check_migrate.ensures.index c.check_migrate.ensures.asked (g.R.Room.meaning c.args.room.now) c.args.to c.requires.can.count c.requires.used (λ s set. (may_begin _ _ _ _ _ _ _ c.if-at.false (c.in-Ok.ensures.says s set)).2))
    c.take_shelf.ensures.others c.in-Ok-take_shelf.ensures.taken c.in-Ok-take_shelf.ensures.told

pub returns-in-Err-move_begin-clause-worked : goal.returns-in-Err-move_begin-clause-worked
returns-in-Err-move_begin-clause-worked g c =
    let call = c.in-Err-move_begin.ensures.call in
    back_work c.args.job c.requires.can.ready c.check_migrate.ensures.ready c.requires.can.index_ready c.check_migrate.ensures.index c.check_migrate.ensures.asked
    c.move_begin.ensures.index c.move_begin.ensures.ready c.in-Ok.ensures.place.0 call call.turn.call.0.entries_are

pub returns-in-Err-move_begin-clause-says : goal.returns-in-Err-move_begin-clause-says
returns-in-Err-move_begin-clause-says g c =
    unbegun_says c.args.job c.args.from c.args.to c.requires.can.ready c.check_migrate.ensures.ready c.requires.can.index_ready c.check_migrate.ensures.index c.check_migrate.ensures.asked
    (IsTrue g.R.A.Archive.account.tells) g.R.A.Archive.account.meaning c.in-Ok.at.group c.in-Ok.at.column c.in-Ok-take_shelf.shelf c.in-Ok-take_shelf.ensures.number c.move_begin.ensures.index c.move_begin.ensures.ready c.in-Ok.ensures.place.0 _ c.in-Err-move_begin.ensures.call c.in-Ok.at.resumes c.if-at.false c.requires.can.count c.in-Ok.ensures.says c.hand_back.result c.hand_back.ensures.answer

pub returns-in-Err-move_begin-clause-used : goal.returns-in-Err-move_begin-clause-used
returns-in-Err-move_begin-clause-used g c =
    let call = c.in-Err-move_begin.ensures.call in
    back_used c.args.job c.requires.can.ready c.check_migrate.ensures.ready c.requires.can.index_ready c.check_migrate.ensures.index c.check_migrate.ensures.asked
    c.move_begin.ensures.index c.move_begin.ensures.ready c.in-Ok.ensures.place.0 call call.turn.call.0.entries_are call.turn.call.0.shelf_is c.in-Ok-take_shelf.ensures.number
    (g.R.Room.meaning c.args.room.now) (g.R.Room.meaning c.take_shelf.new.room) (g.R.Room.meaning c.hand_back.new.room)
    (free_home c.args.job c.requires.can.ready c.check_migrate.ensures.ready c.requires.can.index_ready c.check_migrate.ensures.index c.check_migrate.ensures.asked (g.R.Room.meaning c.args.room.now) c.args.to c.requires.can.count c.requires.used (λ s set. (may_begin _ _ _ _ _ _ _ c.if-at.false (c.in-Ok.ensures.says s set)).2))
    c.take_shelf.ensures.others c.hand_back.ensures.back c.hand_back.ensures.others c.requires.used

pub returns-in-Err-move_begin-clause-took : goal.returns-in-Err-move_begin-clause-took
returns-in-Err-move_begin-clause-took g c =
    let call = c.in-Err-move_begin.ensures.call in
    back_took c.args.job c.requires.can.ready c.check_migrate.ensures.ready c.requires.can.index_ready c.check_migrate.ensures.index c.check_migrate.ensures.asked
    c.move_begin.ensures.index c.move_begin.ensures.ready c.in-Ok.ensures.place.0 call call.turn.call.0.entries_are call.turn.call.0.shelf_is c.in-Ok-take_shelf.ensures.number
    (g.R.Room.meaning c.args.room.now) (g.R.Room.meaning c.take_shelf.new.room) (g.R.Room.meaning c.hand_back.new.room)
    (free_home c.args.job c.requires.can.ready c.check_migrate.ensures.ready c.requires.can.index_ready c.check_migrate.ensures.index c.check_migrate.ensures.asked (g.R.Room.meaning c.args.room.now) c.args.to c.requires.can.count c.requires.used (λ s set. (may_begin _ _ _ _ _ _ _ c.if-at.false (c.in-Ok.ensures.says s set)).2))
    c.take_shelf.ensures.others c.hand_back.ensures.back c.hand_back.ensures.others
    g.R.A.Archive.account.meaning _ c.in-Ok-take_shelf.ensures.told (λ told well. c.hand_back.ensures.told (λ e. well (cc e)) told)
