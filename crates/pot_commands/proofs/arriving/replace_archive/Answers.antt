use Rattle.std.proofs.Common.{[], ◌∷◌, refl, IsTrue}
use Rattle.pot_commands.proofs.ArrivingLemmas.{back_took, back_used, back_work, came_took, came_used, came_work, check_took, check_used, checked_work, free_home}
use Rattle.pot_commands.proofs.ReplaceLemmas.{refused_ends, refused_says, swap_says}
use Rattle.pot_commands.proofs.arriving.replace_archive.Goals as goal

pub returns-in-Err-clause-worked : goal.returns-in-Err-clause-worked
returns-in-Err-clause-worked g c = checked_work c.args.job c.requires.can.ready c.check_replace.ensures.ready c.requires.can.index_ready c.check_replace.ensures.index c.check_replace.ensures.asked

pub returns-in-Err-clause-says : goal.returns-in-Err-clause-says
returns-in-Err-clause-says g c =
    refused_says c.args.job c.args.from c.args.to c.requires.can.ready c.check_replace.ensures.ready c.requires.can.index_ready c.check_replace.ensures.index c.check_replace.ensures.asked
    c.in-Err.fault c.use_reply.result c.use_reply.ensures c.in-Err.ensures.says

pub returns-in-Err-clause-used : goal.returns-in-Err-clause-used
returns-in-Err-clause-used g c =
    check_used c.args.job c.requires.can.ready c.check_replace.ensures.ready c.requires.can.index_ready c.check_replace.ensures.index c.check_replace.ensures.asked
    (g.R.Room.meaning c.args.room.now) (g.R.Room.meaning c.args.room.now) (λ n. refl) c.requires.used

pub returns-in-Err-clause-took : goal.returns-in-Err-clause-took
returns-in-Err-clause-took g c =
    check_took c.args.job c.requires.can.ready c.check_replace.ensures.ready c.requires.can.index_ready c.check_replace.ensures.index c.check_replace.ensures.asked
    _ _ (c.args.to ∷ []) _ _ (λ n. refl) (λ n. refl)

pub take_shelf-requires-clause-home : goal.take_shelf-requires-clause-home
take_shelf-requires-clause-home g c = λ κs bounds.
    free_home c.args.job c.requires.can.ready c.check_replace.ensures.ready c.requires.can.index_ready c.check_replace.ensures.index c.check_replace.ensures.asked
    (g.R.Room.meaning c.args.room.now) c.args.to c.requires.can.count c.requires.used (λ s set. (c.in-Ok.ensures.says s set).2)

pub returns-in_err-shelf-clause-worked : goal.returns-in_err-shelf-clause-worked
returns-in_err-shelf-clause-worked g c = checked_work c.args.job c.requires.can.ready c.check_replace.ensures.ready c.requires.can.index_ready c.check_replace.ensures.index c.check_replace.ensures.asked

pub returns-in_err-shelf-clause-used : goal.returns-in_err-shelf-clause-used
returns-in_err-shelf-clause-used g c =
    check_used c.args.job c.requires.can.ready c.check_replace.ensures.ready c.requires.can.index_ready c.check_replace.ensures.index c.check_replace.ensures.asked
    (g.R.Room.meaning c.args.room.now) (g.R.Room.meaning c.take_shelf.new.room) (λ n. (c.in_err-shelf.ensures.stays n).1) c.requires.used

pub returns-in_err-shelf-clause-took : goal.returns-in_err-shelf-clause-took
returns-in_err-shelf-clause-took g c =
    check_took c.args.job c.requires.can.ready c.check_replace.ensures.ready c.requires.can.index_ready c.check_replace.ensures.index c.check_replace.ensures.asked
    _ _ (c.args.to ∷ []) _ _ (λ n. (c.in_err-shelf.ensures.stays n).1) (λ n. (c.in_err-shelf.ensures.stays n).0)

pub returns-in-Ok-swap-clause-worked : goal.returns-in-Ok-swap-clause-worked
returns-in-Ok-swap-clause-worked g c =
    let call = c.in-Ok-swap.ensures.call in
    came_work c.args.job c.requires.can.ready c.check_replace.ensures.ready c.requires.can.index_ready c.check_replace.ensures.index c.check_replace.ensures.asked
    c.swap.ensures.index c.swap.ensures.ready c.in-Ok.ensures.place.0 call call.turn.call.0 c.in_ok-shelf.ensures.number refl refl

pub returns-in-Ok-swap-clause-says : goal.returns-in-Ok-swap-clause-says
returns-in-Ok-swap-clause-says g c =
    swap_says c.args.job c.args.from c.args.to c.requires.can.ready c.check_replace.ensures.ready c.requires.can.index_ready c.check_replace.ensures.index c.check_replace.ensures.asked
    (IsTrue g.R.A.Archive.account.tells) g.R.A.Archive.account.meaning c.in-Ok.at.group c.in-Ok.at.column c.in_ok-shelf.shelf c.in_ok-shelf.ensures.number c.swap.ensures.index c.swap.ensures.ready c.in-Ok.ensures.place.0 _ c.in-Ok-swap.ensures.call c.in-Ok.at.resumes c.in-Ok.ensures.says

pub returns-in-Ok-swap-clause-used : goal.returns-in-Ok-swap-clause-used
returns-in-Ok-swap-clause-used g c =
    let call = c.in-Ok-swap.ensures.call in
    came_used c.args.job c.requires.can.ready c.check_replace.ensures.ready c.requires.can.index_ready c.check_replace.ensures.index c.check_replace.ensures.asked
    c.swap.ensures.index c.swap.ensures.ready c.in-Ok.ensures.place.0 call call.turn.call.0 c.in_ok-shelf.ensures.number refl refl
    (g.R.Room.meaning c.args.room.now) (g.R.Room.meaning c.take_shelf.new.room) (λ n ne. (c.take_shelf.ensures.others n ne).1) c.requires.used

pub returns-in-Ok-swap-clause-took : goal.returns-in-Ok-swap-clause-took
returns-in-Ok-swap-clause-took g c =
    let call = c.in-Ok-swap.ensures.call in
    came_took c.args.job c.requires.can.ready c.check_replace.ensures.ready c.requires.can.index_ready c.check_replace.ensures.index c.check_replace.ensures.asked
    c.swap.ensures.index c.swap.ensures.ready c.in-Ok.ensures.place.0 call call.turn.call.0 c.in_ok-shelf.ensures.number refl refl
    _ (g.R.Room.meaning c.args.room.now) (g.R.Room.meaning c.take_shelf.new.room)
    (free_home c.args.job c.requires.can.ready c.check_replace.ensures.ready c.requires.can.index_ready c.check_replace.ensures.index c.check_replace.ensures.asked (g.R.Room.meaning c.args.room.now) c.args.to c.requires.can.count c.requires.used (λ s set. (c.in-Ok.ensures.says s set).2))
    c.take_shelf.ensures.others c.in_ok-shelf.ensures.taken c.in_ok-shelf.ensures.told

pub returns-in-Err-swap-clause-worked : goal.returns-in-Err-swap-clause-worked
returns-in-Err-swap-clause-worked g c =
    let call = c.in-Err-swap.ensures.call in
    back_work c.args.job c.requires.can.ready c.check_replace.ensures.ready c.requires.can.index_ready c.check_replace.ensures.index c.check_replace.ensures.asked
    c.swap.ensures.index c.swap.ensures.ready c.in-Ok.ensures.place.0 call call.turn.call.0.entries_are

pub returns-in-Err-swap-clause-says : goal.returns-in-Err-swap-clause-says
returns-in-Err-swap-clause-says g c =
    refused_ends c.args.job c.args.from c.args.to c.requires.can.ready c.check_replace.ensures.ready c.requires.can.index_ready c.check_replace.ensures.index c.check_replace.ensures.asked
    (IsTrue g.R.A.Archive.account.tells) g.R.A.Archive.account.meaning c.in-Ok.at.group c.in-Ok.at.column c.in_ok-shelf.shelf c.in_ok-shelf.ensures.number c.swap.ensures.index c.swap.ensures.ready c.in-Ok.ensures.place.0 _ c.in-Err-swap.ensures.call c.in-Ok.at.resumes c.requires.can.count c.in-Ok.ensures.says c.hand_back.result c.hand_back.ensures.answer

pub returns-in-Err-swap-clause-used : goal.returns-in-Err-swap-clause-used
returns-in-Err-swap-clause-used g c =
    let call = c.in-Err-swap.ensures.call in
    back_used c.args.job c.requires.can.ready c.check_replace.ensures.ready c.requires.can.index_ready c.check_replace.ensures.index c.check_replace.ensures.asked
    c.swap.ensures.index c.swap.ensures.ready c.in-Ok.ensures.place.0 call call.turn.call.0.entries_are call.turn.call.0.shelf_is c.in_ok-shelf.ensures.number
    (g.R.Room.meaning c.args.room.now) (g.R.Room.meaning c.take_shelf.new.room) (g.R.Room.meaning c.hand_back.new.room)
    (free_home c.args.job c.requires.can.ready c.check_replace.ensures.ready c.requires.can.index_ready c.check_replace.ensures.index c.check_replace.ensures.asked (g.R.Room.meaning c.args.room.now) c.args.to c.requires.can.count c.requires.used (λ s set. (c.in-Ok.ensures.says s set).2))
    c.take_shelf.ensures.others c.hand_back.ensures.back c.hand_back.ensures.others c.requires.used

pub returns-in-Err-swap-clause-took : goal.returns-in-Err-swap-clause-took
returns-in-Err-swap-clause-took g c =
    let call = c.in-Err-swap.ensures.call in
    back_took c.args.job c.requires.can.ready c.check_replace.ensures.ready c.requires.can.index_ready c.check_replace.ensures.index c.check_replace.ensures.asked
    c.swap.ensures.index c.swap.ensures.ready c.in-Ok.ensures.place.0 call call.turn.call.0.entries_are call.turn.call.0.shelf_is c.in_ok-shelf.ensures.number
    (g.R.Room.meaning c.args.room.now) (g.R.Room.meaning c.take_shelf.new.room) (g.R.Room.meaning c.hand_back.new.room)
    (free_home c.args.job c.requires.can.ready c.check_replace.ensures.ready c.requires.can.index_ready c.check_replace.ensures.index c.check_replace.ensures.asked (g.R.Room.meaning c.args.room.now) c.args.to c.requires.can.count c.requires.used (λ s set. (c.in-Ok.ensures.says s set).2))
    c.take_shelf.ensures.others c.hand_back.ensures.back c.hand_back.ensures.others
    g.R.A.Archive.account.meaning _ c.in_ok-shelf.ensures.told (λ told well. c.hand_back.ensures.told well told)
