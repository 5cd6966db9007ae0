use Rattle.pot_doubles.proofs.RoomLemmas.{archive_of-added, archive_of-added_other}
use Rattle.pot_doubles.proofs.room.put_back.Goals as goal

pub returns-in_ok-push-in-Err-clause-puts : goal.returns-in_ok-push-in-Err-clause-puts
returns-in_ok-push-in-Err-clause-puts c =
    archive_of-added _ _ _ c.args.number _ _ c.in-Err.ensures.absent c.in-Err.ensures.same c.in-Err.ensures.back c.in_ok-push-in-Err.ensures.items

pub returns-in_ok-push-in-Err-clause-others : goal.returns-in_ok-push-in-Err-clause-others
returns-in_ok-push-in-Err-clause-others c =
    λ n ne. archive_of-added_other _ _ _ c.args.number n _ ne c.in-Err.ensures.same c.in_ok-push-in-Err.ensures.items
