use Rattle.std.proofs.Common.{refl, sym}
use Rattle.pot_shared.proofs.TakenIn.{refused, worked}
use Rattle.pot_shared.proofs.group_start.GroupStart.work.Goals as goal

pub returns-in-Ok : goal.returns-in-Ok
returns-in-Ok g c t can =
    worked _ _ t c.in-Some.table _ _ c.in-Ok.member can (sym c.in-Some.ensures.value) c.in-Ok.ensures.rest c.push_reserved.ensures.items c.in-Ok.ensures.started
    (λ meant tells are. c.in-Ok.ensures.marked meant tells are) (λ meant tells are. c.in-Ok.ensures.opened meant tells are) (λ meant tells apart are. c.in-Ok.ensures.lost meant tells apart are)

pub returns-in-Err : goal.returns-in-Err
returns-in-Err g c t can = refused _ _ t _ _ can refl c.in-Err.ensures.refused c.in-Err.ensures.back c.in-Err.ensures.count
