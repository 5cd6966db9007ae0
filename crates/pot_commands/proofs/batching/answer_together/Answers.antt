use Rattle.std.proofs.Common.{refl}
use Rattle.pot_shared.specs.Works.{known}
use Rattle.pot_commands.specs.Sharing.{common_of}
use Rattle.pot_commands.proofs.BeginLemmas.{moves_stop}
use Rattle.pot_commands.proofs.DrawnLemmas.{moves_blinds, moves_then}
use Rattle.pot_commands.proofs.Going.{filled_stays, went_more}
use Rattle.pot_commands.proofs.TakingLemmas.{took_on, used_on}
use Rattle.pot_commands.proofs.batching.answer_together.Goals as goal

pub returns-in-Err-clause-says : goal.returns-in-Err-clause-says
returns-in-Err-clause-says g c = moves_stop _ _ _ _ _ _ _ _ c.in-Err.unanswered (λ q. c.in-Err.ensures.asked (cc q)) c.in-Err.ensures.begun.1

pub work_begun-requires-clause-filled : goal.work_begun-requires-clause-filled
work_begun-requires-clause-filled g c κs within = filled_stays _ _ _ c.in-Ok.ensures.begun.stays c.requires.filled

pub returns-in-Ok-work_begun-clause-went : goal.returns-in-Ok-work_begun-clause-went
returns-in-Ok-work_begun-clause-went g c = went_more _ _ _ c.in-Ok.ensures.begun.went c.work_begun.ensures.went

pub returns-in-Ok-work_begun-clause-says : goal.returns-in-Ok-work_begun-clause-says
returns-in-Ok-work_begun-clause-says g c = c.in-Ok-work_begun.ensures.says _ c.in-Ok.ensures.begun

pub returns-in-Ok-work_begun-clause-used : goal.returns-in-Ok-work_begun-clause-used
returns-in-Ok-work_begun-clause-used g c =
    used_on (g.R.Room.meaning c.begin_lines.new.room) (g.R.Room.meaning c.begin_lines.new.room) (known c.begin_lines.new.passes.groups c.begin_lines.new.passes.index) (known c.work_begun.new.passes.groups c.work_begun.new.passes.index)
    c.work_begun.ensures.went c.work_begun.ensures.stays (λ n. refl) c.begin_lines.ensures.used

pub returns-in-Ok-work_begun-clause-took : goal.returns-in-Ok-work_begun-clause-took
returns-in-Ok-work_begun-clause-took g c =
    took_on _ _ _ _ _ _ _ _ _ c.in-Ok.ensures.begun.went c.work_begun.ensures.went c.in-Ok.ensures.begun.stays.groups.names (λ e. cc e) c.in-Ok.ensures.took c.work_begun.ensures.none

pub returns-in-Err-work_begun-clause-went : goal.returns-in-Err-work_begun-clause-went
returns-in-Err-work_begun-clause-went g c = went_more _ _ _ c.in-Ok.ensures.begun.went c.work_begun.ensures.went

pub returns-in-Err-work_begun-clause-says : goal.returns-in-Err-work_begun-clause-says
returns-in-Err-work_begun-clause-says g c = c.in-Err-work_begun.ensures.says _ c.in-Ok.ensures.begun

pub returns-in-Err-work_begun-clause-used : goal.returns-in-Err-work_begun-clause-used
returns-in-Err-work_begun-clause-used g c =
    used_on (g.R.Room.meaning c.begin_lines.new.room) (g.R.Room.meaning c.begin_lines.new.room) (known c.begin_lines.new.passes.groups c.begin_lines.new.passes.index) (known c.work_begun.new.passes.groups c.work_begun.new.passes.index)
    c.work_begun.ensures.went c.work_begun.ensures.stays (λ n. refl) c.begin_lines.ensures.used

pub returns-in-Err-work_begun-clause-took : goal.returns-in-Err-work_begun-clause-took
returns-in-Err-work_begun-clause-took g c =
    took_on _ _ _ _ _ _ _ _ _ c.in-Ok.ensures.begun.went c.work_begun.ensures.went c.in-Ok.ensures.begun.stays.groups.names (λ e. cc e) c.in-Ok.ensures.took c.work_begun.ensures.none

pub returns-in-Err-clause-blinds : goal.returns-in-Err-clause-blinds
returns-in-Err-clause-blinds g c = moves_blinds (common_of c.args.crew.now.shared) _ _ _ _ _ c.in-Err.ensures.begun.1

pub returns-in-Ok-work_begun-clause-blinds : goal.returns-in-Ok-work_begun-clause-blinds
returns-in-Ok-work_begun-clause-blinds g c =
    moves_then (common_of c.args.crew.now.shared) _ _ _ _ _ _ c.in-Ok.ensures.begun c.work_begun.ensures.went c.work_begun.ensures.blinds

pub returns-in-Err-work_begun-clause-blinds : goal.returns-in-Err-work_begun-clause-blinds
returns-in-Err-work_begun-clause-blinds g c =
    moves_then (common_of c.args.crew.now.shared) _ _ _ _ _ _ c.in-Ok.ensures.begun c.work_begun.ensures.went c.work_begun.ensures.blinds
