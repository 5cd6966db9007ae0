use Rattle.std.proofs.Common.{◌++◌, length, refl, ap, sym, ◌∙◌, arith}
use Rattle.pot_shared.specs.Works.{known}
use Rattle.pot_commands.specs.Sharing.{common_of}
use Rattle.pot_commands.specs.Jobs.{replies_in}
use Rattle.pot_commands.proofs.AnswerLemmas.{stayed_worked}
use Rattle.pot_commands.proofs.BeginLemmas.{moves_leave}
use Rattle.pot_commands.proofs.Going.{work_all_went}
use Rattle.pot_commands.proofs.TogetherLemmas.{given_have, lines_worked_are, worked_have, worked_count, taken_went, taken_stays, taken_gives, taken_leaves, taken_none, taken_blinds}
use Rattle.pot_commands.proofs.UnbegunLemmas.{fewer_jobs, back_went, back_stays, back_leaves, back_none, back_blinds}
use Rattle.pot_commands.proofs.DrawnLemmas.{still_blinds}
use Rattle.pot_commands.proofs.batching.work_begun.Goals as goal

pub returns-in_default-clause-went : goal.returns-in_default-clause-went
returns-in_default-clause-went g c = work_all_went 1 _ _ (stayed_worked c.args.crew.now.shared.vault.now.rack c.args.crew.now.shared.vault.now.groups c.args.crew.now.shared.vault.now.index 1 _ _ c.requires.can.ready c.requires.can.index_ready)

pub returns-in_default-clause-says : goal.returns-in_default-clause-says
returns-in_default-clause-says g c = λ start moves. moves_leave _ _ _ _ _ _ _ _ moves

pub take_back-requires-clause-its : goal.take_back-requires-clause-its
take_back-requires-clause-its g c = worked_have (common_of c.args.crew.now.shared) _ _ _ _ _ _ (lines_worked_are _ _ _ _ _ _ _ c.in-Ok-work_lines.ensures.worked)

pub take_back-requires-clause-room : goal.take_back-requires-clause-room
take_back-requires-clause-room g c =
    let n = worked_count (common_of c.args.crew.now.shared) _ _ _ _ _ _ (lines_worked_are _ _ _ _ _ _ _ c.in-Ok-work_lines.ensures.worked) in
    let none = ap length c.in-Ok.ensures.items in
    omega (arith, n, none, c.in-Ok.ensures.capacity)

pub take_back-requires-in-Err-clause-its : goal.take_back-requires-in-Err-clause-its
take_back-requires-in-Err-clause-its g c = given_have (common_of c.args.crew.now.shared) _ _ _ _ c.in-Err.ensures.worked.given

pub take_back-requires-in-Err-clause-room : goal.take_back-requires-in-Err-clause-room
take_back-requires-in-Err-clause-room g c =
    let n = fewer_jobs (common_of c.args.crew.now.shared) _ _ _ _ _ c.in-Err.ensures.worked in
    let none = ap length c.in-Ok.ensures.items in
    omega (arith, n, none, c.in-Ok.ensures.capacity)

pub returns-then-take_back-clause-went : goal.returns-then-take_back-clause-went
returns-then-take_back-clause-went g c =
    taken_went (common_of c.args.crew.now.shared) (known c.args.passes.now.groups c.args.passes.now.index) (known c.work_lines.new.passes.groups c.work_lines.new.passes.index) (known c.take_back.new.passes.groups c.take_back.new.passes.index) c.args.job c.args.lines.now c.args.tasks.items c.in-Ok-work_lines.jobs.items (record {
      can = c.requires.can;
      can_v = c.in-Ok-work_lines.ensures.can;
      can_x = c.take_back.ensures.can;
      parts = c.requires.parts;
      worked = (lines_worked_are _ _ _ _ _ _ _ c.in-Ok-work_lines.ensures.worked);
      joined = c.take_back.ensures.joined;
    })

pub returns-then-take_back-clause-stays : goal.returns-then-take_back-clause-stays
returns-then-take_back-clause-stays g c =
    taken_stays (common_of c.args.crew.now.shared) (known c.args.passes.now.groups c.args.passes.now.index) (known c.work_lines.new.passes.groups c.work_lines.new.passes.index) (known c.take_back.new.passes.groups c.take_back.new.passes.index) c.args.job c.args.lines.now c.args.tasks.items c.in-Ok-work_lines.jobs.items (record {
      can = c.requires.can;
      can_v = c.in-Ok-work_lines.ensures.can;
      can_x = c.take_back.ensures.can;
      parts = c.requires.parts;
      worked = (lines_worked_are _ _ _ _ _ _ _ c.in-Ok-work_lines.ensures.worked);
      joined = c.take_back.ensures.joined;
    })

pub returns-then-take_back-clause-says : goal.returns-then-take_back-clause-says
returns-then-take_back-clause-says g c =
    taken_gives (common_of c.args.crew.now.shared) (known c.args.passes.now.groups c.args.passes.now.index) (known c.work_lines.new.passes.groups c.work_lines.new.passes.index) (known c.take_back.new.passes.groups c.take_back.new.passes.index) c.args.job c.args.lines.now c.args.tasks.items c.in-Ok-work_lines.jobs.items (record {
      can = c.requires.can;
      can_v = c.in-Ok-work_lines.ensures.can;
      can_x = c.take_back.ensures.can;
      parts = c.requires.parts;
      worked = (lines_worked_are _ _ _ _ _ _ _ c.in-Ok-work_lines.ensures.worked);
      joined = c.take_back.ensures.joined;
    }) _ (c.take_back.ensures.replies ∙ ap (λ l. l ++ replies_in c.in-Ok-work_lines.jobs.items) c.in-Ok.ensures.items) (sym c.take_back.ensures.whole ∙ c.if-take_back.true)

pub returns-then-take_back-clause-none : goal.returns-then-take_back-clause-none
returns-then-take_back-clause-none g c =
    taken_none (common_of c.args.crew.now.shared) (known c.args.passes.now.groups c.args.passes.now.index) (known c.work_lines.new.passes.groups c.work_lines.new.passes.index) (known c.take_back.new.passes.groups c.take_back.new.passes.index) c.args.job c.args.lines.now c.args.tasks.items c.in-Ok-work_lines.jobs.items (record {
      can = c.requires.can;
      can_v = c.in-Ok-work_lines.ensures.can;
      can_x = c.take_back.ensures.can;
      parts = c.requires.parts;
      worked = (lines_worked_are _ _ _ _ _ _ _ c.in-Ok-work_lines.ensures.worked);
      joined = c.take_back.ensures.joined;
    }) c.requires.filled

pub returns-else-take_back-clause-went : goal.returns-else-take_back-clause-went
returns-else-take_back-clause-went g c =
    taken_went (common_of c.args.crew.now.shared) (known c.args.passes.now.groups c.args.passes.now.index) (known c.work_lines.new.passes.groups c.work_lines.new.passes.index) (known c.take_back.new.passes.groups c.take_back.new.passes.index) c.args.job c.args.lines.now c.args.tasks.items c.in-Ok-work_lines.jobs.items (record {
      can = c.requires.can;
      can_v = c.in-Ok-work_lines.ensures.can;
      can_x = c.take_back.ensures.can;
      parts = c.requires.parts;
      worked = (lines_worked_are _ _ _ _ _ _ _ c.in-Ok-work_lines.ensures.worked);
      joined = c.take_back.ensures.joined;
    })

pub returns-else-take_back-clause-stays : goal.returns-else-take_back-clause-stays
returns-else-take_back-clause-stays g c =
    taken_stays (common_of c.args.crew.now.shared) (known c.args.passes.now.groups c.args.passes.now.index) (known c.work_lines.new.passes.groups c.work_lines.new.passes.index) (known c.take_back.new.passes.groups c.take_back.new.passes.index) c.args.job c.args.lines.now c.args.tasks.items c.in-Ok-work_lines.jobs.items (record {
      can = c.requires.can;
      can_v = c.in-Ok-work_lines.ensures.can;
      can_x = c.take_back.ensures.can;
      parts = c.requires.parts;
      worked = (lines_worked_are _ _ _ _ _ _ _ c.in-Ok-work_lines.ensures.worked);
      joined = c.take_back.ensures.joined;
    })

pub returns-else-take_back-clause-says : goal.returns-else-take_back-clause-says
returns-else-take_back-clause-says g c = λ start moves.
    taken_leaves (common_of c.args.crew.now.shared) (known c.args.passes.now.groups c.args.passes.now.index) (known c.work_lines.new.passes.groups c.work_lines.new.passes.index) (known c.take_back.new.passes.groups c.take_back.new.passes.index) c.args.job c.args.lines.now c.args.tasks.items c.in-Ok-work_lines.jobs.items (record {
      can = c.requires.can;
      can_v = c.in-Ok-work_lines.ensures.can;
      can_x = c.take_back.ensures.can;
      parts = c.requires.parts;
      worked = (lines_worked_are _ _ _ _ _ _ _ c.in-Ok-work_lines.ensures.worked);
      joined = c.take_back.ensures.joined;
    }) start moves

pub returns-else-take_back-clause-none : goal.returns-else-take_back-clause-none
returns-else-take_back-clause-none g c =
    taken_none (common_of c.args.crew.now.shared) (known c.args.passes.now.groups c.args.passes.now.index) (known c.work_lines.new.passes.groups c.work_lines.new.passes.index) (known c.take_back.new.passes.groups c.take_back.new.passes.index) c.args.job c.args.lines.now c.args.tasks.items c.in-Ok-work_lines.jobs.items (record {
      can = c.requires.can;
      can_v = c.in-Ok-work_lines.ensures.can;
      can_x = c.take_back.ensures.can;
      parts = c.requires.parts;
      worked = (lines_worked_are _ _ _ _ _ _ _ c.in-Ok-work_lines.ensures.worked);
      joined = c.take_back.ensures.joined;
    }) c.requires.filled

pub returns-in-Err-clause-went : goal.returns-in-Err-clause-went
returns-in-Err-clause-went g c =
    back_went (common_of c.args.crew.now.shared) (known c.args.passes.now.groups c.args.passes.now.index) (known c.work_lines.new.passes.groups c.work_lines.new.passes.index) (known c.take_back-in-Err.new.passes.groups c.take_back-in-Err.new.passes.index) c.args.job c.args.lines.now c.in-Err.field-0.jobs.items (record {
      can = c.requires.can;
      can_x = c.take_back-in-Err.ensures.can;
      parts = c.requires.parts;
      shared = c.in-Err.ensures.worked;
      joined = c.take_back-in-Err.ensures.joined;
    })

pub returns-in-Err-clause-stays : goal.returns-in-Err-clause-stays
returns-in-Err-clause-stays g c =
    back_stays (common_of c.args.crew.now.shared) (known c.args.passes.now.groups c.args.passes.now.index) (known c.work_lines.new.passes.groups c.work_lines.new.passes.index) (known c.take_back-in-Err.new.passes.groups c.take_back-in-Err.new.passes.index) c.args.job c.args.lines.now c.in-Err.field-0.jobs.items (record {
      can = c.requires.can;
      can_x = c.take_back-in-Err.ensures.can;
      parts = c.requires.parts;
      shared = c.in-Err.ensures.worked;
      joined = c.take_back-in-Err.ensures.joined;
    })

pub returns-in-Err-clause-says : goal.returns-in-Err-clause-says
returns-in-Err-clause-says g c = λ start moves.
    back_leaves (common_of c.args.crew.now.shared) (known c.args.passes.now.groups c.args.passes.now.index) (known c.work_lines.new.passes.groups c.work_lines.new.passes.index) (known c.take_back-in-Err.new.passes.groups c.take_back-in-Err.new.passes.index) c.args.job c.args.lines.now c.in-Err.field-0.jobs.items (record {
      can = c.requires.can;
      can_x = c.take_back-in-Err.ensures.can;
      parts = c.requires.parts;
      shared = c.in-Err.ensures.worked;
      joined = c.take_back-in-Err.ensures.joined;
    }) c.args.tasks.items start moves

pub returns-in-Err-clause-none : goal.returns-in-Err-clause-none
returns-in-Err-clause-none g c =
    back_none (common_of c.args.crew.now.shared) (known c.args.passes.now.groups c.args.passes.now.index) (known c.work_lines.new.passes.groups c.work_lines.new.passes.index) (known c.take_back-in-Err.new.passes.groups c.take_back-in-Err.new.passes.index) c.args.job c.args.lines.now c.in-Err.field-0.jobs.items (record {
      can = c.requires.can;
      can_x = c.take_back-in-Err.ensures.can;
      parts = c.requires.parts;
      shared = c.in-Err.ensures.worked;
      joined = c.take_back-in-Err.ensures.joined;
    })

pub returns-then-take_back-clause-blinds : goal.returns-then-take_back-clause-blinds
returns-then-take_back-clause-blinds g c =
    taken_blinds (common_of c.args.crew.now.shared) (known c.args.passes.now.groups c.args.passes.now.index) (known c.work_lines.new.passes.groups c.work_lines.new.passes.index) (known c.take_back.new.passes.groups c.take_back.new.passes.index) c.args.job c.args.lines.now c.args.tasks.items c.in-Ok-work_lines.jobs.items (record {
      can = c.requires.can;
      can_v = c.in-Ok-work_lines.ensures.can;
      can_x = c.take_back.ensures.can;
      parts = c.requires.parts;
      worked = (lines_worked_are _ _ _ _ _ _ _ c.in-Ok-work_lines.ensures.worked);
      joined = c.take_back.ensures.joined;
    }) c.requires.filled

pub returns-else-take_back-clause-blinds : goal.returns-else-take_back-clause-blinds
returns-else-take_back-clause-blinds g c =
    taken_blinds (common_of c.args.crew.now.shared) (known c.args.passes.now.groups c.args.passes.now.index) (known c.work_lines.new.passes.groups c.work_lines.new.passes.index) (known c.take_back.new.passes.groups c.take_back.new.passes.index) c.args.job c.args.lines.now c.args.tasks.items c.in-Ok-work_lines.jobs.items (record {
      can = c.requires.can;
      can_v = c.in-Ok-work_lines.ensures.can;
      can_x = c.take_back.ensures.can;
      parts = c.requires.parts;
      worked = (lines_worked_are _ _ _ _ _ _ _ c.in-Ok-work_lines.ensures.worked);
      joined = c.take_back.ensures.joined;
    }) c.requires.filled

pub returns-in-Err-clause-blinds : goal.returns-in-Err-clause-blinds
returns-in-Err-clause-blinds g c =
    back_blinds (common_of c.args.crew.now.shared) (known c.args.passes.now.groups c.args.passes.now.index) (known c.work_lines.new.passes.groups c.work_lines.new.passes.index) (known c.take_back-in-Err.new.passes.groups c.take_back-in-Err.new.passes.index) c.args.job c.args.lines.now c.in-Err.field-0.jobs.items (record {
      can = c.requires.can;
      can_x = c.take_back-in-Err.ensures.can;
      parts = c.requires.parts;
      shared = c.in-Err.ensures.worked;
      joined = c.take_back-in-Err.ensures.joined;
    })

pub returns-in_default-clause-blinds : goal.returns-in_default-clause-blinds
returns-in_default-clause-blinds g c = still_blinds (common_of c.args.crew.now.shared) (known c.args.passes.now.groups c.args.passes.now.index) (known c.args.passes.now.groups c.args.passes.now.index) (λ h. refl)
