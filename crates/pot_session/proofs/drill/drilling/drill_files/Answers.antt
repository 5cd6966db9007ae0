use Rattle.std.proofs.Common.{Ok, subst}
use Rattle.pot_outside.specs.Accounts.{transition}
use Rattle.pot_session.specs.Drills.{Drilled}
use Rattle.pot_session.proofs.drill.drilling.drill_files.Goals as goal

pub returns-in-Ok-clause-drills : goal.returns-in-Ok-clause-drills
returns-in-Ok-clause-drills g c = record {
  made = Ok c.in-Ok.telling;
  is = subst (λ seed. Drilled c.args.task.now seed (transition g.S.Source.account c.args.source.now c.drill_source.new.source) (Ok c.in-Ok.telling)) c.unwrap_or-seed.ensures c.in-Ok.ensures.drilled;
  read = c.in-Ok.ensures.read;
  whole = c.in-Ok.ensures.whole;
  answers = c.tell.ensures.told;
}
