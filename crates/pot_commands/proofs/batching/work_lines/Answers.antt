use Rattle.std.proofs.Common.{arith}
use denote.Param.Send.{param_send, arg_send}
use denote.Exit.{no}
use mir.Syntax.{named}
use Rattle.pot_commands.proofs.Crossing.{send_line}
use Rattle.pot_commands.proofs.SharedLemmas.{given_count, given_fresh, lines_worked}
use Rattle.pot_commands.proofs.batching.work_lines.Goals as goal

pub together-requires-send-J : goal.together-requires-send-J
together-requires-send-J g c κs within = param_send 0 _ (arg_send _ no _ (send_line (record { mir = named 0; lft = κs.1.1.0 }) _ _ g.A.Archive c.type_bounds.send-A c.type_bounds.sync-X))

pub together-requires-clause-few : goal.together-requires-clause-few
together-requires-clause-few g c κs within =
    let n = given_count _ _ _ _ _ c.in-Ok.ensures.shared.0.given in omega (arith, n, c.requires.job.1)

pub together-requires-clause-fresh : goal.together-requires-clause-fresh
together-requires-clause-fresh g c κs within = given_fresh _ _ _ _ _ c.in-Ok.ensures.shared.0.given

pub returns-in-Ok-clause-worked : goal.returns-in-Ok-clause-worked
returns-in-Ok-clause-worked g c = lines_worked _ _ _ _ _ _ _ _ c.in-Ok.ensures.shared.0 c.in-Ok.ensures.shared.1 c.together.ensures.worked c.together.ensures.refused
