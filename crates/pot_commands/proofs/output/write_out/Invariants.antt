use Rattle.std.proofs.Common.{◌≤◌, IsTrue, length}
use Rattle.pot_commands.proofs.StreamLemmas.{IsPartWritten}
use Rattle.pot_commands.proofs.output.write_out.Given as goal

abbrev pub invariant-loop-rest : goal.invariant-loop-rest
invariant-loop-rest g l = record {
  told : IsTrue g.K.Sink.account.tells → IsPartWritten (g.K.Sink.account.meaning l.initial.sink).held (g.K.Sink.account.meaning l.sink).held l.text l.rest;
  later : (g.K.Sink.account.meaning l.initial.sink).faults ≤ (g.K.Sink.account.meaning l.sink).faults;
}

abbrev pub decreases-loop-rest : goal.decreases-loop-rest
decreases-loop-rest g l = length l.rest
