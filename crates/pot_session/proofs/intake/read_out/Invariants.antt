use Rattle.std.proofs.Common.{◌≡◌, ◌≤◌, ◌-◌, ◌++◌, ◌+◌, IsTrue, length}
use Rattle.pot_session.proofs.intake.read_out.Given as goal

abbrev pub invariant-loop-buffer : goal.invariant-loop-buffer
invariant-loop-buffer g l = record {
  told : IsTrue g.S.Source.account.tells → (g.S.Source.account.meaning l.initial.source).held ≡ l.bytes.items ++ (g.S.Source.account.meaning l.source).held;
  most : length l.bytes.items ≤ l.limit + 1;
  later : (g.S.Source.account.meaning l.initial.source).faults ≤ (g.S.Source.account.meaning l.source).faults;
}

abbrev pub decreases-loop-buffer : goal.decreases-loop-buffer
decreases-loop-buffer g l = (l.limit + 1) - length l.bytes.items
