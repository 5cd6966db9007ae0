use Rattle.std.proofs.Common.{length}
use Rattle.pot_split.proofs.RowLemmas.{IsUnderWay}
use Rattle.pot_split.proofs.secrecy.add_rows.Given as goal

abbrev pub invariant-loop : goal.invariant-loop
invariant-loop l = IsUnderWay (length l.initial.into) l.count l.counter l.initial.into l.rows l.into l.rest
