use Rattle.std.proofs.Common.{ap, sym, ◌∙◌, arith, ◌≡◌, ◌≤◌, ◌+◌, ℕ}
use Rattle.pot_image.proofs.Once.{done_reads}
use Rattle.pot_image.proofs.Steps.{fails_as, exits, done_as, several_on, several_fails, several_done}
use Rattle.pot_image.proofs.MarkRules.{stamps_below}
use Rattle.pot_image.proofs.records.read_older.Goals as goal

pub returns-in_err-split-clause-reads : goal.returns-in_err-split-clause-reads
returns-in_err-split-clause-reads c = exits _ _ _ _ c.from_residual-in_err-split.ensures.1 (fails_as _ _ _ c.loop-number.invariant.reads (several_fails _ _ _ _ _ _ c.loop-number-test.true c.in_err-split.ensures.reads))

pub loop-number-preserved : goal.loop-number-preserved
loop-number-preserved c = record {
  reads = sym (several_on _ _ _ _ _ _ _ _ c.loop-number-test.true c.in_ok-split.ensures.reads c.in_ok-push.ensures.items) ∙ c.loop-number.invariant.reads;
  stamps = stamps_below _ _ _ _ c.in_ok-split.ensures.stamps (now_is c.args.last c.loop-number.number c.from-in-loop-number.result c.from-in-loop-number.ensures);
  number = c.in_ok-push.ensures.len ∙ ap (λ n. n + 1) c.loop-number.invariant.number;
}
  where
    now_is : (last n m : ℕ) → m ≡ n → last + 1 + m ≤ last + (n + 1)
    now_is last n m e = omega (arith, e)

pub returns-clause-reads : goal.returns-clause-reads
returns-clause-reads c = sym c.loop-number.invariant.reads ∙ several_done _ _ _ _ _ c.loop-number-test.false ∙ sym (done_reads _ _) ∙ done_as _ _ _ (sym c.from_vec.ensures)
