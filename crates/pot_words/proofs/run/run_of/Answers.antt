use Rattle.pot_words.proofs.run.run_of.Goals as goal

pub returns-in_err-workers : goal.returns-in_err-workers
returns-in_err-workers c = rw c.from_residual-in_err-workers.ensures (λ run has. c.in_err-workers.ensures run.workers has.1)

pub returns-in_err-careful : goal.returns-in_err-careful
returns-in_err-careful c = rw c.from_residual-in_err-careful.ensures (λ run has. c.in_err-careful.ensures run.careful has.2)
