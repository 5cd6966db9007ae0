use Rattle.pot_words.proofs.recover.recover_of.Goals as goal

pub returns-in_err-way : goal.returns-in_err-way
returns-in_err-way c = rw c.from_residual-in_err-way.ensures (λ r has. c.in_err-way.ensures r.way has.3)

pub returns-in_err-bounded : goal.returns-in_err-bounded
returns-in_err-bounded c = rw c.from_residual-in_err-bounded.ensures (λ r has. c.in_err-bounded.ensures r.bounded has.4)
