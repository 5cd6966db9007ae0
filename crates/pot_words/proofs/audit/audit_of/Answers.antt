use Rattle.pot_words.proofs.audit.audit_of.Goals as goal

pub returns-in_err-seen : goal.returns-in_err-seen
returns-in_err-seen c = rw c.from_residual.ensures (λ a has. c.in_err-seen.ensures a.seen has.0)

pub returns-in_err-loose : goal.returns-in_err-loose
returns-in_err-loose c = rw c.from_residual-in_err-loose.ensures (λ a has. c.in_err-loose.ensures a.loose has.1)

pub returns : goal.returns
returns c = (
  (c.in_ok-seen.ensures.0, c.in_ok-loose.ensures.0),
  λ a has i. record { seen = c.in_ok-seen.ensures.1 a.seen has.0 i; loose = c.in_ok-loose.ensures.1 a.loose has.1 i },
)
