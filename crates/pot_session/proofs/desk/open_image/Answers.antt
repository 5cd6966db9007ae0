use Rattle.std.proofs.Common.{inl, inr, arith}
use Rattle.pot_session.proofs.desk.open_image.Goals as goal

pub returns-then-image-clause-opens : goal.returns-then-image-clause-opens
returns-then-image-clause-opens c = (c.in_ok-image.image, c.in_ok-image.ensures.image, inl (omega (arith, c.if-image.true)))

pub returns-then-len-gt-MOST_RECORDS-clause-opens : goal.returns-then-len-gt-MOST_RECORDS-clause-opens
returns-then-len-gt-MOST_RECORDS-clause-opens c = (c.in_ok-image.image, c.in_ok-image.ensures.image, inr (omega (arith, c.len.ensures, c.if-len-gt-MOST_RECORDS.true)))
