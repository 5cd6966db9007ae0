use Rattle.std.proofs.Common.{sym, arith, ◌≡◌, ◌≤◌, ◌<◌, ◌-◌, ℕ}
use Rattle.pot_image.proofs.Once.{ok_then, done_reads}
use Rattle.pot_image.proofs.Steps.{fails_then, fails_on, exits, fails_at, holds_of, between_of, narrowed, barred, cut_short}
use Rattle.std.proofs.lemmas.Bool.{leb-true, and_from, and_left}
use Rattle.pot_image.specs.Records.{place}
use Rattle.pot_image.proofs.Once.{err_then}
use Rattle.pot_image.proofs.PlaceRules.{group_read, group_is, group_short, second_false}
use Rattle.pot_image.proofs.places.read_place.Goals as goal

group_below : (e n g : ℕ) → n ≡ e → e < g → n < g
group_below e n g q l = omega (arith, q, l)

column_below : (n m : ℕ) → 1 ≤ m → n ≤ m - 1 → n < m
column_below n m l k = omega (arith, l, k)

pub is_filled-requires-clause-group : goal.is_filled-requires-clause-group
is_filled-requires-clause-group c = group_below _ _ _ (group_is _ _ _ _ c.in_ok-group.ensures) c.group_of-expected.ensures.within

pub is_filled-requires-clause-column : goal.is_filled-requires-clause-column
is_filled-requires-clause-column c = column_below _ _ c.requires.rack.columns.0 (between_of _ _ _ _ _ _ c.in_ok-column.ensures).1

pub is_filled-requires-clause-stripe : goal.is_filled-requires-clause-stripe
is_filled-requires-clause-stripe c = column_below _ _ c.requires.rack.stripes.0 (leb-true _ _ (holds_of _ _ _ _ _ c.in_ok-stripe.ensures))

pub stamp-requires-clause-group : goal.stamp-requires-clause-group
stamp-requires-clause-group c = group_below _ _ _ (group_is _ _ _ _ c.in_ok-group.ensures) c.group_of-expected.ensures.within

pub stamp-requires-clause-column : goal.stamp-requires-clause-column
stamp-requires-clause-column c = column_below _ _ c.requires.rack.columns.0 (between_of _ _ _ _ _ _ c.in_ok-column.ensures).1

pub stamp-requires-clause-stripe : goal.stamp-requires-clause-stripe
stamp-requires-clause-stripe c = column_below _ _ c.requires.rack.stripes.0 (leb-true _ _ (holds_of _ _ _ _ _ c.in_ok-stripe.ensures))

pub returns-in_err-group-clause-reads : goal.returns-in_err-group-clause-reads
unfolding place
returns-in_err-group-clause-reads c = λ before h. exits _ _ _ _ c.from_residual.ensures.1 (fails_then _ _ _ _ (group_short _ _ _ _ c.group_of-expected.ensures.value c.in_err-group.ensures))

pub returns-in_err-column-clause-reads : goal.returns-in_err-column-clause-reads
unfolding place
returns-in_err-column-clause-reads c = λ before h. exits _ _ _ _ c.from_residual-in_err-column.ensures.1 (fails_on _ _ _ _ _ _ (group_read _ _ _ _ _ c.group_of-expected.ensures.value c.in_ok-group.ensures) (fails_then _ _ _ _ c.in_err-column.ensures))

pub returns-in_err-stripe-clause-reads : goal.returns-in_err-stripe-clause-reads
unfolding place
returns-in_err-stripe-clause-reads c = λ before h. exits _ _ _ _ c.from_residual-in_err-stripe.ensures.1 (fails_on _ _ _ _ _ _ (group_read _ _ _ _ _ c.group_of-expected.ensures.value c.in_ok-group.ensures) (fails_on _ _ _ _ _ _ c.in_ok-column.ensures (fails_then _ _ _ _ (cut_short _ _ _ _ _ c.in_err-stripe.ensures))))

pub returns-then-not-is_filled-clause-reads : goal.returns-then-not-is_filled-clause-reads
unfolding place
returns-then-not-is_filled-clause-reads c = λ before h. fails_at _ _ _ c.at.ensures (ok_then _ _ _ _ _ _ (group_read _ _ _ _ _ c.group_of-expected.ensures.value c.in_ok-group.ensures) (ok_then _ _ _ _ _ _ c.in_ok-column.ensures (err_then _ _ _ _ (barred _ _ _ _ _ _ c.in_ok-stripe.ensures (and_left _ _ (sym c.if-not-is_filled.ensures))))))

pub returns-then-not-stamp-clause-reads : goal.returns-then-not-stamp-clause-reads
unfolding place
returns-then-not-stamp-clause-reads c = λ before h. fails_at _ _ _ c.at-then-not-stamp.ensures (ok_then _ _ _ _ _ _ (group_read _ _ _ _ _ c.group_of-expected.ensures.value c.in_ok-group.ensures) (ok_then _ _ _ _ _ _ c.in_ok-column.ensures (err_then _ _ _ _ (barred _ _ _ _ _ _ c.in_ok-stripe.ensures (second_false _ _ (sym c.if-not-is_filled.ensures) (sym (c.if-not-stamp.ensures.apart before h)))))))

pub returns-clause-reads : goal.returns-clause-reads
unfolding place
returns-clause-reads c = λ before h. ok_then _ _ _ _ _ _ (group_read _ _ _ _ _ c.group_of-expected.ensures.value c.in_ok-group.ensures) (ok_then _ _ _ _ _ _ c.in_ok-column.ensures (ok_then _ _ _ _ _ _ (narrowed _ _ _ _ _ _ c.in_ok-stripe.ensures (and_from _ _ (sym c.if-not-is_filled.ensures) (sym (c.if-not-stamp.ensures.apart before h)))) (done_reads _ _)))
