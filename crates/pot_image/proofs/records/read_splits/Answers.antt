use Rattle.pot_image.specs.Reading.{reading}
use Rattle.std.proofs.Common.{ap, sym, ◌∙◌, arith, ◌≤◌, ◌+◌, ◌-◌, ℕ}
use Rattle.pot_image.proofs.Once.{ok_then, done_reads}
use Rattle.pot_image.proofs.Steps.{fails_then, fails_on, fails_as, exits, done_as, between_of}
use Rattle.pot_image.specs.Records.{splits}
use Rattle.pot_image.proofs.MarkRules.{stamps_below}
use Rattle.pot_image.proofs.records.read_splits.Goals as goal

pub overflow_sub-count : goal.overflow_sub-count
overflow_sub-count c = (between_of _ _ _ _ _ _ c.in_ok-count-in-Second.ensures).0

pub read_older-requires-clause-count : goal.read_older-requires-clause-count
read_older-requires-clause-count c = low c.in_ok-count-in-Second.count (between_of _ _ _ _ _ _ c.in_ok-count-in-Second.ensures).1
  where
    low : (n : ℕ) → n ≤ 16 → n - 1 ≤ 15
    low n l = omega (arith, l)

pub read_split-requires-clause-stamps : goal.read_split-requires-clause-stamps
read_split-requires-clause-stamps c = stamps_below _ _ _ _ c.in_ok-older-in-Second.ensures.stamps (low c.args.last c.in_ok-count-in-Second.count (between_of _ _ _ _ _ _ c.in_ok-count-in-Second.ensures).1)
  where
    low : (last n : ℕ) → n ≤ 16 → last + (n - 1) ≤ last + 16 - 1
    low last n l = omega (arith, l)

pub returns-in_err-places-in-First-clause-reads : goal.returns-in_err-places-in-First-clause-reads
unfolding splits
returns-in_err-places-in-First-clause-reads c = exits _ _ _ _ c.from_residual.ensures.1 (fails_as _ _ _ (ap (λ f. reading (splits f c.args.rack.now c.args.tables.now c.args.pieces) c.args.bytes.now) (sym c.in-First.is)) (fails_then _ _ _ _ c.in_err-places-in-First.ensures.reads))

pub returns-in_err-count-in-Second-clause-reads : goal.returns-in_err-count-in-Second-clause-reads
unfolding splits
returns-in_err-count-in-Second-clause-reads c = exits _ _ _ _ c.from_residual-in_err-count-in-Second.ensures.1 (fails_as _ _ _ (ap (λ f. reading (splits f c.args.rack.now c.args.tables.now c.args.pieces) c.args.bytes.now) (sym c.in-Second.is)) (fails_then _ _ _ _ c.in_err-count-in-Second.ensures))

pub returns-in_err-older-in-Second-clause-reads : goal.returns-in_err-older-in-Second-clause-reads
unfolding splits
returns-in_err-older-in-Second-clause-reads c = exits _ _ _ _ c.from_residual-in_err-older-in-Second.ensures.1 (fails_as _ _ _ (ap (λ f. reading (splits f c.args.rack.now c.args.tables.now c.args.pieces) c.args.bytes.now) (sym c.in-Second.is)) (fails_on _ _ _ _ _ _ c.in_ok-count-in-Second.ensures (fails_then _ _ _ _ c.in_err-older-in-Second.ensures.reads)))

pub returns-in_err-current-in-Second-clause-reads : goal.returns-in_err-current-in-Second-clause-reads
unfolding splits
returns-in_err-current-in-Second-clause-reads c = exits _ _ _ _ c.from_residual-in_err-current-in-Second.ensures.1 (fails_as _ _ _ (ap (λ f. reading (splits f c.args.rack.now c.args.tables.now c.args.pieces) c.args.bytes.now) (sym c.in-Second.is)) (fails_on _ _ _ _ _ _ c.in_ok-count-in-Second.ensures (fails_on _ _ _ _ _ _ c.in_ok-older-in-Second.ensures.reads (fails_then _ _ _ _ c.in_err-current-in-Second.ensures.reads))))

pub returns-in_ok-places-in-First-clause-reads : goal.returns-in_ok-places-in-First-clause-reads
unfolding splits
returns-in_ok-places-in-First-clause-reads c = ap (λ f. reading (splits f c.args.rack.now c.args.tables.now c.args.pieces) c.args.bytes.now) c.in-First.is ∙ ok_then _ _ _ _ _ _ c.in_ok-places-in-First.ensures.reads (done_as _ _ _ (ap (λ xs. record { older = xs; current = record { geometry = c.args.rack.now.geometry; places = c.in_ok-places-in-First.places } }) (sym (c.from_vec-older.ensures ∙ c.new.ensures.items))))

pub returns-in_ok-current-in-Second-clause-reads : goal.returns-in_ok-current-in-Second-clause-reads
unfolding splits
returns-in_ok-current-in-Second-clause-reads c = ap (λ f. reading (splits f c.args.rack.now c.args.tables.now c.args.pieces) c.args.bytes.now) c.in-Second.is ∙ ok_then _ _ _ _ _ _ c.in_ok-count-in-Second.ensures (ok_then _ _ _ _ _ _ c.in_ok-older-in-Second.ensures.reads (ok_then _ _ _ _ _ _ c.in_ok-current-in-Second.ensures.reads (done_reads _ _)))
