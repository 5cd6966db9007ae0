use Rattle.std.proofs.Common.{ap, sym, subst, ◌∙◌, refl}
use Rattle.pot_image.proofs.Once.{ok_then}
use Rattle.pot_image.proofs.Steps.{fails_then, fails_on, exits}
use Rattle.pot_image.specs.Records.{records}
use Rattle.pot_image.specs.Marks.{AreStamps}
use Rattle.std.proofs.Common.{length}
use Rattle.pot_image.proofs.MarkRules.{no_stamps}
use Rattle.pot_image.proofs.records.read_records.Goals as goal

pub read_counted-requires-clause-stamps : goal.read_counted-requires-clause-stamps
read_counted-requires-clause-stamps c = subst (λ xs. AreStamps c.args.rack.now xs 0) (sym c.deref_mut.ensures.value) (no_stamps _ _ _ _ _ _ (c.in_ok-stamps.ensures.items_if_clones_equal (λ y e. e)) (sym (ap length c.deref_mut.ensures.value) ∙ c.deref_mut.ensures.len ∙ c.in_ok-stamps.ensures.len) c.from.ensures refl c.from-2.ensures)

pub returns-in_err-count : goal.returns-in_err-count
unfolding records
returns-in_err-count c = exits _ _ _ _ c.from_residual.ensures.1 (fails_then _ _ _ _ c.in_err-count.ensures)

pub returns-in_err-records : goal.returns-in_err-records
unfolding records
returns-in_err-records c = exits _ _ _ _ c.from_residual-in_err-records.ensures.1 (fails_on _ _ _ _ _ _ c.in_ok-count.ensures c.in_err-records.ensures)

pub returns : goal.returns
unfolding records
returns c = ok_then _ _ _ _ _ _ c.in_ok-count.ensures c.in_ok-records.ensures
