use Rattle.pot_image.specs.Reading.{reading}
use Rattle.std.proofs.Common.{ap, sym, subst, ◌∙◌, arith, ◌≡◌, ◌≤◌, ◌+◌, ℕ, refl}
use Rattle.pot_image.proofs.Steps.{fails_as, exits, several_begins, several_on, several_fails, several_done}
use Rattle.pot_image.specs.Records.{record_behind}
use Rattle.pot_image.specs.Marks.{AreStamps}
use Rattle.pot_image.proofs.MarkRules.{stamps_below}
use Rattle.std.proofs.Common.{◌*◌}
use Rattle.pot_image.proofs.records.read_counted.Goals as goal

pub loop-number-init : goal.loop-number-init
loop-number-init c = record { reads = several_begins _ _ _ _ _ c.in_ok-records.ensures.items; stamps = c.requires.stamps }

pub read_record-requires-clause-stamps : goal.read_record-requires-clause-stamps
read_record-requires-clause-stamps c = subst (λ n. AreStamps c.args.rack.now c.loop-number.stamps (n * 16)) (sym c.from-last.ensures) c.loop-number.invariant.stamps

pub returns-in_err-record : goal.returns-in_err-record
returns-in_err-record c = exits _ _ _ _ c.from_residual-in_err-record.ensures.1 (fails_as _ _ _ c.loop-number.invariant.reads (several_fails _ _ _ _ _ _ c.loop-number-test.true (fails_as _ _ _ (ap (λ rs. reading (record_behind c.args.format c.args.rack.now c.args.tables.now c.loop-number.number rs) c.loop-number.rest.now) c.deref.ensures.value) (c.in_err-record.ensures.reads c.loop-number.number))))

next : (n m last : ℕ) → m ≡ n → last ≡ m * 16 → last + 16 ≤ (n + 1) * 16
next n m last e f = omega (arith, e, f)

pub loop-number-preserved : goal.loop-number-preserved
loop-number-preserved c = record {
  reads = sym (several_on _ _ _ _ _ _ _ _ c.loop-number-test.true (sym (ap (λ rs. reading (record_behind c.args.format c.args.rack.now c.args.tables.now c.loop-number.number rs) c.loop-number.rest.now) c.deref.ensures.value) ∙ c.in_ok-record.ensures.reads c.loop-number.number) c.in_ok-push.ensures.items) ∙ c.loop-number.invariant.reads;
  stamps = stamps_below _ _ _ _ c.in_ok-record.ensures.stamps (next c.loop-number.number c.from-last.result _ c.from-last.ensures refl);
}

pub returns : goal.returns
returns c = sym c.loop-number.invariant.reads ∙ several_done _ _ _ _ _ c.loop-number-test.false
