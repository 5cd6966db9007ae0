use Rattle.pot_image.specs.Reading.{reading}
use Rattle.std.proofs.Common.{ap, sym, subst, ◌∙◌, []}
use Rattle.pot_image.proofs.Once.{done_reads}
use Rattle.pot_image.proofs.Steps.{fails_as, exits, done_as, several_on, several_fails, several_done}
use Rattle.pot_image.specs.Reading.{several}
use Rattle.pot_image.specs.Records.{place, places}
use Rattle.pot_image.specs.Marks.{HaveMarks}
use Rattle.pot_image.proofs.PlaceRules.{as_total}
use Rattle.pot_image.proofs.places.read_places.Goals as goal

pub returns-in_err-place-clause-reads : goal.returns-in_err-place-clause-reads
unfolding places
returns-in_err-place-clause-reads c = exits _ _ _ _ c.from_residual-in_err-place.ensures.1 (fails_as _ _ _ (ap (λ n. reading (several 0 n (place c.args.rack.now c.args.tables.now c.args.geometry) []) c.args.bytes.now) (as_total _ _ _ _ _ c.from.ensures c.from-2.ensures)) (fails_as _ _ _ c.loop-number.invariant.reads (several_fails _ _ _ _ _ _ c.loop-number-test.true (c.in_err-place.ensures.reads c.loop-number.places.items c.loop-number.invariant.marks))))

pub loop-number-preserved : goal.loop-number-preserved
loop-number-preserved c = record {
  reads = sym (several_on _ _ _ _ _ _ _ _ c.loop-number-test.true (c.in_ok-place.ensures.reads c.loop-number.places.items c.loop-number.invariant.marks) c.in_ok-push.ensures.items) ∙ c.loop-number.invariant.reads;
  marks = subst (HaveMarks c.args.rack.now _ c.args.last) (sym c.in_ok-push.ensures.items) (c.in_ok-place.ensures.marks c.loop-number.places.items c.loop-number.invariant.marks);
}

pub returns-clause-reads : goal.returns-clause-reads
unfolding places
returns-clause-reads c = sym (ap (λ n. reading (several 0 n (place c.args.rack.now c.args.tables.now c.args.geometry) []) c.args.bytes.now) (as_total _ _ _ _ _ c.from.ensures c.from-2.ensures)) ∙ sym c.loop-number.invariant.reads ∙ several_done _ _ _ _ _ c.loop-number-test.false ∙ sym (done_reads _ _) ∙ done_as _ _ _ (sym c.from_vec.ensures)
