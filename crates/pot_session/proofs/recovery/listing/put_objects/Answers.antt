use Rattle.std.proofs.Common.{arith}
use Rattle.pot_session.specs.Listing.{object_line}
use Rattle.pot_session.proofs.ListingLemmas.{texts_begun, texts_more}
use Rattle.pot_session.proofs.recovery.listing.put_objects.Goals as goal

pub returns-in-Err-clause-puts : goal.returns-in-Err-clause-puts
returns-in-Err-clause-puts g c = λ told.
    texts_begun object_line c.args.found.now _ _ _ c.loop-place.place c.object.result.now (omega (arith, c.loop-place-test.true, c.len-place-end.ensures)) c.object.ensures (c.loop-place.invariant.written told)
    (c.in-Err.ensures.puts (object_line c.object.result.now) c.object_line.ensures told)

pub loop-place-preserved : goal.loop-place-preserved
loop-place-preserved g c = record {
  written = λ told.
      texts_more object_line c.args.found.now _ _ _ c.loop-place.place c.object.result.now (omega (arith, c.loop-place-test.true, c.len-place-end.ensures)) c.object.ensures (c.loop-place.invariant.written told)
      (c.in-Ok.ensures.puts (object_line c.object.result.now) c.object_line.ensures told);
  later = (let a = c.loop-place.invariant.later in let b = c.put_line.ensures.cause.later in omega (arith, a, b));
}
