use Rattle.pot_index.specs.Records.{geometry_bytes, place_bytes}
use Rattle.pot_index.proofs.Writes.{stopped_in}
use Rattle.pot_index.proofs.writing.append_split.Goals as goal

pub returns-in_err-append-2 : goal.returns-in_err-append-2
returns-in_err-append-2 c =
    stopped_in place_bytes c.args.out.now c.loop-place.out c.append-in-loop-place.new.out _ c.from_residual-in_err-append-2.result (geometry_bytes c.args.geometry) c.place_bytes.result c.args.places.now c.loop-place.place-index _ c.loop-place-test.true c.from_residual-in_err-append-2.ensures.0 c.place_bytes.ensures c.loop-place.invariant c.in_err-append-2.ensures
