use Rattle.std.proofs.Common.{IsTrue, false, arith}
use Rattle.pot_object.specs.Assembly.{count_of, piece_at}
use Rattle.pot_object.proofs.AssemblyLemmas.{gap}
use Rattle.pot_object.proofs.assembly.first_gap.Goals as goal

pub returns-then-not-is_in_place : goal.returns-then-not-is_in_place
returns-then-not-is_in_place c =
    let objects = c.args.objects.now in
    let begins = c.loop-piece.invariant in
    record {
      exists = omega (arith, c.loop-piece-test.true, c.requires.pieces);
      missing = gap (piece_at objects) (count_of objects) c.loop-piece.piece c.requires.series.objects_are.ascending begins
          (λ place. let yes : IsTrue false = c.if-not-is_in_place.ensures.1 place in cc);
      least = λ q l. (q, (begins q l).0, (begins q l).1);
    }

pub returns : goal.returns
returns c k l = c.loop-piece.invariant k (omega arith)
