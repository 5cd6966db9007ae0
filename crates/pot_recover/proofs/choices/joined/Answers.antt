use Rattle.std.proofs.Common.{◌∙◌, [], ℕ, List, drop, map, get_or, refl, ap, arith, length-drop}
use Rattle.std.proofs.lemmas.List.{take_all}
use Rattle.pot_bytes.specs.Sums.{xor, sum_of}
use Rattle.pot_chains.specs.Picks.{pick_at}
use Rattle.pot_recover.specs.Choices.{items_of}
use Rattle.pot_recover.proofs.ObjectLemmas.{no_part, sum_more, rest_less, sum_done}
use Rattle.pot_recover.proofs.choices.joined.Goals as goal

pub loop-part-init : goal.loop-part-init
loop-part-init c = (
  ap (λ (o : List ℕ). xor o (sum_of 928 (map (drop 64) (pick_at [] (map items_of c.args.parts.now) c.args.number))))
      (c.copy_from_slice.ensures.after ∙ take_all 928 (drop 64 c.args.first.now) (omega (arith, length-drop 64 c.args.first.now, c.told-first))),
  c.requires.number,
  c.copy_from_slice.ensures.len,
)

pub loop-part-preserved : goal.loop-part-preserved
loop-part-preserved c =
    let parts = c.args.parts.now in
    let i = c.loop-part.part-index in
    let part = get_or parts i no_part in (
      sum_more parts i part no_part c.loop-part-test.true refl c.loop-part.object c.add_fragment.new.object _ c.loop-part.rest c.loop-part.invariant.1 c.loop-part.invariant.0 c.add_fragment.ensures,
      rest_less parts i part no_part c.loop-part-test.true refl c.loop-part.rest c.loop-part.invariant.1,
      c.add_fragment.array_long,
    )

pub returns : goal.returns
returns c =
    sum_done c.args.parts.now c.loop-part.part-index c.loop-part.rest c.loop-part.object _ (omega (arith, c.loop-part-test.false)) c.loop-part.invariant.2 c.loop-part.invariant.0
