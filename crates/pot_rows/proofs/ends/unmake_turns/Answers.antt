use Rattle.std.proofs.Common.{◌∙◌, ◌+◌, ◌≤◌, length, length-append, [], ◌∷◌, ap, arith}
use Rattle.std.specs.Vec.{vec_capacity}
use Rattle.pot_turn.specs.Views.{stretches_of}
use Rattle.pot_turn.specs.Passes.{view, turn_of, name_of, made_with}
use Rattle.pot_rows.specs.Ends.{first_of}
use Rattle.pot_rows.proofs.EndLemmas.{first_left, last_knows, back_more}
use Rattle.pot_rows.proofs.ends.unmake_turns.Goals as goal

pub loop-turn-preserved : goal.loop-turn-preserved
loop-turn-preserved g c =
    let now = c.loop-turn in
    let sofar = now.invariant in
    let turn = c.in-Some.turn in
    let pass = c.in-Some-pop.pass in
    let turns = c.in-Some.ensures.items in
    let passes = c.in-Some-pop.ensures.items in
    let knows = last_knows name_of turn_of view (first_of g.T.Kept.log g.T.Kept.origin) made_with now.turns.items _ turn now.passes.items _ pass turns passes sofar.0.0 sofar.0.1 in
    let pushed = c.push_reserved.ensures in
    let capacity = pushed.capacity in
    let fuller = ap length pushed.items ∙ length-append now.values.items _ in
    let fewer = ap length turns ∙ length-append c.pop.new.self.items (turn ∷ []) in
    let room : length c.push_reserved.new.self.items + length c.pop.new.self.items ≤ vec_capacity c.push_reserved.new.self = omega (arith, sofar.2, capacity, fuller, fewer) in (
      first_left name_of turn_of view (first_of g.T.Kept.log g.T.Kept.origin) made_with now.turns.items _ turn now.passes.items _ pass turns passes sofar.0.0 sofar.0.1,
      back_more name_of turn_of view (first_of g.T.Kept.log g.T.Kept.origin) made_with now.turns.items _ turn now.passes.items _ pass turns passes sofar.0.0 sofar.0.1
          now.values.items _ _ c.close.result pushed.items (c.close.ensures.untouched (ap stretches_of knows)) sofar.1,
      room,
      capacity ∙ sofar.3,
    )
