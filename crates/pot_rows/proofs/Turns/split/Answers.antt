use Rattle.std.proofs.Common.{◌∙◌, ◌<◌, ◌≤◌, [], ◌∷◌, length, arith, ap}
use Rattle.std.specs.Prelude.{map}
use Rattle.std.specs.Vec.{vec_capacity}
use Rattle.std.proofs.lemmas.List.{map-append}
use Rattle.pot_turn.specs.Passes.{view, turn_of}
use Rattle.pot_rows.proofs.PartLemmas.{split_more}
use Rattle.pot_rows.proofs.Turns.split.Goals as goal

pub loop-at-preserved : goal.loop-at-preserved
loop-at-preserved g c =
    let now = c.loop-at in
    let part = c.split_at-part.result in
    let within : now.at < length c.args.self.now.names = omega (arith, c.len-at-end.ensures, now.auto.at-end, c.loop-at-test.true) in
    let items = c.push_reserved.ensures.items in
    let room : length c.args.self.now.names ≤ vec_capacity c.push_reserved.new.self = omega (arith, now.invariant.1, c.push_reserved.ensures.capacity) in (
      split_more c.args.self.now.names c.args.passes.now now.at c.args.parts now.passes _ c.split_at-part.new.passes _ (turn_of part) (view part) within now.invariant.0
          c.split_at-part.ensures.left c.split_at-part.ensures.own c.split_at-part.ensures.given
          (ap (map turn_of) items ∙ map-append turn_of now.given.items (part ∷ [])) (ap (map view) items ∙ map-append view now.given.items (part ∷ [])),
      room,
    )
