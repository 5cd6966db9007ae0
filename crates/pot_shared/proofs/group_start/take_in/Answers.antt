use Rattle.std.proofs.Common.{◌≡◌, ◌<◌, length, refl, sym, ◌∙◌, arith}
use Rattle.std.proofs.lemmas.List.{nil_from_length}
use Rattle.pot_shared.proofs.TakenIn.{none_taken, one_taken, all_taken, room_left}
use Rattle.pot_shared.proofs.Lists.{first_is, some_left, is_zero}
use Rattle.pot_shared.proofs.group_start.take_in.Goals as goal

pub loop-starts-init : goal.loop-starts-init
loop-starts-init g c = record { taken = none_taken _ _ _ _ _; space = refl; places = refl }

pub take_one-requires-clause-room : goal.take_one-requires-clause-room
take_one-requires-clause-room g c =
    let some : 0 < length c.loop-starts.starts.items = omega (arith, some_left _ (sym c.loop-starts-test.ensures), c.loop-starts.starts.ok.0) in
    let split = first_is c.loop-starts.starts.items c.remove-start.new.self.items c.remove-start.result some c.remove-start.ensures.value c.remove-start.ensures.items in
    let room = room_left _ _ _ _ _ _ _ _ _ _ c.loop-starts.invariant.taken split in
    omega (arith, room.0, c.requires.room, c.loop-starts.invariant.space)

pub take_one-requires-clause-places : goal.take_one-requires-clause-places
take_one-requires-clause-places g c =
    let some : 0 < length c.loop-starts.starts.items = omega (arith, some_left _ (sym c.loop-starts-test.ensures), c.loop-starts.starts.ok.0) in
    let split = first_is c.loop-starts.starts.items c.remove-start.new.self.items c.remove-start.result some c.remove-start.ensures.value c.remove-start.ensures.items in
    let room = room_left _ _ _ _ _ _ _ _ _ _ c.loop-starts.invariant.taken split in
    omega (arith, room.1, c.requires.places, c.loop-starts.invariant.places)

pub loop-starts-preserved : goal.loop-starts-preserved
loop-starts-preserved g c =
    let some : 0 < length c.loop-starts.starts.items = omega (arith, some_left _ (sym c.loop-starts-test.ensures), c.loop-starts.starts.ok.0) in
    let split = first_is c.loop-starts.starts.items c.remove-start.new.self.items c.remove-start.result some c.remove-start.ensures.value c.remove-start.ensures.items in
    record {
      taken = one_taken _ _ _ _ _ _ _ _ _ _ _ _ c.loop-starts.invariant.taken split c.take_one.ensures.hand c.take_one.ensures.members;
      space = c.take_one.ensures.space ∙ c.loop-starts.invariant.space;
      places = c.take_one.ensures.places ∙ c.loop-starts.invariant.places;
    }

pub returns : goal.returns
returns g c =
    let z : length c.loop-starts.starts.items ≡ 0 = omega (arith, is_zero _ (sym c.loop-starts-test.ensures), c.loop-starts.starts.ok.0) in
    let all = all_taken _ _ _ _ _ _ _ _ c.loop-starts.invariant.taken (nil_from_length c.loop-starts.starts.items z) in
    record { hand = all.0; members = all.1; space = c.loop-starts.invariant.space }
