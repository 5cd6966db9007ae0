use Rattle.std.proofs.Common.{◌≡◌, ◌<◌, ◌∷◌, [], length, refl, sym, ap, ◌∙◌, arith, length-append}
use Rattle.std.proofs.lemmas.List.{length-map}
use Rattle.pot_outside.specs.declared.archive.Shelf.{Shelf}
use Rattle.pot_shared.proofs.GivenOut.{none_given, next_table, one_given, kept_given, given_long}
use Rattle.pot_shared.proofs.Lists.{first_is, some_left, is_zero}
use Rattle.pot_shared.proofs.group_start.give_out.Goals as goal

pub loop-alloc-init : goal.loop-alloc-init
loop-alloc-init g c = record {
  given = none_given _ _ _ c.requires.none c.requires.hand;
  number_is = sym (ap length c.requires.none);
  space = refl;
  places = refl;
}

pub ready_start-requires-clause-relays : goal.ready_start-requires-clause-relays
ready_start-requires-clause-relays g c =
    let some : 0 < length c.loop-alloc.tables.items = omega (arith, some_left _ (sym c.loop-alloc-test.ensures), c.loop-alloc.tables.ok.0) in
    let split = first_is c.loop-alloc.tables.items c.remove-table.new.self.items c.remove-table.result some c.remove-table.ensures.value c.remove-table.ensures.items in
    (next_table c.args.rack.now _ _ _ _ _ _ _ c.requires.tables c.loop-alloc.invariant.given split).fits.relays

pub ready_start-requires-clause-count : goal.ready_start-requires-clause-count
ready_start-requires-clause-count g c =
    let some : 0 < length c.loop-alloc.tables.items = omega (arith, some_left _ (sym c.loop-alloc-test.ensures), c.loop-alloc.tables.ok.0) in
    let split = first_is c.loop-alloc.tables.items c.remove-table.new.self.items c.remove-table.result some c.remove-table.ensures.value c.remove-table.ensures.items in
    let n = (next_table c.args.rack.now _ _ _ _ _ _ _ c.requires.tables c.loop-alloc.invariant.given split).count in
    let m = length-map c.loop-alloc.hand.items (λ (s : Shelf _). s.number) in omega (arith, n, m)

pub ready_start-requires-clause-hand : goal.ready_start-requires-clause-hand
ready_start-requires-clause-hand g c =
    let some : 0 < length c.loop-alloc.tables.items = omega (arith, some_left _ (sym c.loop-alloc-test.ensures), c.loop-alloc.tables.ok.0) in
    let split = first_is c.loop-alloc.tables.items c.remove-table.new.self.items c.remove-table.result some c.remove-table.ensures.value c.remove-table.ensures.items in
    (next_table c.args.rack.now _ _ _ _ _ _ _ c.requires.tables c.loop-alloc.invariant.given split).first

pub push_reserved-requires : goal.push_reserved-requires
push_reserved-requires g c =
    let long = given_long _ _ _ _ _ c.loop-alloc.invariant.given in let some = some_left _ (sym c.loop-alloc-test.ensures) in
    omega (arith, long, some, c.loop-alloc.tables.ok.0, c.loop-alloc.starts.ok.0, c.requires.places, c.loop-alloc.invariant.places)

pub overflow_add-number : goal.overflow_add-number
overflow_add-number g c =
    let long = given_long _ _ _ _ _ c.loop-alloc.invariant.given in let some = some_left _ (sym c.loop-alloc-test.ensures) in
    omega (arith, long, some, c.loop-alloc.tables.ok.0, c.requires.few, c.loop-alloc.invariant.number_is)

pub loop-alloc-preserved : goal.loop-alloc-preserved
loop-alloc-preserved g c =
    let some : 0 < length c.loop-alloc.tables.items = omega (arith, some_left _ (sym c.loop-alloc-test.ensures), c.loop-alloc.tables.ok.0) in
    let split = first_is c.loop-alloc.tables.items c.remove-table.new.self.items c.remove-table.result some c.remove-table.ensures.value c.remove-table.ensures.items in
    let next = next_table c.args.rack.now _ _ _ _ _ _ _ c.requires.tables c.loop-alloc.invariant.given split in
    let more = ap length c.push_reserved.ensures.items in let one = length-append c.loop-alloc.starts.items (c.in-Ok.start ∷ []) in
    record {
      given = one_given c.args.rack.now _ _ _ _ _ _ _ _ _ _ c.loop-alloc.invariant.given split next c.push_reserved.ensures.items c.in-Ok.ensures.can (c.in-Ok.ensures.number ∙ c.loop-alloc.invariant.number_is) c.in-Ok.ensures.front
          c.in-Ok.ensures.rest;
      number_is = omega (arith, c.loop-alloc.invariant.number_is, more, one);
      space = c.ready_start.ensures.space ∙ c.loop-alloc.invariant.space;
      places = c.push_reserved.ensures.capacity ∙ c.loop-alloc.invariant.places;
    }

pub returns-in-Err : goal.returns-in-Err
returns-in-Err g c =
    record { given = (_, kept_given _ _ _ _ _ _ c.loop-alloc.invariant.given c.in-Err.ensures.refused); all = tt; space = c.ready_start.ensures.space ∙ c.loop-alloc.invariant.space }

pub returns : goal.returns
returns g c =
    let z : length c.loop-alloc.tables.items ≡ 0 = omega (arith, is_zero _ (sym c.loop-alloc-test.ensures), c.loop-alloc.tables.ok.0) in
    let long = given_long _ _ _ _ _ c.loop-alloc.invariant.given in
    record { given = (_, c.loop-alloc.invariant.given); all = omega (arith, z, long); space = c.loop-alloc.invariant.space }
