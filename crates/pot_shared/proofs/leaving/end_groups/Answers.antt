use Rattle.std.proofs.Common.{◌≡◌, ◌<◌, length, refl, sym, ◌∙◌, arith}
use Rattle.std.proofs.lemmas.List.{nil_from_length, length-map}
use Rattle.pot_outside.specs.declared.archive.Shelf.{Shelf}
use Rattle.pot_shared.proofs.Lists.{first_is, some_left, is_zero}
use Rattle.pot_shared.proofs.GroupLemmas.{none_ended, one_ended, all_ended, ended_long, hand_room}
use Rattle.pot_shared.proofs.leaving.end_groups.Goals as goal

pub loop-members-init : goal.loop-members-init
loop-members-init g c = record {
  ended = none_ended _ _ _ _ _ _ _ _;
  tables = refl;
  logs = refl;
  hand = refl;
}

pub end_group-requires-clause-tables : goal.end_group-requires-clause-tables
end_group-requires-clause-tables g c =
    let long = ended_long _ _ _ _ _ _ _ _ _ _ _ _ _ c.loop-members.invariant.ended in let some = some_left _ (sym c.loop-members-test.ensures) in
    omega (arith, long.0, some, c.loop-members.members.ok.0, c.requires.tables, c.loop-members.invariant.tables)

pub end_group-requires-clause-logs : goal.end_group-requires-clause-logs
end_group-requires-clause-logs g c =
    let long = ended_long _ _ _ _ _ _ _ _ _ _ _ _ _ c.loop-members.invariant.ended in let some = some_left _ (sym c.loop-members-test.ensures) in
    let a = length-map c.loop-members.remains.logs.items (λ v. v.items) in let b = length-map c.args.remains.now.logs.items (λ v. v.items) in
    omega (arith, long.1, some, a, b, c.loop-members.members.ok.0, c.requires.logs, c.loop-members.invariant.logs)

pub end_group-requires-clause-hand : goal.end_group-requires-clause-hand
end_group-requires-clause-hand g c =
    let some : 0 < length c.loop-members.members.items = omega (arith, some_left _ (sym c.loop-members-test.ensures), c.loop-members.members.ok.0) in
    let split = first_is c.loop-members.members.items c.remove-group.new.self.items c.remove-group.result some c.remove-group.ensures.value c.remove-group.ensures.items in
    let room = hand_room _ _ _ _ _ _ _ _ _ _ _ _ _ _ _ c.loop-members.invariant.ended split in
    let a = length-map c.loop-members.remains.hand.items (λ (s : Shelf _). s.number) in let b = length-map c.args.remains.now.hand.items (λ (s : Shelf _). s.number) in
    omega (arith, room, a, b, c.requires.hand, c.loop-members.invariant.hand)

pub loop-members-preserved : goal.loop-members-preserved
loop-members-preserved g c =
    let some : 0 < length c.loop-members.members.items = omega (arith, some_left _ (sym c.loop-members-test.ensures), c.loop-members.members.ok.0) in
    let split = first_is c.loop-members.members.items c.remove-group.new.self.items c.remove-group.result some c.remove-group.ensures.value c.remove-group.ensures.items in
    record {
      ended = one_ended _ _ _ _ _ _ _ _ _ _ _ _ _ _ _ _ _ _ _ c.loop-members.invariant.ended split c.end_group.ensures.tables c.end_group.ensures.logs c.end_group.ensures.hand c.end_group.ensures.shelves c.end_group.ensures.ended;
      tables = c.end_group.ensures.spaces.0 ∙ c.loop-members.invariant.tables;
      logs = c.end_group.ensures.spaces.1 ∙ c.loop-members.invariant.logs;
      hand = c.end_group.ensures.spaces.2 ∙ c.loop-members.invariant.hand;
    }

pub returns : goal.returns
returns g c =
    let z : length c.loop-members.members.items ≡ 0 = omega (arith, is_zero _ (sym c.loop-members-test.ensures), c.loop-members.members.ok.0) in
    let all = all_ended _ _ _ _ _ _ _ _ _ _ _ _ _ c.loop-members.invariant.ended (nil_from_length c.loop-members.members.items z) in
    record { tables = all.tables; logs = all.logs; hand = all.hand; shelves = all.shelves; ended = all.ended }
