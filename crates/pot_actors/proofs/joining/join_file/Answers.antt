use Rattle.std.proofs.Common.{◌≡◌, ◌++◌, ℕ, length, drop, ap, refl, ◌∙◌, arith, length-drop}
use Rattle.std.proofs.lemmas.List.{take_all}
use Rattle.pot_object.specs.Pieces.{pieces_of}
use Rattle.pot_actors.proofs.PieceLemmas.{gives, has_gathered, pieces_more, pieces_none}
use Rattle.pot_actors.proofs.joining.join_file.Goals as goal

pub loop-piece-init : goal.loop-piece-init
loop-piece-init c = record {
  joined = pieces_none c.args.kept.now c.args.gathered.now c.new-file.result.items c.new-file.ensures.items;
  room = c.in_ok-fragments.ensures.capacity;
  wide = refl;
}

pub join_piece-requires-clause-room : goal.join_piece-requires-clause-room
join_piece-requires-clause-room c = c.loop-piece.invariant.room

pub loop-piece-preserved : goal.loop-piece-preserved
loop-piece-preserved c =
    let behind : length (drop 64 c.join_piece.new.object) ≡ 864 = omega (arith, length-drop {A = ℕ} 64 c.join_piece.new.object, c.join_piece.array_long) in
    let part = take_all 864 (drop 64 c.join_piece.new.object) (omega (arith, behind)) in
    record {
      joined = pieces_more c.args.kept.now c.args.gathered.now c.loop-piece.piece c.loop-piece.file.items c.extend_from_slice.new.self.items c.join_piece.new.object
          c.loop-piece.invariant.joined c.if-not-join_piece.ensures.joined (c.in_ok-extend_from_slice.ensures.items ∙ ap (λ xs. c.loop-piece.file.items ++ xs) part);
      room = c.if-not-join_piece.ensures.room;
      wide = c.join_piece.array_long;
    }

pub returns : goal.returns
returns c =
    let e : c.loop-piece.piece ≡ pieces_of c.args.kept.now.length = omega (arith, c.loop-piece-test.false, c.loop-piece.auto.piece-end, c.count_pieces-piece-end.ensures.value) in
    let is = c.from_vec.ensures ∙ c.truncate.ensures.items in (
      has_gathered c.args.kept.now c.args.gathered.now c.loop-piece.piece c.loop-piece.file.items c.from_vec.result c.loop-piece.invariant.joined e is,
      gives c.args.kept.now c.args.gathered.now c.loop-piece.piece c.loop-piece.file.items c.from_vec.result c.loop-piece.invariant.joined e is,
    )
