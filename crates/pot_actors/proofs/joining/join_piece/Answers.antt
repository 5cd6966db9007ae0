use Rattle.std.proofs.Common.{◌≡◌, ◌+◌, ◌*◌, ◌/◌, ◌++◌, ℕ, length, drop, ap, sym, refl, subst, ◌∙◌, arith, length-append, length-drop}
use Rattle.std.proofs.lemmas.List.{take_all}
use Rattle.pot_split.specs.Secrecy.{meaning}
use Rattle.pot_actors.proofs.PieceLemmas.{fragments_more, fragments_none, piece_joined}
use Rattle.pot_actors.proofs.joining.join_piece.Goals as goal

pub loop-fragment-init : goal.loop-fragment-init
loop-fragment-init c = record {
  joined = fragments_none c.args.kept.now c.args.gathered.now c.args.piece c.clear.new.self.items c.clear.ensures.items;
  long = ap length c.clear.ensures.items;
  room = omega (arith, c.clear.ensures.capacity, c.requires.room);
  wide = refl;
}

pub returns-then-not-join_fragment-clause-room : goal.returns-then-not-join_fragment-clause-room
returns-then-not-join_fragment-clause-room c = c.loop-fragment.invariant.room

pub append-requires : goal.append-requires
append-requires c =
    let behind : length (drop 64 c.join_fragment.new.content) ≡ 928 = omega (arith, length-drop {A = ℕ} 64 c.join_fragment.new.content, c.join_fragment.array_long) in
    let part = ap length (take_all 928 (drop 64 c.join_fragment.new.content) (omega (arith, behind))) in
    let few = c.requires.readable.geometry.fragments in
    omega (arith, behind, part, few.1, c.loop-fragment-test.true, c.loop-fragment.invariant.long, c.loop-fragment.invariant.room, c.loop-fragment.fragments.ok)

pub loop-fragment-preserved : goal.loop-fragment-preserved
loop-fragment-preserved c =
    let behind : length (drop 64 c.join_fragment.new.content) ≡ 928 = omega (arith, length-drop {A = ℕ} 64 c.join_fragment.new.content, c.join_fragment.array_long) in
    let part = take_all 928 (drop 64 c.join_fragment.new.content) (omega (arith, behind)) in
    let more = c.append.ensures.items ∙ ap (λ xs. c.loop-fragment.fragments.items ++ xs) part in
    record {
      joined = fragments_more c.args.kept.now c.args.gathered.now c.args.piece c.loop-fragment.fragment c.loop-fragment.fragments.items c.append.new.into.items c.join_fragment.new.content
          c.loop-fragment.invariant.joined c.if-not-join_fragment.ensures more;
      long = omega (arith, ap length more, length-append {A = ℕ} c.loop-fragment.fragments.items (drop 64 c.join_fragment.new.content), behind, c.loop-fragment.invariant.long);
      room = omega (arith, c.append.ensures.room, c.loop-fragment.invariant.room);
      wide = c.join_fragment.array_long;
    }

pub secrecy_join-requires-clause-rows : goal.secrecy_join-requires-clause-rows
secrecy_join-requires-clause-rows c =
    let e : length c.deref.result.now ≡ c.loop-fragment.fragment * 928 = ap length c.deref.ensures.value ∙ c.loop-fragment.invariant.long in
    subst (λ s. length c.deref.result.now ≡ length c.deref.result.now / s * s) (sym c.told-object) (omega (arith, e))

pub returns-clause-joined : goal.returns-clause-joined
returns-clause-joined c =
    piece_joined c.args.kept.now c.args.gathered.now c.args.piece c.loop-fragment.fragment c.loop-fragment.fragments.items c.secrecy_join.new.out c.loop-fragment.invariant.joined
    (omega (arith, c.loop-fragment-test.false, c.loop-fragment.auto.fragment-end))
    (c.secrecy_join.ensures ∙ ap (λ s. meaning s c.deref.result.now) c.told-object ∙ ap (meaning 928) c.deref.ensures.value)

pub returns-clause-room : goal.returns-clause-room
returns-clause-room c = c.loop-fragment.invariant.room
