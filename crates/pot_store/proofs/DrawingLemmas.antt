-- The steps of a drawing.
use Rattle.std.proofs.Common.{◌≡◌, ◌≤◌, ◌<◌, ◌+◌, ◌-◌, ◌*◌, ℕ, inl, inr, List, [], length, take, drop, get_or, ap, ap₂, sym, ◌∙◌, arith}
use Rattle.std.proofs.Math.Nat.{mul-le-mul_right, one-le-mul}
use Rattle.std.proofs.lemmas.Bool.{cases_lt}
use Rattle.std.proofs.lemmas.List.{get_or-take, get_or-drop, get_or_read_under}
use Rattle.pot_bytes.specs.Rack.{IsGeometry}
use Rattle.pot_bytes.specs.declared.rack.Geometry.{Geometry}
use Rattle.pot_object.specs.Pieces.{pieces_of}
use Rattle.pot_pads.specs.Pads.{Pads, next_bytes, moved}
use Rattle.pot_pads.proofs.PadsLemmas.{moved-moved}
use Rattle.pot_shard.specs.FileBlocks.{blocks_at, file_blocks, piece_blocks, piece_len, piece_random}
use Rattle.pot_shard.specs.Stretches.{piece_start}
use Rattle.pot_shard.proofs.BlockLemmas.{piece_of_blocks, one_part_more}
use Rattle.pot_shard.proofs.DrawLemmas.{draw_laws}
use Rattle.pot_store.specs.Drawing.{blocks_from, random_from, Drawn, IsDrawing}
use Rattle.pot_store.specs.declared.drawing.Drawing.TheInside.{Inside}

-- a block of a piece stands in those of its file
block_of_file : (g : Geometry) (file random : List ℕ) (i p : ℕ) → i < pieces_of (length file) → p < g.fragments * g.shards
    → get_or (file_blocks g file random) (i * (g.fragments * g.shards) + p) [] ≡ get_or (blocks_at g file random i) p []
block_of_file g file random i p exists inside =
    let size = g.fragments * g.shards in
    let all = file_blocks g file random in
    sym (ap (λ (z : List (List ℕ)). get_or z p []) (sym (piece_of_blocks g file random i exists))
    ∙ get_or-take size (drop (i * size) all) p [] inside ∙ get_or-drop (i * size) all p [])

-- a piece more was drawn
pub drawn_more : (g : Geometry) (file : List ℕ) (start pads pads' : Pads) (id random random' : List ℕ) (blocks blocks' : List (List ℕ))
    (piece left left' : ℕ) → IsDrawing g file start pads id random blocks piece left → piece < pieces_of (length file)
    → pads' ≡ moved pads (piece_len g) → length random' ≡ length random
    → blocks' ≡ piece_blocks g id file piece (next_bytes pads (piece_len g)) → length blocks' ≡ length blocks
    → left' ≡ length blocks → IsDrawing g file start pads' id random' blocks' (piece + 1) left'
drawn_more g file start pads pads' id random random' blocks blocks' piece left left' is exists moves as_long made as_many all =
    let here : piece + 1 - 1 ≡ piece = omega arith in
    let at : piece_start g piece + piece_len g ≡ piece_start g (piece + 1) = omega (arith, one_part_more piece (piece_len g)) in
    let own : next_bytes pads (piece_len g) ≡ piece_random g piece (random_from g file start) =
    ap (λ (z : Pads). next_bytes z (piece_len g)) is.place ∙ sym (draw_laws.piece g start (pieces_of (length file)) piece exists) in
    let name : id ≡ take 16 (random_from g file start) = is.id_is ∙ sym (draw_laws.id g start (pieces_of (length file))) in
    record {
      geometry = is.geometry;
      fits = is.fits;
      id_is = is.id_is;
      place = moves ∙ ap (λ (z : Pads). moved z (piece_len g)) is.place ∙ moved-moved start (piece_start g piece) (piece_len g)
          ∙ ap (moved start) at;
      random_room = as_long ∙ is.random_room;
      block_room = as_many ∙ is.block_room;
      within = omega arith;
      few = omega (arith, all, is.block_room);
      drawn = λ _. (
        omega arith,
        made ∙ ap₂ (λ (a b : List ℕ). piece_blocks g a file piece b) name own
            ∙ ap (blocks_at g file (random_from g file start)) (sym here),
      );
    }

-- a block was handed out
pub one_less : (g : Geometry) (file : List ℕ) (start pads : Pads) (id random : List ℕ) (blocks : List (List ℕ)) (piece left : ℕ)
    → IsDrawing g file start pads id random blocks piece left → 0 < left → IsDrawing g file start pads id random blocks piece (left - 1)
one_less g file start pads id random blocks piece left is some = record {
  geometry = is.geometry;
  fits = is.fits;
  id_is = is.id_is;
  place = is.place;
  random_room = is.random_room;
  block_room = is.block_room;
  within = is.within;
  few = omega (arith, is.few);
  drawn = λ _. is.drawn some;
}

-- the block that is handed out next
pub next_block : (g : Geometry) (file : List ℕ) (start pads : Pads) (id random : List ℕ) (blocks : List (List ℕ)) (piece left many : ℕ) (x : List ℕ)
    → IsDrawing g file start pads id random blocks piece left → 0 < left → many ≡ length blocks → x ≡ get_or blocks (many - left) x
    → x ≡ get_or (blocks_from g file start) (piece * (g.fragments * g.shards) - left) []
next_block g file start pads id random blocks piece left many x is some all at_hand =
    let size = g.fragments * g.shards in
    let i = piece - 1 in
    let p = size - left in
    let last : piece ≡ i + 1 = omega (arith, (is.drawn some).0) in
    let here : many - left ≡ p = omega (arith, all, is.block_room) in
    let there : i * size + p ≡ piece * size - left = omega (arith, ap (λ (z : ℕ). z * size) last, one_part_more i size, is.few) in
    get_or_read_under blocks (many - left) many x [] at_hand (omega (arith, is.few, is.block_room)) all
    ∙ ap₂ (λ (bs : List (List ℕ)) (k : ℕ). get_or bs k []) (is.drawn some).1 here
    ∙ sym (block_of_file g file (random_from g file start) i p (omega (arith, is.within)) (omega (arith, is.few)))
    ∙ ap (λ (k : ℕ). get_or (blocks_from g file start) k []) there

-- at the end of a piece another one is left where not all blocks were handed out
pub piece_left : (piece pieces size left next : ℕ) → left ≡ 0 → piece * size - left ≡ next → next < pieces * size → piece < pieces
piece_left piece pieces size left next none here more =
    elim (cases_lt piece pieces) [
      | inl below ↦ below
      | inr above ↦ absurd (omega (arith, mul-le-mul_right size above))
    ]

-- how many were handed out stays where a piece is drawn
pub same_next : (piece size left left' next : ℕ) → left ≡ 0 → left' ≡ size → piece * size - left ≡ next → (piece + 1) * size - left' ≡ next
same_next piece size left left' next none all here = omega (arith, one_part_more piece size)

-- and is one more where one is handed out
pub next_more : (piece size left next : ℕ) → 0 < left → left ≤ size → 1 ≤ piece → piece * size - left ≡ next
    → piece * size - (left - 1) ≡ next + 1
next_more piece size left next some few drawn here =
    let one : 1 * size ≤ piece * size = mul-le-mul_right size drawn in
    omega arith

-- a drawing at whose fields a block is at hand
pub record IsReady (d : Drawn) (a : Inside) : Type 0 where
  pub geometry : a.geometry ≡ d.geometry
  pub file : a.file.now ≡ d.file
  pub start : a.start.value ≡ d.start
  pub holds : IsDrawing a.geometry a.file.now a.start.value a.pads a.id a.last.random.items a.last.blocks.items a.piece a.left
  pub some : 0 < a.left
  pub next : a.piece * (a.geometry.fragments * a.geometry.shards) - a.left ≡ d.next

drawn : Geometry → List ℕ → Pads → ℕ → Drawn
drawn g file start next = record { geometry = g; file = file; start = start; next = next }

-- what is seen of a drawing, field by field
pub drawn_is : (g h : Geometry) (f f' : List ℕ) (s s' : Pads) (n n' : ℕ) → g ≡ h → f ≡ f' → s ≡ s' → n ≡ n'
    → (let d : Drawn = record { geometry = g; file = f; start = s; next = n } in d) ≡ record { geometry = h; file = f'; start = s'; next = n' }
unfolding drawn
drawn_is g h f f' s s' n n' a b c e =
    ap (λ (x : Geometry). drawn x f s n) a ∙ ap (λ (x : List ℕ). drawn h x s n) b ∙ ap₂ (λ (x : Pads) (k : ℕ). drawn h f' x k) c e

-- a piece has blocks
pub some_blocks : (g : Geometry) → IsGeometry g → 0 < g.fragments * g.shards
some_blocks g is = one-le-mul (omega (arith, is.fragments.0)) (omega (arith, is.need.0, is.need.1))
