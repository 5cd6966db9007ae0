-- The seen blocks of a piece are those of the other object's piece too.
use Rattle.std.proofs.Common.{◌≡◌, ◌<◌, inl, inr, ◌+◌, ◌*◌, ◌/◌, ◌%◌, ◌||◌, ℕ, zero, suc, Bool, true, false, List, [], ◌∷◌, length, get_or, not, nat_eq, refl, sym, ap, ◌∙◌, subst, arith}
use Rattle.std.specs.List.{list_any}
use Rattle.std.proofs.Math.Nat.{div-add-mod, div-lt_iff_lt-mul, mod-lt, mul_comm}
use Rattle.std.proofs.lemmas.Bool.Decides.{nat_tests}
use Rattle.std.proofs.lemmas.List.FromFn.{get_or-map-range_with_len}
use Rattle.std.proofs.lemmas.List.Folds.{Any-from_list_any}
use Rattle.std.proofs.lemmas.Bool.{cases_eq, eqb-true}
use Rattle.pot_bytes.specs.declared.rack.Geometry.{Geometry}
use Rattle.pot_object.specs.Objects.{object}
use Rattle.pot_shard.specs.FileBlocks.{content_shards, fragment_len, fragment_shards, fragments_of, head_len, part_at, piece_blocks, shard_at_place}
use Rattle.pot_shard.specs.Shards.{shard_bytes}
use Rattle.pot_shard.specs.declared.shard.Shard.{Shard}
use Rattle.pot_shard.proofs.PlaceLemmas.{block_of_object}
use Rattle.pot_veil.specs.Drills.{is_seen_at}
use Rattle.pot_veil.specs.Explained.{content_at, explained}
use Rattle.pot_veil.specs.PieceLaws.{IsPieceVeiled}
use Rattle.pot_veil.proofs.Pieces.{piece_laws}

-- a place by fragment and point
by_point : (g : Geometry) (place : ℕ) → place / g.shards * g.shards + place % g.shards ≡ place
by_point g place = ap (λ (z : ℕ). z + place % g.shards) (mul_comm (place / g.shards) g.shards) ∙ div-add-mod place g.shards

-- the shard at a place of a piece
shard_of_piece : Geometry → List ℕ → List ℕ → ℕ → ℕ → Shard
shard_of_piece g o random j p = shard_at_place g (content_at g o random j) (part_at (head_len g) (fragment_len g) j random) p

block_at_place : (g : Geometry) (id file : List ℕ) (piece : ℕ) (random : List ℕ) (place : ℕ) → 0 < g.shards → place < g.fragments * g.shards
    → get_or (piece_blocks g id file piece random) place []
    ≡ shard_bytes (shard_of_piece g (object id file piece) random (place / g.shards) (place % g.shards))
unfolding shard_of_piece
block_at_place g id file piece random place some lt =
    ap (λ (z : ℕ). get_or (piece_blocks g id file piece random) z []) (sym (by_point g place))
    ∙ block_of_object g id file piece random (place / g.shards) (place % g.shards) ((div-lt_iff_lt-mul some).1 lt) (mod-lt place some)

-- the shards of a fragment by place
at_point : (g : Geometry) (o random : List ℕ) (j p : ℕ) (d : Shard) → p < g.shards
    → get_or (fragment_shards g (fragments_of g o random) random j) p d ≡ shard_of_piece g o random j p
unfolding fragment_shards content_shards shard_of_piece
at_point g o random j p d lt =
    get_or-map-range_with_len (shard_at_place g (content_at g o random j) (part_at (head_len g) (fragment_len g) j random)) 0 g.shards p p d lt
    (let e : 0 + p ≡ p = omega arith in e)

is_among : (a hidden : ℕ) (b : Bool) → a ≡ hidden → (not (nat_eq a hidden) || b) ≡ true → b ≡ true
is_among a hidden true same h = refl
is_among a hidden false same h = absurd (none a hidden same h)
  where
    none : (a hidden : ℕ) → a ≡ hidden → (not (nat_eq a hidden) || false) ≡ true → ⊥
    none a hidden same h = grind (arith, nat_tests)

any_default : (xs : List ℕ) (k d e : ℕ) → k < length xs → get_or xs k e ≡ get_or xs k d
any_default [] k d e lt = absurd (omega arith)
any_default (x ∷ xs) zero d e lt = refl
any_default (x ∷ xs) (suc k) d e lt = any_default xs k d e (omega arith)

shards_kept : (g : Geometry) (o other : List ℕ) (hidden : ℕ) (seen random : List ℕ) (j p : ℕ) → IsPieceVeiled g o other hidden seen random
    → j < g.fragments → p < g.shards → (not (nat_eq j hidden) || list_any (λ x. nat_eq x (p + 1)) seen) ≡ true
    → shard_of_piece g other (explained g o other hidden seen random) j p ≡ shard_of_piece g o random j p
unfolding shard_of_piece
shards_kept g o other hidden seen random j p v lj lp holds =
    let now : List ℕ = explained g o other hidden seen random in
    elim (cases_eq j hidden) [
      | inl here ↦
          (let among = is_among j hidden (list_any (λ x. nat_eq x (p + 1)) seen) here holds in
          let found = Any-from_list_any (λ (x : ℕ). nat_eq x (p + 1)) seen among in
          let k : ℕ = found.0 in
          let point : get_or seen k 0 ≡ p + 1 = any_default seen k found.1 0 found.2 ∙ found.3 ∙ eqb-true found.1 (p + 1) found.4 in
          subst (λ (l : ℕ). shard_of_piece g other now l p ≡ shard_of_piece g o random l p) (sym here)
          (piece_laws.seen g o other hidden seen random k p v found.2 point))
      | inr apart ↦
          (let d : Shard = shard_of_piece g o random j p in
          sym (at_point g other now j p d lp)
          ∙ ap (λ (z : List Shard). get_or z p d) (piece_laws.others g o other hidden j seen random v lj apart)
          ∙ at_point g o random j p d lp)
    ]

pub kept : (g : Geometry) (id file other : List ℕ) (piece hidden : ℕ) (seen random : List ℕ) (place : ℕ)
    → IsPieceVeiled g (object id file piece) (object id other piece) hidden seen random → 0 < g.shards → place < g.fragments * g.shards
    → is_seen_at g hidden seen place ≡ true
    → get_or (piece_blocks g id other piece (explained g (object id file piece) (object id other piece) hidden seen random)) place []
    ≡ get_or (piece_blocks g id file piece random) place []
kept g id file other piece hidden seen random place v some lt holds =
    let now : List ℕ = explained g (object id file piece) (object id other piece) hidden seen random in
    block_at_place g id other piece now place some lt
    ∙ ap shard_bytes (shards_kept g (object id file piece) (object id other piece) hidden seen random (place / g.shards) (place % g.shards) v
    ((div-lt_iff_lt-mul some).1 lt) (mod-lt place some) holds)
    ∙ sym (block_at_place g id file piece random place some lt)
