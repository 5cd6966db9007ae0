-- What is joined fragment by fragment and piece by piece.
use Rattle.std.proofs.Common.{◌≡◌, ◌⊎◌, inl, inr, ℕ, zero, suc, ◌+◌, ◌-◌, ◌<◌, ◌≤◌, List, [], ◌∷◌, ◌++◌, Bool, true, false, length, drop, take, refl, sym, ap, ap₂, ◌∙◌, subst, arith, if◌then◌else◌}
use Rattle.std.specs.Prelude.{◌==◌, Contains}
use Rattle.std.specs.List.{flat_map, range_with_len}
use Rattle.std.proofs.lemmas.Bool.Decides.{nat_tests}
use Rattle.std.proofs.lemmas.Bool.{cases_lt}
use Rattle.pot_index.specs.declared.record.Record.{Record}
use Rattle.pot_object.specs.Pieces.{content_size, object_size, pieces_of}
use Rattle.pot_split.specs.Secrecy.{meaning}
use Rattle.pot_split.specs.Threshold.{IsJoin}
use Rattle.pot_shard.specs.Fetches.{AreChosen}
use Rattle.pot_shard.specs.Places.{place_at}
use Rattle.pot_shard.specs.FileLaws.{xor_of}
use Rattle.pot_shard.proofs.BlockLemmas.{parts_more}
use Rattle.pot_world.specs.World.{FragmentGathered, Gathered, HasGathered}
use Rattle.pot_world.specs.Worlds.{GatheredGive}
use Rattle.pot_actors.specs.Joins.{FragmentJoined, FragmentsJoined, PieceGathered, PieceJoined, PiecesJoined}

flat_same : (f g : ℕ → List ℕ) (n : ℕ) → ((i : ℕ) → i < n → f i ≡ g i) → flat_map f (range_with_len 0 n) ≡ flat_map g (range_with_len 0 n)
flat_same f g zero h = refl
flat_same f g (suc n) h =
    let next : suc n ≡ n + 1 = omega arith in
    ap (λ z. flat_map f (range_with_len 0 z)) next ∙ sym (parts_more f n)
    ∙ ap₂ (λ xs ys. xs ++ ys) (flat_same f g n (λ i lt. h i (omega (arith, lt)))) (h n (omega arith))
    ∙ parts_more g n ∙ sym (ap (λ z. flat_map g (range_with_len 0 z)) next)

same_number : (i n : ℕ) → (i == n) ≡ true → n ≡ i
same_number i n e = grind (arith, nat_tests)

self_number : (n : ℕ) → (n == n) ≡ true
self_number n = grind (arith, nat_tests)

before_number : (i n : ℕ) → i < n → (i == n) ≡ false
before_number i n lt = grind (arith, nat_tests)

last_number : (i n : ℕ) → i < n + 1 → (i == n) ≡ false → i < n
last_number i n lt e = grind (arith, nat_tests)

each_next : (P : ℕ → List ℕ → Type 0) (f : ℕ → List ℕ) (n : ℕ) (x : List ℕ) → ((i : ℕ) → i < n → P i (f i)) → P n x → (i : ℕ) → i < n + 1 → P i (if i == n then x else f i)
each_next P f n x each here i lt = by (i == n) refl
  where
    by : (b : Bool) → (i == n) ≡ b → P i (if b then x else f i)
    by true e = subst (λ k. P k x) (same_number i n e) here
    by false e = each i (last_number i n lt e)

all_next : (f : ℕ → List ℕ) (n : ℕ) (x bytes more : List ℕ) → bytes ≡ flat_map (λ i. drop 64 (f i)) (range_with_len 0 n) → more ≡ bytes ++ drop 64 x
    → more ≡ flat_map (λ i. drop 64 (if i == n then x else f i)) (range_with_len 0 (n + 1))
all_next f n x bytes more all e =
    e
    ∙ ap₂ (λ xs ys. xs ++ ys) (all ∙ flat_same (λ i. drop 64 (f i)) (λ i. drop 64 (if i == n then x else f i)) n (λ i lt. sym (ap (λ b. drop 64 (if b then x else f i)) (before_number i n lt))))
    (sym (ap (λ b. drop 64 (if b then x else f n)) (self_number n)))
    ∙ parts_more (λ i. drop 64 (if i == n then x else f i)) n

module _ (r : Record) (gathered : List Gathered) where
  -- A PIECE

  pub fragments_none : (i : ℕ) (bytes : List ℕ) → bytes ≡ [] → FragmentsJoined r gathered i 0 bytes
  fragments_none i bytes e = record { contents = λ j. []; each = λ j lt. absurd (omega (arith, lt)); all = e }

  pub fragments_more : (i n : ℕ) (bytes more content : List ℕ) → FragmentsJoined r gathered i n bytes → FragmentJoined r gathered i n content → more ≡ bytes ++ drop 64 content → FragmentsJoined r gathered i (n + 1) more
  fragments_more i n bytes more content h next e = record {
    contents = λ j. if j == n then content else h.contents j;
    each = each_next (λ j x. FragmentJoined r gathered i j x) h.contents n content h.each next;
    all = all_next h.contents n content bytes more h.all e;
  }

  pub piece_joined : (i n : ℕ) (bytes object : List ℕ) → FragmentsJoined r gathered i n bytes → n ≡ r.geometry.fragments → object ≡ meaning object_size bytes → PieceJoined r gathered i object
  piece_joined i n bytes object h e is = record {
    contents = h.contents;
    each = λ j lt. h.each j (omega (arith, lt, e));
    whole = is ∙ ap (meaning object_size) h.all ∙ ap (xor_of h.contents) e;
  }

  pub piece_short : (i j : ℕ) → j < r.geometry.fragments → (FragmentGathered r gathered i j → ⊥) → PieceGathered r gathered i → ⊥
  piece_short i j lt none h = none (h j lt)

  -- A FILE

  pub pieces_none : (bytes : List ℕ) → bytes ≡ [] → PiecesJoined r gathered 0 bytes
  pieces_none bytes e = record { objects = λ i. []; each = λ i lt. absurd (omega (arith, lt)); all = e }

  pub pieces_more : (n : ℕ) (bytes more object : List ℕ) → PiecesJoined r gathered n bytes → PieceJoined r gathered n object → more ≡ bytes ++ drop 64 object → PiecesJoined r gathered (n + 1) more
  pieces_more n bytes more object h next e = record {
    objects = λ i. if i == n then object else h.objects i;
    each = each_next (λ i x. PieceJoined r gathered i x) h.objects n object h.each next;
    all = all_next h.objects n object bytes more h.all e;
  }

  pub file_short : (i : ℕ) → i < pieces_of r.length → (PieceGathered r gathered i → ⊥) → HasGathered r gathered → ⊥
  file_short i lt none h = none (λ j jl. h i j lt jl)

  module _ (n : ℕ) (bytes file : List ℕ) (h : PiecesJoined r gathered n bytes) (e : n ≡ pieces_of r.length) (is : file ≡ take r.length bytes) where
    piece : (i : ℕ) → i < pieces_of r.length → PieceJoined r gathered i (h.objects i)
    piece i lt = h.each i (omega (arith, lt, e))

    abbrev PiecePicked : ℕ → Type 0
    PiecePicked i = PieceJoined r gathered i (h.objects i) ⊎ (i < pieces_of r.length → ⊥)

    pick_piece : (i : ℕ) → PiecePicked i
    pick_piece i = elim (cases_lt i (pieces_of r.length)) [ inl lt ↦ inl (piece i lt) | inr le ↦ inr (λ lt. omega (arith, lt, le)) ]

    contents_by : (i : ℕ) → PiecePicked i → ℕ → List ℕ
    contents_by i (inl k) j = k.contents j
    contents_by i (inr x) j = []

    joined_by : (i j : ℕ) (p : PiecePicked i) → i < pieces_of r.length → j < r.geometry.fragments → FragmentJoined r gathered i j (contents_by i p j)
    unfolding contents_by
    joined_by i j (inl k) il jl = k.each j jl
    joined_by i j (inr x) il jl = absurd (x il)

    whole_by : (i : ℕ) (p : PiecePicked i) → i < pieces_of r.length → h.objects i ≡ xor_of (contents_by i p) r.geometry.fragments
    unfolding contents_by
    whole_by i (inl k) il = k.whole
    whole_by i (inr x) il = absurd (x il)

    abbrev Picked : ℕ → ℕ → Type 0
    Picked i j = FragmentJoined r gathered i j (contents_by i (pick_piece i) j) ⊎ (i < pieces_of r.length → j < r.geometry.fragments → ⊥)

    pick : (i j : ℕ) → Picked i j
    pick i j = elim (cases_lt i (pieces_of r.length)) [
      | inl il ↦ elim (cases_lt j r.geometry.fragments) [ inl jl ↦ inl (joined_by i j (pick_piece i) il jl) | inr le ↦ inr (λ x y. omega (arith, y, le)) ]
      | inr le ↦ inr (λ x y. omega (arith, x, le))
    ]

    points_by : (i j : ℕ) → Picked i j → List ℕ
    points_by i j (inl f) = f.points
    points_by i j (inr x) = []

    blocks_by : (i j : ℕ) → Picked i j → ℕ → List ℕ
    blocks_by i j (inl f) = f.blocks
    blocks_by i j (inr x) = λ z. []

    gathered_by : (i j : ℕ) → Picked i j → i < pieces_of r.length → j < r.geometry.fragments → FragmentGathered r gathered i j
    gathered_by i j (inl f) il jl = record { points = f.points; chosen = f.chosen; each = λ x t. (f.blocks x, f.from x t) }
    gathered_by i j (inr x) il jl = absurd (x il jl)

    pub has_gathered : HasGathered r gathered
    has_gathered i j il jl = gathered_by i j (pick i j) il jl

    chosen_by : (i j : ℕ) (p : Picked i j) → i < pieces_of r.length → j < r.geometry.fragments → AreChosen r.geometry (points_by i j p)
    unfolding points_by
    chosen_by i j (inl f) il jl = f.chosen
    chosen_by i j (inr x) il jl = absurd (x il jl)

    from_by : (i j x : ℕ) (p : Picked i j) → i < pieces_of r.length → j < r.geometry.fragments → Contains (points_by i j p) x
        → Contains gathered (record { place = place_at r.geometry r.places i j (x - 1); block = blocks_by i j p x })
    unfolding points_by blocks_by
    from_by i j x (inl f) il jl t = f.from x t
    from_by i j x (inr y) il jl t = absurd (y il jl)

    wide_by : (i j : ℕ) (p : Picked i j) → i < pieces_of r.length → j < r.geometry.fragments → length (contents_by i (pick_piece i) j) ≡ content_size
    wide_by i j (inl f) il jl = f.wide
    wide_by i j (inr x) il jl = absurd (x il jl)

    join_by : (i j : ℕ) (p : Picked i j) → i < pieces_of r.length → j < r.geometry.fragments
        → IsJoin (points_by i j p) (flat_map (λ x. drop 32 (blocks_by i j p x)) (points_by i j p)) (contents_by i (pick_piece i) j)
    unfolding points_by blocks_by
    join_by i j (inl f) il jl = f.join
    join_by i j (inr x) il jl = absurd (x il jl)

    pub gives : GatheredGive r gathered file
    gives = record {
      points = λ i j. points_by i j (pick i j);
      blocks = λ i j. blocks_by i j (pick i j);
      contents = λ i. contents_by i (pick_piece i);
      objects = h.objects;
      chosen = λ i j il jl. chosen_by i j (pick i j) il jl;
      from = λ i j x il jl t. from_by i j x (pick i j) il jl t;
      wide = λ i j il jl. wide_by i j (pick i j) il jl;
      join = λ i j il jl. join_by i j (pick i j) il jl;
      whole = λ i il. whole_by i (pick_piece i) il;
      cut = is ∙ ap (take r.length) (h.all ∙ ap (λ z. flat_map (λ i. drop 64 (h.objects i)) (range_with_len 0 z)) e);
    }
