-- A fragment as it is stored closes with its content.
use Rattle.std.proofs.Common.{◌≡◌, inl, inr, ℕ, zero, suc, ◌+◌, ◌*◌, ◌/◌, ◌<◌, ◌≤◌, List, [], ◌∷◌, map, length, take, drop, get_or, refl, sym, ap, ◌∙◌, subst, arith, length-append, length-drop}
use Rattle.std.specs.List.{flat_map, range_with_len}
use Rattle.std.proofs.Math.Nat.{mul-div_cancel}
use Rattle.std.proofs.lemmas.List.{length-map, length-take-le}
use Rattle.std.proofs.lemmas.List.FromFn.{length-map-range_with_len, get_or-map-range_with_len}
use Rattle.std.proofs.lemmas.Simd.{map-map}
use Rattle.pot_bytes.specs.Sums.{sum_of}
use Rattle.pot_bytes.specs.declared.rack.Geometry.{Geometry}
use Rattle.pot_chains.specs.Listed.{IsIn}
use Rattle.pot_chains.specs.Paths.{AreAll}
use Rattle.pot_chains.proofs.ListedLemmas.{contains_from_in}
use Rattle.pot_gf.specs.Polynomials.{value, IsBelowDegree}
use Rattle.pot_joins.specs.Joins.{IsOnOne}
use Rattle.pot_object.specs.Contents.{IsContent}
use Rattle.pot_object.specs.Objects.{head_of}
use Rattle.pot_object.specs.Pieces.{pieces_of}
use Rattle.pot_object.specs.declared.content.FragmentHead.{FragmentHead}
use Rattle.pot_object.proofs.ContentLemmas.{IsContent-written}
use Rattle.pot_object.proofs.LawLemmas.{IsObject-written}
use Rattle.pot_robust.specs.Robust.{borne}
use Rattle.pot_shard.specs.FileBlocks.{content_of, fragments_of, part_at, piece_random, shard_of}
use Rattle.pot_shard.specs.FileLaws.{IsStore, content_in, object_in, shards_in, xor_of}
use Rattle.pot_shard.specs.Places.{block_in, shard_in}
use Rattle.pot_shard.specs.Shards.{shard_bytes}
use Rattle.pot_shard.specs.declared.shard.Shard.{Shard}
use Rattle.pot_shard.proofs.FileLemmas.{file_laws, is_piece, length-fragments, length-id, length-part}
use Rattle.pot_shard.proofs.LinkLemmas.{rings_law, shards_law}
use Rattle.pot_shard.proofs.PlaceLemmas.{place_laws, shard_at}
use Rattle.pot_recover.specs.Altered.{altered_shares}
use Rattle.pot_recover.specs.Groups.{no_shard}
use Rattle.pot_recover.specs.Held.{IsHeld}
use Rattle.pot_split.specs.Secrecy.{rows_of}
use Rattle.pot_split.proofs.ThresholdLaws.{rows_of-append}
use Rattle.pot_recover.specs.Recovered.{IsClosedIn, IsRecovered, object_of}
use Rattle.pot_recover.specs.Rings.{IsRing, ClosesRing, points_of, bytes_at, need_of}
use Rattle.pot_recover.specs.Robust.{IsRobustlyClosedIn}
use Rattle.pot_recover.specs.StoredFragments.{IsAlmostHeld, StoredLaws}
use Rattle.pot_recover.proofs.AlteredLemmas.{altered_laws}
use Rattle.pot_recover.proofs.GroupLemmas.{get_or-mapped}
use Rattle.pot_recover.proofs.LinkLemmas.{link_laws}

need_first : (shards : List Shard) (d : Shard) → 0 < length shards → need_of shards ≡ (get_or shards 0 d).m
need_first [] d some = absurd (omega (arith, some))
need_first (s ∷ rest) d some = refl

module _ (g : Geometry) (file random : List ℕ) (i j : ℕ) (is : IsStore g file random) (exists : i < pieces_of (length file)) (within : j < g.fragments) where
  abbrev shards : List Shard
  shards = shards_in g file random i j

  some : 1 ≤ g.shards
  some = let need = is.geometry.need in omega (arith, need.0, need.1)

  pub ring : IsRing shards × (length shards ≡ g.shards)
  ring = (link_laws.rings g.shards shards some).0 (rings_law g file random i j)

  at : (p : ℕ) → p < g.shards → get_or shards p no_shard ≡ shard_in g file random i j p
  at p less = shard_at g file random i j p no_shard less

  pub need : need_of shards ≡ g.need
  unfolding shard_of
  need = need_first shards no_shard (omega (arith, ring.1, some)) ∙ ap (λ (s : Shard). s.m) (at 0 (omega (arith, some)))

  on_one : (k : ℕ) → k < 992 → IsOnOne (need_of shards) (points_of shards) (bytes_at k shards) (get_or (content_in g file random i j) k 0)
  on_one k less =
      let w = place_laws.closes g file random i j k is exists within less in (
        w.0,
        w.1,
        subst (λ m. IsBelowDegree m w.0) (sym need) w.2,
        λ p lt.
            let here : p < length shards = omega (arith, lt, length-map shards (λ (s : Shard). s.x)) in
            let inside : p < g.shards = omega (arith, here, ring.1) in
            let point = get_or-mapped (λ (s : Shard). s.x) shards p no_shard 0 here ∙ (ap (λ (s : Shard). s.x) (at p inside) ∙ place_laws.point g file random i j p) in
            let byte = get_or-mapped (λ (s : Shard). get_or s.share k 0) shards p no_shard 0 here ∙ (ap (λ (s : Shard). get_or s.share k 0) (at p inside) ∙ w.4 p inside) in
            ap (value w.0) point ∙ sym byte,
        w.3,
      )

  head : FragmentHead
  head = record { object_id = take 16 (piece_random g i random); number = j + 1; count = g.fragments }

  content_is : IsContent head (content_in g file random i j)
  unfolding content_of head
  content_is =
      let own = piece_random g i random in
      let piece = is_piece g file random i is exists in
      let fragments = fragments_of g (object_in file random i) own in
      let count = is.geometry.fragments in
      IsContent-written head (part_at 0 928 j fragments)
      (record { id = length-id g own piece.taken; two = count.0; eight = count.1; first = omega arith; last = omega (arith, within) })
      (length-part 0 928 j g.fragments fragments within (omega (arith, length-fragments g (object_in file random i) own piece)))

  pub closes : ClosesRing shards (content_in g file random i j)
  closes = record { places = on_one; grammar = (head, content_is) }

  pub robustly : (blocks : List (List ℕ)) (bits : ℕ) → IsAlmostHeld blocks bits g file random i j → IsRobustlyClosedIn blocks bits (content_in g file random i j)
  robustly blocks bits held =
      let same = altered_laws.shares shards held.shards (content_in g file random i j) held.others
      (subst (λ m. altered_shares shards held.shards ≤ borne (length shards) m) (sym need) (subst (λ n. altered_shares shards held.shards ≤ borne n g.need) (sym ring.1) held.few))
      ring.0 closes in
      (held.shards, held.held, same.0, same.1)

-- parts of 928 bytes one after another are the rows of what they make
rows_are : (f : ℕ → List ℕ) (n a : ℕ) → ((k : ℕ) → k < a + n → length (f k) ≡ 928)
    → (rows_of n 928 (flat_map f (range_with_len a n)) ≡ map f (range_with_len a n)) × (length (flat_map f (range_with_len a n)) ≡ n * 928)
rows_are f zero a long = (refl, refl)
rows_are f (suc n) a long =
    let rest = flat_map f (range_with_len (a + 1) n) in
    let more = rows_are f n (a + 1) (λ k lt. long k (omega (arith, lt))) in
    let here = long a (omega arith) in (
      rows_of-append n 928 (f a) rest here ∙ ap (λ (rows : List (List ℕ)). f a ∷ rows) more.0,
      omega (arith, length-append (f a) rest, here, more.1),
    )

-- the fragments of some contents XOR to what their rows mean
sum_is : (contents : ℕ → List ℕ) (n : ℕ) → ((k : ℕ) → k < n → length (contents k) ≡ 992) → object_of (map contents (range_with_len 0 n)) ≡ xor_of contents n
sum_is contents n long =
    let f : ℕ → List ℕ = λ j. drop 64 (contents j) in
    let rows = rows_are f n 0 (λ k lt. omega (arith, length-drop 64 (contents k), long k (omega (arith, lt)))) in
    let count : length (flat_map f (range_with_len 0 n)) / 928 ≡ n = ap (λ (z : ℕ). z / 928) rows.1 ∙ mul-div_cancel n (omega arith) in
    ap (sum_of 928) (map-map (drop 64) contents (range_with_len 0 n) ∙ sym rows.0 ∙ ap (λ (z : ℕ). rows_of z 928 (flat_map f (range_with_len 0 n))) (sym count))

pub objects_law : (closed : List ℕ → Type 0) (g : Geometry) (file random : List ℕ) (i : ℕ) → IsStore g file random → i < pieces_of (length file)
    → ((j : ℕ) → j < g.fragments → closed (content_in g file random i j)) → IsRecovered closed (object_in file random i)
unfolding head
objects_law closed g file random i is exists given = (
  (head_of (take 16 random) file i, IsObject-written (take 16 random) file i (length-take-le 16 random (omega (arith, is.taken))) is.fits exists),
  (
    choice,
    record { id = id; some = omega (arith, size, is.geometry.fragments.0); each = each },
    sum_is contents g.fragments (λ k lt. (content_is g file random i k is exists lt).long) ∙ file_laws.objects g file random i is exists,
  ),
)
  where
    contents : ℕ → List ℕ
    contents = content_in g file random i

    choice : List (List ℕ)
    choice = map contents (range_with_len 0 g.fragments)

    id : List ℕ
    id = take 16 (piece_random g i random)

    size : length choice ≡ g.fragments
    size = length-map-range_with_len contents 0 g.fragments

    each : (k : ℕ) → k < length choice
        → closed (get_or choice k []) × IsContent (record { object_id = id; number = k + 1; count = length choice }) (get_or choice k [])
    each k lt =
        let inside : k < g.fragments = omega (arith, lt, size) in
        let at = get_or-map-range_with_len contents 0 g.fragments k k [] inside (let e : 0 + k ≡ k = omega arith in e) in (
          subst closed (sym at) (given k inside),
          subst (λ (c : List ℕ). IsContent (record { object_id = id; number = k + 1; count = length choice }) c) (sym at)
              (subst (λ n. IsContent (record { object_id = id; number = k + 1; count = n }) (contents k)) (sym size) (content_is g file random i k is exists inside)),
        )

all_from : {X : Type 0} (P : X → Type 0) (xs : List X) → ((x : X) → IsIn xs x → P x) → AreAll P xs
all_from P [] h = tt
all_from P (x ∷ xs) h = (h x (inl refl), all_from P xs (λ y i. h y (inr i)))

whole_law : (g : Geometry) (file random : List ℕ) (i : ℕ) → IsStore g file random → i < pieces_of (length file)
    → (blocks : List (List ℕ)) → ((j p : ℕ) → j < g.fragments → p < g.shards → IsIn blocks (block_in g file random i j p))
    → IsRecovered (IsClosedIn blocks g.blur) (object_in file random i)
unfolding shard_of
whole_law g file random i is exists blocks there =
    objects_law (IsClosedIn blocks g.blur) g file random i is exists (λ j within.
    let all = all_from (IsHeld blocks g.blur) (shards_in g file random i j) (held j within) in
    (shards_in g file random i j, all, (ring g file random i j is exists within).0, closes g file random i j is exists within))
  where
    held : (j : ℕ) → j < g.fragments → (s : Shard) → IsIn (shards_in g file random i j) s → IsHeld blocks g.blur s
    held j within s here =
        let place = contains_from_in (shards_in g file random i j) s here in
        let inside : place.0 < g.shards = (let less = place.1 in omega (arith, less, (ring g file random i j is exists within).1)) in
        let same : s ≡ shard_in g file random i j place.0 = sym place.2 ∙ shard_at g file random i j place.0 s inside in (
          shard_bytes s,
          subst (λ (t : Shard). IsIn blocks (shard_bytes t)) (sym same) (there j place.0 within inside),
          shards_law g file random i j s is exists within place,
          ap (λ (t : Shard). t.blur) same,
        )

pub stored_laws : StoredLaws
stored_laws = record {
  closes = λ g file random i j is exists within. ((ring g file random i j is exists within).0, closes g file random i j is exists within);
  robustly = robustly;
  objects = whole_law;
  robust_objects = λ g file random i is exists blocks bits almost.
      objects_law (IsRobustlyClosedIn blocks bits) g file random i is exists (λ j within. robustly g file random i j is exists within blocks bits (almost j within));
}
