-- What a coalition sees is kept.
use Rattle.std.proofs.Common.{◌≡◌, ◌<◌, ◌≤◌, inl, inr, ℕ, ◌+◌, Bool, true, List, length, map, filter, get_or, sym, ap, ◌∙◌, subst, arith, lit<}
use Rattle.std.specs.Prelude.{Contains}
use Rattle.std.specs.List.{range_with_len}
use Rattle.std.proofs.lemmas.Bool.{cases_lt, cases_eq}
use Rattle.std.proofs.lemmas.List.{get_or-map, length-map}
use Rattle.std.proofs.lemmas.List.Elements.{Contains-get_or}
use Rattle.std.proofs.lemmas.List.FromFn.{length-range_with_len}
use Rattle.pot_bytes.specs.Lists.{AreBytes}
use Rattle.pot_bytes.proofs.Elements.{at_range}
use Rattle.pot_gf.proofs.Values.{get_or-end}
use Rattle.pot_object.specs.Pieces.{pieces_of}
use Rattle.pot_pointer.proofs.FilterLemmas.{Contains-filter}
use Rattle.pot_split.specs.Threshold.{AreNonzero}
use Rattle.pot_shard.specs.Places.{block_in, shard_in, place_at}
use Rattle.pot_shard.specs.Shards.{shard_bytes}
use Rattle.pot_shard.specs.declared.shard.Shard.{Shard}
use Rattle.pot_shard.proofs.PlaceLemmas.{shard_at}
use Rattle.pot_veil.specs.FileLaws.{IsVeiledFile}
use Rattle.pot_veil.specs.Veiled.{explained_split, is_seen, seen_points, IsVeiledStore, Split, Spot, VeilLaws}
use Rattle.pot_veil.proofs.Files.{file_laws}

-- NUMBERS THAT PASS A TEST, AND ONE MORE

abbrev passing : (ℕ → Bool) → ℕ → List ℕ
passing test n = map (λ p. p + 1) (filter test (range_with_len 0 n))

passing_bounds : (test : ℕ → Bool) (n k : ℕ) → k < length (passing test n) → (1 ≤ get_or (passing test n) k 0) × (get_or (passing test n) k 0 ≤ n)
passing_bounds test n k lt =
    let kept : List ℕ = filter test (range_with_len 0 n) in
    let inside : k < length kept = omega (arith, lt, length-map kept (λ (p : ℕ). p + 1)) in
    let p : ℕ = get_or kept k 0 in
    let there : Contains (range_with_len 0 n) p = ((Contains-filter test (range_with_len 0 n) p).0 (Contains-get_or kept k 0 inside)).0 in
    let m : ℕ = there.0 in
    let below : m < n = omega (arith, there.1, length-range_with_len 0 n) in
    let is : m ≡ p = sym (at_range n m p below) ∙ there.2 in
    let value : get_or (passing test n) k 0 ≡ p + 1 = get_or-map (λ (q : ℕ). q + 1) kept k 0 0 inside in
    (omega (arith, value), omega (arith, value, is, below))

passing_has : (test : ℕ → Bool) (n p : ℕ) → p < n → test p ≡ true → (k : ℕ) × (k < length (passing test n)) × (get_or (passing test n) k 0 ≡ p + 1)
passing_has test n p lt holds =
    let kept : List ℕ = filter test (range_with_len 0 n) in
    let there : Contains (range_with_len 0 n) p = (p, omega (arith, lt, length-range_with_len 0 n), at_range n p p lt) in
    let found : Contains kept p = (Contains-filter test (range_with_len 0 n) p).1 (there, holds) in
    let k : ℕ = found.0 in (
      k,
      omega (arith, found.1, length-map kept (λ (q : ℕ). q + 1)),
      get_or-map (λ (q : ℕ). q + 1) kept k p 0 found.1 ∙ ap (λ (z : ℕ). z + 1) found.2,
    )

-- A COALITION

points_are : (coalition : List Spot) (s : Split) (i j : ℕ) → AreNonzero (seen_points coalition s i j)
points_are coalition s i j k lt =
    let b = passing_bounds (λ p. is_seen coalition (place_at s.geometry s.places i j p)) s.geometry.shards k lt in
    omega (arith, b.0)

bytes_are : (coalition : List Spot) (s : Split) (i j : ℕ) → s.geometry.shards ≤ 16 → AreBytes (seen_points coalition s i j)
bytes_are coalition s i j few k = elim (cases_lt k (length (seen_points coalition s i j))) [
  | inl inside ↦ (let b = passing_bounds (λ p. is_seen coalition (place_at s.geometry s.places i j p)) s.geometry.shards k inside in omega (arith, b.1))
  | inr behind ↦ subst (λ (z : ℕ). z < 256) (sym (get_or-end (seen_points coalition s i j) k behind)) (lit< tt)
]

module _ (coalition : List Spot) (s : Split) (hidden : ℕ → ℕ) (file other random : List ℕ) (v : IsVeiledStore coalition s hidden file other random) where
  abbrev seen : ℕ → List ℕ
  seen i = seen_points coalition s i (hidden i)

  abbrev now : List ℕ
  now = explained_split coalition s hidden file other random

  pub veiled_file : IsVeiledFile s.geometry file other hidden seen random
  veiled_file = record {
    store = v.store;
    other_store = v.other_store;
    same_length = v.same_length;
    fragment = λ i li. (v.veiled i li).fragment;
    points = λ i li. record {
      points = points_are coalition s i (hidden i);
      bytes = bytes_are coalition s i (hidden i) v.store.geometry.shards;
      few = (v.veiled i li).few;
    };
  }

  shard_kept : (i j p : ℕ) → i < pieces_of (length file) → j < s.geometry.fragments → p < s.geometry.shards
      → is_seen coalition (place_at s.geometry s.places i j p) ≡ true → shard_in s.geometry other now i j p ≡ shard_in s.geometry file random i j p
  shard_kept i j p li lj lp holds = elim (cases_eq j (hidden i)) [
    | inl here ↦
        (let test : ℕ → Bool = λ q. is_seen coalition (place_at s.geometry s.places i (hidden i) q) in
        let at = passing_has test s.geometry.shards p lp (subst (λ (l : ℕ). is_seen coalition (place_at s.geometry s.places i l p) ≡ true) here holds) in
        subst (λ (l : ℕ). shard_in s.geometry other now i l p ≡ shard_in s.geometry file random i l p) (sym here)
        (file_laws.seen s.geometry file other hidden seen random i at.0 p veiled_file li at.1 at.2))
    | inr apart ↦
        (let d : Shard = shard_in s.geometry file random i j p in
        sym (shard_at s.geometry other now i j p d lp)
        ∙ ap (λ (z : List Shard). get_or z p d) (file_laws.others s.geometry file other hidden seen random i j veiled_file li lj apart)
        ∙ shard_at s.geometry file random i j p d lp)
  ]

  pub block_kept : (i j p : ℕ) → i < pieces_of (length file) → j < s.geometry.fragments → p < s.geometry.shards
      → is_seen coalition (place_at s.geometry s.places i j p) ≡ true → block_in s.geometry other now i j p ≡ block_in s.geometry file random i j p
  block_kept i j p li lj lp holds = ap shard_bytes (shard_kept i j p li lj lp holds)

pub veil_laws : VeilLaws
veil_laws = record {
  store = λ coalition s hidden file other random v.
      file_laws.store s.geometry file other hidden (λ i. seen_points coalition s i (hidden i)) random (veiled_file coalition s hidden file other random v);
  blocks = λ coalition s hidden file other random i j p v li lj lp holds. block_kept coalition s hidden file other random v i j p li lj lp holds;
  back = λ coalition s hidden file other random v.
      file_laws.back s.geometry file other hidden (λ i. seen_points coalition s i (hidden i)) random (veiled_file coalition s hidden file other random v);
}
