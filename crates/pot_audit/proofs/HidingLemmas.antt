-- Where a veil holds, another file has the same exposed blocks.
use Rattle.std.proofs.Common.{◌≡◌, ◌<◌, ◌≤◌, ℕ, zero, suc, ◌+◌, ◌-◌, ◌*◌, ◌/◌, ◌%◌, Bool, true, false, List, [], ◌∷◌, Option, Some, None, length, refl, sym, ap, ap₂, ◌∙◌, subst, arith}
use Rattle.std.specs.Prelude.{Contains, nat_lt, slice_get, unwrap_or}
use Rattle.std.proofs.lemmas.Bool.Decides.{nat_tests}
use Rattle.std.proofs.lemmas.Nat.{mod_below, div-add-mod'}
use Rattle.std.proofs.lemmas.List.{length-map}
use Rattle.std.proofs.lemmas.List.Elements.{All-contains}
use Rattle.std.proofs.Math.Nat.{div-lt_iff_lt-mul}
use Rattle.std.proofs.lemmas.Option.{get_or_from_slice_get, same_Some, slice_get-get_or, slice_get_within}
use Rattle.pot_bytes.specs.Lists.{AreBytes}
use Rattle.pot_bytes.specs.Rack.{IsRack, no_place}
use Rattle.pot_bytes.specs.declared.rack.Place.{Place}
use Rattle.pot_bytes.specs.declared.rack.Rack.{Rack}
use Rattle.pot_bytes.proofs.Elements.{element_at}
use Rattle.pot_object.specs.Pieces.{longest, pieces_of}
use Rattle.pot_machine.specs.Table.{least}
use Rattle.pot_machine.proofs.Searches.{least_none, least_some}
use Rattle.pot_shard.specs.FileBlocks.{file_blocks, random_len}
use Rattle.pot_shard.specs.FileLaws.{IsStore}
use Rattle.pot_shard.specs.Places.{PlaceLaws, place_at, position}
use Rattle.pot_veil.specs.Veiled.{IsHiddenAt, IsVeiledSplit, IsVeiledStore, VeilLaws, is_seen, seen_points}
use Rattle.pot_index.specs.declared.record.Record.{Record}
use Rattle.pot_index.specs.declared.record.Split.{Split}
use Rattle.pot_index.specs.Fits.{FitsPlace, FitsRack, FitsSplit}
use Rattle.pot_index.specs.Records.{current_of, splits_of}
use Rattle.pot_index.specs.Index.{AreNames}
use Rattle.pot_index.proofs.RecordLaws.{one_record}
use Rattle.pot_world.specs.Audit.{SightsFit, sight_of}
use Rattle.pot_world.specs.Explains.{AreExplained, CoalitionsSee, Sees}
use Rattle.pot_world.specs.Forward.{HasSplit}
use Rattle.pot_world.specs.World.{World}
use Rattle.pot_world.specs.Worlds.{Paired, RecordWritten, RunReplays, RunWrites, SplitWritten}
use Rattle.pot_audit.specs.declared.spot.Spot.{Spot}
use Rattle.pot_audit.specs.declared.veil.Veil.{Veil}
use Rattle.pot_audit.specs.Exposure.{exposed_points, has_column, is_exposed, is_exposed_at}
use Rattle.pot_audit.specs.Veils.{AreVeils, IsVeil}
use Rattle.pot_audit.specs.Hiding.{AreHidden, AuditsHide, BytesReturn, exposed_columns, hidden_of, other_random, other_randoms, places_of}
use Rattle.pot_audit.proofs.Adding.{all_at, part_before}
use Rattle.pot_audit.proofs.Exposing.{counted, same_count, seen_is, sees_exposed}

less_is : (a b : ℕ) → nat_lt a b ≡ true → a < b
less_is a b e = grind (arith, nat_tests)

not_less : (a b : ℕ) → nat_lt a b ≡ false → b ≤ a
not_less a b e = grind (arith, nat_tests)

is_less : (a b : ℕ) → a < b → nat_lt a b ≡ true
is_less a b lt = grind (arith, nat_tests)

-- elements of two paired lists at one place
pub paired_at : {X Y : Type 0} (P : X → Y → Type 0) (xs : List X) (ys : List Y) (n : ℕ) (y : Y) → Paired P xs ys → slice_get ys n ≡ Some y → (x : X) × (slice_get xs n ≡ Some x) × P x y
unfolding Paired
paired_at P [] [] n y h e = absurd (cc)
paired_at P [] (z ∷ ys) n y h e = absurd h
paired_at P (x ∷ xs) [] n y h e = absurd h
paired_at P (x ∷ xs) (z ∷ ys) zero y h e = (x, refl, subst (P x) (same_Some z y e) h.0)
paired_at P (x ∷ xs) (z ∷ ys) (suc n) y h e = paired_at P xs ys n y h.1 e

-- A SPLIT OF A RACK

module _ (rack : Rack) (spots : List Spot) (racked : IsRack rack) (pieces : ℕ) (s : Split) (fits : FitsSplit rack pieces s) where
  some_groups : 0 < rack.groups
  some_groups = omega (arith, racked.groups.0, racked.geometry.need.0, racked.geometry.need.1)

  module _ (i j p : ℕ) (li : i < pieces) (lj : j < s.geometry.fragments) (lp : p < s.geometry.shards) where
    pub within : position s.geometry i j p < length s.places
    within = omega (arith, fits.count, part_before (i * s.geometry.fragments + j) (pieces * s.geometry.fragments) s.geometry.shards p (part_before i pieces s.geometry.fragments j li lj) lp)

    pub place_is : slice_get s.places (position s.geometry i j p) ≡ Some (place_at s.geometry s.places i j p)
    place_is = slice_get-get_or s.places (position s.geometry i j p) no_place within

    fits_place : FitsPlace rack s.geometry (position s.geometry i j p) (place_at s.geometry s.places i j p)
    fits_place = fits.places (position s.geometry i j p) (place_at s.geometry s.places i j p) place_is

    in_group : (place_at s.geometry s.places i j p).group < rack.groups
    in_group = subst (λ (n : ℕ). n < rack.groups) (sym fits_place.group) (mod_below _ rack.groups some_groups)

    pub seen_at : is_seen (exposed_columns rack spots) (place_at s.geometry s.places i j p) ≡ is_exposed_at rack spots s i j p
    seen_at = seen_is rack spots (place_at s.geometry s.places i j p) in_group fits_place.column

  pub points_counted : (i j : ℕ) → i < pieces → j < s.geometry.fragments → length (seen_points (exposed_columns rack spots) (places_of s) i j) ≡ exposed_points rack spots s i j
  points_counted i j li lj =
      length-map _ (λ (p : ℕ). p + 1) ∙ counted (λ p. is_seen (exposed_columns rack spots) (place_at s.geometry s.places i j p)) s.geometry.shards
      ∙ same_count s.geometry.shards (λ p. is_seen (exposed_columns rack spots) (place_at s.geometry s.places i j p)) (is_exposed_at rack spots s i j) (λ p lp. seen_at i j p li lj lp)

  -- where some fragment has few exposed points, the hidden one is the least such
  pub hidden_is : (i j : ℕ) → i < pieces → j < s.geometry.fragments → exposed_points rack spots s i j < s.geometry.need → IsHiddenAt (exposed_columns rack spots) (places_of s) i (hidden_of rack spots s i)
  hidden_is i j li lj few = by (least s.geometry.fragments test) refl
    where
      test : ℕ → Bool
      test l = nat_lt (exposed_points rack spots s i l) s.geometry.need

      by : (o : Option ℕ) → least s.geometry.fragments test ≡ o → IsHiddenAt (exposed_columns rack spots) (places_of s) i (unwrap_or o 0)
      by None e = absurd (let no : test j ≡ false = least_none s.geometry.fragments test e j lj in let yes : test j ≡ true = is_less _ _ few in cc)
      by (Some k) e =
          let k_is = least_some s.geometry.fragments test k e in
          record {
            fragment = k_is.0;
            few = subst (λ (n : ℕ). n < s.geometry.need) (sym (points_counted i k li k_is.0)) (less_is _ _ k_is.1);
            least = λ l lt. subst (λ (n : ℕ). s.geometry.need ≤ n) (sym (points_counted i l li (omega (arith, lt, k_is.0)))) (not_less _ _ (k_is.2 l lt));
          }

-- A RECORD

module _ (rack : Rack) (spots : List Spot) (r : Record) (veils : List Veil) (racked : IsRack rack) (fits : FitsRack rack r) (are : AreVeils rack spots r veils) (hidden : AreHidden veils) where
  pub split_fits : (n : ℕ) (s : Split) → slice_get (splits_of r) n ≡ Some s → FitsSplit rack (pieces_of r.length) s
  split_fits n s e = all_at (FitsSplit rack (pieces_of r.length)) (splits_of r) n s fits.splits e

  pub veiled : (n : ℕ) (s : Split) → slice_get (splits_of r) n ≡ Some s → IsVeiledSplit (exposed_columns rack spots) (places_of s) (pieces_of r.length) (hidden_of rack spots s)
  veiled n s e i li =
      let within : n * pieces_of r.length + i < length veils = omega (arith, are.count, part_before n (length (splits_of r)) (pieces_of r.length) i (slice_get_within (splits_of r) n s e) li) in
      let found = element_at veils (n * pieces_of r.length + i) within in
      let v : Veil = found.0 in
      let is : IsVeil rack spots s n i v = are.each n i s v e li found.1 in
      let few : v.have < v.need = all_at (λ (v : Veil). v.have < v.need) veils (n * pieces_of r.length + i) v hidden found.1 in
      hidden_is rack spots racked (pieces_of r.length) s (split_fits n s e) i (v.fragment - 1) li (omega (arith, is.least.number.0, is.least.number.1))
      (subst (λ (n : ℕ). n < s.geometry.need) is.least.is (subst (λ (n : ℕ). v.have < n) is.need few))

  module _ (n : ℕ) (s : Split) (at : slice_get (splits_of r) n ≡ Some s) (file other random : List ℕ) (long : length file ≡ r.length) (other_long : length other ≡ r.length) (bytes : AreBytes other) (store : IsStore s.geometry file random) where
    other_store : IsStore s.geometry other random
    other_store = record {
      geometry = store.geometry;
      fits = subst (λ (n : ℕ). n ≤ longest) (long ∙ sym other_long) store.fits;
      taken = subst (λ (n : ℕ). length random ≡ random_len (pieces_of n) s.geometry) (long ∙ sym other_long) store.taken;
      file_bytes = bytes;
      random_bytes = store.random_bytes;
    }

    pub veiled_store : IsVeiledStore (exposed_columns rack spots) (places_of s) (hidden_of rack spots s) file other random
    veiled_store = record {
      store = store;
      other_store = other_store;
      same_length = other_long ∙ sym long;
      veiled = subst (λ (n : ℕ). IsVeiledSplit (exposed_columns rack spots) (places_of s) (pieces_of n) (hidden_of rack spots s)) (sym long) (veiled n s at);
    }

    module _ (laws : PlaceLaws) (veils_laws : VeilLaws) where
      pub random_store : IsStore s.geometry other (other_random rack spots s file other random)
      random_store = veils_laws.store (exposed_columns rack spots) (places_of s) (hidden_of rack spots s) file other random veiled_store

      pub returned : other_random rack spots s other file (other_random rack spots s file other random) ≡ random
      returned = veils_laws.back (exposed_columns rack spots) (places_of s) (hidden_of rack spots s) file other random veiled_store

      -- the block of an exposed point is the same
      pub same_block : (i j p : ℕ) → i < pieces_of r.length → j < s.geometry.fragments → p < s.geometry.shards → is_exposed_at rack spots s i j p ≡ true
          → slice_get (file_blocks s.geometry other (other_random rack spots s file other random)) (position s.geometry i j p) ≡ slice_get (file_blocks s.geometry file random) (position s.geometry i j p)
      same_block i j p li lj lp seen =
          let li' : i < pieces_of (length file) = subst (λ (n : ℕ). i < pieces_of n) (sym long) li in
          let li'' : i < pieces_of (length other) = subst (λ (n : ℕ). i < pieces_of n) (sym other_long) li in
          laws.each s.geometry other (other_random rack spots s file other random) i j p li'' lj lp
          ∙ ap Some (veils_laws.blocks (exposed_columns rack spots) (places_of s) (hidden_of rack spots s) file other random i j p veiled_store li' lj lp
          (seen_at rack spots racked (pieces_of r.length) s (split_fits n s at) i j p li lj lp ∙ seen))
          ∙ sym (laws.each s.geometry file random i j p li' lj lp)

pub bytes_return : PlaceLaws → VeilLaws → BytesReturn
bytes_return places veils_laws rack spots r veils n s file other random racked fits are hidden at long other_long bytes store = (
  random_store rack spots r veils racked fits are hidden n s at file other random long other_long bytes store places veils_laws,
  returned rack spots r veils racked fits are hidden n s at file other random long other_long bytes store places veils_laws,
)

-- A RUN

module _ (places : PlaceLaws) (veils_laws : VeilLaws) (rack : Rack) (spots : List Spot) (w : World) (r : Record) (veils : List Veil) (other : List ℕ) (racked : IsRack rack) (names : AreNames rack w.index.now)
    (published : Contains w.index.now.published r) (written : RecordWritten w.site.groups w.kept (w.originals r.name) r) (are : AreVeils rack spots r veils) (hidden : AreHidden veils) (bytes : AreBytes other) (long : length other ≡ r.length) where
  fits : FitsRack rack r
  fits = All-contains (FitsRack rack) w.index.now.published r names.fits published

  abbrev file : List ℕ
  file = (w.originals r.name).file

  abbrev randoms : List (List ℕ)
  randoms = (w.originals r.name).randoms

  abbrev Store : Split → List ℕ → Type 0
  Store s random = IsStore s.geometry file random

  -- each random bytes are those of a split
  stored : (n : ℕ) (random : List ℕ) → slice_get randoms n ≡ Some random → (s : Split) × (slice_get (splits_of r) n ≡ Some s) × Store s random
  stored n random at =
      let pair = paired_at (λ x random. SplitWritten w.site.groups w.kept r.name file random x) (splits_of r) randoms n random written.splits at in
      (pair.0, pair.1, pair.2.store)

  module _ (n : ℕ) (s : Split) (random : List ℕ) (at : slice_get (splits_of r) n ≡ Some s) (its : slice_get randoms n ≡ Some random) (store : Store s random) where
    random_is : other_randoms rack spots r file other randoms n ≡ other_random rack spots s file other random
    random_is =
        ap₂ (λ x y. other_random rack spots x file other y) (get_or_from_slice_get (splits_of r) n s (current_of r) at) (get_or_from_slice_get randoms n random [] its)

    now_store : IsStore s.geometry other (other_random rack spots s file other random)
    now_store = random_store rack spots r veils racked fits are hidden n s at file other random (sym written.long) long bytes store places veils_laws

    bytes_like : AreBytes (other_randoms rack spots r file other randoms n) × (length (other_randoms rack spots r file other randoms n) ≡ length random)
    bytes_like = (
      subst AreBytes (sym random_is) now_store.random_bytes,
      ap (length {A = ℕ}) random_is ∙ now_store.taken ∙ ap (λ (n : ℕ). random_len (pieces_of n) s.geometry) (long ∙ written.long) ∙ sym store.taken,
    )

    module _ (b : ℕ) (p : Place) (e : slice_get s.places b ≡ Some p) (sees : Sees (sight_of rack (has_column spots) p.group) p.column) where
      abbrev k : ℕ
      k = s.geometry.fragments

      abbrev m : ℕ
      m = s.geometry.shards

      abbrev i : ℕ
      i = b / m / k

      abbrev j : ℕ
      j = b / m % k

      abbrev x : ℕ
      x = b % m

      its_split : FitsSplit rack (pieces_of r.length) s
      its_split = split_fits rack spots r veils racked fits are hidden n s at

      some_fragments : 0 < k
      some_fragments = omega (arith, store.geometry.fragments.0)

      some_shards : 0 < m
      some_shards = omega (arith, store.geometry.need.0, store.geometry.need.1)

      lj : j < k
      lj = mod_below (b / m) k some_fragments

      lx : x < m
      lx = mod_below b m some_shards

      li : i < pieces_of r.length
      li = (div-lt_iff_lt-mul some_fragments).1 ((div-lt_iff_lt-mul some_shards).1 (subst (λ (n : ℕ). b < n) its_split.count (slice_get_within s.places b p e)))

      place : position s.geometry i j x ≡ b
      place = ap (λ (q : ℕ). q * m + x) (div-add-mod' (b / m) k) ∙ div-add-mod' b m

      exposed : is_exposed_at rack spots s i j x ≡ true
      exposed =
          ap (λ (p : Place). is_exposed rack spots p.group p.column) (get_or_from_slice_get s.places (position s.geometry i j x) p no_place (ap (slice_get s.places) place ∙ e))
          ∙ sees_exposed rack spots p.group p.column sees

      same : slice_get (file_blocks s.geometry other (other_randoms rack spots r file other randoms n)) b ≡ slice_get (file_blocks s.geometry file random) b
      same =
          ap (λ y. slice_get (file_blocks s.geometry other y) b) random_is
          ∙ subst (λ (n : ℕ). slice_get (file_blocks s.geometry other (other_random rack spots s file other random)) n ≡ slice_get (file_blocks s.geometry file random) n) place
          (same_block rack spots r veils racked fits are hidden n s at file other random (sym written.long) long bytes store places veils_laws i j x li lj lx exposed)

  one_split : (n : ℕ) (x : Split) (random : List ℕ) → HasSplit w r.name file random n x → slice_get (splits_of r) n ≡ Some x
  one_split n x random h = subst (λ (o : Record). slice_get (splits_of o) n ≡ Some x) (one_record w.index.now.published h.of r names.ascends h.published published h.named) h.its_split

  pub explained : AreExplained (sight_of rack (has_column spots)) w r.name other (other_randoms rack spots r file other randoms)
  explained = record {
    bytes = bytes;
    long = long ∙ written.long;
    each = λ n random at. (let s = stored n random at in bytes_like n s.0 random s.1 at s.2);
    blocks = λ n x random b p h e sees.
        (let at : slice_get (splits_of r) n ≡ Some x = one_split n x random h in
        let s = stored n random h.its_random in
        let store : Store x random = subst (λ s. Store s random) (same_Some s.0 x (sym s.1 ∙ at)) s.2 in
        same n x random at h.its_random store b p e sees);
  }

pub audits_hide : PlaceLaws → VeilLaws → RunWrites → RunReplays → SightsFit → CoalitionsSee → AuditsHide
audits_hide places veils_laws writes replays sights see rack spots exchanges steps w r veils other racked runs ends published are hidden bytes long =
    see rack exchanges (sight_of rack (has_column spots)) steps w r.name other (other_randoms rack spots r (w.originals r.name).file other (w.originals r.name).randoms)
    racked (sights rack (has_column spots)) runs ends
    (explained places veils_laws rack spots w r veils other racked (replays rack steps w racked runs).1 published (writes rack steps w racked runs r published) are hidden bytes long)
