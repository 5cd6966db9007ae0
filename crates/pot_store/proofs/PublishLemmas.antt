-- The record of the blocks that were put.
use Rattle.std.proofs.Common.{◌≡◌, ◌<◌, ◌≤◌, ℕ, zero, suc, ◌*◌, List, [], ◌∷◌, ◌++◌, length, refl, ap, sym, ◌∙◌, subst, arith, take}
use Rattle.std.specs.Prelude.{Some, Any, map, slice_get, slice_index_or}
use Rattle.std.proofs.lemmas.List.{length-append}
use Rattle.std.proofs.lemmas.List.Elements.{All-nil, All-cons}
use Rattle.std.proofs.lemmas.Option.{same_Some}
use Rattle.std.proofs.Math.Nat.{mul_assoc}
use Rattle.pot_bytes.specs.Lists.{AreBytes}
use Rattle.pot_bytes.specs.Digests.{digest_bytes, digest_of}
use Rattle.pot_bytes.specs.Rack.{IsRack}
use Rattle.pot_bytes.specs.declared.rack.Geometry.{Geometry}
use Rattle.pot_bytes.specs.declared.rack.Place.{Place}
use Rattle.pot_bytes.specs.declared.rack.Rack.{Rack}
use Rattle.pot_bytes.proofs.Elements.{element_of_map}
use Rattle.pot_object.specs.Pieces.{longest, pieces_of}
use Rattle.pot_pads.specs.Pads.{Pads}
use Rattle.pot_shard.specs.FileBlocks.{file_blocks}
use Rattle.pot_shard.specs.FileLaws.{IsStore}
use Rattle.pot_shard.proofs.DrawLemmas.{draw_laws}
use Rattle.pot_index.specs.declared.entry.IndexEntry.{IndexEntry}
use Rattle.pot_index.specs.declared.entry.IndexEntry.TheVariants as entry
use Rattle.pot_index.specs.Entries.{IsReserving}
use Rattle.pot_index.specs.declared.record.Record.{Record}
use Rattle.pot_index.specs.Fits.{FitsGeometry, FitsRack, FitsSplit, FitsPlace}
use Rattle.pot_turn.specs.declared.name.TurnName.{TurnName}
use Rattle.pot_rows.specs.Rows.{HasMoreParts}
use Rattle.pot_rows.specs.Works.{RowWroteOnlyFor}
use Rattle.pot_rows.proofs.Lists.{get_or_last}
use Rattle.pot_replies.specs.Stores.{Placed, place_of}
use Rattle.pot_shared.specs.Ready.{GroupPasses, AreReady}
use Rattle.pot_shared.specs.Seen.{SeesFile, SeesPut}
use Rattle.pot_shared.specs.Works.{of_job}
use Rattle.pot_store.specs.Drawing.{random_from, blocks_from}
use Rattle.pot_store.specs.Puts.{ArePut}
use Rattle.pot_store.specs.Stores.{record_of}

-- LISTS

pub get_map : {A B : Type 0} (f : A → B) (xs : List A) (n : ℕ) (x : A) → slice_get xs n ≡ Some x → slice_get (map f xs) n ≡ Some (f x)
get_map f [] n x is = absurd (cc is)
get_map f (z ∷ xs) zero x is = ap (λ w. Some (f w)) (same_Some z x is)
get_map f (z ∷ xs) (suc n) x is = get_map f xs n x is

take_get : {A : Type 0} (xs : List A) (m n : ℕ) (x : A) → slice_get (take m xs) n ≡ Some x → slice_get xs n ≡ Some x
take_get [] zero n x is = absurd (cc is)
take_get [] (suc m) n x is = absurd (cc is)
take_get (z ∷ xs) zero n x is = absurd (cc is)
take_get (z ∷ xs) (suc m) zero x is = is
take_get (z ∷ xs) (suc m) (suc n) x is = take_get xs m n x is

get_or_of : {A : Type 0} (xs : List A) (n : ℕ) (x d : A) → slice_get xs n ≡ Some x → slice_index_or xs n d ≡ x
get_or_of [] n x d is = absurd (cc is)
get_or_of (z ∷ xs) zero x d is = same_Some z x is
get_or_of (z ∷ xs) (suc n) x d is = get_or_of xs n x d is

pub get_some : {A : Type 0} (xs : List A) (n : ℕ) (x d : A) → n < length xs → x ≡ slice_index_or xs n d → slice_get xs n ≡ Some x
get_some [] n x d lt is = absurd (omega (arith, lt))
get_some (z ∷ xs) zero x d lt is = ap (λ y. Some y) (sym is)
get_some (z ∷ xs) (suc n) x d lt is = get_some xs n x d (omega (arith, lt)) is

pub any_last : (job : ℕ) (name : List ℕ) (xs : List IndexEntry) → Any (IsReserving job name) (xs ++ entry.Reserve job name ∷ [])
any_last job name xs =
    (length xs, entry.Reserve job name, (let l = length-append xs (entry.Reserve job name ∷ []) in omega (arith, l)), get_or_last xs (entry.Reserve job name) (entry.Reserve job name), (refl, refl))

-- the passes have as many parts as before
pub more_parts : (n job : ℕ) (rack : Rack) (names : List TurnName) (old new : GroupPasses) → AreReady rack names old → AreReady rack names new → RowWroteOnlyFor (of_job job) old new
    → HasMoreParts n old → HasMoreParts n new
more_parts n job rack names old new ready ready2 worked parts at lt =
    let p = parts at (let a = ap length ready.of.0 in let b = ap length ready2.of.0 in omega (arith, lt, a, b)) in
    let e = (worked at).parts in omega (arith, p, e)

-- THE SPLIT

module _ (rack : Rack) (geometry : Geometry) (job : ℕ) (file : List ℕ) (pads : Pads) (blocks : List (List ℕ)) (places : List Place) (old new : GroupPasses) (fits_rack : FitsGeometry rack geometry)
    (short : length file ≤ longest) (count : length places ≡ pieces_of (length file) * (geometry.fragments * geometry.shards)) (puts : ArePut rack geometry job blocks places old new) where
  placed_at : (b : ℕ) (p : Place) → slice_get places b ≡ Some p → (x : Placed) × (slice_get puts.placed b ≡ Some x) × (place_of x ≡ p)
  placed_at b p is = element_of_map place_of puts.placed b p (sym (ap (λ ps. slice_get ps b) puts.places_are) ∙ is)

  pub fits_split : FitsSplit rack (pieces_of (length file)) (record { geometry = geometry; places = places })
  fits_split = record {
    geometry = fits_rack;
    count = count ∙ sym (mul_assoc (pieces_of (length file)) geometry.fragments geometry.shards);
    places = λ b p is. (let m = placed_at b p is in subst (λ q. FitsPlace rack geometry b q) m.2 (puts.fits b m.0 m.1));
    distinct = λ a b p at_a at_b. (let m = placed_at a p at_a in let n = placed_at b p at_b in puts.apart a b m.0 n.0 m.1 n.1 (m.2 ∙ sym n.2));
  }

  digest_at : (b : ℕ) (x : Placed) → slice_get puts.placed b ≡ Some x → x.digest ≡ digest_of (slice_index_or blocks b [])
  digest_at b x is =
      let at : slice_get (map digest_of (take (length puts.placed) blocks)) b ≡ Some x.digest = sym (ap (λ ds. slice_get ds b) puts.digests) ∙ get_map (λ (y : Placed). y.digest) puts.placed b x is in
      let m = element_of_map digest_of (take (length puts.placed) blocks) b x.digest at in
      sym m.2 ∙ ap digest_of (sym (get_or_of blocks b m.0 [] (take_get blocks (length puts.placed) b m.0 m.1)))

  -- of a record of the file with this split the passes have seen the puts
  pub sees_split : AreBytes file → blocks ≡ blocks_from geometry file pads → (r : Record) → r.geometry ≡ geometry → r.places ≡ places → r.length ≡ length file → r.digest ≡ record { bytes = digest_bytes file } → SeesFile new r
  sees_split bytes are r of_geometry at long digest = record {
    file = file;
    random = random_from geometry file pads;
    store = subst (λ g. IsStore g file (random_from geometry file pads)) (sym of_geometry) (draw_laws.store geometry pads file fits_rack.limits short bytes);
    long = sym long;
    digest = digest;
    puts = λ b p is.
        let m = placed_at b p (ap (λ ps. slice_get ps b) (sym at) ∙ is) in
        subst (λ q. SeesPut new q (digest_of (slice_index_or (file_blocks r.geometry file (random_from geometry file pads)) b []))) m.2
        (subst (λ d. SeesPut new (place_of m.0) d)
        (digest_at b m.0 m.1 ∙ ap (λ bs. digest_of (slice_index_or bs b [])) (are ∙ ap (λ g. file_blocks g file (random_from geometry file pads)) (sym of_geometry))) (puts.seen b m.0 m.1));
  }

-- THE RECORD

module _ (rack : Rack) (job : ℕ) (name file : List ℕ) (pads : Pads) (blocks : List (List ℕ)) (places : List Place) (old new : GroupPasses) (is_rack : IsRack rack)
    (short : length file ≤ longest) (count : length places ≡ pieces_of (length file) * (rack.geometry.fragments * rack.geometry.shards)) (puts : ArePut rack rack.geometry job blocks places old new) where
  its_geometry : FitsGeometry rack rack.geometry
  its_geometry = record { limits = is_rack.geometry; groups = is_rack.groups.0 }

  pub fits : FitsRack rack (record_of name file rack.geometry places)
  fits = record {
    long = short;
    few = omega arith;
    splits = All-cons (FitsSplit rack (pieces_of (length file))) (record { geometry = rack.geometry; places = places }) []
        (fits_split rack rack.geometry job file pads blocks places old new its_geometry short count puts) (All-nil (FitsSplit rack (pieces_of (length file))));
  }

  pub sees : AreBytes file → blocks ≡ blocks_from rack.geometry file pads → SeesFile new (record_of name file rack.geometry places)
  sees bytes are = sees_split rack rack.geometry job file pads blocks places old new its_geometry short count puts bytes are (record_of name file rack.geometry places) refl refl refl refl
