-- A store of a file of one byte, the loss of its first block, and a fetch of it.
use Rattle.std.proofs.Common.{◌≡◌, ℕ, zero, suc, ◌<◌, ◌≤◌, List, [], ◌∷◌, ◌++◌, Option, Some, None, true, false, refl, sym, ap, subst, arith, ◌∙◌, ◌⊎◌, inl, inr, ◌-◌, nat_eq, length}
use Rattle.std.specs.Prelude.{slice_get, Contains, IsSomeAnd, ◌≢◌, ◌↔◌}
use Rattle.std.specs.Cmp.{nat_eq_equiv}
use Rattle.std.proofs.lemmas.Option.{same_Some}
use Rattle.std.proofs.lemmas.Map.Made.{IsDistinct-from_count}
use Rattle.pot_bytes.specs.declared.digest.Digest.{Digest}
use Rattle.pot_bytes.specs.Digests.{digest_of}
use Rattle.pot_bytes.specs.declared.rack.Place.{Place}
use Rattle.pot_bytes.specs.Lists.{IsBlock}
use Rattle.pot_bytes.proofs.Elements.{one_contained}
use Rattle.pot_machine.specs.declared.slot.SlotState.TheVariants.{Void, Live, Broken}
use Rattle.pot_machine.specs.Table.{count, least}
use Rattle.pot_steps.specs.Stripe.{Stripe, Sound}
use Rattle.pot_steps.specs.Law.{FindsUnsound, Rebuildable}
use Rattle.pot_shard.specs.FileBlocks.{file_blocks}
use Rattle.pot_shard.specs.FileLaws.{IsStore}
use Rattle.pot_shard.specs.Places.{PlaceLaws, block_in, place_at}
use Rattle.pot_shard.specs.Fetches.{AreChosen}
use Rattle.pot_world.specs.declared.step.Step.{Step}
use Rattle.pot_world.specs.declared.step.Step.TheVariants as step
use Rattle.pot_world.specs.Bounds.{FixedIn}
use Rattle.pot_world.specs.Group.{WorldGroup, look, mend, put_within, sound_block}
use Rattle.pot_world.specs.Reached.{at_group, first_groups}
use Rattle.pot_world.specs.Remains.{HasPlacedAt}
use Rattle.pot_world.specs.World.{UnderWay, World, Runs, Gathered, FragmentGathered, blocks_of, first_world, group_at, made, next_block, put_block, put_step, record_made, store_begun}
use Rattle.pot_world.specs.Worlds.{GatheredGive, Paired, OneBlock, RunFetches, RunGathers, RunJoins, RunMends, RunWrites}
use Rattle.law_examples.specs.Sessions.{rack}
use Rattle.law_examples.specs.Stored.{FetchGivesFile, GatheredIsBlock, LossIsMended, StoreIsWritten, fetches, file, geometry, loses, mended, name, place_in, stores}
use Rattle.law_examples.proofs.Seeing.{is_rack, one, two}

one_two : 1 < 2
one_two = omega arith

abbrev pub block : List ℕ → ℕ → List ℕ
block random j = block_in geometry file random 0 j 0

pub two_blocks : PlaceLaws → (random : List ℕ) → length (file_blocks geometry file random) ≡ 2
two_blocks laws random = laws.count geometry file random

pub block_0 : PlaceLaws → (random : List ℕ) → slice_get (file_blocks geometry file random) 0 ≡ Some (block random 0)
block_0 laws random = laws.each geometry file random 0 0 0 one two one

pub block_1 : PlaceLaws → (random : List ℕ) → slice_get (file_blocks geometry file random) 1 ≡ Some (block random 1)
block_1 laws random = laws.each geometry file random 0 1 0 one (omega arith) one

-- THE STEPS OF THE STORE

pub put_goes : (u : UnderWay) (b : List ℕ) (rest : List Step) (w v : World) → (w.actors 1).under_way ≡ Some u → next_block u ≡ Some b → length u.places < length (blocks_of u) → Runs rest (put_block 1 u (Some b) w) v → Runs (step.PutNext 1 ∷ rest) w v
unfolding Runs
put_goes u b rest w v e f lt r = (
  subst (λ (o : Option UnderWay). IsSomeAnd o (λ u. length u.places < length (blocks_of u))) (sym e) lt,
  subst (λ (x : World). Runs rest x v) (sym (ap (λ (o : Option UnderWay). put_step 1 o w) e ∙ ap (λ (o : Option (List ℕ)). put_block 1 u o w) f)) r,
)

abbrev pub under_way : List ℕ → UnderWay
under_way random = store_begun name file geometry random

abbrev pub half_way : List ℕ → UnderWay
half_way random = record (under_way random) { places = place_in 0 ∷ [] }

abbrev pub whole : List ℕ → UnderWay
whole random = record (under_way random) { places = place_in 0 ∷ place_in 1 ∷ [] }

abbrev pub begun_world : List ℕ → World
begun_world random = made (step.Store 1 name file random) (first_world rack)

abbrev pub half_world : List ℕ → World
half_world random = put_block 1 (under_way random) (Some (block random 0)) (begun_world random)

abbrev pub stored_world : List ℕ → World
stored_world random = made (step.Publish 1) (put_block 1 (half_way random) (Some (block random 1)) (half_world random))

pub first_way : (random : List ℕ) → ((begun_world random).actors 1).under_way ≡ Some (under_way random)
first_way random = refl

pub second_way : (random : List ℕ) → ((half_world random).actors 1).under_way ≡ Some (half_way random)
unfolding put_within least count at_group first_groups
second_way random = refl

pub third_way : (random : List ℕ) → ((put_block 1 (half_way random) (Some (block random 1)) (half_world random)).actors 1).under_way ≡ Some (whole random)
unfolding put_within least count at_group first_groups
third_way random = refl

pub store_goes : PlaceLaws → (random : List ℕ) → IsStore geometry file random → (rest : List Step) (v : World) → Runs rest (stored_world random) v → Runs (stores random ++ rest) (first_world rack) v
unfolding Runs put_within least count at_group first_groups
store_goes laws random is rest v r = (
  (refl, is),
  put_goes (under_way random) (block random 0) (step.PutNext 1 ∷ step.Publish 1 ∷ rest) (begun_world random) v (first_way random) (block_0 laws random) (subst (λ n. 0 < n) (sym (two_blocks laws random)) two)
      (put_goes (half_way random) (block random 1) (step.Publish 1 ∷ rest) (half_world random) v (second_way random) (block_1 laws random) (subst (λ n. 1 < n) (sym (two_blocks laws random)) (omega arith))
      ((sym (two_blocks laws random), λ e. absurd (no_renewal e)), r)),
)
  where
    no_renewal : false ≡ true → ⊥
    no_renewal e = cc

-- THE PLACES

abbrev pub lost_world : List ℕ → World
lost_world random = made (step.Lose 0 0) (stored_world random)

pub lost_run : PlaceLaws → (random : List ℕ) → IsStore geometry file random → Runs (loses random) (first_world rack) (lost_world random)
unfolding Runs
lost_run laws random is = store_goes laws random is (step.Lose 0 0 ∷ []) (lost_world random) (tt, refl)

pub written : PlaceLaws → RunWrites → StoreIsWritten
unfolding HasPlacedAt Paired put_within least count at_group first_groups
written laws law random is =
    let run = lost_run laws random is in
    let x = law rack (loses random) (lost_world random) is_rack run (record_made (whole random)) (0, one, refl) in
    let a = x.splits.0.written 0 (place_in 0) refl in
    let b = x.splits.0.written 1 (place_in 1) refl in (
      lost_world random,
      run,
      record {
        first = a.2.written ∙ same_Some _ _ (sym a.1 ∙ block_0 laws random);
        second = b.2.written ∙ same_Some _ _ (sym b.1 ∙ block_1 laws random);
        used = a.2.used;
      },
    )

-- THE LOST BLOCK

pub fixed_after : (n : ℕ) (blind : List ℕ) (g : WorldGroup) → IsBlock blind → FixedIn n 0 0 g → (m : ℕ) × (m ≤ n) × (sound_block (mended m blind g) 0 0 ≡ Some ((mended m blind g).written 0 0))
unfolding FixedIn
fixed_after zero blind g is f = (0, omega arith, f)
fixed_after (suc n) blind g is f =
    elim f [
      | inl e ↦ (0, omega arith, e)
      | inr go ↦ let r = fixed_after n blind (mend 2 0 0 blind g) is (go 2 blind is) in (suc r.0, (let l = r.1 in omega (arith, l)), r.2)
    ]

rebuilds : (s : Stripe) (d p : Digest) (q : List ℕ) → s.slots 0 ≡ Live d → s.slots 1 ≡ Void → s.slots 2 ≡ Live p → s.held 0 ≡ None → s.held 2 ≡ Some q → digest_of q ≡ p → Rebuildable 2 1 s 0
unfolding count
rebuilds s d p q zero_is one_is two_is lost held right = record {
  column = omega arith;
  not_void = λ e. absurd (not_void e);
  not_sound = gone;
  none_broken = none_broken;
  few = ((λ c. nat_eq c 0), finds, omega arith);
}
  where
    not_void : s.slots 0 ≡ Void → ⊥
    not_void e = void_live d (sym e ∙ zero_is)
      where
        void_live : (d : Digest) → Void ≡ Live d → ⊥
        void_live d e = cc

    gone : Sound s 0 → ⊥
    gone x = none x.0 (sym lost ∙ x.1.held)
      where
        none : (b : List ℕ) → None ≡ Some b → ⊥
        none b e = cc

    none_broken : (c : ℕ) (x : Digest) → c < 3 → s.slots c ≢ Broken x
    none_broken zero x l = λ e. live d x (sym zero_is ∙ e)
      where
        live : (d x : Digest) → Live d ≡ Broken x → ⊥
        live d x e = cc
    none_broken (suc zero) x l = λ e. void x (sym one_is ∙ e)
      where
        void : (x : Digest) → Void ≡ Broken x → ⊥
        void x e = cc
    none_broken (suc (suc zero)) x l = λ e. live p x (sym two_is ∙ e)
      where
        live : (d x : Digest) → Live d ≡ Broken x → ⊥
        live d x e = cc
    none_broken (suc (suc (suc c))) x l = absurd (omega (arith, l))

    finds : FindsUnsound 2 1 s (λ c. nat_eq c 0)
    finds zero l = ((λ t. ((λ e. absurd (not_void e)), gone)), λ h. refl)
    finds (suc zero) l = ((λ t. absurd (no t)), λ h. absurd (h.0 one_is))
      where
        no : false ≡ true → ⊥
        no e = cc
    finds (suc (suc zero)) l = ((λ t. absurd (no t)), λ h. absurd (h.1 (q, record { digest = p; live = two_is; held = held; right = right })))
      where
        no : false ≡ true → ⊥
        no e = cc
    finds (suc (suc (suc c))) l = absurd (omega (arith, l))

pub is_back : PlaceLaws → RunMends → LossIsMended
unfolding put_within least count at_group first_groups
is_back laws law random blind is il =
    let run = lost_run laws random is in
    let f = law rack (loses random) (lost_world random) is_rack run 2 0 0 0 two (group_at (lost_world random) 0) refl two (rebuilds _ _ _ _ refl refl refl refl refl refl) in
    let r = fixed_after 7 blind (look 2 0 0 (group_at (lost_world random) 0)) il f in
    (lost_world random, run, record { mends = r.0; few = r.1; back = r.2 })

-- THE FETCH

abbrev found_world : List ℕ → World
found_world random = made (step.Fetch 2 name) (stored_world random)

abbrev fetched_world : List ℕ → World
fetched_world random = made (step.LookAt 2 (place_in 1)) (made (step.LookAt 2 (place_in 0)) (found_world random))

fetched_run : PlaceLaws → (random : List ℕ) → IsStore geometry file random → Runs (fetches random) (first_world rack) (fetched_world random)
unfolding Runs put_within least count at_group first_groups
fetched_run laws random is =
    store_goes laws random is (step.Fetch 2 name ∷ step.LookAt 2 (place_in 0) ∷ step.LookAt 2 (place_in 1) ∷ []) (fetched_world random)
    (tt, ((two, (two, omega arith)), ((one_two, (two, omega arith)), refl)))

chosen : AreChosen geometry (1 ∷ [])
chosen = record { enough = refl; distinct = IsDistinct-from_count nat_eq_equiv _ refl; each = each }
  where
    each : (x : ℕ) → Contains (1 ∷ []) x → (1 ≤ x) × (x ≤ 1)
    each x h = let e = one_contained 1 x h in (omega (arith, e), omega (arith, e))

abbrev gathered : List ℕ → List Gathered
gathered random = record { place = place_in 0; block = block random 0 } ∷ record { place = place_in 1; block = block random 1 } ∷ []

-- one point of a fragment was gathered
fragment : (random : List ℕ) (j : ℕ) (b : List ℕ) → Contains (gathered random) (record { place = place_in j; block = b }) → place_at geometry (whole random).places 0 j 0 ≡ place_in j → FragmentGathered (record_made (whole random)) (gathered random) 0 j
fragment random j b there at = record { points = 1 ∷ []; chosen = chosen; each = each }
  where
    each : (x : ℕ) → Contains (1 ∷ []) x → (block : List ℕ) × Contains (gathered random) (record { place = place_at geometry (whole random).places 0 j (x - 1); block = block })
    each x h =
        subst (λ (x : ℕ). (block : List ℕ) × Contains (gathered random) (record { place = place_at geometry (whole random).places 0 j (x - 1); block = block })) (one_contained 1 x h)
        (b, subst (λ (p : Place). Contains (gathered random) (record { place = p; block = b })) (sym at) there)

has_gathered : (random : List ℕ) (i j : ℕ) → i < 1 → j < 2 → FragmentGathered (record_made (whole random)) (gathered random) i j
has_gathered random zero zero li lj = fragment random 0 (block random 0) (0, two, refl) refl
has_gathered random zero (suc zero) li lj = fragment random 1 (block random 1) (1, one_two, refl) refl
has_gathered random zero (suc (suc j)) li lj = absurd (omega (arith, lj))
has_gathered random (suc i) j li lj = absurd (omega (arith, li))

pub gives : PlaceLaws → RunJoins → RunFetches → FetchGivesFile
unfolding put_within least count at_group first_groups
gives laws joins law random is =
    let run = fetched_run laws random is in
    let r = record_made (whole random) in
    let found : ((fetched_world random).actors 2).found ≡ Some r = refl in
    let joined = joins rack (fetches random) (fetched_world random) is_rack run 2 r found (has_gathered random) in
    let alone : (other : List ℕ) → GatheredGive r ((fetched_world random).actors 2).gathered other → other ≡ file = λ other h. law rack (fetches random) (fetched_world random) is_rack run 2 r other found h in
    (fetched_world random, run, record { found = r; is = found; gives = subst (λ (f : List ℕ). GatheredGive r ((fetched_world random).actors 2).gathered f) (alone joined.0 joined.1) joined.1; alone = alone })

pub gathered_is : PlaceLaws → RunWrites → RunGathers → OneBlock → GatheredIsBlock
unfolding Paired put_within least count at_group first_groups
gathered_is laws writes gathers one_block random is =
    let run = fetched_run laws random is in
    let x = writes rack (fetches random) (fetched_world random) is_rack run (record_made (whole random)) (0, one, refl) in
    let a = x.splits.0.written 0 (place_in 0) refl in
    let same : (b : List ℕ) → Contains ((fetched_world random).actors 2).gathered (record { place = place_in 0; block = b }) → b ≡ block random 0 = λ b h.
    one_block (fetched_world random).site.groups 0 0 0 b a.0 (gathers rack (fetches random) (fetched_world random) is_rack run 2 (record { place = place_in 0; block = b }) h) a.2 ∙ same_Some _ _ (sym a.1 ∙ block_0 laws random) in
    (fetched_world random, run, same)
