-- The file of one byte while it is stored, and behind it.
use Rattle.std.proofs.Common.{◌≡◌, ℕ, zero, suc, ◌<◌, List, [], ◌∷◌, true, false, refl, sym, subst, arith}
use Rattle.pot_machine.specs.Table.{count, least}
use Rattle.pot_shard.specs.FileLaws.{IsStore}
use Rattle.pot_shard.specs.Places.{PlaceLaws}
use Rattle.pot_veil.specs.Veiled.{IsVeiledSplit, IsVeiledStore, VeilLaws}
use Rattle.pot_world.specs.declared.step.Step.TheVariants as step
use Rattle.pot_world.specs.Forward.{HasSplit, PlacesPublished, PublishedSplitsStay, will_publish}
use Rattle.pot_world.specs.Group.{put_within}
use Rattle.pot_world.specs.Reached.{EachGroup, at_group, first_groups}
use Rattle.pot_world.specs.World.{Runs, first_world, record_made}
use Rattle.pot_world.specs.Worlds.{RunReplays, RunSettles}
use Rattle.law_examples.specs.Audited.{other_file, split}
use Rattle.law_examples.specs.Forward.{PlaceIsPublished, SplitStays, StoreIsReplayed, VeilHides, coalition, half, rest, veil_split}
use Rattle.law_examples.specs.Sessions.{rack}
use Rattle.law_examples.specs.Stored.{file, geometry, name, place_in, stores}
use Rattle.law_examples.proofs.Hiding.{other_bytes}
use Rattle.law_examples.proofs.Seeing.{is_rack, one, two}
use Rattle.law_examples.proofs.Storing.{begun_world, block, block_0, block_1, first_way, half_way, half_world, lost_run, lost_world, put_goes, second_way, store_goes, stored_world, two_blocks, under_way, whole}

half_run : PlaceLaws → (random : List ℕ) → IsStore geometry file random → Runs (half random) (first_world rack) (half_world random)
unfolding Runs
half_run laws random is = (
  (refl, is),
  put_goes (under_way random) (block random 0) [] (begun_world random) (half_world random) (first_way random) (block_0 laws random) (subst (λ n. 0 < n) (sym (two_blocks laws random)) two) refl,
)

rest_run : PlaceLaws → (random : List ℕ) → Runs rest (half_world random) (stored_world random)
unfolding Runs put_within least count at_group first_groups
rest_run laws random =
    put_goes (half_way random) (block random 1) (step.Publish 1 ∷ []) (half_world random) (stored_world random) (second_way random) (block_1 laws random) (subst (λ n. 1 < n) (sym (two_blocks laws random)) (omega arith))
    ((sym (two_blocks laws random), λ e. absurd (no_renewal e)), refl)
  where
    no_renewal : false ≡ true → ⊥
    no_renewal e = cc

publishes : will_publish 1 rest ≡ true
unfolding will_publish
publishes = refl

pub is_published : PlaceLaws → PlacesPublished → PlaceIsPublished
is_published laws law random is =
    let x = law rack (half random) rest (half_world random) (stored_world random) 1 (half_way random) is_rack (half_run laws random is) (rest_run laws random) (second_way random) publishes in
    (half_world random, half_run laws random is, (stored_world random, rest_run laws random, record { u = half_way random; under_way = second_way random; published = x; first = x.places 0 (place_in 0) refl }))

has_split : (random : List ℕ) → HasSplit (stored_world random) name file random 0 split
unfolding put_within least count at_group first_groups
has_split random = record { of = record_made (whole random); published = (0, one, refl); named = refl; its_file = refl; its_split = refl; its_random = refl }

store_run : PlaceLaws → (random : List ℕ) → IsStore geometry file random → Runs (stores random) (first_world rack) (stored_world random)
unfolding Runs
store_run laws random is = store_goes laws random is [] (stored_world random) refl

loss_run : (random : List ℕ) → Runs (step.Lose 0 0 ∷ []) (stored_world random) (lost_world random)
unfolding Runs
loss_run random = (tt, refl)

pub split_stays : PlaceLaws → PublishedSplitsStay → SplitStays
split_stays laws law random is =
    (lost_world random, lost_run laws random is, law rack (stores random) (step.Lose 0 0 ∷ []) (stored_world random) (lost_world random) name file random 0 split is_rack (store_run laws random is) (loss_run random) (has_split random))

pub is_replayed : PlaceLaws → RunSettles → RunReplays → StoreIsReplayed
unfolding EachGroup put_within least count at_group first_groups
is_replayed laws settles replays random is =
    let run = lost_run laws random is in
    let s = settles rack _ (lost_world random) is_rack run in
    (lost_world random, run, record { first = s.0.replays; none_odd = s.1.0.none_oddly; index = (replays rack _ (lost_world random) is_rack run).0 })

-- THE VEIL OF A FILE

veiled : IsVeiledSplit coalition veil_split 1 (λ i. 0)
veiled zero lt = record { fragment = two; few = one; least = λ l lt. absurd (omega (arith, lt)) }
veiled (suc i) lt = absurd (omega (arith, lt))

pub veil_hides : VeilLaws → VeilHides
veil_hides law random is = (
  law.blocks coalition veil_split (λ i. 0) file other_file random 0 1 0 store one (omega arith) one refl,
  law.store coalition veil_split (λ i. 0) file other_file random store,
  law.back coalition veil_split (λ i. 0) file other_file random store,
)
  where
    store : IsVeiledStore coalition veil_split (λ i. 0) file other_file random
    store = record {
      store = is;
      other_store = record { geometry = is.geometry; fits = omega arith; taken = is.taken; file_bytes = other_bytes; random_bytes = is.random_bytes };
      same_length = refl;
      veiled = veiled;
    }
