-- The session in which one block was put, as a world has it.
use Rattle.std.proofs.Common.{◌≡◌, ℕ, List, [], ◌∷◌, Some, true, refl, arith}
use Rattle.std.specs.Prelude.{slice_get}
use Rattle.pot_bytes.specs.Digests.{digest_of}
use Rattle.pot_bytes.specs.Lists.{IsBlock}
use Rattle.pot_machine.specs.Table.{count, least}
use Rattle.pot_world.specs.Audit.{Sight, sight_of}
use Rattle.pot_world.specs.Group.{WorldGroup}
use Rattle.pot_world.specs.Reached.{AllGood, Reaches, Site, first_site}
use Rattle.pot_world.proofs.Reaching.{reached_keeps}
use Rattle.pot_theorem.specs.Another.{bytes_of}
use Rattle.pot_theorem.specs.Hard.{HoldsInWorld, TheHardProperty}
use Rattle.pot_theorem.specs.Sessions.{AreInARow, ClosedSession}
use Rattle.pot_theorem.specs.Worlds.{IsGroupOf, IsInWorld, RunsReach}
use Rattle.pot_theorem.proofs.Another.{bytes_blocks, fits_sessions, SeesAsPut}
use Rattle.run_examples.specs.InWorld.{HoldsBlock, IsBlockServed, ParitySees, PutInWorld, has_parity}
use Rattle.run_examples.specs.OnePut.{put_of}
use Rattle.run_examples.specs.Quiet.{small}
use Rattle.run_examples.proofs.OnePut.{full, in_a_row, stored}
use Rattle.run_examples.proofs.Quiet.{bare, is_rack}
use Rattle.run_examples.proofs.Throughout.{left_last, sees_last}

first_good : AllGood (first_site small)
unfolding Reaches
first_good = reached_keeps small [] (first_site small) is_rack refl

none_are : (b : ℕ) (block : List ℕ) → slice_get [] b ≡ Some block → IsBlock block
none_are b block e = absurd (cc)

sees_as_put : (sights : ℕ → Sight) (z : Site) → SeesAsPut [] [] sights z
unfolding least
sees_as_put sights z g s c block sees at = refl

module _ (block : List ℕ) (is_block : IsBlock block) where
  abbrev session : ClosedSession
  session = stored block is_block

  row : AreInARow session []
  row = in_a_row block is_block

  of_group : IsGroupOf session 0 bare (full block is_block) (put_of block ∷ [])
  of_group = record { was = refl; is = refl; logged = refl }

  reached : RunsReach → (w : IsInWorld session []) × HoldsBlock block w.site
  reached law =
      let w = law session [] row in
      let left = left_last session (first_site small) w.sessions w.site w.run w.many w.as_left in
      (w, λ h there. (left.each 0 bare (full block is_block) (put_of block ∷ []) h of_group there).held 0 0 (0, omega arith, refl))

  module _ (law : TheHardProperty) where
    abbrev world : HoldsInWorld session []
    world = law session [] row

    is_served : (h : WorldGroup) → slice_get world.world.site.groups 0 ≡ Some h → IsBlockServed block h
    is_served h there = record {
      digest = world.places session (0, omega arith, refl) 0 bare (full block is_block) (put_of block ∷ []) h (put_of block) 0 0 (digest_of block) of_group there (0, omega arith, refl) (refl, refl, refl);
      serves = (world.serve 0 bare (full block is_block) (put_of block ∷ []) h 0 0 of_group there (omega arith) refl).0;
    }

    parity_sees : ParitySees block world.world.site
    unfolding least count
    parity_sees =
        let z = world.world.site in
        let bytes = bytes_of [] [] (first_site small) world.world.sessions z world.world.run in
        let v = world.veil true has_parity bytes (bytes_blocks [] [] none_are (first_site small) world.world.sessions z world.world.run)
        (fits_sessions [] [] (sight_of small has_parity) (first_site small) world.world.sessions z world.world.run first_good (sees_as_put (sight_of small has_parity) z)) in
        let sees = sees_last true (sight_of small has_parity) bytes session (first_site small) (first_site small) world.world.sessions z world.world.run v.0 v.1 world.world.many v.2 in
        record { site = v.0; sees = λ a b is_a is_b. (sees 0 bare (full block is_block) (put_of block ∷ []) a b of_group is_a is_b 0 (0, omega arith, refl)).0 0 }

pub put_in_world : RunsReach → TheHardProperty → PutInWorld
put_in_world reach law block is_block = (
  session block is_block,
  refl,
  row block is_block,
  reached block is_block reach,
  (world block is_block law, is_served block is_block law, parity_sees block is_block law),
)
