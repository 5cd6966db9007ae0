-- A closed example: what a world says of the session in which one block was put.
use Rattle.std.specs.Prelude.{◌≡◌, ℕ, nat_eq, Bool, List, [], ◌∷◌, Some, slice_get}
use Rattle.pot_bytes.specs.Digests.{digest_of}
use Rattle.pot_bytes.specs.Lists.{IsBlock}
use Rattle.pot_world.specs.Coalition.{Served}
use Rattle.pot_world.specs.Group.{WorldGroup}
use Rattle.pot_world.specs.Reached.{Site}
use Rattle.pot_theorem.specs.Hard.{HoldsInWorld}
use Rattle.pot_theorem.specs.Sessions.{AreInARow, ClosedSession}
use Rattle.pot_theorem.specs.Worlds.{IsInWorld}
use Rattle.run_examples.specs.OnePut.{put_of}

-- Its only group, as moves of a world lead to it: archive 0 holds the block.
abbrev pub HoldsBlock : List ℕ → Site → Type 0
HoldsBlock block z =
    (h : WorldGroup) → slice_get z.groups 0 ≡ Some h → h.state.held 0 0 ≡ Some block

-- The block that was put there has the digest of the log, and archive 0 served it.
pub record IsBlockServed (block : List ℕ) (h : WorldGroup) : Type 0 where
  pub digest : digest_of (h.written 0 0) ≡ digest_of block
  pub serves : Served h 0 0

-- who has the parity column
abbrev pub has_parity : ℕ → ℕ → Bool
has_parity g c = nat_eq c 1

-- There are other sessions of the same moves, of which who has the parity column sees that archive
-- 0 holds the block.
pub record ParitySees (block : List ℕ) (z : Site) : Type 0 where
  pub site : Site
  pub sees : (a b : WorldGroup) → slice_get z.groups 0 ≡ Some a → slice_get site.groups 0 ≡ Some b
      → b.state.held 0 0 ≡ Some block

-- So it is with a first session that logged this put, whatever block was put.
abbrev pub PutInWorld : Type 0
PutInWorld =
    (block : List ℕ) → IsBlock block
    → (c : ClosedSession) × (c.last.group_logs ≡ (put_of block ∷ []) ∷ []) × AreInARow c []
    × ((w : IsInWorld c []) × HoldsBlock block w.site)
    × ((holds : HoldsInWorld c [])
    × ((h : WorldGroup) → slice_get holds.world.site.groups 0 ≡ Some h → IsBlockServed block h)
    × ParitySees block holds.world.site)
