-- An example of the theorem over two sessions: what is seen after the first of them.
use Rattle.std.specs.Prelude.{◌≡◌, ℕ, Bool, List, [], ◌∷◌, Contains, Some, slice_get}
use Rattle.pot_bytes.specs.Lists.{IsBlock}
use Rattle.pot_machine.specs.declared.entry.Entry.{Entry}
use Rattle.pot_machine.specs.Table.{Table}
use Rattle.pot_world.specs.Audit.{Whole, sight_of}
use Rattle.pot_world.specs.Group.{WorldGroup}
use Rattle.pot_world.specs.Later.{SessionsFit}
use Rattle.pot_world.specs.Reached.{Site, first_site}
use Rattle.pot_theorem.specs.Hard.{HoldsInWorld}
use Rattle.pot_theorem.specs.Sessions.{AreInARow, ClosedSession}
use Rattle.pot_theorem.specs.Worlds.{AreAsLeft, IsGroupOf, had_with}

-- The groups after a first session, and those to which the same moves lead with other bytes: in
-- these an archive of group 0 holds what the room meant by it then.
pub record SeenThen (c : ClosedSession) (n : ℕ) : Type 0 where
  pub site : Site
  pub left : AreAsLeft c site
  pub other : Site
  pub seen : (a b : WorldGroup) → slice_get site.groups 0 ≡ Some a
      → slice_get other.groups 0 ≡ Some b
      → (slot : ℕ) → b.state.held n slot ≡ (c.room.after.means n).held slot

-- Of two sessions in a row, an archive that group 0 had in the first one is seen so by whoever sees
-- all of that group, though it may have left its column in the second one.
abbrev pub SeenThroughout : Type 0
SeenThroughout =
    (c d : ClosedSession) → AreInARow c (d ∷ [])
    → (read written : Table) (log : List Entry) → IsGroupOf c 0 read written log
    → (n : ℕ) → Contains (had_with read log) n
    → (coalition : ℕ → ℕ → Bool) → sight_of c.first.rack coalition 0 ≡ Whole
    → (holds : HoldsInWorld c (d ∷ []))
    × ((bytes : ℕ → ℕ → List ℕ) → ((i j : ℕ) → IsBlock (bytes i j))
    → SessionsFit (sight_of c.first.rack coalition) bytes (first_site c.first.rack)
    holds.world.sessions holds.world.site holds.world.run
    → SeenThen c n)
