-- The groups that sessions leave are those that moves of a world lead to.
use Rattle.std.specs.Prelude.{◌≡◌, ◌++◌, ℕ, suc, List, [], ◌∷◌, Contains, Some, length}
use Rattle.std.specs.Prelude.{slice_get}
use Rattle.pot_machine.specs.declared.entry.Entry.{Entry}
use Rattle.pot_machine.specs.Machine.{Replays}
use Rattle.pot_machine.specs.Table.{Table, archives_in}
use Rattle.pot_group.specs.Arrivals.{arrivals}
use Rattle.pot_shared.specs.Leaving.{still}
use Rattle.pot_world.specs.Group.{WorldGroup}
use Rattle.pot_world.specs.Later.{Sessions}
use Rattle.pot_world.specs.Reached.{AllGood, Move, Site, first_site}
use Rattle.pot_theorem.specs.Sessions.{ClosedSession, AreInARow}

-- A group of a session, by its number: the table that it began with, and the log and the table that
-- it left.
pub record IsGroupOf (c : ClosedSession) (g : ℕ) (read written : Table) (log : List Entry) : Type
    0 where
  pub was : slice_get c.first.tables g ≡ Some read
  pub is : slice_get c.last.tables g ≡ Some written
  pub logged : slice_get c.last.group_logs g ≡ Some log

-- the archives that such a group has had
abbrev pub had_with : Table → List Entry → List ℕ
had_with read log = archives_in read ++ arrivals log

-- A group of a world is what a session left: its table is the one to which the session's log leads
-- from the table read, and without its relays the one written. Each archive that the group has had
-- holds and has heard in the world what the room means by it after the session.
pub record IsAsLeft (c : ClosedSession) (read written : Table) (log : List Entry)
    (h : WorldGroup) : Type 0 where
  pub leads : Replays read log h.state.table
  pub is : written ≡ still h.state.table
  pub held : (n slot : ℕ) → Contains (had_with read log) n
      → h.state.held n slot ≡ (c.room.after.means n).held slot
  pub heard : (n : ℕ) → Contains (had_with read log) n
      → h.state.heard n ≡ (c.room.after.means n).heard

-- so is each
pub record AreAsLeft (c : ClosedSession) (z : Site) : Type 0 where
  pub count : length z.groups ≡ c.first.rack.groups
  pub each : (g : ℕ) (read written : Table) (log : List Entry) (h : WorldGroup)
      → IsGroupOf c g read written log → slice_get z.groups g ≡ Some h
      → IsAsLeft c read written log h

-- After each of these lists of moves the groups are what the session left that has its number.
abbrev pub AllAsLeft : List ClosedSession → (x : Site) (sessions : List (List Move)) (z : Site)
    → Sessions x sessions z → Type 0
AllAsLeft [] x sessions z run = Unit {0}
AllAsLeft (c ∷ more) x [] z run = ⊥
AllAsLeft (c ∷ more) x (moves ∷ sessions) z run =
    AreAsLeft c run.0 × AllAsLeft more run.0 sessions z run.2

-- One list of moves of a world for each session, from the first groups of the rack on, leads to
-- groups that keep their rules. After each list the groups are what its session left.
pub record IsInWorld (c : ClosedSession) (more : List ClosedSession) : Type 0 where
  pub sessions : List (List Move)
  pub many : length sessions ≡ suc (length more)
  pub site : Site
  pub run : Sessions (first_site c.first.rack) sessions site
  pub good : AllGood site
  pub as_left : AllAsLeft (c ∷ more) (first_site c.first.rack) sessions site run

-- So it is with all runs of the program, from the first one on.
abbrev pub RunsReach : Type 0
RunsReach = (c : ClosedSession) (more : List ClosedSession) → AreInARow c more → IsInWorld c more
