-- What a coalition of columns sees of what sessions left, and what it would see of others.
use Rattle.std.specs.Prelude.{◌≡◌, ℕ, suc, Bool, true, List, [], ◌∷◌, Contains, Some}
use Rattle.std.specs.Prelude.{slice_get}
use Rattle.pot_bytes.specs.Lists.{IsBlock}
use Rattle.pot_machine.specs.declared.entry.Entry.{Entry}
use Rattle.pot_machine.specs.Table.{Table}
use Rattle.pot_world.specs.Audit.{Blind, One, Sight, Whole, sight_of}
use Rattle.pot_world.specs.Coalition.{Served}
use Rattle.pot_world.specs.Group.{WorldGroup}
use Rattle.pot_world.specs.Later.{OtherSessions, Sessions, SessionsFit}
use Rattle.pot_world.specs.Reached.{Move, Site, first_site}
use Rattle.pot_theorem.specs.Sessions.{ClosedSession}
use Rattle.pot_theorem.specs.Worlds.{IsGroupOf, IsInWorld, had_with}

-- What a coalition sees of a group that a session left is in this group of a world what the room
-- means. It sees what each archive of the group holds that has served its column in the session,
-- and, where the blinds are exchanged, what it has heard; or, of a group of which it sees all, what
-- each archive holds and has heard.
abbrev pub SeesInRoom : Bool → Sight → ClosedSession → Table → List Entry → (g h : WorldGroup)
    → Type 0
SeesInRoom exchanges Whole c read log g h =
    (n : ℕ) → Contains (had_with read log) n
    → ((slot : ℕ) → h.state.held n slot ≡ (c.room.after.means n).held slot)
    × (h.state.heard n ≡ (c.room.after.means n).heard)
SeesInRoom exchanges (One k) c read log g h =
    (n : ℕ) → Contains (had_with read log) n → Served g k n
    → ((slot : ℕ) → h.state.held n slot ≡ (c.room.after.means n).held slot)
    × (exchanges ≡ true → h.state.heard n ≡ (c.room.after.means n).heard)
SeesInRoom exchanges Blind c read log g h = Unit {0}

-- all that it sees of a session, of which the groups of one world are what it left, in those of a
-- world with other bytes
abbrev pub SeesAllInRoom : Bool → (ℕ → Sight) → ClosedSession → (x y : Site) → Type 0
SeesAllInRoom exchanges sights c x y =
    (g : ℕ) (read written : Table) (log : List Entry) (a b : WorldGroup)
    → IsGroupOf c g read written log → slice_get x.groups g ≡ Some a → slice_get y.groups g ≡ Some b
    → SeesInRoom exchanges (sights g) c read log a b

-- so it is after each of these sessions
abbrev pub SeesAfterEach : (exchanges : Bool) (sights : ℕ → Sight) (bytes : ℕ → ℕ → List ℕ)
    → List ClosedSession → (x y : Site) (sessions : List (List Move)) (z : Site)
    (run : Sessions x sessions z) (w : Site)
    → OtherSessions exchanges sights bytes x y sessions z run w → Type 0
SeesAfterEach exchanges sights bytes [] x y sessions z run w other = Unit {0}
SeesAfterEach exchanges sights bytes (c ∷ more) x y [] z run w other = ⊥
SeesAfterEach exchanges sights bytes (c ∷ more) x y (moves ∷ sessions) z run w other =
    SeesAllInRoom exchanges sights c run.0 other.0
    × SeesAfterEach exchanges sights (λ n. bytes (suc n)) more run.0 other.0 sessions z run.2 w
    other.2

-- Sessions of the same moves, with these bytes in place of the blocks put, lead to these groups.
-- `exchanges` says whether the blinds are exchanged too.
abbrev pub SameMoves : Bool → (ℕ → ℕ → Bool) → (ℕ → ℕ → List ℕ) → (c : ClosedSession)
    (more : List ClosedSession) → IsInWorld c more → Site → Type 0
SameMoves exchanges coalition bytes c more w v =
    OtherSessions exchanges (sight_of c.first.rack coalition) bytes (first_site c.first.rack)
    (first_site c.first.rack) w.sessions w.site w.run v

-- After each session of the chain, all that the coalition sees in the groups to which the same
-- moves have led by then is what the room means. So archives that left their column in an earlier
-- session are among what it sees.
abbrev pub SeesThroughout : (exchanges : Bool) (coalition : ℕ → ℕ → Bool)
    (bytes : ℕ → ℕ → List ℕ) (c : ClosedSession) (more : List ClosedSession) (w : IsInWorld c more)
    (v : Site) → SameMoves exchanges coalition bytes c more w v → Type 0
SeesThroughout exchanges coalition bytes c more w v other =
    SeesAfterEach exchanges (sight_of c.first.rack coalition) bytes (c ∷ more)
    (first_site c.first.rack) (first_site c.first.rack) w.sessions w.site w.run v other

-- For each coalition of columns, and for other bytes in place of the blocks put, which are the same
-- where they come to columns that it sees, there are sessions of the same moves with those bytes
-- that lead, session by session, to groups in which all that the coalition sees is what the room
-- means.
abbrev pub IsCoalitionVeiled : (c : ClosedSession) (more : List ClosedSession) → IsInWorld c more → Type 0
IsCoalitionVeiled c more w =
    (exchanges : Bool) (coalition : ℕ → ℕ → Bool) (bytes : ℕ → ℕ → List ℕ)
    → ((n m : ℕ) → IsBlock (bytes n m))
    → SessionsFit (sight_of c.first.rack coalition) bytes (first_site c.first.rack) w.sessions
    w.site w.run
    → (v : Site) × (other : SameMoves exchanges coalition bytes c more w v)
    × SeesThroughout exchanges coalition bytes c more w v other
