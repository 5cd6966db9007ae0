-- What a coalition sees of runs that go on from known groups, and of sessions in a row.
use Rattle.std.specs.Prelude.{◌≡◌, ◌<◌, ◌==◌, ℕ, suc, List, [], ◌∷◌, None, Bool, map}
use Rattle.std.specs.Prelude.{if◌then◌else◌}
use Rattle.std.specs.List.{list_any}
use Rattle.pot_bytes.specs.declared.rack.Rack.{Rack}
use Rattle.pot_bytes.specs.Lists.{IsBlock}
use Rattle.pot_bytes.specs.Rack.{IsRack}
use Rattle.pot_machine.specs.Table.{Table, archives_in}
use Rattle.pot_world.specs.Group.{WorldGroup}
use Rattle.pot_world.specs.Audit.{AllFits, AllSame, Sight, One, other_moves}
use Rattle.pot_world.specs.Coalition.{IsServed}
use Rattle.pot_world.specs.Reached.{EachGroup, IsGood, Move, Reaches, Site, first_site}

-- what is known of each group of a world that is reached
pub record KnownOfGroup (rack : Rack) (used : ℕ → Bool) (g : WorldGroup) : Type 0 where
  pub good : IsGood used g
  pub served : IsServed used g
  pub sizes : (g.state.table.stripes ≡ rack.stripes)
      × (g.state.table.data_columns ≡ rack.columns)

-- of two worlds: the groups of the one are known, those of the other keep their rules, and what is
-- seen is the same in both
pub record Both (rack : Rack) (exchanges : Bool) (sights : ℕ → Sight) (x y : Site) : Type 0 where
  pub used : y.used ≡ x.used
  pub known : EachGroup (KnownOfGroup rack x.used) x.groups
  pub good : EachGroup (IsGood y.used) y.groups
  pub same : AllSame exchanges sights x.groups y.groups

-- no single column is seen but a data column
abbrev pub SeesNoParity : Rack → (ℕ → Sight) → Type 0
SeesNoParity rack sights = (n k : ℕ) → sights n ≡ One k → k < rack.columns

abbrev pub FirstBoth : Type 0
FirstBoth =
    (rack : Rack) (exchanges : Bool) (sights : ℕ → Sight) → IsRack rack
    → Both rack exchanges sights (first_site rack) (first_site rack)

-- Of two such worlds each run of the one has its like of the other, as from the first one.
abbrev pub RunsSeenOn : Type 0
RunsSeenOn =
    (rack : Rack) (exchanges : Bool) (sights : ℕ → Sight) (bytes : ℕ → List ℕ) (moves : List Move)
    (x y z : Site) → SeesNoParity rack sights → ((n : ℕ) → IsBlock (bytes n))
    → Both rack exchanges sights x y → Reaches x moves z → AllFits sights bytes moves x
    → (w : Site) × Reaches y (other_moves exchanges sights bytes moves x y) w
    × Both rack exchanges sights z w

-- SESSIONS IN A ROW

-- what is said of an archive of a table by its number, and of no other archive
abbrev pub of_table : {A : Type 0} → Table → A → (ℕ → A) → ℕ → A
of_table t none f n = if list_any (λ m. m == n) (archives_in t) then f n else none

-- A group when a session has ended and the next one begins: no relay stands, its log is empty, and
-- it has the archives of its table alone, as they are. Those that were retired are no part of it.
abbrev pub reopened : WorldGroup → WorldGroup
reopened g =
    record g {
      first = record g.state.table { relays = [] };
      state =
          record {
            table = record g.state.table { relays = [] };
            log = [];
            held = λ n slot. of_table g.state.table None (λ m. g.state.held m slot) n;
            heard = λ n. of_table g.state.table [] g.state.heard n;
            flights = [];
          };
    }

abbrev pub reopened_site : Site → Site
reopened_site x = record x { groups = map reopened x.groups }

-- the first world is as it is when it is reopened
abbrev pub FirstReopened : Type 0
FirstReopened = (rack : Rack) → reopened_site (first_site rack) ≡ first_site rack

abbrev pub ReopenedBoth : Type 0
ReopenedBoth =
    (rack : Rack) (exchanges : Bool) (sights : ℕ → Sight) (x y : Site) → SeesNoParity rack sights
    → Both rack exchanges sights x y
    → Both rack exchanges sights (reopened_site x) (reopened_site y)

-- the moves of session after session, each from what the one before left
abbrev pub Sessions : Site → List (List Move) → Site → Type 0
Sessions x [] z = z ≡ x
Sessions x (moves ∷ more) z =
    (y : Site) × Reaches (reopened_site x) moves y × Sessions y more z

-- the bytes of the other run, by session and by move, come to columns that are not seen
abbrev pub SessionsFit : (ℕ → Sight) → (ℕ → ℕ → List ℕ) → (x : Site) → (sessions : List (List Move))
    → (z : Site) → Sessions x sessions z → Type 0
SessionsFit sights bytes x [] z run = Unit {0}
SessionsFit sights bytes x (moves ∷ more) z run =
    AllFits sights (bytes 0) moves (reopened_site x)
    × SessionsFit sights (λ n. bytes (suc n)) run.0 more z run.2

-- the other run
abbrev pub OtherSessions : Bool → (ℕ → Sight) → (ℕ → ℕ → List ℕ) → (x y : Site)
    → (sessions : List (List Move)) → (z : Site) → Sessions x sessions z → Site → Type 0
OtherSessions exchanges sights bytes x y [] z run w = w ≡ y
OtherSessions exchanges sights bytes x y (moves ∷ more) z run w =
    (v : Site)
    × Reaches (reopened_site y)
    (other_moves exchanges sights (bytes 0) moves (reopened_site x) (reopened_site y)) v
    × OtherSessions exchanges sights (λ n. bytes (suc n)) run.0 v more z run.2 w

-- From the first world on, whatever the sessions, each has its like with other bytes, and what is
-- seen at the end is the same.
abbrev pub SessionsSeenSame : Type 0
SessionsSeenSame =
    (rack : Rack) (exchanges : Bool) (sights : ℕ → Sight) (bytes : ℕ → ℕ → List ℕ)
    (sessions : List (List Move)) (z : Site) → IsRack rack → SeesNoParity rack sights
    → ((n m : ℕ) → IsBlock (bytes n m)) → (run : Sessions (first_site rack) sessions z)
    → SessionsFit sights bytes (first_site rack) sessions z run
    → (w : Site)
    × OtherSessions exchanges sights bytes (first_site rack) (first_site rack) sessions z run w
    × (w.used ≡ z.used) × AllSame exchanges sights z.groups w.groups
