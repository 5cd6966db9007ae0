-- What a locked call of the index does, as its caller's passes see it.
use Rattle.std.specs.Prelude.{◌≡◌, ℕ, List, Any, Some, Result, Ok, Err, Vec, ◌++◌}
use Rattle.pot_bytes.specs.declared.rack.Rack.{Rack}
use Rattle.pot_object.specs.Pieces.{pieces_of}
use Rattle.std.specs.Global.{Global}
use Rattle.pot_index.specs.declared.entry.Logged.{Logged}
use Rattle.pot_index.specs.declared.record.Record.{Record}
use Rattle.pot_index.specs.declared.record.Split.{Split}
use Rattle.pot_index.specs.declared.fault.FindFault.{FindFault}
use Rattle.pot_index.specs.declared.fault.ListFault.{ListFault}
use Rattle.pot_index.specs.declared.fault.RenewFault.{RenewFault}
use Rattle.pot_index.specs.declared.fault.ReserveFault.{ReserveFault}
use Rattle.pot_index.specs.declared.listed.Listed.{Listed}
use Rattle.pot_index.specs.Calls.{Reserves, Finds, ListsNames, Renews, published_by, abandoned_by}
use Rattle.pot_index.specs.Ending.{EndsAt}
use Rattle.pot_index.specs.Entries.{entries, IsReserving}
use Rattle.pot_index.specs.Fits.{FitsSplit}
use Rattle.pot_index.specs.Index.{IndexView, IsIndex, IsRecordOf, IsReservedBy, Names, ReplaysIndex}
use Rattle.pot_index.specs.Index.{names_read}
use Rattle.pot_index.specs.Records.{renewed}
use Rattle.pot_turn.specs.declared.name.TurnName.{TurnName}
use Rattle.pot_worked.specs.WroteOnlyFor.{IsTurn}
use Rattle.pot_rows.specs.Rows.{view_at, with_view}
use Rattle.pot_shared.specs.declared.catalog.ReservationLost.{ReservationLost}
use Rattle.pot_shared.specs.Ready.{GroupPasses}
use Rattle.pot_shared.specs.Seen.{SeesFile}
use Rattle.pot_shared.specs.Catalogs.{AreTold, IndexPass, IndexPasses, Publishes, records_in}

-- One turn of a pass: the index was so when it came, others having logged some entries since; the
-- call added these entries, and is what `R` says.
pub record IndexTurn (R : IndexView → IndexView → Type 0) (v w : IndexPass) : Type 0 where
  pub old : IndexView
  pub new : IndexView
  pub others : List Logged
  pub entries : List Logged
  pub transition : old.log ≡ v.seen ++ others
  pub is_old : IsIndex old
  pub is_new : IsIndex new
  pub read : new.read ≡ old.read
  pub rack : new.rack ≡ old.rack
  pub origin : (names : List TurnName)
      × (Some (record { rack = old.rack; read = old.read; names = names }) ≡ v.origin)
  pub log : new.log ≡ old.log ++ entries
  pub turn : IsTurn others entries v w
  pub call : R old new

-- the pass of the index had a turn
pub record IndexCall (R : IndexView → IndexView → Type 0) (old new : IndexPasses) : Type 0 where
  pub pass : IndexPass
  pub is : new ≡ with_view old 0 pass
  pub turn : IndexTurn R (view_at old 0) pass

-- the answers of the calls, between the index before and after
abbrev pub ReservesName : ℕ → List ℕ → Result (Unit {0}) ReserveFault → IndexView → IndexView
    → Type 0
ReservesName job name result s t = Reserves job name s t result

abbrev pub ListsIndex : ℕ → Result (Vec Listed Global) ListFault → IndexView → IndexView → Type 0
ListsIndex job result s t = ListsNames job s t result

-- a record that an entry brought since the index began is one whose puts the passes have seen, and
-- every other one was read
abbrev pub FindsRecord : ℕ → List ℕ → Result Record FindFault → GroupPasses → IndexView → IndexView
    → Type 0
FindsRecord job name result row s t =
    Finds job name s t result × ((r : Record) → Publishes s.log r → SeesFile row r) × AreTold s

-- the pass of the index has seen that the job reserved the name
abbrev pub HasReserved : ℕ → List ℕ → IndexPasses → Type 0
HasReserved job name row = Any (IsReserving job name) (entries (view_at row 0).seen)

-- the name that the job reserved is not reserved by it any more: another pass logged the entry that
-- ended it
abbrev pub EndsStrangely : ℕ → List ℕ → ℕ → IndexView → IndexView → Type 0
EndsStrangely job name at s t =
    (t ≡ s) × (IsReservedBy s.now job name → ⊥) × EndsAt job name (entries s.log) at

abbrev pub Abandons : ℕ → List ℕ → Result (Unit {0}) ReservationLost → IndexView → IndexView → Type 0
Abandons job name (Ok u) s t = IsReservedBy s.now job name × (t ≡ abandoned_by s job name)
Abandons job name (Err e) s t = EndsStrangely job name e.at s t

abbrev pub PublishesRecord : ℕ → Record → Result (Unit {0}) ReservationLost → IndexView → IndexView → Type 0
PublishesRecord job r (Ok u) s t = IsReservedBy s.now job r.name × (t ≡ published_by s job r)
PublishesRecord job r (Err e) s t = EndsStrangely job r.name e.at s t

-- WHICH SPLITS A RECORD MAY GET

-- a record is published under the name, the split fits its file, and the passes have seen the puts
-- of that file at the split's places
abbrev pub MayRenew : Rack → Names → List ℕ → Split → GroupPasses → Type 0
MayRenew rack n name split row =
    (r : Record) × IsRecordOf n name r × FitsSplit rack (pieces_of r.length) split
    × SeesFile row (renewed r split)

-- so it is of the names to which the log leads that the pass of the index has seen
abbrev pub MayRenewBy : Rack → List ℕ → Split → GroupPasses → IndexPasses → Type 0
MayRenewBy rack name split row index =
    (n : Names)
    × ReplaysIndex rack (names_read (records_in (view_at index 0).origin)) (view_at index 0).seen n
    × MayRenew rack n name split row

abbrev pub RenewsSplit : ℕ → List ℕ → Split → Result (Unit {0}) RenewFault → IndexView → IndexView
    → Type 0
RenewsSplit job name split result s t = Renews job name split s t result
