-- What an index keeps, entry by entry.
use Rattle.std.proofs.Common.{◌∷◌, [], ◌++◌, Some, ◌≡◌, ◌+◌, ◌<◌, ◌≤◌, ℕ, Bool, List, length, get_or, None, refl, sym, ap, subst, ◌∙◌, inl, arith, All, Option, append_assoc}
use Rattle.std.specs.Prelude.{HoldsAt, Result, Ok, Err, MatchOption, MatchResult, MatchBool, is_ok, IsErrAnd}
use Rattle.std.specs.List.{IsDistinct}
use Rattle.std.proofs.lemmas.List.{length_push}
use Rattle.std.proofs.lemmas.List.Elements.{All-contains, All-push, All-tail, Contains-get_or}
use Rattle.pot_bytes.specs.Rack.{IsRack, log_bound}
use Rattle.pot_bytes.specs.declared.rack.Rack.{Rack}
use Rattle.pot_object.specs.Pieces.{pieces_of}
use Rattle.pot_index.specs.declared.entry.IndexEntry.{IndexEntry}
use Rattle.pot_index.specs.declared.entry.IndexEntry.TheVariants.{Reserve, Publish, Abandon, Renew, Often}
use Rattle.pot_index.specs.declared.entry.Logged.{Logged}
use Rattle.pot_index.specs.declared.record.Record.{Record}
use Rattle.pot_index.specs.declared.record.Split.{Split}
use Rattle.pot_index.specs.declared.reservation.Reservation.{Reservation}
use Rattle.pot_index.specs.Ending.{IsNameHeld, EndsAt}
use Rattle.pot_index.specs.Entries.{IsReserving, ChangesNoName, plain, bringing, entries}
use Rattle.pot_index.specs.Records.{current_of, splits_of, renewed, mark_of}
use Rattle.pot_index.specs.Fits.{FitsRack, FitsSplit}
use Rattle.pot_index.specs.Index.{Names, IndexView, IsIndex, AreFirstRecords, AreNames, IsPublished, IsReserved, IsReservedBy, IsRecordOf, IsNameTaken, IsFree, LegalLogged, LegalEntry, owed, started, logged, names_read}
use Rattle.pot_index.specs.Searches.{RecordStandsAt, BelongsAt}
use Rattle.pot_index.specs.declared.fault.FindFault.{FindFault}
use Rattle.pot_index.specs.declared.fault.FindFault.TheVariants as find_fault
use Rattle.pot_index.specs.declared.fault.RenewFault.{RenewFault}
use Rattle.pot_index.specs.declared.fault.RenewFault.TheVariants as renew_fault
use Rattle.pot_index.specs.Calls.{HasRoom, IsFullIndex, Finds, Renews}
use Rattle.pot_index.proofs.ListLemmas.{quiet_stays}
use Rattle.pot_index.proofs.NameLemmas.{contains_map, from_map}
use Rattle.pot_index.proofs.LogLaws.{reserved_stays, ended_stays}
use Rattle.pot_index.proofs.NamesKept.{after_keeps, goes_on}
use Rattle.pot_index.proofs.RecordLaws.{one_record, mine_there}
use Rattle.pot_index.proofs.RecordLemmas.{stands_published, belongs_unpublished}

pub started_is : (rack : Rack) (rs : List Record) → IsRack rack → AreFirstRecords rack rs → IsIndex (started rack rs)
unfolding IsDistinct
started_is rack rs r a = record {
  rack = r;
  read = a;
  names = record { ascends = a.ascends; fits = a.fits; free = λ k d lt. absurd (omega arith); once = tt };
  replays = refl;
  room = omega arith;
}

pub logged_is : (s : IndexView) (x : Logged) → IsIndex s → LegalLogged s.rack s.now x → owed (logged s x) ≤ log_bound → IsIndex (logged s x)
logged_is s x i legal room = record {
  rack = i.rack;
  read = i.read;
  names = after_keeps s.rack s.now x i.names legal;
  replays = goes_on s.rack (names_read s.read) s.now s.log x i.replays legal;
  room = room;
}

-- an entry that changes no name
pub entered_is : (s t : IndexView) (e : IndexEntry) → IsIndex s → t ≡ logged s (plain e) → ChangesNoName e → LegalEntry s.rack s.now e None → HasRoom 1 s → IsIndex t
entered_is s t e i is quiet legal room =
    subst IsIndex (sym is)
    (logged_is s (plain e) i legal (omega (arith, room, length_push s.log (plain e), ap (λ (n : Names). length n.reserved) (quiet_stays s.now e quiet))))

pub reserving_is : (s t : IndexView) (job : ℕ) (name : List ℕ) → IsIndex s → t ≡ logged s (plain (Reserve job name)) → IsFree s.now name → HasRoom 2 s → IsIndex t
reserving_is s t job name i is free room =
    let mine : Reservation = record { name = name; job = job } in
    subst IsIndex (sym is)
    (logged_is s (plain (Reserve job name)) i free (omega (arith, room, length_push s.log (plain (Reserve job name)), length_push s.now.reserved mine)))

pub abandoning_is : (s t : IndexView) (job : ℕ) (name : List ℕ) → IsIndex s → t ≡ logged s (plain (Abandon job name)) → IsReservedBy s.now job name → IsIndex t
abandoning_is s t job name i is mine =
    subst IsIndex (sym is)
    (logged_is s (plain (Abandon job name)) i mine (omega (arith, i.room, length_push s.log (plain (Abandon job name)), mine_there s.now job name mine)))

pub publishing_is : (s t : IndexView) (job : ℕ) (r : Record) → IsIndex s → t ≡ logged s (bringing (Publish job r.name (mark_of r)) r) → IsReservedBy s.now job r.name → FitsRack s.rack r → IsIndex t
publishing_is s t job r i is mine fits =
    subst IsIndex (sym is)
    (logged_is s (bringing (Publish job r.name (mark_of r)) r) i (refl, refl, mine, fits) (omega (arith, i.room, length_push s.log (bringing (Publish job r.name (mark_of r)) r), mine_there s.now job r.name mine)))

-- a log that owes an entry has room for it
pub room_for_one : (s : IndexView) (job : ℕ) (name : List ℕ) → IsIndex s → IsReservedBy s.now job name → length s.log < log_bound
room_for_one s job name i mine = omega (arith, i.room, mine_there s.now job name mine)

-- TAKEN NAMES

pub taken_tells : (n : Names) (name : List ℕ) (found : Result ℕ ℕ) (b : Bool) → (IsReserved n name → ⊥) → MatchResult found (RecordStandsAt n.published name) (BelongsAt n.published name) → b ≡ is_ok found
    → MatchBool b (IsNameTaken n name) (IsFree n name)
taken_tells n name (Ok at) b none h is = subst (λ t. MatchBool t (IsNameTaken n name) (IsFree n name)) (sym is) (inl (stands_published n.published name at h))
taken_tells n name (Err at) b none h is = subst (λ t. MatchBool t (IsNameTaken n name) (IsFree n name)) (sym is) (belongs_unpublished n.published name at h, none)

-- RENEWING

pub fits_more : (rack : Rack) (r : Record) (split : Split) → FitsRack rack r → length r.older < 15 → FitsSplit rack (pieces_of r.length) split → FitsRack rack (renewed r split)
fits_more rack r split fits few next = record {
  long = fits.long;
  few = omega (arith, few, length_push r.older (current_of r));
  splits = All-push (FitsSplit rack (pieces_of r.length)) (splits_of r) split fits.splits next;
}

module _ (s : IndexView) (name : List ℕ) (at : ℕ) (place : RecordStandsAt s.now.published name at) where
  pub some_record : Record
  some_record = (from_map (λ r. r.name) name s.now.published (stands_published s.now.published name at place)).0

  abbrev pub stood : Record
  stood = get_or s.now.published at some_record

  pub stood_is : IsRecordOf s.now name stood
  stood_is = (Contains-get_or s.now.published at some_record place.0, place.1 some_record)

  pub often_row : (t : IndexView) (job : ℕ) (split : Split) (n : ℕ) → HasRoom 1 s → HoldsAt (λ r. length r.older ≡ n) s.now.published at → n ≡ 15 → t ≡ logged s (plain (Often job name)) → Renews job name split s t (Err renew_fault.TooOften)
  often_row t job split n room older is now_is = (stood, stood_is, (room, older some_record ∙ is, now_is))

  pub no_memory_row : (t : IndexView) (job : ℕ) (split : Split) (n : ℕ) → HasRoom 1 s → HoldsAt (λ r. length r.older ≡ n) s.now.published at → n < 15 → t ≡ s → Renews job name split s t (Err renew_fault.NoMemory)
  no_memory_row t job split n room older lt same = (stood, stood_is, (room, omega (arith, older some_record, lt), same))

  pub renewed_row : (t : IndexView) (job : ℕ) (split : Split) (n : ℕ) → HasRoom 1 s → HoldsAt (λ r. length r.older ≡ n) s.now.published at → n < 15
      → HoldsAt (λ r. t ≡ logged s (bringing (Renew job r.name (mark_of (renewed r split))) (renewed r split))) s.now.published at → Renews job name split s t (Ok tt)
  renewed_row t job split n room older lt now_is = (
    stood,
    stood_is,
    (
      room,
      omega (arith, older some_record, lt),
      now_is some_record ∙ ap (λ (m : List ℕ). logged s (bringing (Renew job m (mark_of (renewed stood split))) (renewed stood split))) (place.1 some_record),
    ),
  )

  pub often_is : (t : IndexView) (job n : ℕ) → IsIndex s → HasRoom 1 s → HoldsAt (λ r. length r.older ≡ n) s.now.published at → n ≡ 15 → t ≡ logged s (plain (Often job name)) → IsIndex t
  often_is t job n i room older is now_is = entered_is s t (Often job name) i now_is tt (stood, stood_is, older some_record ∙ is) room

  pub renewing_is : (t : IndexView) (job : ℕ) (split : Split) (n : ℕ) → IsIndex s → HasRoom 1 s → HoldsAt (λ r. length r.older ≡ n) s.now.published at → n < 15
      → (r : Record) × IsRecordOf s.now name r × FitsSplit s.rack (pieces_of r.length) split
      → HoldsAt (λ r. t ≡ logged s (bringing (Renew job r.name (mark_of (renewed r split))) (renewed r split))) s.now.published at → IsIndex t
  renewing_is t job split n i room older lt fits now_is =
      let few : length stood.older < 15 = omega (arith, older some_record, lt) in
      let entry : Logged = bringing (Renew job stood.name (mark_of (renewed stood split))) (renewed stood split) in
      let it : fits.0 ≡ stood = one_record s.now.published fits.0 stood i.names.ascends fits.1.0 stood_is.0 (fits.1.1 ∙ sym stood_is.1) in
      let next : FitsSplit s.rack (pieces_of stood.length) split = subst (λ (r : Record). FitsSplit s.rack (pieces_of r.length) split) it fits.2 in
      let fitting : FitsRack s.rack (renewed stood split) = fits_more s.rack stood split (All-contains (FitsRack s.rack) s.now.published stood i.names.fits stood_is.0) few next in
      subst IsIndex (sym (now_is some_record))
      (logged_is s entry i (refl, fitting, (stood, (stood_is.0, refl), refl)) (omega (arith, room, length_push s.log entry)))

pub full_row : (s t : IndexView) (name : List ℕ) (job : ℕ) (split : Split) → (r : Record) × IsRecordOf s.now name r × FitsSplit s.rack (pieces_of r.length) split → IsFullIndex 1 s t → Renews job name split s t (Err renew_fault.LogFull)
full_row s t name job split h full = (h.0, h.1, full)

-- a record of the name is published
pub record_published : (n : Names) (name : List ℕ) (r : Record) → IsRecordOf n name r → IsPublished n name
record_published n name r h = subst (λ k. IsPublished n k) h.1 (contains_map (λ o. o.name) r n.published h.0)

-- WANT OF MEMORY

pub found_no_memory : (s : IndexView) (job : ℕ) (name : List ℕ) (result : Result Record FindFault) → HasRoom 1 s → IsPublished s.now name → IsErrAnd result (λ e. e ≡ find_fault.NoMemory) → Finds job name s s result
found_no_memory s job name (Ok r) room there h = absurd h
found_no_memory s job name (Err find_fault.LogFull) room there h = absurd (cc)
found_no_memory s job name (Err find_fault.Absent) room there h = absurd (cc)
found_no_memory s job name (Err find_fault.NoMemory) room there h = (room, there, refl)

pub renew_no_memory : (s t : IndexView) (job : ℕ) (name : List ℕ) (split : Split) (result : Result (Unit {0}) RenewFault) → Renews job name split s t (Err renew_fault.NoMemory) → IsErrAnd result (λ e. e ≡ renew_fault.NoMemory) → Renews job name split s t result
renew_no_memory s t job name split (Ok u) row h = absurd h
renew_no_memory s t job name split (Err renew_fault.LogFull) row h = absurd (cc)
renew_no_memory s t job name split (Err renew_fault.TooOften) row h = absurd (cc)
renew_no_memory s t job name split (Err renew_fault.NoMemory) row h = row

-- ENDED RESERVATIONS

all_behind : {X : Type 0} (P : X → Type 0) (xs ys : List X) → All P (xs ++ ys) → All P ys
all_behind P [] ys h = h
all_behind P (x ∷ xs) ys h = all_behind P xs ys (All-tail P x (xs ++ ys) h)

read_names : (s : IndexView) → IsIndex s → AreNames s.rack (names_read s.read)
read_names s i = (started_is s.rack s.read i.rack i.read).names

pub ended_tells : (s : IndexView) (job : ℕ) (name : List ℕ) (ended : Option ℕ) → IsIndex s → MatchOption ended (IsNameHeld job name (entries s.log)) (EndsAt job name (entries s.log))
    → MatchOption ended (IsReservedBy s.now job name) (λ _. IsReservedBy s.now job name → ⊥)
ended_tells s job name None i h =
    reserved_stays s.rack (names_read s.read) s.now s.log job name h.before h.made h.behind (read_names s i) i.replays h.parts h.makes h.kept
ended_tells s job name (Some at) i h =
    ended_stays s.rack (names_read s.read) s.now s.log job name (h.before ++ h.made ∷ h.between) h.ended h.behind (read_names s i) i.replays
    (h.parts ∙ sym (append_assoc h.before (h.made ∷ h.between) (h.ended ∷ h.behind))) h.ends
    (All-tail (λ e. IsReserving job name e → ⊥) h.ended h.behind (all_behind (λ e. IsReserving job name e → ⊥) h.between (h.ended ∷ h.behind) h.last))
