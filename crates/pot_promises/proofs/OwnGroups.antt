-- Where no archive of a group lost a block, a job that could not have a block of it found its slot
-- past mending.
use Rattle.std.proofs.Common.{◌≡◌, ◌⊎◌, ◌<◌, inl, inr, ℕ, ◌+◌, ◌*◌, Bool, true, false, Option, Some, None, IsSomeAnd, List, [], ◌∷◌, ◌++◌, length, refl, ap, sym, ◌∙◌, subst, arith, append_assoc, IsTrue}
use Rattle.std.specs.Prelude.{◌==◌, Contains, filter, flat_map, slice_get}
use Rattle.std.proofs.lemmas.List.Elements.{Contains-append_cases, Contains-append_left, Contains-append_right}
use Rattle.std.proofs.lemmas.Option.{get_or_from_slice_get, slice_get-get_or, slice_get_within}
use Rattle.pot_bytes.specs.Rack.{no_place}
use Rattle.pot_bytes.specs.declared.digest.Digest.{Digest}
use Rattle.pot_bytes.specs.declared.rack.Place.{Place}
use Rattle.pot_bytes.specs.declared.rack.Rack.{Rack}
use Rattle.pot_bytes.proofs.Elements.{element_at}
use Rattle.pot_outside.specs.Archives.{Meaning}
use Rattle.pot_outside.specs.declared.archive.Marks.{Marks}
use Rattle.pot_outside.specs.Counts.{Rose}
use Rattle.pot_shard.specs.Places.{place_at}
use Rattle.pot_machine.specs.declared.entry.Entry.{Entry}
use Rattle.pot_machine.specs.declared.entry.Entry.TheVariants as entry
use Rattle.pot_machine.specs.declared.relay.Relay.{Relay}
use Rattle.pot_machine.specs.Slot.{is_broken, is_live, is_unsound}
use Rattle.pot_machine.specs.Rules.{IsTable, IsStanding}
use Rattle.pot_machine.specs.Making.{empty_table}
use Rattle.pot_machine.specs.Table.{Table, width, slot_at, relay_at, next_column, archives_in}
use Rattle.pot_machine.specs.Machine.{Legal, Replays}
use Rattle.pot_machine.specs.Logs.{is_of, job_of, own, replayed}
use Rattle.pot_machine.proofs.Logs.{back_replays, legal_at, table_at}
use Rattle.pot_steps.proofs.Acting.{find_all}
use Rattle.pot_steps.proofs.OpenPlaces.{relay_over}
use Rattle.pot_steps.proofs.MendingRuns.{unsound_dead}
use Rattle.pot_group.specs.Arrivals.{arrivals}
use Rattle.pot_group.specs.Causes.{WhereMissed, HasLost, archives_of}
use Rattle.pot_index.specs.declared.record.Record.{Record}
use Rattle.pot_index.specs.Fits.{FitsRack}
use Rattle.pot_image.specs.Images.{Contents}
use Rattle.pot_image.specs.Rules.{FitsTable, FitsTogether}
use Rattle.pot_replies.specs.Sections.{Section}
use Rattle.pot_replies.specs.Fetches.{GoneAgain, IsLost, IsHopeless, LastIs}
use Rattle.pot_store.specs.Visits.{place_in}
use Rattle.pot_store.proofs.FitLemmas.{current_fits, fits_place, fragment_within, point_within}
use Rattle.pot_shared.specs.Groups.{had_by}
use Rattle.pot_session.specs.Serving.{IsInRoom, setting_of}
use Rattle.pot_shared.specs.Hands.{times}
use Rattle.pot_shared.specs.Leaving.{LeavesGroup, LeaveGroups}
use Rattle.pot_session.specs.Losses.{BeginWith, FewCanBeHad, IsInVain, IsPlaceLeft, SwapsNone, all_had, is_swap}
use Rattle.pot_shared.proofs.Lists.{all_at_place, at_same, flat_contains}
use Rattle.pot_session.proofs.LiveLemmas.{broken_past, data_columns-replayed, live_through, missed_behind, stuck_past}
use Rattle.pot_session.proofs.StripeLemmas.{column_had}

-- THE LAST OF SOME ELEMENTS

-- where the elements that pass a test end with one, the list is split there, and none behind it
-- passes
module _ {X : Type 0} (test : X → Bool) where
  abbrev Cut : List X → X → Type 0
  Cut xs e = (x : List X) × (y : List X) × (xs ≡ x ++ e ∷ y) × (filter test y ≡ [])

  cut_step : (x : X) (xs : List X) (e : X) → ((sofar : List X) → filter test xs ≡ sofar ++ e ∷ [] → Cut xs e) → (b : Bool) → test x ≡ b → (sofar : List X)
      → filter test (x ∷ xs) ≡ sofar ++ e ∷ [] → Cut (x ∷ xs) e
  cut_step x xs e rest true b [] is =
      let here : x ∷ filter test xs ≡ e ∷ [] = (let h : filter test (x ∷ xs) ≡ x ∷ filter test xs = rw b refl in sym h) ∙ is in
      ([], xs, (let h : x ≡ e = cc here in ap (λ z. z ∷ xs) h), cc here)
  cut_step x xs e rest true b (s ∷ sofar) is =
      let here : x ∷ filter test xs ≡ s ∷ (sofar ++ e ∷ []) = (let h : filter test (x ∷ xs) ≡ x ∷ filter test xs = rw b refl in sym h) ∙ is in
      let it = rest sofar (cc here) in
      (x ∷ it.0, it.1, ap (λ z. x ∷ z) it.2, it.3)
  cut_step x xs e rest false b sofar is =
      let it = rest sofar ((let h : filter test (x ∷ xs) ≡ filter test xs = rw b refl in sym h) ∙ is) in
      (x ∷ it.0, it.1, ap (λ z. x ∷ z) it.2, it.3)

  cut_last : (xs sofar : List X) (e : X) → filter test xs ≡ sofar ++ e ∷ [] → Cut xs e
  cut_last [] [] e is = absurd (cc is)
  cut_last [] (s ∷ sofar) e is = absurd (cc is)
  cut_last (x ∷ xs) sofar e is = cut_step x xs e (λ s i. cut_last xs s e i) (test x) refl sofar is

-- A LOG

split : {X : Type 0} (before x y rest : List X) (e : X) → (before ++ (x ++ e ∷ y)) ++ rest ≡ (before ++ x) ++ e ∷ (y ++ rest)
split before x y rest e =
    append_assoc before (x ++ e ∷ y) rest
    ∙ (ap (λ l. before ++ l) (append_assoc x (e ∷ y) rest) ∙ sym (append_assoc before x (e ∷ (y ++ rest))))

-- the target of a relay that stands is one
target_unsound : (t : Table) (s c : ℕ) (next : Option ℕ) (o : Option Relay) → IsTable t → relay_at t s ≡ o → IsSomeAnd o (λ r. (r.target ≡ c) × (next_column t r ≡ next)) → IsTrue (is_unsound (slot_at t s c))
target_unsound t s c next None table e h = absurd h
target_unsound t s c next (Some r) table e h =
    let stands : IsStanding t r = find_all (IsStanding t) (λ q. q.stripe == s) t.relays r table.relays.standing e in
    subst (λ m. IsTrue (is_unsound (slot_at t m c))) (relay_over t.relays s r e) (subst (λ k. IsTrue (is_unsound (slot_at t r.stripe k))) h.0 stands.unsound)

-- the group of a place of a record that fits the rack
pub group_within : (rack : Rack) (kept : Record) → FitsRack rack kept → (b : ℕ) → b < length kept.places → (place_in kept.places b).group < rack.groups
group_within rack kept room b lt =
    let group = (fits_place rack kept room b lt).group in
    let some : 0 < rack.groups = (let g = (current_fits rack kept room).geometry in let a = g.groups in let c = g.limits.need.0 in let d = g.limits.need.1 in omega (arith, a, c, d)) in
    omega (arith, group, some)

-- an archive that a group had is among all
pub all_among : (read : List Table) (logs : List (List Entry)) (g : ℕ) (t : Table) (log : List Entry) → slice_get read g ≡ Some t → slice_get logs g ≡ Some log → (n : ℕ) → Contains (archives_in t ++ arrivals log) n
    → Contains (all_had read logs) n
all_among read logs g t log is_table is_log n had = elim (Contains-append_cases (archives_in t) (arrivals log) n had) [
  | inl was ↦ Contains-append_left (flat_map archives_in read) (flat_map arrivals logs) n (flat_contains archives_in read g t n is_table was)
  | inr came ↦ Contains-append_right (flat_map archives_in read) (flat_map arrivals logs) n (flat_contains arrivals logs g log n is_log came)
]

-- THE LAW

module _ (told : Type 0) (seed : List ℕ) (first last : Contents) (meant means : ℕ → Meaning) (missing : List ℕ) (is_told : told) (fits : FitsTogether first)
    (groups : LeaveGroups told meant (IsInRoom told means missing) first.tables last.group_logs last.tables)
    (Own : ℕ → Type 0)
    (safe : (g : ℕ) (t : Table) (log : List Entry) → Own g → slice_get first.tables g ≡ Some t → slice_get last.group_logs g ≡ Some log → (n : ℕ) → Contains (archives_in t ++ arrivals log) n
    → (times n missing ≡ 0) × (Rose (meant n).losses (means n).losses → ⊥)) where
  abbrev Left : Table → List Entry → Type 0
  Left t log = (u : Table) × LeavesGroup told meant (IsInRoom told means missing) t log u

  module _ (g : ℕ) (t : Table) (log : List Entry) (own_group : Own g) (is_table : slice_get first.tables g ≡ Some t) (is_log : slice_get last.group_logs g ≡ Some log) where
    its_left : Left t log
    its_left =
        let in_last : g < length last.tables = (let a = groups.count in let b = slice_get_within first.tables g t is_table in omega (arith, a, b)) in
        let written = element_at last.tables g in_last in
        (written.0, groups.each g t written.0 log is_table written.1 is_log)

    rules : FitsTable first.rack t
    rules = all_at_place (FitsTable first.rack) first.tables g t fits.tables.fits is_table

    -- the log leads on from the table that the group began with
    its_log : (u : Table) × Replays t log u
    its_log =
        let left = its_left.1 in
        (left.view.table, subst (λ l. Replays t l left.view.table) left.is_log (subst (λ f. Replays f left.view.log left.view.table) left.first left.settled.replay))

    -- that an archive of the column lost a block
    abbrev Lost : ℕ → Type 0
    Lost c = HasLost its_left.1.view.shelves (archives_of t log c)

    none_lost : (c : ℕ) → c < width t → Lost c → ⊥
    none_lost c lt (n, among, rose) =
        let left = its_left.1 in
        let view = left.view in
        let columns : c < length t.columns = (let a = rules.rules.size.columns in omega (arith, lt, a)) in
        let had : Contains (archives_in t ++ arrivals log) n = column_had t log c n columns among in
        let its : Contains (had_by view) n =
        subst (λ f. Contains (archives_in f ++ arrivals view.log) n) (sym left.first) (subst (λ l. Contains (archives_in t ++ arrivals l) n) (sym left.is_log) had) in
        let marks : view.shelves.losses_taken n ≡ (meant n).losses = ap (λ (m : Marks). m.losses) (left.marked is_told n its) in
        let sure = safe g t log own_group is_table is_log n had in
        let shows = left.archives n its is_told sure.0 in
        sure.1 (subst (λ k. Rose k (means n).losses) marks (subst (λ k. Rose (view.shelves.losses_taken n) k) shows.losses rose))

    its_missed : (c : ℕ) → c < width t → WhereMissed t log c (Lost c)
    its_missed c lt =
        let left = its_left.1 in
        let view = left.view in
        subst (λ l. WhereMissed t l c (HasLost view.shelves (archives_of t l c))) left.is_log
        (subst (λ f. WhereMissed f view.log c (HasLost view.shelves (archives_of f view.log c))) left.first
        (left.settled.causes.losses is_told c (subst (λ (f : Table). c < width f) (sym left.first) lt)))

    -- a data slot that is Live at some moment is not Gone later, where all entries between are of
    -- jobs and swap no archive
    never_gone : (s c job : ℕ) (front behind rest : List Entry) → log ≡ front ++ (behind ++ entry.Gone job s c ∷ rest) → c < t.data_columns → 0 < job
        → ((e : Entry) → Contains behind e → (0 < job_of e) × (is_swap e ≡ false)) → IsTrue (is_live (slot_at (replayed t front) s c)) → ⊥
    never_gone s c job front behind rest parts is_data some each live =
        let tail : List Entry = behind ++ entry.Gone job s c ∷ rest in
        let lt : c < width t = omega (arith, is_data) in
        let leads = its_log in
        let replays : Replays t (front ++ tail) leads.0 = subst (λ l. Replays t l leads.0) parts leads.1 in
        let missed : WhereMissed (replayed t front) tail c (Lost c) = missed_behind t front tail c (Lost c) (subst (λ l. WhereMissed t l c (Lost c)) parts (its_missed c lt)) in
        let still : IsTrue (is_live (slot_at (replayed (replayed t front) behind) s c)) =
        live_through (replayed t front) leads.0 behind (entry.Gone job s c ∷ rest) s c (Lost c) (table_at t front tail leads.0 rules.rules replays)
        (back_replays t front tail leads.0 replays) (let n = data_columns-replayed t front in omega (arith, is_data, n)) (none_lost c lt) missed each live in
        let says = missed_behind (replayed t front) behind (entry.Gone job s c ∷ rest) c (Lost c) missed in
        none_lost c lt (says.0 ((λ z. (let e = z in omega (arith, some, e))), refl, still))

    -- what is so at an entry of a job that says that a place was left
    abbrev SaysLeft : ℕ → Place → Entry → Type 0
    SaysLeft job p e = ((o : ℕ) × (e ≡ entry.Stuck job p.stripe p.column o)) ⊎ ((f : Digest) × (e ≡ entry.Oddly job p.stripe p.column f))

    -- a relay that came to a block of another digest stood over a Broken slot
    odd_broken : (job s c : ℕ) (f : Digest) (x y : List Entry) → log ≡ x ++ entry.Oddly job s c f ∷ y → c < t.data_columns → is_broken (slot_at (replayed t x) s c) ≡ true
    odd_broken job s c f x y parts is_data = by (is_broken (slot_at (replayed t x) s c)) refl
      where
        lt : c < width t
        lt = omega (arith, is_data)

        by : (b : Bool) → is_broken (slot_at (replayed t x) s c) ≡ b → is_broken (slot_at (replayed t x) s c) ≡ true
        by true is = is
        by false is =
            let missed = missed_behind t x (entry.Oddly job s c f ∷ y) c (Lost c) (subst (λ l. WhereMissed t l c (Lost c)) parts (its_missed c lt)) in
            absurd (none_lost c lt (missed.0 (refl, is)))

    left_at : (job : ℕ) (p : Place) (x y : List Entry) (e : Entry) → log ≡ x ++ e ∷ y → p.column < t.data_columns → SaysLeft job p e
        → IsInVain (replayed t x) job p e × (is_live (slot_at (replayed t x) p.stripe p.column) ≡ false)
    left_at job p x y e parts is_data says =
        let leads = its_log in
        let replays : Replays t (x ++ e ∷ y) leads.0 = subst (λ l. Replays t l leads.0) parts leads.1 in
        by (table_at t x (e ∷ y) leads.0 rules.rules replays) (legal_at t x y e leads.0 replays) says
      where
        u : Table
        u = replayed t x

        by : IsTable u → Legal u e → SaysLeft job p e → IsInVain u job p e × (is_live (slot_at u p.stripe p.column) ≡ false)
        by table legal (inl (o, stuck)) =
            let here : Legal u (entry.Stuck job p.stripe p.column o) = subst (λ z. Legal u z) stuck legal in
            ((inl (o, stuck), stuck_past u p.stripe p.column o here.0.1 here.1 here.3), unsound_dead (slot_at u p.stripe p.column) here.1)
        by table legal (inr (f, oddly)) =
            let here : Legal u (entry.Oddly job p.stripe p.column f) = subst (λ z. Legal u z) oddly legal in
            let broken = odd_broken job p.stripe p.column f x y (parts ∙ ap (λ z. x ++ z ∷ y) oddly) is_data in (
              (inr (f, oddly), broken_past u p.stripe p.column here.0.1 broken),
              unsound_dead (slot_at u p.stripe p.column) (target_unsound u p.stripe p.column None (relay_at u p.stripe) table refl here.1),
            )

  module _ (job : ℕ) (name : List ℕ) (piece fragment have need : ℕ) (w : Section) (some : 0 < job) (begin : BeginWith w last.group_logs) (swaps : SwapsNone w)
      (lost : IsLost (setting_of seed first) job name piece fragment have need w) (room : FitsRack first.rack lost.kept) (in_groups : (p : Place) → Contains lost.kept.places p → Own p.group) where
    abbrev kept : Record
    kept = lost.kept

    -- a place in the group of this table and this log
    module _ (p : Place) (t : Table) (log : List Entry) (own_group : Own p.group) (is_table : slice_get first.tables p.group ≡ Some t) (is_log : slice_get last.group_logs p.group ≡ Some log)
        (is_data : p.column < t.data_columns) where
      same : (setting_of seed first).first p.group ≡ t
      same = at_same first.tables p.group (empty_table first.rack p.group) t is_table

      -- a second Gone would say that an archive lost a block
      not_again : GoneAgain ((setting_of seed first).first p.group) job (w.before p.group) (w.added p.group) p.stripe p.column → ⊥
      not_again again =
          let sofar : List Entry = again.a ++ entry.Gone job p.stripe p.column ∷ again.between in
          let gone : Entry = entry.Gone job p.stripe p.column in
          let more = begin p.group log is_log in
          let parts : log ≡ (w.before p.group ++ sofar) ++ (again.behind ++ gone ∷ (again.z ++ more.0)) =
          more.1 ∙ (ap (λ l. (w.before p.group ++ l) ++ more.0) again.parts
          ∙ (split (w.before p.group) (sofar ++ again.behind) again.z more.0 gone
          ∙ (ap (λ l. l ++ gone ∷ (again.z ++ more.0)) (sym (append_assoc (w.before p.group) sofar again.behind))
          ∙ append_assoc (w.before p.group ++ sofar) again.behind (gone ∷ (again.z ++ more.0))))) in
          never_gone p.group t log own_group is_table is_log p.stripe p.column job (w.before p.group ++ sofar) again.behind (again.z ++ more.0) parts is_data some
          (λ e has. swaps p.group e (subst (λ l. Contains l e) (sym again.parts)
          (Contains-append_left (sofar ++ again.behind) (gone ∷ again.z) e (Contains-append_right sofar again.behind e has))))
          (subst (λ f. IsTrue (is_live (slot_at (replayed f (w.before p.group ++ sofar)) p.stripe p.column))) same again.live)

      its_last : (is : Entry → Type 0) → ((e : Entry) → is e → SaysLeft p.group t log own_group is_table is_log job p e) → LastIs (own job (w.added p.group)) is → IsPlaceLeft (setting_of seed first) job w p
      its_last is says (sofar, e, at, holds) =
          let cut = cut_last (is_of job) (w.added p.group) sofar e at in
          let more = begin p.group log is_log in
          let parts : log ≡ (w.before p.group ++ cut.0) ++ e ∷ (cut.1 ++ more.0) =
          more.1 ∙ (ap (λ l. (w.before p.group ++ l) ++ more.0) cut.2 ∙ split (w.before p.group) cut.0 cut.1 more.0 e) in
          let it = left_at p.group t log own_group is_table is_log job p (w.before p.group ++ cut.0) (cut.1 ++ more.0) e parts is_data (says e holds) in (
            cut.0,
            e,
            cut.1,
            cut.2,
            cut.3,
            subst (λ f. IsInVain (replayed f (w.before p.group ++ cut.0)) job p e) (sym same) it.0,
            ap (λ f. is_live (slot_at (replayed f (w.before p.group ++ cut.0)) p.stripe p.column)) same ∙ it.1,
          )

      is_left : IsHopeless (setting_of seed first) job w p → IsPlaceLeft (setting_of seed first) job w p
      is_left (inl stuck) = its_last (λ e. (o : ℕ) × (e ≡ entry.Stuck job p.stripe p.column o)) (λ e h. inl h) stuck
      is_left (inr (inl oddly)) = its_last (λ e. (f : Digest) × (e ≡ entry.Oddly job p.stripe p.column f)) (λ e h. inr h) oddly
      is_left (inr (inr again)) = absurd (not_again again)

    point_left : (x : ℕ) → x < kept.geometry.shards → IsHopeless (setting_of seed first) job w (place_at kept.geometry kept.places piece fragment x)
        → IsPlaceLeft (setting_of seed first) job w (place_at kept.geometry kept.places piece fragment x)
    point_left x lt hopeless =
        let p : Place = place_at kept.geometry kept.places piece fragment x in
        let b : ℕ = (piece * kept.geometry.fragments + fragment) * kept.geometry.shards + x in
        let within : b < length kept.places = point_within first.rack kept room (piece * kept.geometry.fragments + fragment) x (fragment_within first.rack kept room piece fragment lost.short.in_pieces lost.short.in_fragments) lt in
        let fit = fits_place first.rack kept room b within in
        let g_lt : p.group < first.rack.groups = group_within first.rack kept room b within in
        let table = element_at first.tables p.group (let n = fits.tables.count in omega (arith, g_lt, n)) in
        let log = element_at last.group_logs p.group (let n = fits.tables.count in let m = groups.count_logs in omega (arith, g_lt, n, m)) in
        let here : Contains kept.places p = (b, within, get_or_from_slice_get kept.places b p p (slice_get-get_or kept.places b no_place within)) in
        let own_group : Own p.group = in_groups p here in
        let its = rules p.group table.0 log.0 own_group table.1 log.1 in
        is_left p table.0 log.0 own_group table.1 log.1 (let a = fit.column in let k = its.data_columns in omega (arith, a, k)) hopeless

    pub few_can_be_had : FewCanBeHad (setting_of seed first) job kept piece fragment w
    few_can_be_had = record {
      few = (let a = lost.short.has in let b = lost.short.fewer in omega (arith, a, b));
      others = λ x unseen. point_left x unseen.0 (lost.hopeless x unseen);
    }
