-- What the archives hold still of the blocks that an image names.
use Rattle.std.proofs.Common.{◌≡◌, ◌≢◌, ◌⊎◌, inl, inr, ◌<◌, ◌≤◌, ◌^◌, ℕ, zero, suc, IsTrue, List, [], ◌∷◌, length, refl, sym, ap, ◌∙◌, subst, arith}
use Rattle.std.specs.Prelude.{Contains, IfSome, Some, flat_map, slice_get}
use Rattle.std.proofs.lemmas.Bool.{cases_eq}
use Rattle.std.proofs.lemmas.List.Elements.{Contains-append_left}
use Rattle.std.proofs.lemmas.Option.{same_Some}
use Rattle.pot_bytes.specs.declared.digest.Digest.{Digest}
use Rattle.pot_bytes.specs.Digests.{digest_of}
use Rattle.pot_bytes.specs.declared.rack.Rack.{Rack}
use Rattle.pot_bytes.proofs.Elements.{element_at}
use Rattle.pot_outside.specs.Accounts.{Transition}
use Rattle.pot_outside.specs.Archives.{Meaning}
use Rattle.pot_outside.specs.Rooms.{RoomState}
use Rattle.pot_machine.specs.declared.entry.Entry.{Entry}
use Rattle.pot_machine.specs.Column.{names}
use Rattle.pot_machine.specs.Machine.{Replays}
use Rattle.pot_machine.specs.Rules.{IsTable}
use Rattle.pot_machine.specs.Slot.{digest_in}
use Rattle.pot_machine.specs.Table.{Table, archives_in, column_at, serving_at, width}
use Rattle.pot_group.specs.Arrivals.{arrivals}
use Rattle.pot_group.specs.Frames.{Tries}
use Rattle.pot_group.specs.Remaining.{HasServed, KeepsServed}
use Rattle.pot_group.proofs.Remains.{served_kept, serving_has}
use Rattle.pot_image.specs.Images.{Contents}
use Rattle.pot_image.specs.Rules.{FitsTable, FitsTogether}
use Rattle.pot_recheck.specs.declared.listing.Unsound.{Unsound}
use Rattle.pot_recheck.specs.Finding.{IsFoundTable}
use Rattle.pot_replies.specs.Sections.{Section}
use Rattle.pot_shared.specs.Hands.{times}
use Rattle.pot_shared.specs.Leaving.{LeavesGroup, still}
use Rattle.pot_shared.proofs.GroupLemmas.{serves_there}
use Rattle.pot_shared.proofs.Lists.{all_at_place}
use Rattle.pot_shared.proofs.Times.{contains_times, times-append, times_contains}
use Rattle.pot_session.specs.Serving.{IsInRoom, Leaves, came_by}
use Rattle.pot_session.proofs.LossLemmas.{get_within}
use Rattle.pot_promises.specs.Chains.{Again, IsRechecked, MayBeRechecked, Never}
use Rattle.pot_promises.specs.Frames.{IsSessionFramed}
use Rattle.pot_promises.specs.Remaining.{BlocksRemainInRoom, HasClosed, HoldsOf, HoldsStill, InARow, OlderDeskFinds, OneTakes, PastSession, ServedRemain, MayTakeBlock}
use Rattle.pot_promises.specs.Remaining.{NotBack, Brought, Elsewhere, Failed, Lost}
use Rattle.pot_promises.proofs.FindingAgain.{digest_stays, rack_stays}
use Rattle.pot_promises.proofs.Framing.{frame_of_run}

-- a slot of a table is one of 2^32
low_slot : (t : Table) (s : ℕ) → IsTable t → s < t.stripes → s < 2 ^ 32
low_slot t s table lt = omega (arith, lt, table.size.stripes.1)

-- what an archive holds that has served a slot, within its frame
still_held : (read : Table) (log : List Entry) (u : Table) (tried : Tries) (givens : List (List ℕ)) (s c : ℕ) (d : Digest) (n : ℕ) (old new : Meaning) → s < 2 ^ 32 → IsSessionFramed read log tried givens n old new → KeepsServed read u log s c d n
    → HoldsStill read log s c d old new
still_held read log u tried givens s c d n old new low framed kept has = elim (framed.kept s has.0 low has.1) [
  | inl y ↦ inl (
    y.0,
    y.1,
    elim (framed.held s y.0 low y.1) [
      | inl before ↦ ap digest_of (same_Some y.0 has.0 (sym before ∙ has.1)) ∙ has.2
      | inr now ↦ kept.wrote tried 0 y.0 now
    ],
  )
  | inr y ↦ elim y [ inl z ↦ inr (inl (kept.failed z)) | inr z ↦ inr (inr z) ]
]

-- the log of a group that was left leads to a table that is written so
left_leads : (told : Type 0) (meant means : ℕ → Meaning) (missing : List ℕ) (read written : Table) (log : List Entry) → LeavesGroup told meant (IsInRoom told means missing) read log written
    → (u : Table) × Replays read log u × (written ≡ still u)
left_leads told meant means missing read written log left =
    (left.view.table, subst (λ t. Replays t log left.view.table) left.first (subst (λ l. Replays left.view.first l left.view.table) left.is_log left.settled.replay), left.is)

-- as an image has a table, the same archives have served its slots
served_still : (u : Table) (s c : ℕ) (d : Digest) (n : ℕ) → HasServed u s c d n → HasServed (still u) s c d n
served_still u s c d n has = record { digest = has.digest; only = has.only; passed = has.passed }

module _ (first last : Contents) (room : Transition RoomState) (missing : List ℕ) (story : Section) (fits : FitsTogether first) (told : IsTrue room.tells) (leaves : Leaves room missing first last story)
    (group : ℕ) (read : Table) (log : List Entry) (is_read : slice_get first.tables group ≡ Some read) (is_log : slice_get last.group_logs group ≡ Some log) (s c : ℕ) (d : Digest) (low : s < read.stripes) (within : c < read.data_columns) where
  table : IsTable read
  table = (all_at_place (FitsTable first.rack) first.tables group read fits.tables.fits is_read).rules

  kept_over : (written : Table) → slice_get last.tables group ≡ Some written → (n : ℕ) → HasServed read s c d n → (Contains (arrivals log) n → ⊥) → (u : Table) × KeepsServed read u log s c d n × (written ≡ still u)
  kept_over written is_written n has fresh =
      let leads = left_leads (IsTrue room.tells) room.before.means room.after.means missing read written log (leaves.groups.each group read written log is_read is_written is_log) in
      (leads.0, served_kept read leads.0 log s c d n table leads.1 within has fresh, leads.2)

  held_over : (u : Table) (n : ℕ) → KeepsServed read u log s c d n → Contains (archives_in read) n → times n missing ≡ 0 → HoldsStill read log s c d (room.before.means n) (room.after.means n)
  held_over u n kept among back =
      let frame = frame_of_run first last room missing story told leaves group read log is_read is_log in
      still_held read log u frame.0 frame.1 s c d n (room.before.means n) (room.after.means n) (low_slot read s table low)
      (frame.4 n (Contains-append_left (archives_in read) (arrivals log) n among) back) kept

pub served_remain : ServedRemain
served_remain first last room missing story fits told leaves group read written log is_read is_written is_log s c d n low within has fresh =
    let kept = kept_over first last room missing story fits told leaves group read log is_read is_log s c d low within written is_written n has fresh in (
      subst (λ t. HasServed t s c d n) (sym kept.2) (served_still kept.0 s c d n kept.1.now),
      held_over first last room missing story fits told leaves group read log is_read is_log s c d low within kept.0 n kept.1,
    )

pub blocks_remain : BlocksRemainInRoom
blocks_remain first last room missing story fits told leaves group read log is_read is_log s c d low within live back fresh =
    let rules : IsTable read = (all_at_place (FitsTable first.rack) first.tables group read fits.tables.fits is_read).rules in
    let wide : c < width read = omega (arith, within) in
    let in_last : group < length last.tables = (let a = leaves.groups.count in let b = get_within first.tables group read is_read in omega (arith, a, b)) in
    let written = element_at last.tables group in_last in
    (served_remain first last room missing story fits told leaves group read written.0 log is_read written.1 is_log s c d (serving_at read s c) low within
    (serving_has read s c d rules wide (ap digest_in live)) fresh).1 (serves_there read rules s c wide) back

-- SESSIONS IN A ROW

-- how often a number stands in one of the lists is no more than in all
times_within : {A : Type 0} (f : A → List ℕ) (xs : List A) (k : ℕ) (x : A) (n : ℕ) → slice_get xs k ≡ Some x → times n (f x) ≤ times n (flat_map f xs)
times_within f [] k x n e = absurd (cc)
times_within f (y ∷ ys) zero x n e = (let a = times-append n (f y) (flat_map f ys) in let b = ap (λ z. times n (f z)) (same_Some y x e) in omega (arith, a, b))
times_within f (y ∷ ys) (suc k) x n e = (let a = times-append n (f y) (flat_map f ys) in let b = times_within f ys k x n e in omega (arith, a, b))

some_times : (k : ℕ) → k ≢ 0 → 1 ≤ k
some_times zero ne = absurd (ne refl)
some_times (suc k) ne = omega arith

module _ (g s c : ℕ) (d : Digest) (n : ℕ) where
  -- one session: what the archive holds then, or what may have taken it
  one_session : (x : PastSession) → HasClosed x → (read written : Table) (log : List Entry) → slice_get x.first.tables g ≡ Some read → slice_get x.last.tables g ≡ Some written → slice_get x.last.group_logs g ≡ Some log
      → s < read.stripes → c < read.data_columns → HasServed read s c d n → HoldsOf (x.room.before.means n) s d
      → (HasServed written s c d n × HoldsOf (x.room.after.means n) s d) ⊎ MayTakeBlock x g s c n
  one_session x closed read written log is_read is_written is_log low within has held = elim (cases_eq (times n x.missing) 0) [
    | inr ne ↦ inr (NotBack ne)
    | inl back ↦ elim (cases_eq (times n (came_by x.last.group_logs)) 0) [
      | inr ne ↦ inr (Brought ne)
      | inl none ↦ (
          let kept = served_remain x.first x.last x.room x.missing x.story closed.fits closed.told closed.leaves g read written log is_read is_written is_log s c d n low within has (fresh none) in
          elim (cases_eq (times n (archives_in read)) 0) [
            | inr some ↦ elim (kept.1 (times_contains (archives_in read) n (some_times (times n (archives_in read)) some)) back held) [
              | inl y ↦ inl (kept.0, y)
              | inr y ↦ elim y [ inl z ↦ inr (Failed read log is_read is_log z) | inr z ↦ inr (Lost z) ]
            ]
            | inl gone ↦ elim (cases_eq (times n (flat_map archives_in x.first.tables)) 0) [
              | inr other ↦ inr (Elsewhere read is_read gone other)
              | inl nowhere ↦ inl (kept.0, (held.0, (closed.others n nowhere none).blocks s ∙ held.1, held.2))
            ]
          ]
          )
    ]
  ]
    where
      fresh : times n (came_by x.last.group_logs) ≡ 0 → Contains (arrivals log) n → ⊥
      fresh none h = (let a = contains_times (arrivals log) n h in let b = times_within arrivals x.last.group_logs g log n is_log in omega (arith, a, b, none))

  -- a recheck changes neither what a slot's digest is nor whom the columns name
  served_found : (found : List Unsound) (t u : Table) → IsTable t → IsFoundTable found g t u → HasServed t s c d n → HasServed u s c d n
  served_found found t u rules is has = record {
    digest = digest_stays found g t u is rules s c ∙ has.digest;
    only = subst (λ (x : Table). (k : ℕ) → k < width x → IsTrue (names (column_at x k) n) → k ≡ c) (sym is.rest) has.only;
    passed = subst (λ (x : Table). IfSome (column_at x c).moving (λ m. n ≡ m.to → s < m.upto)) (sym is.rest) has.passed;
  }

  -- the table of the group after rechecks
  record StillServed (left next : Contents) : Type 0 where
    rack : next.rack ≡ left.rack
    now : Table
    there : slice_get next.tables g ≡ Some now
    served : HasServed now s c d n

  after_recheck : (left next last : Contents) → IsRechecked next last → StillServed left next → StillServed left last
  after_recheck left next last rechecked was =
      let is = rechecked.is in
      let count = is.tables.count in
      let within = get_within next.tables g was.now was.there in
      let u = element_at last.tables g (omega (arith, within, count)) in
      let rules = all_at_place (FitsTable next.rack) next.tables g was.now rechecked.fits.tables.fits was.there in
      record {
        rack = rack_stays rechecked.found next last is ∙ was.rack;
        now = u.0;
        there = u.1;
        served = served_found rechecked.found was.now u.0 rules.rules (is.tables.each g was.now u.0 was.there u.1) was.served;
      }

  after_rechecks : (left last : Contents) → MayBeRechecked left last → (t : Table) → slice_get left.tables g ≡ Some t → HasServed t s c d n → StillServed left last
  after_rechecks left last Never t is_t has = record { rack = refl; now = t; there = is_t; served = has }
  after_rechecks left last (Again {next} sofar rechecked) t is_t has = after_recheck left next last rechecked (after_rechecks left next sofar t is_t has)

  -- session after session
  in_a_row : (left : Contents) (meant : ℕ → Meaning) (xs : List PastSession) (now : ℕ → Meaning) → InARow left meant xs now → (t : Table) → slice_get left.tables g ≡ Some t
      → s < left.rack.stripes → c < left.rack.columns → HasServed t s c d n → HoldsOf (meant n) s d → HoldsOf (now n) s d ⊎ OneTakes xs g s c n
  in_a_row left meant [] now is t is_t low within has held = inl (subst (λ (f : ℕ → Meaning). HoldsOf (f n) s d) (sym is) held)
  in_a_row left meant (x ∷ xs) now ((next, rechecked, begins), closed, is_meant, rest) t is_t low within has held =
      let kept = after_rechecks left next rechecked t is_t has in
      let same_rack : x.first.rack ≡ left.rack = begins.rack ∙ kept.rack in
      let u : Table = kept.now in
      let is_read : slice_get x.first.tables g ≡ Some u = ap (λ ts. slice_get ts g) begins.tables ∙ kept.there in
      let there : g < length x.first.tables = get_within x.first.tables g u is_read in
      let written = element_at x.last.tables g (let a = closed.leaves.groups.count in omega (arith, a, there)) in
      let log = element_at x.last.group_logs g (let a = closed.leaves.groups.count_logs in omega (arith, a, there)) in
      let fits : FitsTable x.first.rack u = all_at_place (FitsTable x.first.rack) x.first.tables g u closed.fits.tables.fits is_read in
      let racks = ap (λ (r : Rack). r.stripes) same_rack in
      let wide = ap (λ (r : Rack). r.columns) same_rack in
      let left_rack = ap (λ (r : Rack). r.stripes) closed.leaves.rack in
      let left_wide = ap (λ (r : Rack). r.columns) closed.leaves.rack in
      elim (one_session x closed u written.0 log.0 is_read written.1 log.1 (omega (arith, low, racks, fits.stripes)) (omega (arith, within, wide, fits.data_columns)) kept.served
      (subst (λ (f : ℕ → Meaning). HoldsOf (f n) s d) (sym is_meant) held)) [
        | inl y ↦ elim (in_a_row x.last x.room.after.means xs now rest written.0 written.1 (omega (arith, low, racks, left_rack)) (omega (arith, within, wide, left_wide)) y.0 y.1) [
          | inl z ↦ inl z
          | inr z ↦ inr (inr z)
        ]
        | inr y ↦ inr (inl y)
      ]

pub older_desk_finds : OlderDeskFinds
older_desk_finds desk meant now xs fits row g t is_t s c d low within live held =
    let of_rack : FitsTable desk.rack t = all_at_place (FitsTable desk.rack) desk.tables g t fits.tables.fits is_t in
    let wide : c < width t = omega (arith, within) in
    in_a_row g s c d (serving_at t s c) desk meant xs now row t is_t (omega (arith, low, of_rack.stripes)) (omega (arith, within, of_rack.data_columns))
    (serving_has t s c d of_rack.rules wide (ap digest_in live)) held
