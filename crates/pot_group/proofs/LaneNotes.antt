-- The reads of a sweep are noted one after another, and each is a look.
use Rattle.std.proofs.Common.{◌≡◌, ◌⊎◌, ◌<◌, ◌≤◌, ◌++◌, ◌+◌, ℕ, List, [], ◌∷◌, inl, inr, ap, sym, subst, ◌∙◌, arith, length, length-append, IsTrue}
use Rattle.std.specs.Prelude.{Some, None, IsErr}
use Rattle.std.proofs.lemmas.Option.{same_Some, none-some}
use Rattle.pot_bytes.specs.declared.digest.Digest.{Digest}
use Rattle.pot_bytes.specs.Rack.{log_bound}
use Rattle.pot_bytes.specs.Digests.{digest_of}
use Rattle.pot_outside.specs.Archives.{ReadTells}
use Rattle.pot_machine.specs.declared.entry.Entry.{Entry}
use Rattle.pot_machine.specs.declared.slot.SlotState.{SlotState}
use Rattle.pot_machine.specs.declared.slot.SlotState.TheVariants.{Void, Live, Lost, Broken}
use Rattle.pot_machine.specs.Slot.{digest_in, is_live}
use Rattle.pot_machine.specs.Table.{slot_at, serving_at}
use Rattle.pot_machine.specs.Machine.{InRange, Legal, after}
use Rattle.pot_steps.specs.Holdings.{stripe_of}
use Rattle.pot_steps.specs.Stripe.{Sound as IsSoundAt}
use Rattle.pot_shelves.specs.Shelves.{Shelves, ShelvesStay}
use Rattle.pot_group.specs.declared.lanes.Lane.{Lane}
use Rattle.pot_group.specs.declared.reads.Found.{Found}
use Rattle.pot_group.specs.declared.reads.Found.TheVariants.{Sound, Missing, NotRead}
use Rattle.pot_group.specs.declared.sweeping.Reached.TheVariants as reached
use Rattle.pot_group.specs.declared.sweeping.Swept.{Swept}
use Rattle.pot_group.specs.Finding.{IsPlace}
use Rattle.pot_group.specs.Looking.{Looks}
use Rattle.pot_group.specs.Group.{CoversOne, GroupView, IsQuiet, IsSettled}
use Rattle.pot_group.specs.Calls.{Made}
use Rattle.pot_group.specs.Sweeping.{SweepCall}
use Rattle.pot_group.specs.Lanes.{FindsInLane, Gathers, OnlyLastFails, ReadsLane, ReadsOn, entry_of, with_found}
use Rattle.pot_group.proofs.LookSteps.{seen_made, gone_made, faulted_made}
use Rattle.pot_group.proofs.Reading.{covers_rise}
use Rattle.pot_group.proofs.Settled.{settled_quiet, settled_stays}
use Rattle.pot_group.proofs.SweepLemmas.{Sweeps, gone_few, seen_few, sweep_faulted, sweep_over, sweeps_gone, sweeps_none, sweeps_seen}
use Rattle.pot_group.proofs.LaneReads.{reads_after, reads_stay}

-- A READ IS A LOOK

live_with : (x : SlotState) (d : Digest) → IsTrue (is_live x) → digest_in x ≡ Some d → x ≡ Live d
live_with Void d live e = absurd (cc)
live_with (Live b) d live e = ap Live (same_Some b d e)
live_with (Lost b) d live e = absurd (cc)
live_with (Broken b) d live e = absurd (cc)

-- with other archives
abbrev pub over : GroupView → Shelves → GroupView
over g shelves = record g { shelves = shelves }

-- and with one entry more
abbrev pub logged : GroupView → Entry → GroupView
logged g e = record g { table = after g.table e; log = g.log ++ e ∷ [] }

module _ (told : Type 0) (g : GroupView) (mid : Shelves) (lane : Lane) (digest : Digest) (read : ReadsLane told lane g.table g.shelves mid) (live : IsTrue (is_live (slot_at g.table lane.place.stripe lane.place.column)))
    (right : digest ≡ digest_of lane.block) where
  abbrev number : ℕ
  number = serving_at g.table lane.place.stripe lane.place.column

  sound_look : FindsInLane lane digest Sound → Looks told lane.place.stripe lane.place.column lane.block Sound g (over g mid)
  sound_look f = record {
    stays = read.reads.stays;
    finds = (
      live_with (slot_at g.table lane.place.stripe lane.place.column) (digest_of lane.block) live (ap digest_in (sym read.state) ∙ f.1 ∙ ap Some right),
      λ t. subst (λ o. ReadTells (mid.held number) lane.place.stripe lane.block o) f.0 (read.reads.tells t),
    );
  }

  not_there : FindsInLane lane digest Missing → told → IsSoundAt (stripe_of g.table mid.held lane.place.stripe) lane.place.column → ⊥
  not_there (inl absent) t sound =
      none-some sound.0 (sym (subst (λ o. ReadTells (mid.held number) lane.place.stripe lane.block o) absent (read.reads.tells t)) ∙ sound.1.held)
  not_there (inr other) t sound =
      let same : sound.0 ≡ lane.block = same_Some sound.0 lane.block (sym sound.1.held ∙ subst (λ o. ReadTells (mid.held number) lane.place.stripe lane.block o) other.0 (read.reads.tells t)) in
      other.1 (ap digest_in (read.state ∙ sound.1.live) ∙ ap Some (sym sound.1.right ∙ ap digest_of same ∙ sym right))

  missing_look : FindsInLane lane digest Missing → Looks told lane.place.stripe lane.place.column lane.block Missing g (over g mid)
  missing_look f = record { stays = read.reads.stays; finds = not_there f }

  failed_look : IsErr lane.answer → CoversOne (over g mid) lane.place.column → Looks told lane.place.stripe lane.place.column lane.block NotRead g (over g mid)
  failed_look e covers = record { stays = read.reads.stays; finds = (read.reads.cause e, covers, live) }

-- a slot that is not sound is not after losses either
unsound_later : (told : Type 0) (g : GroupView) (x y : Shelves) (s c : ℕ) → ShelvesStay told x y → (told → IsSoundAt (stripe_of g.table x.held s) c → ⊥) → told → IsSoundAt (stripe_of g.table y.held s) c → ⊥
unsound_later told g x y s c stays none t sound = none t (
  sound.0,
  record { digest = sound.1.digest; live = sound.1.live; held = (stays.loses t (serving_at g.table s c)).keeps s sound.0 sound.1.held; right = sound.1.right },
)

-- NOTES UNDER WAY

-- So many reads are noted, each as a look, and these are left. The archives were as `mid` before
-- them.
pub record Noting (told : Type 0) (job s c n : ℕ) (swept : Swept) (lanes : List Lane) (old now : GroupView) (entries : List Entry) : Type 0 where
  pub stripe : ℕ
  pub column : ℕ
  pub mid : Shelves
  pub sweeps : Sweeps told job s c n stripe column swept old (over now mid) entries
  pub reads : ReadsOn told now.number now.table stripe column lanes mid now.shelves
  pub fails : OnlyLastFails lanes
  pub settled : IsSettled told (over now mid)
  pub room : length now.log + length lanes ≤ log_bound

-- that, or the last read failed and the sweep is over
abbrev pub Noted : Type 0 → ℕ → ℕ → ℕ → ℕ → Swept → List Lane → GroupView → GroupView → Type 0
Noted told job s c n swept lanes old now =
    ((entries : List Entry) × Noting told job s c n swept lanes old now entries)
    ⊎ ((lanes ≡ []) × Made (SweepCall told job s c swept) old now)

pub noted_none : (told : Type 0) (job s c most : ℕ) (lanes : List Lane) (old : GroupView) (now : Shelves) → IsSettled told old → Gathers told old.number old.table s c most lanes old.shelves now
    → length old.log + most ≤ log_bound → Noted told job s c 0 (record { seen = 0; gone = 0; reached = reached.End }) lanes old (over old now)
noted_none told job s c most lanes old now settled gathers room = inl (
  [],
  record {
    stripe = s;
    column = c;
    mid = old.shelves;
    sweeps = sweeps_none told job s c old;
    reads = gathers.reads;
    fails = gathers.fails;
    settled = settled;
    room = omega (arith, gathers.few, room);
  },
)

module _ (told : Type 0) (job s c n : ℕ) (swept : Swept) (lane : Lane) (rest : List Lane) (old now : GroupView) (few : n < 4) (digest : Digest) (right : digest ≡ digest_of lane.block) where
  module _ (entries : List Entry) (noting : Noting told job s c n swept (lane ∷ rest) old now entries) where
    abbrev next : Shelves
    next = noting.reads.0

    place : IsPlace now.number now.table is_live noting.stripe noting.column (Some lane.place)
    place = noting.reads.1

    range : InRange now.table lane.place.stripe lane.place.column
    range = place.1.0.0

    live : IsTrue (is_live (slot_at now.table lane.place.stripe lane.place.column))
    live = place.1.1

    room : length now.log < log_bound
    room = omega (arith, noting.room)

    settled : IsSettled told (over now next)
    settled = settled_stays told (over now noting.mid) next noting.settled noting.reads.2.reads.stays

    later : ShelvesStay told next now.shelves
    later = reads_stay told now.number now.table lane.place.stripe (lane.place.column + 1) rest next now.shelves noting.reads.3

    covers : IsErr lane.answer → CoversOne (over now next) lane.place.column
    covers e = covers_rise told (over now noting.mid) next lane.place.stripe lane.place.column noting.settled range.1 noting.reads.2.reads.stays.keeps (noting.reads.2.reads.cause e)

    -- behind a read that failed there is none
    all_read : IsErr lane.answer → now.shelves ≡ next
    all_read e = subst (λ ls. ReadsOn told now.number now.table lane.place.stripe (lane.place.column + 1) ls next now.shelves) (noting.fails.0 e) noting.reads.3

    look : (found : Found) → FindsInLane lane digest found → Looks told lane.place.stripe lane.place.column lane.block found (over now noting.mid) (over now next)
    look Sound f = sound_look told (over now noting.mid) next lane digest noting.reads.2 live right f
    look Missing f = missing_look told (over now noting.mid) next lane digest noting.reads.2 live right f
    look NotRead f = failed_look told (over now noting.mid) next lane digest noting.reads.2 live right f (covers f)

    legal : (found : Found) → Legal now.table (entry_of job lane.place found)
    legal Sound = (range, live)
    legal Missing = range
    legal NotRead = range

    -- the entry says nothing untrue, of the archives then and of those now
    quiet_then : (found : Found) → FindsInLane lane digest found → IsQuiet told (over now next) (entry_of job lane.place found)
    quiet_then Sound f = tt
    quiet_then Missing f = (look Missing f).finds
    quiet_then NotRead f = covers f

    quiet_now : (found : Found) → FindsInLane lane digest found → IsQuiet told now (entry_of job lane.place found)
    quiet_now Sound f = tt
    quiet_now Missing f = unsound_later told now next now.shelves lane.place.stripe lane.place.column later (look Missing f).finds
    quiet_now NotRead f = subst (λ (x : Shelves). CoversOne (over now x) lane.place.column) (sym (all_read f)) (covers f)

    abbrev Goes : Found → Type 0
    Goes found = Noted told job s c (n + 1) (with_found swept lane.place found) rest old (logged now (entry_of job lane.place found))

    goes_on : (found : Found) → FindsInLane lane digest found → (made : List Entry) → Sweeps told job s c (n + 1) lane.place.stripe (lane.place.column + 1) (with_found swept lane.place found) old (over (logged now (entry_of job lane.place found)) next) made
        → Goes found
    goes_on found f made sweeps =
        let e = entry_of job lane.place found in
        inl (
          made,
          record {
            stripe = lane.place.stripe;
            column = lane.place.column + 1;
            mid = next;
            sweeps = sweeps;
            reads = reads_after told now.number job now.table lane.place found rest next now.shelves range.1 noting.reads.3;
            fails = noting.fails.1;
            settled = settled_quiet told (over now next) e settled (legal found) room (quiet_then found f);
            room = (let more : length (now.log ++ e ∷ []) ≡ length now.log + 1 = length-append now.log (e ∷ []) in omega (arith, more, noting.room));
          },
        )

    noted_one : (found : Found) → FindsInLane lane digest found → Goes found
    noted_one Sound f =
        goes_on Sound f _ (sweeps_seen told job s c n noting.stripe noting.column swept old (over now noting.mid) (over (logged now (entry_of job lane.place Sound)) next) entries noting.sweeps lane.place lane.block place
        (seen_made told (over now noting.mid) (over now next) job lane.place lane.block range.0 range.1 room (look Sound f)))
    noted_one Missing f =
        goes_on Missing f _ (sweeps_gone told job s c n noting.stripe noting.column swept old (over now noting.mid) (over (logged now (entry_of job lane.place Missing)) next) entries noting.sweeps lane.place lane.block place
        (gone_made told (over now noting.mid) (over now next) job lane.place lane.block range.0 range.1 room (look Missing f)))
    noted_one NotRead f = inr (
      noting.fails.0 f,
      subst (λ (x : Shelves). Made (SweepCall told job s c (with_found swept lane.place NotRead)) old (over (logged now (entry_of job lane.place NotRead)) x)) (sym (all_read f))
          (sweep_faulted told job s c n noting.stripe noting.column swept old (over now noting.mid) (over (logged now (entry_of job lane.place NotRead)) next) entries noting.sweeps lane.place lane.block place lane.place.column few
          (faulted_made told (over now noting.mid) (over now next) job lane.place lane.block range.0 range.1 room (look NotRead f))),
    )

  -- WHAT THE NOTE OF THE NEXT READ ASKS FOR, AND GIVES

  pub note_few : Noted told job s c n swept (lane ∷ rest) old now → (swept.seen < 4) × (swept.gone < 4)
  note_few (inl x) =
      let noting = x.1 in
      let seen = seen_few told job s c n noting.stripe noting.column swept old (over now noting.mid) now x.0 noting.sweeps in
      let gone = gone_few told job s c n noting.stripe noting.column swept old (over now noting.mid) now x.0 noting.sweeps in
      (omega (arith, seen, few), omega (arith, gone, few))
  note_few (inr x) = absurd (let e = x.0 in cc)

  pub note_room : Noted told job s c n swept (lane ∷ rest) old now → length now.log < log_bound
  note_room (inl x) = room x.0 x.1
  note_room (inr x) = absurd (let e = x.0 in cc)

  module _ (found : Found) (finds : FindsInLane lane digest found) (e : Entry) (says : e ≡ entry_of job lane.place found) where
    pub note_legal : Noted told job s c n swept (lane ∷ rest) old now → Legal now.table e
    note_legal (inl x) = subst (λ (e : Entry). Legal now.table e) (sym says) (legal x.0 x.1 found)
    note_legal (inr x) = absurd (let e = x.0 in cc)

    pub note_quiet : Noted told job s c n swept (lane ∷ rest) old now → IsQuiet told now e
    note_quiet (inl x) = subst (λ (e : Entry). IsQuiet told now e) (sym says) (quiet_now x.0 x.1 found finds)
    note_quiet (inr x) = absurd (let e = x.0 in cc)

    pub noted_more : (more : Swept) (new : GroupView) → more ≡ with_found swept lane.place found → new ≡ logged now e → Noted told job s c n swept (lane ∷ rest) old now → Noted told job s c (n + 1) more rest old new
    noted_more more new counts logs (inl x) =
        subst (λ (z : Swept). Noted told job s c (n + 1) z rest old new) (sym counts)
        (subst (λ (v : GroupView). Noted told job s c (n + 1) (with_found swept lane.place found) rest old v) (sym (logs ∙ ap (logged now) says)) (noted_one x.0 x.1 found finds))
    noted_more more new counts logs (inr x) = absurd (let e = x.0 in cc)

-- all reads are noted
pub noted_all : (told : Type 0) (job s c n : ℕ) (swept : Swept) (old now : GroupView) → n ≤ 4 → (n ≡ 0 → IsPlace old.number old.table is_live s c None) → Noted told job s c n swept [] old now
    → Made (SweepCall told job s c swept) old now
noted_all told job s c n swept old now few none (inl x) =
    let noting = x.1 in
    subst (λ (v : Shelves). Made (SweepCall told job s c swept) old (over now v)) (sym noting.reads)
    (sweep_over told job s c n noting.stripe noting.column swept old (over now noting.mid) x.0 noting.sweeps few none)
noted_all told job s c n swept old now few none (inr x) = x.1
