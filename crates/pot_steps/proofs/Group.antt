-- The steps of a group keep the law of every stripe.
use Rattle.std.proofs.Common.{◌≡◌, ◌≢◌, ◌⊎◌, inl, inr, ℕ, ◌<◌, List, [], ◌∷◌, ◌++◌, Option, Some, None, Bool, true, IsTrue, refl, sym, ap, ap₂, ◌∙◌, subst, arith, nat_eq, nat_le, if◌then◌else◌}
use Rattle.std.proofs.lemmas.Bool.Decides.{nat_tests}
use Rattle.std.proofs.lemmas.Bool.{cases_eq}
use Rattle.pot_bytes.specs.Sums.{xor}
use Rattle.pot_bytes.specs.Weighted.{scaled}
use Rattle.pot_gf.specs.Field.{power}
use Rattle.pot_machine.specs.declared.slot.SlotState.{SlotState}
use Rattle.pot_machine.specs.declared.slot.SlotState.TheVariants.{Void, Live, Lost, Broken}
use Rattle.pot_machine.specs.Slot.{is_live}
use Rattle.pot_machine.specs.declared.entry.Entry.{Entry}
use Rattle.pot_machine.specs.declared.entry.Entry.TheVariants as entry
use Rattle.pot_machine.specs.Table.{Table, width, slot_at, serving_at}
use Rattle.pot_machine.specs.Machine.{Legal, after, Replays}
use Rattle.pot_machine.specs.Rules.{IsTable}
use Rattle.pot_machine.proofs.Columns.{serving_apart}
use Rattle.pot_bytes.specs.Digests.{digest_of}
use Rattle.pot_steps.specs.declared.flight.Flight.{Flight}
use Rattle.pot_steps.specs.Flights.{Acts, Stands, flights_after}
use Rattle.pot_steps.specs.Holdings.{Holdings}
use Rattle.pot_steps.specs.Entries.{WritesStripe}
use Rattle.pot_steps.specs.GroupStep.{GroupState, LosesBlocks, Passed, PassesTo, PutsBlock, PutFailed, PutStepKeeps, LookStepKeeps, FullStepKeeps, CountStepKeeps, Settled, Placed, NotPut, Full, NoRoom, Seen, Gone, Faulted, LogFull, skips, gone_entries, put_entry}
use Rattle.pot_steps.proofs.Acting.{act_keeps, loss_keeps_all}
use Rattle.pot_steps.proofs.Entries.{is_void_at}
use Rattle.pot_steps.proofs.StepsKeep.{loses_only}
use Rattle.pot_steps.proofs.AheadLemmas.{one_or_two}

same : (h : Holdings) → LosesBlocks h h
same h number slot b e = e

stands_loses : (t : Table) (h h' : Holdings) (fs : List Flight) → LosesBlocks h h' → Stands t h fs → Stands t h' fs
stands_loses t h h' fs l x = loss_keeps_all t fs h h' (loses_only t h h' l) x

stands_entry : (t : Table) (e : Entry) (h h' : Holdings) (fs : List Flight) → Legal t e → Acts t fs [] e h h' → Stands t h fs → Stands (after t e) h' (flights_after t e [] fs)
stands_entry t e h h' fs legal acts x = act_keeps t e fs [] h h' legal acts x

stands_at : (t u : Table) (h : Holdings) (fs : List Flight) → u ≡ t → Stands t h fs → Stands u h fs
stands_at t u h fs e x = subst (λ v. Stands v h fs) (sym e) x

passes_gone : (job s : ℕ) (gone : Option ℕ) (log : List Entry) (t u : Table) (h : Holdings) (fs : List Flight) → Replays t (gone_entries job s gone ++ log) u → Stands t h fs
    → (v : Table) × Replays v log u × Stands v h fs
passes_gone job s None log t u h fs r x = (t, r, x)
passes_gone job s (Some c) log t u h fs r x = (after t (entry.Gone job s c), r.1, stands_entry t (entry.Gone job s c) h h fs r.0 (loses_only t h h (same h)) x)

passes_skips : (job : ℕ) (passed : List Passed) (t u : Table) (h : Holdings) (fs : List Flight) → Replays t (skips job passed) u → Stands t h fs → Stands u h fs
passes_skips job [] t u h fs r x = stands_at t u h fs r x
passes_skips job (p ∷ passed) t u h fs r x =
    let g : (v : Table) × Replays v (entry.Skip job p.stripe ∷ skips job passed) u × Stands v h fs = passes_gone job p.stripe p.gone (entry.Skip job p.stripe ∷ skips job passed) t u h fs r x in
    passes_skips job passed (after g.0 (entry.Skip job p.stripe)) u h fs g.1.1
    (stands_entry g.0 (entry.Skip job p.stripe) h h fs g.1.0 (loses_only g.0 h h (same h)) g.2)

passes : (job : ℕ) (passed : List Passed) (old : GroupState) (at : Table) (now : Holdings) → PassesTo job passed old at now → Settled old → Stands at now old.flights
passes job passed old at now p x = stands_loses at old.held now old.flights p.loses (passes_skips job passed old.table at old.held old.flights p.replay x)

settled : (g : GroupState) (fs : List Flight) → g.flights ≡ fs → Stands g.table g.held fs → Settled g
settled g fs e x = subst (λ fs. Stands g.table g.held fs) (sym e) x

puts_stand : (job s c : ℕ) (block p q : List ℕ) (kept kept2 : Bool) (at : Table) (now : Holdings) (new : GroupState) (fs : List Flight) → PutsBlock job s c block p q kept kept2 at now new → Stands at now fs
    → Stands new.table new.held fs
puts_stand job s c block p q kept kept2 at now new fs puts x =
    stands_at (after at (put_entry at.parity job s c block p q kept kept2)) new.table new.held fs puts.table
    (stands_loses (after at (put_entry at.parity job s c block p q kept kept2)) puts.written new.held fs puts.loses
    (enters (one_or_two at.parity x.table.size.parity.0 x.table.size.parity.1)))
  where
    single : at.parity ≡ 1 → WritesStripe at now puts.written s c block p p kept kept
    single one = record {
      is_block = puts.writes.is_block;
      old_p = puts.writes.old_p;
      old_q = λ two. absurd (omega arith);
      data_block = puts.writes.data_block;
      new_p = puts.writes.new_p;
      new_q = λ two. absurd (omega arith);
      others = puts.writes.others;
    }

    one : Entry
    one = entry.Put job s c (digest_of block) (digest_of (xor p block)) kept

    two : Entry
    two = entry.Put2 job s c (digest_of block) (digest_of (xor p block)) (digest_of (xor q (scaled (power 3 c) block))) kept kept2

    enters : (at.parity ≡ 1) ⊎ (at.parity ≡ 2) → Stands (after at (put_entry at.parity job s c block p q kept kept2)) puts.written fs
    enters (inl e) = subst (λ n. Stands (after at (if nat_eq n 1 then one else two)) puts.written fs) (sym e)
        (stands_entry at (entry.Put job s c (digest_of block) (digest_of (xor p block)) kept) now puts.written fs (subst (λ n. Legal at (if nat_eq n 1 then one else two)) e puts.legal) (block, p, refl, refl, single e) x)
    enters (inr e) = subst (λ n. Stands (after at (if nat_eq n 1 then one else two)) puts.written fs) (sym e)
        (stands_entry at (entry.Put2 job s c (digest_of block) (digest_of (xor p block)) (digest_of (xor q (scaled (power 3 c) block))) kept kept2) now puts.written fs
        (subst (λ n. Legal at (if nat_eq n 1 then one else two)) e puts.legal) (block, p, q, refl, refl, refl, puts.writes) x)

-- one entry that leaves the flights
one_entry : (e : Entry) (old new : GroupState) → new.flights ≡ old.flights → Replays old.table (e ∷ []) new.table → LosesBlocks old.held new.held → Acts old.table old.flights [] e old.held old.held
    → flights_after old.table e [] old.flights ≡ old.flights → Settled old → Settled new
one_entry e old new same replay loses acts stay x =
    settled new old.flights same (stands_loses new.table old.held new.held old.flights loses (stands_at (after old.table e) new.table old.held old.flights replay.1
    (subst (λ fs. Stands (after old.table e) old.held fs) stay (stands_entry old.table e old.held old.held old.flights replay.0 acts x))))

pub look_keeps : LookStepKeeps
look_keeps job s c (Seen block) old new step x = one_entry (entry.Seen job s c) old new step.logs.flights step.replay step.loses (loses_only old.table old.held old.held (same old.held)) refl x
look_keeps job s c Gone old new step x = one_entry (entry.Gone job s c) old new step.logs.flights step.replay step.loses (loses_only old.table old.held old.held (same old.held)) refl x
look_keeps job s c Faulted old new step x = one_entry (entry.Fault job s c) old new step.logs.flights step.replay step.loses (loses_only old.table old.held old.held (same old.held)) refl x
look_keeps job s c LogFull old new step x =
    settled new old.flights step.logs.flights (stands_loses new.table old.held new.held old.flights step.loses (stands_at old.table new.table old.held old.flights step.replay x))

pub full_keeps : FullStepKeeps
full_keeps old new step x =
    settled new old.flights step.logs.flights (stands_loses new.table old.held new.held old.flights (λ number slot b e. sym (step.held number slot) ∙ e) (stands_at old.table new.table old.held old.flights step.table x))

pub count_keeps : CountStepKeeps
count_keeps job old new step x = one_entry (entry.Counted job) old new step.logs.flights step.replay step.loses (loses_only old.table old.held old.held (same old.held)) refl x

-- the slot of the cursor is Void
pub cursor_void : (t : Table) → IsTable t → t.cursor.stripe < t.stripes → slot_at t t.cursor.stripe t.cursor.column ≡ Void
cursor_void t h l =
    is_void_at (slot_at t t.cursor.stripe t.cursor.column) (h.voids.cursor t.cursor.column l h.cursor.column ∙ reached t.cursor.column)
  where
    reached : (a : ℕ) → nat_le a a ≡ true
    reached a = grind (arith, nat_tests)

pub live_void : (x : SlotState) → IsTrue (is_live x) → x ≢ Void
live_void Void l e = absurd (cc)
live_void (Live d) l e = absurd (cc)
live_void (Lost d) l e = absurd (cc)
live_void (Broken d) l e = absurd (cc)

-- a failed write of the data block changes a Void place alone
failed : (job column : ℕ) (block : List ℕ) (old new : GroupState) → PutFailed job column block old new → Settled old → Settled new
failed job column block old new f x =
    settled new old.flights f.logs.flights (stands_loses new.table f.written new.held old.flights f.loses (stands_at f.at new.table f.written old.flights f.table left))
  where
    before : Stands f.at f.now old.flights
    before = passes job f.passed old f.at f.now f.passes x

    -- another place than that of the cursor, whose slot is Void
    place : column ≡ f.at.cursor.column → (s c : ℕ) → s < f.at.stripes → c < width f.at → slot_at f.at s c ≢ Void
        → (s ≢ f.at.cursor.stripe) ⊎ (serving_at f.at f.at.cursor.stripe column ≢ serving_at f.at s c)
    place here s c ls lc void = elim (cases_eq s f.at.cursor.stripe) [
      | inl e ↦ elim (cases_eq column c) [
        | inl g ↦ absurd (void (ap₂ (λ n k. slot_at f.at n k) e (sym g ∙ here) ∙ cursor_void f.at before.table (let l : s < f.at.stripes = ls in omega arith)))
        | inr ne ↦ inr (λ g. serving_apart f.at f.at.cursor.stripe column c before.table.columns f.legal.1 lc ne (g ∙ ap (λ n. serving_at f.at n c) e))
      ]
      | inr ne ↦ inl ne
    ]

    left : Stands f.at f.written old.flights
    left = elim f.left [
      | inl e ↦ subst (λ h. Stands f.at h old.flights) (sym e) before
      | inr e ↦ loss_keeps_all f.at old.flights f.now f.written (λ s c b ls lc live held. sym (e.2 (serving_at f.at s c) s (place e.0 s c ls lc (live_void (slot_at f.at s c) live))) ∙ held) before
    ]

pub put_keeps_group : PutStepKeeps
put_keeps_group job block (Placed s c) old new step x =
    settled new old.flights step.logs.flights (puts_stand job s c block step.p step.q true true step.at step.now new old.flights step.puts (passes job step.passed old step.at step.now step.passes x))
put_keeps_group job block (NotPut column) old new (inl step) x =
    settled new old.flights step.logs.flights (puts_stand job step.s step.c block step.p step.q step.kept step.kept2 step.at step.now new old.flights step.puts (passes job step.passed old step.at step.now step.passes x))
put_keeps_group job block (NotPut column) old new (inr step) x = failed job column block old new step x
put_keeps_group job block Full old new step x = settled new old.flights step.logs.flights (passes job step.passed old new.table new.held step.passes x)
put_keeps_group job block NoRoom old new step x =
    let before : Stands step.at new.held old.flights = passes job step.passed old step.at new.held step.passes x in
    settled new old.flights step.logs.flights (last step.gone before step.replay)
  where
    last : (gone : Option ℕ) → Stands step.at new.held old.flights → Replays step.at (gone_entries job step.at.cursor.stripe gone) new.table → Stands new.table new.held old.flights
    last None before r = stands_at step.at new.table new.held old.flights r before
    last (Some c) before r = stands_at (after step.at (entry.Gone job step.at.cursor.stripe c)) new.table new.held old.flights r.1
        (stands_entry step.at (entry.Gone job step.at.cursor.stripe c) new.held new.held old.flights r.0 (loses_only step.at new.held new.held (same new.held)) before)
