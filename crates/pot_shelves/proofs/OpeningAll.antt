-- A stripe whose columns were read is opened, and the stripes one after the other.
use Rattle.std.proofs.Common.{◌≡◌, ◌⊎◌, inl, inr, ℕ, suc, ◌+◌, ◌<◌, ◌≤◌, List, [], ◌∷◌, ◌++◌, Option, Some, None, Bool, true, false, Contains, nat_eq, refl, sym, ap, ap₂, ◌∙◌, subst, arith, append_assoc, ◌||◌}
use Rattle.std.specs.Prelude.{IsTrue}
use Rattle.std.proofs.lemmas.Bool.{cases_lt}
use Rattle.std.proofs.lemmas.Bool.Decides.{nat_tests}
use Rattle.pot_bytes.proofs.Basis.{last_or}
use Rattle.pot_machine.proofs.Places.{slot_other}
use Rattle.pot_machine.specs.declared.slot.SlotState.{SlotState}
use Rattle.pot_machine.specs.declared.slot.SlotState.TheVariants.{Void, Live, Lost, Broken}
use Rattle.pot_machine.specs.declared.entry.Entry.{Entry}
use Rattle.pot_machine.specs.declared.entry.Entry.TheVariants.{Gone, Broke}
use Rattle.pot_machine.specs.Slot.{is_void, is_live, is_lost, broken_of}
use Rattle.pot_machine.specs.Column.{names as is_named}
use Rattle.pot_machine.specs.Table.{Table, width, slot_at, column_at, serving_at}
use Rattle.pot_machine.specs.Machine.{Replays, Legal, after, TakesBroke}
use Rattle.pot_machine.specs.Rules.{IsTable}
use Rattle.pot_machine.proofs.Logs.{replays_append}
use Rattle.pot_steps.specs.Stripe.{Stripe, Sound}
use Rattle.pot_steps.specs.Holdings.{stripe_of}
use Rattle.pot_steps.specs.GroupStep.{FindsGone, BreaksStripe, Spared, as_read, entries_where, opening}
use Rattle.pot_shelves.specs.declared.opening.Shortage.{Shortage}
use Rattle.pot_shelves.specs.declared.filling.Breaking.{Breaking}
use Rattle.pot_shelves.specs.declared.filling.Breaking.TheVariants as breaking
use Rattle.pot_shelves.specs.Shelves.{Shelves}
use Rattle.pot_shelves.specs.Opening.{HasArchives, FailedSo, ChangesStripe, OpensColumns, OpensStripe, Opens, failures, failures_at}
use Rattle.pot_shelves.specs.Filling.{IsBroken, breaks_at}
use Rattle.pot_shelves.proofs.ShelfLemmas.{stays_refl, stays_then}
use Rattle.pot_shelves.proofs.OpeningStripe.{reading, sound_same, find_moved, breaks_moved}
use Rattle.pot_shelves.proofs.OpeningFills.{IsOrdered, outcome, takes_broke}
use Rattle.pot_shelves.proofs.OpeningLogs.{with_at, at_here, at_below, entries_none, entries_one, entries_two, opening_begin, opening_more, failures_more}
use Rattle.pot_shelves.proofs.OpeningColumns.{failed_none, failed_then, changes_none, changes_then, changes_slot, sound_before}

-- ONE STRIPE

-- the entries of the slots that break
abbrev pub broke_entries : ℕ → Breaking → List Entry
broke_entries s breaking.Nothing = []
broke_entries s (breaking.One c) = Broke 0 s c ∷ []
broke_entries s (breaking.Both c k) = Broke 0 s c ∷ Broke 0 s k ∷ []

-- the slots that change
module _ (s : ℕ) (u v : Table) where
  changes_one : (c : ℕ) → c < width u → v ≡ after u (Broke 0 s c) → ChangesStripe s u v
  changes_one c lc e = changes_slot s c u v (broken_of (slot_at u s c)) lc e

changes_broke : (s : ℕ) (u v : Table) (b : Breaking) → Replays u (broke_entries s b) v → ChangesStripe s u v
changes_broke s u v breaking.Nothing r = subst (λ v. ChangesStripe s u v) (sym r) (changes_none s u)
changes_broke s u v (breaking.One c) r = changes_one s u v c r.0.1.1 r.1
changes_broke s u v (breaking.Both c k) r =
    changes_then s u (after u (Broke 0 s c)) v (changes_one s u (after u (Broke 0 s c)) c r.0.1.1 refl) (changes_one s (after u (Broke 0 s c)) v k r.1.0.1.1 r.1.1)

module _ (told : Type 0) (s : ℕ) (t u : Table) (before mid : List Entry) (shortage : Shortage) (p q : List ℕ) (a b : Shelves)
    (rules : IsTable t) (inside : s < t.stripes) (o : OpensColumns told (width t) s t u before mid shortage p q a b) where
  abbrev was_read : Stripe
  was_read = as_read t (λ _ c. o.read c) s

  stripes_stay : u.stripes ≡ t.stripes
  stripes_stay = ap {A = Table} (λ x. x.stripes) o.changes.shape

  same_wide : width u ≡ width t
  same_wide = ap width o.changes.shape

  void_is : (x : SlotState) → is_void x ≡ true → x ≡ Void
  void_is Void e = refl
  void_is (Live d) e = absurd (cc)
  void_is (Lost d) e = absurd (cc)
  void_is (Broken d) e = absurd (cc)

  -- where a parity slot is Void every slot is
  all_void : (c : ℕ) → c < width t → t.data_columns ≤ c → slot_at t s c ≡ Void → (k : ℕ) → k < width t → slot_at t s k ≡ Void
  all_void c lc le e k lk =
      let first : is_void (slot_at t s 0) ≡ true = sym (rules.voids.parity s c inside le lc) ∙ ap is_void e in
      elim (cases_lt k t.data_columns) [
        | inl l ↦ void_is (slot_at t s k) (rules.voids.first s 0 k inside (omega arith) l first)
        | inr g ↦ void_is (slot_at t s k) (rules.voids.parity s k inside g lk ∙ first)
      ]

  module _ (x : Breaking) (broken : IsBroken t.data_columns t.parity shortage p q x) where
    abbrev Ends : Type 0
    Ends = IsOrdered t.data_columns t.parity x × (BreaksStripe t.data_columns t.parity was_read (breaks_at x) ⊎ Spared t.data_columns t.parity was_read (breaks_at x))

    ends : Ends
    ends = outcome t.data_columns t.parity rules.size.data_columns.1 rules.size.parity.0 rules.size.parity.1 was_read p q o.lives o.adds shortage x o.short broken

    -- a slot that breaks is Live or Lost
    takes : (c : ℕ) → c < width t → breaks_at x c ≡ true → TakesBroke t s c
    takes c lc e = elim ends.1 [
      | inl w ↦ takes_broke t.data_columns t.parity was_read (breaks_at x) w all_void c lc e
      | inr w ↦ absurd (no (sym (w.none c lc) ∙ e))
    ]
      where
        no : false ≡ true → ⊥
        no e = cc

    legal_at : (c : ℕ) → c < width t → breaks_at x c ≡ true → Legal u (Broke 0 s c)
    legal_at c lc e = (refl, (omega (arith, inside, stripes_stay), omega (arith, lc, same_wide)), o.takes c lc (takes c lc e))

    entries : entries_where (width t) (breaks_at x) (Broke 0 s) ≡ broke_entries s x
    entries = by_kind x ends.0
      where
        by_kind : (x : Breaking) → IsOrdered t.data_columns t.parity x → entries_where (width t) (breaks_at x) (Broke 0 s) ≡ broke_entries s x
        by_kind breaking.Nothing l = entries_none (width t) (λ c. false) (Broke 0 s) (λ k l. refl)
        by_kind (breaking.One c) l = entries_one (width t) c (Broke 0 s) l
        by_kind (breaking.Both c k) l = entries_two (width t) c k (Broke 0 s) l.0 l.1

    -- the stripe with the entries of its slots that break
    pub opens_as : (v : Table) (now : List Entry) → Replays u (broke_entries s x) v → now ≡ mid ++ broke_entries s x → OpensStripe told s t v before now a b
    opens_as v now replay logged = record {
      read = o.read;
      gone = o.gone;
      broke = breaks_at x;
      failed = o.failed;
      missing = o.missing;
      reads = o.reads;
      finds = o.finds;
      breaks = ends.1;
      log = logged ∙ ap (λ xs. xs ++ broke_entries s x) o.log ∙ append_assoc before (entries_where (width t) o.gone (Gone 0 s)) (broke_entries s x)
          ∙ ap (λ xs. before ++ (entries_where (width t) o.gone (Gone 0 s) ++ xs)) (sym entries);
      replay = subst (λ xs. Replays t (entries_where (width t) o.gone (Gone 0 s) ++ xs) v) (sym entries)
          (replays_append t (entries_where (width t) o.gone (Gone 0 s)) u (broke_entries s x) v o.replay replay);
      few = o.few;
      changes = changes_then s t u v o.changes (changes_broke s u v x replay);
      stays = o.stays;
    }

  -- LEGAL ENTRIES

  pub legal_one : (c : ℕ) → IsBroken t.data_columns t.parity shortage p q (breaking.One c) → Legal u (Broke 0 s c)
  legal_one c w = legal_at (breaking.One c) w c (ends (breaking.One c) w).0 (equal c)
    where
      equal : (c : ℕ) → nat_eq c c ≡ true
      equal c = grind (arith, nat_tests)

  pub legal_first : (c k : ℕ) → IsBroken t.data_columns t.parity shortage p q (breaking.Both c k) → Legal u (Broke 0 s c)
  legal_first c k w =
      let l : (c < k) × (k < width t) = (ends (breaking.Both c k) w).0 in
      legal_at (breaking.Both c k) w c (omega (arith, l.0, l.1)) (here c k)
    where
      here : (c k : ℕ) → nat_eq c c || nat_eq c k ≡ true
      here c k = grind (arith, nat_tests)

  pub legal_second : (c k : ℕ) → IsBroken t.data_columns t.parity shortage p q (breaking.Both c k) → Legal (after u (Broke 0 s c)) (Broke 0 s k)
  legal_second c k w =
      let l : (c < k) × (k < width t) = (ends (breaking.Both c k) w).0 in
      let x : Legal u (Broke 0 s k) = legal_at (breaking.Both c k) w k l.1 (there c k) in (
        refl,
        x.1,
        subst (λ z. IsTrue (is_live z) ⊎ IsTrue (is_lost z))
            (sym (slot_other u s c s k (broken_of (slot_at u s c)) (omega (arith, l.0, l.1, same_wide)) x.1.1 (λ e. absurd (omega (arith, l.0, e.1))))) x.2,
      )
    where
      there : (c k : ℕ) → nat_eq k c || nat_eq k k ≡ true
      there c k = grind (arith, nat_tests)

-- ALL STRIPES

-- the first stripes may have changed, and the others not
pub record LaterStay (n : ℕ) (t u : Table) : Type 0 where
  pub shape : u ≡ record t { slots = u.slots }
  pub later : (s k : ℕ) → n ≤ s → k < width t → slot_at u s k ≡ slot_at t s k

pub later_none : (t : Table) → LaterStay 0 t t
later_none t = record { shape = refl; later = λ s k le lt. refl }

pub later_more : (n : ℕ) (t u v : Table) → LaterStay n t u → ChangesStripe n u v → LaterStay (suc n) t v
later_more n t u v p q = record {
  shape = q.shape ∙ ap {A = Table} (λ x. record x { slots = v.slots }) p.shape;
  later = λ s k le lt. q.others s k (omega arith) (let w : width u ≡ width t = ap width p.shape in omega arith) ∙ p.later s k (omega arith) lt;
}

-- the archives are still those of the table
pub opens_archives : (told : Type 0) (n : ℕ) (t u : Table) (now : List Entry) (a b : Shelves) → LaterStay n t u → Opens told n t u now a b → HasArchives t a.numbers → HasArchives u b.numbers
opens_archives told n t u now a b l o h c number lt names =
    subst (λ ns. Contains ns number) (sym o.stays.keeps.numbers)
    (h c number (let e : width u ≡ width t = ap width l.shape in omega arith) (sym (ap (λ (x : Table). is_named (column_at x c) number) l.shape) ∙ names))

pub opens_none : (told : Type 0) (t : Table) (a : Shelves) → Opens told 0 t t [] a a
opens_none told t a = record {
  read = λ s c. None;
  gone = λ s c. false;
  broke = λ s c. false;
  failed = λ s c. false;
  missing = λ z s c lt. absurd (omega arith);
  reads = λ z s c b lt. absurd (omega arith);
  finds = λ s lt. absurd (omega arith);
  breaks = λ s lt. absurd (omega arith);
  log = sym (opening_begin (width t) (λ s c. false) (λ s c. false));
  replay = refl;
  few = λ number. failed_none told a a number (stays_refl told a);
  stays = stays_refl told a;
}

module _ (told : Type 0) (n : ℕ) (t u v : Table) (mid now : List Entry) (a b c : Shelves) (l : LaterStay n t u) (o : Opens told n t u mid a b) (x : OpensStripe told n u v mid now b c) where
  abbrev read' : ℕ → ℕ → Option (List ℕ)
  read' = with_at n o.read x.read

  abbrev gone' : ℕ → ℕ → Bool
  gone' = with_at n o.gone x.gone

  abbrev broke' : ℕ → ℕ → Bool
  broke' = with_at n o.broke x.broke

  abbrev failed' : ℕ → ℕ → Bool
  failed' = with_at n o.failed x.failed

  width' : width u ≡ width t
  width' = ap width l.shape

  serving' : (s k : ℕ) → serving_at u s k ≡ serving_at t s k
  serving' s k = ap (λ (x : Table). serving_at x s k) l.shape

  here : (k : ℕ) → k < width t → slot_at t n k ≡ slot_at u n k
  here k lt = sym (l.later n k (omega arith) lt)

  missing' : told → (s k : ℕ) → s < suc n → k < width t → gone' s k ≡ true → failed' s k ≡ false → Sound (stripe_of t c.held s) k → ⊥
  missing' z s k ls lk g f y = elim (last_or s n ls) [
    | inl e ↦ x.missing z k (let w : width u ≡ width t = width' in omega arith)
        (sym (ap (λ h. h k) (at_here n o.gone x.gone)) ∙ ap (λ s. gone' s k) (sym e) ∙ g) (sym (ap (λ h. h k) (at_here n o.failed x.failed)) ∙ ap (λ s. failed' s k) (sym e) ∙ f)
        (sound_same (stripe_of t c.held n) (stripe_of u c.held n) k (sym (here k lk)) (ap (λ m. c.held m n) (serving' n k)) (subst (λ s. Sound (stripe_of t c.held s) k) e y))
    | inr lt ↦ o.missing z s k lt lk (sym (ap (λ h. h k) (at_below n o.gone x.gone s lt)) ∙ g) (sym (ap (λ h. h k) (at_below n o.failed x.failed s lt)) ∙ f)
        (sound_before told t s k b c x.stays z y)
  ]

  reads' : told → (s k : ℕ) (d : List ℕ) → s < suc n → k < width t → read' s k ≡ Some d → a.held (serving_at t s k) s ≡ Some d
  reads' z s k d ls lk e = elim (last_or s n ls) [
    | inl q ↦ subst (λ s. a.held (serving_at t s k) s ≡ Some d) (sym q)
        ((o.stays.loses z (serving_at t n k)).keeps n d
        (ap (λ m. b.held m n) (sym (serving' n k)) ∙ x.reads z k d (let w : width u ≡ width t = width' in omega arith) (sym (ap (λ h. h k) (at_here n o.read x.read)) ∙ ap (λ s. read' s k) (sym q) ∙ e)))
    | inr lt ↦ o.reads z s k d lt lk (sym (ap (λ h. h k) (at_below n o.read x.read s lt)) ∙ e)
  ]

  finds' : (s : ℕ) → s < suc n → FindsGone (width t) (as_read t read' s) (gone' s)
  finds' s ls = elim (last_or s n ls) [
    | inl q ↦ subst (λ s. FindsGone (width t) (as_read t read' s) (gone' s)) (sym q)
        (subst (λ f. FindsGone (width t) (reading (λ k. slot_at t n k) f) (gone' n)) (sym (at_here n o.read x.read))
        (subst (λ g. FindsGone (width t) (reading (λ k. slot_at t n k) x.read) g) (sym (at_here n o.gone x.gone))
        (find_moved (λ k. slot_at u n k) (λ k. slot_at t n k) x.read (width t) here x.gone (subst (λ w. FindsGone w (reading (λ k. slot_at u n k) x.read) x.gone) width' x.finds))))
    | inr lt ↦ subst (λ f. FindsGone (width t) (reading (λ k. slot_at t s k) f) (gone' s)) (sym (at_below n o.read x.read s lt))
        (subst (λ g. FindsGone (width t) (reading (λ k. slot_at t s k) (o.read s)) g) (sym (at_below n o.gone x.gone s lt)) (o.finds s lt))
  ]

  abbrev Decided : Stripe → (ℕ → Bool) → Type 0
  Decided r test = BreaksStripe t.data_columns t.parity r test ⊎ Spared t.data_columns t.parity r test

  columns' : u.data_columns ≡ t.data_columns
  columns' = ap {A = Table} (λ x. x.data_columns) l.shape

  parity' : u.parity ≡ t.parity
  parity' = ap {A = Table} (λ x. x.parity) l.shape

  breaks' : (s : ℕ) → s < suc n → Decided (as_read t read' s) (broke' s)
  breaks' s ls = elim (last_or s n ls) [
    | inl q ↦ subst (λ s. Decided (as_read t read' s) (broke' s)) (sym q)
        (subst (λ f. Decided (reading (λ k. slot_at t n k) f) (broke' n)) (sym (at_here n o.read x.read))
        (subst (λ g. Decided (reading (λ k. slot_at t n k) x.read) g) (sym (at_here n o.broke x.broke))
        (breaks_moved t.data_columns t.parity (λ k. slot_at u n k) (λ k. slot_at t n k) x.read here x.broke
        (subst (λ m. BreaksStripe m t.parity (reading (λ k. slot_at u n k) x.read) x.broke ⊎ Spared m t.parity (reading (λ k. slot_at u n k) x.read) x.broke) columns'
        (subst (λ m. BreaksStripe u.data_columns m (reading (λ k. slot_at u n k) x.read) x.broke ⊎ Spared u.data_columns m (reading (λ k. slot_at u n k) x.read) x.broke) parity' x.breaks)))))
    | inr lt ↦ subst (λ f. Decided (reading (λ k. slot_at t s k) f) (broke' s)) (sym (at_below n o.read x.read s lt))
        (subst (λ g. Decided (reading (λ k. slot_at t s k) (o.read s)) g) (sym (at_below n o.broke x.broke s lt)) (o.breaks s lt))
  ]

  abbrev entries' : ℕ → List Entry
  entries' w = entries_where w x.gone (Gone 0 n) ++ entries_where w x.broke (Broke 0 n)

  log' : now ≡ opening (width t) (suc n) gone' broke'
  log' =
      x.log ∙ ap₂ (λ xs ys. xs ++ ys) o.log (ap entries' width')
      ∙ sym (opening_more (width t) n o.gone gone' o.broke broke' x.gone x.broke (at_below n o.gone x.gone) (at_below n o.broke x.broke) (at_here n o.gone x.gone) (at_here n o.broke x.broke))

  few' : (number : ℕ) → FailedSo a c number (failures t failed' (suc n) number)
  few' number = subst (λ m. FailedSo a c number m) (sym counted) (failed_then told a b c number (failures t o.failed n number) (failures_at u x.failed n number) x.stays (o.few number) (x.few number))
    where
      counted : failures t failed' (suc n) number ≡ failures t o.failed n number + failures_at u x.failed n number
      counted =
          failures_more t o.failed failed' n number x.failed (at_below n o.failed x.failed) (at_here n o.failed x.failed)
          ∙ ap (λ (w : Table). failures t o.failed n number + failures_at w x.failed n number) (sym l.shape)

  pub opens_more : Opens told (suc n) t v now a c
  opens_more = record {
    read = read';
    gone = gone';
    broke = broke';
    failed = failed';
    missing = missing';
    reads = reads';
    finds = finds';
    breaks = breaks';
    log = log';
    replay = subst (λ xs. Replays t xs v) (sym x.log) (replays_append t mid u (entries' (width u)) v o.replay x.replay);
    few = few';
    stays = stays_then told a b c o.stays x.stays;
  }
