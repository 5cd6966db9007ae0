-- The columns of a stripe are opened one after the other.
use Rattle.std.proofs.Common.{◌≡◌, ◌≢◌, ◌⊎◌, inl, inr, ℕ, suc, ◌+◌, ◌<◌, ◌≤◌, List, ◌++◌, length, Option, Some, None, Bool, true, false, ◌&&◌, IsTrue, refl, sym, ap, ap₂, ◌∙◌, subst, arith, append-nil, append_assoc, length-append, if◌then◌else◌}
use Rattle.std.specs.Prelude.{◌==◌}
use Rattle.pot_bytes.specs.Sums.{zero_block}
use Rattle.pot_bytes.proofs.Basis.{last_or}
use Rattle.pot_machine.specs.declared.slot.SlotState.{SlotState}
use Rattle.pot_machine.specs.declared.slot.SlotState.TheVariants.{Void, Live, Lost, Broken}
use Rattle.pot_machine.specs.declared.entry.Entry.{Entry}
use Rattle.pot_machine.specs.declared.entry.Entry.TheVariants.{Gone}
use Rattle.pot_machine.specs.Slot.{is_live, is_lost, lost_of}
use Rattle.pot_machine.specs.Table.{Table, width, slot_at, serving_at, count}
use Rattle.pot_machine.specs.Machine.{Replays, TakesBroke, with_slot}
use Rattle.pot_machine.proofs.Places.{slot_after, slot_other}
use Rattle.pot_machine.proofs.Logs.{replays_append}
use Rattle.pot_machine.proofs.Searches.{count_zero}
use Rattle.pot_steps.specs.Stripe.{Sound}
use Rattle.pot_steps.specs.Holdings.{stripe_of}
use Rattle.pot_steps.specs.GroupStep.{entries_where}
use Rattle.pot_shelves.specs.declared.opening.Part.{Part}
use Rattle.pot_shelves.specs.declared.opening.Part.TheVariants as part
use Rattle.pot_shelves.specs.declared.opening.Shortage.{Shortage}
use Rattle.pot_shelves.specs.declared.opening.Shortage.TheVariants.{Nothing}
use Rattle.pot_shelves.specs.Shelves.{Shelves, ShelvesStay}
use Rattle.pot_shelves.specs.Opening.{FailedSo, ChangesStripe, IsPart, block_of, is_missing, gone_entry, OpensSlot, OpensColumns, short_by, first_by, second_by}
use Rattle.pot_shelves.proofs.ShelfLemmas.{stays_refl, stays_then}
use Rattle.pot_shelves.proofs.OpeningStripe.{sound_same, find_more, short_more, lives_more, sums_more, sums_none}
use Rattle.pot_shelves.proofs.OpeningLogs.{with_at, at_here, at_below, entries_begin, entries_more, entries_length, count_more}

-- WHAT THE ARCHIVES DO MEANWHILE

pub failed_none : (told : Type 0) (a b : Shelves) (number : ℕ) → ShelvesStay told a b → FailedSo a b number 0
failed_none told a b number s = inr (let x : a.faults number ≤ b.faults number = s.keeps.later number in omega arith)

pub failed_then : (told : Type 0) (a b c : Shelves) (number x y : ℕ) → ShelvesStay told b c → FailedSo a b number x → FailedSo b c number y → FailedSo a c number (x + y)
failed_then told a b c number x y s (inl p) q = inl (let l : b.faults number ≤ c.faults number = s.keeps.later number in omega arith)
failed_then told a b c number x y s (inr p) (inl q) = inl q
failed_then told a b c number x y s (inr p) (inr q) = inr (omega arith)

-- WHAT A TABLE KEEPS

pub changes_none : (s : ℕ) (t : Table) → ChangesStripe s t t
changes_none s t = record { shape = refl; others = λ n k ne lt. refl }

pub changes_then : (s : ℕ) (t u v : Table) → ChangesStripe s t u → ChangesStripe s u v → ChangesStripe s t v
changes_then s t u v p q = record {
  shape = q.shape ∙ ap {A = Table} (λ x. record x { slots = v.slots }) p.shape;
  others = λ n k ne lt. q.others n k ne (let w : width u ≡ width t = ap width p.shape in omega arith) ∙ p.others n k ne lt;
}

pub changes_slot : (s c : ℕ) (t u : Table) (x : SlotState) → c < width t → u ≡ with_slot t s c x → ChangesStripe s t u
changes_slot s c t u x lc e = subst (λ u. ChangesStripe s t u) (sym e) record {
  shape = refl;
  others = λ n k ne lt. slot_other t s c n k x lc lt (λ q. ne q.0);
}

pub served : (s : ℕ) (t u : Table) → ChangesStripe s t u → (n c : ℕ) → serving_at u n c ≡ serving_at t n c
served s t u h n c = ap (λ (x : Table). serving_at x n c) h.shape

-- Gone leaves a slot that was Live or Lost so
gone_takes : (x : SlotState) → IsTrue (is_live x) ⊎ IsTrue (is_lost x) → IsTrue (is_live (lost_of x)) ⊎ IsTrue (is_lost (lost_of x))
gone_takes Void h = h
gone_takes (Live d) h = inr refl
gone_takes (Lost d) h = h
gone_takes (Broken d) h = h

-- what the entry of one column changes
record Took (s c : ℕ) (t u : Table) : Type 0 where
  changes : ChangesStripe s t u
  takes : (k : ℕ) → k < width t → TakesBroke t s k → TakesBroke u s k
  others : (k : ℕ) → k ≢ c → k < width t → slot_at u s k ≡ slot_at t s k

took : (s c : ℕ) (t u : Table) (gone : Bool) → c < width t → Replays t (gone_entry gone s c) u → Took s c t u
took s c t u true lc r = record {
  changes = changes_slot s c t u (lost_of (slot_at t s c)) lc r.1;
  takes = λ k lt h. elim (slot_after t s c (lost_of (slot_at t s c)) s k) [
    | inl e ↦ subst (λ x. IsTrue (is_live x) ⊎ IsTrue (is_lost x)) (sym (ap (λ (v : Table). slot_at v s k) r.1 ∙ e)) h
    | inr e ↦ subst (λ x. IsTrue (is_live x) ⊎ IsTrue (is_lost x)) (sym (ap (λ (v : Table). slot_at v s k) r.1 ∙ e.0))
        (gone_takes (slot_at t s c) (subst (λ x. IsTrue (is_live x) ⊎ IsTrue (is_lost x)) e.1 h))
  ];
  others = λ k ne lt. ap (λ (v : Table). slot_at v s k) r.1 ∙ slot_other t s c s k (lost_of (slot_at t s c)) lc lt (λ q. ne q.1);
}
took s c t u false lc r = subst (λ u. Took s c t u) (sym r) record {
  changes = changes_none s t;
  takes = λ k lt h. h;
  others = λ k ne lt. refl;
}

-- THE COLUMNS

pub columns_none : (told : Type 0) (s : ℕ) (t : Table) (before : List Entry) (a : Shelves) → OpensColumns told 0 s t t before before Nothing zero_block zero_block a a
columns_none told s t before a = record {
  read = λ c. None;
  gone = λ c. false;
  failed = λ c. false;
  missing = λ z c lt. absurd (omega arith);
  reads = λ z c b lt. absurd (omega arith);
  lives = λ c b lt. absurd (omega arith);
  finds = record { found = λ c lt. absurd (omega arith); left = λ c lt. absurd (omega arith) };
  short = λ c lt. absurd (omega arith);
  adds = sums_none t.data_columns t.parity (λ c. None);
  log = sym (ap (λ xs. before ++ xs) (entries_begin (λ c. false) (Gone 0 s)) ∙ append-nil before);
  replay = subst (λ xs. Replays t xs t) (sym (entries_begin (λ c. false) (Gone 0 s))) refl;
  few = λ number. subst (λ m. FailedSo a a number m) (sym (count_zero (λ c. false && (serving_at t s c == number)))) (failed_none told a a number (stays_refl told a));
  changes = changes_none s t;
  takes = λ k lt h. h;
  later = λ k le lt. refl;
  stays = stays_refl told a;
}

-- the log grew by an entry a column at most
pub columns_length : (told : Type 0) (n s : ℕ) (t u : Table) (before mid : List Entry) (shortage : Shortage) (first second : List ℕ) (a b : Shelves)
    → OpensColumns told n s t u before mid shortage first second a b → length mid ≤ length before + n
columns_length told n s t u before mid shortage first second a b o =
    let e : length mid ≡ length before + length (entries_where n o.gone (Gone 0 s)) = ap length o.log ∙ length-append before (entries_where n o.gone (Gone 0 s)) in
    let l : length (entries_where n o.gone (Gone 0 s)) ≤ n = entries_length n o.gone (Gone 0 s) in
    omega arith

-- a slot that is sound now was sound before blocks were lost
pub sound_before : (told : Type 0) (t : Table) (s c : ℕ) (a b : Shelves) → ShelvesStay told a b → told → Sound (stripe_of t b.held s) c → Sound (stripe_of t a.held s) c
sound_before told t s c a b h z x = (x.0, record { digest = x.1.digest; live = x.1.live; held = (h.loses z (serving_at t s c)).keeps s x.0 x.1.held; right = x.1.right })

module _ (told : Type 0) (n s : ℕ) (t u v : Table) (before mid now : List Entry) (shortage : Shortage) (first second first' second' : List ℕ) (p : Part) (into : List ℕ) (a b c : Shelves)
    (lt : n < width t) (o : OpensColumns told n s t u before mid shortage first second a b) (x : OpensSlot told s n u v mid now p into b c)
    (first_is : first' ≡ first_by t.data_columns n p first into) (second_is : t.parity ≡ 2 → second' ≡ second_by t.data_columns n p second into) where
  same_width : width u ≡ width t
  same_width = ap width o.changes.shape

  step : Took s n u v
  step = took s n u v x.gone (let e : width u ≡ width t = same_width in omega arith) x.replay

  slot_same : slot_at u s n ≡ slot_at t s n
  slot_same = o.later n (omega arith) lt

  abbrev read' : ℕ → Option (List ℕ)
  read' = with_at n o.read (block_of into p)

  abbrev gone' : ℕ → Bool
  gone' = with_at n o.gone x.gone

  abbrev failed' : ℕ → Bool
  failed' = with_at n o.failed x.failed

  is_here : IsPart (slot_at t s n) into p
  is_here = subst (λ z. IsPart z into p) slot_same x.is

  stays' : ShelvesStay told a c
  stays' = stays_then told a b c o.stays x.stays

  missing' : told → (k : ℕ) → k < suc n → gone' k ≡ true → failed' k ≡ false → Sound (stripe_of t c.held s) k → ⊥
  missing' z k l g f y = elim (last_or k n l) [
    | inl e ↦ x.missing z (sym (at_here n o.gone x.gone) ∙ ap gone' (sym e) ∙ g) (sym (at_here n o.failed x.failed) ∙ ap failed' (sym e) ∙ f)
        (sound_same (stripe_of t c.held s) (stripe_of u c.held s) n slot_same (ap (λ m. c.held m s) (served s t u o.changes s n)) (subst (λ k. Sound (stripe_of t c.held s) k) e y))
    | inr l ↦ o.missing z k l (sym (at_below n o.gone x.gone k l) ∙ g) (sym (at_below n o.failed x.failed k l) ∙ f) (sound_before told t s k b c x.stays z y)
  ]

  reads' : told → (k : ℕ) (d : List ℕ) → k < suc n → read' k ≡ Some d → a.held (serving_at t s k) s ≡ Some d
  reads' z k d l e = elim (last_or k n l) [
    | inl q ↦ subst (λ k. a.held (serving_at t s k) s ≡ Some d) (sym q) (read_last p (λ h. x.reads z h) (sym (at_here n o.read (block_of into p)) ∙ ap read' (sym q) ∙ e))
    | inr l ↦ o.reads z k d l (sym (at_below n o.read (block_of into p) k l) ∙ e)
  ]
    where
      read_last : (p : Part) → (p ≡ part.Present → c.held (serving_at u s n) s ≡ Some into) → block_of into p ≡ Some d → a.held (serving_at t s n) s ≡ Some d
      read_last part.Empty h e = absurd (cc)
      read_last part.Present h e =
          (o.stays.loses z (serving_at t s n)).keeps s d ((x.stays.loses z (serving_at t s n)).keeps s d
          (ap (λ m. c.held m s) (sym (served s t u o.changes s n)) ∙ h refl ∙ e))
      read_last (part.Missing d) h e = absurd (cc)
      read_last part.Broken h e = absurd (cc)

  entries : entries_where (suc n) gone' (Gone 0 s) ≡ entries_where n o.gone (Gone 0 s) ++ gone_entry x.gone s n
  entries = entries_more n o.gone gone' (Gone 0 s) x.gone (at_below n o.gone x.gone) (at_here n o.gone x.gone)

  few' : (number : ℕ) → FailedSo a c number (count (suc n) (λ k. failed' k && (serving_at t s k == number)))
  few' number = subst (λ m. FailedSo a c number m) (sym counted)
      (failed_then told a b c number (count n (λ k. o.failed k && (serving_at t s k == number))) (if x.failed && (serving_at u s n == number) then 1 else 0) x.stays (o.few number) (x.few number))
    where
      counted : count (suc n) (λ k. failed' k && (serving_at t s k == number)) ≡ count n (λ k. o.failed k && (serving_at t s k == number)) + (if x.failed && (serving_at u s n == number) then 1 else 0)
      counted = count_more n (λ k. o.failed k && (serving_at t s k == number)) (λ k. failed' k && (serving_at t s k == number)) (x.failed && (serving_at u s n == number))
          (λ k l. ap (λ b. b && (serving_at t s k == number)) (at_below n o.failed x.failed k l))
          (ap₂ (λ b m. b && (m == number)) (at_here n o.failed x.failed) (sym (served s t u o.changes s n)))

  pub columns_more : OpensColumns told (suc n) s t v before now (short_by shortage n p) first' second' a c
  columns_more = record {
    read = read';
    gone = gone';
    failed = failed';
    missing = missing';
    reads = reads';
    lives = lives_more (λ k. slot_at t s k) n o.read read' (at_below n o.read (block_of into p)) into p is_here (at_here n o.read (block_of into p)) o.lives;
    finds = find_more (λ k. slot_at t s k) n o.read read' (at_below n o.read (block_of into p)) into p is_here (at_here n o.read (block_of into p)) o.gone gone'
        (at_below n o.gone x.gone) (at_here n o.gone x.gone ∙ x.found ∙ ap (λ z. is_live z && is_missing p) slot_same) o.finds;
    short = short_more (λ k. slot_at t s k) n o.read read' (at_below n o.read (block_of into p)) into p is_here (at_here n o.read (block_of into p)) shortage o.short;
    adds = sums_more (λ k. slot_at t s k) n o.read read' (at_below n o.read (block_of into p)) into p is_here (at_here n o.read (block_of into p)) t.data_columns t.parity first second first' second' first_is second_is o.adds;
    log = x.log ∙ ap (λ xs. xs ++ gone_entry x.gone s n) o.log ∙ append_assoc before (entries_where n o.gone (Gone 0 s)) (gone_entry x.gone s n) ∙ ap (λ xs. before ++ xs) (sym entries);
    replay = subst (λ xs. Replays t xs v) (sym entries) (replays_append t (entries_where n o.gone (Gone 0 s)) u (gone_entry x.gone s n) v o.replay x.replay);
    few = few';
    changes = changes_then s t u v o.changes step.changes;
    takes = λ k l h. step.takes k (let e : width u ≡ width t = same_width in omega arith) (o.takes k l h);
    later = λ k le l. step.others k (omega arith) (let e : width u ≡ width t = same_width in omega arith) ∙ o.later k (omega arith) l;
    stays = stays';
  }
