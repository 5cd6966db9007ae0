-- The writes of a put and its entry keep what a group keeps.
use Rattle.std.proofs.Common.{◌≡◌, ◌≢◌, inl, inr, ℕ, ◌+◌, ◌<◌, ◌++◌, List, [], ◌∷◌, Option, Some, Bool, true, false, IsTrue, Err, length, refl, sym, ap, ◌∙◌, subst, arith}
use Rattle.std.specs.Prelude.{nat_eq, nat_le, not, ◌&&◌, if◌then◌else◌}
use Rattle.std.proofs.lemmas.Bool.Decides.{nat_tests}
use Rattle.std.proofs.lemmas.Bool.{cases_eq}
use Rattle.pot_bytes.specs.declared.rack.Place.{Place}
use Rattle.pot_bytes.specs.Lists.{IsBlock}
use Rattle.pot_bytes.specs.Sums.{xor}
use Rattle.pot_bytes.specs.Weighted.{scaled}
use Rattle.pot_bytes.specs.Rack.{log_bound}
use Rattle.pot_gf.specs.Field.{power}
use Rattle.pot_outside.specs.declared.faults.Failed.{Failed}
use Rattle.pot_machine.specs.declared.cursor.Cursor.{Cursor}
use Rattle.pot_machine.specs.declared.entry.Entry.{Entry}
use Rattle.pot_machine.specs.declared.entry.Entry.TheVariants.{Put, Put2, Fault}
use Rattle.pot_machine.specs.declared.slot.SlotState.TheVariants.{Void}
use Rattle.pot_machine.specs.Slot.{is_live, is_void}
use Rattle.pot_machine.specs.Table.{Table, width, slot_at, serving_at}
use Rattle.pot_machine.specs.Machine.{AtCursor, TakesBlocks, Legal, after}
use Rattle.pot_machine.proofs.Columns.{serving_apart}
use Rattle.pot_bytes.specs.Digests.{digest_of}
use Rattle.pot_steps.specs.Holdings.{Holdings}
use Rattle.pot_steps.specs.Entries.{WritesStripe, held_at}
use Rattle.pot_steps.specs.GroupStep.{put_entry}
use Rattle.pot_steps.proofs.Entries.{is_void_at}
use Rattle.pot_steps.proofs.Group.{live_void}
use Rattle.pot_steps.proofs.AheadLemmas.{one_or_two}
use Rattle.pot_shelves.specs.Shelves.{Shelves, WritesAt, put_at, WriteLeaves}
use Rattle.pot_group.specs.Arrivals.{arrival}
use Rattle.pot_group.specs.Causes.{Covers, archives_of, faults_in}
use Rattle.pot_group.specs.Group.{GroupView, IsSettled, FailedAt, CoversOne}
use Rattle.pot_group.proofs.Framing.{Frames, frames_write, placed_more, tried_front, tried_last}
use Rattle.pot_group.specs.Frames.{FaultInto, MayFail, MayWrite, Tries}
use Rattle.pot_group.specs.Putting.{HasOld, IsNotKept, IsPut, PutsAt, WritesAll, PutsAll, PutsNone, BlockMeans, made_entry, answered}
use Rattle.pot_group.specs.declared.answers.PutFault.TheVariants as fault
use Rattle.pot_shelves.proofs.ShelfLemmas.{put_at-other, left_new}
use Rattle.pot_group.proofs.CauseLemmas.{covers-stays}
use Rattle.pot_group.proofs.Reading.{covers_rise}
use Rattle.pot_group.proofs.Settled.{settled_entry, settled_trying, one_fault, no_fault}

le_self : (c : ℕ) → nat_le c c ≡ true
le_self c = grind (arith, nat_tests)

-- the group with this entry logged, and with what its archives are then
abbrev pub entered_with : GroupView → Entry → Shelves → GroupView
entered_with g e now = record g { table = after g.table e; log = g.log ++ e ∷ []; shelves = now }

-- and with the block of a put kept
abbrev pub tried_with : GroupView → Entry → List ℕ → Shelves → GroupView
tried_with g e block now = record (entered_with g e now) { tried = g.tried ++ (length g.log, block) ∷ [] }

module _ (told : Type 0) (g : GroupView) (job s c : ℕ) (block : List ℕ) (settled : IsSettled told g) (cursor : AtCursor g.table s)
    (column : c ≡ g.table.cursor.column) (takes : TakesBlocks g.table s) (room : length g.log < log_bound) where
  low : c < g.table.data_columns
  low = (let l : g.table.cursor.column < g.table.data_columns = settled.table.cursor.column in omega arith)

  data_wide : c < width g.table
  data_wide = (let l : c < g.table.data_columns = low in omega arith)

  -- THE BLOCK WAS NOT WRITTEN

  void : slot_at g.table s c ≡ Void
  void = is_void_at (slot_at g.table s c) (subst (λ n. IsTrue (is_void (slot_at g.table n c))) (sym cursor.0)
      (settled.table.voids.cursor c (omega (arith, cursor.0, cursor.1)) low ∙ subst (λ n. nat_le n c ≡ true) column (le_self c)))

  -- a write at the Void place changes no other
  untouched : (left : Option (List ℕ)) (n k : ℕ) → k < width g.table → slot_at g.table n k ≢ Void → put_at g.shelves.held (serving_at g.table s c) s left (serving_at g.table n k) n ≡ g.shelves.held (serving_at g.table n k) n
  untouched left n k lk nv = put_at-other g.shelves.held (serving_at g.table s c) s left (serving_at g.table n k) n (elim (cases_eq n s) [
    | inl e ↦ inl (subst (λ n. serving_at g.table n k ≢ serving_at g.table s c) (sym e)
        (serving_apart g.table s k c settled.table.columns lk data_wide (λ q. nv (subst (λ n. slot_at g.table n k ≡ Void) (sym e) (subst (λ k. slot_at g.table s k ≡ Void) (sym q) void)))))
    | inr e ↦ inr e
  ])

  fault_legal : Legal g.table (Fault job s c)
  fault_legal = (cursor.1, data_wide)

  module _ (now : Shelves) (e : Failed) (w : WritesAt told (serving_at g.table s c) s block (Err e) g.shelves now) where
    rose : FailedAt g (tried_with g (Fault job s c) block now) s c
    rose = w.cause refl

    pub none_settled : IsSettled told (tried_with g (Fault job s c) block now)
    none_settled = settled_trying told g (g.tried ++ (length g.log, block) ∷ []) (Fault job s c) now (λ t. put_at g.shelves.held (serving_at g.table s c) s (w.wrote t).0)
        (tried_front g.tried ((length g.log, block) ∷ [])) (placed_more g.tried (length g.log) block settled.tried) settled
        (record { flights = (λ fs. refl); blinds = (λ bs. refl); data_columns = refl; parity = refl; stripes = refl; columns = refl; none_brought = (λ c. refl) })
        fault_legal room w.keeps (λ t. (w.wrote t).2)
        (λ t n k b ln lk live h. sym (untouched (w.wrote t).0 n k lk (live_void (slot_at g.table n k) live)) ∙ h)
        (λ t none n k b ln lk live h. untouched (w.wrote t).0 n k lk (live_void (slot_at g.table n k) live) ∙ h)
        (λ k lk. one_fault now (archives_of g.first g.log) (λ k. faults_in g.first.data_columns k g.log) c k
        (covers-stays g.shelves now (archives_of g.first g.log k) (faults_in g.first.data_columns k g.log) w.keeps.later w.keeps.faults_taken (settled.causes.faults k lk))
        (covers_rise told g now s c settled data_wide w.keeps rose))
        (λ t k lk m. absurd m)
        (λ t. frames_write told g.table (Fault job s c) (serving_at g.table s c) s block (Err e) g.shelves now t w (refl, into, inl (void, tried_last g.tried (length g.log) block settled.tried.below)) (w.wrote t).0 false (λ _. (refl, into)) (w.wrote t).1) w.heard (λ t. tt)
      where
        into : FaultInto g.table s c (serving_at g.table s c)
        into = inl (ap is_live void, refl)

    pub none_put : PutsNone told job s c block g (tried_with g (Fault job s c) block now)
    none_put = record {
      logs = record { number = refl; first = refl; log = refl; flights = refl; blinds = refl; tried = refl; replay = (fault_legal, refl) };
      tried = refl;
      holds = w.wrote;
      keeps = w.keeps;
      heard = w.heard;
      fails = rose;
    }

  -- THE BLOCK WAS WRITTEN

  module _ (p q new_p new_q : List ℕ) (kept kept2 : Bool) (now : Shelves) (is_block : IsBlock block) (old : HasOld told g.table g.shelves.held s p q) (is_p : new_p ≡ xor p block)
      (is_q : g.table.parity ≡ 2 → new_q ≡ xor q (scaled (power 3 c) block)) (w : WritesAll told g.table s c block new_p new_q kept kept2 g.shelves now) where
    -- what is to be held then
    abbrev ideal : told → Holdings
    ideal t = (w.wrote t).0

    puts : (t : told) → PutsAt g.table g.shelves.held (ideal t) s c block new_p new_q kept kept2
    puts t = (w.wrote t).1

    first_new : (t : told) → kept ≡ true → held_at g.table (ideal t) s g.table.data_columns ≡ Some (xor p block)
    first_new t e = left_new kept _ _ new_p (puts t).first e ∙ ap Some is_p

    writes_one : (t : told) → g.table.parity ≡ 1 → WritesStripe g.table g.shelves.held (ideal t) s c block p p kept kept
    writes_one t one = record {
      is_block = is_block;
      old_p = old.first t;
      old_q = (λ two. absurd (omega (arith, one, two)));
      data_block = (puts t).data_block;
      new_p = first_new t;
      new_q = (λ two. absurd (omega (arith, one, two)));
      others = (puts t).others;
    }

    writes_two : (t : told) → g.table.parity ≡ 2 → WritesStripe g.table g.shelves.held (ideal t) s c block p q kept kept2
    writes_two t two = record {
      is_block = is_block;
      old_p = old.first t;
      old_q = old.second t;
      data_block = (puts t).data_block;
      new_p = first_new t;
      new_q = (λ _ e. left_new kept2 _ _ new_q ((puts t).second two) e ∙ ap Some (is_q two));
      others = (puts t).others;
    }

    -- FAULTS

    first_wide : g.table.data_columns < width g.table
    first_wide = omega (arith, settled.table.size.parity.0)

    covers_first : kept ≡ false → CoversOne (record g { shelves = now }) g.table.data_columns
    covers_first e = covers_rise told g now s g.table.data_columns settled first_wide w.keeps (w.first e)

    covers_second : kept2 ≡ false → CoversOne (record g { shelves = now }) (g.table.data_columns + 1)
    covers_second e = covers_rise told g now s (g.table.data_columns + 1) settled (omega (arith, (w.second e).0)) w.keeps (w.second e).1

    covered : (k : ℕ) → k < width g.first → Covers now (archives_of g.first g.log k) (faults_in g.first.data_columns k g.log)
    covered k lk = covers-stays g.shelves now (archives_of g.first g.log k) (faults_in g.first.data_columns k g.log) w.keeps.later w.keeps.faults_taken (settled.causes.faults k lk)

    abbrev Named : ℕ → ℕ → Type 0
    Named k n = Covers now (archives_of g.first g.log k) (faults_in g.first.data_columns k g.log + n)

    at_column : (k j : ℕ) → k < width g.first → CoversOne (record g { shelves = now }) j → Named k (if nat_eq k j then 1 else 0)
    at_column k j lk one = one_fault now (archives_of g.first g.log) (λ k. faults_in g.first.data_columns k g.log) j k (covered k lk) one

    and_not : (b kept : Bool) → (b && not kept) ≡ (if kept then false else b)
    and_not true true = refl
    and_not true false = refl
    and_not false true = refl
    and_not false false = refl

    names_one : (kept : Bool) → (kept ≡ false → CoversOne (record g { shelves = now }) g.first.data_columns) → (k : ℕ) → k < width g.first
        → Named k (if nat_eq k g.first.data_columns && not kept then 1 else 0)
    names_one true one k lk = rw (and_not (nat_eq k g.first.data_columns) true) (no_fault now (archives_of g.first g.log k) (faults_in g.first.data_columns k g.log) (covered k lk))
    names_one false one k lk = rw (and_not (nat_eq k g.first.data_columns) false) (at_column k g.first.data_columns lk (one refl))

    names_two : (kept kept2 : Bool) → (kept ≡ false → CoversOne (record g { shelves = now }) g.first.data_columns) → (kept2 ≡ false → CoversOne (record g { shelves = now }) (g.first.data_columns + 1)) → (k : ℕ) → k < width g.first
        → Named k (if nat_eq k g.first.data_columns && not kept then 1 else (if nat_eq k (g.first.data_columns + 1) && not kept2 then 1 else 0))
    names_two true true one two k lk =
        rw (and_not (nat_eq k g.first.data_columns) true, and_not (nat_eq k (g.first.data_columns + 1)) true) (no_fault now (archives_of g.first g.log k) (faults_in g.first.data_columns k g.log) (covered k lk))
    names_two true false one two k lk =
        rw (and_not (nat_eq k g.first.data_columns) true, and_not (nat_eq k (g.first.data_columns + 1)) false) (at_column k (g.first.data_columns + 1) lk (two refl))
    names_two false true one two k lk =
        rw (and_not (nat_eq k g.first.data_columns) false, and_not (nat_eq k (g.first.data_columns + 1)) true) (at_column k g.first.data_columns lk (one refl))
    names_two false false one two k lk =
        rw (and_not (nat_eq k g.first.data_columns) false, and_not (nat_eq k (g.first.data_columns + 1)) false)
        (either (nat_eq k g.first.data_columns) refl)
      where
        either : (b : Bool) → nat_eq k g.first.data_columns ≡ b → Named k (if b then 1 else (if nat_eq k (g.first.data_columns + 1) then 1 else 0))
        either true e = subst (λ b. Named k (if b then 1 else 0)) e (at_column k g.first.data_columns lk (one refl))
        either false e = at_column k (g.first.data_columns + 1) lk (two refl)

    in_first : {n : ℕ} (d : ℕ) → d ≡ n → CoversOne (record g { shelves = now }) d → CoversOne (record g { shelves = now }) n
    in_first d e x = subst (λ n. CoversOne (record g { shelves = now }) n) e x

    -- THE ENTRY

    abbrev one_put : Entry
    one_put = Put job s c (digest_of block) (digest_of (xor p block)) kept

    abbrev two_puts : Entry
    two_puts = Put2 job s c (digest_of block) (digest_of (xor p block)) (digest_of (xor q (scaled (power 3 c) block))) kept kept2

    -- what the entry may have written
    frames_put : (e : Entry) → ((n : ℕ) (x : List ℕ) → IsPut g.table s c block new_p new_q n x → MayWrite g.tried (length g.log) g.table e n s x) → ((n : ℕ) → IsNotKept g.table s kept kept2 n → MayFail g.table e n s) → (t : told) → Frames g.tried (length g.log) g.table e g.shelves (ideal t) now
    frames_put e may fails t = record {
      held = λ n m x h. elim ((puts t).frame n m x h) [ inl y ↦ inl y | inr y ↦ inr (subst (λ m. MayWrite g.tried (length g.log) g.table e n m x) (sym y.0) (may n x y.1)) ];
      history = λ n x h. elim (w.remembers t n x h) [ inl y ↦ inl y | inr y ↦ inr (s, may n x y) ];
      full = λ n m x h. elim ((puts t).full n m x h) [ inl y ↦ inl y | inr y ↦ inr (subst (λ m. MayFail g.table e n m) (sym y.0) (fails n y.1)) ];
    }

    may_one : g.table.parity ≡ 1 → (n : ℕ) (x : List ℕ) → IsPut g.table s c block new_p new_q n x → MayWrite g.tried (length g.log) g.table one_put n s x
    may_one one n x (inl y) = (refl, inl (y.0, ap digest_of y.1))
    may_one one n x (inr (inl y)) = (refl, inr (y.0, ap digest_of (y.1 ∙ is_p)))
    may_one one n x (inr (inr y)) = absurd (omega (arith, one, y.0))

    may_two : (n : ℕ) (x : List ℕ) → IsPut g.table s c block new_p new_q n x → MayWrite g.tried (length g.log) g.table two_puts n s x
    may_two n x (inl y) = (refl, inl (y.0, ap digest_of y.1))
    may_two n x (inr (inl y)) = (refl, inr (inl (y.0, ap digest_of (y.1 ∙ is_p))))
    may_two n x (inr (inr y)) = (refl, inr (inr (y.1, ap digest_of (y.2 ∙ is_q y.0))))

    fails_one : g.table.parity ≡ 1 → (n : ℕ) → IsNotKept g.table s kept kept2 n → MayFail g.table one_put n s
    fails_one one n (inl y) = (refl, y.0, y.1)
    fails_one one n (inr y) = absurd (omega (arith, one, y.0))

    fails_two : (n : ℕ) → IsNotKept g.table s kept kept2 n → MayFail g.table two_puts n s
    fails_two n (inl y) = (refl, inl y)
    fails_two n (inr y) = (refl, inr (y.1, y.2))

    one_settled : g.table.parity ≡ 1 → IsSettled told (entered_with g one_put now)
    one_settled one = settled_entry told g one_put now ideal settled
        (record { flights = (λ fs. refl); blinds = (λ bs. refl); data_columns = refl; parity = refl; stripes = refl; columns = refl; none_brought = (λ c. refl) })
        (one, (cursor, column, takes)) room w.keeps (λ t. (w.wrote t).2)
        (λ t. (block, p, refl, refl, writes_one t one))
        (λ t none. absurd (none s refl))
        (names_one kept (λ e. in_first g.table.data_columns settled.sizes.0 (covers_first e)))
        (λ t k lk m. absurd m)
        (frames_put one_put (may_one one) (fails_one one)) w.heard (λ t. tt)

    two_settled : g.table.parity ≡ 2 → IsSettled told (entered_with g two_puts now)
    two_settled two = settled_entry told g two_puts now ideal settled
        (record { flights = (λ fs. refl); blinds = (λ bs. refl); data_columns = refl; parity = refl; stripes = refl; columns = refl; none_brought = (λ c. refl) })
        (two, (cursor, column, takes)) room w.keeps (λ t. (w.wrote t).2)
        (λ t. (block, p, q, refl, refl, refl, writes_two t two))
        (λ t none. absurd (none s refl))
        (names_two kept kept2 (λ e. in_first g.table.data_columns settled.sizes.0 (covers_first e))
        (λ e. in_first (g.table.data_columns + 1) (ap (λ n. n + 1) settled.sizes.0) (covers_second e)))
        (λ t k lk m. absurd m)
        (frames_put two_puts may_two fails_two) w.heard (λ t. tt)

    -- the entry by the number of parity columns
    abbrev put_of : ℕ → Entry
    put_of n = put_entry n job s c block p q kept kept2

    pub all_settled : IsSettled told (entered_with g (put_of g.table.parity) now)
    all_settled = elim (one_or_two g.table.parity settled.table.size.parity.0 settled.table.size.parity.1) [
      | inl one ↦ subst (λ n. IsSettled told (entered_with g (put_of n) now)) (sym one) (one_settled one)
      | inr two ↦ subst (λ n. IsSettled told (entered_with g (put_of n) now)) (sym two) (two_settled two)
    ]

    put_legal : Legal g.table (put_of g.table.parity)
    put_legal = elim (one_or_two g.table.parity settled.table.size.parity.0 settled.table.size.parity.1) [
      | inl one ↦ subst (λ n. Legal g.table (put_of n)) (sym one) (one, (cursor, column, takes))
      | inr two ↦ subst (λ n. Legal g.table (put_of n)) (sym two) (two, (cursor, column, takes))
    ]

    old_put : (n : ℕ) (x : List ℕ) → IsPut g.table s c block new_p new_q n x → IsPut g.table s c block (xor p block) (xor q (scaled (power 3 c) block)) n x
    old_put n x (inl y) = inl y
    old_put n x (inr (inl y)) = inr (inl (y.0, y.1 ∙ is_p))
    old_put n x (inr (inr y)) = inr (inr (y.0, y.1, y.2 ∙ is_q y.0))

    -- the new parity blocks by the old ones
    by_old : WritesAll told g.table s c block (xor p block) (xor q (scaled (power 3 c) block)) kept kept2 g.shelves now
    by_old = record {
      keeps = w.keeps;
      heard = w.heard;
      wrote = (λ t. (
        ideal t,
        record {
          data_block = (puts t).data_block;
          first = subst (λ x. WriteLeaves kept (held_at g.table g.shelves.held s g.table.data_columns) x (held_at g.table (ideal t) s g.table.data_columns)) is_p (puts t).first;
          second = (λ two. subst (λ x. WriteLeaves kept2 (held_at g.table g.shelves.held s (g.table.data_columns + 1)) x (held_at g.table (ideal t) s (g.table.data_columns + 1))) (is_q two) ((puts t).second two));
          others = (puts t).others;
          elsewhere = (puts t).elsewhere;
          frame = (λ n m x h. elim ((puts t).frame n m x h) [ inl y ↦ inl y | inr y ↦ inr (y.0, old_put n x y.1) ]);
          full = (puts t).full;
        },
        (w.wrote t).2,
      ));
      remembers = (λ t n x h. elim (w.remembers t n x h) [ inl y ↦ inl y | inr y ↦ inr (old_put n x y) ]);
      first = w.first;
      second = w.second;
    }

    pub all_put : PutsAll told job s c block p q kept kept2 g (entered_with g (put_of g.table.parity) now)
    all_put = record {
      is_block = is_block;
      logs = record { number = refl; first = refl; log = refl; flights = refl; blinds = refl; tried = refl; replay = (put_legal, refl) };
      writes = by_old;
    }

    -- the entry as it was made of the new parity blocks
    pub entry_is : made_entry g.table.parity job s c block new_p new_q kept kept2 ≡ put_of g.table.parity
    entry_is = elim (one_or_two g.table.parity settled.table.size.parity.0 settled.table.size.parity.1) [
      | inl one ↦ subst (λ n. made_entry n job s c block new_p new_q kept kept2 ≡ put_of n) (sym one) (ap (λ x. Put job s c (digest_of block) (digest_of x) kept) is_p)
      | inr two ↦ subst (λ n. made_entry n job s c block new_p new_q kept kept2 ≡ put_of n) (sym two)
          (ap (λ x. Put2 job s c (digest_of block) (digest_of x) (digest_of new_q) kept kept2) is_p ∙ ap (λ x. Put2 job s c (digest_of block) (digest_of (xor p block)) (digest_of x) kept kept2) (is_q two))
    ]

-- the entry of a put brings no archive
pub put_brings : (e : Entry) (parity job s c : ℕ) (block p q : List ℕ) (kept kept2 : Bool) → e ≡ made_entry parity job s c block p q kept kept2 → arrival e ≡ []
put_brings e parity job s c block p q kept kept2 is = ap arrival is ∙ either (nat_eq parity 1)
  where
    either : (one : Bool) → arrival (if one then Put job s c (digest_of block) (digest_of p) kept else Put2 job s c (digest_of block) (digest_of p) (digest_of q) kept kept2) ≡ []
    either true = refl
    either false = refl

-- THE EXITS OF A PUT'S WRITES

-- what the writes of a put begin with
abbrev pub CanPut : Type 0 → List ℕ → List ℕ → GroupView → Type 0
CanPut told p q g =
    AtCursor g.table g.table.cursor.stripe × TakesBlocks g.table g.table.cursor.stripe × (length g.log < log_bound) × HasOld told g.table g.shelves.held g.table.cursor.stripe p q

-- the group with this entry logged
abbrev pub logged : GroupView → Table → List Entry → Shelves → GroupView
logged g u log now = record g { table = u; log = log; shelves = now }

module _ (told : Type 0) (g : GroupView) (job : ℕ) (block p q : List ℕ) (x : Cursor) (now : Shelves) (u : Table) (log : List Entry) (settled : IsSettled told g) (can : CanPut told p q g) (is : x ≡ g.table.cursor) where
  pub none_exit : (at : ℕ) (tried : Tries) → at ≡ length g.log → tried ≡ g.tried ++ (at, block) ∷ [] → (e : Failed) × WritesAt told (serving_at g.table g.table.cursor.stripe g.table.cursor.column) g.table.cursor.stripe block (Err e) g.shelves now
      → u ≡ g.table → log ≡ g.log ++ Fault job x.stripe x.column ∷ []
      → IsSettled told (record (logged g u log now) { tried = tried }) × BlockMeans told job block p q (Err (fault.Faulted x.column)) g (record (logged g u log now) { tried = tried })
  none_exit at tried is_at is_tried w is_u is_log =
      rw (is_u, is_log, is, is_tried, is_at) (
        none_settled told g job g.table.cursor.stripe g.table.cursor.column block settled can.0 refl can.1 can.2 now w.0 w.1,
        inl (none_put told g job g.table.cursor.stripe g.table.cursor.column block settled can.0 refl can.1 can.2 now w.0 w.1, refl),
      )

  -- the answer by what was kept
  answers : (place : Place) (last : ℕ) (kept kept2 : Bool) (new : GroupView) → place.group ≡ g.number → place.stripe ≡ g.table.cursor.stripe → place.column ≡ g.table.cursor.column → last ≡ g.table.data_columns
      → PutsAll told job g.table.cursor.stripe g.table.cursor.column block p q kept kept2 g new → BlockMeans told job block p q (answered place last kept kept2) g new
  answers place last true true new group stripe column is_last puts =
      (group, stripe, column, subst (λ n. PutsAll told job n place.column block p q true true g new) (sym stripe) (subst (λ n. PutsAll told job g.table.cursor.stripe n block p q true true g new) (sym column) puts))
  answers place last true false new group stripe column is_last puts = inr (true, false, puts, inr refl, ap (λ n. n + 1) is_last)
  answers place last false kept2 new group stripe column is_last puts = inr (false, kept2, puts, inl refl, is_last)

  abbrev s : ℕ
  s = g.table.cursor.stripe

  abbrev c : ℕ
  c = g.table.cursor.column

  pub all_exit : (new_p new_q : List ℕ) (kept kept2 : Bool) (place : Place) (last columns : ℕ) → IsBlock block → new_p ≡ xor p block → (columns ≡ 2 → new_q ≡ xor q (scaled (power 3 x.column) block))
      → WritesAll told g.table g.table.cursor.stripe g.table.cursor.column block new_p new_q kept kept2 g.shelves now
      → place ≡ record { group = g.number; column = x.column; stripe = x.stripe } → last ≡ g.table.data_columns → columns ≡ g.table.parity
      → u ≡ after g.table (made_entry columns job x.stripe x.column block new_p new_q kept kept2) → log ≡ g.log ++ made_entry columns job x.stripe x.column block new_p new_q kept kept2 ∷ []
      → IsSettled told (logged g u log now) × BlockMeans told job block p q (answered place last kept kept2) g (logged g u log now)
  all_exit new_p new_q kept kept2 place last columns is_block is_p is_q w is_place is_last is_columns is_u is_log =
      rw (is_u ∙ ap (after g.table) made, is_log ∙ ap (λ e. g.log ++ e ∷ []) made) (
        all_settled told g job s c block settled can.0 refl can.1 can.2 p q new_p new_q kept kept2 now is_block can.3 is_p q_is w,
        answers place last kept kept2 (entered_with g (put_entry g.table.parity job s c block p q kept kept2) now) (ap (λ k. k.group) is_place)
            (ap (λ k. k.stripe) is_place ∙ ap (λ k. k.stripe) is) (ap (λ k. k.column) is_place ∙ ap (λ k. k.column) is) is_last
            (all_put told g job s c block settled can.0 refl can.1 can.2 p q new_p new_q kept kept2 now is_block can.3 is_p q_is w),
      )
    where
      q_is : g.table.parity ≡ 2 → new_q ≡ xor q (scaled (power 3 c) block)
      q_is two = is_q (is_columns ∙ two) ∙ ap (λ (k : Cursor). xor q (scaled (power 3 k.column) block)) is

      made : made_entry columns job x.stripe x.column block new_p new_q kept kept2 ≡ put_entry g.table.parity job s c block p q kept kept2
      made = ap (λ (k : Cursor). made_entry columns job k.stripe k.column block new_p new_q kept kept2) is ∙ ap (λ n. made_entry n job s c block new_p new_q kept kept2) is_columns
          ∙ entry_is told g job s c block settled can.0 refl can.1 can.2 p q new_p new_q kept kept2 now is_block can.3 is_p q_is w
