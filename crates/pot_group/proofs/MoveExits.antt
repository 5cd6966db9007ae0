-- The exits of the calls that bring an archive and move a column, over plain data.
use Rattle.std.proofs.Common.{◌≡◌, ◌≢◌, inl, inr, ℕ, ◌+◌, ◌<◌, ◌≤◌, ◌++◌, ◌==◌, ◌||◌, List, [], ◌∷◌, Option, Some, IfSome, IsSomeAnd, Bool, true, false, IsTrue, length, refl, sym, ap, ◌∙◌, subst, arith, nat_lt, if◌then◌else◌}
use Rattle.std.specs.Prelude.{Contains, Ok, Err, nat_eq}
use Rattle.pot_outside.specs.declared.faults.Failed.{Failed}
use Rattle.std.proofs.lemmas.Bool.Decides.{nat_tests}
use Rattle.std.proofs.lemmas.Bool.{cases_eq}
use Rattle.pot_bytes.specs.Rack.{log_bound}
use Rattle.pot_machine.specs.declared.column.Moving.{Moving}
use Rattle.pot_machine.specs.declared.entry.Entry.{Entry}
use Rattle.pot_machine.specs.declared.entry.Entry.TheVariants.{Fault, MoveBegin, Moved, MoveEnd, Swapped}
use Rattle.pot_machine.specs.Column.{names, names_moved, serving, serving_moved}
use Rattle.pot_machine.specs.Slot.{digest_in, is_live}
use Rattle.pot_machine.specs.Table.{width, slot_at, column_at, serving_at}
use Rattle.pot_bytes.specs.Digests.{digest_of}
use Rattle.pot_machine.specs.Machine.{Legal, after, moved_on}
use Rattle.pot_machine.proofs.Columns.{column_same, names_serving}
use Rattle.pot_steps.specs.Stripe.{Sound, IsSound}
use Rattle.pot_steps.specs.Holdings.{stripe_of}
use Rattle.pot_steps.specs.Flights.{Acts, Copies, flights_after}
use Rattle.pot_shelves.specs.Shelves.{Shelves, LosesByCount, WritesAt, put_at}
use Rattle.pot_group.specs.Causes.{Covers, HasLost, Misses, archives_of, faults_in, fault_of, risen}
use Rattle.pot_group.specs.Group.{GroupView, IsSettled}
use Rattle.pot_group.proofs.CauseLemmas.{archives_of-snoc, covers-one, covers-stays}
use Rattle.pot_group.proofs.ColumnExits.{archives-more, move_begins, moves_copied, moves_passed, move_ends, swaps}
use Rattle.pot_shelves.proofs.ShelfLemmas.{keeps_refl, loses_refl, put_at-here, put_at-other}
use Rattle.pot_group.specs.Frames.{FaultInto}
use Rattle.pot_group.specs.Heard.{GivesBlock, blinds_after}
use Rattle.pot_group.proofs.Framing.{frames_still, frames_write}
use Rattle.pot_group.proofs.Settled.{LeavesColumns, settled_act, same_columns, one_fault, gone_lost, no_fault}

-- what is covered by some archives is covered by more
risen-more : (s : Shelves) (xs ys : List ℕ) → risen s xs ≤ risen s (xs ++ ys)
risen-more s [] ys = omega arith
risen-more s (x ∷ xs) ys = let h : risen s xs ≤ risen s (xs ++ ys) = risen-more s xs ys in omega arith

covers-more : (told : Type 0) (g : GroupView) (e : Entry) (s : Shelves) (c : ℕ) → LeavesColumns told g e s → (zs : List ℕ) → archives_of g.first (g.log ++ e ∷ []) c ≡ archives_of g.first g.log c ++ zs
    → Covers s (archives_of g.first g.log c) (faults_in g.first.data_columns c g.log) → Covers s (archives_of g.first (g.log ++ e ∷ []) c) (faults_in g.first.data_columns c g.log + 0)
covers-more told g e s c columns zs eq (inl top) = no_fault s (archives_of g.first (g.log ++ e ∷ []) c) (faults_in g.first.data_columns c g.log) (inl (top.0, columns.archives c top.0 top.1, top.2))
covers-more told g e s c columns zs eq (inr le) = no_fault s (archives_of g.first (g.log ++ e ∷ []) c) (faults_in g.first.data_columns c g.log)
    (inr (subst (λ ns. faults_in g.first.data_columns c g.log ≤ risen s ns) (sym eq) (let h : risen s (archives_of g.first g.log c) ≤ risen s (archives_of g.first g.log c ++ zs) = risen-more s (archives_of g.first g.log c) zs in omega (arith, le, h))))

-- an entry of a column that names no fault, over archives that stay
module _ (told : Type 0) (g : GroupView) (e : Entry) (settled : IsSettled told g) (legal : Legal g.table e) (room : length g.log < log_bound) (columns : LeavesColumns told g e g.shelves) where
  pub column_act : (told → Acts g.table g.flights [] e g.shelves.held g.shelves.held) → ((c : ℕ) → fault_of g.first.data_columns c e ≡ 0)
      → (told → (c : ℕ) → c < width g.first → Misses g.table e c → HasLost g.shelves (archives_of g.first g.log c))
      → (told → GivesBlock g.table g.flights e [])
      → IsSettled told (record g { table = after g.table e; log = g.log ++ e ∷ []; flights = flights_after g.table e [] g.flights; blinds = blinds_after e [] g.blinds })
  column_act acts none missed gives = settled_act told g e [] g.shelves (λ t. g.shelves.held) settled legal room (keeps_refl g.shelves) columns (λ t. loses_refl g.shelves) acts (λ t puts n c b ln lc live q. q)
      (λ c lc. subst (λ n. Covers g.shelves (archives_of g.first (g.log ++ e ∷ []) c) (faults_in g.first.data_columns c g.log + n)) (sym (none c))
      (covers-more told g e g.shelves c columns _ (archives-more g.first g.log c e) (settled.causes.faults c lc)))
      (λ t c lc m. (let h : HasLost g.shelves (archives_of g.first g.log c) = missed t c lc m in (h.0, columns.archives c h.0 h.1, h.2)))
      (λ t. frames_still g.table e g.shelves) (λ t n. refl) gives

module _ (told : Type 0) (g : GroupView) (job c : ℕ) (settled : IsSettled told g) (room : length g.log < log_bound) where
  -- an archive has come, and the column begins to move to it, or has it as its home
  pub move_begin_settled : (to : ℕ) → Legal g.table (MoveBegin job c to) → Contains g.shelves.numbers to
      → IsSettled told (record g { table = after g.table (MoveBegin job c to); log = g.log ++ MoveBegin job c to ∷ [] })
  move_begin_settled to legal has = column_act told g (MoveBegin job c to) settled legal room (move_begins told g g.shelves settled (keeps_refl g.shelves) job c to legal has)
      (λ t n k b ln lk live h. h) (λ k. refl) (λ t k lk m. absurd m) (λ t. tt)

  pub swap_settled : (to : ℕ) → Legal g.table (Swapped job c to) → Contains g.shelves.numbers to
      → IsSettled told (record g { table = after g.table (Swapped job c to); log = g.log ++ Swapped job c to ∷ [] })
  swap_settled to legal has = column_act told g (Swapped job c to) settled legal room (swaps told g g.shelves settled (keeps_refl g.shelves) job c to legal has)
      (λ t n k b ln lk live h. h) (λ k. refl) (λ t k lk m. absurd m) (λ t. tt)

  pub move_end_settled : Legal g.table (MoveEnd job c) → IsSettled told (record g { table = after g.table (MoveEnd job c); log = g.log ++ MoveEnd job c ∷ [] })
  move_end_settled legal = column_act told g (MoveEnd job c) settled legal room (move_ends told g g.shelves settled (keeps_refl g.shelves) job c legal)
      (λ t n k b ln lk live h. h) (λ k. refl) (λ t k lk m. absurd m) (λ t. tt)

  -- a stripe is passed, where the slot has no block of its digest
  pub passed_settled : (s : ℕ) → Legal g.table (Moved job s c false) → (told → Sound (stripe_of g.table g.shelves.held s) c → ⊥)
      → IsSettled told (record g { table = after g.table (Moved job s c false); log = g.log ++ Moved job s c false ∷ [] })
  passed_settled s legal missing = column_act told g (Moved job s c false) settled legal room (moves_passed told g g.shelves settled (keeps_refl g.shelves) job c s legal)
      (λ t n k b ln lk live h. h) (λ k. refl)
      (λ t k lk m. subst (λ x. HasLost g.shelves (archives_of g.first g.log x)) m.1 (gone_lost told g settled t s c legal.1 legal.0.0 m.2 (missing t))) (λ t. tt)

-- A COPY

named_target : (m : Moving) (home : ℕ) → IsTrue (names_moved (Some m) home m.to)
named_target m home = by (home == m.to) (m.to == m.to) (itself m.to)
  where
    itself : (a : ℕ) → (a == a) ≡ true
    itself a = grind (arith, nat_tests)

    by : (a b : Bool) → b ≡ true → a || b ≡ true
    by true b h = refl
    by false b h = h

at_position : (m : Moving) (home s : ℕ) → m.upto ≡ s → serving_moved (Some m) home s ≡ home
at_position m home s e = below s m.upto m.to home e
  where
    below : (s u a b : ℕ) → u ≡ s → (if nat_lt s u then a else b) ≡ b
    below s u a b e = grind (arith, nat_tests)

past_position : (m : Moving) (home s : ℕ) → m.upto ≡ s → serving (moved_on (record { home = home; moving = Some m })) s ≡ m.to
past_position m home s e = below s m.upto m.to home e
  where
    below : (s u a b : ℕ) → u ≡ s → (if nat_lt s (u + 1) then a else b) ≡ a
    below s u a b e = grind (arith, nat_tests)

-- A column that moves and has come to a stripe.
module _ (told : Type 0) (g : GroupView) (s c : ℕ) (m : Moving) (settled : IsSettled told g) (column : c < width g.table)
    (moving : (column_at g.table c).moving ≡ Some m) (position : m.upto ≡ s) where
  in_column : (column_at g.table c) ≡ record { home = (column_at g.table c).home; moving = Some m }
  in_column = ap (λ o. record { home = (column_at g.table c).home; moving = o }) moving

  pub target_named : IsTrue (names (column_at g.table c) m.to)
  target_named = subst (λ o. IsTrue (names_moved o (column_at g.table c).home m.to)) (sym moving) (named_target m (column_at g.table c).home)

  pub target_there : Contains g.shelves.numbers m.to
  target_there = settled.shelves c m.to column target_named

  -- the target serves no slot of this stripe yet
  away : (k : ℕ) → k < width g.table → serving_at g.table s k ≢ m.to
  away k lk e = elim (cases_eq k c) [
    | inl q ↦ (let t : (m.to ≢ (column_at g.table c).home) × (m.upto ≤ g.table.stripes) = subst (λ o. IfSome o (λ m. (m.to ≢ (column_at g.table c).home) × (m.upto ≤ g.table.stripes))) moving (settled.table.columns.target c column) in
        t.0 (sym e ∙ ap (λ j. serving_at g.table s j) q ∙ ap (λ o. serving_moved o (column_at g.table c).home s) moving ∙ at_position m (column_at g.table c).home s position))
    | inr ne ↦ ne (settled.table.columns.distinct k c m.to lk column (subst (λ n. IsTrue (names (column_at g.table k) n)) e (names_serving (column_at g.table k) s)) target_named)
  ]

  pub beside : (left : Option (List ℕ)) (n k : ℕ) → k < width g.table → put_at g.shelves.held m.to s left (serving_at g.table n k) n ≡ g.shelves.held (serving_at g.table n k) n
  beside left n k lk = put_at-other g.shelves.held m.to s left (serving_at g.table n k) n (elim (cases_eq n s) [
    | inl e ↦ inl (λ q. away k lk (ap (λ n. serving_at g.table n k) (sym e) ∙ q))
    | inr ne ↦ inr ne
  ])

  -- a block that is sound has the slot's digest
  fits : {block : List ℕ} → IsSound (stripe_of g.table g.shelves.held s) c block → digest_in (slot_at g.table s c) ≡ Some (digest_of block)
  fits x = ap digest_in x.live ∙ ap Some (sym x.right)

  -- The write to the target failed.
  module _ (now : Shelves) (job : ℕ) (block : List ℕ) (room : length g.log < log_bound) (stripe : s < g.table.stripes) (sound : told → IsSound (stripe_of g.table g.shelves.held s) c block) (e : Failed) (w : WritesAt told m.to s block (Err e) g.shelves now) where
    pub uncopied_settled : IsSettled told (record g { table = after g.table (Fault job s c); log = g.log ++ Fault job s c ∷ []; shelves = now })
    uncopied_settled = settled_act told g (Fault job s c) [] now (λ t. put_at g.shelves.held m.to s (w.wrote t).0) settled (stripe, column) room w.keeps
        (same_columns told g (Fault job s c) now settled w.keeps refl (λ k. refl)) (λ t. (w.wrote t).2)
        (λ t n k b ln lk live h. sym (beside (w.wrote t).0 n k lk) ∙ h)
        (λ t none n k b ln lk live h. beside (w.wrote t).0 n k lk ∙ h)
        (λ k lk. subst (λ ns. Covers now ns (faults_in g.first.data_columns k g.log + (if nat_eq k c then 1 else 0))) (sym (archives_of-snoc g.first g.log k (Fault job s c) refl))
        (one_fault now (archives_of g.first g.log) (λ k. faults_in g.first.data_columns k g.log) c k
        (covers-stays g.shelves now (archives_of g.first g.log k) (faults_in g.first.data_columns k g.log) w.keeps.later w.keeps.faults_taken (settled.causes.faults k lk))
        (covers-one g.shelves now (archives_of g.first g.log c) (faults_in g.first.data_columns c g.log) m.to w.keeps.later w.keeps.faults_taken
        (settled.causes.faults c (omega (arith, column, settled.sizes.0, settled.sizes.1))) (settled.serves c m.to column target_named) (settled.faults m.to) (w.cause refl))))
        (λ t k lk x. absurd x)
        (λ t. frames_write told g.table (Fault job s c) m.to s block (Err e) g.shelves now t w
        (refl, into t, inr (fits (sound t))) (w.wrote t).0 false (λ _. (refl, into t)) (w.wrote t).1) w.heard (λ t. tt)
      where
        into : told → FaultInto g.table s c m.to
        into t = inr (ap is_live (sound t).live, subst (λ o. IsSomeAnd o (λ x. (x.upto ≡ s) × (m.to ≡ x.to))) (sym moving) (position, refl))

  -- The block that the home held was written to the target.
  module _ (now : Shelves) (job : ℕ) (block : List ℕ) (room : length g.log < log_bound)
      (legal : Legal g.table (Moved job s c true)) (sound : told → IsSound (stripe_of g.table g.shelves.held s) c block) (w : WritesAt told m.to s block (Ok (tt)) g.shelves now) where
    served_now : serving_at (after g.table (Moved job s c true)) s c ≡ m.to
    served_now = ap (λ x. serving x s) (column_same g.table c _ settled.table.size.columns column) ∙ ap (λ x. serving (moved_on x) s) in_column ∙ past_position m (column_at g.table c).home s position

    pub copies : told → Copies g.table (after g.table (Moved job s c true)) g.shelves.held (put_at g.shelves.held m.to s (Some block)) s c
    copies t = record {
      block = block;
      sound = sound t;
      written = ap (λ a. put_at g.shelves.held m.to s (Some block) a s) served_now ∙ put_at-here g.shelves.held m.to s (Some block);
      others = λ n k ln lk apart. beside (Some block) n k lk;
    }

    pub copied_settled : IsSettled told (record g { table = after g.table (Moved job s c true); log = g.log ++ Moved job s c true ∷ []; shelves = now })
    copied_settled = settled_act told g (Moved job s c true) [] now (λ t. put_at g.shelves.held m.to s (Some block)) settled legal room w.keeps columns
        (λ t. subst (λ left. LosesByCount (put_at g.shelves.held m.to s left) g.shelves now) ((w.wrote t).1) (w.wrote t).2) copies
        (λ t none n k b ln lk live h. beside (Some block) n k lk ∙ h)
        (λ k lk. covers-more told g (Moved job s c true) now k columns _ (archives-more g.first g.log k (Moved job s c true))
        (covers-stays g.shelves now (archives_of g.first g.log k) (faults_in g.first.data_columns k g.log) w.keeps.later w.keeps.faults_taken (settled.causes.faults k lk)))
        (λ t k lk x. absurd (clash x.0))
        (λ t. frames_write told g.table (Moved job s c true) m.to s block (Ok (tt)) g.shelves now t w
        (refl, refl, subst (λ o. IsSomeAnd o (λ x. m.to ≡ x.to)) (sym moving) refl, fits (sound t)) (Some block) true (λ e. absurd (clash e)) refl) w.heard (λ t. tt)
      where
        columns : LeavesColumns told g (Moved job s c true) now
        columns = moves_copied told g now settled w.keeps job c s legal

        clash : true ≡ false → ⊥
        clash e = cc
