-- What becomes of a block in a data slot, whatever its column does later.
use Rattle.std.proofs.Common.{◌≡◌, ◌≢◌, ◌⊎◌, inl, inr, ℕ, suc, ◌+◌, ◌<◌, ◌≤◌, ◌==◌, ◌||◌, List, [], ◌∷◌, Option, Some, None, IfSome, IsSomeAnd, Bool, true, false, IsTrue, length, refl, sym, ap, ap₂, ◌∙◌, subst, arith, nat_lt, if◌then◌else◌}
use Rattle.std.specs.Prelude.{Contains, nat_le, slice_index_or}
use Rattle.std.proofs.lemmas.Bool.Decides.{nat_tests}
use Rattle.std.proofs.lemmas.Bool.{cases_eq, cases_lt, eqb-true, or_cases}
use Rattle.std.proofs.lemmas.Option.{same_Some}
use Rattle.std.proofs.lemmas.List.Elements.{Contains-append_left, Contains-append_right}
use Rattle.pot_bytes.specs.declared.digest.Digest.{Digest}
use Rattle.pot_machine.specs.declared.column.Column.{Column}
use Rattle.pot_machine.specs.declared.column.Moving.{Moving}
use Rattle.pot_machine.specs.declared.slot.SlotState.{SlotState}
use Rattle.pot_machine.specs.declared.slot.SlotState.TheVariants.{Void, Live, Lost, Broken}
use Rattle.pot_machine.specs.declared.entry.Entry.{Entry}
use Rattle.pot_machine.specs.declared.entry.Entry.TheVariants.{Put, Put2, Mended, Moved, MoveBegin, MoveEnd, Swapped, Fault}
use Rattle.pot_machine.specs.Slot.{digest_in, is_live, is_unsound, is_void}
use Rattle.pot_machine.specs.Column.{names, names_moved, serving_moved}
use Rattle.pot_machine.specs.Table.{Table, width, slot_at, column_at, serving_at, no_column}
use Rattle.pot_machine.specs.Machine.{Legal, TakesPut, after, moved_home, moved_on, with_column, with_loss, with_losses}
use Rattle.pot_machine.specs.Rules.{IsTable}
use Rattle.pot_bytes.specs.Digests.{digest_of}
use Rattle.pot_machine.proofs.Columns.{column_other, column_same, moved_home_names, names_serving}
use Rattle.pot_machine.proofs.Filled.{not_void}
use Rattle.pot_machine.proofs.Kept.{after_keeps, losses_keep}
use Rattle.pot_machine.proofs.LeftAlone.{columns-with_losses, data_stays, put_column, sizes_stay}
use Rattle.pot_group.specs.Arrivals.{arrival, arrivals}
use Rattle.pot_group.specs.Frames.{HasDigestOf, MayFail, MayWrite, Tries}
use Rattle.pot_group.specs.Remaining.{BlocksRemain, HasServed, IsMendFault, KeepsServed, ServedIsKept, ServingHasServed}

-- WHO SERVES

at_home : (m : Moving) (home s : ℕ) → m.upto ≤ s → serving_moved (Some m) home s ≡ home
at_home m home s l = below s m.upto m.to home l
  where
    below : (s u a b : ℕ) → u ≤ s → (if nat_lt s u then a else b) ≡ b
    below s u a b l = grind (arith, nat_tests)

pub serving_has : ServingHasServed
serving_has t s c d table lc digest = record {
  digest = digest;
  only = λ k lk h. table.columns.distinct k c (serving_at t s c) lk lc h (names_serving (column_at t c) s);
  passed = by (column_at t c).moving (column_at t c).home (table.columns.target c lc);
}
  where
    by : (o : Option Moving) (home : ℕ) → IfSome o (λ m. (m.to ≢ home) × (m.upto ≤ t.stripes)) → IfSome o (λ m. serving_moved o home s ≡ m.to → s < m.upto)
    by None home h = tt
    by (Some m) home h = λ e. elim (cases_lt s m.upto) [
      | inl l ↦ l
      | inr l ↦ absurd (h.0 (sym e ∙ at_home m home s l))
    ]

-- A COLUMN AFTER AN ENTRY

-- What an entry makes of a column: it names no archive that it did not name but one that comes, and
-- a move to an archive that does not come stays where it was, or goes on.
record ColumnOn (news : List ℕ) (x y : Column) : Type 0 where
  named : (n : ℕ) → IsTrue (names y n) → IsTrue (names x n) ⊎ Contains news n
  passed : (n s : ℕ) → (Contains news n → ⊥) → IfSome x.moving (λ m. n ≡ m.to → s < m.upto) → IfSome y.moving (λ m. n ≡ m.to → s < m.upto)

same_on : (news : List ℕ) (x y : Column) → y ≡ x → ColumnOn news x y
same_on news x y e = subst (λ y. ColumnOn news x y) (sym e) (record { named = λ n h. inl h; passed = λ n s fresh h. h })

-- the column of the entry, or another one
change_on : (news : List ℕ) (t u : Table) (c : ℕ) (x : Column) → u.columns ≡ t.columns → length u.columns ≡ width u → c < width u → ColumnOn news (column_at t c) x
    → (k : ℕ) → ColumnOn news (column_at t k) (column_at (with_column u c x) k)
change_on news t u c x same sized lc on k = elim (cases_eq k c) [
  | inl e ↦ subst (λ j. ColumnOn news (column_at t j) (column_at (with_column u c x) j)) (sym e) (subst (λ y. ColumnOn news (column_at t c) y) (sym (column_same u c x sized lc)) on)
  | inr ne ↦ same_on news (column_at t k) (column_at (with_column u c x) k) (column_other u c k x ne ∙ ap (λ cs. slice_index_or cs k no_column) same)
]

one_of : (n m : ℕ) → m ≡ n → Contains (m ∷ []) n
one_of n m e = (0, omega arith, e)

begins_on : (x : Column) (to : ℕ) → ColumnOn (to ∷ []) x (record x { moving = Some (record { to = to; upto = 0 }) })
begins_on x to = record {
  named = λ n h. elim (or_cases (x.home == n) (to == n) h) [
    | inl e ↦ inl (home_named x.moving n e)
    | inr e ↦ inr (one_of n to (eqb-true to n e))
  ];
  passed = λ n s fresh h e. absurd (fresh (one_of n to (sym e)));
}
  where
    home_named : (o : Option Moving) (n : ℕ) → (x.home == n) ≡ true → IsTrue (names_moved o x.home n)
    home_named None n e = e
    home_named (Some m) n e = rw e refl

swaps_on : (x : Column) (to : ℕ) → ColumnOn (to ∷ []) x (record { home = to; moving = None })
swaps_on x to = record { named = λ n h. inr (one_of n to (eqb-true to n h)); passed = λ n s fresh h. tt }

moves_on : (home : ℕ) (o : Option Moving) → ColumnOn [] (record { home = home; moving = o }) (moved_on (record { home = home; moving = o }))
moves_on home None = record { named = λ n h. inl h; passed = λ n s fresh h. h }
moves_on home (Some m) = record { named = λ n h. inl h; passed = λ n s fresh h e. (let l : s < m.upto = h e in omega (arith, l)) }

ends_on : (home : ℕ) (o : Option Moving) → ColumnOn [] (record { home = home; moving = o }) (moved_home (record { home = home; moving = o }))
ends_on home o = record { named = λ n h. inl (moved_home_names o home n h); passed = λ n s fresh h. tt }

column_on : (t : Table) (e : Entry) (k : ℕ) → IsTable t → Legal t e → ColumnOn (arrival e) (column_at t k) (column_at (after t e) k)
column_on t (MoveBegin job c to) k table legal = change_on (to ∷ []) t t c _ refl table.size.columns legal.0.0 (begins_on (column_at t c) to) k
column_on t (Moved job s c true) k table legal = change_on [] t t c _ refl table.size.columns legal.0.0 (moves_on (column_at t c).home (column_at t c).moving) k
column_on t (Moved job s c false) k table legal = change_on [] t (with_loss t s c) c _ refl table.size.columns legal.0.0 (moves_on (column_at t c).home (column_at t c).moving) k
column_on t (MoveEnd job c) k table legal = change_on [] t t c _ refl table.size.columns legal.0 (ends_on (column_at t c).home (column_at t c).moving) k
column_on t (Swapped job c to) k table legal =
    let lost : IsTable (with_losses t.stripes t c) = losses_keep t.stripes t c table in
    let size = sizes_stay t (Swapped job c to) in
    change_on (to ∷ []) t (with_losses t.stripes t c) c _ (columns-with_losses t.stripes t c) lost.size.columns (omega (arith, legal.0, size.0, size.1)) (swaps_on (column_at t c) to) k
column_on t e k table legal = same_on (arrival e) (column_at t k) (column_at (after t e) k) refl

-- ONE ENTRY

le_self : (c : ℕ) → nat_le c c ≡ true
le_self c = grind (arith, nat_tests)

module _ (t : Table) (s c : ℕ) (d : Digest) (n : ℕ) (table : IsTable t) (low : c < t.data_columns) (has : HasServed t s c d n) where
  filled : is_void (slot_at t s c) ≡ false
  filled = not_void (slot_at t s c) d has.digest

  served_on : (e : Entry) → Legal t e → (Contains (arrival e) n → ⊥) → HasServed (after t e) s c d n
  served_on e legal fresh = record {
    digest = data_stays t e s c table legal low filled ∙ has.digest;
    only = λ k lk h. elim ((column_on t e k table legal).named n h) [
      | inl y ↦ has.only k (omega (arith, lk, (sizes_stay t e).0, (sizes_stay t e).1)) y
      | inr y ↦ absurd (fresh y)
    ];
    passed = (column_on t e c table legal).passed n s fresh has.passed;
  }

  -- a column that the archive serves in some stripe is this one
  of_column : (n2 k : ℕ) → k < width t → n ≡ serving_at t n2 k → k ≡ c
  of_column n2 k lk e = has.only k lk (subst (λ m. IsTrue (names (column_at t k) m)) (sym e) (names_serving (column_at t k) n2))

  -- and it is no parity column
  no_parity : (n2 k : ℕ) → t.data_columns ≤ k → k < width t → n ≡ serving_at t n2 k → ⊥
  no_parity n2 k le lk e = (let q : k ≡ c = of_column n2 k lk e in omega (arith, le, low, q))

  -- a put goes into another slot
  no_put : (n2 k : ℕ) → TakesPut t n2 k → s ≡ n2 → n ≡ serving_at t n2 k → ⊥
  no_put n2 k takes es e =
      let lk : k < t.data_columns = put_column t n2 k table takes in
      let q : k ≡ c = of_column n2 k (omega (arith, lk)) e in
      clash (sym filled ∙ void k takes lk q es)
    where
      clash : false ≡ true → ⊥
      clash e = cc

      void : (k : ℕ) → TakesPut t n2 k → k < t.data_columns → k ≡ c → s ≡ n2 → is_void (slot_at t s c) ≡ true
      void k takes lk q es =
          ap₂ (λ a b. is_void (slot_at t a b)) (es ∙ takes.0.0) (sym q)
          ∙ table.voids.cursor k (omega (arith, takes.0.0, takes.0.1)) lk
          ∙ ap (λ j. nat_le j k) (sym takes.1)
          ∙ le_self k

  -- the archive is no target of a move that has come to the stripe
  target_is : (o : Option Moving) (home : ℕ) → IsSomeAnd o (λ m. n ≡ m.to) → IsTrue (names_moved o home n)
  target_is None home h = absurd h
  target_is (Some m) home h = right (home == n) (m.to == n) (same m.to n (sym h))
    where
      same : (a b : ℕ) → a ≡ b → (a == b) ≡ true
      same a b e = grind (arith, nat_tests)

      right : (a b : Bool) → b ≡ true → a || b ≡ true
      right true b h = refl
      right false b h = h

  no_target : (k : ℕ) → k < width t → IsSomeAnd (column_at t k).moving (λ m. (m.upto ≡ s) × (n ≡ m.to)) → ⊥
  no_target k lk h = late (column_at t c).moving has.passed (subst (λ j. IsSomeAnd (column_at t j).moving (λ m. (m.upto ≡ s) × (n ≡ m.to))) q h)
    where
      to_is : (o : Option Moving) → IsSomeAnd o (λ m. (m.upto ≡ s) × (n ≡ m.to)) → IsSomeAnd o (λ m. n ≡ m.to)
      to_is None h = absurd h
      to_is (Some m) h = h.1

      q : k ≡ c
      q = has.only k lk (target_is (column_at t k).moving (column_at t k).home (to_is (column_at t k).moving h))

      late : (o : Option Moving) → IfSome o (λ m. n ≡ m.to → s < m.upto) → IsSomeAnd o (λ m. (m.upto ≡ s) × (n ≡ m.to)) → ⊥
      late None p h = absurd h
      late (Some m) p h = (let l : s < m.upto = p h.1 in omega (arith, l, h.0))

  -- what fits into a slot that has the digest
  fits : (n2 k : ℕ) (b : List ℕ) → s ≡ n2 → k ≡ c → HasDigestOf (slot_at t n2 k) b → digest_of b ≡ d
  fits n2 k b es ek f = sym (same_Some d (digest_of b) (sym has.digest ∙ ap₂ (λ a b. digest_in (slot_at t a b)) es (sym ek) ∙ f))

  moving_both : (s2 : ℕ) (o : Option Moving) → s ≡ s2 → IsSomeAnd o (λ m. m.upto ≡ s2) → IsSomeAnd o (λ m. n ≡ m.to) → IsSomeAnd o (λ m. (m.upto ≡ s) × (n ≡ m.to))
  moving_both s2 None es a b = absurd a
  moving_both s2 (Some m) es a b = (a ∙ sym es, b)

  last_wide : t.data_columns < width t
  last_wide = omega (arith, table.size.parity.0)

  writes_fit : (tried : Tries) (i : ℕ) (e : Entry) → Legal t e → (b : List ℕ) → MayWrite tried i t e n s b → digest_of b ≡ d
  writes_fit tried i (Put job s2 k digest parity_digest kept) legal b (es, inl h) = absurd (no_put s2 k legal.1 es h.0)
  writes_fit tried i (Put job s2 k digest parity_digest kept) legal b (es, inr h) = absurd (no_parity s2 t.data_columns (omega arith) last_wide h.0)
  writes_fit tried i (Put2 job s2 k digest parity_digest second_digest kept kept2) legal b (es, inl h) = absurd (no_put s2 k legal.1 es h.0)
  writes_fit tried i (Put2 job s2 k digest parity_digest second_digest kept kept2) legal b (es, inr (inl h)) = absurd (no_parity s2 t.data_columns (omega arith) last_wide h.0)
  writes_fit tried i (Put2 job s2 k digest parity_digest second_digest kept kept2) legal b (es, inr (inr h)) =
      absurd (no_parity s2 (t.data_columns + 1) (omega arith) (omega (arith, legal.0)) h.0)
  writes_fit tried i (Mended job s2 k) legal b h = fits s2 k b h.0 (of_column s2 k legal.0.1 h.1) h.2
  writes_fit tried i (Moved job s2 k copied) legal b h = absurd (no_target k legal.0.0 (moving_both s2 (column_at t k).moving h.0 legal.0.1 h.2))
  writes_fit tried i (Fault job s2 k) legal b (es, inl h, inl (void, kept)) = absurd (empty (slot_at t s c) filled (ap₂ (λ a b. slot_at t a b) es (sym (of_column s2 k legal.1 h.1)) ∙ void))
    where
      empty : (x : SlotState) → is_void x ≡ false → x ≡ Void → ⊥
      empty x f e = cc
  writes_fit tried i (Fault job s2 k) legal b (es, inl h, inr f) = fits s2 k b es (of_column s2 k legal.1 h.1) f
  writes_fit tried i (Fault job s2 k) legal b (es, inr h, f) = absurd (no_target k legal.1 (subst (λ m. IsSomeAnd (column_at t k).moving (λ x. (x.upto ≡ m) × (n ≡ x.to))) (sym es) h.1))
  writes_fit tried i _ legal b h = absurd h

  unsound : (x : SlotState) → digest_in x ≡ Some d → is_live x ≡ false → IsTrue (is_unsound x)
  unsound Void e l = absurd (cc)
  unsound (Live a) e l = absurd (cc)
  unsound (Lost a) e l = refl
  unsound (Broken a) e l = refl

  fails_mend : (e : Entry) → Legal t e → MayFail t e n s → IsMendFault t e s c
  fails_mend (Put job s2 k digest parity_digest kept) legal h = absurd (no_parity s2 t.data_columns (omega arith) last_wide h.2)
  fails_mend (Put2 job s2 k digest parity_digest second_digest kept kept2) legal (es, inl h) = absurd (no_parity s2 t.data_columns (omega arith) last_wide h.1)
  fails_mend (Put2 job s2 k digest parity_digest second_digest kept kept2) legal (es, inr h) =
      absurd (no_parity s2 (t.data_columns + 1) (omega arith) (omega (arith, legal.0)) h.1)
  fails_mend (Fault job s2 k) legal (es, inl h) = (let q : k ≡ c = of_column s2 k legal.1 h.1 in
      (sym es, q, unsound (slot_at t s c) has.digest (ap₂ (λ a b. is_live (slot_at t a b)) es (sym q) ∙ h.0)))
  fails_mend (Fault job s2 k) legal (es, inr h) = absurd (no_target k legal.1 (subst (λ m. IsSomeAnd (column_at t k).moving (λ x. (x.upto ≡ m) × (n ≡ x.to))) (sym es) h.1))
  fails_mend _ legal h = absurd h

-- A LOG

pub served_kept : ServedIsKept
served_kept t u [] s c d n table replays low has fresh = record {
  now = subst (λ x. HasServed x s c d n) (sym replays) has;
  wrote = λ tried i b h. absurd h;
  failed = λ h. absurd h;
}
served_kept t u (e ∷ log) s c d n table replays low has fresh =
    let rest : KeepsServed (after t e) u log s c d n = served_kept (after t e) u log s c d n (after_keeps t e table replays.0) replays.1
    (omega (arith, low, (sizes_stay t e).0))
    (served_on t s c d n table low has e replays.0 (λ h. fresh (Contains-append_left (arrival e) (arrivals log) n h)))
    (λ h. fresh (Contains-append_right (arrival e) (arrivals log) n h)) in
    record {
      now = rest.now;
      wrote = λ tried i b h. elim h [ inl y ↦ writes_fit t s c d n table low has tried i e replays.0 b y | inr y ↦ rest.wrote tried (suc i) b y ];
      failed = λ h. elim h [ inl y ↦ inl (fails_mend t s c d n table low has e replays.0 y) | inr y ↦ inr (rest.failed y) ];
    }

pub blocks_remain : BlocksRemain
blocks_remain t u log tried shelves s c d n block table replays framed low has fresh was is_d =
    let kept : KeepsServed t u log s c d n = served_kept t u log s c d n table replays low has fresh in
    elim (framed.kept n s block was) [
      | inl y ↦ inl (
        y.0,
        y.1,
        elim (framed.held n s y.0 y.1) [
          | inl before ↦ ap digest_of (same_Some y.0 block (sym before ∙ was)) ∙ is_d
          | inr now ↦ kept.wrote tried 0 y.0 now
        ],
      )
      | inr y ↦ elim y [ inl z ↦ inr (inl (kept.failed z)) | inr z ↦ inr (inr z) ]
    ]
