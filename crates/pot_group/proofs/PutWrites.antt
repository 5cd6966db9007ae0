-- The writes of a put, one after another, over the archives as plain data.
use Rattle.std.proofs.Common.{◌≡◌, ◌≢◌, ◌⊎◌, inl, inr, ℕ, ◌+◌, ◌<◌, ◌≤◌, List, Option, Some, None, Bool, true, false, refl, sym, ap, ◌∙◌, subst, arith}
use Rattle.std.specs.Prelude.{Result, Ok, Err, is_ok, IsErr, Contains}
use Rattle.std.proofs.lemmas.Bool.{cases_eq}
use Rattle.pot_outside.specs.declared.faults.Failed.{Failed}
use Rattle.pot_outside.specs.Counts.{Rose}
use Rattle.pot_doubles.proofs.CallLemmas.{rose_later}
use Rattle.pot_machine.specs.declared.cursor.Cursor.{Cursor}
use Rattle.pot_machine.specs.Table.{Table, width, serving_at}
use Rattle.pot_machine.specs.Rules.{IsTable}
use Rattle.pot_machine.proofs.Columns.{serving_apart}
use Rattle.pot_steps.specs.Holdings.{Holdings}
use Rattle.pot_steps.specs.Entries.{held_at}
use Rattle.pot_shelves.specs.Shelves.{Shelves, LosesByCount, WriteLeaves, WritesAt, put_at}
use Rattle.pot_group.specs.Putting.{IsNotKept, IsPut, PutsAt, WritesAll}
use Rattle.pot_group.proofs.Framing.{IsFull, put_frames, put_full, remembers_frames}
use Rattle.pot_shelves.proofs.ShelfLemmas.{keeps_then, loses_refl, write_then, put_at-here, put_at-other, rose_more}

failed_of : (r : Result (Unit {0}) Failed) → is_ok r ≡ false → IsErr r
failed_of (Ok u) e = absurd (cc)
failed_of (Err x) e = refl

module _ (t : Table) (rules : IsTable t) (s : ℕ) where
  -- PLACES OF THE STRIPE CHANGED

  abbrev set_at : Holdings → ℕ → Option (List ℕ) → Holdings
  set_at h c x = put_at h (serving_at t s c) s x

  place_differs : (c n k : ℕ) → c < width t → k < width t → (n ≢ s) ⊎ (k ≢ c) → (serving_at t n k ≢ serving_at t s c) ⊎ (n ≢ s)
  place_differs c n k lc lk (inl d) = inr d
  place_differs c n k lc lk (inr d) = elim (cases_eq n s) [
    | inl e ↦ inl (λ g. serving_apart t s k c rules.columns lk lc d (ap (λ m. serving_at t m k) (sym e) ∙ g))
    | inr ne ↦ inr ne
  ]

  set-here : (h : Holdings) (c : ℕ) (x : Option (List ℕ)) → held_at t (set_at h c x) s c ≡ x
  set-here h c x = put_at-here h (serving_at t s c) s x

  set-other : (h : Holdings) (c : ℕ) (x : Option (List ℕ)) (n k : ℕ) → c < width t → k < width t → (n ≢ s) ⊎ (k ≢ c) → held_at t (set_at h c x) n k ≡ held_at t h n k
  set-other h c x n k lc lk d = put_at-other h (serving_at t s c) s x (serving_at t n k) n (place_differs c n k lc lk d)

  set-elsewhere : (h : Holdings) (c : ℕ) (x : Option (List ℕ)) (number slot : ℕ) → c < width t → (slot ≢ s) ⊎ ((k : ℕ) → k < width t → serving_at t s k ≢ number) → set_at h c x number slot ≡ h number slot
  set-elsewhere h c x number slot lc (inl d) = put_at-other h (serving_at t s c) s x number slot (inr d)
  set-elsewhere h c x number slot lc (inr d) = put_at-other h (serving_at t s c) s x number slot (inl (λ e. d c lc (sym e)))

  module _ (h : Holdings) (c : ℕ) (low : c < t.data_columns) (block p : List ℕ) (left : Option (List ℕ)) where
    wide : c < width t
    wide = omega arith

    last_wide : t.data_columns < width t
    last_wide = omega (arith, rules.size.parity.0)

    abbrev with_block : Holdings
    with_block = set_at h c (Some block)

    abbrev with_first : Holdings
    with_first = set_at with_block t.data_columns left

    beside : (n k j : ℕ) → t.data_columns ≤ j → (n ≢ s) ⊎ ((k < t.data_columns) × (k ≢ c)) → (n ≢ s) ⊎ (k ≢ j)
    beside n k j le (inl d) = inl d
    beside n k j le (inr d) = inr (λ e. absurd (omega (arith, le, d.0, e)))

    beside_data : (n k : ℕ) → (n ≢ s) ⊎ ((k < t.data_columns) × (k ≢ c)) → (n ≢ s) ⊎ (k ≢ c)
    beside_data n k (inl d) = inl d
    beside_data n k (inr d) = inr d.1

    -- a place of a parity column that was not changed yet
    still : (j : ℕ) → t.data_columns ≤ j → j < width t → held_at t with_block s j ≡ held_at t h s j
    still j le lj = set-other h c (Some block) s j wide lj (inr (λ e. absurd (omega (arith, le, low, e))))

    block_there : held_at t with_first s c ≡ Some block
    block_there = set-other with_block t.data_columns left s c last_wide wide (inr (λ e. absurd (omega (arith, low, e)))) ∙ set-here h c (Some block)

    first_there : held_at t with_first s t.data_columns ≡ left
    first_there = set-here with_block t.data_columns left

    others : (n k : ℕ) → k < width t → (n ≢ s) ⊎ ((k < t.data_columns) × (k ≢ c)) → held_at t with_first n k ≡ held_at t h n k
    others n k lk d = set-other with_block t.data_columns left n k last_wide lk (beside n k t.data_columns (omega arith) d) ∙ set-other h c (Some block) n k wide lk (beside_data n k d)

    elsewhere : (number slot : ℕ) → (slot ≢ s) ⊎ ((k : ℕ) → k < width t → serving_at t s k ≢ number) → with_first number slot ≡ h number slot
    elsewhere number slot d = set-elsewhere with_block t.data_columns left number slot last_wide d ∙ set-elsewhere h c (Some block) number slot wide d

    -- the write of P, by what its slot held before all writes
    last_was : (kept : Bool) → WriteLeaves kept (held_at t h s t.data_columns) p left → WriteLeaves kept (held_at t with_block s t.data_columns) p left
    last_was kept is = subst (λ o. WriteLeaves kept o p left) (sym (still t.data_columns (omega arith) last_wide)) is

    frame_one : (kept : Bool) (q : List ℕ) → WriteLeaves kept (held_at t h s t.data_columns) p left → (n m : ℕ) (x : List ℕ) → with_first n m ≡ Some x → (h n m ≡ Some x) ⊎ ((m ≡ s) × IsPut t s c block p q n x)
    frame_one kept q is n m x e = elim (put_frames with_block (serving_at t s t.data_columns) s p kept left (last_was kept is) n m x e) [
      | inl y ↦ elim (put_frames h (serving_at t s c) s block true (Some block) refl n m x y) [ inl z ↦ inl z | inr z ↦ inr (z.1, inl (z.0, z.2)) ]
      | inr y ↦ inr (y.1, inr (inl (y.0, y.2)))
    ]

    full_block : (n m : ℕ) (x : List ℕ) → h n m ≡ Some x → IsFull with_block n m
    full_block n m x e = elim (put_full h (serving_at t s c) s block true (Some block) refl n m x e) [ inl y ↦ y | inr y ↦ absurd (went y.0) ]
      where
        went : true ≡ false → ⊥
        went e = cc

    full_one : (kept kept2 : Bool) → WriteLeaves kept (held_at t h s t.data_columns) p left → (n m : ℕ) (x : List ℕ) → h n m ≡ Some x → IsFull with_first n m ⊎ ((m ≡ s) × IsNotKept t s kept kept2 n)
    full_one kept kept2 is n m x e = (let z : IsFull with_block n m = full_block n m x e in elim (put_full with_block (serving_at t s t.data_columns) s p kept left (last_was kept is) n m z.0 z.1) [
      | inl y ↦ inl y
      | inr y ↦ inr (y.2, inl (y.0, y.1))
    ])

    -- one parity column
    pub puts_one : (q : List ℕ) (kept kept2 : Bool) → t.parity ≡ 1 → WriteLeaves kept (held_at t h s t.data_columns) p left → PutsAt t h with_first s c block p q kept kept2
    puts_one q kept kept2 one is = record {
      data_block = block_there;
      first = subst (λ x. WriteLeaves kept (held_at t h s t.data_columns) p x) (sym first_there) is;
      second = (λ two. absurd (omega (arith, one, two)));
      others = (λ n k ln lk d. others n k lk d);
      elsewhere = elsewhere;
      frame = frame_one kept q is;
      full = full_one kept kept2 is;
    }

    -- two parity columns
    module _ (q : List ℕ) (left2 : Option (List ℕ)) (two : t.parity ≡ 2) where
      second_wide : t.data_columns + 1 < width t
      second_wide = omega (arith, two)

      abbrev with_second : Holdings
      with_second = set_at with_first (t.data_columns + 1) left2

      -- the write of Q, by what its slot held before all writes
      second_was : (kept2 : Bool) → WriteLeaves kept2 (held_at t h s (t.data_columns + 1)) q left2 → WriteLeaves kept2 (held_at t with_first s (t.data_columns + 1)) q left2
      second_was kept2 is2 = subst (λ o. WriteLeaves kept2 o q left2) (sym (set-other with_block t.data_columns left s (t.data_columns + 1) last_wide second_wide (inr (λ e. absurd (omega (arith, e)))) ∙ still (t.data_columns + 1) (omega arith) second_wide)) is2

      pub puts_two : (kept kept2 : Bool) → WriteLeaves kept (held_at t h s t.data_columns) p left → WriteLeaves kept2 (held_at t h s (t.data_columns + 1)) q left2 → PutsAt t h with_second s c block p q kept kept2
      puts_two kept kept2 is is2 = record {
        data_block = set-other with_first (t.data_columns + 1) left2 s c second_wide wide (inr (λ e. absurd (omega (arith, low, e)))) ∙ block_there;
        first = subst (λ x. WriteLeaves kept (held_at t h s t.data_columns) p x)
            (sym (set-other with_first (t.data_columns + 1) left2 s t.data_columns second_wide last_wide (inr (λ e. absurd (omega (arith, e)))) ∙ first_there)) is;
        second = (λ _. subst (λ x. WriteLeaves kept2 (held_at t h s (t.data_columns + 1)) q x) (sym (set-here with_first (t.data_columns + 1) left2)) is2);
        others = (λ n k ln lk d. set-other with_first (t.data_columns + 1) left2 n k second_wide lk (beside n k (t.data_columns + 1) (omega arith) d) ∙ others n k lk d);
        elsewhere = (λ number slot d. set-elsewhere with_first (t.data_columns + 1) left2 number slot second_wide d ∙ elsewhere number slot d);
        frame = (λ n m x e. elim (put_frames with_first (serving_at t s (t.data_columns + 1)) s q kept2 left2 (second_was kept2 is2) n m x e) [
          | inl y ↦ frame_one kept q is n m x y
          | inr y ↦ inr (y.1, inr (inr (two, y.0, y.2)))
        ]);
        full = (λ n m x e. elim (full_one kept kept2 is n m x e) [
          | inl y ↦ elim (put_full with_first (serving_at t s (t.data_columns + 1)) s q kept2 left2 (second_was kept2 is2) n m y.0 y.1) [
            | inl z ↦ inl z
            | inr z ↦ inr (z.2, inr (two, z.0, z.1))
          ]
          | inr y ↦ inr y
        ]);
      }

  -- ONE WRITE AFTER ANOTHER

  module _ (told : Type 0) (c : ℕ) (low : c < t.data_columns) (block p : List ℕ) (a b d : Shelves) (u : Unit {0}) (r : Result (Unit {0}) Failed)
      (data_write : WritesAt told (serving_at t s c) s block (Ok u) a b) (first_write : WritesAt told (serving_at t s t.data_columns) s p r b d) where
    -- what the write of P left, and what was lost from there on
    abbrev FirstLeft : Type 0
    FirstLeft = (left : Option (List ℕ)) × WriteLeaves (is_ok r) (held_at t a.held s t.data_columns) p left × LosesByCount (set_at (set_at a.held c (Some block)) t.data_columns left) a d

    first_left : told → FirstLeft
    first_left z =
        let x = write_then a.held a a b (serving_at t s c) s block (Ok u) (loses_refl a) (data_write.wrote z) in
        let l : LosesByCount (set_at a.held c (Some block)) a b = subst (λ o. LosesByCount (set_at a.held c o) a b) x.1 x.2 in
        let y = write_then (set_at a.held c (Some block)) a b d (serving_at t s t.data_columns) s p r l (first_write.wrote z) in (
          y.0,
          subst (λ o. WriteLeaves (is_ok r) o p y.0) (still a.held c low block p None t.data_columns (omega arith) (omega (arith, rules.size.parity.0)))
              y.1,
          y.2,
        )

    first_fails : is_ok r ≡ false → Rose (a.faults (serving_at t s t.data_columns)) (d.faults (serving_at t s t.data_columns))
    first_fails e =
        let n : ℕ = serving_at t s t.data_columns in
        rose_later (a.faults n) (b.faults n) (d.faults n) (data_write.keeps.later n) (first_write.cause (failed_of r e))

    remembers_one : (q : List ℕ) → told → (n : ℕ) (x : List ℕ) → Contains (d.history n) x → Contains (a.history n) x ⊎ IsPut t s c block p q n x
    remembers_one q z n x h = elim (remembers_frames (serving_at t s t.data_columns) p r b d (first_write.remembers z) (first_write.forgets z) n x h) [
      | inl y ↦ elim (remembers_frames (serving_at t s c) block (Ok u) a b (data_write.remembers z) (data_write.forgets z) n x y) [ inl w ↦ inl w | inr w ↦ inr (inl w) ]
      | inr y ↦ inr (inr (inl y))
    ]

    pub writes_one : (q : List ℕ) → t.parity ≡ 1 → WritesAll told t s c block p q (is_ok r) true a d
    writes_one q one = record {
      keeps = keeps_then a b d data_write.keeps first_write.keeps;
      heard = (λ z n. first_write.heard z n ∙ data_write.heard z n);
      remembers = remembers_one q;
      wrote = (λ z. let x : FirstLeft = first_left z in (_, puts_one a.held c low block p x.0 q (is_ok r) true one x.1, x.2));
      first = first_fails;
      second = (λ e. absurd (cc));
    }

    pub writes_two : (q : List ℕ) (f : Shelves) (r2 : Result (Unit {0}) Failed) → t.parity ≡ 2 → WritesAt told (serving_at t s (t.data_columns + 1)) s q r2 d f
        → WritesAll told t s c block p q (is_ok r) (is_ok r2) a f
    writes_two q f r2 two w = record {
      keeps = keeps_then a d f (keeps_then a b d data_write.keeps first_write.keeps) w.keeps;
      heard = (λ z n. w.heard z n ∙ first_write.heard z n ∙ data_write.heard z n);
      remembers = (λ z n x h. elim (remembers_frames (serving_at t s (t.data_columns + 1)) q r2 d f (w.remembers z) (w.forgets z) n x h) [
        | inl y ↦ remembers_one q z n x y
        | inr y ↦ inr (inr (inr (two, y.0, y.1)))
      ]);
      wrote = (λ z.
          let x : FirstLeft = first_left z in
          let h : Holdings = set_at (set_at a.held c (Some block)) t.data_columns x.0 in
          let y = write_then h a d f (serving_at t s (t.data_columns + 1)) s q r2 x.2 (w.wrote z) in (
            _,
            puts_two a.held c low block p x.0 q y.0 two (is_ok r) (is_ok r2) x.1
                (subst (λ o. WriteLeaves (is_ok r2) o q y.0) (second_still x.0 two) y.1),
            y.2,
          ));
      first = (λ e. (let n : ℕ = serving_at t s t.data_columns in rose_more (a.faults n) (d.faults n) (f.faults n) (first_fails e) (w.keeps.later n)));
      second = (λ e. (
        two,
        (let n : ℕ = serving_at t s (t.data_columns + 1) in
            rose_later (a.faults n) (d.faults n) (f.faults n) ((keeps_then a b d data_write.keeps first_write.keeps).later n) (w.cause (failed_of r2 e))),
      ));
    }
      where
        second_still : (left : Option (List ℕ)) → t.parity ≡ 2 → held_at t (set_at (set_at a.held c (Some block)) t.data_columns left) s (t.data_columns + 1) ≡ held_at t a.held s (t.data_columns + 1)
        second_still left two =
            set-other (set_at a.held c (Some block)) t.data_columns left s (t.data_columns + 1) (omega (arith, two)) (omega (arith, two)) (inr (λ e. absurd (omega (arith, e))))
            ∙ still a.held c low block p None (t.data_columns + 1) (omega arith) (omega (arith, two))

-- THE WRITES AT THE CURSOR

-- the columns that are written are columns of the table
pub wide_column : (t : Table) (x : Cursor) → IsTable t → x ≡ t.cursor → x.column < width t
wide_column t x rules is = (let e : x.column ≡ t.cursor.column = ap (λ c. c.column) is in omega (arith, e, rules.cursor.column))

pub wide_first : (t : Table) (last : ℕ) → IsTable t → last ≡ t.data_columns → last < width t
wide_first t last rules is = omega (arith, is, rules.size.parity.0)

pub wide_second : (t : Table) (last columns : ℕ) → IsTable t → last ≡ t.data_columns → columns ≡ t.parity → columns ≢ 1 → last + 1 < width t
wide_second t last columns rules is e two = omega (arith, is, e, two, rules.size.parity.0)

-- and are served by archives that are there
pub served_at : (numbers : List ℕ) (t : Table) (x : Cursor) (c n : ℕ) → x ≡ t.cursor → ((k : ℕ) → k < width t → Contains numbers (serving_at t t.cursor.stripe k)) → c < width t → n ≡ serving_at t x.stripe c → Contains numbers n
served_at numbers t x c n is served lc e = subst (λ n. Contains numbers n) (sym (e ∙ ap (λ (k : Cursor). serving_at t k.stripe c) is)) (served c lc)

module _ (told : Type 0) (t : Table) (block p q : List ℕ) (x : Cursor) (home last first_home : ℕ) (a b d : Shelves) (u : Unit {0}) (r : Result (Unit {0}) Failed) (rules : IsTable t)
    (is : x ≡ t.cursor) (is_last : last ≡ t.data_columns) (at : home ≡ serving_at t x.stripe x.column) (first_at : first_home ≡ serving_at t x.stripe last)
    (data_write : WritesAt told home x.stripe block (Ok u) a b) (first_write : WritesAt told first_home x.stripe p r b d) where
  data_here : WritesAt told (serving_at t t.cursor.stripe t.cursor.column) t.cursor.stripe block (Ok u) a b
  data_here = subst (λ (k : Cursor). WritesAt told (serving_at t k.stripe k.column) k.stripe block (Ok u) a b) is (subst (λ n. WritesAt told n x.stripe block (Ok u) a b) at data_write)

  first_here : WritesAt told (serving_at t t.cursor.stripe t.data_columns) t.cursor.stripe p r b d
  first_here =
      subst (λ (k : Cursor). WritesAt told (serving_at t k.stripe t.data_columns) k.stripe p r b d) is
      (subst (λ n. WritesAt told n x.stripe p r b d) (first_at ∙ ap (serving_at t x.stripe) is_last) first_write)

  pub one_exit : (kept : Bool) → t.parity ≡ 1 → kept ≡ is_ok r → WritesAll told t t.cursor.stripe t.cursor.column block p q kept true a d
  one_exit kept one e = rw e (writes_one t rules t.cursor.stripe told t.cursor.column rules.cursor.column block p a b d u r data_here first_here q one)

  pub two_exit : (columns second_home : ℕ) (f : Shelves) (r2 : Result (Unit {0}) Failed) (kept kept2 : Bool) → columns ≡ t.parity → columns ≢ 1 → kept ≡ is_ok r → kept2 ≡ is_ok r2
      → second_home ≡ serving_at t x.stripe (last + 1) → WritesAt told second_home x.stripe q r2 d f → WritesAll told t t.cursor.stripe t.cursor.column block p q kept kept2 a f
  two_exit columns second_home f r2 kept kept2 is_columns two e e2 second_at w =
      rw (e, e2) (writes_two t rules t.cursor.stripe told t.cursor.column rules.cursor.column block p a b d u r data_here first_here q f r2 (omega (arith, is_columns, two, rules.size.parity.0, rules.size.parity.1))
      (subst (λ (k : Cursor). WritesAt told (serving_at t k.stripe (t.data_columns + 1)) k.stripe q r2 d f) is
      (subst (λ n. WritesAt told n x.stripe q r2 d f) (second_at ∙ ap (λ n. serving_at t x.stripe (n + 1)) is_last) w)))
