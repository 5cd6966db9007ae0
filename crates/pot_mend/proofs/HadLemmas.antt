-- Which archives a column has had, and how its move ends, along a log.
use Rattle.std.proofs.Common.{◌≡◌, ◌≢◌, ◌⊎◌, inl, inr, ⊎_elim, ℕ, suc, ◌<◌, ◌++◌, Bool, true, false, IsTrue, List, [], ◌∷◌, Option, Some, None, length, refl, sym, ap, ◌∙◌, subst, arith}
use Rattle.std.specs.Prelude.{Contains, IsSome, ◌==◌, nat_eq, if◌then◌else◌}
use Rattle.std.proofs.lemmas.List.Elements.{Contains-append_left, Contains-append_right, Contains-append_cases}
use Rattle.std.proofs.lemmas.Bool.{cases_eq, eqb-true, eq-eqb, or_cases, or_left, or_right, both_ways}
use Rattle.pot_bytes.proofs.Elements.{none_contained, one_contained}
use Rattle.pot_machine.specs.declared.column.Column.{Column}
use Rattle.pot_machine.specs.declared.column.Moving.{Moving}
use Rattle.pot_machine.specs.declared.entry.Entry.{Entry}
use Rattle.pot_machine.specs.declared.entry.Entry.TheVariants.{MoveBegin, Moved, MoveEnd, Swapped}
use Rattle.pot_machine.specs.Column.{names, names_moved, target_of}
use Rattle.pot_machine.specs.Table.{Table, width, column_at, holder_of}
use Rattle.pot_machine.specs.Machine.{Legal, Replays, after, moved_on, moved_home, with_loss, with_losses}
use Rattle.pot_machine.specs.Rules.{IsTable}
use Rattle.pot_machine.specs.Logs.{replayed}
use Rattle.pot_machine.proofs.Columns.{column_other, column_same, moved_home_names, named_in, in_named}
use Rattle.pot_machine.proofs.Kept.{after_keeps}
use Rattle.pot_machine.proofs.LeftAlone.{sizes_stay, columns-with_losses}
use Rattle.pot_machine.proofs.Searches.{least_none, least_some}
use Rattle.pot_machine.proofs.Sizes.{width-with_losses}
use Rattle.pot_group.specs.Causes.{archives_of, brought, brought_by}
use Rattle.pot_group.proofs.ColumnExits.{on_names}
use Rattle.pot_mend.specs.Moves.{EndsMove}

-- THE WIDTH OF A TABLE

pub same_width : (t : Table) (log : List Entry) → width (replayed t log) ≡ width t
same_width t [] = refl
same_width t (e ∷ log) =
    let w : width (replayed (after t e) log) ≡ width (after t e) = same_width (after t e) log in
    let size : ((after t e).data_columns ≡ t.data_columns) × ((after t e).parity ≡ t.parity) × ((after t e).stripes ≡ t.stripes) = sizes_stay t e in
    omega (arith, w, size.0, size.1)

-- WHAT A COLUMN NAMES

one_in : (x n : ℕ) → x ≡ n → Contains (x ∷ []) n
one_in x n e = (0, omega arith, e)

-- a home is named
pub home_named : (o : Option Moving) (home n : ℕ) → home ≡ n → IsTrue (names_moved o home n)
home_named None home n e = eq-eqb home n e
home_named (Some m) home n e = or_left (home == n) (m.to == n) (eq-eqb home n e)

-- and so is a target
pub target_named : (o : Option Moving) (home n : ℕ) (m : Moving) → o ≡ Some m → m.to ≡ n → IsTrue (names_moved o home n)
target_named None home n m is e = absurd (cc is)
target_named (Some k) home n m is e = (let same : k ≡ m = cc is in or_right (home == n) (k.to == n) (eq-eqb k.to n (ap (λ (j : Moving). j.to) same ∙ e)))

-- ONE ENTRY

-- the column that a swap leaves
swapped_is : (t : Table) (c to : ℕ) → length t.columns ≡ width t → c < width t → column_at (after t (Swapped 0 c to)) c ≡ record { home = to; moving = None }
swapped_is t c to sized lt =
    let u : Table = with_losses t.stripes t c in
    let columns : length u.columns ≡ length t.columns = ap length (columns-with_losses t.stripes t c) in
    let wide : width u ≡ width t = width-with_losses t.stripes t c in
    column_same u c (record { home = to; moving = None }) (omega (arith, columns, wide, sized)) (omega (arith, wide, lt))

-- and the others
swapped_other : (t : Table) (c k to : ℕ) → k ≢ c → column_at (after t (Swapped 0 c to)) k ≡ column_at t k
swapped_other t c k to ne =
    let u : Table = with_losses t.stripes t c in
    column_other u c k (record { home = to; moving = None }) ne ∙ ap (λ cs. column_at (record t { columns = cs }) k) (columns-with_losses t.stripes t c)

pub brought_here : (c k to n : ℕ) → c ≡ k → to ≡ n → Contains (if nat_eq c k then to ∷ [] else []) n
brought_here c k to n same is = subst (λ l. Contains l n) (sym (here (nat_eq c k) (eq-eqb c k same))) (one_in to n is)
  where
    here : (b : Bool) → b ≡ true → (if b then to ∷ [] else []) ≡ to ∷ []
    here true e = refl
    here false e = absurd (cc e)

brought_there : (c k to n : ℕ) → Contains (if nat_eq c k then to ∷ [] else []) n → (c ≡ k) × (to ≡ n)
brought_there c k to n h = by (nat_eq c k) refl h
  where
    by : (b : Bool) → nat_eq c k ≡ b → Contains (if b then to ∷ [] else []) n → (c ≡ k) × (to ≡ n)
    by true e h = (eqb-true c k e, one_contained to n h)
    by false e h = absurd (none_contained n h)

module _ (t : Table) (c n : ℕ) (sized : length t.columns ≡ width t) where
  -- a column changed: what it names now it named before, or the entry brought it
  one_changed : (k : ℕ) (u : Table) (x : Column) (B : Type 0) → (c ≡ k → column_at u k ≡ x) → (c ≢ k → column_at u c ≡ column_at t c)
      → (c ≡ k → IsTrue (names x n) → IsTrue (names (column_at t k) n) ⊎ B) → IsTrue (names (column_at u c) n) → IsTrue (names (column_at t c) n) ⊎ B
  one_changed k u x B here there own h = ⊎_elim
      (λ (e : c ≡ k). subst (λ j. IsTrue (names (column_at t j) n) ⊎ B) (sym e)
      (own e (subst (λ y. IsTrue (names y n)) (here e) (subst (λ j. IsTrue (names (column_at u j) n)) e h))))
      (λ (ne : c ≢ k). inl (subst (λ y. IsTrue (names y n)) (there ne) h))
      (cases_eq c k)

  named_after : (e : Entry) → Legal t e → IsTrue (names (column_at (after t e) c) n) → IsTrue (names (column_at t c) n) ⊎ Contains (brought c e) n
  named_after (MoveBegin job k to) legal h =
      let x : Column = record (column_at t k) { moving = Some (record { to = to; upto = 0 }) } in
      one_changed k (after t (MoveBegin job k to)) x (Contains (brought c (MoveBegin job k to)) n)
      (λ e. column_same t k x sized legal.0.0) (λ ne. column_other t k c x ne)
      (λ e named. ⊎_elim
      (λ (is : ((column_at t k).home == n) ≡ true). inl (home_named (column_at t k).moving (column_at t k).home n (eqb-true (column_at t k).home n is)))
      (λ (is : (to == n) ≡ true). inr (brought_here c k to n e (eqb-true to n is)))
      (or_cases ((column_at t k).home == n) (to == n) named))
      h
  named_after (Moved job s k true) legal h =
      one_changed k (after t (Moved job s k true)) (moved_on (column_at t k)) (Contains [] n)
      (λ e. column_same t k (moved_on (column_at t k)) sized legal.0.0) (λ ne. column_other t k c (moved_on (column_at t k)) ne)
      (λ e named. inl (on_names (column_at t k).moving (column_at t k).home n named)) h
  named_after (Moved job s k false) legal h =
      one_changed k (after t (Moved job s k false)) (moved_on (column_at t k)) (Contains [] n)
      (λ e. column_same (with_loss t s k) k (moved_on (column_at t k)) sized legal.0.0) (λ ne. column_other (with_loss t s k) k c (moved_on (column_at t k)) ne)
      (λ e named. inl (on_names (column_at t k).moving (column_at t k).home n named)) h
  named_after (MoveEnd job k) legal h =
      one_changed k (after t (MoveEnd job k)) (moved_home (column_at t k)) (Contains [] n)
      (λ e. column_same t k (moved_home (column_at t k)) sized legal.0) (λ ne. column_other t k c (moved_home (column_at t k)) ne)
      (λ e named. inl (moved_home_names (column_at t k).moving (column_at t k).home n named)) h
  named_after (Swapped job k to) legal h =
      one_changed k (after t (Swapped job k to)) (record { home = to; moving = None }) (Contains (brought c (Swapped job k to)) n)
      (λ e. swapped_is t k to sized legal.0) (λ ne. swapped_other t k c to ne)
      (λ e named. inr (brought_here c k to n e (eqb-true to n named))) h
  named_after _ legal h = inl h

  -- what an entry brings to a column is named then
  pub brought_named : (e : Entry) → Legal t e → Contains (brought c e) n → IsTrue (names (column_at (after t e) c) n)
  brought_named (MoveBegin job k to) legal h =
      let b = brought_there c k to n h in
      let x : Column = record (column_at t k) { moving = Some (record { to = to; upto = 0 }) } in
      subst (λ j. IsTrue (names (column_at (after t (MoveBegin job k to)) j) n)) (sym b.0)
      (subst (λ y. IsTrue (names y n)) (sym (column_same t k x sized legal.0.0)) (or_right ((column_at t k).home == n) (to == n) (eq-eqb to n b.1)))
  brought_named (Swapped job k to) legal h =
      let b = brought_there c k to n h in
      subst (λ j. IsTrue (names (column_at (after t (Swapped job k to)) j) n)) (sym b.0)
      (subst (λ y. IsTrue (names y n)) (sym (swapped_is t k to sized legal.0)) (eq-eqb to n b.1))
  brought_named _ legal h = absurd (none_contained n h)

-- WHOLE LOGS

-- what a column names at a point of a log it named at the beginning, or an entry brought it
named_had : (t : Table) (x y : List Entry) (u : Table) (c n : ℕ) → IsTable t → Replays t (x ++ y) u → IsTrue (names (column_at (replayed t x) c) n) → IsTrue (names (column_at t c) n) ⊎ Contains (brought_by c (x ++ y)) n
named_had t [] y u c n table r h = inl h
named_had t (e ∷ x) y u c n table r h = ⊎_elim
    (λ (named : IsTrue (names (column_at (after t e) c) n)). ⊎_elim
    (λ (was : IsTrue (names (column_at t c) n)). inl was)
    (λ (b : Contains (brought c e) n). inr (Contains-append_left (brought c e) (brought_by c (x ++ y)) n b))
    (named_after t c n table.size.columns e r.0 named))
    (λ (b : Contains (brought_by c (x ++ y)) n). inr (Contains-append_right (brought c e) (brought_by c (x ++ y)) n b))
    (named_had (after t e) x y u c n (after_keeps t e table r.0) r.1 h)

-- an archive that was brought is named at a point of the log
brought_cut : (t : Table) (log : List Entry) (u : Table) (c n : ℕ) → IsTable t → Replays t log u → Contains (brought_by c log) n
    → (x : List Entry) × (y : List Entry) × (log ≡ x ++ y) × IsTrue (names (column_at (replayed t x) c) n)
brought_cut t [] u c n table r h = absurd (none_contained n h)
brought_cut t (e ∷ log) u c n table r h = ⊎_elim
    (λ (b : Contains (brought c e) n). (e ∷ [], log, refl, brought_named t c n table.size.columns e r.0 b))
    (λ (b : Contains (brought_by c log) n). (let rest = brought_cut (after t e) log u c n (after_keeps t e table r.0) r.1 b in (e ∷ rest.0, rest.1, ap (λ l. e ∷ l) rest.2, rest.3)))
    (Contains-append_cases (brought c e) (brought_by c log) n h)

-- a column names it just where the table has a holder
pub named_held : (t : Table) (c n : ℕ) → c < width t → IsTrue (names (column_at t c) n) → IsSome (holder_of t n)
named_held t c n lt h = by (holder_of t n) refl
  where
    by : (o : Option ℕ) → holder_of t n ≡ o → IsSome o
    by (Some k) e = refl
    by None e = absurd (both_ways _ (least_none (width t) (λ k. names (column_at t k) n) e c lt) h)

held_named : (t : Table) (n : ℕ) → IsSome (holder_of t n) → (c : ℕ) × (c < width t) × IsTrue (names (column_at t c) n)
held_named t n some = by (holder_of t n) refl some
  where
    by : (o : Option ℕ) → holder_of t n ≡ o → IsSome o → (c : ℕ) × (c < width t) × IsTrue (names (column_at t c) n)
    by (Some k) e h = (let l = least_some (width t) (λ k. names (column_at t k) n) k e in (k, l.0, l.1))
    by None e h = absurd (cc h)

-- some table of the replay has the number as a home or as a target
abbrev pub IsUsedIn : Table → List Entry → ℕ → Type 0
IsUsedIn t log n = (x : List Entry) × (y : List Entry) × (log ≡ x ++ y) × IsSome (holder_of (replayed t x) n)

-- that is so just where a column has had the archive
module _ (t : Table) (log : List Entry) (u : Table) (n : ℕ) (table : IsTable t) (replay : Replays t log u) where
  pub had_used : (c : ℕ) → c < width t → Contains (archives_of t log c) n → IsUsedIn t log n
  had_used c lt h = ⊎_elim
      (λ (first : Contains ((column_at t c).home ∷ target_of (column_at t c).moving) n).
      ([], log, refl, named_held t c n lt (in_named (column_at t c).moving (column_at t c).home n first)))
      (λ (later : Contains (brought_by c log) n).
      let cut = brought_cut t log u c n table replay later in
      let wide = same_width t cut.0 in
      (cut.0, cut.1, cut.2, named_held (replayed t cut.0) c n (omega (arith, lt, wide)) cut.3))
      (Contains-append_cases ((column_at t c).home ∷ target_of (column_at t c).moving) (brought_by c log) n h)

  pub used_had : IsUsedIn t log n → (c : ℕ) × (c < width t) × Contains (archives_of t log c) n
  used_had (x, y, is, some) =
      let named = held_named (replayed t x) n some in
      let wide = same_width t x in
      let lt = named.1 in
      let had = named_had t x y u named.0 n table (subst (λ l. Replays t l u) is replay) named.2 in (
        named.0,
        omega (arith, lt, wide),
        ⊎_elim
            (λ (first : IsTrue (names (column_at t named.0) n)).
            Contains-append_left ((column_at t named.0).home ∷ target_of (column_at t named.0).moving) (brought_by named.0 log) n
            (named_in (column_at t named.0).moving (column_at t named.0).home n first))
            (λ (later : Contains (brought_by named.0 (x ++ y)) n).
            Contains-append_right ((column_at t named.0).home ∷ target_of (column_at t named.0).moving) (brought_by named.0 log) n
            (subst (λ l. Contains (brought_by named.0 l) n) (sym is) later))
            had,
      )

-- HOW A MOVE ENDS

moved_on_moves : (o : Option Moving) (home : ℕ) → IsSome o → IsSome (moved_on (record { home = home; moving = o })).moving
moved_on_moves None home h = absurd (cc h)
moved_on_moves (Some m) home h = refl

module _ (t : Table) (c : ℕ) (sized : length t.columns ≡ width t) where
  abbrev Ending : Entry → Type 0
  Ending e = ((by : ℕ) × (e ≡ MoveEnd by c)) ⊎ ((by : ℕ) × (to : ℕ) × (e ≡ Swapped by c to))

  still : (k : ℕ) (u : Table) (x : Column) (e : Entry) → (c ≡ k → column_at u k ≡ x) → (c ≢ k → column_at u c ≡ column_at t c)
      → IsSome (column_at t c).moving → (c ≡ k → IsSome (column_at t k).moving → IsSome x.moving ⊎ Ending e) → IsSome (column_at u c).moving ⊎ Ending e
  still k u x e here there moves own = ⊎_elim
      (λ (same : c ≡ k). ⊎_elim
      (λ (some : IsSome x.moving). inl (subst (λ j. IsSome (column_at u j).moving) (sym same) (subst (λ (y : Column). IsSome y.moving) (sym (here same)) some)))
      (λ (ends : Ending e). inr ends)
      (own same (subst (λ j. IsSome (column_at t j).moving) same moves)))
      (λ (ne : c ≢ k). inl (subst (λ (y : Column). IsSome y.moving) (sym (there ne)) moves))
      (cases_eq c k)

  -- a column that moves does so still, or the entry ends its move
  still_moves : (e : Entry) → Legal t e → IsSome (column_at t c).moving → IsSome (column_at (after t e) c).moving ⊎ Ending e
  still_moves (MoveBegin job k to) legal moves =
      let x : Column = record (column_at t k) { moving = Some (record { to = to; upto = 0 }) } in
      still k (after t (MoveBegin job k to)) x (MoveBegin job k to)
      (λ e. column_same t k x sized legal.0.0) (λ ne. column_other t k c x ne) moves (λ e some. inl refl)
  still_moves (Moved job s k true) legal moves =
      still k (after t (Moved job s k true)) (moved_on (column_at t k)) (Moved job s k true)
      (λ e. column_same t k (moved_on (column_at t k)) sized legal.0.0) (λ ne. column_other t k c (moved_on (column_at t k)) ne) moves
      (λ e some. inl (moved_on_moves (column_at t k).moving (column_at t k).home some))
  still_moves (Moved job s k false) legal moves =
      still k (after t (Moved job s k false)) (moved_on (column_at t k)) (Moved job s k false)
      (λ e. column_same (with_loss t s k) k (moved_on (column_at t k)) sized legal.0.0) (λ ne. column_other (with_loss t s k) k c (moved_on (column_at t k)) ne) moves
      (λ e some. inl (moved_on_moves (column_at t k).moving (column_at t k).home some))
  still_moves (MoveEnd job k) legal moves =
      still k (after t (MoveEnd job k)) (moved_home (column_at t k)) (MoveEnd job k)
      (λ e. column_same t k (moved_home (column_at t k)) sized legal.0) (λ ne. column_other t k c (moved_home (column_at t k)) ne) moves
      (λ e some. inr (inl (job, ap (λ j. MoveEnd job j) (sym e))))
  still_moves (Swapped job k to) legal moves =
      still k (after t (Swapped job k to)) (record { home = to; moving = None }) (Swapped job k to)
      (λ e. swapped_is t k to sized legal.0) (λ ne. swapped_other t k c to ne) moves
      (λ e some. inr (inr (job, to, ap (λ j. Swapped job j to) (sym e))))
  still_moves _ legal moves = inl moves

head_in : (e x : Entry) (log : List Entry) → e ≡ x → Contains (e ∷ log) x
head_in e x log is = (0, omega arith, is)

tail_in : (e x : Entry) (log : List Entry) → Contains log x → Contains (e ∷ log) x
tail_in e x log h = (suc h.0, omega (arith, h.1), h.2)

-- a column that moved and moves no more: an entry ended its move
pub move_ended : (t : Table) (log : List Entry) (u : Table) (c : ℕ) → IsTable t → Replays t log u → IsSome (column_at t c).moving → (column_at u c).moving ≡ None → EndsMove c log
move_ended t [] u c table r moves none = absurd (stuck (column_at t c).moving moves (ap (λ v. (column_at v c).moving) (sym r) ∙ none))
  where
    stuck : (o : Option Moving) → IsSome o → o ≡ None → ⊥
    stuck None h e = cc h
    stuck (Some m) h e = cc e
move_ended t (e ∷ log) u c table r moves none = ⊎_elim
    (λ (some : IsSome (column_at (after t e) c).moving). ⊎_elim
    (λ (h : (by : ℕ) × Contains log (MoveEnd by c)). inl (h.0, tail_in e (MoveEnd h.0 c) log h.1))
    (λ (h : (by : ℕ) × (to : ℕ) × Contains log (Swapped by c to)). inr (h.0, h.1, tail_in e (Swapped h.0 c h.1) log h.2))
    (move_ended (after t e) log u c (after_keeps t e table r.0) r.1 some none))
    (λ (ends : ((by : ℕ) × (e ≡ MoveEnd by c)) ⊎ ((by : ℕ) × (to : ℕ) × (e ≡ Swapped by c to))). ⊎_elim
    (λ (h : (by : ℕ) × (e ≡ MoveEnd by c)). inl (h.0, head_in e (MoveEnd h.0 c) log h.1))
    (λ (h : (by : ℕ) × (to : ℕ) × (e ≡ Swapped by c to)). inr (h.0, h.1, head_in e (Swapped h.0 c h.1) log h.2))
    ends)
    (still_moves t c table.size.columns e r.0 moves)
