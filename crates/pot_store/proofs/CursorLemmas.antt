-- The cursor of a group goes on, so that no two puts stand at one place.
use Rattle.std.proofs.Common.{◌≡◌, ◌<◌, ◌⊎◌, inl, inr, ℕ, zero, suc, ◌+◌, Bool, true, false, List, [], ◌∷◌, refl, sym, subst, arith, nat_lt}
use Rattle.std.specs.Prelude.{Contains}
use Rattle.pot_bytes.specs.declared.digest.Digest.{Digest}
use Rattle.pot_machine.specs.declared.cursor.Cursor.{Cursor}
use Rattle.pot_machine.specs.declared.entry.Entry.{Entry}
use Rattle.pot_machine.specs.declared.entry.Entry.TheVariants.{Put, Skip, Seen, Gone, Broke, Fault, Begin, Hop, Mended, GaveUp, Oddly, Stuck, MoveBegin, Moved, MoveEnd, Swapped, Counted, Put2}
use Rattle.pot_machine.specs.Table.{Table}
use Rattle.pot_machine.specs.Machine.{Legal, Replays, after, past}
use Rattle.pot_machine.specs.Laws.{MovesCursor}
use Rattle.pot_machine.proofs.LeftAlone.{cursor_stays}
use Rattle.pot_machine.specs.Logs.{IsKeptPut}

-- a place lies before the cursor
abbrev pub IsBefore : ℕ → ℕ → Cursor → Type 0
IsBefore s c x = (s < x.stripe) ⊎ ((s ≡ x.stripe) × (c < x.column))

-- the cursor after a put
past_goes : (t : Table) (s c : ℕ) (b : Bool) → nat_lt (t.cursor.column + 1) t.data_columns ≡ b → IsBefore s c t.cursor ⊎ ((s ≡ t.cursor.stripe) × (c ≡ t.cursor.column))
    → IsBefore s c (past t t.cursor.stripe t.cursor.column)
past_goes t s c true is (inl (inl lt)) = inl (rw is lt)
past_goes t s c true is (inl (inr (same, lt))) = inr (rw is same, rw is (omega (arith, lt)))
past_goes t s c true is (inr (same, here)) = inr (rw is same, rw is (omega (arith, here)))
past_goes t s c false is (inl (inl lt)) = inl (rw is (omega (arith, lt)))
past_goes t s c false is (inl (inr (same, lt))) = inl (rw is (omega (arith, same)))
past_goes t s c false is (inr (same, here)) = inl (rw is (omega (arith, same)))

past_at : (t : Table) (s c n k : ℕ) → n ≡ t.cursor.stripe → k ≡ t.cursor.column → IsBefore s c t.cursor ⊎ ((s ≡ t.cursor.stripe) × (c ≡ t.cursor.column)) → IsBefore s c (past t n k)
past_at t s c n k at col before =
    subst (λ i. IsBefore s c (past t i k)) (sym at) (subst (λ i. IsBefore s c (past t t.cursor.stripe i)) (sym col) (past_goes t s c (nat_lt (t.cursor.column + 1) t.data_columns) refl before))

unmoved : (t : Table) (e : Entry) (s c : ℕ) → (MovesCursor e → ⊥) → IsBefore s c t.cursor → IsBefore s c (after t e).cursor
unmoved t e s c stays before = subst (λ x. IsBefore s c x) (sym (cursor_stays t e stays)) before

-- what lies before the cursor stays before it
before_stays : (t : Table) (e : Entry) (s c : ℕ) → Legal t e → IsBefore s c t.cursor → IsBefore s c (after t e).cursor
before_stays t (Put job n k d p kept) s c (one, ((at, within), col, takes)) before = past_at t s c n k at col (inl before)
before_stays t (Put2 job n k d p q kept kept2) s c (one, ((at, within), col, takes)) before = past_at t s c n k at col (inl before)
before_stays t (Skip job n) s c ((at, within), takes) (inl lt) = inl (omega (arith, lt, at))
before_stays t (Skip job n) s c ((at, within), takes) (inr (same, lt)) = inl (omega (arith, same, at))
before_stays t (Seen job n k) s c legal before = before
before_stays t (Gone job n k) s c legal before = unmoved t (Gone job n k) s c (λ x. x) before
before_stays t (Broke job n k) s c legal before = unmoved t (Broke job n k) s c (λ x. x) before
before_stays t (Fault job n k) s c legal before = before
before_stays t (Begin job n k) s c legal before = unmoved t (Begin job n k) s c (λ x. x) before
before_stays t (Hop job n k) s c legal before = unmoved t (Hop job n k) s c (λ x. x) before
before_stays t (Mended job n k) s c legal before = unmoved t (Mended job n k) s c (λ x. x) before
before_stays t (GaveUp job n k o) s c legal before = unmoved t (GaveUp job n k o) s c (λ x. x) before
before_stays t (Oddly job n k f) s c legal before = unmoved t (Oddly job n k f) s c (λ x. x) before
before_stays t (Stuck job n k o) s c legal before = before
before_stays t (MoveBegin job k to) s c legal before = unmoved t (MoveBegin job k to) s c (λ x. x) before
before_stays t (Moved job n k copied) s c legal before = unmoved t (Moved job n k copied) s c (λ x. x) before
before_stays t (MoveEnd job k) s c legal before = unmoved t (MoveEnd job k) s c (λ x. x) before
before_stays t (Swapped job k to) s c legal before = unmoved t (Swapped job k to) s c (λ x. x) before
before_stays t (Counted job) s c legal before = before

-- and so it does along a log
before_along : (t : Table) (log : List Entry) (u : Table) (s c : ℕ) → Replays t log u → IsBefore s c t.cursor → IsBefore s c u.cursor
before_along t [] u s c is before = subst (λ (x : Table). IsBefore s c x.cursor) (sym is) before
before_along t (e ∷ log) u s c (legal, more) before = before_along (after t e) log u s c more (before_stays t e s c legal before)

-- the place of a put lies before the cursor behind it
put_before : (t : Table) (job s c : ℕ) (d : Digest) (e : Entry) → IsKeptPut job s c d e → Legal t e → IsBefore s c (after t e).cursor
put_before t job s c d e (inl (p, is)) legal =
    subst (λ x. IsBefore s c (after t x).cursor) (sym is)
    (let l : Legal t (Put job s c d p true) = subst (Legal t) is legal in past_at t s c s c l.1.0.0 l.1.1 (inr (l.1.0.0, l.1.1)))
put_before t job s c d e (inr (p, q, is)) legal =
    subst (λ x. IsBefore s c (after t x).cursor) (sym is)
    (let l : Legal t (Put2 job s c d p q true true) = subst (Legal t) is legal in past_at t s c s c l.1.0.0 l.1.1 (inr (l.1.0.0, l.1.1)))

-- the place of each put that a log has lies before the cursor at its end
pub puts_behind : (t : Table) (log : List Entry) (u : Table) → Replays t log u → (job s c : ℕ) (d : Digest) (e : Entry) → IsKeptPut job s c d e → Contains log e → IsBefore s c u.cursor
puts_behind t [] u is job s c d e put (k, lt, at) = absurd (omega (arith, lt))
puts_behind t (x ∷ log) u (legal, more) job s c d e put (zero, lt, at) =
    before_along (after t x) log u s c more (put_before t job s c d x (subst (IsKeptPut job s c d) (sym at) put) legal)
puts_behind t (x ∷ log) u (legal, more) job s c d e put (suc k, lt, at) = puts_behind (after t x) log u more job s c d e put (k, omega (arith, lt), at)
