-- What a move was stepped to, with what its line began, is a row of the replies.
use Rattle.std.proofs.Common.{◌≡◌, inl, inr, ⊎_elim, ℕ, suc, ◌<◌, ◌≤◌, ◌++◌, Bool, true, false, List, [], ◌∷◌, Option, Some, None, refl, sym, ap, ◌∙◌, subst, arith, append_assoc}
use Rattle.std.specs.Prelude.{cond, nat_lt, Contains, IsSome, filter}
use Rattle.std.proofs.lemmas.Bool.Decides.{nat_tests}
use Rattle.std.proofs.lemmas.List.Elements.{Contains-append_right}
use Rattle.pot_bytes.proofs.Elements.{parted_at}
use Rattle.pot_machine.specs.declared.column.Column.{Column}
use Rattle.pot_machine.specs.declared.column.Moving.{Moving}
use Rattle.pot_machine.specs.declared.entry.Entry.{Entry}
use Rattle.pot_machine.specs.declared.entry.Entry.TheVariants.{MoveBegin, MoveEnd, Swapped}
use Rattle.pot_machine.specs.Table.{Table, column_at}
use Rattle.pot_machine.specs.Machine.{Replays, after}
use Rattle.pot_machine.specs.Rules.{IsTable}
use Rattle.pot_machine.specs.Logs.{job_of, is_of, replayed}
use Rattle.pot_machine.proofs.Columns.{column_same}
use Rattle.pot_machine.proofs.Kept.{after_keeps}
use Rattle.pot_machine.proofs.LeftAlone.{rules_stay}
use Rattle.pot_machine.proofs.Logs.{replays_is, back_replays, front_replays}
use Rattle.pot_replies.specs.Jobs.{is_move_begin, EachIs}
use Rattle.pot_replies.specs.Sections.{JobsAscend, Section}
use Rattle.pot_replies.specs.Settings.{Setting}
use Rattle.pot_replies.specs.Moves.{BeganElsewhere, BeginsMove, IsMigrated, IsMigrateFault, IsStepLogFull, moving_at}
use Rattle.pot_mend.specs.Moves.{IsMoved, IsMoveFault, IsMoveLogFull}
use Rattle.pot_mend.proofs.HadLemmas.{move_ended}
use Rattle.pot_mend.proofs.MoveLemmas.{kept_in}

-- THE ROWS

module _ (s : Setting) (before begun : ℕ → List Entry) (job from to g c : ℕ) (w : Section)
    (begins : BeginsMove s before begun job from to g c) (elsewhere : BeganElsewhere s before begun job from to g) where
  -- where the column moves when the work begins, and nobody swaps its home meanwhile
  pub migrated_is : (slots : ℕ) → IsMoved s job g c slots w → IsSome (moving_at s w.before g c) → ((by n : ℕ) → Contains (w.added g) (Swapped by c n) → ⊥)
      → IsMigrated s before begun job from to slots w
  migrated_is slots is moves unswapped = record {
    group = g;
    column = c;
    begins = begins;
    elsewhere = elsewhere;
    only = is.only;
    moves = is.moves;
    slots_is = is.slots_is;
    ends = ⊎_elim
        (λ (h : (by : ℕ) × Contains (w.added g) (MoveEnd by c)). h)
        (λ (h : (by : ℕ) × (n : ℕ) × Contains (w.added g) (Swapped by c n)). absurd (unswapped h.0 h.1 h.2))
        (is.ends moves);
  }

  pub fault_is : IsMoveFault job g c w → IsMigrateFault s before begun job from to g c w
  fault_is is = record { begins = begins; elsewhere = elsewhere; only = is.only; sofar = is.sofar; stripe = is.stripe; own_is = is.own_is; moves = is.moves }

  pub full_is : IsMoveLogFull job g c w → IsStepLogFull s before begun job from to g w
  full_is is = record {
    column = c;
    begins = begins;
    elsewhere = elsewhere;
    only = is.only;
    moves = is.moves;
    unended = is.unended;
    log = is.log;
    moment = is.moment;
    full = is.full;
  }

-- WHAT A LINE BEGAN MOVES

-- a column that moves does so still, where no entry ends its move
moves_still : (t : Table) (log : List Entry) (u : Table) (c : ℕ) → IsTable t → Replays t log u → IsSome (column_at t c).moving → EachIs is_move_begin log → IsSome (column_at u c).moving
moves_still t log u c table replay moves kinds = by (column_at u c).moving refl
  where
    apart : false ≡ true → ⊥
    apart e = cc

    by : (o : Option Moving) → (column_at u c).moving ≡ o → IsSome o
    by (Some m) e = refl
    by None e = absurd (⊎_elim
        (λ (h : (by : ℕ) × Contains log (MoveEnd by c)). apart (kinds (MoveEnd h.0 c) h.1))
        (λ (h : (by : ℕ) × (to : ℕ) × Contains log (Swapped by c to)). apart (kinds (Swapped h.0 c h.1) h.2))
        (move_ended t log u c table replay moves e))

-- where the jobs ascend, those below one stand in front
none_below : (job : ℕ) (e : Entry) (es : List Entry) → job ≤ job_of e → JobsAscend (e ∷ es) → filter (λ d. nat_lt (job_of d) job) es ≡ []
none_below job e [] le order = refl
none_below job e (d ∷ es) le order =
    let more : job_of e < job_of d = order.0 in
    by (nat_lt (job_of d) job) (not_below (job_of d) job (omega (arith, le, more))) (none_below job d es (omega (arith, le, more)) order.1)
  where
    not_below : (a b : ℕ) → b ≤ a → nat_lt a b ≡ false
    not_below a b le = grind (arith, nat_tests)

    by : (b : Bool) → b ≡ false → filter (λ d. nat_lt (job_of d) job) es ≡ [] → cond b (d ∷ filter (λ d. nat_lt (job_of d) job) es) (filter (λ d. nat_lt (job_of d) job) es) ≡ []
    by true e none = absurd (cc e)
    by false e none = none

rest_ascends : (e : Entry) (es : List Entry) → JobsAscend (e ∷ es) → JobsAscend es
rest_ascends e [] order = tt
rest_ascends e (d ∷ es) order = order.1

below_first : (job : ℕ) (es : List Entry) → JobsAscend es → (rest : List Entry) × (es ≡ filter (λ d. nat_lt (job_of d) job) es ++ rest)
below_first job [] order = ([], refl)
below_first job (e ∷ es) order = by (below_first job es (rest_ascends e es order)) (nat_lt (job_of e) job) refl
  where
    above : (a b : ℕ) → nat_lt a b ≡ false → b ≤ a
    above a b h = grind (arith, nat_tests)

    by : (rest : List Entry) × (es ≡ filter (λ d. nat_lt (job_of d) job) es ++ rest) → (b : Bool) → nat_lt (job_of e) job ≡ b
        → (rest : List Entry) × (e ∷ es ≡ cond b (e ∷ filter (λ d. nat_lt (job_of d) job) es) (filter (λ d. nat_lt (job_of d) job) es) ++ rest)
    by r true h = (r.0, ap (λ l. e ∷ l) r.1)
    by r false h = (e ∷ es, sym (ap (λ l. l ++ e ∷ es) (none_below job e es (above (job_of e) job h) order)))

-- The column that a line began to move, or goes on with, moves when the work begins.
module _ (s : Setting) (before begun : ℕ → List Entry) (job from to g c : ℕ) (u : Table) (table : IsTable (s.first g)) (replay : Replays (s.first g) (before g ++ begun g) u)
    (kinds : EachIs is_move_begin (begun g)) (order : JobsAscend (begun g)) where
  -- from a point of what was begun on
  from_there : (x y : List Entry) → begun g ≡ x ++ y → (IsTable (replayed (s.first g) (before g ++ x)) → Replays (replayed (s.first g) (before g ++ x)) y u → IsSome (column_at u c).moving)
      → IsSome (moving_at s (λ h. before h ++ begun h) g c)
  from_there x y is on =
      let parts : before g ++ begun g ≡ (before g ++ x) ++ y = ap (λ l. before g ++ l) is ∙ sym (append_assoc (before g) x y) in
      let whole : Replays (s.first g) ((before g ++ x) ++ y) u = subst (λ l. Replays (s.first g) l u) parts replay in
      subst (λ t. IsSome (column_at t c).moving) (sym (replays_is (s.first g) (before g ++ begun g) u replay))
      (on (rules_stay (s.first g) (replayed (s.first g) (before g ++ x)) (before g ++ x) table (front_replays (s.first g) (before g ++ x) y u whole))
      (back_replays (s.first g) (before g ++ x) y u whole))

  back_kinds : (x y : List Entry) → begun g ≡ x ++ y → EachIs is_move_begin y
  back_kinds x y is e h = kinds e (subst (λ l. Contains l e) (sym is) (Contains-append_right x y e h))

  pub begins_moves : BeginsMove s before begun job from to g c → IsSome (moving_at s (λ h. before h ++ begun h) g c)
  begins_moves (inl (may, own_is)) =
      let e : Entry = MoveBegin job c to in
      let there : Contains (begun g) e = kept_in (is_of job) (begun g) e (subst (λ es. Contains es e) (sym own_is) (0, omega arith, refl)) in
      let cut = parted_at (begun g) e there in
      from_there cut.0 (e ∷ cut.1) cut.2 (λ now more.
      let t : Table = replayed (s.first g) (before g ++ cut.0) in
      let x : Column = record (column_at t c) { moving = Some (record { to = to; upto = 0 }) } in
      moves_still (after t e) cut.1 u c (after_keeps t e now more.0) more.1
      (subst (λ (y : Column). IsSome y.moving) (sym (column_same t c x now.size.columns more.0.0.0)) refl)
      (λ d h. back_kinds cut.0 (e ∷ cut.1) cut.2 d (suc h.0, omega (arith, h.1), h.2)))
  begins_moves (inr (goes, none)) =
      let r = below_first job (begun g) order in
      let m = goes.1 in
      from_there (filter (λ d. nat_lt (job_of d) job) (begun g)) r.0 r.1 (λ now more.
      moves_still (replayed (s.first g) (before g ++ filter (λ d. nat_lt (job_of d) job) (begun g))) r.0 u c now more
      (subst (λ o. IsSome o) (sym m.1) refl) (back_kinds (filter (λ d. nat_lt (job_of d) job) (begun g)) r.0 r.1))
