-- Puts, one after another.
use Rattle.std.proofs.Common.{◌≡◌, ◌≢◌, ◌≤◌, ◌⊎◌, inl, inr, ⊎_elim, ℕ, zero, suc, Bool, true, false, List, [], ◌∷◌, ◌++◌, length, refl, ap, sym, ◌∙◌, subst, arith, nat_eq, append-nil, append_assoc, eq-eqb, ne_eqb, take, ◌==◌, ◌+◌, if◌then◌else◌}
use Rattle.std.specs.Prelude.{Option, Some, None, Result, Ok, Err, slice_get}
use Rattle.std.proofs.lemmas.List.Elements.{filter-append}
use Rattle.std.proofs.lemmas.Option.{same_Some}
use Rattle.pot_bytes.specs.declared.digest.Digest.{Digest}
use Rattle.pot_bytes.specs.declared.rack.Place.{Place}
use Rattle.pot_machine.specs.declared.entry.Entry.{Entry}
use Rattle.pot_machine.specs.declared.entry.Entry.TheVariants as entry
use Rattle.pot_machine.specs.Table.{Table}
use Rattle.pot_machine.specs.Machine.{Legal, TakesPut}
use Rattle.pot_machine.specs.Logs.{is_of, IsKeptPut}
use Rattle.pot_bytes.specs.Digests.{digest_of}
use Rattle.pot_steps.specs.GroupStep.{Passed, skips, gone_entries, put_entry, unkept}
use Rattle.pot_group.specs.Group.{GroupView}
use Rattle.pot_group.specs.declared.answers.PutFault.{PutFault}
use Rattle.pot_group.specs.declared.answers.PutFault.TheVariants as fault
use Rattle.pot_worked.specs.Laws.{AllOf}
use Rattle.pot_replies.specs.Stores.{Placed, Puts, in_group, IsUnkept}
use Rattle.pot_group.specs.Calls.{PutTells}
use Rattle.pot_rows.proofs.Lists.{take_next as next}
use Rattle.pot_shared.proofs.WorkLemmas.{all_none, all_cons, all_one, all_append}

-- ALL THAT A PUT LOGS IS THE JOB'S

pub gone_of : (job s : ℕ) (gone : Option ℕ) → AllOf (is_of job) (gone_entries job s gone)
gone_of job s None = all_none (is_of job)
gone_of job s (Some c) = all_one (is_of job) (entry.Gone job s c) (eq-eqb job job refl)

pub skips_of : (job : ℕ) (passed : List Passed) → AllOf (is_of job) (skips job passed)
skips_of job [] = all_none (is_of job)
skips_of job (x ∷ xs) =
    all_append (is_of job) (gone_entries job x.stripe x.gone) (entry.Skip job x.stripe ∷ skips job xs) (gone_of job x.stripe x.gone)
    (all_cons (is_of job) (entry.Skip job x.stripe) (skips job xs) (eq-eqb job job refl) (skips_of job xs))

last_of : (job : ℕ) (passed : List Passed) (e : Entry) → is_of job e ≡ true → AllOf (is_of job) (skips job passed ++ e ∷ [])
last_of job passed e is = all_append (is_of job) (skips job passed) (e ∷ []) (skips_of job passed) (all_one (is_of job) e is)

-- with one parity column, and with two
either_of : (one : Bool) (job s c : ℕ) (d p q : Digest) (kept kept2 : Bool) → is_of job (if one then entry.Put job s c d p kept else entry.Put2 job s c d p q kept kept2) ≡ true
either_of true job s c d p q kept kept2 = eq-eqb job job refl
either_of false job s c d p q kept kept2 = eq-eqb job job refl

put_of : (parity job s c : ℕ) (block p q : List ℕ) (kept kept2 : Bool) → is_of job (put_entry parity job s c block p q kept kept2) ≡ true
put_of parity job s c block p q kept kept2 = either_of (nat_eq parity 1) job s c _ _ _ kept kept2

pub all_put : (job : ℕ) (block : List ℕ) (result : Result Place PutFault) (old new : GroupView) (entries : List Entry)
    → PutTells job block result old new entries → AllOf (is_of job) entries
all_put job block (Ok place) old new entries (same, (passed, p, q, is, fits, gones)) =
    subst (λ es. AllOf (is_of job) es) (sym is) (last_of job passed _ (put_of old.table.parity job place.stripe place.column block p q true true))
all_put job block (Err fault.LogFull) old new entries (passed, s, gone, is, fits, here, full, next) =
    subst (λ es. AllOf (is_of job) es) (sym is) (all_append (is_of job) (skips job passed) (gone_entries job s gone) (skips_of job passed) (gone_of job s gone))
all_put job block (Err fault.Full) old new entries (passed, is, fits, behind) = subst (λ es. AllOf (is_of job) es) (sym is) (skips_of job passed)
all_put job block (Err (fault.Faulted column)) old new entries (passed, s, inl (is, stripe, takes, place), fails, gones) =
    subst (λ es. AllOf (is_of job) es) (sym is) (last_of job passed (entry.Fault job s column) (eq-eqb job job refl))
all_put job block (Err (fault.Faulted column)) old new entries (passed, s, inr (c, p, q, kept, kept2, column_is, unkept, is, fits), fails, gones) =
    subst (λ es. AllOf (is_of job) es) (sym is) (last_of job passed _ (put_of old.table.parity job s c block p q kept kept2))

-- WHAT THE ENTRY OF A PUT IS, WITH ONE PARITY COLUMN AND WITH TWO

-- a put that kept its parity blocks
either_kept : (one : Bool) (job s c : ℕ) (d p q : Digest) → IsKeptPut job s c d (if one then entry.Put job s c d p true else entry.Put2 job s c d p q true true)
either_kept true job s c d p q = inl (p, refl)
either_kept false job s c d p q = inr (p, q, refl)

pub kept_put : (parity job s c : ℕ) (block p q : List ℕ) → IsKeptPut job s c (digest_of block) (put_entry parity job s c block p q true true)
kept_put parity job s c block p q = either_kept (nat_eq parity 1) job s c _ _ _

-- where it is legal, its place takes a put
either_takes : (one : Bool) (t : Table) (job s c : ℕ) (d p q : Digest) (kept kept2 : Bool) → Legal t (if one then entry.Put job s c d p kept else entry.Put2 job s c d p q kept kept2) → TakesPut t s c
either_takes true t job s c d p q kept kept2 l = l.1
either_takes false t job s c d p q kept kept2 l = l.1

pub takes_put : (t : Table) (parity job s c : ℕ) (block p q : List ℕ) (kept kept2 : Bool) → Legal t (put_entry parity job s c block p q kept kept2) → TakesPut t s c
takes_put t parity job s c block p q kept kept2 legal =
    either_takes (nat_eq parity 1) t job s c _ _ _ kept kept2 legal

-- one that did not names the first parity column whose block was not written
either_unkept : (one : Bool) (data_columns job s c : ℕ) (d p q : Digest) (kept2 : Bool)
    → IsUnkept data_columns job d data_columns (if one then entry.Put job s c d p false else entry.Put2 job s c d p q false kept2)
either_unkept true data_columns job s c d p q kept2 = inl (s, c, p, refl, refl)
either_unkept false data_columns job s c d p q kept2 = inr (inl (s, c, p, q, kept2, refl, refl))

second_unkept : (data_columns job s c : ℕ) (block p q : List ℕ) → IsUnkept data_columns job (digest_of block) (data_columns + 1) (put_entry 2 job s c block p q true false)
second_unkept data_columns job s c block p q = inr (inr (s, c, _, _, refl, refl))

pub unkept_put : (data_columns parity job s c column : ℕ) (block p q : List ℕ) (kept kept2 : Bool) → column ≡ unkept data_columns kept
    → (kept ≡ false) ⊎ ((parity ≡ 2) × (kept2 ≡ false)) → IsUnkept data_columns job (digest_of block) column (put_entry parity job s c block p q kept kept2)
unkept_put data_columns parity job s c column block p q true kept2 is (inl e) = absurd (cc e)
unkept_put data_columns parity job s c column block p q true kept2 is (inr (two, none)) =
    subst (λ k. IsUnkept data_columns job (digest_of block) k (put_entry parity job s c block p q true kept2)) (sym is)
    (subst (λ n. IsUnkept data_columns job (digest_of block) (data_columns + 1) (put_entry n job s c block p q true kept2)) (sym two)
    (subst (λ b. IsUnkept data_columns job (digest_of block) (data_columns + 1) (put_entry 2 job s c block p q true b)) (sym none) (second_unkept data_columns job s c block p q)))
unkept_put data_columns parity job s c column block p q false kept2 is fails =
    subst (λ k. IsUnkept data_columns job (digest_of block) k (put_entry parity job s c block p q false kept2)) (sym is)
    (either_unkept (nat_eq parity 1) data_columns job s c _ _ _ kept2)

-- LISTS

pub take_all : {X : Type 0} (xs : List X) (n : ℕ) → length xs ≤ n → take n xs ≡ xs
take_all [] zero le = refl
take_all [] (suc n) le = refl
take_all (x ∷ xs) zero le = absurd (omega (arith, le))
take_all (x ∷ xs) (suc n) le = ap (λ w. x ∷ w) (take_all xs n (omega (arith, le)))

-- one element more
pub take_next : {X : Type 0} (xs : List X) (n : ℕ) (x : X) → slice_get xs n ≡ Some x → take (n + 1) xs ≡ take n xs ++ x ∷ []
take_next xs n x is = (let e : n + 1 ≡ suc n = omega arith in ap (λ k. take k xs) e) ∙ next xs n x is

-- an element of a list with one more
pub snoc_get : {X : Type 0} (xs : List X) (x : X) (b : ℕ) (y : X) → slice_get (xs ++ x ∷ []) b ≡ Some y → (slice_get xs b ≡ Some y) ⊎ ((b ≡ length xs) × (y ≡ x))
snoc_get [] x zero y is = inr (refl, sym (same_Some x y is))
snoc_get [] x (suc b) y is = absurd (cc is)
snoc_get (z ∷ xs) x zero y is = inl is
snoc_get (z ∷ xs) x (suc b) y is = ⊎_elim (λ (old : slice_get xs b ≡ Some y). inl old) (λ (new : (b ≡ length xs) × (y ≡ x)). inr (ap suc new.0, new.1)) (snoc_get xs x b y is)

-- PUTS

pub puts_more : (job : ℕ) (xs : List Placed) (es : List Entry) (x : Placed) (passed : List Passed) (e : Entry) → IsKeptPut job x.stripe x.column x.digest e → Puts job xs es
    → Puts job (xs ++ x ∷ []) (es ++ (skips job passed ++ e ∷ []))
puts_more job [] es x passed e kept is =
    (passed, e, [], kept, ap (λ w. w ++ (skips job passed ++ e ∷ [])) is ∙ sym (append-nil (skips job passed ++ e ∷ [])), refl)
puts_more job (y ∷ ys) es x passed e kept (before, f, rest, is_put, is, more) = (
  before,
  f,
  rest ++ (skips job passed ++ e ∷ []),
  is_put,
  ap (λ w. w ++ (skips job passed ++ e ∷ [])) is ∙ append_assoc (skips job before ++ f ∷ []) rest (skips job passed ++ e ∷ []),
  puts_more job ys rest x passed e kept more,
)

in_here : (g : ℕ) (x : Placed) → x.group ≡ g → in_group g (x ∷ []) ≡ x ∷ []
in_here g x e = rw (eq-eqb x.group g e) refl

in_there : (g : ℕ) (x : Placed) → x.group ≢ g → in_group g (x ∷ []) ≡ []
in_there g x ne = rw (ne_eqb x.group g ne) refl

pub in_more : (g : ℕ) (xs : List Placed) (x : Placed) → x.group ≡ g → in_group g (xs ++ x ∷ []) ≡ in_group g xs ++ x ∷ []
in_more g xs x e = filter-append (λ y. y.group == g) xs (x ∷ []) ∙ ap (λ s. in_group g xs ++ s) (in_here g x e)

pub in_same : (g : ℕ) (xs : List Placed) (x : Placed) → x.group ≢ g → in_group g (xs ++ x ∷ []) ≡ in_group g xs
in_same g xs x ne = filter-append (λ y. y.group == g) xs (x ∷ []) ∙ (ap (λ s. in_group g xs ++ s) (in_there g x ne) ∙ append-nil (in_group g xs))
