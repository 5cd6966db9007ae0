-- How the cause law goes on, over plain data: a log that grows by one entry, counts that rise, and
-- the log of an opening.
use Rattle.std.proofs.Common.{◌≡◌, ◌⊎◌, inl, inr, ℕ, zero, suc, ◌+◌, ◌<◌, ◌≤◌, List, [], ◌∷◌, ◌++◌, append_assoc, append-nil, Bool, true, false, if◌then◌else◌, refl, sym, ap, ◌∙◌, subst, arith}
use Rattle.std.specs.Prelude.{Contains, All}
use Rattle.std.proofs.lemmas.List.Elements.{All-nil, All-cons, All-head, All-tail, All-append}
use Rattle.pot_outside.specs.Counts.{Rose}
use Rattle.pot_machine.specs.declared.entry.Entry.{Entry}
use Rattle.pot_machine.specs.declared.entry.Entry.TheVariants.{Gone, Broke}
use Rattle.pot_machine.specs.Table.{Table, column_at}
use Rattle.pot_machine.specs.Machine.{Replays, after}
use Rattle.pot_steps.specs.GroupStep.{entries_where, opening}
use Rattle.pot_shelves.specs.Shelves.{Shelves}
use Rattle.pot_machine.specs.Column.{target_of}
use Rattle.pot_group.specs.Causes.{fault_of, faults_in, brought, brought_by, archives_of, risen, Covers, Misses, WhereMissed, HasLost}

-- LOGS THAT GROW BY ONE ENTRY

pub faults_in-snoc : (w c : ℕ) (log : List Entry) (e : Entry) → faults_in w c (log ++ e ∷ []) ≡ faults_in w c log + fault_of w c e
faults_in-snoc w c [] e = omega arith
faults_in-snoc w c (x ∷ log) e = omega (arith, faults_in-snoc w c log e)

pub brought_by-snoc : (c : ℕ) (log : List Entry) (e : Entry) → brought_by c (log ++ e ∷ []) ≡ brought_by c log ++ brought c e
brought_by-snoc c [] e = append-nil (brought c e)
brought_by-snoc c (x ∷ log) e = ap (λ l. brought c x ++ l) (brought_by-snoc c log e) ∙ sym (append_assoc (brought c x) (brought_by c log) (brought c e))

-- an entry that brings no archive to the column leaves its archives
pub archives_of-snoc : (first : Table) (log : List Entry) (c : ℕ) (e : Entry) → brought c e ≡ [] → archives_of first (log ++ e ∷ []) c ≡ archives_of first log c
archives_of-snoc first log c e none =
    ap (λ l. (column_at first c).home ∷ (target_of (column_at first c).moving ++ l))
    (brought_by-snoc c log e ∙ ap (λ l. brought_by c log ++ l) none ∙ append-nil (brought_by c log))

pub WhereMissed-snoc : (t u : Table) (log : List Entry) (e : Entry) (c : ℕ) (why : Type 0) → Replays t log u → WhereMissed t log c why → (Misses u e c → why) → WhereMissed t (log ++ e ∷ []) c why
WhereMissed-snoc t u [] e c why r w h = (subst (λ v. Misses v e c → why) r h, tt)
WhereMissed-snoc t u (x ∷ log) e c why r w h = (w.0, WhereMissed-snoc (after t x) u log e c why r.1 w.1 h)

pub WhereMissed-mono : (t : Table) (log : List Entry) (c : ℕ) (why more : Type 0) → (why → more) → WhereMissed t log c why → WhereMissed t log c more
WhereMissed-mono t [] c why more f w = tt
WhereMissed-mono t (x ∷ log) c why more f w = (λ m. f (w.0 m), WhereMissed-mono (after t x) log c why more f w.1)

-- COUNTS THAT RISE

contains_cases : (x : ℕ) (xs : List ℕ) (y : ℕ) → Contains (x ∷ xs) y → (x ≡ y) ⊎ Contains xs y
contains_cases x xs y (zero, b, e) = inl e
contains_cases x xs y (suc k, b, e) = inr (k, omega arith, e)

pub risen-mono : (old new : Shelves) (ns : List ℕ) → ((n : ℕ) → old.faults n ≤ new.faults n) → ((n : ℕ) → new.faults_taken n ≡ old.faults_taken n) → risen old ns ≤ risen new ns
risen-mono old new [] later taken = omega arith
risen-mono old new (n ∷ ns) later taken = omega (arith, later n, taken n, risen-mono old new ns later taken)

-- where one of these archives failed, they failed once more
pub risen-rose : (old new : Shelves) (ns : List ℕ) (n : ℕ) → ((n : ℕ) → old.faults n ≤ new.faults n) → ((n : ℕ) → new.faults_taken n ≡ old.faults_taken n) → Contains ns n → old.faults_taken n ≤ old.faults n → old.faults n < new.faults n → risen old ns + 1 ≤ risen new ns
risen-rose old new [] n later taken (k, b, e) fair rose = absurd (omega arith)
risen-rose old new (x ∷ ns) n later taken m fair rose = elim (contains_cases x ns n m) [
  | inl e ↦ omega (arith, taken n, ap old.faults e, ap new.faults e, ap old.faults_taken e, ap new.faults_taken e, risen-mono old new ns later taken)
  | inr r ↦ omega (arith, later x, taken x, risen-rose old new ns n later taken r fair rose)
]

pub covers-stays : (old new : Shelves) (ns : List ℕ) (k : ℕ) → ((n : ℕ) → old.faults n ≤ new.faults n) → ((n : ℕ) → new.faults_taken n ≡ old.faults_taken n) → Covers old ns k → Covers new ns k
covers-stays old new ns k later taken h = elim h [
  | inl top ↦ inl (top.0, top.1, omega (arith, later top.0, top.2))
  | inr le ↦ inr (omega (arith, risen-mono old new ns later taken))
]

-- where one of these archives failed, one more fault may be named
pub covers-one : (old new : Shelves) (ns : List ℕ) (k n : ℕ) → ((n : ℕ) → old.faults n ≤ new.faults n) → ((n : ℕ) → new.faults_taken n ≡ old.faults_taken n) → Covers old ns k → Contains ns n → old.faults_taken n ≤ old.faults n → Rose (old.faults n) (new.faults n) → Covers new ns (k + 1)
covers-one old new ns k n later taken h m fair rose = elim h [
  | inl top ↦ inl (top.0, top.1, omega (arith, later top.0, top.2))
  | inr le ↦ elim rose [
    | inl lt ↦ inr (omega (arith, risen-rose old new ns n later taken m fair lt))
    | inr top ↦ inl (n, m, top)
  ]
]

pub has_lost-mono : (old new : Shelves) (ns : List ℕ) → ((n : ℕ) → Rose (old.losses_taken n) (old.losses n) → Rose (new.losses_taken n) (new.losses n)) → HasLost old ns → HasLost new ns
has_lost-mono old new ns more h = (h.0, h.1, more h.0 h.2)

-- THE LOG OF AN OPENING

-- an entry of the opening, which is job 0
abbrev pub OfOpening : Entry → Type 0
OfOpening (Gone job s c) = job ≡ 0
OfOpening (Broke job s c) = job ≡ 0
OfOpening _ = ⊥

opening_fault : (w c : ℕ) (e : Entry) → OfOpening e → fault_of w c e ≡ 0
opening_fault w c (Gone job s k) h = refl
opening_fault w c (Broke job s k) h = refl
opening_fault w c _ h = absurd h

opening_brings : (c : ℕ) (e : Entry) → OfOpening e → brought c e ≡ []
opening_brings c (Gone job s k) h = refl
opening_brings c (Broke job s k) h = refl
opening_brings c _ h = absurd h

opening_misses : (t : Table) (e : Entry) (c : ℕ) → OfOpening e → Misses t e c → ⊥
opening_misses t (Gone job s k) c h m = m.0 h
opening_misses t (Broke job s k) c h m = m
opening_misses t _ c h m = h

-- an opening names no fault, says of no block that it is missing, and brings no archive
pub faults_in-opening : (w c : ℕ) (log : List Entry) → All OfOpening log → faults_in w c log ≡ 0
faults_in-opening w c [] h = refl
faults_in-opening w c (e ∷ log) h = omega (arith, opening_fault w c e (All-head OfOpening e log h), faults_in-opening w c log (All-tail OfOpening e log h))

pub brought_by-opening : (c : ℕ) (log : List Entry) → All OfOpening log → brought_by c log ≡ []
brought_by-opening c [] h = refl
brought_by-opening c (e ∷ log) h = rw (opening_brings c e (All-head OfOpening e log h), brought_by-opening c log (All-tail OfOpening e log h)) refl

pub WhereMissed-opening : (t : Table) (log : List Entry) (c : ℕ) (why : Type 0) → All OfOpening log → WhereMissed t log c why
WhereMissed-opening t [] c why h = tt
WhereMissed-opening t (e ∷ log) c why h =
    (λ m. absurd (opening_misses t e c (All-head OfOpening e log h) m), WhereMissed-opening (after t e) log c why (All-tail OfOpening e log h))

pub archives_of-opening : (first : Table) (log : List Entry) (c : ℕ) → All OfOpening log → archives_of first log c ≡ archives_of first [] c
archives_of-opening first log c h = ap (λ l. (column_at first c).home ∷ (target_of (column_at first c).moving ++ l)) (brought_by-opening c log h)

where_each : (n : ℕ) (test : ℕ → Bool) (make : ℕ → Entry) → ((k : ℕ) → OfOpening (make k)) → All OfOpening (entries_where n test make)
unfolding entries_where
where_each zero test make each = All-nil OfOpening
where_each (suc n) test make each = All-append OfOpening (entries_where n test make) (if test n then make n ∷ [] else []) (where_each n test make each) (last (test n))
  where
    last : (b : Bool) → All OfOpening (if b then make n ∷ [] else [])
    last true = All-cons OfOpening (make n) [] (each n) (All-nil OfOpening)
    last false = All-nil OfOpening

-- each entry of an opening is one
pub opening_entries : (wide n : ℕ) (gone broke : ℕ → ℕ → Bool) → All OfOpening (opening wide n gone broke)
unfolding opening
opening_entries wide zero gone broke = All-nil OfOpening
opening_entries wide (suc n) gone broke =
    All-append OfOpening (opening wide n gone broke) (entries_where wide (gone n) (Gone 0 n) ++ entries_where wide (broke n) (Broke 0 n)) (opening_entries wide n gone broke)
    (All-append OfOpening (entries_where wide (gone n) (Gone 0 n)) (entries_where wide (broke n) (Broke 0 n)) (where_each wide (gone n) (Gone 0 n) (λ k. refl)) (where_each wide (broke n) (Broke 0 n) (λ k. refl)))
