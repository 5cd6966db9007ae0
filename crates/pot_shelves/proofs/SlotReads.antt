-- The slots of a stripe are read one after the other, their blocks are digested, and what is
-- missing is noted.
use Rattle.std.proofs.Common.{◌≡◌, ◌≢◌, inl, inr, ℕ, zero, suc, ◌+◌, ◌<◌, ◌≤◌, List, [], ◌∷◌, ◌++◌, length, length-set, set, get_or, Option, Some, None, Bool, true, false, ◌&&◌, IsTrue, Contains, refl, sym, ap, ◌∙◌, subst, arith, append-nil, if◌then◌else◌}
use Rattle.std.specs.Prelude.{◌==◌, Result, Ok, Err, slice_get, map}
use Rattle.std.proofs.lemmas.Bool.{false≢true}
use Rattle.std.proofs.lemmas.Bool.Decides.{eqb_tells}
use Rattle.std.proofs.lemmas.Option.{same_Some, none-some, slice_get-get_or}
use Rattle.pot_bytes.specs.declared.digest.Digest.{Digest}
use Rattle.pot_bytes.specs.Digests.{digest_bytes, digest_of}
use Rattle.pot_bytes.specs.Lists.{IsBlock}
use Rattle.pot_bytes.proofs.Elements.{element_at}
use Rattle.pot_bytes.proofs.Basis.{last_or}
use Rattle.pot_outside.specs.Counts.{Rose}
use Rattle.pot_outside.specs.declared.archive.Held.{Held as IsHeld}
use Rattle.pot_outside.specs.declared.archive.Held.TheVariants.{Held, Absent}
use Rattle.pot_outside.specs.declared.faults.Failed.{Failed}
use Rattle.pot_machine.proofs.Columns.{names_serving}
use Rattle.pot_machine.specs.declared.slot.SlotState.{SlotState}
use Rattle.pot_machine.specs.declared.slot.SlotState.TheVariants.{Void, Live, Lost, Broken}
use Rattle.pot_machine.specs.declared.entry.Entry.{Entry}
use Rattle.pot_machine.specs.declared.entry.Entry.TheVariants.{Gone}
use Rattle.pot_machine.specs.Slot.{is_live}
use Rattle.pot_machine.specs.Table.{Table, width, slot_at, column_at, serving_at}
use Rattle.pot_machine.specs.Machine.{Legal, after}
use Rattle.pot_shelves.specs.declared.slots.Reading.{Reading}
use Rattle.pot_shelves.specs.declared.opening.Part.{Part}
use Rattle.pot_shelves.specs.declared.opening.Part.TheVariants as part
use Rattle.pot_shelves.specs.declared.opening.Shortage.{Shortage}
use Rattle.pot_shelves.specs.Shelves.{Shelves, ShelvesStay}
use Rattle.pot_shelves.specs.Opening.{HasArchives, FailedSo, IsPart, is_held, AnswerMeans, ReadsSlot, ReadsColumns, AreDigests, is_missing, OpensSlot, OpensColumns}
use Rattle.pot_shelves.proofs.ShelfLemmas.{stays_refl, stays_then}
use Rattle.pot_shelves.proofs.OpeningLogs.{with_at, at_here, at_below}
use Rattle.pot_shelves.proofs.OpeningColumns.{failed_none, served}

-- LISTS WITH ONE ELEMENT SET

get_set_other : {X : Type 0} (xs : List X) (n k : ℕ) (x : X) → k ≢ n → slice_get (set xs n x) k ≡ slice_get xs k
get_set_other [] n k x ne = refl
get_set_other (y ∷ xs) zero zero x ne = absurd (ne refl)
get_set_other (y ∷ xs) zero (suc k) x ne = refl
get_set_other (y ∷ xs) (suc n) zero x ne = refl
get_set_other (y ∷ xs) (suc n) (suc k) x ne = get_set_other xs n k x (λ e. ne (ap suc e))

-- an element that stands where another was set is that one
get_set_is : {X : Type 0} (xs : List X) (n : ℕ) (x y : X) → slice_get (set xs n x) n ≡ Some y → y ≡ x
get_set_is [] n x y e = absurd (cc)
get_set_is (z ∷ xs) zero x y e = sym (same_Some x y e)
get_set_is (z ∷ xs) (suc n) x y e = get_set_is xs n x y e

-- THE READS

pub reads_none : (told : Type 0) (s : ℕ) (t : Table) (readings : List Reading) (a : Shelves) → length readings ≡ 20 → ReadsColumns told 0 s t readings a a
reads_none told s t readings a long = record { places = long; at = λ c. a; begins = refl; ends = refl; reads = λ c r lt. absurd (omega (arith, lt)) }

pub reads_more : (told : Type 0) (n s : ℕ) (t : Table) (readings : List Reading) (r : Reading) (a b c : Shelves) → ReadsColumns told n s t readings a b → ReadsSlot told s n t r b c
    → ReadsColumns told (suc n) s t (set readings n r) a c
reads_more told n s t readings r a b c o x = record {
  places = length-set readings n r ∙ o.places;
  at = at';
  begins = at_below (suc n) o.at c 0 (omega arith) ∙ o.begins;
  ends = at_here (suc n) o.at c;
  reads = λ k q lt e. elim (last_or k n lt) [
    | inl same ↦ subst (λ k. ReadsSlot told s k t q (at' k) (at' (suc k))) (sym same) (here q (subst (λ k. slice_get (set readings n r) k ≡ Some q) same e))
    | inr below ↦ there k q below (sym (get_set_other readings n k r (omega (arith, below))) ∙ e)
  ];
}
  where
    at' : ℕ → Shelves
    at' = with_at (suc n) o.at c

    here : (q : Reading) → slice_get (set readings n r) n ≡ Some q → ReadsSlot told s n t q (at' n) (at' (suc n))
    here q e = subst (λ q. ReadsSlot told s n t q (at' n) (at' (suc n))) (sym (get_set_is readings n r q e))
        (subst (λ b. ReadsSlot told s n t r b (at' (suc n))) (sym (at_below (suc n) o.at c n (omega arith) ∙ o.ends))
        (subst (λ c. ReadsSlot told s n t r b c) (sym (at_here (suc n) o.at c)) x))

    there : (k : ℕ) (q : Reading) → k < n → slice_get readings k ≡ Some q → ReadsSlot told s k t q (at' k) (at' (suc k))
    there k q lt e = subst (λ b. ReadsSlot told s k t q b (at' (suc k))) (sym (at_below (suc n) o.at c k (omega (arith, lt))))
        (subst (λ c. ReadsSlot told s k t q (o.at k) c) (sym (at_below (suc n) o.at c (suc k) (omega (arith, lt)))) (o.reads k q lt e))

-- reads change nothing but by losses
reads_stays : (told : Type 0) (n s : ℕ) (t : Table) (readings : List Reading) (a b : Shelves) → n ≤ 20 → ReadsColumns told n s t readings a b → ShelvesStay told a b
reads_stays told n s t readings a b le o = subst (λ a. ShelvesStay told a b) o.begins (subst (λ b. ShelvesStay told (o.at 0) b) o.ends (upto n (omega arith)))
  where
    one : (k : ℕ) → k < n → ShelvesStay told (o.at k) (o.at (suc k))
    one k lt = let (r, e) = element_at readings k (omega (arith, lt, le, o.places)) in (o.reads k r lt e).stays

    upto : (k : ℕ) → k ≤ n → ShelvesStay told (o.at 0) (o.at k)
    upto zero le = stays_refl told (o.at 0)
    upto (suc k) le = stays_then told (o.at 0) (o.at k) (o.at (suc k)) (upto k (omega (arith, le))) (one k (omega (arith, le)))

-- an archive that serves a slot of the table is there while slots are read
pub reads_served : (told : Type 0) (n s : ℕ) (t : Table) (readings : List Reading) (a b : Shelves) → n ≤ 20 → ReadsColumns told n s t readings a b
    → HasArchives t a.numbers → (c : ℕ) → c < width t → Contains b.numbers (serving_at t s c)
reads_served told n s t readings a b le o h c lt =
    subst (λ ns. Contains ns (serving_at t s c)) (sym (reads_stays told n s t readings a b le o).keeps.numbers) (h c (serving_at t s c) lt (names_serving (column_at t c) s))

-- the read of a slot stands where the columns before it are opened
pub reads_later : (told : Type 0) (n s : ℕ) (t u : Table) (before mid : List Entry) (shortage : Shortage) (first second : List ℕ) (a b : Shelves) (r : Reading) (x y : Shelves)
    → OpensColumns told n s t u before mid shortage first second a b → n < width t → ReadsSlot told s n t r x y → ReadsSlot told s n u r x y
reads_later told n s t u before mid shortage first second a b r x y o lt q = record {
  stays = q.stays;
  means = subst (λ z. AnswerMeans told z (serving_at u s n) s r.block r.answer x y) (sym (o.later n (omega arith) lt))
      (subst (λ m. AnswerMeans told (slot_at t s n) m s r.block r.answer x y) (sym (served s t u o.changes s n)) q.means);
}

-- THE DIGESTS

pub digests_none : (readings : List Reading) (digests : List Digest) → length digests ≡ 20 → AreDigests 0 readings digests
digests_none readings digests long = record { places = long; right = λ c r d lt. absurd (omega (arith, lt)) }

-- one digest more, of a block that was read or of any other
pub digests_more : (n m : ℕ) (readings : List Reading) (digests : List Digest) (r : Reading) (d : Digest) → m ≤ n + 1 → slice_get readings n ≡ Some r → (IsTrue (is_held r.answer) → d ≡ digest_of r.block)
    → AreDigests n readings digests → AreDigests m readings (set digests n d)
digests_more n m readings digests r d le at is below = record {
  places = length-set digests n d ∙ below.places;
  right = λ c q e lt f g h. elim (last_or c n (omega (arith, lt, le))) [
    | inl same ↦ here q e (subst (λ c. slice_get readings c ≡ Some q) same f) (subst (λ c. slice_get (set digests n d) c ≡ Some e) same g) h
    | inr less ↦ below.right c q e less f (sym (get_set_other digests n c d (omega (arith, less))) ∙ g) h
  ];
}
  where
    here : (q : Reading) (e : Digest) → slice_get readings n ≡ Some q → slice_get (set digests n d) n ≡ Some e → IsTrue (is_held q.answer) → e ≡ digest_of q.block
    here q e f g h =
        let same : q ≡ r = same_Some q r (sym f ∙ at) in
        get_set_is digests n d e g ∙ is (subst (λ (q : Reading). IsTrue (is_held q.answer)) same h) ∙ ap (λ (q : Reading). digest_of q.block) (sym same)

-- a block that was not read needs no digest
pub digests_past : (n : ℕ) (readings : List Reading) (digests : List Digest) (r : Reading) → slice_get readings n ≡ Some r → is_held r.answer ≡ false
    → AreDigests n readings digests → AreDigests (n + 1) readings digests
digests_past n readings digests r at dead below = record {
  places = below.places;
  right = λ c q e lt f g h. elim (last_or c n (omega (arith, lt))) [
    | inl same ↦ absurd (none q (subst (λ c. slice_get readings c ≡ Some q) same f) h)
    | inr less ↦ below.right c q e less f g h
  ];
}
  where
    none : (q : Reading) → slice_get readings n ≡ Some q → IsTrue (is_held q.answer) → ⊥
    none q f h = let same : q ≡ r = same_Some q r (sym f ∙ at) in absurd (let live : is_held r.answer ≡ true = ap (λ (q : Reading). is_held q.answer) (sym same) ∙ h in cc)

-- the digest that was taken of a block
pub digest_is : (block bytes : List ℕ) (d : Digest) → bytes ≡ block → d.bytes ≡ digest_bytes bytes → d ≡ digest_of block
unfolding digest_of
digest_is block bytes d v e = ap made (e ∙ ap digest_bytes v)
  where
    made : List ℕ → Digest
    made xs = record { bytes = xs }

-- four digests that were taken side by side are those of the next four blocks
pub digests_four : (n : ℕ) (readings : List Reading) (digests four : List Digest) (z : Digest) (p q r s : Reading) → length readings ≡ 20 → n + 4 ≤ 20
    → four ≡ map (λ block. record { bytes = digest_bytes block })
    ((get_or readings n p).block ∷ (get_or readings (n + 1) q).block ∷ (get_or readings (n + 2) r).block ∷ (get_or readings (n + 3) s).block ∷ [])
    → AreDigests n readings digests → AreDigests (n + 4) readings (set (set (set (set digests n (get_or four 0 z)) (n + 1) (get_or four 1 z)) (n + 2) (get_or four 2 z)) (n + 3) (get_or four 3 z))
unfolding digest_of
digests_four n readings digests four z p q r s long le e below =
    digests_more (n + 3) (n + 4) readings (set (set (set digests n (get_or four 0 z)) (n + 1) (get_or four 1 z)) (n + 2) (get_or four 2 z)) (get_or readings (n + 3) s) (get_or four 3 z) (omega arith)
    (slice_get-get_or readings (n + 3) s (omega (arith, le, long))) (λ h. ap (λ xs. get_or xs 3 z) e)
    (digests_more (n + 2) (n + 3) readings (set (set digests n (get_or four 0 z)) (n + 1) (get_or four 1 z)) (get_or readings (n + 2) r) (get_or four 2 z) (omega arith)
    (slice_get-get_or readings (n + 2) r (omega (arith, le, long))) (λ h. ap (λ xs. get_or xs 2 z) e)
    (digests_more (n + 1) (n + 2) readings (set digests n (get_or four 0 z)) (get_or readings (n + 1) q) (get_or four 1 z) (omega arith)
    (slice_get-get_or readings (n + 1) q (omega (arith, le, long))) (λ h. ap (λ xs. get_or xs 1 z) e)
    (digests_more n (n + 1) readings digests (get_or readings n p) (get_or four 0 z) (omega arith) (slice_get-get_or readings n p (omega (arith, le, long))) (λ h. ap (λ xs. get_or xs 0 z) e) below)))

-- WHAT IS NOTED

-- whether a read failed
abbrev is_failed : Option (Result IsHeld Failed) → Bool
is_failed None = false
is_failed (Some (Ok h)) = false
is_failed (Some (Err e)) = true

-- a block of the digest that is wanted is there only where the read gave it or failed
not_there : (told : Type 0) (number s : ℕ) (block : List ℕ) (d : Digest) (o : Option (Result IsHeld Failed)) (a b : Shelves) → AnswerMeans told (Live d) number s block o a b
    → (IsTrue (is_held o) → digest_of block ≢ d) → told → is_failed o ≡ false → (other : List ℕ) → b.held number s ≡ Some other → digest_of other ≢ d
not_there told number s block d None a b m w z f other h q = false≢true (sym m)
not_there told number s block d (Some (Ok Held)) a b m w z f other h q = w refl (ap digest_of (same_Some block other (sym (m.0 z) ∙ h)) ∙ q)
not_there told number s block d (Some (Ok Absent)) a b m w z f other h q = none-some other (sym (m.0 z) ∙ h)
not_there told number s block d (Some (Err e)) a b m w z f other h q = false≢true (sym f)

-- the archive failed where the read did
read_failed : (told : Type 0) (x : SlotState) (number s : ℕ) (block : List ℕ) (o : Option (Result IsHeld Failed)) (a b : Shelves) → ShelvesStay told a b → AnswerMeans told x number s block o a b
    → (n : ℕ) → FailedSo a b n (if is_failed o && (number == n) then 1 else 0)
read_failed told x number s block None a b y m n = failed_none told a b n y
read_failed told x number s block (Some (Ok h)) a b y m n = failed_none told a b n y
read_failed told x number s block (Some (Err e)) a b y m n = elim (eqb_tells number n) [
  | inl t ↦ rw t.0 (subst (λ k. FailedSo a b k 1) t.1 (once (m.1 refl)))
  | inr t ↦ rw t.0 (failed_none told a b n y)
]
  where
    once : Rose (a.faults number) (b.faults number) → FailedSo a b number 1
    once (inl l) = inr (omega (arith, l))
    once (inr l) = inl l

module _ (told : Type 0) (s c : ℕ) (t : Table) (r : Reading) (before : List Entry) (a b : Shelves) (x : ReadsSlot told s c t r a b) where
  -- nothing is noted
  opens_quiet : (p : Part) → IsPart (slot_at t s c) r.block p → (is_live (slot_at t s c) && is_missing p) ≡ false
      → (told → p ≡ part.Present → b.held (serving_at t s c) s ≡ Some r.block) → OpensSlot told s c t t before before p r.block a b
  opens_quiet p is quiet reads = record {
    gone = false;
    failed = false;
    is = is;
    found = sym quiet;
    missing = λ z e. absurd (cc);
    reads = reads;
    log = sym (append-nil before);
    replay = refl;
    few = λ n. failed_none told a b n x.stays;
    stays = x.stays;
  }

  pub opens_void : slot_at t s c ≡ Void → OpensSlot told s c t t before before part.Empty r.block a b
  opens_void e = opens_quiet part.Empty e (ap (λ y. is_live y && false) e) (λ z q. absurd (cc))

  pub opens_lost : (d : Digest) → slot_at t s c ≡ Lost d → OpensSlot told s c t t before before (part.Missing d) r.block a b
  opens_lost d e = opens_quiet (part.Missing d) (inr e) (ap (λ y. is_live y && true) e) (λ z q. absurd (cc))

  pub opens_broken : (d : Digest) → slot_at t s c ≡ Broken d → OpensSlot told s c t t before before part.Broken r.block a b
  opens_broken d e = opens_quiet part.Broken (d, e) (ap (λ y. is_live y && false) e) (λ z q. absurd (cc))

  pub opens_sound : (d : Digest) → slot_at t s c ≡ Live d → IsTrue (is_held r.answer) → digest_of r.block ≡ d → IsBlock r.block → OpensSlot told s c t t before before part.Present r.block a b
  opens_sound d e h q block = opens_quiet part.Present (e ∙ ap Live (sym q), block) (ap (λ y. is_live y && false) e) (λ z _. gave r.answer h x.means z)
    where
      gave : (o : Option (Result IsHeld Failed)) → IsTrue (is_held o) → AnswerMeans told (slot_at t s c) (serving_at t s c) s r.block o a b → told → b.held (serving_at t s c) s ≡ Some r.block
      gave None h m z = absurd (cc)
      gave (Some (Ok Held)) h m z = m.0 z
      gave (Some (Ok Absent)) h m z = absurd (cc)
      gave (Some (Err e)) h m z = absurd (cc)

  pub opens_gone : (d : Digest) (u : Table) (now : List Entry) → slot_at t s c ≡ Live d → (IsTrue (is_held r.answer) → digest_of r.block ≢ d) → Legal t (Gone 0 s c)
      → u ≡ after t (Gone 0 s c) → now ≡ before ++ Gone 0 s c ∷ [] → OpensSlot told s c t u before now (part.Missing d) r.block a b
  opens_gone d u now e w legal table log = record {
    gone = true;
    failed = is_failed r.answer;
    is = inl e;
    found = sym (ap (λ y. is_live y && true) e);
    missing = λ z g f y. not_there told (serving_at t s c) s r.block d r.answer a b (subst (λ y. AnswerMeans told y (serving_at t s c) s r.block r.answer a b) e x.means) w z f y.0 y.1.held
        (y.1.right ∙ live_is y.1.digest (sym y.1.live ∙ e));
    reads = λ z q. absurd (cc);
    log = log;
    replay = (legal, table);
    few = read_failed told (slot_at t s c) (serving_at t s c) s r.block r.answer a b x.stays x.means;
    stays = x.stays;
  }
    where
      live_is : (f : Digest) → Live f ≡ Live d → f ≡ d
      live_is f q = cc
