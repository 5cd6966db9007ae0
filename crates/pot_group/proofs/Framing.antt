-- What a group's archives may hold, over losses, over an archive that comes and over the entries of
-- its calls.
use Rattle.std.proofs.Common.{◌≡◌, ◌≢◌, ◌⊎◌, inl, inr, ℕ, suc, ◌+◌, ◌<◌, ◌≤◌, ◌==◌, ◌++◌, List, [], ◌∷◌, Option, Some, None, Bool, true, false, length, refl, sym, ap, ◌∙◌, subst, arith, length-append}
use Rattle.std.specs.Prelude.{Contains, Result, Ok, Err, if◌then◌else◌}
use Rattle.std.proofs.lemmas.Bool.Decides.{nat_tests}
use Rattle.std.proofs.lemmas.Bool.{cases_eq, eq-eqb}
use Rattle.std.proofs.lemmas.List.Elements.{Contains-push_cases}
use Rattle.pot_bytes.proofs.Elements.{contains_later}
use Rattle.pot_outside.specs.Archives.{Meaning, Remembers}
use Rattle.pot_outside.specs.declared.faults.Failed.{Failed}
use Rattle.pot_machine.specs.declared.entry.Entry.{Entry}
use Rattle.pot_machine.specs.declared.entry.Entry.TheVariants as entry
use Rattle.pot_machine.specs.Table.{Table}
use Rattle.pot_machine.specs.Machine.{Replays, after}
use Rattle.pot_steps.specs.Holdings.{Holdings}
use Rattle.pot_shelves.specs.Shelves.{Shelves, Keeps, Brings, LosesByCount, WriteLeaves, WritesAt, put_at}
use Rattle.pot_outside.specs.Counts.{Rose}
use Rattle.pot_doubles.proofs.CallLemmas.{rose_later}
use Rattle.pot_shelves.proofs.ShelfLemmas.{lost_rose, rose_more, put_at-here, put_at-other}
use Rattle.pot_group.specs.Frames.{Tries, ArePlaced, tried_at, MayFail, MayWrite, FailedBy, WrittenBy, IsFramed}

-- ONE ENTRY MORE

-- the blocks of puts that there are still
abbrev pub AreIn : Tries → Tries → Type 0
AreIn few more = (i : ℕ) (b : List ℕ) → tried_at few i ≡ Some b → tried_at more i ≡ Some b

pub tried_front : (few more : Tries) → AreIn few (few ++ more)
tried_front [] more i b h = absurd (cc)
tried_front ((n, c) ∷ few) more i b h = either (n == i) (tried_front few more i b) h
  where
    either : (same : Bool) → (tried_at few i ≡ Some b → tried_at (few ++ more) i ≡ Some b) → (if same then Some c else tried_at few i) ≡ Some b
        → (if same then Some c else tried_at (few ++ more) i) ≡ Some b
    either true rest h = h
    either false rest h = rest h

-- the block of a put at an entry behind those of the others
pub tried_last : (tried : Tries) (n : ℕ) (b : List ℕ) → ((x : ℕ × List ℕ) → Contains tried x → x.0 < n) → tried_at (tried ++ (n, b) ∷ []) n ≡ Some b
tried_last [] n b below = ap (λ same. if same then Some b else None) (eq-eqb n n refl)
tried_last ((k, c) ∷ tried) n b below =
    ap (λ same. if same then Some c else tried_at (tried ++ (n, b) ∷ []) n) (other k n (below (k, c) (0, omega arith, refl)))
    ∙ tried_last tried n b (λ x h. below x (contains_later (k, c) x tried h))
  where
    other : (k n : ℕ) → k < n → (k == n) ≡ false
    other k n lt = grind (arith, nat_tests)

-- and one more
pub placed_more : (tried : Tries) (n : ℕ) (b : List ℕ) → ArePlaced tried n → ArePlaced (tried ++ (n, b) ∷ []) (n + 1)
placed_more tried n b placed = record {
  few = (let l : length (tried ++ (n, b) ∷ []) ≡ length tried + 1 = length-append tried ((n, b) ∷ []) in omega (arith, placed.few));
  below = λ x h. elim (Contains-push_cases tried (n, b) x h) [
    | inl y ↦ (let l : x.0 < n = placed.below x y in omega (arith, l))
    | inr y ↦ subst (λ (z : ℕ × List ℕ). z.0 < n + 1) y (omega arith)
  ];
}

pub placed_later : (tried : Tries) (n : ℕ) → ArePlaced tried n → ArePlaced tried (n + 1)
placed_later tried n placed = record { few = omega (arith, placed.few); below = λ x h. (let l : x.0 < n = placed.below x h in omega (arith, l)) }

may_still : (few more : Tries) (i : ℕ) (t : Table) (e : Entry) (n m : ℕ) (b : List ℕ) → AreIn few more → MayWrite few i t e n m b → MayWrite more i t e n m b
may_still few more i t (entry.Fault job s c) n m b are (es, into, inl h) = (es, into, inl (h.0, are i b h.1))
may_still few more i t (entry.Fault job s c) n m b are (es, into, inr h) = (es, into, inr h)
may_still few more i t (entry.Put job s c digest parity_digest kept) n m b are h = h
may_still few more i t (entry.Put2 job s c digest parity_digest second_digest kept kept2) n m b are h = h
may_still few more i t (entry.Mended job s c) n m b are h = h
may_still few more i t (entry.Moved job s c copied) n m b are h = h
may_still few more i t _ n m b are h = absurd h

written_more : (few more : Tries) (i : ℕ) (t : Table) (log : List Entry) (e : Entry) (n m : ℕ) (b : List ℕ) → AreIn few more → WrittenBy few i t log n m b → WrittenBy more i t (log ++ e ∷ []) n m b
written_more few more i t [] e n m b are h = absurd h
written_more few more i t (x ∷ log) e n m b are (inl h) = inl (may_still few more i t x n m b are h)
written_more few more i t (x ∷ log) e n m b are (inr h) = inr (written_more few more (suc i) (after t x) log e n m b are h)

written_from : (tried : Tries) (i k : ℕ) (t u : Table) (log : List Entry) (e : Entry) (n m : ℕ) (b : List ℕ) → Replays t log u → k ≡ i + length log → MayWrite tried k u e n m b
    → WrittenBy tried i t (log ++ e ∷ []) n m b
written_from tried i k t u [] e n m b r is h = inl (subst (λ v. MayWrite tried i v e n m b) r (subst (λ j. MayWrite tried j u e n m b) (is ∙ none i) h))
  where
    none : (i : ℕ) → i + 0 ≡ i
    none i = omega arith
written_from tried i k t u (x ∷ log) e n m b r is h = inr (written_from tried (suc i) k (after t x) u log e n m b r.1 (is ∙ one i (length log)) h)
  where
    one : (i l : ℕ) → i + suc l ≡ suc i + l
    one i l = omega arith

written_last : (tried : Tries) (t u : Table) (log : List Entry) (e : Entry) (n m : ℕ) (b : List ℕ) → Replays t log u → MayWrite tried (length log) u e n m b → WrittenBy tried 0 t (log ++ e ∷ []) n m b
written_last tried t u log e n m b r h = written_from tried 0 (length log) t u log e n m b r (zero (length log)) h
  where
    zero : (l : ℕ) → l ≡ 0 + l
    zero l = omega arith

failed_more : (t : Table) (log : List Entry) (e : Entry) (n m : ℕ) → FailedBy t log n m → FailedBy t (log ++ e ∷ []) n m
failed_more t [] e n m h = absurd h
failed_more t (x ∷ log) e n m (inl h) = inl h
failed_more t (x ∷ log) e n m (inr h) = inr (failed_more (after t x) log e n m h)

failed_last : (t u : Table) (log : List Entry) (e : Entry) (n m : ℕ) → Replays t log u → MayFail u e n m → FailedBy t (log ++ e ∷ []) n m
failed_last t u [] e n m r h = inl (subst (λ v. MayFail v e n m) r h)
failed_last t u (x ∷ log) e n m r h = inr (failed_last (after t x) u log e n m r.1 h)

-- some block is in a slot
abbrev pub IsFull : Holdings → ℕ → ℕ → Type 0
IsFull h n m = (x : List ℕ) × (h n m ≡ Some x)

-- What the archives were to hold after an entry, and what they remember then, was held and
-- remembered before, or the entry may have written it. And a slot that had a block was to have one,
-- or the entry tells of a write that failed there.
pub record Frames (tried : Tries) (i : ℕ) (t : Table) (e : Entry) (old : Shelves) (h : Holdings) (new : Shelves) : Type 0 where
  pub held : (n m : ℕ) (b : List ℕ) → h n m ≡ Some b → (old.held n m ≡ Some b) ⊎ MayWrite tried i t e n m b
  pub history : (n : ℕ) (b : List ℕ) → Contains (new.history n) b → Contains (old.history n) b ⊎ ((m : ℕ) × MayWrite tried i t e n m b)
  pub full : (n m : ℕ) (b : List ℕ) → old.held n m ≡ Some b → IsFull h n m ⊎ MayFail t e n m

-- a count of losses that rose before has risen after, and so it has where a block went
module _ (h : Holdings) (a b : Shelves) (keeps : Keeps a b) (loses : LosesByCount h a b) (marked : (n : ℕ) → a.losses_taken n ≤ a.losses n) where
  rose_on : (n : ℕ) → Rose (a.losses_taken n) (a.losses n) → Rose (b.losses_taken n) (b.losses n)
  rose_on n r = subst (λ x. Rose x (b.losses n)) (sym (keeps.losses_taken n)) (rose_more (a.losses_taken n) (a.losses n) (b.losses n) r (loses n).later)

  full_on : (n m : ℕ) (x : List ℕ) → h n m ≡ Some x → IsFull b.held n m ⊎ Rose (b.losses_taken n) (b.losses n)
  full_on n m x e = elim (lost_rose h a b n m x loses e) [
    | inl y ↦ inl (x, y)
    | inr y ↦ inr (subst (λ k. Rose k (b.losses n)) (sym (keeps.losses_taken n)) (rose_later (a.losses_taken n) (a.losses n) (b.losses n) (marked n) y))
  ]

-- the archives only lose blocks
pub framed_loses : {tried : Tries} (first : Table) (log : List Entry) (a b : Shelves) → Keeps a b → LosesByCount a.held a b → ((n : ℕ) → a.losses_taken n ≤ a.losses n) → ((n : ℕ) → b.history n ≡ a.history n) → IsFramed first log tried a → IsFramed first log tried b
framed_loses {tried} first log a b keeps loses marked same f = record {
  held = λ n m x h. subst (λ (k : Meaning). (k.held m ≡ Some x) ⊎ WrittenBy tried 0 first log n m x) (sym (keeps.taken n)) (f.held n m x ((loses n).keeps m x h));
  history = λ n x h. subst (λ (k : Meaning). Contains k.history x ⊎ ((m : ℕ) × WrittenBy tried 0 first log n m x)) (sym (keeps.taken n)) (f.history n x (subst (λ l. Contains l x) (same n) h));
  kept = λ n m x h. elim (f.kept n m x (sym (ap (λ (k : Meaning). k.held m) (keeps.taken n)) ∙ h)) [
    | inl y ↦ elim (full_on a.held a b keeps loses marked n m y.0 y.1) [ inl z ↦ inl z | inr z ↦ inr (inr z) ]
    | inr y ↦ elim y [ inl z ↦ inr (inl z) | inr z ↦ inr (inr (rose_on a.held a b keeps loses marked n z)) ]
  ];
}

-- one entry, with losses after it
pub framed_entry : {few more : Tries} (first t : Table) (log : List Entry) (e : Entry) (a b : Shelves) (h : Holdings) → Replays first log t → Keeps a b → LosesByCount h a b → ((n : ℕ) → a.losses_taken n ≤ a.losses n) → AreIn few more → Frames more (length log) t e a h b → IsFramed first log few a → IsFramed first (log ++ e ∷ []) more b
framed_entry {few} {more} first t log e a b h replay keeps loses marked are frames f = record {
  held = λ n m x q. subst (λ (k : Meaning). (k.held m ≡ Some x) ⊎ WrittenBy more 0 first (log ++ e ∷ []) n m x) (sym (keeps.taken n)) (elim (frames.held n m x ((loses n).keeps m x q)) [
    | inl before ↦ elim (f.held n m x before) [ inl y ↦ inl y | inr y ↦ inr (written_more few more 0 first log e n m x are y) ]
    | inr now ↦ inr (written_last more first t log e n m x replay now)
  ]);
  history = λ n x q. subst (λ (k : Meaning). Contains k.history x ⊎ ((m : ℕ) × WrittenBy more 0 first (log ++ e ∷ []) n m x)) (sym (keeps.taken n)) (elim (frames.history n x q) [
    | inl before ↦ elim (f.history n x before) [ inl y ↦ inl y | inr y ↦ inr (y.0, written_more few more 0 first log e n y.0 x are y.1) ]
    | inr now ↦ inr (now.0, written_last more first t log e n now.0 x replay now.1)
  ]);
  kept = λ n m x q. elim (f.kept n m x (sym (ap (λ (k : Meaning). k.held m) (keeps.taken n)) ∙ q)) [
    | inl y ↦ elim (frames.full n m y.0 y.1) [
      | inl z ↦ elim (full_on h a b keeps loses marked n m z.0 z.1) [ inl k ↦ inl k | inr k ↦ inr (inr k) ]
      | inr z ↦ inr (inl (failed_last first t log e n m replay z))
    ]
    | inr y ↦ elim y [ inl z ↦ inr (inl (failed_more first log e n m z)) | inr z ↦ inr (inr (rose_on h a b keeps loses marked n z)) ]
  ];
}

-- an entry that writes nothing, over archives that stay
pub frames_still : {tried : Tries} {i : ℕ} (t : Table) (e : Entry) (s : Shelves) → Frames tried i t e s s.held s
frames_still t e s = record { held = λ n m b h. inl h; history = λ n b h. inl h; full = λ n m b h. inl (b, h) }

-- an archive that comes has what it was taken with
pub framed_brings : {tried : Tries} (told : Type 0) (first : Table) (log : List Entry) (number : ℕ) (meant : Meaning) (a b : Shelves) → Brings told number meant a b → IsFramed first log tried a → IsFramed first log tried b
framed_brings {tried} told first log number meant a b brings f = record {
  held = λ n m x h. elim (cases_eq n number) [
    | inl e ↦ inl (subst (λ k. (b.taken k).held m ≡ Some x) (sym e) (ap (λ (k : Meaning). k.held m) brings.taken ∙ sym (brings.blocks m) ∙ ap (λ k. b.held k m) (sym e) ∙ h))
    | inr ne ↦ subst (λ (k : Meaning). (k.held m ≡ Some x) ⊎ WrittenBy tried 0 first log n m x) (sym (brings.same_taken n ne)) (f.held n m x (sym (brings.same_held n m ne) ∙ h))
  ];
  history = λ n x h. elim (cases_eq n number) [
    | inl e ↦ inl (subst (λ k. Contains (b.taken k).history x) (sym e) (subst (λ l. Contains l x) (ap (λ k. b.history k) e ∙ brings.history ∙ sym (ap (λ (k : Meaning). k.history) brings.taken)) h))
    | inr ne ↦ subst (λ (k : Meaning). Contains k.history x ⊎ ((m : ℕ) × WrittenBy tried 0 first log n m x)) (sym (brings.same_taken n ne)) (f.history n x (subst (λ l. Contains l x) (brings.same_history n ne) h))
  ];
  kept = λ n m x h. elim (cases_eq n number) [
    | inl e ↦ inl (x, ap (λ k. b.held k m) e ∙ brings.blocks m ∙ sym (ap (λ (k : Meaning). k.held m) (ap b.taken e ∙ brings.taken)) ∙ h)
    | inr ne ↦ elim (f.kept n m x (sym (ap (λ (k : Meaning). k.held m) (brings.same_taken n ne)) ∙ h)) [
      | inl y ↦ inl (y.0, brings.same_held n m ne ∙ y.1)
      | inr y ↦ elim y [
        | inl z ↦ inr (inl z)
        | inr z ↦ inr (inr (subst (λ k. Rose k (b.losses n)) (sym (brings.same_losses n ne).1) (subst (λ k. Rose (a.losses_taken n) k) (sym (brings.same_losses n ne).0) z)))
      ]
    ]
  ];
}

-- WRITES

-- what a slot has after a write was there or is the block
pub put_frames : (h : Holdings) (n slot : ℕ) (block : List ℕ) (went : Bool) (left : Option (List ℕ)) → WriteLeaves went (h n slot) block left
    → (k m : ℕ) (b : List ℕ) → put_at h n slot left k m ≡ Some b → (h k m ≡ Some b) ⊎ ((k ≡ n) × (m ≡ slot) × (b ≡ block))
put_frames h n slot block went left leaves k m b q = elim (cases_eq k n) [
  | inl e ↦ elim (cases_eq m slot) [
    | inl d ↦ there went leaves (sym (put_at-here h n slot left) ∙ ap (λ k. put_at h n slot left k slot) (sym e) ∙ ap (λ m. put_at h n slot left k m) (sym d) ∙ q) e d
    | inr ne ↦ inl (sym (put_at-other h n slot left k m (inr ne)) ∙ q)
  ]
  | inr ne ↦ inl (sym (put_at-other h n slot left k m (inl ne)) ∙ q)
]
  where
    is_block : {x y : List ℕ} → Some x ≡ Some y → y ≡ x
    is_block e = cc

    none : {x : List ℕ} → None ≡ Some x → ⊥
    none e = cc

    there : (went : Bool) → WriteLeaves went (h n slot) block left → left ≡ Some b → k ≡ n → m ≡ slot → (h k m ≡ Some b) ⊎ ((k ≡ n) × (m ≡ slot) × (b ≡ block))
    there true l q e d = inr (e, d, is_block (sym l ∙ q))
    there false (inl l) q e d = inl (ap (λ k. h k m) e ∙ ap (λ m. h n m) d ∙ sym l ∙ q)
    there false (inr (inl l)) q e d = inr (e, d, is_block (sym l ∙ q))
    there false (inr (inr l)) q e d = absurd (none (sym l ∙ q))

-- and a slot that had a block has one after a write, unless the write went there and failed
pub put_full : (h : Holdings) (n slot : ℕ) (block : List ℕ) (went : Bool) (left : Option (List ℕ)) → WriteLeaves went (h n slot) block left
    → (k m : ℕ) (b : List ℕ) → h k m ≡ Some b → IsFull (put_at h n slot left) k m ⊎ ((went ≡ false) × (k ≡ n) × (m ≡ slot))
put_full h n slot block went left leaves k m b q = elim (cases_eq k n) [
  | inl e ↦ elim (cases_eq m slot) [
    | inl d ↦ there went leaves e d
    | inr ne ↦ inl (b, put_at-other h n slot left k m (inr ne) ∙ q)
  ]
  | inr ne ↦ inl (b, put_at-other h n slot left k m (inl ne) ∙ q)
]
  where
    here : k ≡ n → m ≡ slot → put_at h n slot left k m ≡ left
    here e d = ap (λ k. put_at h n slot left k m) e ∙ ap (λ m. put_at h n slot left n m) d ∙ put_at-here h n slot left

    there : (went : Bool) → WriteLeaves went (h n slot) block left → k ≡ n → m ≡ slot → IsFull (put_at h n slot left) k m ⊎ ((went ≡ false) × (k ≡ n) × (m ≡ slot))
    there true l e d = inl (block, here e d ∙ l)
    there false (inl l) e d = inl (b, here e d ∙ l ∙ sym (ap (λ k. h k m) e ∙ ap (λ m. h n m) d) ∙ q)
    there false (inr (inl l)) e d = inl (block, here e d ∙ l)
    there false (inr (inr l)) e d = inr (refl, e, d)

-- and what the archive remembers
pub remembers_frames : (number : ℕ) (block : List ℕ) (r : Result (Unit {0}) Failed) (a b : Shelves) → Remembers (a.history number) (b.history number) block r → ((n : ℕ) → n ≢ number → b.history n ≡ a.history n)
    → (n : ℕ) (x : List ℕ) → Contains (b.history n) x → Contains (a.history n) x ⊎ ((n ≡ number) × (x ≡ block))
remembers_frames number block r a b remembers others n x h = elim (cases_eq n number) [
  | inl e ↦ subst (λ k. Contains (a.history k) x ⊎ ((k ≡ number) × (x ≡ block))) (sym e) (there r remembers (subst (λ k. Contains (b.history k) x) e h))
  | inr ne ↦ inl (subst (λ l. Contains l x) (others n ne) h)
]
  where
    pushed : b.history number ≡ a.history number ++ block ∷ [] → Contains (b.history number) x → Contains (a.history number) x ⊎ ((number ≡ number) × (x ≡ block))
    pushed e h = elim (Contains-push_cases (a.history number) block x (subst (λ l. Contains l x) e h)) [ inl y ↦ inl y | inr y ↦ inr (refl, sym y) ]

    there : (r : Result (Unit {0}) Failed) → Remembers (a.history number) (b.history number) block r → Contains (b.history number) x → Contains (a.history number) x ⊎ ((number ≡ number) × (x ≡ block))
    there (Ok u) e h = pushed e h
    there (Err f) (inl e) h = inl (subst (λ l. Contains l x) e h)
    there (Err f) (inr e) h = pushed e h

-- an entry that may have written this block into this slot, over archives that did
pub frames_write : {tried : Tries} {i : ℕ} (told : Type 0) (t : Table) (e : Entry) (number slot : ℕ) (block : List ℕ) (r : Result (Unit {0}) Failed) (a b : Shelves) → told → (w : WritesAt told number slot block r a b)
    → MayWrite tried i t e number slot block → (left : Option (List ℕ)) → (went : Bool) → (went ≡ false → MayFail t e number slot) → WriteLeaves went (a.held number slot) block left → Frames tried i t e a (put_at a.held number slot left) b
frames_write {tried} {i} told t e number slot block r a b z w may left went fails leaves = record {
  held = λ n m x h. elim (put_frames a.held number slot block went left leaves n m x h) [
    | inl y ↦ inl y
    | inr y ↦ inr (here n m x y.0 y.1 y.2)
  ];
  history = λ n x h. elim (remembers_frames number block r a b (w.remembers z) (w.forgets z) n x h) [
    | inl y ↦ inl y
    | inr y ↦ inr (slot, here n slot x y.0 refl y.1)
  ];
  full = λ n m x h. elim (put_full a.held number slot block went left leaves n m x h) [
    | inl y ↦ inl y
    | inr y ↦ inr (subst (λ n. MayFail t e n m) (sym y.1) (subst (λ m. MayFail t e number m) (sym y.2) (fails y.0)))
  ];
}
  where
    here : (n m : ℕ) (x : List ℕ) → n ≡ number → m ≡ slot → x ≡ block → MayWrite tried i t e n m x
    here n m x en em ex = subst (λ n. MayWrite tried i t e n m x) (sym en) (subst (λ m. MayWrite tried i t e number m x) (sym em) (subst (λ x. MayWrite tried i t e number slot x) (sym ex) may))
