-- Archives by their numbers: what calls of them come to one after another.
use Rattle.std.proofs.Common.{◌≡◌, ◌≢◌, ◌≤◌, ◌-◌, ◌^◌, ◌==◌, ◌⊎◌, inl, inr, ℕ, Bool, true, false, List, Option, Some, None, Result, Ok, Err, refl, sym, ◌∙◌, arith}
use Rattle.std.specs.Prelude.{cond, is_ok}
use Rattle.std.proofs.lemmas.Bool.Decides.{eqb_tells, leb_tells}
use Rattle.pot_outside.specs.Failing.{MayLeave}
use Rattle.pot_outside.specs.declared.faults.Failed.{Failed}
use Rattle.pot_outside.specs.Archives.{OnlyLoses, at_slot}
use Rattle.pot_outside.specs.Counts.{Rose}
use Rattle.pot_outside.proofs.LossLemmas.{at_slot-here, at_slot-else, loses_nothing, loses_more, loses_under}
use Rattle.pot_steps.specs.Holdings.{Holdings}
use Rattle.pot_shelves.specs.Shelves.{Shelves, Keeps, LosesByCount, ShelvesStay, WritesInto, WriteLeaves, put_at}

-- ONE CALL AFTER ANOTHER

pub keeps_refl : (s : Shelves) → Keeps s s
keeps_refl s = record {
  numbers = refl;
  faults_taken = (λ n. refl);
  losses_taken = (λ n. refl);
  faults_opened = (λ n. refl);
  losses_opened = (λ n. refl);
  later = (λ n. omega arith);
  taken = (λ n. refl);
}

pub keeps_then : (a b c : Shelves) → Keeps a b → Keeps b c → Keeps a c
keeps_then a b c o p = record {
  numbers = p.numbers ∙ o.numbers;
  faults_taken = (λ n. p.faults_taken n ∙ o.faults_taken n);
  losses_taken = (λ n. p.losses_taken n ∙ o.losses_taken n);
  faults_opened = (λ n. p.faults_opened n ∙ o.faults_opened n);
  losses_opened = (λ n. p.losses_opened n ∙ o.losses_opened n);
  later = (λ n. omega (arith, o.later n, p.later n));
  taken = (λ n. p.taken n ∙ o.taken n);
}

pub loses_refl : (s : Shelves) → LosesByCount s.held s s
loses_refl s = λ n. loses_nothing (s.held n) (s.losses n)

pub loses_from_then : (h : Holdings) (a b c : Shelves) → LosesByCount h a b → LosesByCount b.held b c → LosesByCount h a c
loses_from_then h a b c o p = λ n. loses_more (h n) (b.held n) (c.held n) (a.losses n) (b.losses n) (c.losses n) (o n) (p n)

pub stays_refl : (told : Type 0) (s : Shelves) → ShelvesStay told s s
stays_refl told s = record { keeps = keeps_refl s; loses = (λ t. loses_refl s); heard = (λ t n. refl); history = (λ t n. refl) }

pub stays_then : (told : Type 0) (a b c : Shelves) → ShelvesStay told a b → ShelvesStay told b c → ShelvesStay told a c
stays_then told a b c o p = record {
  keeps = keeps_then a b c o.keeps p.keeps;
  loses = (λ t. loses_from_then a.held a b c (o.loses t) (p.loses t));
  heard = (λ t n. p.heard t n ∙ o.heard t n);
  history = (λ t n. p.history t n ∙ o.history t n);
}

-- A SLOT OF AN ARCHIVE CHANGED

-- losses before a slot is changed are losses after it
put_under : (h : Holdings) (a b : Shelves) (n slot : ℕ) (left : Option (List ℕ)) (k : ℕ) (here : Bool)
    → OnlyLoses (h k) (b.held k) (a.losses k) (b.losses k)
    → OnlyLoses (cond here (at_slot (h k) slot left) (h k)) (cond here (at_slot (b.held k) slot left) (b.held k)) (a.losses k) (b.losses k)
put_under h a b n slot left k true o = loses_under (h k) (b.held k) (a.losses k) (b.losses k) slot left o
put_under h a b n slot left k false o = o

pub loses_put : (h : Holdings) (a b c : Shelves) (n slot : ℕ) (left : Option (List ℕ)) → LosesByCount h a b
    → LosesByCount (put_at b.held n slot left) b c → LosesByCount (put_at h n slot left) a c
loses_put h a b c n slot left o p = λ k.
    loses_more (put_at h n slot left k) (put_at b.held n slot left k) (c.held k) (a.losses k) (b.losses k) (c.losses k)
    (put_under h a b n slot left k (k == n) (o k)) (p k)

-- what a write leaves, by whether it went well
pub left_new : (went : Bool) (was left : Option (List ℕ)) (block : List ℕ) → WriteLeaves went was block left → went ≡ true → left ≡ Some block
left_new true was left block w e = w
left_new false was left block w e = absurd (cc)

pub left_any : (went : Bool) (was left : Option (List ℕ)) (block : List ℕ) → WriteLeaves went was block left → went ≡ false → MayLeave was block left
left_any true was left block w e = absurd (cc)
left_any false was left block w e = w

-- a write after losses is that write and these losses
written_after : (before now : ℕ → Option (List ℕ)) (slot : ℕ) (block : List ℕ) (r : Result (Unit {0}) Failed) (left : Option (List ℕ)) → ((b : List ℕ) → now slot ≡ Some b → before slot ≡ Some b)
    → WriteLeaves (is_ok r) (now slot) block left → WriteLeaves (is_ok r) (before slot) block left
written_after before now slot block (Ok u) left keeps w = w
written_after before now slot block (Err e) left keeps (inr w) = inr w
written_after before now slot block (Err e) left keeps (inl w) = there (now slot) w keeps
  where
    there : (was : Option (List ℕ)) → left ≡ was → ((b : List ℕ) → was ≡ Some b → before slot ≡ Some b) → MayLeave (before slot) block left
    there None w keeps = inr (inr w)
    there (Some b) w keeps = inl (w ∙ sym (keeps b refl))

-- a write after other changes and losses
pub write_then : (h : Holdings) (a b c : Shelves) (n slot : ℕ) (block : List ℕ) (r : Result (Unit {0}) Failed) → LosesByCount h a b → WritesInto n slot block r b c
    → (left : Option (List ℕ)) × WriteLeaves (is_ok r) (h n slot) block left × LosesByCount (put_at h n slot left) a c
write_then h a b c n slot block r l w = (w.0, written_after (h n) (b.held n) slot block r w.0 (λ x e. (l n).keeps slot x e) w.1, loses_put h a b c n slot w.0 l w.2)

pub into_after : (a b c : Shelves) (n slot : ℕ) (block : List ℕ) (r : Result (Unit {0}) Failed) → LosesByCount a.held a b → WritesInto n slot block r b c → WritesInto n slot block r a c
into_after a b c n slot block r l w = write_then a.held a b c n slot block r l w

pub put_at-here : (h : Holdings) (n slot : ℕ) (x : Option (List ℕ)) → put_at h n slot x n slot ≡ x
put_at-here h n slot x = elim (eqb_tells n n) [ inl e ↦ rw e.0 (at_slot-here (h n) slot x) | inr e ↦ absurd (e.1 refl) ]

pub put_at-other : (h : Holdings) (n slot : ℕ) (x : Option (List ℕ)) (k m : ℕ) → (k ≢ n) ⊎ (m ≢ slot) → put_at h n slot x k m ≡ h k m
put_at-other h n slot x k m differs = elim (eqb_tells k n) [ inl e ↦ rw e.0 (at differs e.1) | inr e ↦ rw e.0 refl ]
  where
    at : (k ≢ n) ⊎ (m ≢ slot) → k ≡ n → at_slot (h k) slot x m ≡ h k m
    at (inl d) e = absurd (d e)
    at (inr d) e = at_slot-else (h k) slot x m d

-- LOSSES AND RISES

-- a block that was to be held is held, or the count of losses rose
pub lost_rose : (h : Holdings) (old new : Shelves) (k m : ℕ) (b : List ℕ) → LosesByCount h old new → h k m ≡ Some b
    → (new.held k m ≡ Some b) ⊎ Rose (old.losses k) (new.losses k)
lost_rose h old new k m b l e =
    elim (eqb_tells (new.losses k) (old.losses k)) [
      | inl t ↦ elim (leb_tells (2 ^ 64 - 1) (new.losses k)) [
        | inl s ↦ inr (inr s.1)
        | inr s ↦ inl ((l k).same m t.1 s.1 ∙ e)
      ]
      | inr t ↦ inr (inl (omega (arith, (l k).later, t.1)))
    ]

pub rose_more : (a b c : ℕ) → Rose a b → b ≤ c → Rose a c
rose_more a b c (inl r) l = inl (omega arith)
rose_more a b c (inr r) l = inr (omega arith)
