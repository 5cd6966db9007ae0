-- Archives as plain data, by their numbers, and what a call of one of them does.
use Rattle.std.specs.Prelude.{◌≡◌, ◌≢◌, ◌≤◌, ◌<◌, ◌-◌, ◌^◌, ◌==◌, ◌++◌, ℕ, List, [], ◌∷◌, Option}
use Rattle.std.specs.Prelude.{Some, None, Result, IsErr, IsTrue, if◌then◌else◌, find, map, Bool}
use Rattle.std.specs.Prelude.{true, false, is_ok}
use Rattle.pot_outside.specs.Failing.{MayLeave}
use Rattle.pot_outside.specs.declared.archive.Marks.{Marks}
use Rattle.pot_outside.specs.declared.archive.Shelf.{Shelf}
use Rattle.pot_outside.specs.declared.faults.Failed.{Failed}
use Rattle.pot_outside.specs.declared.archive.Held.{Held as IsHeld}
use Rattle.pot_outside.specs.Accounts.{Account}
use Rattle.pot_outside.specs.Archives.{Meaning, OnlyLoses, ReadTells, FoldTells, LeavesSum}
use Rattle.pot_outside.specs.Archives.{HearsFold, IsCoherent, Remembers, at_slot}
use Rattle.pot_outside.specs.Counts.{Rose}
use Rattle.pot_steps.specs.Holdings.{Holdings}

-- By number: the blocks held, those ever held, the sums heard, the counts of faults and of losses
-- now, and these two when the archive was taken and when the table over it had been opened; and all
-- that it meant when it was taken. A number without an archive has nothing.
pub record Shelves : Type 0 where
  pub numbers : List ℕ
  pub held : Holdings
  pub history : ℕ → List (List ℕ)
  pub heard : ℕ → List (ℕ × List ℕ)
  pub faults : ℕ → ℕ
  pub losses : ℕ → ℕ
  pub faults_taken : ℕ → ℕ
  pub losses_taken : ℕ → ℕ
  pub faults_opened : ℕ → ℕ
  pub losses_opened : ℕ → ℕ
  pub taken : ℕ → Meaning

-- what an archive means that holds no block, held none, heard nothing, never failed and lost
-- nothing
abbrev pub nothing : Meaning
nothing =
    record { held = λ slot. None; history = []; heard = []; faults = 0; losses = 0 }

-- what the archive of a number means now
abbrev pub meant_now : Shelves → ℕ → Meaning
meant_now s number =
    record {
      held = s.held number;
      history = s.history number;
      heard = s.heard number;
      faults = s.faults number;
      losses = s.losses number;
    }

-- what the archive of a number gives
abbrev pub given : {A X : Type 0} → (A → X) → X → Option (Shelf A) → X
given f x None = x
given f x (Some s) = f s.archive

-- the number of each, in order
abbrev pub numbers_of : {A : Type 0} → List (Shelf A) → List ℕ
numbers_of shelves = map (λ s. s.number) shelves

-- the first archive that has a number
abbrev pub shelf_of : {A : Type 0} → List (Shelf A) → ℕ → Option (Shelf A)
shelf_of shelves number = find (λ s. s.number == number) shelves

-- archives, and the marks of their taking and of the opening in the same order, and as they were
-- when they were taken: what the contracts see
pub record Shelved (A : Type 0) : Type 0 where
  pub shelves : List (Shelf A)
  pub marks : List Marks
  pub opened : List Marks
  pub taken : List (Shelf A)

-- the mark of the first archive that has a number
abbrev pub mark_of : (Marks → ℕ) → List ℕ → List Marks → ℕ → ℕ
mark_of f [] marks number = 0
mark_of f (n ∷ ns) [] number = 0
mark_of f (n ∷ ns) (m ∷ ms) number = if n == number then f m else mark_of f ns ms number

-- these archives as plain data
abbrev pub plain : {A : Type 0} → (A → Meaning) → Shelved A → Shelves
plain meaning a = record {
  numbers = numbers_of a.shelves;
  held = λ number slot. given (λ x. (meaning x).held slot) None (shelf_of a.shelves number);
  history = λ number. given (λ x. (meaning x).history) [] (shelf_of a.shelves number);
  heard = λ number. given (λ x. (meaning x).heard) [] (shelf_of a.shelves number);
  faults = λ number. given (λ x. (meaning x).faults) 0 (shelf_of a.shelves number);
  losses = λ number. given (λ x. (meaning x).losses) 0 (shelf_of a.shelves number);
  faults_taken = λ number. mark_of (λ m. m.faults) (numbers_of a.shelves) a.marks number;
  losses_taken = λ number. mark_of (λ m. m.losses) (numbers_of a.shelves) a.marks number;
  faults_opened = λ number. mark_of (λ m. m.faults) (numbers_of a.shelves) a.opened number;
  losses_opened = λ number. mark_of (λ m. m.losses) (numbers_of a.shelves) a.opened number;
  taken = λ number. given meaning nothing (shelf_of a.taken number);
}

-- said of archives as plain data before and after, and of whether they tell what they hold
abbrev pub OnShelves : {A : Type 0} → Account A Meaning → (Type 0 → Shelves → Shelves → Type 0) → Shelved A
    → Shelved A → Type 0
OnShelves account R old new =
    R (IsTrue account.tells) (plain account.meaning old) (plain account.meaning new)

-- Their table has been opened now. An archive that does not tell has no mark of losses. `told` is
-- whether the archives tell what they hold.
pub record IsOpenedNow (told : Type 0) (s : Shelves) : Type 0 where
  pub faults : (number : ℕ) → s.faults_opened number ≡ s.faults number
  pub losses : told → (number : ℕ) → s.losses_opened number ≡ s.losses number

-- They are taken now. Until their table is opened, both marks are those of the taking. An archive
-- that tells remembers what it holds, and holds it below slot 2^32.
pub record IsTaken (told : Type 0) (s : Shelves) : Type 0 where
  pub meant : (number : ℕ) → s.taken number ≡ meant_now s number
  pub faults : (number : ℕ) → s.faults_taken number ≡ s.faults number
  pub losses : told → (number : ℕ) → s.losses_taken number ≡ s.losses number
  pub opened : IsOpenedNow told s
  pub coherent : told → (number : ℕ) → IsCoherent (s.taken number)

-- ONE ARCHIVE OF SEVERAL

-- The archive of a number was called, which made of it what `R` says, and nothing else changed.
pub record Touches {A : Type 0} (number : ℕ) (R : A → A → Type 0)
    (old new : List (Shelf A)) : Type 0 where
  pub shelf : Shelf A
  pub after : A
  pub was : shelf_of old number ≡ Some shelf
  pub now : shelf_of new number ≡ Some (record shelf { archive = after })
  pub others : (n : ℕ) → n ≢ number → shelf_of new n ≡ shelf_of old n
  pub numbers : numbers_of new ≡ numbers_of old
  pub by : R shelf.archive after

-- one archive was called, and this is said of what it meant and means
abbrev pub Calls : {A : Type 0} → (A → Meaning) → (Meaning → Meaning → Type 0) → A → A → Type 0
Calls meaning R old new = R (meaning old) (meaning new)

-- said of what the archive of a number meant and means, where it alone was called, and of whether
-- it tells what it holds
abbrev pub OnShelf : {A : Type 0} → Account A Meaning → ℕ → (Type 0 → Meaning → Meaning → Type 0)
    → List (Shelf A) → List (Shelf A) → Type 0
OnShelf account number R old new =
    Touches number (Calls account.meaning (R (IsTrue account.tells))) old new

-- WHAT A CALL DOES

-- the same archives, with the marks of their taking and of the opening, and no count of faults has
-- fallen
pub record Keeps (old new : Shelves) : Type 0 where
  pub numbers : new.numbers ≡ old.numbers
  pub faults_taken : (number : ℕ) → new.faults_taken number ≡ old.faults_taken number
  pub losses_taken : (number : ℕ) → new.losses_taken number ≡ old.losses_taken number
  pub faults_opened : (number : ℕ) → new.faults_opened number ≡ old.faults_opened number
  pub losses_opened : (number : ℕ) → new.losses_opened number ≡ old.losses_opened number
  pub later : (number : ℕ) → old.faults number ≤ new.faults number
  pub taken : (number : ℕ) → new.taken number ≡ old.taken number

-- from what the archives were to hold to what they hold: blocks were lost, and nothing else
abbrev pub LosesByCount : Holdings → Shelves → Shelves → Type 0
LosesByCount h old new =
    (number : ℕ) → OnlyLoses (h number) (new.held number) (old.losses number) (new.losses number)

-- no count of losses rose in a call, and none stands at its last value
abbrev pub NoneLost : Shelves → Shelves → Type 0
NoneLost old new =
    (number : ℕ) → (new.losses number ≡ old.losses number) × (new.losses number < 2 ^ 64 - 1)

-- Nothing changes but by losses. `told` is whether the archives tell what they hold.
pub record ShelvesStay (told : Type 0) (old new : Shelves) : Type 0 where
  pub keeps : Keeps old new
  pub loses : told → LosesByCount old.held old new
  pub heard : told → (number : ℕ) → new.heard number ≡ old.heard number
  pub history : told → (number : ℕ) → new.history number ≡ old.history number

-- One archive was asked for the block of a slot. The others hold what they held.
pub record ReadsAt (told : Type 0) (number slot : ℕ) (into : List ℕ) (result : Result IsHeld Failed)
    (old new : Shelves) : Type 0 where
  pub stays : ShelvesStay told old new
  pub tells : told → ReadTells (new.held number) slot into result
  pub others : told → (n m : ℕ) → n ≢ number → new.held n m ≡ old.held n m
  pub cause : IsErr result → Rose (old.faults number) (new.faults number)

-- A block of a slot of an archive is folded into a sum. That archive alone hears.
pub record FoldsAt (told : Type 0) (number slot weight : ℕ) (before sum : List ℕ)
    (result : Result IsHeld Failed) (old new : Shelves) : Type 0 where
  pub keeps : Keeps old new
  pub loses : told → LosesByCount old.held old new
  pub tells : told → FoldTells (new.held number) slot weight before sum result
  pub leaves : LeavesSum before sum result
  pub hears : told → HearsFold (old.heard number) (new.heard number) slot before result
  pub silent : told → (n : ℕ) → n ≢ number → new.heard n ≡ old.heard n
  pub history : told → (n : ℕ) → new.history n ≡ old.history n
  pub cause : IsErr result → Rose (old.faults number) (new.faults number)

-- An archive that means this comes under a number that no other has. Its marks, also those of the
-- opening, are its counts then; the others stay as they are. If it tells, it remembers what it
-- holds, and holds it below slot 2^32.
pub record Brings (told : Type 0) (number : ℕ) (m : Meaning) (old new : Shelves) : Type 0 where
  pub numbers : new.numbers ≡ old.numbers ++ number ∷ []
  pub blocks : (slot : ℕ) → new.held number slot ≡ m.held slot
  pub sums : new.heard number ≡ m.heard
  pub history : new.history number ≡ m.history
  pub taken : new.taken number ≡ m
  pub coherent : told → IsCoherent m
  pub counts : (new.faults number ≡ m.faults) × (new.losses number ≡ m.losses)
  pub marked : new.faults_taken number ≡ new.faults number
  pub marked_losses : told → new.losses_taken number ≡ new.losses number
  pub opened : new.faults_opened number ≡ new.faults number
  pub opened_losses : told → new.losses_opened number ≡ new.losses number
  -- a number without an archive has nothing
  pub absent : (old.faults number ≡ 0) × (old.faults_taken number ≡ 0) × (old.losses number ≡ 0)
      × (old.losses_taken number ≡ 0)
  pub same_held : (n slot : ℕ) → n ≢ number → new.held n slot ≡ old.held n slot
  pub same_heard : (n : ℕ) → n ≢ number → new.heard n ≡ old.heard n
  pub same_history : (n : ℕ) → n ≢ number → new.history n ≡ old.history n
  pub same_taken : (n : ℕ) → n ≢ number → new.taken n ≡ old.taken n
  pub same_faults : (n : ℕ) → n ≢ number
      → (new.faults n ≡ old.faults n) × (new.faults_taken n ≡ old.faults_taken n)
  pub same_losses : (n : ℕ) → n ≢ number
      → (new.losses n ≡ old.losses n) × (new.losses_taken n ≡ old.losses_taken n)
  pub same_opened : (n : ℕ) → n ≢ number
      → (new.faults_opened n ≡ old.faults_opened n) × (new.losses_opened n ≡ old.losses_opened n)

-- what is held once a slot of an archive has this
abbrev pub put_at : Holdings → ℕ → ℕ → Option (List ℕ) → Holdings
put_at h number slot block k = if k == number then at_slot (h k) slot block else h k

-- what a write leaves in its slot before any loss: the block, and where it failed the old block,
-- the new one or none
abbrev pub WriteLeaves : Bool → Option (List ℕ) → List ℕ → Option (List ℕ) → Type 0
WriteLeaves true was block left = left ≡ Some block
WriteLeaves false was block left = MayLeave was block left

-- A block goes into this slot of an archive, or its write fails and leaves there what it may.
-- Nothing else changes but by losses.
abbrev pub WritesInto : ℕ → ℕ → List ℕ → Result (Unit {0}) Failed → Shelves → Shelves → Type 0
WritesInto number slot block result old new =
    (left : Option (List ℕ)) × WriteLeaves (is_ok result) (old.held number slot) block left
    × LosesByCount (put_at old.held number slot left) old new

-- A block is written into a slot of an archive.
pub record WritesAt (told : Type 0) (number slot : ℕ) (block : List ℕ)
    (result : Result (Unit {0}) Failed) (old new : Shelves) : Type 0 where
  pub keeps : Keeps old new
  pub wrote : told → WritesInto number slot block result old new
  pub heard : told → (n : ℕ) → new.heard n ≡ old.heard n
  pub remembers : told → Remembers (old.history number) (new.history number) block result
  pub forgets : told → (n : ℕ) → n ≢ number → new.history n ≡ old.history n
  pub cause : IsErr result → Rose (old.faults number) (new.faults number)
