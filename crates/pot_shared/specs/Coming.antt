-- Archives that came to groups, and what they meant when they came.
use Rattle.std.specs.Prelude.{◌≡◌, ◌^◌, ◌++◌, ℕ, zero, suc, List, [], ◌∷◌, Option, Some, Contains}
use Rattle.pot_outside.specs.Archives.{HeldBlocks, Meaning}
use Rattle.pot_outside.specs.declared.archive.Marks.{Marks}
use Rattle.pot_machine.specs.declared.entry.Entry.{Entry}
use Rattle.pot_group.specs.Arrivals.{arrival, arrivals}
use Rattle.pot_shared.specs.declared.member.Logged.{Logged}
use Rattle.pot_shared.specs.declared.member.Taking.{Taking}

-- the counts of what an archive means
abbrev pub marks_of : Meaning → Marks
marks_of m = record { faults = m.faults; losses = m.losses }

-- the blocks of the first so many slots
unfoldable pub first_blocks : ℕ → HeldBlocks → List (Option (List ℕ))
first_blocks zero held = []
first_blocks (suc n) held = first_blocks n held ++ held n ∷ []

-- and of all: a slot's number has 32 bits
abbrev pub blocks_of : HeldBlocks → List (Option (List ℕ))
blocks_of held = first_blocks (2 ^ 32) held

-- all that an archive means
abbrev pub taking_of : Meaning → Taking
taking_of m =
    record {
      marks = marks_of m;
      blocks = blocks_of m.held;
      history = m.history;
      heard = m.heard;
    }

-- the archives that the logs of the first so many groups gained, group by group
abbrev pub came_in : ℕ → (ℕ → List Entry) → List ℕ
came_in zero added = []
came_in (suc n) added = came_in n added ++ arrivals (added n)

-- each archive that these entries brought meant what its number meant
abbrev pub AreMarkedBy : (ℕ → Meaning) → List Logged → Type 0
AreMarkedBy meant log =
    (l : Logged) (n : ℕ) → Contains log l → Contains (arrival l.entry) n
    → l.taken ≡ Some (taking_of (meant n))
