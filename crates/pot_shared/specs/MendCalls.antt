-- What the mending of a whole place does.
use Rattle.std.specs.Prelude.{◌≡◌, ℕ, zero, suc, ◌+◌, List, [], ◌∷◌, ◌++◌, All}
use Rattle.pot_bytes.specs.declared.rack.Place.{Place}
use Rattle.pot_group.specs.declared.relaying.Mend.{Mend}
use Rattle.pot_group.specs.declared.relaying.Mend.TheVariants as mend
use Rattle.pot_group.specs.Calls.{MendCall}
use Rattle.pot_pads.specs.Pads.{Pads, moved, next_bytes}
use Rattle.pot_rows.specs.Rows.{view_at, with_view}
use Rattle.pot_rows.specs.Works.{RowWroteOnlyFor, RowOnlyWriterOf}
use Rattle.pot_shared.specs.declared.mending.Mending.{Mending}
use Rattle.pot_shared.specs.Ready.{GroupPass, GroupPasses}
use Rattle.pot_shared.specs.Calls.{CallTurn}
use Rattle.pot_shared.specs.Works.{of_job, blinds_by}

-- the stream after so many blinds were drawn from it, and the next one
abbrev pub drawn : Pads → ℕ → Pads
drawn pads zero = pads
drawn pads (suc n) = moved (drawn pads n) 1024

abbrev pub blind_at : Pads → ℕ → List ℕ
blind_at pads n = next_bytes (drawn pads n) 1024

-- so many blinds in a row: each is the next 1,024 bytes of the stream
abbrev pub stretches : Pads → ℕ → List (List ℕ)
stretches pads zero = []
stretches pads (suc n) = next_bytes pads 1024 ∷ stretches (moved pads 1024) n

-- the answers after which a mend of the place goes on
abbrev pub GoesOn : Mend → Type 0
GoesOn mend.Began = Unit {0}
GoesOn mend.Extends = Unit {0}
GoesOn mend.Mended = Unit {0}
GoesOn mend.Passed = Unit {0}
GoesOn _ = ⊥

-- how many relays began at an answer, ended by a write, and ended at a block of another digest
abbrev pub begins : Mend → ℕ
begins mend.Began = 1
begins _ = 0

abbrev pub mends : Mend → ℕ
mends mend.Mended = 1
mends _ = 0

abbrev pub passes : Mend → ℕ
passes mend.Passed = 1
passes _ = 0

-- how many at all of these
abbrev pub total : (Mend → ℕ) → List Mend → ℕ
total f [] = 0
total f (answer ∷ more) = f answer + total f more

-- One turn for each of these answers, from a pass that knew v to one that knows w. Each has the
-- blind whose number is that of the relays that began before it.
abbrev pub MendTurns : Type 0 → ℕ → Place → Pads → ℕ → List Mend → GroupPass → GroupPass → Type 0
MendTurns told job place pads n [] v w = w ≡ v
MendTurns told job place pads n (answer ∷ more) v w =
    (u : GroupPass) × CallTurn told (MendCall told job place (blind_at pads n) answer) v u
    × MendTurns told job place pads (n + begins answer) more u w

-- The place was mended step by step, up to the first answer after which that does not go on. A
-- blind was drawn before the first step, and one after each relay that began. Where nobody else
-- logged an entry of the job, the blinds in the log that it gained are those in their order.
pub record MendsPlace (told : Type 0) (job : ℕ) (place : Place) (pads after : Pads)
    (result : Mending) (old new : GroupPasses) : Type 0 where
  pub before : List Mend
  pub go_on : All GoesOn before
  pub ends : GoesOn result.end → ⊥
  pub mended : result.mended ≡ total mends before
  pub passed : result.passed ≡ total passes before
  pub pass : GroupPass
  pub is : new ≡ with_view old place.group pass
  pub turns : MendTurns told job place pads 0 (before ++ result.end ∷ [])
      (view_at old place.group) pass
  pub stream : after ≡ drawn pads (suc (total begins before))
  pub worked : RowWroteOnlyFor (of_job job) old new
  pub blinds : RowOnlyWriterOf (of_job job) old new
      → blinds_by job old new place.group ≡ stretches pads (total begins before)
