-- What the openings of a session log where no count rises in it.
use Rattle.std.specs.Prelude.{◌≡◌, ◌⊎◌, ◌<◌, ℕ, Bool, IsTrue, List, Contains, Some, slice_get}
use Rattle.pot_outside.specs.Accounts.{Transition}
use Rattle.pot_outside.specs.Archives.{Meaning}
use Rattle.pot_outside.specs.Rooms.{RoomState}
use Rattle.pot_machine.specs.declared.entry.Entry.{Entry}
use Rattle.pot_machine.specs.Table.{Table, archives_in, width}
use Rattle.pot_steps.specs.Holdings.{stripe_of}
use Rattle.pot_steps.specs.GroupStep.{BreaksStripe, FindsGone, Spared, opening}
use Rattle.pot_image.specs.Images.{Contents}
use Rattle.pot_image.specs.Rules.{FitsTogether}
use Rattle.pot_replies.specs.Sections.{Section}
use Rattle.pot_shared.specs.Hands.{times}
use Rattle.pot_shared.specs.Coming.{marks_of}
use Rattle.pot_shared.specs.Groups.{MarksRose}
use Rattle.pot_session.specs.Serving.{Leaves}

-- The opening of a table over archives that hold what a room meant: a Live slot is Gone exactly
-- where the archive that serves it has no block of its digest, and of each stripe it is said
-- whether the blocks fit.
pub record OpensAsMeant (meant : ℕ → Meaning) (t : Table) (log : List Entry) : Type 0 where
  pub gone : ℕ → ℕ → Bool
  pub broke : ℕ → ℕ → Bool
  pub finds : (s : ℕ) → s < t.stripes
      → FindsGone (width t) (stripe_of t (λ n. (meant n).held) s) (gone s)
  pub breaks : (s : ℕ) → s < t.stripes
      → BreaksStripe t.data_columns t.parity (stripe_of t (λ n. (meant n).held) s) (broke s)
      ⊎ Spared t.data_columns t.parity (stripe_of t (λ n. (meant n).held) s) (broke s)
  pub is : log ≡ opening (width t) t.stripes gone broke

-- Each archive of this table came back to the room, and no count of it rose.
abbrev pub AreUndisturbed : (ℕ → Meaning) → (ℕ → Meaning) → List ℕ → Table → Type 0
AreUndisturbed meant means missing t =
    (n : ℕ) → Contains (archives_in t) n
    → (times n missing ≡ 0) × (MarksRose (marks_of (meant n)) (marks_of (means n)) → ⊥)

-- Where the room tells, and the archives of a table of the image that was read came back with their
-- counts as they were, the opening of this table logged what an opening over all blocks logs that
-- the room meant, and nothing else.
abbrev pub OpeningsAreTrue : Type 0
OpeningsAreTrue =
    (first last : Contents) (room : Transition RoomState) (missing : List ℕ)
    (story : Section)
    → FitsTogether first → IsTrue room.tells → Leaves room missing first last story
    → (group : ℕ) (read : Table) → slice_get first.tables group ≡ Some read
    → AreUndisturbed room.before.means room.after.means missing read
    → OpensAsMeant room.before.means read (story.before group)
