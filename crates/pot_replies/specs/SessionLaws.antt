-- Laws of a session's sections and replies.
use Rattle.std.specs.Prelude.{◌≡◌, ℕ, ◌+◌, List, [], ◌∷◌, ◌++◌, Some, take, slice_get}
use Rattle.pot_index.specs.Entries as index
use Rattle.pot_machine.specs.Logs.{own}
use Rattle.pot_replies.specs.Sections.{Section, MovesThenRest, IsAmong, IsOfJobs, FollowsSection, IsSectionEmpty}
use Rattle.pot_replies.specs.Sessions.{Step, jobs_in, jobs_of, AreSections, Answered, Replied}

-- What all logs of a session have of a job is what its step's section has.
abbrev pub OwnInSections : Type 0 → Type 0
OwnInSections Line =
    (job : ℕ) (steps : List (Step Line)) (ones : List Section) (w : Section)
    → AreSections job steps ones w
    → (k : ℕ) (c : Step Line) (one : Section) → slice_get steps k ≡ Some c
    → slice_get ones k ≡ Some one
    → (j : ℕ) → IsAmong (job + jobs_of (take k steps)) (jobs_in c) j
    → ((g : ℕ) → own j (w.added g) ≡ own j (one.added g))
    × (index.own j w.index_added ≡ index.own j one.index_added)

module _ {Line Reply : Type 0} (Row : ℕ → Line → List Reply → (w : Section) → MovesThenRest w → Type 0)
  where
    -- where nothing was added, no step has no replies
    abbrev pub RepliedNone : Type 0
    RepliedNone = (job : ℕ) (w : Section) → IsSectionEmpty w → Replied Row job [] [] w

    -- and one step more is one section more
    abbrev pub RepliedMore : Type 0
    RepliedMore =
        (job : ℕ) (steps : List (Step Line)) (rs : List Reply) (c : Step Line) (now : List Reply)
        (sofar one whole : Section) (h : MovesThenRest one)
        → Replied Row job steps rs sofar → FollowsSection sofar one whole
        → IsOfJobs (job + jobs_of steps) (jobs_in c) one
        → Answered Row (job + jobs_of steps) c now one h
        → Replied Row job (steps ++ c ∷ []) (rs ++ now) whole
