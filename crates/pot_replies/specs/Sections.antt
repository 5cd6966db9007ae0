-- The logs of a session, in sections: each log is what the opening logged, and then what each
-- command added, a batch being one command. A reply is judged on the section of its command and on
-- what stood before.
use Rattle.std.specs.Prelude.{◌≡◌, ◌≢◌, ◌<◌, ◌≤◌, ℕ, ◌+◌, Bool, nat_lt, List, [], ◌∷◌, ◌++◌, filter}
use Rattle.std.specs.Prelude.{IsTrue}
use Rattle.pot_machine.specs.declared.entry.Entry.{Entry}
use Rattle.pot_machine.specs.declared.slot.SlotState.{SlotState}
use Rattle.pot_machine.specs.Table.{Table, slot_at}
use Rattle.pot_machine.specs.Logs.{job_of, own, replayed}
use Rattle.pot_index.specs.declared.entry.Logged.{Logged}
use Rattle.pot_index.specs.Entries.{job_in}
use Rattle.pot_index.specs.Entries as index
use Rattle.pot_index.specs.Index.{Names}
use Rattle.pot_index.specs.Index as index_of
use Rattle.pot_replies.specs.Jobs.{is_move_begin, EachIs}

-- the logs before a command, by group and of the index, and what it added to each
pub record Section : Type 0 where
  pub before : ℕ → List Entry
  pub added : ℕ → List Entry
  pub index_before : List Logged
  pub index_added : List Logged

-- what a section has of one job, and what stood before
pub record JobEntries : Type 0 where
  pub before : ℕ → List Entry
  pub own : ℕ → List Entry
  pub index_before : List Logged
  pub index : List Logged

abbrev pub mine : ℕ → Section → JobEntries
mine job w =
    record {
      before = w.before;
      own = λ g. own job (w.added g);
      index_before = w.index_before;
      index = index.own job w.index_added;
    }

-- the names that a log of the index leads to
abbrev pub names_after : Names → List Logged → Names
names_after n [] = n
names_after n (x ∷ log) = names_after (index_of.after n x) log

-- A moment of a job in the log of a group, after all that it logged there: the log then.
pub record LogPoint (job : ℕ) (before added log : List Entry) : Type 0 where
  pub sofar : List Entry
  pub later : List Entry
  pub parts : added ≡ sofar ++ later
  pub last : own job later ≡ []
  pub is : log ≡ before ++ sofar

-- the same in the log of the index
pub record IndexMoment (job : ℕ) (before added log : List Logged) : Type 0 where
  pub sofar : List Logged
  pub later : List Logged
  pub parts : added ≡ sofar ++ later
  pub last : index.own job later ≡ []
  pub is : log ≡ before ++ sofar

-- at each point of what was added the slot passes the test; both ends are points
abbrev pub AlwaysAt : (SlotState → Bool) → Table → List Entry → ℕ → ℕ → Type 0
AlwaysAt test t added s c =
    (x y : List Entry) → added ≡ x ++ y → IsTrue (test (slot_at (replayed t x) s c))

-- the job logged nothing in any group; nothing anywhere; nothing but in one group
abbrev pub NoneInGroups : JobEntries → Type 0
NoneInGroups m = (g : ℕ) → m.own g ≡ []

abbrev pub IsSilent : JobEntries → Type 0
IsSilent m = NoneInGroups m × (m.index ≡ [])

abbrev pub IsOnlyIn : ℕ → JobEntries → Type 0
IsOnlyIn g m = ((h : ℕ) → h ≢ g → m.own h ≡ []) × (m.index ≡ [])

-- Other jobs logged more before the section ended.
pub record Widens (job : ℕ) (w w' : Section) : Type 0 where
  pub before : (g : ℕ) → w'.before g ≡ w.before g
  pub index_before : w'.index_before ≡ w.index_before
  pub more : ℕ → List Entry
  pub index_more : List Logged
  pub added : (g : ℕ) → w'.added g ≡ w.added g ++ more g
  pub index_added : w'.index_added ≡ w.index_added ++ index_more
  pub others : (g : ℕ) → own job (more g) ≡ []
  pub index_others : index.own job index_more ≡ []

-- WHOSE ENTRIES STAND IN A SECTION

-- the jobs from one on, so many
abbrev pub IsAmong : ℕ → ℕ → ℕ → Type 0
IsAmong from n job = (from ≤ job) × (job < from + n)

-- each entry is of one of these jobs
pub record IsOfJobs (from n : ℕ) (w : Section) : Type 0 where
  pub groups : (g : ℕ) (x y : List Entry) (e : Entry) → w.added g ≡ x ++ e ∷ y
      → IsAmong from n (job_of e)
  pub index : (x y : List Logged) (e : Logged) → w.index_added ≡ x ++ e ∷ y
      → IsAmong from n (job_in e.entry)

-- one section and then the rest are the whole
pub record FollowsSection (one rest whole : Section) : Type 0 where
  pub begins : (g : ℕ) → one.before g ≡ whole.before g
  pub is_added : (g : ℕ) → whole.added g ≡ one.added g ++ rest.added g
  pub goes_on : (g : ℕ) → rest.before g ≡ whole.before g ++ one.added g
  pub index_begins : one.index_before ≡ whole.index_before
  pub index_is_added : whole.index_added ≡ one.index_added ++ rest.index_added
  pub index_goes_on : rest.index_before ≡ whole.index_before ++ one.index_added

-- nothing was added
abbrev pub IsSectionEmpty : Section → Type 0
IsSectionEmpty w = ((g : ℕ) → w.added g ≡ []) × (w.index_added ≡ [])

-- THE TWO HALVES OF A COMMAND

-- each job is greater than the one before
abbrev pub JobsAscend : List Entry → Type 0
JobsAscend [] = Unit {0}
JobsAscend (e ∷ []) = Unit {0}
JobsAscend (e ∷ f ∷ es) = (job_of e < job_of f) × JobsAscend (f ∷ es)

-- What a command added: first the moves that it began, one a line at most, and then all else.
pub record MovesThenRest (w : Section) : Type 0 where
  pub begun : ℕ → List Entry
  pub worked : ℕ → List Entry
  pub parts : (g : ℕ) → w.added g ≡ begun g ++ worked g
  pub begins : (g : ℕ) → EachIs is_move_begin (begun g)
  pub no_more : (g : ℕ) → filter is_move_begin (worked g) ≡ []
  pub in_order : (g : ℕ) → JobsAscend (begun g)

-- the section on which the work of each line is judged
abbrev pub work_of : (w : Section) → MovesThenRest w → Section
work_of w h =
    record {
      before = λ g. w.before g ++ h.begun g;
      added = h.worked;
      index_before = w.index_before;
      index_added = w.index_added;
    }

-- the log of a group when the line of this job was checked: after the moves that earlier lines
-- began, and before all else
abbrev pub checked : (ℕ → List Entry) → (ℕ → List Entry) → ℕ → ℕ → List Entry
checked before begun job g = before g ++ filter (λ e. nat_lt (job_of e) job) (begun g)
