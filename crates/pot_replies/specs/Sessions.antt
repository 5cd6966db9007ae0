-- A session: what the opening logged, and then a section for each step of the script, as far as it
-- came.
use Rattle.std.specs.Prelude.{◌≡◌, ℕ, suc, ◌+◌, List, [], ◌∷◌, ◌++◌, length}
use Rattle.pot_machine.specs.declared.entry.Entry.{Entry}
use Rattle.pot_machine.specs.Logs.{job_of}
use Rattle.pot_replies.specs.Sections.{Section, MovesThenRest, IsOfJobs, FollowsSection, IsSectionEmpty}

-- one line, or the lines of a batch
pub data Step (Line : Type 0) : Type 0 where
  One : Line → Step Line
  Together : List Line → Step Line

module _ {Line : Type 0} where
  -- how many jobs a step has
  abbrev pub jobs_in : Step Line → ℕ
  jobs_in (One l) = 1
  jobs_in (Together ls) = length ls

  abbrev pub jobs_of : List (Step Line) → ℕ
  jobs_of [] = 0
  jobs_of (c ∷ cs) = jobs_in c + jobs_of cs

  -- What was added is these sections, one for each step, in order, and each has entries of its
  -- step's jobs alone. The jobs are numbered from this one on.
  abbrev pub AreSections : ℕ → List (Step Line) → List Section → Section → Type 0
  AreSections job [] [] w = IsSectionEmpty w
  AreSections job (c ∷ cs) (one ∷ ones) w =
      (rest : Section) × FollowsSection one rest w × IsOfJobs job (jobs_in c) one
      × AreSections (job + jobs_in c) cs ones rest
  AreSections job _ _ w = ⊥

-- `Row` is the table of replies: it is given the job, the line, its replies, the section of its
-- step, and the halves of that.
module _ {Line Reply : Type 0} (Row : ℕ → Line → List Reply → (w : Section) → MovesThenRest w → Type 0)
  where
    -- each line of a batch, the first of which is this job, has one reply
    abbrev pub Rows : ℕ → List Line → List Reply → (w : Section) → MovesThenRest w → Type 0
    Rows job [] rs w h = rs ≡ []
    Rows job (l ∷ ls) rs w h =
        (r : Reply) × (more : List Reply) × (rs ≡ r ∷ more) × Row job l (r ∷ []) w h
        × Rows (suc job) ls more w h

    abbrev pub Answered : ℕ → Step Line → List Reply → (w : Section) → MovesThenRest w → Type 0
    Answered job (One l) rs w h = Row job l rs w h
    Answered job (Together ls) rs w h = Rows job ls rs w h

    -- the steps have these replies, each on its section
    abbrev pub Answers : ℕ → List (Step Line) → List Section → List Reply → Type 0
    Answers job [] [] rs = rs ≡ []
    Answers job (c ∷ cs) (one ∷ ones) rs =
        (h : MovesThenRest one) × (now : List Reply) × (more : List Reply) × (rs ≡ now ++ more)
        × Answered job c now one h × Answers (job + jobs_in c) cs ones more
    Answers job _ _ rs = ⊥

    -- The steps have these replies over what was added.
    pub record Replied (job : ℕ) (steps : List (Step Line)) (rs : List Reply)
        (w : Section) : Type 0 where
      pub ones : List Section
      pub are : AreSections job steps ones w
      pub answers : Answers job steps ones rs

-- each entry of an opening is of no job
abbrev pub ByNobody : List Entry → Type 0
ByNobody opening = (x y : List Entry) (e : Entry) → opening ≡ x ++ e ∷ y → job_of e ≡ 0
