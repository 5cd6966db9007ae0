-- What workers leave of jobs.
use Rattle.std.specs.Prelude.{◌≡◌, ℕ, ◌<◌, ◌++◌, List, length, map, Some, Option, slice_get}
use Rattle.pot_work.specs.declared.claims.Hand.{Hand}
use Rattle.pot_work.specs.Claims.{times}

module _ {J : Type 0} (done : J → Type 0) (related : J → J → Type 0) where
  -- this is the job at a position of these, worked
  pub record IsWorkOf (jobs : List J) (e : ℕ × J) : Type 0 where
    pub job : J
    pub at : slice_get jobs e.0 ≡ Some job
    pub is_done : done e.1
    pub left : related job e.1

  -- each of these is
  abbrev pub AreWorkOf : List J → List (ℕ × J) → Type 0
  AreWorkOf jobs es = (k : ℕ) (e : ℕ × J) → slice_get es k ≡ Some e → IsWorkOf jobs e

  -- what was finished by one who knew v and knows w are the jobs that it took since, in order
  pub record HasFinished (v w : Hand J) (finished : List (ℕ × J)) : Type 0 where
    pub parts : w.parts ≡ v.parts
    pub jobs : w.jobs ≡ v.jobs
    pub taken : w.taken ≡ v.taken ++ map (λ e. e.0) finished
    pub each : AreWorkOf v.jobs finished

  -- the jobs at these positions, worked, each at its place
  pub record ArePlaced (jobs : List J) (taken : List ℕ) (places : List (Option J)) : Type 0 where
    pub count : length places ≡ length jobs
    pub each : (p : ℕ) → 0 < times p taken
        → (y : J) × (slice_get places p ≡ Some (Some y)) × IsWorkOf jobs (p, y)

  -- and all of them so
  pub record AllPlaced (jobs : List J) (places : List (Option J)) : Type 0 where
    pub count : length places ≡ length jobs
    pub each : (p : ℕ) → p < length jobs
        → (y : J) × (slice_get places p ≡ Some (Some y)) × IsWorkOf jobs (p, y)

  -- The jobs came back in their order, each done, and what its work leaves of the one that was
  -- handed in.
  pub record AreWorked (jobs back : List J) : Type 0 where
    pub count : length back ≡ length jobs
    pub each : (k : ℕ) (x y : J) → slice_get jobs k ≡ Some x → slice_get back k ≡ Some y
        → done y × related x y

-- each of these is so
abbrev pub Each : {X : Type 0} → (X → Type 0) → List X → Type 0
Each {X} P xs = (k : ℕ) (x : X) → slice_get xs k ≡ Some x → P x

-- no job is done
abbrev pub AreFresh : {J : Type 0} → (J → Type 0) → List J → Type 0
AreFresh {J} done jobs = (k : ℕ) (x : J) → slice_get jobs k ≡ Some x → ¬ (done x)
