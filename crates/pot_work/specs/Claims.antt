-- Claims of jobs: each position of a batch stands in the line or was taken, once.
use Rattle.std.specs.Prelude.{◌≡◌, ℕ, ◌+◌, ◌<◌, ◌≤◌, ◌==◌, List, [], ◌∷◌, ◌++◌, Some, slice_get}
use Rattle.std.specs.Prelude.{if◌then◌else◌, length}
use mathlib.Core.Option.{some}
use lib.ListN.{get_elem?}
use Rattle.pot_work.specs.declared.claims.Hand.{Hand}

abbrev pub hand : {J : Type 0} → ℕ → List J → List ℕ → Hand J
hand parts jobs taken = record { parts = parts; jobs = jobs; taken = taken }

-- the weights of the elements, added up
abbrev pub weigh : {X : Type 0} → (X → ℕ) → List X → ℕ
weigh h [] = 0
weigh h (x ∷ xs) = h x + weigh h xs

-- one where a number is the position, else none
abbrev pub one_at : ℕ → ℕ → ℕ
one_at p q = if q == p then 1 else 0

-- how often a position stands among these
abbrev pub times : ℕ → List ℕ → ℕ
times p ps = weigh (one_at p) ps

-- all parts of a line
abbrev pub all_parts : ℕ
all_parts = 1024

-- whoever has a part knows the jobs, and who has none took nothing
pub record FitsJobs {J : Type 0} (jobs : List J) (v : Hand J) : Type 0 where
  pub idle : v.parts ≡ 0 → v.taken ≡ []
  pub held : 0 < v.parts → v.jobs ≡ jobs

-- how often a position stands in the line or was taken
abbrev pub stands : {J : Type 0} → ℕ → List (ℕ × J) → List (Hand J) → ℕ
stands p items views = weigh (λ x. one_at p x.0) items + weigh (λ v. times p v.taken) views

-- Each position of a job stands in the line with it, or was taken, once; and no other does.
pub record Claimed {J : Type 0} (items : List (ℕ × J)) (views : List (Hand J)) : Type 0 where
  pub jobs : List J
  pub parts : weigh (λ v. v.parts) views ≡ all_parts
  pub each : (by : ℕ) (v : Hand J) → get_elem? views by ≡ some v → FitsJobs jobs v
  pub once : (p : ℕ) → p < length jobs → stands p items views ≡ 1
  pub none : (p : ℕ) → length jobs ≤ p → stands p items views ≡ 0
  pub count : length items + weigh (λ v. length v.taken) views ≡ length jobs
  pub queued : (k : ℕ) (x : ℕ × J) → slice_get items k ≡ Some x → slice_get jobs x.0 ≡ Some x.1

-- a position with its job left the line
pub record TookOne {J : Type 0} (v : Hand J) (x : ℕ × J) (w : Hand J) : Type 0 where
  pub is : w ≡ hand v.parts v.jobs (v.taken ++ x.0 ∷ [])
  pub job : slice_get v.jobs x.0 ≡ Some x.1
  pub few : length v.taken < length v.jobs

-- who has all parts took each position once, where the line is empty
abbrev pub TookAll : {J : Type 0} → Hand J → List (ℕ × J) → Type 0
TookAll v items =
    v.parts ≡ all_parts → items ≡ [] → (p : ℕ) → p < length v.jobs → times p v.taken ≡ 1
