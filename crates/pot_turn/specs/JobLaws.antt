-- Laws of a job that is logged over a part of a pass's turns, and by more than one pass.
use Rattle.std.specs.Prelude.{◌≡◌, ℕ, ◌≤◌, List, [], ◌++◌, length, filter, slice_get, Some, Bool}
use Rattle.std.specs.Prelude.{false}
use Rattle.pot_turn.specs.declared.view.View.{View}
use Rattle.pot_turn.specs.Logs.{StartsWith, longer}
use Rattle.pot_turn.specs.Views.{stretches_of, took_view, left_view, cut_view, new_view, both_views}
use Rattle.pot_turn.specs.Views.{IsPass}
use Rattle.pot_turn.specs.Jobs.{NoneIn, Carries, CarriesBetween}

-- a pass that made nothing logged nothing, of any job
abbrev pub IdleLogsNothing : (E O : Type 0) → Type 0
IdleLogsNothing E O =
    (is_of : E → Bool) (v : View E O) → IsPass v → v.made ≡ 0 → NoneIn is_of v.seen (stretches_of v)

-- a new pass carries nothing of a job that begins after what it has seen
abbrev pub PartBegins : (E O : Type 0) → Type 0
PartBegins E O =
    (is_of : E → Bool) (v : View E O) (n : ℕ)
    → CarriesBetween is_of (length v.seen) (length v.seen) (new_view n v) []

-- a pass that gives parts away carries what it did
abbrev pub PartSplits : (E O : Type 0) → Type 0
PartSplits E O =
    (is_of : E → Bool) (v : View E O) (n from upto : ℕ) (entries : List E)
    → CarriesBetween is_of from upto v entries
    → CarriesBetween is_of from upto (cut_view n v) entries

-- and so does one that takes the value
abbrev pub PartEnters : (E O : Type 0) → Type 0
PartEnters E O =
    (is_of : E → Bool) (v : View E O) (from upto : ℕ) (entries log : List E)
    → IsPass v → StartsWith log v.seen → CarriesBetween is_of from upto v entries
    → CarriesBetween is_of from upto (took_view log v) entries

-- a turn adds the job's entries among those that it logged
abbrev pub PartLogs : (E O : Type 0) → Type 0
PartLogs E O =
    (is_of : E → Bool) (v : View E O) (from upto : ℕ) (entries log added : List E)
    → IsPass v → log ≡ v.seen ++ added
    → CarriesBetween is_of from upto v entries
    → CarriesBetween is_of from (length log) (left_view log v) (entries ++ filter is_of added)

-- and none where it logged none of the job's
abbrev pub PartStays : (E O : Type 0) → Type 0
PartStays E O =
    (is_of : E → Bool) (v : View E O) (from upto : ℕ) (entries log added : List E)
    → IsPass v → log ≡ v.seen ++ added
    → ((k : ℕ) (e : E) → slice_get added k ≡ Some e → is_of e ≡ false)
    → CarriesBetween is_of from upto v entries
    → CarriesBetween is_of from upto (left_view log v) entries

-- where what one pass carries comes before what the other does, their join carries the one and then
-- the other
abbrev pub PartsJoin : (E O : Type 0) → Type 0
PartsJoin E O =
    (is_of : E → Bool) (v w : View E O) (a b c d : ℕ) (xs ys : List E)
    → IsPass v → IsPass w → b ≤ c → StartsWith (longer v.seen w.seen) v.seen
    → StartsWith (longer v.seen w.seen) w.seen
    → CarriesBetween is_of a b v xs → CarriesBetween is_of c d w ys
    → CarriesBetween is_of a d (both_views v w) (xs ++ ys)

-- what is carried between the opening log and the log seen is all that is carried
abbrev pub PartIsAll : (E O : Type 0) → Type 0
PartIsAll E O =
    (is_of : E → Bool) (v : View E O) (from upto : ℕ) (entries : List E)
    → length v.opened ≤ from → CarriesBetween is_of from upto v entries → Carries is_of v entries
