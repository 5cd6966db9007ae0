-- What the steps of a session ask for.
use Rattle.std.proofs.Common.{◌≡◌, ◌<◌, ◌≤◌, ℕ, List, [], ◌∷◌, refl, arith}
use Rattle.std.specs.Prelude.{flat_map}
use Rattle.std.specs.List.{AllByRecursion}
use Rattle.pot_bytes.specs.declared.rack.Rack.{Rack}
use Rattle.pot_script.specs.declared.command.Command.{Command}
use Rattle.pot_script.specs.declared.command.Command.TheVariants as command
use Rattle.pot_script.specs.declared.grouping.Step.{Step}
use Rattle.pot_script.specs.declared.grouping.Step.TheVariants as steps
use Rattle.pot_script.specs.Commands.{IsCommand}
use Rattle.pot_commands.specs.Rows.{IsWorked}
use Rattle.pot_commands.specs.Steps.{IsBatched, IsWorkedStep}
use Rattle.pot_shared.specs.Hands.{times}
use Rattle.pot_commands.specs.Taking.{asks, asks_in, asked_by}
use Rattle.pot_shared.proofs.Times.{times-append, times_there}
use Rattle.pot_script.specs.Steps.{IsJobLine, IsWholeStep}
use Rattle.pot_shared.specs.Groups.{AreLow}

-- a command alone of the grammar is one that is worked
is_worked : (rack : Rack) (c : Command) → IsWholeStep rack (steps.One c) → IsWorked rack.groups c
is_worked rack (command.Store name file) s = tt
is_worked rack (command.Fetch name) s = tt
is_worked rack command.List s = tt
is_worked rack command.Status s = tt
is_worked rack (command.Scrub group) s = s.1.0
is_worked rack (command.Repair group) s = s.1.0
is_worked rack (command.Replace from to) s = tt
is_worked rack (command.Migrate from to) s = tt
is_worked rack (command.Renew name geometry) s = (s.1.1.limits, s.1.1.groups)
is_worked rack (command.Together count) s = absurd (cc (s.0))
is_worked rack command.End s = absurd (cc (s.0))
is_worked rack command.Quit s = absurd (cc (s.0))

-- and so is a line of a batch
is_batched : (rack : Rack) (c : Command) → IsJobLine rack c → IsBatched rack.groups c
is_batched rack (command.Store name file) s = tt
is_batched rack (command.Fetch name) s = tt
is_batched rack (command.Scrub group) s = s.1.0
is_batched rack (command.Repair group) s = s.1.0
is_batched rack (command.Renew name geometry) s = (s.1.1.limits, s.1.1.groups)
is_batched rack (command.Migrate from to) s = tt
is_batched rack command.List s = absurd (cc (s.0))
is_batched rack command.Status s = absurd (cc (s.0))
is_batched rack (command.Replace from to) s = absurd (cc (s.0))
is_batched rack (command.Together count) s = absurd (cc (s.0))
is_batched rack command.End s = absurd (cc (s.0))
is_batched rack command.Quit s = absurd (cc (s.0))

are_batched : (rack : Rack) (cs : List Command) → AllByRecursion (IsJobLine rack) cs → AllByRecursion (IsBatched rack.groups) cs
are_batched rack [] s = tt
are_batched rack (c ∷ cs) s = (is_batched rack c s.0, are_batched rack cs s.1)

worked_step : (rack : Rack) (d : Step) → IsWholeStep rack d → IsWorkedStep rack.groups d
worked_step rack (steps.One c) s = is_worked rack c s
worked_step rack (steps.Together lines) s = (s.0, s.1, are_batched rack lines s.2)

pub are_worked : (rack : Rack) (ss : List Step) → AllByRecursion (IsWholeStep rack) ss → AllByRecursion (IsWorkedStep rack.groups) ss
are_worked rack [] s = tt
are_worked rack (d ∷ ss) s = (worked_step rack d s.0, are_worked rack ss s.1)

one_low : (k n : ℕ) → k ≤ 511 → 511 < n → times n (k ∷ []) ≡ 0
one_low k n le lt = times_there k n (λ e. (let z = e in omega (arith, le, lt, z)))

-- each archive that they ask for has a number of one
asks_low : (rack : Rack) (c : Command) → IsCommand rack c → AreLow (asks c)
asks_low rack (command.Replace from to) s n lt = one_low to n s.1 lt
asks_low rack (command.Migrate from to) s n lt = one_low to n s.1 lt
asks_low rack _ s n lt = refl

lines_low : (rack : Rack) (cs : List Command) → AllByRecursion (IsJobLine rack) cs → AreLow (flat_map asks cs)
lines_low rack [] s n lt = refl
lines_low rack (c ∷ cs) s n lt =
    (let a = asks_low rack c s.0.1 n lt in let b = lines_low rack cs s.1 n lt in let d = times-append n (asks c) (flat_map asks cs) in omega (arith, a, b, d))

step_low : (rack : Rack) (d : Step) → IsWholeStep rack d → AreLow (asks_in d)
step_low rack (steps.One c) s = asks_low rack c s.1
step_low rack (steps.Together lines) s = lines_low rack lines s.2

pub asked_low : (rack : Rack) (ss : List Step) → AllByRecursion (IsWholeStep rack) ss → AreLow (asked_by ss)
asked_low rack [] s n lt = refl
asked_low rack (d ∷ ss) s n lt =
    (let a = step_low rack d s.0 n lt in let b = asked_low rack ss s.1 n lt in let e = times-append n (asks_in d) (asked_by ss) in omega (arith, a, b, e))
