-- A task that words spell is within the limits.
use Rattle.std.proofs.Common.{◌≤◌, ◌<◌, inl, inr, ℕ, List, [], ◌∷◌, sym, subst, length, Option, Some, None, Result, Ok, Err, IfOk, arith}
use Rattle.std.specs.Prelude.{IfSome}
use Rattle.pot_bytes.specs.declared.memory.NoMemory.{NoMemory}
use Rattle.pot_options.specs.Options.{Text, given}
use Rattle.pot_words.specs.Answers.{IsOnly}
use Rattle.pot_words.specs.Limits.{IsWithinLimits}
use Rattle.pot_words.specs.Lists.{AreListedPoints, HasPoints, Lists}
use Rattle.pot_words.specs.Tasks.{SpellCommand, SpellTask}
use Rattle.pot_words.specs.Values.{HasNumberOr}
use Rattle.pot_words.specs.declared.command.Command.{Command}
use Rattle.pot_words.specs.declared.command.Command.TheVariants as command
use Rattle.pot_words.specs.declared.task.Task.{Task}

number_or_within : (value : Text → Option Text) (name : Text) (least most other n : ℕ) → least ≤ other → other ≤ most → HasNumberOr value name least most other n → (least ≤ n) × (n ≤ most)
number_or_within value name least most other n low high (inl left_out) = (omega (arith, left_out.1, low), omega (arith, left_out.1, high))
number_or_within value name least most other n low high (inr has) = (has.0, has.1)

points_within : (value : Text → Option Text) (name : Text) (most : ℕ) (points : List ℕ) → HasPoints value name most points → AreListedPoints most points
points_within value name most points (inl left_out) = subst (AreListedPoints most) (sym left_out.1) tt
points_within value name most points (inr has) = has.2

some_listed : {X : Type 0} (spell : X → Text) (text : Text) (xs : List X) → Lists spell text xs → 0 < length xs
some_listed spell text [] lists = absurd lists
some_listed spell text (x ∷ xs) lists = omega arith

command_within : (c : Command) (words : List Text) (t : Task) → SpellCommand c words t → IsWithinLimits t
command_within command.Init words t (rack, is, (uses, spell, has)) = subst IsWithinLimits (sym is) has.0
command_within command.Run words t (run, is, (uses, spell, has)) = subst IsWithinLimits (sym is) (number_or_within (given uses) _ 1 16 4 run.workers (omega arith) (omega arith) has.1)
command_within command.Generate words t (n, is, has) = subst IsWithinLimits (sym is) (has.0, has.1)
command_within command.Recover words t (r, is, (uses, spell, has)) = subst IsWithinLimits (sym is) (has.0.0, has.0.1, has.1.0, has.1.1, has.2.1)
command_within command.Drill words t (d, is, (uses, spell, has)) = subst IsWithinLimits (sym is) (has.0.0, has.1.0, has.1.1, points_within (given uses) _ d.geometry.shards d.seen.items has.2)
command_within command.Audit words t (a, is, (uses, spell, has)) = subst IsWithinLimits (sym is) (some_listed _ has.0.0 a.seen.items has.0.3, has.0.2)

-- the answer on words that spell it is within the limits
pub answer_within : (words : List Text) (r : Result (Option Task) NoMemory) → IfOk r (IsOnly (SpellTask words)) → IfOk r (λ (o : Option Task). IfSome o IsWithinLimits)
answer_within words (Ok None) only = tt
answer_within words (Ok (Some t)) only = command_within only.0.0 only.0.1 t only.0.3
answer_within words (Err e) only = tt
