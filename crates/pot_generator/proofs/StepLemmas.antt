-- The commands of a script may stand where they do, and their text is short.
use Rattle.std.proofs.Common.{◌≡◌, ℕ, ◌+◌, ◌-◌, ◌*◌, ◌<◌, ◌≤◌, List, [], ◌∷◌, ◌++◌, Option, Some, None, length, zero, suc, refl, sym, ap, subst, ◌∙◌, arith}
use Rattle.std.specs.Prelude.{Bool, true, false, Result, Ok, Err, Vec, IfOk, map, codes, ◌==◌, if◌then◌else◌}
use Rattle.std.specs.Global.{Global}
use Rattle.std.specs.List.{range_with_len}
use Rattle.std.proofs.lemmas.Bool.Decides.{nat_tests}
use Rattle.std.proofs.lemmas.List.{length-append}
use Rattle.std.proofs.lemmas.List.Concat.{flat_map-cons}
use Rattle.std.proofs.lemmas.Grind.{flat_map-append}
use Rattle.std.proofs.lemmas.List.FromFn.{length-map-range_with_len}
use Rattle.pot_bytes.specs.declared.memory.NoMemory.{NoMemory}
use Rattle.pot_bytes.specs.declared.rack.Rack.{Rack}
use Rattle.pot_script.specs.declared.command.Command.{Command}
use Rattle.pot_script.specs.declared.command.Command.TheVariants as commands
use Rattle.pot_script.specs.Commands.{IsCommand, command_line, command_text, most_bytes, stated_bytes}
use Rattle.pot_script.specs.Batches.{after_command}
use Rattle.pot_script.specs.Scripts.{AreSteps, IsScript, IsStep, after_commands, script_text}
use Rattle.pot_script.proofs.CommandLemmas.{length-command_line}
use Rattle.pot_generator.specs.Generated.{batch, byte_of, fetches, file_of, files, generated, length_of, name_of, rest, steps_of, stores}
use Rattle.pot_generator.specs.Runs.{rack_of_runs}
use Rattle.pot_generator.proofs.NameLemmas.{name_is}

-- Commands that may stand from here on, so many of them, and where the line behind them stands.
record Part (at : Option ℕ) (n : ℕ) (xs : List Command) (to : Option ℕ) : Type 0 where
  each : AreSteps rack_of_runs at xs
  out : after_commands at xs ≡ to
  short : length (script_text xs) ≤ n * 5000

-- no command has a text of 5,000 bytes

file_short : (number place : ℕ) → length (file_of number place) ≤ 4000
file_short number place = omega (arith, length-map-range_with_len (byte_of number place) 0 (length_of number place))

text_short : (c : Command) → IsCommand rack_of_runs c → length (stated_bytes c) ≤ 4001 → length (command_text c) ≤ 5000
text_short c is light =
    let whole : length (command_text c) ≡ length (command_line c ++ codes "\n") + length (stated_bytes c) = length-append (command_line c ++ codes "\n") (stated_bytes c) in
    let front : length (command_line c ++ codes "\n") ≡ length (command_line c) + 1 = length-append (command_line c) (codes "\n") in
    omega (arith, light, whole, front, length-command_line rack_of_runs c is)

part_none : (at : Option ℕ) → Part at 0 [] at
part_none at = record { each = tt; out = refl; short = omega arith }

part_cons : (at next to : Option ℕ) (n : ℕ) (c : Command) (xs : List Command) → IsStep rack_of_runs at c → after_command at c ≡ next → length (stated_bytes c) ≤ 4001
    → Part next n xs to → Part at (suc n) (c ∷ xs) to
part_cons at next to n c xs step is light p = record {
  each = (step, subst (λ (b : Option ℕ). AreSteps rack_of_runs b xs) (sym is) p.each);
  out = ap (λ (b : Option ℕ). after_commands b xs) is ∙ p.out;
  short = omega (arith, p.short, text_short c step.is light, length-append (command_text c) (script_text xs), ap (λ (l : List ℕ). length l) (flat_map-cons command_text c xs));
}

steps_append : (at : Option ℕ) (xs ys : List Command) → AreSteps rack_of_runs at xs → AreSteps rack_of_runs (after_commands at xs) ys → AreSteps rack_of_runs at (xs ++ ys)
steps_append at [] ys p q = q
steps_append at (x ∷ xs) ys p q = (p.0, steps_append (after_command at x) xs ys p.1 q)

after_append : (at : Option ℕ) (xs ys : List Command) → after_commands at (xs ++ ys) ≡ after_commands (after_commands at xs) ys
after_append at [] ys = refl
after_append at (x ∷ xs) ys = after_append (after_command at x) xs ys

part_append : (at mid to : Option ℕ) (n m : ℕ) (xs ys : List Command) → Part at n xs mid → Part mid m ys to → Part at (n + m) (xs ++ ys) to
part_append at mid to n m xs ys p q = record {
  each = steps_append at xs ys p.each (subst (λ (b : Option ℕ). AreSteps rack_of_runs b ys) (sym p.out) q.each);
  out = after_append at xs ys ∙ ap (λ (b : Option ℕ). after_commands b ys) p.out ∙ q.out;
  short = omega (arith, p.short, q.short, length-append (script_text xs) (script_text ys), ap (λ (l : List ℕ). length l) (flat_map-append command_text xs ys));
}

-- a file's store, and its fetch outside a batch or in one

store_step : (number place : ℕ) → place < files → IsStep rack_of_runs None (commands.Store (name_of place) (file_of number place))
store_step number place lt = record { is = (name_is place lt, omega (arith, file_short number place)); stands = refl; goes_on = λ e. cc }

fetch_step : (place : ℕ) → place < files → IsStep rack_of_runs None (commands.Fetch (name_of place))
fetch_step place lt = record { is = name_is place lt; stands = refl; goes_on = λ e. cc }

batched_step : (left place : ℕ) → place < files → IsStep rack_of_runs (Some (suc left)) (commands.Fetch (name_of place))
batched_step left place lt = record { is = name_is place lt; stands = ap (λ (b : Bool). if b then false else true) (not_zero (suc left) (omega arith)); goes_on = λ e. cc }
  where
    not_zero : (n : ℕ) → 0 < n → (n == 0) ≡ false
    not_zero n some = grind (arith, nat_tests)

stores_from : (number a n : ℕ) → a + n ≤ files → Part None n (map (λ place. commands.Store (name_of place) (file_of number place)) (range_with_len a n)) None
stores_from number a zero fits = part_none None
stores_from number a (suc n) fits =
    part_cons None None None n (commands.Store (name_of a) (file_of number a)) (map (λ place. commands.Store (name_of place) (file_of number place)) (range_with_len (a + 1) n))
    (store_step number a (omega arith)) refl light (stores_from number (a + 1) n (omega arith))
  where
    light : length (file_of number a ++ codes "\n") ≤ 4001
    light = let one : length (codes "\n") ≡ 1 = refl in omega (arith, one, file_short number a, length-append (file_of number a) (codes "\n"))

fetches_from : (a n : ℕ) → a + n ≤ files → Part None n (map (λ place. commands.Fetch (name_of place)) (range_with_len a n)) None
fetches_from a zero fits = part_none None
fetches_from a (suc n) fits =
    part_cons None None None n (commands.Fetch (name_of a)) (map (λ place. commands.Fetch (name_of place)) (range_with_len (a + 1) n))
    (fetch_step a (omega arith)) refl (omega arith) (fetches_from (a + 1) n (omega arith))

batched_from : (a n : ℕ) → a + n ≤ files → Part (Some n) n (map (λ place. commands.Fetch (name_of place)) (range_with_len a n)) (Some 0)
batched_from a zero fits = part_none (Some 0)
batched_from a (suc n) fits =
    part_cons (Some (suc n)) (Some n) (Some 0) n (commands.Fetch (name_of a)) (map (λ place. commands.Fetch (name_of place)) (range_with_len (a + 1) n))
    (batched_step n a (omega arith)) (ap Some one_less) (omega arith) (batched_from (a + 1) n (omega arith))
  where
    one_less : suc n - 1 ≡ n
    one_less = omega arith

-- the parts of the script

batch_part : Part None 27 batch None
batch_part =
    part_cons None None None 26 (commands.Replace 0 16) (commands.Together files ∷ fetches ++ commands.End ∷ [])
    (record { is = (omega arith, omega arith); stands = refl; goes_on = λ e. cc }) refl (omega arith)
    (part_cons None (Some files) None 25 (commands.Together files) (fetches ++ commands.End ∷ [])
    (record { is = (omega arith, omega arith); stands = refl; goes_on = λ e. cc }) refl (omega arith)
    (part_append (Some files) (Some 0) None files 1 fetches (commands.End ∷ []) (batched_from 0 files (omega arith))
    (part_cons (Some 0) None None 0 commands.End [] (record { is = tt; stands = refl; goes_on = λ e. cc }) refl (omega arith) (part_none None))))

end_part : Part None 2 (commands.List ∷ commands.Status ∷ []) None
end_part =
    part_cons None None None 1 commands.List (commands.Status ∷ []) (record { is = tt; stands = refl; goes_on = λ e. cc }) refl (omega arith)
    (part_cons None None None 0 commands.Status [] (record { is = tt; stands = refl; goes_on = λ e. cc }) refl (omega arith) (part_none None))

rest_part : Part None 27 rest None
rest_part =
    part_cons None None None 26 (commands.Repair 0) (fetches ++ commands.List ∷ commands.Status ∷ [])
    (record { is = (omega arith, omega arith); stands = refl; goes_on = λ e. cc }) refl (omega arith)
    (part_append None None None files 2 fetches (commands.List ∷ commands.Status ∷ []) (fetches_from 0 files (omega arith)) end_part)

all_parts : (number : ℕ) → Part None 78 (steps_of number) None
all_parts number =
    part_append None None None 51 27 (stores number ++ batch) rest (part_append None None None files 27 (stores number) batch (stores_from number 0 files (omega arith)) batch_part) rest_part

pub steps_are : (number : ℕ) → AreSteps rack_of_runs None (steps_of number)
steps_are number = (all_parts number).each

pub steps_out : (number : ℕ) → after_commands None (steps_of number) ≡ None
steps_out number = (all_parts number).out

-- the whole text is within the limit of a script
pub script_short : (number : ℕ) → length (script_text (generated number)) ≤ most_bytes
script_short number =
    let quit : length (script_text (commands.Quit ∷ [])) ≤ 5000 = omega arith in
    omega (arith, quit, (all_parts number).short, length-append (script_text (steps_of number)) (script_text (commands.Quit ∷ [])), ap (λ (l : List ℕ). length l) (flat_map-append command_text (steps_of number) (commands.Quit ∷ [])))

-- a session over the rack reads what is written of these steps
pub reads_generated : (number : ℕ) (r : Result (Vec ℕ Global) NoMemory) (steps : List Command) → steps ≡ steps_of number
    → IfOk r (λ script. script.items ≡ script_text (steps ++ commands.Quit ∷ []))
    → IfOk r (λ script. (rack : Rack) → AreSteps rack None steps → after_commands None steps ≡ None → length script.items ≤ most_bytes → IsScript rack script.items (steps ++ commands.Quit ∷ []))
    → IfOk r (λ script. IsScript rack_of_runs script.items (generated number))
reads_generated number (Err e) steps is text reads = tt
reads_generated number (Ok script) steps is text reads =
    subst (λ (l : List Command). IsScript rack_of_runs script.items (l ++ commands.Quit ∷ [])) is
    (reads rack_of_runs (subst (λ (l : List Command). AreSteps rack_of_runs None l) (sym is) (steps_are number)) (ap (λ (l : List Command). after_commands None l) is ∙ steps_out number) short)
  where
    short : length script.items ≤ most_bytes
    short = omega (arith, script_short number, ap (λ (l : List ℕ). length l) (text ∙ ap (λ (l : List Command). script_text (l ++ commands.Quit ∷ [])) is))
