-- The steps of a script before `quit`.
use Rattle.std.proofs.Common.{◌≡◌, ◌<◌, ◌≤◌, ◌-◌, ◌++◌, ◌^◌, ℕ, List, [], ◌∷◌, length, take, ap, sym, subst, ◌∙◌, arith, length-append}
use Rattle.std.specs.Prelude.{None, flat_map, IsTrue}
use Rattle.std.specs.List.{AllByRecursion}
use Rattle.std.proofs.Math.Seq.{take-append_seam}
use Rattle.pot_bytes.specs.declared.rack.Rack.{Rack}
use Rattle.pot_outside.specs.Accounts.{Transition}
use Rattle.pot_script.specs.declared.command.Command.{Command}
use Rattle.pot_script.specs.declared.command.Command.TheVariants as command
use Rattle.pot_script.specs.declared.grouping.Step.{Step}
use Rattle.pot_script.specs.declared.grouping.Step.TheVariants as steps
use Rattle.pot_script.specs.Commands.{command_text}
use Rattle.pot_script.specs.Scripts.{IsScript, AreSteps, after_commands, script_text}
use Rattle.pot_script.specs.Steps.{IsWholeStep, spread}
use Rattle.pot_script.proofs.ScriptLemmas.{text_some}
use Rattle.pot_replies.specs.Sessions.{jobs_of}
use Rattle.pot_commands.specs.Ends.{next_job}
use Rattle.pot_commands.specs.Steps.{steps_of}
use Rattle.pot_session.specs.Commands.{IsScriptRead}

-- no more commands than bytes
texts_many : (cs : List Command) → length cs ≤ length (script_text cs)
texts_many [] = omega arith
texts_many (c ∷ cs) =
    omega (arith, text_some c, texts_many cs, length-append {A = ℕ} (command_text c) (script_text cs))

all_but_last : (cs : List Command) → take (length (cs ++ command.Quit ∷ []) - 1) (cs ++ command.Quit ∷ []) ≡ cs
all_but_last cs =
    ap (λ n. take n (cs ++ command.Quit ∷ [])) (omega (arith, length-append {A = Command} cs (command.Quit ∷ []))) ∙ take-append_seam cs (command.Quit ∷ [])

-- a script has no more commands than bytes
pub few_commands : (rack : Rack) (bytes : List ℕ) (cs : List Command) → IsScript rack bytes cs → length cs ≤ 67108864
few_commands rack bytes cs s = omega (arith, texts_many cs, ap (λ l. length l) s.spelled, s.short)

-- no more jobs than lines
jobs_few : (ss : List Step) → jobs_of (steps_of ss) ≤ length (flat_map spread ss)
jobs_few [] = omega arith
jobs_few (steps.One c ∷ ss) = (let n = jobs_few ss in omega (arith, n))
jobs_few (steps.Together lines ∷ ss) =
    (let n = jobs_few ss in
    let both = length-append {A = Command} (lines ++ command.End ∷ []) (flat_map spread ss) in
    let long = length-append {A = Command} lines (command.End ∷ []) in omega (arith, n, both, long))

pub jobs_numbered : (ss : List Step) → length (flat_map spread ss) < 2 ^ 31 → next_job ss ≤ 2 ^ 31
jobs_numbered ss few = (let n = jobs_few ss in omega (arith, n, few))

-- WHAT WAS READ

module _ (rack : Rack) (bytes : List ℕ) (cs front : List Command) (s : IsScript rack bytes cs) where
  -- all commands but the last are those before `quit`
  pub before_quit : front ≡ take (length cs - 1) cs → front ≡ s.steps
  before_quit e = e ∙ (ap (λ l. take (length l - 1) l) s.ended ∙ all_but_last s.steps)

module _ (rack : Rack) (bytes : List ℕ) (front cs : List Command) (s : IsScript rack bytes cs) (same : front ≡ s.steps) where
  pub steps_each : AreSteps rack None front
  steps_each = subst (λ l. AreSteps rack None l) (sym same) s.each

  pub steps_closed : after_commands None front ≡ None
  steps_closed = subst (λ l. after_commands None l ≡ None) (sym same) s.closed

-- the steps of a script that was read
pub is_read : (rack : Rack) (source : Transition (List ℕ)) (bytes : List ℕ) (cs : List Command) (ss : List Step) → (IsTrue source.tells → source.before ≡ bytes) → (s : IsScript rack bytes cs)
    → flat_map spread ss ≡ s.steps → AllByRecursion (IsWholeStep rack) ss → IsScriptRead rack source ss
is_read rack source bytes cs ss read s spelled whole =
    let ended : cs ≡ flat_map spread ss ++ command.Quit ∷ [] = s.ended ∙ ap (λ l. l ++ command.Quit ∷ []) (sym spelled) in
    record {
      bytes = bytes;
      read = read;
      script = subst (λ l. IsScript rack bytes l) ended s;
      few = omega (arith, ap (λ l. length l) ended, length-append {A = Command} (flat_map spread ss) (command.Quit ∷ []), few_commands rack bytes cs s);
      goes_on = whole;
    }
