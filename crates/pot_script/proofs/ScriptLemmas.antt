-- The bytes tell the commands, and the line at which they leave the grammar.
use Rattle.std.proofs.Common.{◌≡◌, ◌≢◌, ◌≤◌, ◌+◌, ℕ, true, List, [], ◌∷◌, ◌++◌, length, refl, sym, ap, ◌∙◌, append_assoc, append-nil, length-append, arith}
use Rattle.std.specs.Prelude.{codes, Vec, Result, Ok, Err, IfOk, IfErr, Option, None}
use Rattle.std.specs.Global.{Global}
use Rattle.std.proofs.lemmas.List.{append_cancel_left}
use Rattle.std.proofs.lemmas.Grind.{flat_map-append}
use Rattle.pot_bytes.specs.declared.rack.Rack.{Rack}
use Rattle.pot_script.specs.declared.command.Command.{Command}
use Rattle.pot_script.specs.declared.command.Command.TheVariants.{Quit}
use Rattle.pot_script.specs.declared.fault.ScriptFault.{ScriptFault}
use Rattle.pot_script.specs.declared.fault.ScriptFault.TheVariants.{BadLine, NoMemory}
use Rattle.pot_script.specs.Batches.{may_stand, after_command}
use Rattle.pot_script.specs.Commands.{IsCommand, command_line, command_text, stated_bytes}
use Rattle.pot_script.specs.Faults.{IfBadLine, ReadsAs, RefusesAt}
use Rattle.pot_script.specs.Kinds.{kind_of}
use Rattle.pot_script.specs.Scripts.{AreSteps, IsStep, IsScript, BreaksAtLine, GoesOnAt, LeavesAtLine, TooLong, Breaks, GoesOn, after_commands, script_text}
use Rattle.pot_script.proofs.CommandLemmas.{one_command}

-- one command more
pub AreSteps-push : (rack : Rack) (batch : Option ℕ) (cs : List Command) (c : Command) → AreSteps rack batch cs → IsStep rack (after_commands batch cs) c → AreSteps rack batch (cs ++ c ∷ [])
AreSteps-push rack batch [] c are is = (is, tt)
AreSteps-push rack batch (s ∷ cs) c are is = (are.0, AreSteps-push rack (after_command batch s) cs c are.1 is)

pub after_commands-push : (batch : Option ℕ) (cs : List Command) (c : Command) → after_commands batch (cs ++ c ∷ []) ≡ after_command (after_commands batch cs) c
after_commands-push batch [] c = refl
after_commands-push batch (s ∷ cs) c = after_commands-push (after_command batch s) cs c

-- no command but `quit` stands here that may
abbrev NoStepAt : Rack → Option ℕ → List ℕ → Type 0
NoStepAt rack batch bytes = (c : Command) (after : List ℕ) → IsStep rack batch c → bytes ≢ command_text c ++ after

-- steps, and a rest at which none stands
record StandsIn (rack : Rack) (bytes : List ℕ) (steps : List Command) (rest : List ℕ) : Type 0 where
  each : AreSteps rack None steps
  whole : bytes ≡ script_text steps ++ rest
  ended : NoStepAt rack (after_commands None steps) rest

one_split : (rack : Rack) (batch : Option ℕ) (ss ts : List Command) (x y : List ℕ) → AreSteps rack batch ss → AreSteps rack batch ts
    → NoStepAt rack (after_commands batch ss) x → NoStepAt rack (after_commands batch ts) y → script_text ss ++ x ≡ script_text ts ++ y → (ss ≡ ts) × (x ≡ y)
one_split rack batch [] [] x y p q f g e = (refl, e)
one_split rack batch [] (t ∷ ts) x y p q f g e = absurd (f t (script_text ts ++ y) q.0 (e ∙ append_assoc (command_text t) (script_text ts) y))
one_split rack batch (s ∷ ss) [] x y p q f g e = absurd (g s (script_text ss ++ x) p.0 (sym e ∙ append_assoc (command_text s) (script_text ss) x))
one_split rack batch (s ∷ ss) (t ∷ ts) x y p q f g e =
    let first = one_command rack s t (script_text ss ++ x) (script_text ts ++ y) p.0.is q.0.is (sym (append_assoc (command_text s) (script_text ss) x) ∙ e ∙ append_assoc (command_text t) (script_text ts) y) in
    let others = one_split rack (after_command batch s) ss ts x y p.1 (rw first.0 q.1) f (rw first.0 g) first.1 in
    (ap (λ (c : Command). c ∷ ss) first.0 ∙ ap (λ (cs : List Command). t ∷ cs) others.0, others.1)

one_stand : {rack : Rack} {bytes : List ℕ} {ss ts : List Command} {x y : List ℕ} → StandsIn rack bytes ss x → StandsIn rack bytes ts y → (ss ≡ ts) × (x ≡ y)
one_stand {rack} {bytes} {ss} {ts} {x} {y} p q = one_split rack None ss ts x y p.each q.each p.ended q.ended (sym p.whole ∙ q.whole)

quit_ends : (rack : Rack) (batch : Option ℕ) (rest : List ℕ) → NoStepAt rack batch (command_text Quit ++ rest)
quit_ends rack batch rest c after is e = is.goes_on (sym (one_command rack Quit c rest after tt is.is e).0)

stands_script : {rack : Rack} {bytes : List ℕ} {commands : List Command} (s : IsScript rack bytes commands) → StandsIn rack bytes s.steps (command_text Quit ++ [])
stands_script {rack} {bytes} {commands} s = record {
  each = s.each;
  whole = s.spelled ∙ ap script_text s.ended ∙ flat_map-append command_text s.steps (Quit ∷ []);
  ended = quit_ends rack (after_commands None s.steps) [];
}

stands_break : {rack : Rack} {bytes : List ℕ} {number : ℕ} (b : BreaksAtLine rack bytes number) → StandsIn rack bytes b.steps b.rest
stands_break b = record { each = b.each; whole = b.spelled; ended = λ c after is. b.broken c after is.is is.stands }

stands_goes_on : {rack : Rack} {bytes : List ℕ} {number : ℕ} (g : GoesOnAt rack bytes number) → StandsIn rack bytes g.steps (command_text Quit ++ g.rest)
stands_goes_on {rack} g = record { each = g.each; whole = g.spelled ∙ append_assoc (script_text g.steps) (command_text Quit) g.rest; ended = quit_ends rack (after_commands None g.steps) g.rest }

pub one_script : {rack : Rack} {bytes : List ℕ} {cs ds : List Command} → IsScript rack bytes cs → IsScript rack bytes ds → cs ≡ ds
one_script s t = s.ended ∙ ap (λ (steps : List Command). steps ++ Quit ∷ []) (one_stand (stands_script s) (stands_script t)).0 ∙ sym t.ended

-- `quit` does not stand where no command does that may
broken_not_quit : {rack : Rack} {bytes rest : List ℕ} {steps : List Command} {number : ℕ} (b : BreaksAtLine rack bytes number) → StandsIn rack bytes steps (command_text Quit ++ rest) → after_commands None steps ≡ None → ⊥
broken_not_quit {rack} {bytes} {rest} {steps} b s closed =
    let same = one_stand (stands_break b) s in
    b.broken Quit rest tt (ap (λ batch. may_stand batch (kind_of Quit)) (ap (after_commands None) same.0 ∙ closed)) same.1

pub no_fault : {rack : Rack} {bytes : List ℕ} {cs : List Command} {number : ℕ} → IsScript rack bytes cs → LeavesAtLine rack bytes number → ⊥
no_fault s (TooLong long at) = omega (arith, s.short)
no_fault s (Breaks short b) = broken_not_quit b (stands_script s) s.closed
no_fault s (GoesOn short g) =
    let none : [] ≡ g.rest = append_cancel_left (command_text Quit) [] g.rest (one_stand (stands_script s) (stands_goes_on g)).1 in
    omega (arith, g.some, ap length none)

pub one_fault : {rack : Rack} {bytes : List ℕ} {m n : ℕ} → LeavesAtLine rack bytes m → LeavesAtLine rack bytes n → m ≡ n
one_fault (TooLong long at) (TooLong too here) = at ∙ sym here
one_fault (TooLong long at) (Breaks short b) = absurd (omega arith)
one_fault (TooLong long at) (GoesOn short g) = absurd (omega arith)
one_fault (Breaks short b) (TooLong long at) = absurd (omega arith)
one_fault (Breaks short b) (Breaks too a) = b.counted ∙ ap (λ (steps : List Command). length steps + 1) (one_stand (stands_break b) (stands_break a)).0 ∙ sym a.counted
one_fault (Breaks short b) (GoesOn too g) = absurd (broken_not_quit b (stands_goes_on g) g.closed)
one_fault (GoesOn short g) (TooLong long at) = absurd (omega arith)
one_fault (GoesOn short g) (Breaks too b) = absurd (broken_not_quit b (stands_goes_on g) g.closed)
one_fault (GoesOn short g) (GoesOn too h) = g.counted ∙ ap (λ (steps : List Command). length steps + 2) (one_stand (stands_goes_on g) (stands_goes_on h)).0 ∙ sym h.counted

-- so an answer that tells the truth is the only one
pub script_is_read : (rack : Rack) (r : Result (Vec Command Global) ScriptFault) (bytes : List ℕ) (script : List Command) → IfOk r (λ commands. IsScript rack bytes commands.items) → IfErr r (IfBadLine (LeavesAtLine rack bytes)) → IsScript rack bytes script → ReadsAs r script
script_is_read rack (Ok commands) bytes script ok bad s = one_script ok s
script_is_read rack (Err (BadLine number)) bytes script ok bad s = no_fault s bad
script_is_read rack (Err NoMemory) bytes script ok bad s = tt

pub fault_is_told : (rack : Rack) (r : Result (Vec Command Global) ScriptFault) (bytes : List ℕ) (line : ℕ) → IfOk r (λ commands. IsScript rack bytes commands.items) → IfErr r (IfBadLine (LeavesAtLine rack bytes)) → LeavesAtLine rack bytes line → RefusesAt r line
fault_is_told rack (Ok commands) bytes line ok bad at = no_fault ok at
fault_is_told rack (Err (BadLine number)) bytes line ok bad at = one_fault bad at
fault_is_told rack (Err NoMemory) bytes line ok bad at = tt

-- what was read so far: these commands stand before the rest
pub record IsRead (rack : Rack) (bytes : List ℕ) (commands : List Command) (batch : Option ℕ) (rest : List ℕ) : Type 0 where
  pub spelled : bytes ≡ script_text commands ++ rest
  pub each : AreSteps rack None commands
  pub batch_is : batch ≡ after_commands None commands
  pub room : length commands + length rest ≤ length bytes

pub text_some : (c : Command) → 1 ≤ length (command_text c)
text_some c =
    omega (arith, length-append {A = ℕ} (command_line c ++ codes "\n") (stated_bytes c), length-append {A = ℕ} (command_line c) (codes "\n"))

-- one command more
pub reads_more : (rack : Rack) (bytes rest after : List ℕ) (commands : List Command) (batch : Option ℕ) (c : Command) → IsRead rack bytes commands batch rest → IsCommand rack c → may_stand batch (kind_of c) ≡ true
    → rest ≡ command_text c ++ after → c ≢ Quit → IsRead rack bytes (commands ++ c ∷ []) (after_command batch c) after
reads_more rack bytes rest after commands batch c read is stands text other = record {
  spelled =
      read.spelled ∙ ap (λ (r : List ℕ). script_text commands ++ r) text
      ∙ sym (append_assoc (script_text commands) (command_text c) after)
      ∙ ap (λ (t : List ℕ). t ++ after) (ap (λ (t : List ℕ). script_text commands ++ t) (sym (append-nil (command_text c))) ∙ sym (flat_map-append command_text commands (c ∷ [])));
  each = AreSteps-push rack None commands c read.each (record { is = is; stands = ap (λ b. may_stand b (kind_of c)) (sym read.batch_is) ∙ stands; goes_on = other });
  batch_is = ap (λ b. after_command b c) read.batch_is ∙ sym (after_commands-push None commands c);
  room = omega (arith, read.room, text_some c, ap (λ (r : List ℕ). length r) text, length-append {A = ℕ} (command_text c) after, length-append {A = Command} commands (c ∷ []));
}
