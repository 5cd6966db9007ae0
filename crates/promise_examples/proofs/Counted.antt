-- An archive that failed.
use Rattle.std.proofs.Common.{ℕ, [], ◌∷◌, refl, sym, ap, subst}
use Rattle.std.specs.Prelude.{slice_get}
use Rattle.pot_bytes.proofs.Elements.{one_contained}
use Rattle.pot_outside.specs.Counts.{Rose}
use Rattle.pot_machine.specs.declared.entry.Entry.TheVariants as entry
use Rattle.pot_script.specs.declared.command.Command.TheVariants as commands
use Rattle.pot_script.specs.declared.grouping.Step.TheVariants as steps
use Rattle.pot_script.specs.declared.reply.Reply.TheVariants as replies
use Rattle.pot_bytes.specs.declared.rack.Rack.{Rack}
use Rattle.pot_promises.specs.Answers.{IsAnswered}
use Rattle.pot_promises.specs.Faults.{FaultsAreCounted}
use Rattle.promise_examples.specs.Archives.{FaultIsCounted, full, scrubs}

scrub_answered : (rack : Rack) → IsAnswered rack scrubs (replies.Fault 0 0 ∷ []) 0 0 (commands.Scrub 0) (replies.Fault 0 0)
scrub_answered rack = record { step = steps.One (commands.Scrub 0); there = refl; command = (refl, refl); reply = refl }

pub fault_is_counted : FaultsAreCounted → FaultIsCounted
fault_is_counted law block seed first last room story fits told leaves tables logs done later follows replied =
    let x = law seed first last room [] story fits told leaves scrubs (replies.Fault 0 0 ∷ []) done later follows replied 0 0 (commands.Scrub 0) 0 0 (scrub_answered first.rack) (full block) (entry.Fault 1 0 0 ∷ []) (ap (λ ts. slice_get ts 0) tables) (ap (λ ls. slice_get ls 0) logs) in
    subst (λ (n : ℕ). Rose (room.before.means n).faults (room.after.means n).faults) (sym (one_contained 0 x.0 x.1)) (x.2 refl)
