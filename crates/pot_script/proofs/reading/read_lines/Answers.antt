use Rattle.std.proofs.Common.{◌≡◌, ◌≢◌, ◌++◌, true, arith, sym, subst}
use Rattle.pot_script.specs.declared.command.Command.TheVariants.{Quit}
use Rattle.pot_script.specs.Batches.{may_stand}
use Rattle.pot_script.specs.Commands.{IsCommand, command_text}
use Rattle.pot_script.specs.Kinds.{kind_of}
use Rattle.pot_script.proofs.ScriptLemmas.{reads_more}
use Rattle.pot_script.proofs.reading.read_lines.Goals as goal
use Rattle.pot_script.proofs.reading.read_lines.Goals.{in-Quit, in_default-matches}

pub loop-spelled-preserved : goal.loop-spelled-preserved
loop-spelled-preserved c =
    let same = sym c.in_ok-command.ensures in
    let other : c.in_ok-command.command ≢ Quit =
    elim c.match-matches.branch [ in-Quit w ↦ absurd (cc) | in_default-matches w ↦ w.in_default-matches.not-Quit ] in
    let more =
    reads_more c.args.rack.now c.args.bytes.now c.loop-spelled.rest.now c.in-Some.after.now c.loop-spelled.commands.items c.loop-spelled.batch c.in_ok-command.command
    c.loop-spelled.invariant.read (subst (λ d. IsCommand c.args.rack.now d) same c.in-Some.ensures.0)
    (subst (λ d. may_stand c.loop-spelled.batch (kind_of d) ≡ true) same c.in-Some.ensures.1)
    (subst (λ d. c.loop-spelled.rest.now ≡ command_text d ++ c.in-Some.after.now) same c.in-Some.ensures.2) other in
    record {
      read = rw (c.in_ok-push-2.ensures.items, c.after_command-batch.ensures) more;
      counted = omega (arith, c.in_ok-push-2.ensures.len);
    }
