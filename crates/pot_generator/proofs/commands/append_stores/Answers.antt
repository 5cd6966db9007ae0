use Rattle.std.proofs.Common.{◌≡◌, ◌++◌, ℕ, List, ap, ◌∙◌, arith}
use Rattle.pot_script.specs.declared.command.Command.TheVariants as commands
use Rattle.pot_generator.specs.Generated.{file_of, first_stores, name_of}
use Rattle.pot_generator.proofs.MadeLemmas.{pushed}
use Rattle.pot_generator.proofs.commands.append_stores.Goals as goal

pub loop-place-preserved : goal.loop-place-preserved
loop-place-preserved c =
    pushed (λ place. commands.Store (name_of place) (file_of c.args.number place)) _ _ _ c.loop-place.place _ c.loop-place.invariant c.in_ok-push.ensures.items
    (ap (λ (name : List ℕ). commands.Store name c.in_ok-file.file) c.name_of-name.ensures ∙ ap (commands.Store (name_of c.loop-place.place)) c.in_ok-file.ensures)

pub returns : goal.returns
returns c =
    let all : c.loop-place.place ≡ 24 = omega (arith, c.loop-place-test.false, c.loop-place.auto.place-end) in
    c.loop-place.invariant ∙ ap (λ (n : ℕ). c.args.commands.now.items ++ first_stores c.args.number n) all
