-- Another file at the places of one that a session stored.
use Rattle.std.proofs.Common.{true, [], refl, arith}
use Rattle.pot_bytes.specs.declared.rack.Rack.{Rack}
use Rattle.pot_script.specs.declared.command.Command.TheVariants as commands
use Rattle.pot_script.specs.declared.grouping.Step.TheVariants as steps
use Rattle.pot_script.specs.declared.reply.Reply.TheVariants as replies
use Rattle.pot_promises.specs.Answers.{IsAnswered}
use Rattle.pot_theorem.specs.Hard.{TheHardProperty}
use Rattle.run_examples.specs.Another.{AnotherStands, file, name, said, stores}

answered : (rack : Rack) → IsAnswered rack stores said 0 0 (commands.Store name file) (replies.Stored name 1 2)
answered rack = record { step = steps.One (commands.Store name file); there = refl; command = (refl, refl); reply = refl }

pub another_stands : TheHardProperty → AnotherStands
another_stands law c row seed replied =
    let holds = law c [] row in
    let x = holds.another_file c (0, omega arith, refl) seed stores said replied 0 0 name file name 1 2 (answered c.first.rack) in (
      holds,
      (
        x.0,
        λ spots veils other are hidden bytes long alike. let fits = x.1 true spots veils other are hidden bytes long alike in record { random = _; site = fits.site; stand = fits.stand },
      ),
    )
