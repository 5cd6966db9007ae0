use Rattle.std.proofs.Common.{rules, ap, ◌≡◌, ◌∙◌}
use Rattle.std.specs.Borrow.{Bor}
use Rattle.clap.specs.Words.{Text, rule_of}
use Rattle.pot_options.specs.Apps.{option_rule}
use Rattle.pot_options.proofs.LoopLemmas.{command_more, command_done}
use Rattle.pot_options.proofs.reading.options_command.Goals as goal

pub loop-name-init : goal.loop-name-init
loop-name-init c = search rules

pub loop-name-preserved : goal.loop-name-preserved
loop-name-preserved c =
    let option_is : rule_of c.action-option.result ≡ option_rule (c.new-in-loop-name.result.id).now = search rules in
    command_more c.args.names.now c.loop-name.name-index _ _ _ _ (search rules) c.loop-name.invariant (option_is ∙ ap (λ (s : Bor Text). option_rule s.now) c.new-in-loop-name.ensures.id) (c.in_ok-command.ensures.shape (search rules))

pub returns : goal.returns
returns c = command_done c.args.names.now c.loop-name.name-index _ c.loop-name-test.false c.loop-name.invariant
