use Rattle.std.proofs.Common.{ap, ◌∙◌}
use Rattle.pot_options.specs.Options.{given}
use Rattle.pot_options.proofs.ValueLemmas.{value_is}
use Rattle.pot_options.proofs.options.Options.value.Goals as goal

pub returns : goal.returns
returns c = c.get_str.ensures ∙ value_is c.self.inside.matches _ c.args.name.now c.self.invariant ∙ ap (λ us. given us c.args.name.now) c.self.view_is
