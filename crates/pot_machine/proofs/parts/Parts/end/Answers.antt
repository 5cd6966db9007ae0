use Rattle.std.proofs.Common.{ap, ◌∙◌, rules, tests, not}
use Rattle.std.specs.Prelude.{◌==◌}
use Rattle.std.proofs.lemmas.Fn.{filter_same}
use Rattle.pot_machine.specs.Machine.{without_relay}
use Rattle.pot_machine.proofs.parts.Parts.end.Goals as goal

pub returns : goal.returns
returns c =
    ap (λ r. record { data_columns = c.self.inside.data_columns; parity = c.self.inside.parity; stripes = c.self.inside.stripes; cursor = c.self.inside.cursor; columns = c.self.inside.columns.items; slots = c.self.inside.slots.items; relays = r })
    (filter_same _ (λ r. not (r.stripe == c.args.stripe)) _ (λ x b q h. search (rules, tests)) _ _ c.retain.ensures.filtered)
    ∙ ap (λ t. without_relay t c.args.stripe) c.self.view_is
