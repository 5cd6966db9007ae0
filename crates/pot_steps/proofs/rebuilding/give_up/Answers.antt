use Rattle.std.proofs.Common.{sym, ◌∙◌}
use Rattle.pot_steps.proofs.CallLemmas.{stands, legal_gave_up}
use Rattle.pot_steps.proofs.rebuilding.give_up.Goals as goal

pub next_column-requires : goal.next_column-requires
next_column-requires c = (stands c.args.table.now c.args.flight.relay c.cursor-rules.ensures.rules c.requires.stands.here).stripe

pub apply-requires : goal.apply-requires
apply-requires c = legal_gave_up c.args.table.now c.args.flight.relay c.cursor-rules.ensures.rules c.requires.stands.here c.unwrap-other.result (sym c.next_column.ensures ∙ c.unwrap-other.ensures) c.args.job

pub returns-clause-legal : goal.returns-clause-legal
returns-clause-legal c = legal_gave_up c.args.table.now c.args.flight.relay c.cursor-rules.ensures.rules c.requires.stands.here c.unwrap-other.result (sym c.next_column.ensures ∙ c.unwrap-other.ensures) c.args.job
