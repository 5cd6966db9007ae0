use Rattle.std.proofs.Common.{◌≡◌, ◌<◌, IsTrue, Some, sym, subst, ap, ◌∙◌}
use Rattle.std.proofs.lemmas.Bool.{both_ways}
use Rattle.pot_machine.specs.Slot.{is_live, digest_in}
use Rattle.pot_machine.specs.Table.{slot_at, next_column}
use Rattle.pot_bytes.specs.Digests.{digest_of}
use Rattle.pot_steps.specs.Flight.{IsRelay, unfolded, weight_in}
use Rattle.pot_steps.proofs.CallLemmas.{two_relay, next_within, next_positive, legal_hop, live_next, hop_ends}
use Rattle.pot_steps.proofs.rebuilding.hop.Goals as goal

pub weight_of-weight-requires-clause-relay : goal.weight_of-weight-requires-clause-relay
weight_of-weight-requires-clause-relay c = subst (λ w. IsRelay w 2 c.args.flight.now.relay) (sym c.data_columns.ensures.value) (two_relay c.args.table.now c.args.flight.now.relay c.cursor-rules.ensures.rules c.requires.stands.here)

pub unfold-block-requires : goal.unfold-block-requires
unfold-block-requires c = subst (λ n. 0 < n) (sym (c.weight_of-weight.ensures ∙ ap (λ w. weight_in w c.args.flight.now.relay c.unwrap-column.result) c.data_columns.ensures.value))
    (next_positive c.args.table.now c.args.flight.now.relay c.cursor-rules.ensures.rules c.requires.stands.here c.unwrap-column.result (sym c.next_column.ensures ∙ c.unwrap-column.ensures))

pub slot-requires-clause-column : goal.slot-requires-clause-column
slot-requires-clause-column c = next_within c.args.table.now c.args.flight.now.relay c.cursor-rules.ensures.rules c.requires.stands.here c.unwrap-column.result (sym c.next_column.ensures ∙ c.unwrap-column.ensures)

pub apply-requires : goal.apply-requires
apply-requires c = legal_hop c.args.table.now c.args.flight.now.relay c.cursor-rules.ensures.rules c.requires.stands.here c.unwrap-column.result (sym c.next_column.ensures ∙ c.unwrap-column.ensures) c.args.job
    (live_next (next_column c.args.table.now c.args.flight.now.relay) c.unwrap-column.result (λ k. IsTrue (is_live (slot_at c.args.table.now c.args.flight.now.relay.stripe k))) c.requires.next (sym c.next_column.ensures ∙ c.unwrap-column.ensures))

pub returns-else-has_digest : goal.returns-else-has_digest
returns-else-has_digest c =
    let found : c.digest_of_block.result ≡ digest_of (unfolded (weight_in c.args.table.now.data_columns c.args.flight.now.relay c.unwrap-column.result) c.args.flight.now.sum c.args.folded.now) =
    c.digest_of_block.ensures ∙ ap digest_of (c.unfold-block.ensures ∙ ap (λ w. unfolded w c.args.flight.now.sum c.args.folded.now)
    (c.weight_of-weight.ensures ∙ ap (λ w. weight_in w c.args.flight.now.relay c.unwrap-column.result) c.data_columns.ensures.value)) in
    hop_ends c.args.job c.args.folded.now c.give_up.result c.args.table.now c.give_up.new.table c.args.flight.now c.unwrap-column.result (sym c.next_column.ensures ∙ c.unwrap-column.ensures)
    c.give_up.ensures.entry c.give_up.ensures.table
    (λ q. both_ways _ c.if-has_digest.false (c.has_digest.ensures.1 (ap digest_in c.slot.ensures ∙ q ∙ ap Some (sym found))))
