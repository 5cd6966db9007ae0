use Rattle.std.proofs.Common.{IsTrue, false, ap, ◌∙◌}
use Rattle.pot_machine.specs.Slot.{digest_in}
use Rattle.pot_steps.proofs.CallLemmas.{stands, unsound_at, legal_oddly}
use Rattle.pot_steps.proofs.rebuilding.finish.Goals as goal

pub slot-slot-requires-clause-stripe : goal.slot-slot-requires-clause-stripe
slot-slot-requires-clause-stripe c = (stands c.args.table.now c.args.flight.now.relay c.cursor-rules.ensures.rules c.requires.stands.here).stripe

pub slot-slot-requires-clause-column : goal.slot-slot-requires-clause-column
slot-slot-requires-clause-column c = (stands c.args.table.now c.args.flight.now.relay c.cursor-rules.ensures.rules c.requires.stands.here).target

pub digest_at-wanted-requires : goal.digest_at-wanted-requires
digest_at-wanted-requires c = unsound_at c.args.table.now c.args.flight.now.relay c.slot-slot.result c.cursor-rules.ensures.rules c.requires.stands.here c.slot-slot.ensures

pub apply-requires : goal.apply-requires
apply-requires c = legal_oddly c.args.table.now c.args.flight.now.relay c.args.job c.digest_of_block-found.result c.cursor-rules.ensures.rules c.requires.stands.here c.requires.next
    (λ e. never (c.if-has_digest.ensures.1 (ap digest_in c.slot-slot.ensures ∙ e)))
  where
    never : IsTrue false → ⊥
    never e = cc
