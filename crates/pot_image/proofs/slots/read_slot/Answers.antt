use Rattle.std.proofs.Common.{eq-eqb, sym, ◌∙◌}
use Rattle.std.proofs.lemmas.Bool.{ne_eqb}
use Rattle.pot_image.proofs.Once.{ok_then, done_reads}
use Rattle.pot_image.proofs.Steps.{fails_then, fails_on, fails_as, exits, fails_at, done_as, narrowed, barred, cut_short, chosen, not_chosen}
use Rattle.pot_image.specs.Tables.{slot}
use Rattle.pot_image.proofs.Once.{err_then}
use Rattle.pot_image.proofs.slots.read_slot.Goals as goal

pub returns-in_err-state : goal.returns-in_err-state
unfolding slot
returns-in_err-state c = exits _ _ _ _ c.from_residual.ensures.1 (fails_then _ _ _ _ (cut_short _ _ _ _ _ c.in_err-state.ensures))

pub returns-then-not-allowed : goal.returns-then-not-allowed
unfolding slot
returns-then-not-allowed c = fails_at _ _ _ c.at.ensures (err_then _ _ _ _ (barred _ _ _ _ _ _ c.in_ok-state.ensures (sym c.if-not-allowed.ensures)))

pub returns-then-state-eq0 : goal.returns-then-state-eq0
unfolding slot
returns-then-state-eq0 c = ok_then _ _ _ _ _ _ (narrowed _ _ _ _ _ _ c.in_ok-state.ensures (sym c.if-not-allowed.ensures)) (sym (chosen _ _ _ _ (eq-eqb _ _ c.if-state-eq0.true)) ∙ done_reads _ _)

pub returns-in_err-digest : goal.returns-in_err-digest
unfolding slot
returns-in_err-digest c = exits _ _ _ _ c.from_residual-in_err-digest.ensures.1 (fails_on _ _ _ _ _ _ (narrowed _ _ _ _ _ _ c.in_ok-state.ensures (sym c.if-not-allowed.ensures)) (fails_as _ _ _ (not_chosen _ _ _ _ (ne_eqb _ _ c.if-state-eq0.false)) (fails_then _ _ _ _ c.in_err-digest.ensures)))

pub returns : goal.returns
unfolding slot
returns c = ok_then _ _ _ _ _ _ (narrowed _ _ _ _ _ _ c.in_ok-state.ensures (sym c.if-not-allowed.ensures)) (sym (not_chosen _ _ _ _ (ne_eqb _ _ c.if-state-eq0.false)) ∙ ok_then _ _ _ _ _ _ c.in_ok-digest.ensures (done_as _ _ _ (sym c.state_of.ensures)))
