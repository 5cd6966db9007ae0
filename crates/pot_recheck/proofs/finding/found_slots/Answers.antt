use Rattle.std.proofs.Common.{ap, sym, ◌∙◌, length}
use Rattle.std.proofs.lemmas.List.{with_items_is}
use Rattle.pot_recheck.proofs.SlotLemmas.{more_other, more_this}
use Rattle.pot_recheck.proofs.finding.found_slots.Goals.{then-from-group, else-from-group}
use Rattle.pot_recheck.proofs.finding.found_slots.Goals as goal

pub make_live-requires : goal.make_live-requires
make_live-requires c = ap length c.deref_mut.ensures.value ∙ c.loop-named.invariant.count

pub loop-named-preserved : goal.loop-named-preserved
loop-named-preserved c = elim c.if-from-group.branch [
  | then-from-group w ↦ more_this c.args.found.now c.loop-named.named-index _ c.args.group c.args.table.now c.loop-named-test.true _ _ _ _
      (ap (λ v. v.items) w.slots-is ∙ with_items_is c.loop-named.slots w.make_live.new.slots (w.make_live.ensures.count ∙ w.deref_mut.ensures.len)) w.deref_mut.ensures.value
      (sym c.from.ensures ∙ w.if-from-group.true) w.make_live.ensures c.loop-named.invariant
  | else-from-group w ↦ more_other c.args.found.now c.loop-named.named-index _ c.args.group c.args.table.now c.loop-named-test.true _ _ (ap (λ v. v.items) w.slots-is)
      (λ h. w.if-from-group.false (c.from.ensures ∙ h)) c.loop-named.invariant
]
