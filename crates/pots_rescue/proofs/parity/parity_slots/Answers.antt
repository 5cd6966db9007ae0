use Rattle.std.proofs.Common.{arith, ◌≡◌, ap, ◌∙◌}
use Rattle.std.specs.Prelude.{slice_get}
use Rattle.pots_rescue.specs.Parity.{in_group, in_groups}
use Rattle.pot_recheck.proofs.Rows.{own_more}
use Rattle.pots_rescue.proofs.parity.parity_slots.Goals as goal

pub loop-group-init : goal.loop-group-init
unfolding in_groups
loop-group-init c = c.new-list.ensures.items

pub loop-group-preserved : goal.loop-group-preserved
unfolding in_groups
loop-group-preserved c =
    own_more (λ g. in_group g (slice_get c.args.image.now.tables.items g)) c.loop-group.group _ _ c.loop-group.invariant c.in_ok-append_group.ensures

pub returns : goal.returns
returns c =
    c.loop-group.invariant
    ∙ ap (in_groups c.args.image.now.tables.items)
    (let e : c.loop-group.group ≡ c.args.image.now.rack.groups = omega (arith, c.loop-group-test.false, c.loop-group.auto.group-end) in e)
