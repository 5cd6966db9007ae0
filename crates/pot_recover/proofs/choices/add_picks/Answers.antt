use Rattle.std.proofs.Common.{◌≡◌, ◌↔◌, ◌⊎◌, map, arith, subst}
use Rattle.pot_chains.specs.Listed.{IsIn}
use Rattle.pot_chains.specs.Picks.{how_many}
use Rattle.pot_recover.specs.Choices.{items_of, IsPicked}
use Rattle.pot_recover.proofs.ObjectLemmas.{picked_more, exact}
use Rattle.pot_recover.proofs.choices.add_picks.Goals as goal

pub loop-number-preserved : goal.loop-number-preserved
loop-number-preserved c =
    picked_more c.args.first.now (map items_of c.args.parts.now) c.loop-number.number c.joined.result c.args.objects.now.items c.loop-number.objects.items c.add_object.new.objects.items
    c.joined.ensures c.loop-number.invariant c.in_ok-add_object.ensures

pub returns : goal.returns
returns c = λ o.
    let lists = map items_of c.args.parts.now in
    let all = exact (how_many lists) c.product-number-end.result c.requires.few c.product-number-end.ensures in
    let end : c.loop-number.number ≡ how_many lists = omega (arith, all, c.loop-number-test.false, c.loop-number.auto.number-end) in
    subst (λ n. IsIn c.loop-number.objects.items o ↔ (IsIn c.args.objects.now.items o ⊎ IsPicked c.args.first.now lists n o)) end (c.loop-number.invariant o)
