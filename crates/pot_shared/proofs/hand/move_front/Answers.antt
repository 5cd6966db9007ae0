use Rattle.std.proofs.Common.{◌≡◌, ◌++◌, take, drop, length, refl, sym, ap, ◌∙◌, arith, length-append, length-drop, append-nil}
use Rattle.std.proofs.lemmas.List.{length-take-le}
use Rattle.pot_shared.proofs.Lists.{one_moved}
use Rattle.pot_shared.proofs.hand.move_front.Goals as goal

pub remove-requires : goal.remove-requires
remove-requires g c =
    let n = ap length c.loop-moved.invariant.left in let d = length-drop c.loop-moved.moved c.args.from.now.items in
    omega (arith, c.loop-moved.from.ok.0, n, d, c.requires.count, c.loop-moved-test.true)

pub push_reserved-requires : goal.push_reserved-requires
push_reserved-requires g c =
    let n = ap length c.loop-moved.invariant.moved_in in
    let a = length-append c.args.into.now.items (take c.loop-moved.moved c.args.from.now.items) in
    let t = length-take-le c.loop-moved.moved c.args.from.now.items (omega (arith, c.requires.count, c.loop-moved-test.true)) in
    omega (arith, c.loop-moved.into.ok.0, n, a, t, c.requires.space, c.loop-moved.invariant.space, c.loop-moved-test.true)

pub loop-moved-init : goal.loop-moved-init
loop-moved-init g c = record {
  within = omega arith;
  moved_in = sym (append-nil c.args.into.now.items);
  left = refl;
  space = refl;
  from_space = refl;
}

pub loop-moved-preserved : goal.loop-moved-preserved
loop-moved-preserved g c =
    let step = one_moved c.args.from.now.items c.args.into.now.items c.loop-moved.into.items c.loop-moved.from.items c.loop-moved.moved c.remove.result
    (omega (arith, c.requires.count, c.loop-moved-test.true)) c.loop-moved.invariant.moved_in c.loop-moved.invariant.left c.remove.ensures.value in
    record {
      within = omega (arith, c.loop-moved-test.true);
      moved_in = c.push_reserved.ensures.items ∙ step.0;
      left = c.remove.ensures.items ∙ step.1;
      space = c.push_reserved.ensures.capacity ∙ c.loop-moved.invariant.space;
      from_space = c.remove.ensures.capacity ∙ c.loop-moved.invariant.from_space;
    }

pub returns : goal.returns
returns g c =
    let last : c.loop-moved.moved ≡ c.args.count = omega (arith, c.loop-moved.invariant.within, c.loop-moved-test.false) in
    record {
      into = c.loop-moved.invariant.moved_in ∙ ap (λ n. c.args.into.now.items ++ take n c.args.from.now.items) last;
      from = c.loop-moved.invariant.left ∙ ap (λ n. drop n c.args.from.now.items) last;
      space = c.loop-moved.invariant.space;
      from_space = c.loop-moved.invariant.from_space;
    }
