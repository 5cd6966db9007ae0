use Rattle.std.proofs.Common.{◌<◌, ◌≤◌, length, arith, ap, sym, ◌∙◌}
use Rattle.std.specs.Prelude.{map}
use Rattle.pot_turn.specs.Passes.{view, turn_of}
use Rattle.pot_rows.proofs.PartLemmas.{next_of, next_knows, join_more, join_all}
use Rattle.pot_rows.proofs.Turns.join.Goals as goal

pub join_at-requires-clause-its_own : goal.join_at-requires-clause-its_own
join_at-requires-clause-its_own g c =
    next_of c.args.self.now.names c.args.passes.now c.args.other c.loop-at.at c.loop-at.passes _ (turn_of c.in-Some.part) _ c.loop-at.invariant (ap (map turn_of) c.in-Some.ensures.items)

pub join_at-requires-clause-its_idle : goal.join_at-requires-clause-its_idle
join_at-requires-clause-its_idle g c =
    let its = c.requires.its_own in
    let within : c.loop-at.at < length c.args.other.names = let same = ap length its.0 in omega (arith, same, c.len-at-end.ensures, c.loop-at.auto.at-end, c.loop-at-test.true) in
    let is = next_knows c.args.self.now.names c.args.passes.now c.args.other c.loop-at.at c.loop-at.passes _ (view c.in-Some.part) _ c.loop-at.invariant (ap (map view) c.in-Some.ensures.items) in
    sym (ap (λ v. v.holds) is) ∙ c.requires.its_idle c.loop-at.at within

pub loop-at-preserved : goal.loop-at-preserved
loop-at-preserved g c =
    let now = c.loop-at in
    let within : now.at < length c.args.self.now.names = omega (arith, c.len-at-end.ensures, now.auto.at-end, c.loop-at-test.true) in
    join_more c.args.self.now.names c.args.passes.now c.args.other now.at now.passes _ c.join_at.new.passes _ (turn_of c.in-Some.part) (view c.in-Some.part) within now.invariant
    (ap (map turn_of) c.in-Some.ensures.items) (ap (map view) c.in-Some.ensures.items) c.join_at.ensures

pub returns-clause-joined : goal.returns-clause-joined
returns-clause-joined g c =
    let long : length c.args.self.now.names ≤ c.loop-at.at = omega (arith, c.len-at-end.ensures, c.loop-at.auto.at-end, c.loop-at-test.false) in
    join_all c.args.self.now.names c.args.passes.now c.args.other c.loop-at.at c.loop-at.passes _ long c.requires.own c.requires.its_own c.loop-at.invariant
