use Rattle.std.proofs.Common.{arith, length, ◌<◌, ◌≤◌}
use Rattle.pot_rows.proofs.TieLemmas.{tied_more, tied_all}
use Rattle.pot_rows.proofs.Turns.tie.Goals as goal

pub loop-at-preserved : goal.loop-at-preserved
loop-at-preserved g c =
    let now = c.loop-at in
    let within : now.at < length c.args.self.now.names = omega (arith, c.len-at-end.ensures, now.auto.at-end, c.loop-at-test.true) in
    tied_more c.args.self.now.names c.args.mine.now c.args.others.now now.at now.mine now.others c.tie_at.new.mine c.tie_at.new.others within now.invariant c.tie_at.ensures

pub returns : goal.returns
returns g c =
    let sofar = c.loop-at.invariant in
    let own = c.requires.own in
    let long : length c.args.self.now.names ≤ c.loop-at.at = omega (arith, c.len-at-end.ensures, c.loop-at.auto.at-end, c.loop-at-test.false) in
    record {
      own = (sofar.mine_of, sofar.others_of);
      tied = tied_all c.args.self.now.names c.args.mine.now c.args.others.now c.loop-at.at c.loop-at.mine c.loop-at.others long own.0 own.1 sofar;
    }
