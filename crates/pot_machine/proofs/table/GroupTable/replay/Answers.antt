use Rattle.std.proofs.lemmas.List.{get_or_default}
use Rattle.std.proofs.lemmas.Bool.{both_ways}
use Rattle.pot_machine.proofs.Logs.{replay_more, replayed_whole, replayed_front}
use Rattle.pot_machine.proofs.table.GroupTable.replay.Goals as goal

pub loop-entry-preserved : goal.loop-entry-preserved
loop-entry-preserved c =
    replay_more c.args.self.now c.args.entries.now c.loop-entry.entry-index _ c.loop-entry.self c.apply.new.self c.loop-entry.invariant c.loop-entry-test.true
    (get_or_default _ _ _ _ c.loop-entry-test.true) (c.legal.ensures.0 c.if-not-legal.false) c.apply.ensures

pub returns : goal.returns
returns c = replayed_whole c.args.self.now c.loop-entry.self c.args.entries.now c.loop-entry.entry-index c.loop-entry.invariant c.loop-entry-test.false c.loop-entry.auto.entry-index-end

pub returns-then-not-legal : goal.returns-then-not-legal
returns-then-not-legal c =
    replayed_front c.args.self.now c.loop-entry.self c.args.entries.now c.loop-entry.entry-index _ c.loop-entry.invariant c.loop-entry-test.true
    (λ l. both_ways _ c.if-not-legal.true (c.legal.ensures.1 l))
