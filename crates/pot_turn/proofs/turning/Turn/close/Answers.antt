use Rattle.std.proofs.Common.{ap}
use Rattle.pot_turn.proofs.Closes.{closes, closes_with}
use Rattle.pot_turn.proofs.Jobs.{entries_are_carried}
use Rattle.std.specs.Slots.{slots_items}
use Rattle.pot_turn.proofs.turning.Turn.close.Goals as goal

pub close_with-closed-requires : goal.close_with-closed-requires
close_with-closed-requires g c = ap (λ n. n.id) c.requires.own

pub unreachable-requires : goal.unreachable-requires
unreachable-requires g c =
    let closed = c.close_with-closed in
    let pass = c.args.pass in
    let it = closes g.T.Kept.log g.T.Kept.origin c.args.self.table.shared.key.value pass.seat.id pass.seat.me.0 c.requires.idle c.requires.all
    (slots_items closed.result.words) (slots_items closed.result.slots) c.take-slot.result closed.ensures.values.2 c.take-slot.ensures.value in
    c.in_default.not-Some it.0 it.1

pub returns : goal.returns
returns g c =
    let closed = c.close_with-closed in
    let pass = c.args.pass in
    let it = closes_with g.T.Kept.log g.T.Kept.origin c.args.self.table.shared.key.value pass.seat.id pass.seat.me.0 c.requires.idle c.requires.all
    (slots_items closed.result.words) (slots_items closed.result.slots) c.take-slot.result closed.ensures.values.2 c.take-slot.ensures.value c.in-Some.value c.in-Some.is in
    record {
      seen = it.seen;
      opened = it.since;
      origin = it.named;
      made = it.made;
      once = it.once;
      untouched = it.untouched;
      jobs = entries_are_carried pass.seat.me.0.view (g.T.Kept.log c.in-Some.value) it.seen it.since it.once;
    }
