use Rattle.std.proofs.Common.{◌∙◌, ap, arith, [], ◌∷◌, None}
use Rattle.pot_turn.proofs.Seats.{is_idle, slots_at, pass_at}
use Rattle.pot_turn.proofs.Enters.{takes_it, taken, took_is}
use Rattle.pot_turn.specs.Rules.{took_sight}
use Rattle.pot_turn.proofs.PassLemmas.{pass_took}
use Rattle.pot_turn.proofs.turning.Turn.try_take.Goals as goal

pub compare_exchange-requires : goal.compare_exchange-requires
compare_exchange-requires g c =
    let shape = c.args.self.now.shape in
    let words = shape.0 in
    let pass = c.args.pass.now in
    let about = takes_it g.T.Kept.log g.T.Kept.origin c.args.self.now.table.shared.key.value pass.seat.id pass.seat.me (is_idle pass.seat.me pass.slots pass.known c.requires.idle) in (
      ap (λ n. n.id) c.requires.own,
      omega (arith, words),
      rw shape.1 about,
    )

pub exchange-requires : goal.exchange-requires
exchange-requires g c =
    let took = c.compare_exchange.ensures in (
      took.0 ∙ ap (λ n. n.id) c.requires.own,
      taken g.T.Kept.log g.T.Kept.origin c.args.pass.now.seat.me c.compare_exchange.new.seat.me c.compare_exchange.result c.if-compare_exchange-eq0.true took.2,
    )

pub invariant_of-pass : goal.invariant_of-pass
invariant_of-pass g c =
    let pass = c.args.pass.now in
    let m = c.exchange.new.seat.me in
    let it = took_is g.T.Kept.log g.T.Kept.origin pass.seat.me c.compare_exchange.new.seat.me m c.compare_exchange.result c.if-compare_exchange-eq0.true (is_idle pass.seat.me pass.slots pass.known c.requires.idle) c.compare_exchange.ensures.2 c.exchange.ensures.3 in
    let s = took_sight (g.T.Kept.log it.0) pass.seat.me.0 in
    record {
      slots = slots_at m s it.1;
      known = pass_at m s ((0, None) ∷ []) it.1 (pass_took pass.seat.me.0.view pass.known (g.T.Kept.log it.0) it.2);
    }
