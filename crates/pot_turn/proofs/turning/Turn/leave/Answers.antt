use Rattle.std.proofs.Common.{◌∙◌, arith, ap, sym, [], ◌∷◌, None}
use Rattle.atomic_table.specs.Table.{rest}
use Rattle.pot_turn.proofs.Seats.{is_holder, slots_at, pass_at}
use Rattle.pot_turn.proofs.Leaves.{puts, ends_turn, raised_is}
use Rattle.pot_turn.specs.Rules.{raised_sight, freed_sight}
use Rattle.pot_turn.proofs.PassLemmas.{pass_left}
use Rattle.pot_turn.proofs.turning.Turn.leave.Goals as goal

pub exchange-out-requires : goal.exchange-out-requires
exchange-out-requires g c =
    let pass = c.args.pass.now in
    let had = is_holder pass.seat.me pass.slots pass.known c.requires.had in (
      ap (λ n. n.id) c.requires.own,
      (None, had.2 ∙ ap (λ k. (0, None) ∷ rest k) (sym had.2)),
    )

pub store-requires : goal.store-requires
store-requires g c =
    let shape = c.args.self.now.shape in
    let words = shape.0 in
    let pass = c.args.pass.now in
    let put = c.exchange-out.ensures in
    let about = puts g.T.Kept.log g.T.Kept.origin c.args.self.now.table.shared.key.value c.exchange-out.new.seat.id pass.seat.me c.exchange-out.new.seat.me c.args.value (is_holder pass.seat.me pass.slots pass.known c.requires.had) put.3 c.requires.grown c.length-length.result c.length-length.ensures in (
      put.0 ∙ ap (λ n. n.id) c.requires.own,
      omega (arith, words),
      rw shape.1 about,
    )

pub store-requires-2 : goal.store-requires-2
store-requires-2 g c =
    let shape = c.args.self.now.shape in
    let words = shape.0 in
    let pass = c.args.pass.now in
    let put = c.exchange-out.ensures in
    let raised = c.store.ensures in
    let about = ends_turn g.T.Kept.log g.T.Kept.origin c.args.self.now.table.shared.key.value c.store.new.seat.id pass.seat.me c.exchange-out.new.seat.me c.store.new.seat.me c.args.value (is_holder pass.seat.me pass.slots pass.known c.requires.had) put.3 raised.2 c.requires.origin in (
      raised.0 ∙ (put.0 ∙ ap (λ n. n.id) c.requires.own),
      omega (arith, words),
      rw shape.1 about,
    )

pub invariant_of-pass : goal.invariant_of-pass
invariant_of-pass g c =
    let pass = c.args.pass.now in
    let m = c.store-2.new.seat.me in
    let log = g.T.Kept.log c.args.value in
    let raised = raised_is g.T.Kept.log g.T.Kept.origin c.args.self.now.table.shared.key.value pass.seat.me c.exchange-out.new.seat.me c.store.new.seat.me c.args.value (is_holder pass.seat.me pass.slots pass.known c.requires.had) c.exchange-out.ensures.3 c.store.ensures.2 in
    let s = freed_sight (raised_sight log pass.seat.me.0) in
    let e = c.store-2.ensures.2 ∙ ap (λ k. (freed_sight k.0, [])) raised in
    record {
      slots = slots_at m s e;
      known = pass_at m s [] e (pass_left pass.seat.me.0.view pass.known log c.requires.grown);
    }
