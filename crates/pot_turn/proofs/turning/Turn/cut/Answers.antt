use Rattle.std.proofs.Common.{arith, ap, sym, [], ◌<◌, subst}
use Rattle.pot_turn.proofs.Divides.{splits}
use Rattle.pot_turn.proofs.Seats.{slots_at, pass_at}
use Rattle.pot_turn.proofs.PassLemmas.{pass_new}
use Rattle.pot_turn.specs.Rules.{new_sight}
use Rattle.pot_turn.proofs.turning.Turn.cut.Goals as goal

pub split_seat-requires : goal.split_seat-requires
split_seat-requires g c =
    let shape = c.args.self.now.shape in
    let words = shape.0 in
    let some = c.requires.some in
    let pass = c.args.pass.now in (
      ap (λ n. n.id) c.requires.own,
      omega (arith, words),
      rw (sym some.2) (splits g.T.Kept.log g.T.Kept.origin c.args.self.now.table.shared.key.value pass.seat.id pass.seat.me.0 c.args.parts c.requires.idle some.0 some.1),
    )

pub invariant_of-result : goal.invariant_of-result
invariant_of-result g c =
    let pass = c.args.pass.now in
    let old = pass.seat.me.0 in
    let some = c.requires.some in
    let m = c.split_seat.result.me in
    let n = g.N.Parts.parts in
    let s = new_sight n old in
    let e = c.split_seat.ensures.4 in
    record { slots = slots_at m s e; known = pass_at m s [] e (pass_new old.view pass.known n (subst (λ k. 0 < k) some.2 some.0)) }
