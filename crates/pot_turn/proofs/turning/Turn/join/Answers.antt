use Rattle.std.proofs.Common.{◌∙◌, ap, arith, [], sym}
use Rattle.pot_turn.proofs.Seats.{is_idle, slots_at, slots_out, pass_at}
use Rattle.pot_turn.proofs.Divides.{joins, looks_it, joined_is, joined_tells}
use Rattle.pot_turn.proofs.PassLemmas.{pass_both}
use Rattle.pot_turn.specs.Rules.{both_sights, slots_of}
use Rattle.pot_turn.proofs.turning.Turn.join.Goals as goal

pub join_seat-requires : goal.join_seat-requires
join_seat-requires g c =
    let shape = c.args.self.now.shape in
    let words = shape.0 in
    let pass = c.args.pass.now in
    let other = c.args.other in (
      ap (λ n. n.id) c.requires.own,
      ap (λ n. n.id) c.requires.its_own,
      (is_idle other.seat.me other.slots other.known c.requires.its_idle).2,
      omega (arith, words),
      joins g.T.Kept.log g.T.Kept.origin c.args.self.now.table.shared.key.value pass.seat.id pass.seat.me.0 other.seat.id other.seat.me.0 c.requires.idle pass.known.some c.requires.its_idle other.known.some,
    )

pub load-requires : goal.load-requires
load-requires g c =
    let shape = c.args.self.now.shape in
    let words = shape.0 in
    let pass = c.args.pass.now in
    let joined = c.join_seat.ensures in
    let s = both_sights pass.seat.me.0 c.args.other.seat.me.0 in
    let out = slots_out c.join_seat.new.seat.me s pass.seat.me.1 joined.2 (is_idle pass.seat.me pass.slots pass.known c.requires.idle).2 in
    let about = looks_it g.T.Kept.log g.T.Kept.origin c.args.self.now.table.shared.key.value c.join_seat.new.seat.id c.join_seat.new.seat.me out in (
      joined.0 ∙ ap (λ n. n.id) c.requires.own,
      omega (arith, words),
      rw shape.1 about,
    )

pub invariant_of-pass : goal.invariant_of-pass
invariant_of-pass g c =
    let pass = c.args.pass.now in
    let other = c.args.other in
    let old = pass.seat.me in
    let its = other.seat.me.0 in
    let m' = c.join_seat.new.seat.me in
    let m = c.load.new.seat.me in
    let s = both_sights old.0 its in
    let e = joined_is old m' m its (is_idle old pass.slots pass.known c.requires.idle) c.join_seat.ensures.2 c.load.ensures.2 in
    let told = joined_tells old m' m its c.join_seat.ensures.2 c.load.ensures.2 in
    record {
      slots = slots_at m s (e ∙ ap (λ b. (s, slots_of b)) (sym c.requires.idle));
      known = pass_at m s [] e (pass_both old.0.view pass.known its.view other.known told.0 told.2);
    }
