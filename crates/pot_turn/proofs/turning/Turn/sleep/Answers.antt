use Rattle.std.proofs.Common.{◌∙◌, ap, arith, ◌+◌, ◌-◌, ◌%◌, ◌^◌}
use Rattle.pot_turn.proofs.Enters.{sleeps}
use Rattle.pot_turn.proofs.turning.Turn.sleep.Goals as goal

pub fetch_add-requires : goal.fetch_add-requires
fetch_add-requires g c =
    let shape = c.args.self.now.shape in
    let words = shape.0 in
    let pass = c.args.pass.now in (
      ap (λ n. n.id) c.requires.own,
      omega (arith, words),
      rw shape.1 (sleeps g.T.Kept.log g.T.Kept.origin c.args.self.now.table.shared.key.value pass.seat.id pass.seat.me (λ n. (n + 1) % 2 ^ 64)),
    )

pub fetch_sub-requires : goal.fetch_sub-requires
fetch_sub-requires g c =
    let shape = c.args.self.now.shape in
    let words = shape.0 in
    let added = c.fetch_add.ensures in (
      added.0 ∙ ap (λ n. n.id) c.requires.own,
      omega (arith, words),
      rw shape.1 (sleeps g.T.Kept.log g.T.Kept.origin c.args.self.now.table.shared.key.value c.fetch_add.new.seat.id c.fetch_add.new.seat.me (λ n. (n + (2 ^ 64 - 1)) % 2 ^ 64)),
    )
