use Rattle.std.proofs.Common.{Some, None}
use Rattle.pot_words.proofs.PointLemmas.{is_spot, spot_parts}
use Rattle.pot_words.proofs.spots.read_spot.Goals as goal

pub returns-in_err-before : goal.returns-in_err-before
returns-in_err-before c = rw c.from_residual.ensures (λ s has. spot_parts c.args.text.now None c.in_err-before.ensures.cases s has.0 has.1)

pub returns-in_err-group : goal.returns-in_err-group
returns-in_err-group c = rw c.from_residual-in_err-group.ensures (λ s has.
    let parts = spot_parts c.args.text.now (Some (c.in_ok-before.before, c.in_ok-before.after)) c.in_ok-before.ensures.cases s has.0 has.1 in
    c.in_err-group.ensures s.group has.0.0 parts.0)

pub returns-in_err-column : goal.returns-in_err-column
returns-in_err-column c = rw c.from_residual-in_err-column.ensures (λ s has.
    let parts = spot_parts c.args.text.now (Some (c.in_ok-before.before, c.in_ok-before.after)) c.in_ok-before.ensures.cases s has.0 has.1 in
    c.in_err-column.ensures s.column has.0.1 parts.1)

pub returns : goal.returns
returns c =
    let group = c.in_ok-group.ensures in
    let column = c.in_ok-column.ensures in
    is_spot c.args.text.now (c.in_ok-before.before, c.in_ok-before.after) c.in_ok-group.group c.in_ok-column.column c.in_ok-before.ensures.cases group.0 column.0
    group.1 column.1
