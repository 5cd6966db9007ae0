use Rattle.std.proofs.Common.{◌≡◌, ◌+◌, arith, rules}
use Rattle.pot_turn.specs.Passes.{view}
use Rattle.pot_turn.specs.Views.{new_view}
use Rattle.turn_demo.specs.Books.{WroteLines}
use Rattle.turn_demo.proofs.Wrote.{wrote_joined}
use Rattle.turn_demo.proofs.writing.write_two.Goals as goal

pub returns-clause-wrote : goal.returns-clause-wrote
returns-clause-wrote g c =
    let u = view c.args.pass in
    let mine = c.in_ok-mine.mine in
    let theirs = c.in_ok-theirs.field-0 in
    let first = c.args.first in
    let count = c.args.count in
    let one : WroteLines first (first + 1) count (view c.split.new.pass) (view mine) = search rules in
    let two : WroteLines (first + 1) (first + 2) count (view c.in-Ok.other) (view theirs) = search rules in
    let given : view c.in-Ok.other ≡ new_view 1 u = search rules in
    let join = c.join.ensures in
    wrote_joined u (view c.split.new.pass) (view c.in-Ok.other) (view mine) (view theirs) (view c.join.new.pass) 1 first (first + 1) (first + 2) count (omega arith) (omega arith) c.requires.parts mine.known theirs.known
    c.split.ensures.left given one two join.both join.begins join.its_begins join.alike.0
