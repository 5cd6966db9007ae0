use Rattle.std.proofs.Common.{◌≡◌, ◌^◌, ◌++◌, ◌∙◌, ap, [], arith, rules}
use Rattle.std.specs.Prelude.{filter}
use Rattle.pot_turn.specs.Passes.{view}
use Rattle.pot_turn.specs.Views.{first_view, new_view}
use Rattle.turn_demo.specs.Books.{lines_of, by, WroteLines}
use Rattle.turn_demo.proofs.Wrote.{wrote_joined}
use Rattle.turn_demo.proofs.writing.write_four.Goals as goal

pub returns-clause-lines : goal.returns-clause-lines
returns-clause-lines g c =
    let pass = c.in_ok-turn.pass in
    let mine = c.in_ok-mine.mine in
    let theirs = c.in_ok-theirs.field-0 in
    let count = c.args.count in
    let opening : view pass ≡ first_view [] 1 = search rules in
    let parts : (view pass).parts ≡ 2 ^ 62 = ap (λ v. v.parts) opening in
    let one : WroteLines 0 2 count (view c.split.new.pass) (view mine) = search rules in
    let two : WroteLines 2 4 count (view c.in-Ok.other) (view theirs) = search rules in
    let given : view c.in-Ok.other ≡ new_view 2 (view pass) = search rules in
    let join = c.join.ensures in
    let wrote = wrote_joined (view pass) (view c.split.new.pass) (view c.in-Ok.other) (view mine) (view theirs) (view c.join.new.pass) 2 0 2 4 count (omega arith) (omega arith) (omega (arith, parts)) mine.known theirs.known
    c.split.ensures.left given one two join.both join.begins join.its_begins join.alike.0 in
    let blank = wrote.opened ∙ ap (λ v. v.opened) opening in
    λ author less. c.close.ensures.jobs (by author) (lines_of author count) (wrote.theirs author (omega arith) less) ∙ ap (λ w. filter (by author) w ++ lines_of author count) blank
