use Rattle.std.proofs.Common.{sym, ◌∙◌}
use Rattle.pot_script.specs.Lines.{command_of}
use Rattle.pot_script.proofs.LineLemmas.{no_word, no_kind, misplaced, no_line, with_file, without_file}
use Rattle.pot_script.proofs.spelled.find_command.Goals as goal

pub returns-in_err-next : goal.returns-in_err-next
returns-in_err-next c =
    rw c.from_residual-in_err-next.ensures
    (no_word c.args.rack.now c.args.batch c.args.bytes.now c.in_ok-line.line.now (sym c.of-words.ensures ∙ c.in_err-next.ensures))

pub returns-in_err-kind : goal.returns-in_err-kind
returns-in_err-kind c =
    rw c.from_residual-in_err-kind.ensures
    (no_kind c.args.rack.now c.args.batch c.args.bytes.now c.in_ok-line.line.now c.in_ok-line.rest.now c.in_ok-next.field-0.now c.next.new.self c.in_ok-line.ensures
    (sym c.of-words.ensures ∙ c.in_ok-next.ensures) c.in_err-kind.ensures)

pub returns-then-not-may_stand : goal.returns-then-not-may_stand
returns-then-not-may_stand c =
    misplaced c.args.rack.now c.args.batch c.args.bytes.now c.in_ok-line.line.now c.in_ok-line.rest.now c.in_ok-next.field-0.now c.next.new.self c.in_ok-kind.kind c.in_ok-line.ensures
    (sym c.of-words.ensures ∙ c.in_ok-next.ensures) c.in_ok-kind.ensures (sym c.may_stand.ensures ∙ c.if-not-may_stand.true)

pub returns-in-Store : goal.returns-in-Store
returns-in-Store c =
    with_file c.args.rack.now c.args.batch c.args.bytes.now c.in_ok-line.line.now c.in_ok-line.rest.now c.in_ok-next.field-0.now c.next.new.self c.in_ok-kind.kind c.in_ok-line.ensures
    (sym c.of-words.ensures ∙ c.in_ok-next.ensures) c.in_ok-kind.ensures (sym c.may_stand.ensures ∙ c.if-not-may_stand.false) c.in-Store.is c.find_file.result
    (λ x. command_of x.0) (λ x. x.1.now) c.find_file.ensures

pub returns-in_err-command : goal.returns-in_err-command
returns-in_err-command c =
    rw c.from_residual-in_err-command.ensures
    (no_line c.args.rack.now c.args.batch c.args.bytes.now c.in_ok-line.line.now c.in_ok-line.rest.now c.in_ok-next.field-0.now c.next.new.self c.in_ok-kind.kind c.in_ok-line.ensures
    (sym c.of-words.ensures ∙ c.in_ok-next.ensures) c.in_ok-kind.ensures c.in_err-command.ensures)

pub returns : goal.returns
returns c =
    without_file c.args.rack.now c.args.batch c.args.bytes.now c.in_ok-line.line.now c.in_ok-line.rest.now c.in_ok-next.field-0.now c.next.new.self c.in_ok-kind.kind c.in_ok-command.command
    c.in_ok-line.ensures (sym c.of-words.ensures ∙ c.in_ok-next.ensures) c.in_ok-kind.ensures (sym c.may_stand.ensures ∙ c.if-not-may_stand.false) c.in_default.not-Store
    c.in_ok-command.ensures
