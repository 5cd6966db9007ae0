use Rattle.std.proofs.Common.{sym, ◌∙◌}
use Rattle.pot_client.proofs.LineLemmas.{begins, no_kind, no_line_end, no_word}
use Rattle.pot_client.proofs.replies.first_line.Goals as goal

pub returns-in_err-line : goal.returns-in_err-line
returns-in_err-line c = rw c.from_residual.ensures (no_line_end c.args.bytes.now c.in_err-line.ensures)

pub returns-in_err-next : goal.returns-in_err-next
returns-in_err-next c =
    rw c.from_residual-in_err-next.ensures
    (no_word c.args.bytes.now c.in_ok-line.line.now (sym c.of-words.ensures ∙ c.in_err-next.ensures))

pub returns-in_err-kind : goal.returns-in_err-kind
returns-in_err-kind c =
    rw c.from_residual-in_err-kind.ensures
    (no_kind c.args.bytes.now c.in_ok-line.line.now c.in_ok-line.rest.now c.in_ok-next.field-0.now c.next.new.self c.in_ok-line.ensures
    (sym c.of-words.ensures ∙ c.in_ok-next.ensures) c.in_err-kind.ensures)

pub returns : goal.returns
returns c =
    begins c.args.bytes.now c.in_ok-line.line.now c.in_ok-line.rest.now c.in_ok-next.field-0.now c.next.new.self c.in_ok-line.ensures
    (sym c.of-words.ensures ∙ c.in_ok-next.ensures) c.in_ok-kind.kind c.in_ok-kind.ensures
