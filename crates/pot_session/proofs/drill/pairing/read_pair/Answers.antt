use Rattle.std.proofs.Common.{◌<◌, length, rules}
use Rattle.pot_session.proofs.PairLemmas.{no_length, no_file, no_other, no_end, unanswered}
use Rattle.pot_session.proofs.drill.pairing.read_pair.Goals as goal

pub returns-in_err-length : goal.returns-in_err-length
returns-in_err-length c =
    unanswered _ c.from_residual-in_err-length.result c.from_residual-in_err-length.ensures
    (no_length c.args.bytes.now c.in_ok-digits.digits.now c.in_ok-digits.files.now c.in_ok-digits.ensures c.in_err-length.ensures)

pub returns-in_err-file : goal.returns-in_err-file
returns-in_err-file c =
    unanswered _ c.from_residual-in_err-file.result c.from_residual-in_err-file.ensures
    (no_file c.args.bytes.now c.in_ok-digits.digits.now c.in_ok-digits.files.now c.in_ok-digits.ensures c.in_ok-length.field-0 c.in_ok-length.ensures.0 c.in_ok-length.ensures.1
    c.in_err-file.ensures)

pub returns-in_err-other : goal.returns-in_err-other
returns-in_err-other c =
    unanswered _ c.from_residual-in_err-other.result c.from_residual-in_err-other.ensures
    (no_other c.args.bytes.now c.in_ok-digits.digits.now c.in_ok-digits.files.now c.in_ok-digits.ensures c.in_ok-length.field-0 c.in_ok-length.ensures.0 c.in_ok-length.ensures.1
    c.in_ok-file.file.now c.in_ok-file.rest.now c.in_ok-file.ensures.0 c.in_ok-file.ensures.1 c.in_err-other.ensures)

pub returns-else-is_empty : goal.returns-else-is_empty
returns-else-is_empty c =
    no_end c.args.bytes.now c.in_ok-digits.digits.now c.in_ok-digits.files.now c.in_ok-digits.ensures c.in_ok-length.field-0 c.in_ok-length.ensures.0 c.in_ok-length.ensures.1
    c.in_ok-file.file.now c.in_ok-file.rest.now c.in_ok-file.ensures.0 c.in_ok-file.ensures.1
    c.in_ok-other.other.now c.in_ok-other.end.now c.in_ok-other.ensures.0 c.in_ok-other.ensures.1
    (let some : 0 < length c.in_ok-other.end.now = search rules in some)
