use Rattle.std.proofs.Common.{◌≡◌, ◌∙◌, ℕ, sym, ap, Option, Some, None, true, not, bytes_eq, decimal, true≢false, arith}
use Rattle.std.specs.Prelude.{unwrap_or}
use Rattle.std.specs.Result.{result_ok}
use Rattle.std.proofs.lemmas.Slice.Eq.{bytes_eq-Decides}
use Rattle.std.proofs.lemmas.Fmt.{parse-decimal}
use Rattle.pot_words.proofs.numbers.read_number.Goals as goal

pub returns-in_err-number : goal.returns-in_err-number
returns-in_err-number c = rw c.from_residual.ensures (λ n below is.
    let bound = c.ranges.most.fits in
    let read = parse-decimal 32 n c.args.text.now c.parse.result (omega arith) (omega arith) is c.parse.ensures.value.0 in
    let bad : None ≡ Some n = c.in_err-number.ensures.value ∙ ap result_ok read in
    cc)

pub returns-then-number-most : goal.returns-then-number-most
returns-then-number-most c = λ n below is.
    let bound = c.ranges.most.fits in
    let above = c.if-number-most.true in
    let read = parse-decimal 32 n c.args.text.now c.parse.result (omega arith) (omega arith) is c.parse.ensures.value.0 in
    let same : c.in_ok-number.number ≡ n = ap (λ (o : Option ℕ). unwrap_or o 0) (c.in_ok-number.ensures.value ∙ ap result_ok read) in
    omega (arith, same, above, below)

pub returns-then-ne : goal.returns-then-ne
returns-then-ne c = λ n below is.
    let bound = c.ranges.most.fits in
    let read = parse-decimal 32 n c.args.text.now c.parse.result (omega arith) (omega arith) is c.parse.ensures.value.0 in
    let same : c.in_ok-number.number ≡ n = ap (λ (o : Option ℕ). unwrap_or o 0) (c.in_ok-number.ensures.value ∙ ap result_ok read) in
    let written : c.format.result.now ≡ c.args.text.now = c.format.ensures.text ∙ ap decimal same ∙ sym is in
    let equal : bytes_eq c.format.result.now c.args.text.now ≡ true = (bytes_eq-Decides c.format.result.now c.args.text.now).1 written in
    true≢false (c.if-ne.ensures ∙ ap not equal)
