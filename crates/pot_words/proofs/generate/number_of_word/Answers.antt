use Rattle.std.proofs.Common.{rules, ◌≡◌, decimal, arith}
use Rattle.pot_words.proofs.NumberLemmas.{word_of_zero, word_is}
use Rattle.pot_words.proofs.generate.number_of_word.Goals as goal

pub returns-then-number-eq0 : goal.returns-then-number-eq0
returns-then-number-eq0 c = word_of_zero c.args.word.now (search rules)

pub returns : goal.returns
returns c =
    let some = c.if-number-eq0.false in
    let is : c.args.word.now ≡ decimal c.in_ok-number.number = search rules in
    word_is c.args.word.now c.in_ok-number.number is (omega (arith, some)) c.in_ok-number.ensures.0
