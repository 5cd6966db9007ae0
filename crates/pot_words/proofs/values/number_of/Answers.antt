use Rattle.std.proofs.Common.{rules, ◌≡◌, ◌∙◌, sym, ap, option_map, Some, arith}
use Rattle.std.specs.Borrow.{Bor}
use Rattle.pot_options.specs.Options.{Text, given}
use Rattle.pot_words.proofs.NumberLemmas.{below_least, is_number}
use Rattle.pot_words.proofs.values.number_of.Goals as goal

pub returns-then-number-least : goal.returns-then-number-least
returns-then-number-least c =
    let has : given c.args.options.now c.args.name.now ≡ Some c.in_ok-text.text.now =
    sym c.value.ensures ∙ ap (option_map (λ (s : Bor Text). s.now)) c.in_ok-text.was in
    let fits = c.ranges.most.fits in
    below_least (given c.args.options.now) c.args.name.now c.args.least c.args.most (omega arith) c.in_ok-text.text.now c.in_ok-number.number has
    (search rules) c.in_ok-number.ensures.0 (search rules)

pub returns : goal.returns
returns c =
    let has : given c.args.options.now c.args.name.now ≡ Some c.in_ok-text.text.now =
    sym c.value.ensures ∙ ap (option_map (λ (s : Bor Text). s.now)) c.in_ok-text.was in
    let fits = c.ranges.most.fits in
    is_number (given c.args.options.now) c.args.name.now c.args.least c.args.most (omega arith) c.in_ok-text.text.now c.in_ok-number.number has
    (search rules) (search rules) c.in_ok-number.ensures.0
