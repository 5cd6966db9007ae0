use Rattle.std.proofs.Common.{rules, ◌∙◌, sym, ap, bytes_eq, [], ◌∷◌}
use Rattle.std.specs.String.{string_bytes}
use Rattle.pot_options.proofs.LoopLemmas.{delimiter_more, bare_here, bare_nowhere}
use Rattle.pot_options.proofs.reading.has_delimiter.Goals as goal

pub loop-word-init : goal.loop-word-init
loop-word-init c = search rules

pub returns-then-eq : goal.returns-then-eq
returns-then-eq c = bare_here string_bytes c.args.words.now c.loop-word.word-index c.word-item.result c.loop-word-test.true c.word-item.is
    (ap (λ t. bytes_eq t (45 ∷ 45 ∷ [])) (sym c.as_str.ensures.value) ∙ sym c.if-eq.ensures) c.loop-word.invariant

pub loop-word-preserved : goal.loop-word-preserved
loop-word-preserved c = delimiter_more string_bytes c.args.words.now c.loop-word.word-index c.word-item.result c.loop-word-test.true c.word-item.is
    (ap (λ t. bytes_eq t (45 ∷ 45 ∷ [])) (sym c.as_str.ensures.value) ∙ sym c.if-eq.ensures) c.loop-word.invariant

pub returns : goal.returns
returns c = bare_nowhere string_bytes c.args.words.now c.loop-word.word-index c.loop-word-test.false c.loop-word.invariant
