use Rattle.std.proofs.Common.{subst, List, ℕ, IfOk}
use Rattle.std.specs.String.{string_bytes}
use Rattle.pot_words.specs.Answers.{IsOnly}
use Rattle.pot_words.specs.Tasks.{SpellTask}
use Rattle.pot_words.proofs.CommandLemmas.{all_words}
use Rattle.pot_words.proofs.LimitLemmas.{answer_within}
use Rattle.pot_words.proofs.reading.read_words.Goals as goal

pub returns-in-len1-up-clause-only : goal.returns-in-len1-up-clause-only
returns-in-len1-up-clause-only c =
    let all = all_words string_bytes c.args.words.now c.word-item.result c.as_str.result.now c.in-len1-up.len_at_least c.word-item.is c.as_str.ensures.value in
    subst (λ (words : List (List ℕ)). IfOk c.read_line.result (IsOnly (SpellTask words))) all c.read_line.ensures

pub returns-in-len1-up-clause-limits : goal.returns-in-len1-up-clause-limits
returns-in-len1-up-clause-limits c = answer_within _ c.read_line.result c.read_line.ensures
