use Rattle.std.proofs.Common.{sym, ap, ◌∙◌}
use Rattle.pot_script.specs.Words.{words_left}
use Rattle.pot_script.proofs.WordLemmas.{some_words}
use Rattle.pot_script.proofs.words.Words.end.Goals as goal

pub returns-in-Some : goal.returns-in-Some
returns-in-Some c = (
  λ e. absurd (cc),
  λ e. absurd (some_words c.in-Some.field-0.now (sym (ap words_left c.in-Some.is) ∙ c.self.view_is ∙ e)),
)
