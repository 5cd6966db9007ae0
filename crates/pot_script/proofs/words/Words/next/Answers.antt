use Rattle.std.proofs.Common.{sym, ap, ◌∙◌}
use Rattle.pot_script.specs.Words.{words_left}
use Rattle.pot_script.proofs.WordLemmas.{words_in-cut, words_in-one}
use Rattle.pot_script.proofs.words.Words.next.Goals as goal

pub returns-in-Some : goal.returns-in-Some
returns-in-Some c =
    sym c.self.view_is ∙ ap words_left c.in_ok-left.was
    ∙ words_in-cut c.in_ok-left.left.now c.in-Some.word.now c.in-Some.others.now c.in-Some.ensures

pub returns-in-None : goal.returns-in-None
returns-in-None c = sym c.self.view_is ∙ ap words_left c.in_ok-left.was ∙ words_in-one c.in_ok-left.left.now c.in-None.ensures
