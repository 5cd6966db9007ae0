use Rattle.pot_promises.proofs.AnsweredWords.{words_are_answered}
use Rattle.pot_promises.proofs.word_laws.Goals as goal

pub returns : goal.returns
returns c = words_are_answered
