use Rattle.law_examples.proofs.Seeing.{remains}
use Rattle.law_examples.proofs.worlds.block_remains.Goals as goal

pub returns : goal.returns
returns c = remains c.remain_laws.ensures
