use Rattle.run_examples.proofs.Remaining.{older_finds, still_there}
use Rattle.run_examples.proofs.still_there.Goals as goal

pub returns-clause-still : goal.returns-clause-still
returns-clause-still c = still_there c.frame_laws.ensures.remain c.frame_laws.ensures.served

pub returns-clause-older : goal.returns-clause-older
returns-clause-older c = older_finds c.frame_laws.ensures.older
