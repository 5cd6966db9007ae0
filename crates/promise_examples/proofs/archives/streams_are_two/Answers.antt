use Rattle.promise_examples.proofs.Streamed.{streams_are_two}
use Rattle.promise_examples.proofs.archives.streams_are_two.Goals as goal

pub returns : goal.returns
returns c = streams_are_two c.stretch_laws.ensures.streams
