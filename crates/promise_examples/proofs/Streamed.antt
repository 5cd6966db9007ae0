-- The streams of jobs.
use Rattle.pot_promises.specs.Stretches.{StreamsApart}
use Rattle.promise_examples.specs.Archives.{StreamsAreTwo}

pub streams_are_two : StreamsApart → StreamsAreTwo
streams_are_two law s t j k apart lj lk e = apart (law s j t k lj lk e).0
