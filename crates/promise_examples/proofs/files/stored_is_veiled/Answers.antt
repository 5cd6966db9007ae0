use Rattle.promise_examples.proofs.Filed.{stored_is_veiled}
use Rattle.promise_examples.proofs.files.stored_is_veiled.Goals as goal

pub returns : goal.returns
returns c = stored_is_veiled c.veil_laws.ensures.stays_veiled
