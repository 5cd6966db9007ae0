use Rattle.std.proofs.Common.{ap, ◌∙◌}
use Rattle.pot_bytes.specs.Digests.{digest_bytes}
use Rattle.pot_steps.proofs.CallLemmas.{is_digest}
use Rattle.pot_steps.proofs.rebuilding.digest_of_block.Goals as goal

pub returns : goal.returns
returns c = is_digest c.digest_of.result c.args.block.now (c.digest_of.ensures ∙ ap digest_bytes c.bytes.ensures.value)
