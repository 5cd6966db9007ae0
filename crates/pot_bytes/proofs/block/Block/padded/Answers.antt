use Rattle.std.proofs.Common.{length, ap, ◌++◌, ◌∙◌}
use Rattle.std.proofs.lemmas.List.{drop-replicate}
use Rattle.pot_bytes.proofs.block.Block.padded.Goals as goal

pub returns : goal.returns
returns c = c.put_front.ensures ∙ ap (λ z. c.args.front.now ++ z) (drop-replicate (length c.args.front.now) 1024 0)
