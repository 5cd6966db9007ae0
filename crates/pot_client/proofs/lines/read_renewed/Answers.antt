use Rattle.pot_client.specs.ReplyTexts.{IsReplyLineOf}
use Rattle.pot_client.specs.declared.kind.ReplyKind.TheVariants as kinds
use Rattle.pot_client.proofs.KindLemmas.{only_renewed}
use Rattle.pot_client.proofs.lines.read_renewed.Goals as goal

pub returns-in_err-name : goal.returns-in_err-name
returns-in_err-name c =
    rw c.from_residual.ensures
    (λ r at. only_renewed (λ d. IsReplyLineOf kinds.Renewed c.args.words d → ⊥) (λ name pieces shards is. c.in_err-name.ensures (name, pieces, shards) (is.is.0, is.is.1, is.is.2, is.words_are)) r at.kind_is at)
