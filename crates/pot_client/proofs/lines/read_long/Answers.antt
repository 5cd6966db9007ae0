use Rattle.pot_client.specs.ReplyTexts.{IsReplyLineOf}
use Rattle.pot_client.specs.declared.kind.ReplyKind.TheVariants as kinds
use Rattle.pot_client.proofs.KindLemmas.{only_long}
use Rattle.pot_client.proofs.lines.read_long.Goals as goal

pub returns-in_err-name : goal.returns-in_err-name
returns-in_err-name c =
    rw c.from_residual.ensures
    (λ r at. only_long (λ d. IsReplyLineOf kinds.Long c.args.words d → ⊥) (λ name len is. c.in_err-name.ensures (name, len) (is.is.0, is.is.1, is.words_are)) r at.kind_is at)
