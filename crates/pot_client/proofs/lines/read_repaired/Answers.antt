use Rattle.pot_client.specs.ReplyTexts.{IsReplyLineOf}
use Rattle.pot_client.specs.declared.kind.ReplyKind.TheVariants as kinds
use Rattle.pot_client.proofs.KindLemmas.{only_repaired}
use Rattle.pot_client.proofs.lines.read_repaired.Goals as goal

pub returns-in_err-group : goal.returns-in_err-group
returns-in_err-group c =
    rw c.from_residual.ensures
    (λ r at. only_repaired (λ d. IsReplyLineOf kinds.Repaired c.args.words d → ⊥) (λ x y z is. c.in_err-group.ensures (x, y, z) (is.is.0, is.is.1, is.is.2, is.words_are)) r at.kind_is at)
