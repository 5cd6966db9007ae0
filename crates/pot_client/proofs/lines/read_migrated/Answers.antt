use Rattle.pot_client.specs.ReplyTexts.{IsReplyLineOf}
use Rattle.pot_client.specs.declared.kind.ReplyKind.TheVariants as kinds
use Rattle.pot_client.proofs.KindLemmas.{only_migrated}
use Rattle.pot_client.proofs.lines.read_migrated.Goals as goal

pub returns-in_err-from : goal.returns-in_err-from
returns-in_err-from c =
    rw c.from_residual.ensures
    (λ r at. only_migrated (λ d. IsReplyLineOf kinds.Migrated c.args.words d → ⊥) (λ x y z is. c.in_err-from.ensures (x, y, z) (is.is.0, is.is.1, is.is.2, is.words_are)) r at.kind_is at)
