use Rattle.std.proofs.Common.{length}
use Rattle.pot_client.specs.declared.kind.ReplyKind.TheVariants as kinds
use Rattle.pot_client.specs.ReplyTexts.{IsReplyLineOf}
use Rattle.pot_client.proofs.KindLemmas.{only_names}
use Rattle.pot_client.proofs.replies.Replies.names.Goals as goal

pub returns-in_default : goal.returns-in_default
returns-in_default c = λ r after at e.
    only_names (λ d. IsReplyLineOf kinds.Names c.args.words d → ⊥) (λ names is. c.in_default.ensures (length names) (is.is.0, is.words_are)) r at.kind_is at
