use Rattle.std.proofs.Common.{sym, ◌∙◌, append-nil}
use Rattle.std.specs.Prelude.{flat_map}
use Rattle.pot_script.specs.Replies.{reply_text}
use Rattle.pot_client.specs.ReplyWords.{IsReply}
use Rattle.pot_client.proofs.LineLemmas.{reply_text-some}
use Rattle.pot_client.proofs.ReplyLemmas.{one_reply, reply_code}
use Rattle.pot_client.proofs.SequenceLemmas.{one_list}
use Rattle.pot_client.proofs.laws.one_reply.Goals as goal

pub returns-clause-first : goal.returns-clause-first
returns-clause-first c = one_reply

pub returns-clause-all : goal.returns-clause-all
returns-clause-all c = λ bytes rs ss p q.
    one_list reply_text IsReply reply_code reply_text-some rs ss p.0 q.0
    (append-nil (flat_map reply_text rs) ∙ sym p.1 ∙ q.1 ∙ sym (append-nil (flat_map reply_text ss)))
