use Rattle.std.proofs.Common.{length}
use Rattle.pot_script.specs.Replies.{reply_text}
use Rattle.pot_client.specs.ReplyWords.{IsReply}
use Rattle.pot_client.proofs.SequenceLemmas.{IsReadTo}
use Rattle.pot_client.proofs.replies.read_replies.Given as goal

-- these replies were read
abbrev pub invariant-loop-text : goal.invariant-loop-text
invariant-loop-text l = IsReadTo reply_text IsReply l.bytes l.replies.items l.text

abbrev pub decreases-loop-text : goal.decreases-loop-text
decreases-loop-text l = length l.text
