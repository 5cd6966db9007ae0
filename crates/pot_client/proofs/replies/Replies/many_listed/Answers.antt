use Rattle.std.proofs.Common.{sym, ◌∙◌, arith}
use Rattle.pot_script.specs.Replies.{listed_text}
use Rattle.pot_client.specs.ReplyWords.{IsListing}
use Rattle.pot_client.proofs.ListedLemmas.{listed_code}
use Rattle.pot_client.proofs.SequenceLemmas.{stops_short}
use Rattle.pot_client.proofs.replies.Replies.many_listed.Goals as goal

pub returns-in_default : goal.returns-in_default
returns-in_default c = λ ls after are e.
    stops_short listed_text IsListing listed_code c.loop-taken.names.items ls c.loop-taken.self after c.loop-taken.invariant.read.each are.1
    (omega (arith, c.loop-taken.invariant.counted, c.loop-taken-test.true, are.0)) c.in_default.ensures (sym c.loop-taken.invariant.read.whole ∙ e)
