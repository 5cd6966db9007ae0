use Rattle.std.proofs.Common.{◌≡◌, length}
use Rattle.pot_script.specs.Replies.{listed_text}
use Rattle.pot_client.specs.ReplyWords.{IsListing}
use Rattle.pot_client.proofs.SequenceLemmas.{IsReadTo}
use Rattle.pot_client.proofs.replies.Replies.many_listed.Given as goal

-- these names were read
abbrev pub invariant-loop-taken : goal.invariant-loop-taken
invariant-loop-taken l = record {
  read : IsReadTo listed_text IsListing l.fn.self l.names.items l.self;
  counted : length l.names.items ≡ l._taken;
}
