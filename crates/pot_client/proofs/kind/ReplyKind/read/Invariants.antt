use Rattle.std.proofs.Common.{◌≢◌, ℕ, ◌<◌, get_or}
use Rattle.pot_client.specs.ReplyKinds.{keyword}
use Rattle.pot_client.specs.declared.kind.ReplyKind.{ReplyKind}
use Rattle.pot_client.proofs.kind.ReplyKind.read.Given as goal

-- the word is that of none of the kinds so far
abbrev pub invariant-loop-kind : goal.invariant-loop-kind
invariant-loop-kind l = (i : ℕ) (d : ReplyKind) → i < l.kind-index → l.word ≢ keyword (get_or l.kind-items i d)
