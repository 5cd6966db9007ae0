use Rattle.std.proofs.Common.{◌≢◌, ℕ, ◌<◌, get_or}
use Rattle.pot_script.specs.Kinds.{keyword}
use Rattle.pot_script.specs.declared.kind.Kind.{Kind}
use Rattle.pot_script.proofs.kind.Kind.read.Given as goal

-- the word is that of none of the kinds so far
abbrev pub invariant-loop-kind : goal.invariant-loop-kind
invariant-loop-kind l = (i : ℕ) (d : Kind) → i < l.kind-index → l.word ≢ keyword (get_or l.kind-items i d)
