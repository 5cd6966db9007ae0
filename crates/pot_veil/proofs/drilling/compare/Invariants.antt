use Rattle.std.proofs.Common.{◌≡◌, ◌≤◌, ◌++◌, [], ℕ, List, length}
use Rattle.std.specs.List.{slice_index_or}
use Rattle.sha2.specs.Hashers.{Holds256}
use Rattle.pot_veil.specs.Drills.{is_seen_at, text_of}
use Rattle.pot_veil.proofs.Comparing.{picked}
use Rattle.pot_veil.proofs.drilling.compare.Given as goal

abbrev pub invariant-loop-place : goal.invariant-loop-place
invariant-loop-place l =
    (l.same ≡ length (picked (is_seen_at l.geometry l.number l.seen) (λ p. slice_index_or l.before p []) l.place))
    × (l.same ≤ l.place)
    × ((m : List ℕ) → Holds256 l.initial.taken m
    → Holds256 l.taken (m ++ text_of (picked (is_seen_at l.geometry l.number l.seen) (λ p. slice_index_or l.before p []) l.place)))
