use Rattle.std.proofs.Common.{◌≡◌, ◌≤◌, ◌-◌, ◌*◌, ◌++◌, ℕ, List, length}
use Rattle.sha2.specs.Hashers.{Holds256}
use Rattle.pot_veil.specs.Drills.{seen_upto, text_of}
use Rattle.pot_veil.specs.Explained.{explained_upto}
use Rattle.pot_veil.proofs.drilling.drill_pieces.Given as goal

abbrev pub invariant-loop-piece : goal.invariant-loop-piece
invariant-loop-piece l =
    (l.random ≡ explained_upto l.geometry l.file l.other (λ i. l.fragment - 1) (λ i. l.seen) l.initial.random l.piece)
    × (l.blocks ≡ length (seen_upto l.geometry l.file l.initial.random (l.fragment - 1) l.seen l.piece))
    × (l.blocks ≤ 128 * l.piece)
    × ((m : List ℕ) → Holds256 l.initial.taken m
    → Holds256 l.taken (m ++ text_of (seen_upto l.geometry l.file l.initial.random (l.fragment - 1) l.seen l.piece)))
