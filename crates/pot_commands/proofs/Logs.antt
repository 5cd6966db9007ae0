-- Logs in parts, and where they lead.
use Rattle.std.proofs.Common.{◌≡◌, List, [], ◌∷◌, ◌++◌, ap, sym, ◌∙◌, append_assoc}
use Rattle.std.proofs.lemmas.List.{append_cancel_left}
use Rattle.pot_bytes.specs.declared.rack.Rack.{Rack}
use Rattle.pot_index.specs.declared.entry.Logged as plainly
use Rattle.pot_index.specs.Index.{Names}
use Rattle.pot_index.specs.Index as index_of
use Rattle.pot_turn.specs.declared.view.View.{View}
use Rattle.pot_worked.specs.WroteOnlyFor.{added, IsTurn}
use Rattle.pot_worked.proofs.WroteOnlyForLemmas.{behind}
use Rattle.pot_replies.specs.Sections.{names_after}

pub names_to : (rack : Rack) (n m : Names) (log : List plainly.Logged) → index_of.ReplaysIndex rack n log m → names_after n log ≡ m
names_to rack n m [] r = sym r
names_to rack n m (x ∷ log) r = names_to rack (index_of.after n x) m log r.1

-- what one locked call adds to what its pass had seen
pub turn_added : {E O : Type 0} (others entries : List E) (v w : View E O) → IsTurn others entries v w → added v w ≡ others ++ entries
turn_added {E} {O} others entries v w turn =
    behind w.seen v.seen (others ++ entries) (ap (λ (x : View E O). x.seen) turn ∙ append_assoc v.seen others entries)

-- an entry at the end
pub same_end : {X : Type 0} (front xs ys whole : List X) → whole ≡ front ++ xs → whole ≡ front ++ ys → xs ≡ ys
same_end front xs ys whole one two = append_cancel_left front xs ys (sym one ∙ two)
