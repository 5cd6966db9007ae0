-- Where the blinds of the relays come from that a job begins: from the job's stream, one behind the
-- other, and each once.
use Rattle.std.specs.Prelude.{◌≡◌, ◌≤◌, ◌==◌, ◌++◌, ℕ, suc, Bool, true, false, List, [], ◌∷◌}
use Rattle.std.specs.Prelude.{Option, Some, None, filter, if◌then◌else◌}
use Rattle.pot_machine.specs.declared.entry.Entry.{Entry}
use Rattle.pot_machine.specs.declared.entry.Entry.TheVariants as entry
use Rattle.pot_machine.specs.Logs.{own}
use Rattle.pot_pads.specs.Pads.{Pads, moved, next_bytes}
use Rattle.pot_rows.specs.Works.{RowWroteOnlyFor, RowOnlyWriterOf}
use Rattle.pot_shared.specs.Ready.{GroupPasses}
use Rattle.pot_shared.specs.Works.{of_job, gained, blinds_by}

abbrev pub is_begin : Entry → Bool
is_begin (entry.Begin job s c) = true
is_begin _ = false

-- The passes worked for the job and began no relay.
pub record BeganNone (job : ℕ) (old new : GroupPasses) : Type 0 where
  pub worked : RowWroteOnlyFor (of_job job) old new
  pub none : RowOnlyWriterOf (of_job job) old new
      → (g : ℕ) → filter is_begin (own job (gained old new g)) ≡ []

-- Where a blind went that was drawn: to a relay of this group, or to none.
abbrev pub Draw : Type 0
Draw = Option ℕ

-- how many went to none
abbrev pub dropped : List Draw → ℕ
dropped [] = 0
dropped (None ∷ draws) = suc (dropped draws)
dropped (Some group ∷ draws) = dropped draws

-- A job drops one blind at most at each place that it mends: a record has at most 1,024 * 8 * 16
-- places, and a group at most 4,096 * 18 slots.
abbrev pub most_dropped : ℕ
most_dropped = 131072

-- the blind, if it went to this group
abbrev pub given_to : ℕ → Draw → List ℕ → List (List ℕ)
given_to g None blind = []
given_to g (Some group) blind = if group == g then blind ∷ [] else []

-- the blinds that went to a group, where each draw takes the next 1,024 bytes of the stream
abbrev pub blinds_for : ℕ → Pads → List Draw → List (List ℕ)
blinds_for g pads [] = []
blinds_for g pads (draw ∷ draws) =
    given_to g draw (next_bytes pads 1024) ++ blinds_for g (moved pads 1024) draws

-- and the stream behind them
abbrev pub behind : Pads → List Draw → Pads
behind pads [] = pads
behind pads (draw ∷ draws) = behind (moved pads 1024) draws

-- The blinds of the relays that the job began are stretches of 1,024 bytes of the stream, in their
-- order, each for one relay or for none, which so many are at most; and the stream stands behind
-- the last one. That is so where nobody else logged an entry of the job.
pub record Blinds (job most : ℕ) (pads after : Pads) (old new : GroupPasses) : Type 0 where
  pub worked : RowWroteOnlyFor (of_job job) old new
  pub draws : List Draw
  pub few : dropped draws ≤ most
  pub stream : after ≡ behind pads draws
  pub blinds : RowOnlyWriterOf (of_job job) old new
      → (g : ℕ) → blinds_by job old new g ≡ blinds_for g pads draws

-- The blinds of a job's relays in all groups, each group's in order. They are stretches of 1,024
-- bytes of the stream, one behind the other, each for one relay or for none; few are for none.
pub record AreDrawn (pads : Pads) (its : ℕ → List (List ℕ)) : Type 0 where
  pub draws : List Draw
  pub few : dropped draws ≤ most_dropped
  pub are : (g : ℕ) → its g ≡ blinds_for g pads draws
