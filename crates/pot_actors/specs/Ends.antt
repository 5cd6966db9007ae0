-- A split that ends.
use Rattle.std.specs.Prelude.{◌≡◌, ◌<◌, ◌++◌, ℕ, Bool, true, false, List, [], ◌∷◌, Option, Some}
use Rattle.std.specs.Prelude.{None, IsSomeAnd, Result, Ok, Err, length}
use Rattle.std.specs.declared.snapshot.Snapshot.{Snapshot}
use Rattle.pot_index.specs.declared.entry.IndexEntry.TheVariants as entry
use Rattle.pot_index.specs.declared.entry.Logged.{Logged}
use Rattle.pot_index.specs.declared.record.Record.{Record}
use Rattle.pot_index.specs.Entries.{bringing}
use Rattle.pot_index.specs.Index.{Names, logged}
use Rattle.pot_index.specs.Records.{mark_of, renewed}
use Rattle.pot_world.specs.declared.acts.ActFault.{ActFault}
use Rattle.pot_world.specs.declared.acts.ActFault.TheVariants as act_fault
use Rattle.pot_world.specs.World.{UnderWay, blocks_of, record_made, record_of, split_of}
use Rattle.pot_actors.specs.declared.ledger.Ledger.{Ledger}
use Rattle.pot_actors.specs.declared.split.OpenSplit.{OpenSplit}
use Rattle.pot_actors.specs.Ledgers.{index_of, names_of}
use Rattle.pot_actors.specs.Worlds.{split_values}

-- the split ended by an entry
abbrev pub EndsByEntry : Logged → Ledger → List (Snapshot OpenSplit) → UnderWay → Ledger
    → List (Snapshot OpenSplit) → Type 0
EndsByEntry x old ended u new ended' =
    (index_of new ≡ logged (index_of old) x) × (split_values ended' ≡ split_values ended ++ u ∷ [])

-- The split ended by an entry; or memory was not found, and all is as before.
abbrev pub EndsSplit : {E : Type 0} → Logged → Ledger → List (Snapshot OpenSplit) → UnderWay → Ledger
    → List (Snapshot OpenSplit) → Result (Unit {0}) E → Type 0
EndsSplit x old ended u new ended' (Ok y) = EndsByEntry x old ended u new ended'
EndsSplit x old ended u new ended' (Err e) =
    (index_of new ≡ index_of old) × (split_values ended' ≡ split_values ended)

-- the record gained the split
abbrev pub RecordGainsSplit : {E : Type 0} → ℕ → Record → Ledger → List (Snapshot OpenSplit) → UnderWay
    → Ledger → List (Snapshot OpenSplit) → Result (Unit {0}) E → Type 0
RecordGainsSplit a r old ended u new ended' result =
    EndsSplit (bringing (entry.Renew a u.name (mark_of (renewed r (split_of u))))
    (renewed r (split_of u))) old ended u new ended' result

-- all blocks were put, and the record that a renewal is of has fewer than 16 splits
abbrev pub MayPublish : Names → UnderWay → Type 0
MayPublish now u =
    (length u.places ≡ length (blocks_of u))
    × (u.renews ≡ true → IsSomeAnd (record_of now u.name) (λ r. length r.older < 15))

-- a store ends by a record, and a renewal by a split of the record of its name
abbrev pub EndsAs : Bool → Option Record → ℕ → Ledger → List (Snapshot OpenSplit) → UnderWay
    → Ledger → List (Snapshot OpenSplit) → Type 0
EndsAs false o a old ended u new ended' =
    EndsByEntry (bringing (entry.Publish a u.name (mark_of (record_made u))) (record_made u)) old ended u
    new ended'
EndsAs true None a old ended u new ended' = ⊥
EndsAs true (Some r) a old ended u new ended' =
    EndsByEntry (bringing (entry.Renew a u.name (mark_of (renewed r (split_of u))))
    (renewed r (split_of u))) old ended u new ended'

abbrev pub LedgerStays : Ledger → List (Snapshot OpenSplit) → Ledger → List (Snapshot OpenSplit) → Type 0
LedgerStays old ended new ended' =
    (index_of new ≡ index_of old) × (split_values ended' ≡ split_values ended)

-- The split was published; or it may not be, or memory was not found, and all is as before.
abbrev pub PublishesSplit : ℕ → Ledger → List (Snapshot OpenSplit) → UnderWay → Ledger
    → List (Snapshot OpenSplit) → Result (Unit {0}) ActFault → Type 0
PublishesSplit a old ended u new ended' (Ok x) =
    MayPublish (names_of old) u
    × EndsAs u.renews (record_of (names_of old) u.name) a old ended u new ended'
PublishesSplit a old ended u new ended' (Err act_fault.NotAllowed) =
    (¬ MayPublish (names_of old) u) × LedgerStays old ended new ended'
PublishesSplit a old ended u new ended' (Err act_fault.NoMemory) = LedgerStays old ended new ended'
