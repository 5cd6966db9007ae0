-- What the puts of a list of blocks come to.
use Rattle.std.specs.Prelude.{◌≡◌, ◌≢◌, ◌<◌, ◌⊎◌, ℕ, List, [], ◌∷◌, ◌++◌, Option, Some, None}
use Rattle.std.specs.Prelude.{length, map, take, slice_get}
use Rattle.pot_bytes.specs.declared.rack.Geometry.{Geometry}
use Rattle.pot_bytes.specs.declared.rack.Place.{Place}
use Rattle.pot_bytes.specs.declared.rack.Rack.{Rack}
use Rattle.pot_bytes.specs.Rack.{log_bound}
use Rattle.pot_machine.specs.declared.entry.Entry.{Entry}
use Rattle.pot_machine.specs.Table.{Table}
use Rattle.pot_machine.specs.Logs.{own, replayed}
use Rattle.pot_machine.specs.declared.entry.Entry.TheVariants as entry
use Rattle.pot_bytes.specs.Digests.{digest_of}
use Rattle.pot_steps.specs.GroupStep.{Passed, skips, gone_entries}
use Rattle.pot_group.specs.declared.answers.PutFault.{PutFault}
use Rattle.pot_group.specs.declared.answers.PutFault.TheVariants as fault
use Rattle.pot_index.specs.Fits.{FitsPlace, group_of}
use Rattle.pot_rows.specs.Rows.{view_at}
use Rattle.pot_rows.specs.Works.{RowWroteOnlyFor, RowOnlyWriterOf}
use Rattle.pot_replies.specs.Renewals.{IsPutFault}
use Rattle.pot_replies.specs.Stores.{Placed, Puts, place_of, in_group, IsUnkept}
use Rattle.pot_shared.specs.Members.{entries_of}
use Rattle.pot_shared.specs.declared.member.GroupOrigin.{GroupOrigin}
use Rattle.pot_shared.specs.Ready.{GroupPass, GroupPasses}
use Rattle.pot_shared.specs.Seen.{SeesPut}
use Rattle.pot_shared.specs.Works.{of_job, gained}

-- The first blocks of a split of this geometry were put, each in its own group, at these places,
-- which are distinct. The passes have seen the puts; and where nobody else logged an entry of the
-- job, its entries are these puts and the stripes that they passed.
pub record ArePut (rack : Rack) (geometry : Geometry) (job : ℕ) (blocks : List (List ℕ))
    (places : List Place) (old new : GroupPasses) : Type 0 where
  pub placed : List Placed
  pub places_are : places ≡ map place_of placed
  pub digests : map (λ x. x.digest) placed ≡ map digest_of (take (length placed) blocks)
  pub fits : (b : ℕ) (x : Placed) → slice_get placed b ≡ Some x
      → FitsPlace rack geometry b (place_of x)
  pub seen : (b : ℕ) (x : Placed) → slice_get placed b ≡ Some x → SeesPut new (place_of x) x.digest
  pub apart : (a b : ℕ) (x y : Placed) → slice_get placed a ≡ Some x → slice_get placed b ≡ Some y
      → place_of x ≡ place_of y → a ≡ b
  pub worked : RowWroteOnlyFor (of_job job) old new
  pub puts : RowOnlyWriterOf (of_job job) old new → (g : ℕ)
      → Puts job (in_group g placed) (own job (gained old new g))

-- the log that a pass has seen leads to a table whose cursor is behind the last stripe; it has
-- room, or stripes were passed
abbrev pub EndsFull : Table → List Passed → GroupPass → Type 0
EndsFull first passed w =
    ((replayed first (entries_of w.seen)).cursor.stripe ≡ first.stripes)
    × ((length w.seen < log_bound) ⊎ (passed ≢ []))

-- the log is at its bound; nothing was logged, or a stripe was still to be tried
abbrev pub EndsLogFull : Table → List Passed → Option ℕ → GroupPass → Type 0
EndsLogFull first passed gone w =
    (length w.seen ≡ log_bound)
    × (((passed ≡ []) × (gone ≡ None))
    ⊎ ((replayed first (entries_of w.seen)).cursor.stripe < first.stripes))

-- the entries of the put of a block that was refused, at the end of what the pass gained
abbrev pub EndsPut : Rack → Table → ℕ → List ℕ → PutFault → List Entry → List Entry → List Entry
    → GroupPass → Type 0
EndsPut rack first job block fault.Full entries before gain w =
    (passed : List Passed) × (entries ≡ skips job passed) × EndsFull first passed w
EndsPut rack first job block fault.LogFull entries before gain w =
    (passed : List Passed) × (s : ℕ) × (gone : Option ℕ)
    × (entries ≡ skips job passed ++ gone_entries job s gone) × EndsLogFull first passed gone w
EndsPut rack first job block (fault.Faulted column) entries before gain w =
    (passed : List Passed) × (last : Entry) × (entries ≡ skips job passed ++ last ∷ [])
    × (((s : ℕ) × (last ≡ entry.Fault job s column) × IsPutFault first job before gain s column)
    ⊎ IsUnkept rack.columns job (digest_of block) column last)

-- The puts ended at this group: the blocks before the next were put, and then the job's entries in
-- its group end so.
pub record PutsEnd (rack : Rack) (geometry : Geometry) (job : ℕ) (blocks : List (List ℕ))
    (group : ℕ) (cause : PutFault) (old new : GroupPasses) : Type 0 where
  pub placed : List Placed
  pub next : List ℕ
  pub within : group < length old.names
  pub origin : GroupOrigin
  pub named : (view_at new group).origin ≡ Some origin
  pub digests : map (λ x. x.digest) placed ≡ map digest_of (take (length placed) blocks)
  pub next_is : slice_get blocks (length placed) ≡ Some next
  pub fits : (b : ℕ) (x : Placed) → slice_get placed b ≡ Some x
      → FitsPlace rack geometry b (place_of x)
  pub group_is : group ≡ group_of rack geometry (length placed)
  pub sofar : List Entry
  pub last : List Entry
  pub here : own job (gained old new group) ≡ sofar ++ last
  pub puts_here : Puts job (in_group group placed) sofar
  pub puts : (h : ℕ) → group ≢ h → Puts job (in_group h placed) (own job (gained old new h))
  pub ends : EndsPut rack origin.first job next cause last (entries_of (view_at old group).seen)
      (gained old new group) (view_at new group)
