-- The slots of an image that are Lost or Broken.
use Rattle.std.specs.Prelude.{◌≡◌, ◌<◌, ℕ, Option, Some, None, List, [], ◌∷◌, IsTrue, flat_map}
use Rattle.std.specs.Prelude.{slice_get}
use Rattle.std.specs.List.{range_with_len}
use Rattle.pot_machine.specs.declared.slot.SlotState.{SlotState}
use Rattle.pot_machine.specs.declared.slot.SlotState.TheVariants.{Void, Live, Lost, Broken}
use Rattle.pot_machine.specs.Slot.{digest_in, is_unsound}
use Rattle.pot_machine.specs.Table.{Table, width, serving_at, slot_at}
use Rattle.pot_image.specs.Images.{Contents}
use Rattle.pot_recheck.specs.declared.listing.Unsound.{Unsound}

-- one of them: its group is one of the rack's, its slot is Lost or Broken with this digest, and
-- this archive serves it
pub record IsUnsound (v : Contents) (u : Unsound) : Type 0 where
  pub table : Table
  pub group : u.group < v.rack.groups
  pub its : slice_get v.tables u.group ≡ Some table
  pub stripe : u.stripe < table.stripes
  pub column : u.column < width table
  pub unsound : IsTrue (is_unsound (slot_at table u.stripe u.column))
  pub digest : digest_in (slot_at table u.stripe u.column) ≡ Some u.digest
  pub archive : u.archive ≡ serving_at table u.stripe u.column

-- a slot of this group, stripe and column that this archive serves, if it is Lost or Broken
abbrev pub if_unsound : ℕ → ℕ → ℕ → ℕ → SlotState → List Unsound
if_unsound g s c archive Void = []
if_unsound g s c archive (Live d) = []
if_unsound g s c archive (Lost d) = record {
  group = g;
  stripe = s;
  column = c;
  archive = archive;
  digest = d;
} ∷ []
if_unsound g s c archive (Broken d) = record {
  group = g;
  stripe = s;
  column = c;
  archive = archive;
  digest = d;
} ∷ []

abbrev pub unsound_at : ℕ → Table → ℕ → ℕ → List Unsound
unsound_at g t s c = if_unsound g s c (serving_at t s c) (slot_at t s c)

-- those of a stripe, by column
unfoldable pub in_stripe : ℕ → Table → ℕ → List Unsound
in_stripe g t s = flat_map (unsound_at g t s) (range_with_len 0 (width t))

-- those of a table, by stripe
unfoldable pub in_table : ℕ → Table → List Unsound
in_table g t = flat_map (in_stripe g t) (range_with_len 0 t.stripes)

-- those of a group, which has a table or not
abbrev pub in_group : ℕ → Option Table → List Unsound
in_group g None = []
in_group g (Some t) = in_table g t

-- those of the first groups, by group
unfoldable pub in_groups : List Table → ℕ → List Unsound
in_groups tables groups = flat_map (λ g. in_group g (slice_get tables g)) (range_with_len 0 groups)

-- those of all groups of the rack
abbrev pub in_image : Contents → List Unsound
in_image v = in_groups v.tables v.rack.groups
