-- Slots of places that are not Void, as a test and as a fact.
use Rattle.std.proofs.Common.{◌≡◌, Bool, true, false, not, Option, Some, None, List, slice_get, All, ap, ◌∙◌, refl}
use Rattle.std.proofs.lemmas.List.Elements.{All-weaker}
use Rattle.pot_bytes.specs.declared.rack.Place.{Place}
use Rattle.pot_machine.specs.Slot.{is_void}
use Rattle.pot_machine.specs.Table.{Table, slot_at}
use Rattle.pot_image.specs.Records.{is_filled}
use Rattle.pot_image.specs.Rules.{IsFilled}

-- the test says that it is so
abbrev pub Passes : List Table → Place → Type 0
Passes ts p = is_filled ts p.group p.column p.stripe ≡ true

abbrev by_table : Place → Option Table → Bool
by_table p o = elim o [ None ↦ false | Some t ↦ not (is_void (slot_at t p.stripe p.column)) ]

passes_filled : (ts : List Table) (p : Place) → Passes ts p → IsFilled ts p
passes_filled ts p e = by_group (slice_get ts p.group) refl e
  where
    other : (b : Bool) → not b ≡ true → b ≡ false
    other false h = refl
    other true h = absurd ((cc))

    by_group : (o : Option Table) → slice_get ts p.group ≡ o → by_table p o ≡ true → IsFilled ts p
    by_group None q h = absurd ((cc))
    by_group (Some t) q h = record { table = t; group = q; slot = other (is_void (slot_at t p.stripe p.column)) h }

filled_passes : (ts : List Table) (p : Place) → IsFilled ts p → Passes ts p
filled_passes ts p f = ap (by_table p) f.group ∙ ap not f.slot

pub all_filled : (ts : List Table) (ps : List Place) → All (Passes ts) ps → All (IsFilled ts) ps
all_filled ts ps h = All-weaker (Passes ts) (IsFilled ts) (passes_filled ts) ps h

pub all_pass : (ts : List Table) (ps : List Place) → All (IsFilled ts) ps → All (Passes ts) ps
all_pass ts ps h = All-weaker (IsFilled ts) (Passes ts) (filled_passes ts) ps h
