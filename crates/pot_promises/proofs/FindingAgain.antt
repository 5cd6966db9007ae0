-- An image of which some slots were found again: what stays, and that a recheck makes such a one.
use Rattle.std.proofs.Common.{◌≡◌, ◌<◌, ℕ, zero, suc, List, [], ◌∷◌, Some, map, get_or, refl, ap, sym, ◌∙◌, subst, arith}
use Rattle.std.specs.Prelude.{None, slice_get}
use Rattle.std.proofs.lemmas.List.{get_or-map, length-map}
use Rattle.std.proofs.lemmas.Option.{same_Some, slice_get_within}
use Rattle.pot_bytes.proofs.Elements.{element_of_map}
use Rattle.pot_machine.specs.declared.slot.SlotState.{SlotState}
use Rattle.pot_machine.specs.declared.slot.SlotState.TheVariants.{Void}
use Rattle.pot_machine.specs.Slot.{digest_in, live_of}
use Rattle.pot_machine.specs.Table.{Table, width, place_of, slot_at}
use Rattle.pot_machine.specs.Rules.{IsTable}
use Rattle.pot_machine.proofs.Places.{place_below}
use Rattle.pot_image.specs.Images.{Contents}
use Rattle.pot_image.specs.Rules.{FitsTable, FitsTogether}
use Rattle.pot_recheck.specs.declared.listing.Unsound.{Unsound}
use Rattle.pot_recheck.specs.Listing.{in_image}
use Rattle.pot_recheck.specs.Finding.{IsFound, IsFoundTable}
use Rattle.pot_recheck.specs.Rechecking.{all_live, live_table}
use Rattle.pot_recheck.proofs.ListLemmas.{all_named}
use Rattle.pot_recheck.proofs.SlotLemmas.{same_digests}
use Rattle.pot_shared.proofs.Lists.{all_at_place}

-- WHAT STAYS

pub rack_stays : (found : List Unsound) (left next : Contents) → IsFound found left next → next.rack ≡ left.rack
rack_stays found left next is = ap (λ (v : Contents). v.rack) is.rest

pub records_stay : (found : List Unsound) (left next : Contents) → IsFound found left next → next.records ≡ left.records
records_stay found left next is = ap (λ (v : Contents). v.records) is.rest

digest_read : (xs : List SlotState) (i : ℕ) → digest_in (get_or xs i Void) ≡ get_or (map digest_in xs) i None
digest_read [] i = refl
digest_read (x ∷ xs) zero = refl
digest_read (x ∷ xs) (suc i) = digest_read xs i

module _ (found : List Unsound) (g : ℕ) (t u : Table) (is : IsFoundTable found g t u) where
  -- a slot has the digest that it had
  pub digest_stays : IsTable t → (s c : ℕ) → digest_in (slot_at u s c) ≡ digest_in (slot_at t s c)
  digest_stays rules s c =
      ap (λ (x : Table). digest_in (slot_at x s c)) is.rest
      ∙ (digest_read u.slots (place_of t s c)
      ∙ (ap (λ l. get_or l (place_of t s c) None) (same_digests found g t u.slots rules.size is.slots) ∙ sym (digest_read t.slots (place_of t s c))))

  pub columns_stay : u.data_columns ≡ t.data_columns
  columns_stay = ap (λ (x : Table). x.data_columns) is.rest

-- ALL ARE FOUND AGAIN

module _ (v : Contents) (fits : FitsTogether v) where
  live_is_found : (g : ℕ) (t : Table) → slice_get v.tables g ≡ Some t → IsFoundTable (in_image v) g t (live_table t)
  live_is_found g t at =
      let its : FitsTable v.rack t = all_at_place (FitsTable v.rack) v.tables g t fits.tables.fits at in
      let slots = its.rules.size.slots in
      let low : g < v.rack.groups = (let l = slice_get_within v.tables g t at in let n = fits.tables.count in omega (arith, l, n)) in
      record {
        rest = refl;
        slots = record {
          count = length-map t.slots live_of;
          each = λ s c ls lc.
              get_or-map live_of t.slots (place_of t s c) Void Void (let b = place_below (width t) t.stripes s c ls lc in omega (arith, b, slots)) ∙ sym (all_named v g s c t low at ls lc);
        };
      }

  -- the image in which all slots are Live that are not Void is that one
  pub all_found_again : IsFound (in_image v) v (all_live v)
  all_found_again = record {
    rest = refl;
    tables = record {
      count = length-map v.tables live_table;
      each = λ g t u before now.
          (let it = element_of_map live_table v.tables g u now in
          let same : t ≡ it.0 = same_Some t it.0 (sym before ∙ it.1) in
          subst (λ (x : Table). IsFoundTable (in_image v) g t x) (ap live_table same ∙ it.2) (live_is_found g t before));
    };
  }
