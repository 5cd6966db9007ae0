-- What an image comes to is one image, and a second time changes nothing.
use Rattle.std.proofs.Common.{◌≡◌, ◌<◌, ℕ, List, if◌then◌else◌, map, get_or, refl, sym, ap, subst, ◌∙◌, arith}
use Rattle.std.proofs.lemmas.List.{get_or-map, length-map}
use Rattle.std.proofs.lemmas.Option.{slice_get_within}
use Rattle.pot_machine.specs.declared.slot.SlotState.TheVariants.{Void}
use Rattle.pot_machine.specs.Slot.{live_of}
use Rattle.pot_machine.specs.Table.{Table, width, place_of, slot_at}
use Rattle.pot_machine.specs.Rules.{IsTable}
use Rattle.pot_machine.proofs.Places.{place_below}
use Rattle.pot_image.specs.Images.{Contents}
use Rattle.pot_image.specs.Rules.{FitsTogether}
use Rattle.pot_recheck.specs.declared.listing.Unsound.{Unsound}
use Rattle.pot_recheck.specs.Listing.{in_image}
use Rattle.pot_recheck.specs.Finding.{is_named, IsFound, IsFoundTable}
use Rattle.pot_recheck.specs.Rechecking.{live_table, all_live}
use Rattle.pot_recheck.proofs.SlotLemmas.{same_slots, by_twice}
use Rattle.pot_recheck.proofs.TableLemmas.{with_slots}
use Rattle.pot_recheck.proofs.ImageLemmas.{still_rules, before, fit_at}
use Rattle.pot_recheck.proofs.ListLemmas.{all_named}
use Rattle.pot_recheck.proofs.Pairs.{same_lists, same_tables}

module _ (found : List Unsound) (g : ℕ) where
  table_once : (t u y : Table) → IsTable t → IsFoundTable found g t u → IsFoundTable found g t y → y ≡ u
  table_once t u y rules a b =
      b.rest ∙ ap (with_slots t) (same_slots t y.slots u.slots rules.size b.slots.count a.slots.count (λ s c ls lc. b.slots.each s c ls lc ∙ sym (a.slots.each s c ls lc))) ∙ sym a.rest

  table_twice : (t u y : Table) → IsTable t → IsFoundTable found g t u → IsFoundTable found g u y → y ≡ u
  table_twice t u y rules a b =
      b.rest ∙ ap (with_slots u) (same_slots u y.slots u.slots (still_rules found g t u a rules).size b.slots.count refl each) ∙ ap (λ (z : Table). with_slots z z.slots) a.rest ∙ sym a.rest
    where
      each : (s c : ℕ) → s < u.stripes → c < width u → get_or y.slots (place_of u s c) Void ≡ get_or u.slots (place_of u s c) Void
      each s c ls lc =
          let place : place_of u s c ≡ place_of t s c = ap (λ (z : Table). place_of z s c) a.rest in
          let is = ap (λ i. get_or u.slots i Void) place ∙ a.slots.each s c (subst (λ (z : Table). s < z.stripes) a.rest ls) (subst (λ (z : Table). c < width z) a.rest lc) in
          b.slots.each s c ls lc ∙ ap (λ x. if is_named found g s c then live_of x else x) is ∙ by_twice (is_named found g s c) (slot_at t s c) ∙ sym is

pub found_once : (found : List Unsound) (v w x : Contents) → FitsTogether v → IsFound found v w → IsFound found v x → w ≡ x
found_once found v w x fits a b =
    a.rest ∙ ap (λ ts. record v { tables = ts }) (same_lists x.tables w.tables (a.tables.count ∙ sym b.tables.count) (λ g y u p q.
    (let t = before found v.rack v.tables w.tables fits.tables.fits a.tables g u q in
    table_once found g t.0 y u (fit_at found v.rack v.tables w.tables fits.tables.fits a.tables g t.0 t.1).rules (b.tables.each g t.0 y t.1 p) (a.tables.each g t.0 u t.1 q)))) ∙ sym b.rest

pub twice_once : (found : List Unsound) (v w x : Contents) → FitsTogether v → IsFound found v w → IsFound found w x → x ≡ w
twice_once found v w x fits a b =
    b.rest ∙ ap (λ ts. record w { tables = ts }) (same_lists w.tables x.tables b.tables.count (λ g u y p q.
    (let t = before found v.rack v.tables w.tables fits.tables.fits a.tables g u p in
    table_twice found g t.0 u y (fit_at found v.rack v.tables w.tables fits.tables.fits a.tables g t.0 t.1).rules (a.tables.each g t.0 u t.1 p) (b.tables.each g u y p q))))

pub all_found : (v w : Contents) → FitsTogether v → IsFound (in_image v) v w → w ≡ all_live v
all_found v w fits a =
    a.rest ∙ ap (λ ts. record v { tables = ts }) (same_tables live_table v.tables w.tables a.tables.count (λ g t u p q.
    (let is = a.tables.each g t u p q in
    let rules = (fit_at (in_image v) v.rack v.tables w.tables fits.tables.fits a.tables g t p).rules in
    let low : g < v.rack.groups = (let l = slice_get_within v.tables g t p in let n = fits.tables.count in omega (arith, l, n)) in
    is.rest ∙ ap (with_slots t) (same_slots t u.slots (map live_of t.slots) rules.size is.slots.count (length-map t.slots live_of) (λ s c ls lc.
    is.slots.each s c ls lc ∙ all_named v g s c t low p ls lc
    ∙ sym (get_or-map live_of t.slots (place_of t s c) Void Void (let b = place_below (width t) t.stripes s c ls lc in let n = rules.size.slots in omega (arith, b, n))))))))
