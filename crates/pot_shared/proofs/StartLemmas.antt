-- How a vault is made.
use Rattle.std.proofs.Common.{◌≡◌, ◌<◌, inl, inr, ℕ, false, List, [], ◌∷◌, Contains, length, ap, sym, ◌∙◌, subst, arith}
use Rattle.std.specs.Prelude.{map, slice_get, Some, option_map, ◌^◌}
use Rattle.std.proofs.lemmas.List.{length-map}
use Rattle.std.proofs.lemmas.Option.{slice_get-map, slice_get_cases, slice_get_within, get_or_from_slice_get}
use Rattle.pot_group.specs.Group.{GroupView}
use Rattle.pot_bytes.specs.declared.rack.Rack.{Rack}
use Rattle.pot_index.specs.declared.entry.IndexEntry.TheVariants as entry
use Rattle.pot_index.specs.Entries.{bringing}
use Rattle.pot_index.specs.Index.{IndexView, Names, IsIndex, ReplaysIndex, names_read}
use Rattle.pot_turn.specs.declared.name.TurnName.{TurnName}
use Rattle.pot_turn.specs.Views.{first_view, cut_view, spent_view, stretches_of}
use Rattle.pot_rows.specs.Ends.{HasAllParts, IsUntouched}
use Rattle.pot_rows.specs.Parts.{RowCut, RowNew}
use Rattle.pot_rows.specs.Rows.{AreOf, HasMoreParts, IsIdle, view_at}
use Rattle.pot_rows.proofs.RowLemmas.{at_past}
use Rattle.pot_shared.specs.declared.catalog.CatalogOrigin.{CatalogOrigin}
use Rattle.pot_shared.specs.Members.{kept_log, origin_of as group_origin}
use Rattle.pot_shared.specs.Ready.{GroupPass, GroupPasses, AreReady, IsOrigin}
use Rattle.pot_shared.specs.Catalogs.{KeepsSeen, Publishes, IndexPasses, IsIndexReady, IsIndexOf}
use Rattle.pot_shared.specs.Sharing.{SamePasses, HasAllButKept, IsRackGroup, AreFirstGroupPasses}
use Rattle.pot_shared.proofs.SharingLemmas.{new_ready, cut_ready}

-- an index that has published nothing, with new passes of two parts each
pub keeps_first : (rack : Rack) (names : List TurnName) (old kept : GroupPasses) (index : IndexView) → AreReady rack names old → AreOf names kept → RowNew 2 old kept
    → index.rack ≡ rack → index.log ≡ [] → IsIndex index → length names ≡ rack.groups → KeepsSeen (record { index = index; kept = kept })
keeps_first rack names old kept index ready of new same log is_index count = record {
  groups = ap length of.0 ∙ (count ∙ sym (ap (λ (r : Rack). r.groups) same));
  ready = subst (λ r. AreReady r kept.names kept) (sym same) (subst (λ ns. AreReady rack ns kept) (sym of.0) (new_ready rack names 2 old kept ready of new));
  kept = (λ g lt. (let is = new g (let a = ap length ready.of.0 in let b = ap length of.0 in omega (arith, lt, a, b)) in (
    ap (λ (v : GroupPass). v.parts) is,
    ap (λ (v : GroupPass). v.turns) is,
    ap (λ (v : GroupPass). v.joined) is,
    ap (λ (v : GroupPass). v.made) is,
  )));
  seen = (λ r p. absurd (let q = subst (λ l. Publishes l r) log p in let lt = q.1.1 in omega (arith, lt)));
  told = (λ r has. (let now : index.now ≡ names_read index.read = subst (λ l. ReplaysIndex index.rack (names_read index.read) l index.now) log is_index.replays in
      inl (subst (λ (n : Names). Contains n.published r) now has)));
  once = (λ job name mark r has. absurd (let q = subst (λ l. Contains l (bringing (entry.Publish job name mark) r)) log has in let lt = q.1 in omega (arith, lt)));
}

-- THE FIRST PASSES

module _ {M : Type 0} (see : M → GroupView) (members : List M) (rack : Rack) (names : List TurnName) (row : GroupPasses) (of : AreOf names row)
    (first : row.views ≡ map (λ m. first_view (kept_log (see m)) (group_origin (see m))) members)
    (are : (n : ℕ) (m : M) → slice_get members n ≡ Some m → IsRackGroup rack n (see m)) where
  abbrev begun : M → GroupPass
  begun m = first_view (kept_log (see m)) (group_origin (see m))

  begun_at : (n : ℕ) (m : M) → slice_get members n ≡ Some m → view_at row n ≡ begun m
  begun_at n m at = get_or_from_slice_get row.views n (begun m) spent_view (subst (λ vs. slice_get vs n ≡ Some (begun m)) (sym first) (slice_get-map begun members n ∙ ap (option_map begun) at))

  pub as_many : length names ≡ length members
  as_many = sym of.1 ∙ (ap length first ∙ length-map members begun)

  pub first_ready : AreReady rack names row
  first_ready = record {
    of = of;
    idle = (λ g. elim (slice_get_cases members g).1 [
      | inl x ↦ ap (λ (v : GroupPass). v.holds) (begun_at g x.0 x.2)
      | inr p ↦ ap (λ (v : GroupPass). v.holds) (at_past names row g of (let l = as_many in let q = p.0 in omega (arith, l, q)))
    ]);
    origins = (λ g lt. elim (slice_get_cases members g).1 [
      | inl x ↦ subst (λ o. IsOrigin rack g o) (sym (ap (λ (v : GroupPass). v.origin) (begun_at g x.0 x.2))) (are g x.0 x.2)
      | inr p ↦ absurd (let l = as_many in let q = p.0 in omega (arith, l, q, lt))
    ]);
  }

  within : (g : ℕ) → g < length row.names → g < length members
  within g lt = (let l = as_many in let m = ap length of.0 in omega (arith, lt, l, m))

  all_parts : (g : ℕ) → g < length row.names → (view_at row g).parts ≡ 2 ^ 62
  all_parts g lt = elim (slice_get_cases members g).1 [
    | inl x ↦ ap (λ (v : GroupPass). v.parts) (begun_at g x.0 x.2)
    | inr p ↦ absurd (let q = p.0 in let w = within g lt in omega (arith, q, w))
  ]

  at_first : (g : ℕ) → g < length row.names → stretches_of (view_at row g) ≡ []
  at_first g lt = elim (slice_get_cases members g).1 [
    | inl x ↦ ap (λ (v : GroupPass). stretches_of v) (begun_at g x.0 x.2)
    | inr p ↦ absurd (let q = p.0 in let w = within g lt in omega (arith, q, w))
  ]

  pub more_parts : HasMoreParts 2 row
  more_parts g lt = (let p = all_parts g lt in omega (arith, p))

  -- WHERE THE INDEX HAS ITS PARTS
  module _ (cut : GroupPasses) (of_cut : AreOf names cut) (is : RowCut 2 row cut) where
    names_long : length names ≡ length row.names
    names_long = ap length (sym of.0)

    pub first_cut_ready : AreReady rack names cut
    first_cut_ready = cut_ready rack names 2 row cut first_ready of_cut is

    pub all_but_kept : HasAllButKept cut
    all_but_kept g lt =
        let here : g < length row.names = (let l = names_long in let m = ap length of_cut.0 in omega (arith, lt, l, m)) in
        let p = ap (λ (v : GroupPass). v.parts) (is g here) in
        let q = all_parts g here in
        omega (arith, p, q)

    pub are_first : AreFirstGroupPasses see members cut
    are_first n m at =
        is n (let w = slice_get_within members n m at in let l = as_many in let k = names_long in omega (arith, w, l, k)) ∙ ap (λ (v : GroupPass). cut_view 2 v) (begun_at n m at)

  -- WHERE THE GROUPS COME BACK
  module _ (back : GroupPasses) (of_back : AreOf names back) (same : SamePasses row back) where
    pub back_idle : IsIdle back
    back_idle g lt = ap (λ (v : GroupPass). v.holds) (same g) ∙ first_ready.idle g

    pub back_parts : HasAllParts back
    back_parts g lt = ap (λ (v : GroupPass). v.parts) (same g) ∙ all_parts g (let a = ap length of_back.0 in let b = ap length of.0 in omega (arith, lt, a, b))

    pub back_untouched : IsUntouched back
    back_untouched g lt = ap (λ (v : GroupPass). stretches_of v) (same g) ∙ at_first g (let a = ap length of_back.0 in let b = ap length of.0 in omega (arith, lt, a, b))

-- the one pass of the index
pub index_ready : (rack : Rack) (names turn : List TurnName) (row : IndexPasses) (o : CatalogOrigin) → AreOf turn row → row.views ≡ first_view [] o ∷ [] → o.rack ≡ rack → o.names ≡ names
    → IsIndexReady rack names turn row
index_ready rack names turn row o of is on_rack on_names = record {
  of = of;
  one = sym of.1 ∙ ap length is;
  idle = (λ k lt. (let one = sym of.1 ∙ ap length is in let z : k ≡ 0 = omega (arith, lt, one) in subst (λ n. (view_at row n).holds ≡ false) (sym z) (ap (λ vs. (view_at (record row { views = vs }) 0).holds) is)));
  origin = subst (λ vs. IsIndexOf rack names (view_at (record row { views = vs }) 0).origin) (sym is) (on_rack, on_names);
}

pub index_parts : (turn : List TurnName) (row : IndexPasses) (o : CatalogOrigin) → AreOf turn row → row.views ≡ first_view [] o ∷ [] → HasAllParts row
index_parts turn row o of is k lt =
    let one = sym of.1 ∙ ap length is in let m = ap length of.0 in let z : k ≡ 0 = omega (arith, lt, one, m) in
    subst (λ n. (view_at row n).parts ≡ 2 ^ 62) (sym z) (ap (λ vs. (view_at (record row { views = vs }) 0).parts) is)
