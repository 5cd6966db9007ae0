-- How a vault is opened: what its first passes know of the groups that were started.
use Rattle.std.proofs.Common.{◌≡◌, ◌++◌, inl, inr, ℕ, suc, List, [], ◌∷◌, length, map, refl, sym, ap, subst, ◌∙◌, arith}
use Rattle.std.specs.Prelude.{Some, All, slice_get, slice_index_or, flat_map}
use Rattle.std.proofs.lemmas.Option.{slice_get_within, same_Some}
use Rattle.std.proofs.lemmas.Bool.{cases_lt}
use Rattle.pot_outside.specs.Archives.{Meaning}
use Rattle.pot_rows.proofs.RowLemmas.{at_past}
use Rattle.pot_shared.specs.declared.member.GroupOrigin.{GroupOrigin}
use Rattle.pot_bytes.specs.Rack.{IsRack}
use Rattle.pot_bytes.specs.declared.rack.Rack.{Rack}
use Rattle.pot_bytes.proofs.Elements.{element_at}
use Rattle.pot_machine.specs.Table.{Table, archives_in}
use Rattle.pot_group.specs.Arrivals.{arrivals}
use Rattle.pot_group.specs.Group.{GroupView}
use Rattle.pot_turn.specs.declared.name.TurnName.{TurnName}
use Rattle.pot_turn.specs.Views.{first_view, spent_view}
use Rattle.pot_rows.specs.Rows.{AreOf, view_at}
use Rattle.pot_shared.specs.declared.catalog.CatalogOrigin.{CatalogOrigin}
use Rattle.pot_shared.specs.Members.{kept_log, origin_of, entries_of, taking_at, opened_at}
use Rattle.pot_shared.specs.Callers.{CanCall}
use Rattle.pot_shared.specs.Vaults.{VaultView}
use Rattle.pot_shared.specs.Ready.{AreReady, GroupPass, GroupPasses, IsTableOf}
use Rattle.pot_shared.specs.Catalogs.{IndexPasses, IsIndexReady}
use Rattle.pot_shared.specs.Sharing.{AreFirstGroupPasses}
use Rattle.pot_shared.specs.Works.{Known}
use Rattle.pot_replies.specs.Sessions.{ByNobody}
use Rattle.pot_shared.proofs.MemberLemmas.{entries_kept, same_on}
use Rattle.pot_shared.specs.Coming.{taking_of}
use Rattle.pot_shared.specs.Groups.{AreStarted, AreOfRack, AreTakenFrom, AreFirstPasses, AreTakenAt, IsFirstPass, IsFirstTable, IsOpened, IsOpenedAt, RoseBy, RoseOftenBy, table_read, tables_read}
use Rattle.pot_shared.proofs.Lists.{same_maps, all_at_place}

-- the first tables are those that the groups were started over
pub firsts : {M : Type 0} (see : M → GroupView) (ts : List Table) (ms : List M) → AreStarted see ts ms → map (λ m. (see m).first) ms ≡ ts
firsts see ts ms s = same_maps (λ m. (see m).first) ms ts s.count (λ n m t em et. (s.each n m t em et).first)

pub of_rack : {M : Type 0} (see : M → GroupView) (rack : Rack) (ts : List Table) (ms : List M) → AreStarted see ts ms → All (IsFirstTable rack) ts → length ts ≡ rack.groups → AreOfRack see rack ms
of_rack {M} see rack ts ms s fits count = record {
  count = s.count ∙ count;
  number = λ n m q. (s.each n m (at n m q).0 q (at n m q).1).is_number;
  table = λ n m q.
      (let f = all_at_place (IsFirstTable rack) ts n (at n m q).0 fits (at n m q).1 in
      subst (IsTableOf rack) (sym (s.each n m (at n m q).0 q (at n m q).1).first) f.of_rack);
  none = λ n m q. (s.each n m (at n m q).0 q (at n m q).1).none;
  nobody = λ n m q. (s.each n m (at n m q).0 q (at n m q).1).nobody;
}
  where
    at : (n : ℕ) (m : M) → slice_get ms n ≡ Some m → (t : Table) × (slice_get ts n ≡ Some t)
    at n m q = element_at ts n (let l = slice_get_within ms n m q in omega (arith, l, s.count))

-- passes that are ready for a vault of this rack can call it
pub can_call_of : (v : VaultView) (k : Known) (rack : Rack) → v.rack ≡ rack → IsRack rack → length v.groups ≡ rack.groups → AreReady rack v.groups k.groups → IsIndexReady rack v.groups v.index k.index → CanCall v k
can_call_of v k rack same is count ready index_ready = record {
  is_rack = subst IsRack (sym same) is;
  count = count ∙ ap (λ (r : Rack). r.groups) (sym same);
  ready = subst (λ r. AreReady r v.groups k.groups) (sym same) ready;
  index_ready = subst (λ r. IsIndexReady r v.groups v.index k.index) (sym same) index_ready;
}

-- THE FIRST PASSES

pub first_passes : {M : Type 0} (see : M → GroupView) (rack : Rack) (ms : List M) (names : List TurnName) (row : GroupPasses) (index : IndexPasses) (origin : CatalogOrigin) → AreOfRack see rack ms → AreFirstGroupPasses see ms row
    → AreOf names row → length names ≡ rack.groups → index.views ≡ first_view [] origin ∷ [] → AreFirstPasses row index
first_passes {M} see rack ms names row index origin of first are count one = record {
  count = are.1 ∙ sym (ap length are.0);
  each = λ n l. pass n (element_at ms n (let a = ap length are.0 in omega (arith, l, a, count, of.count)));
  index_origin = origin;
  index_first = ap (λ vs. slice_index_or vs 0 spent_view) one;
}
  where
    pass : (n : ℕ) → (m : M) × (slice_get ms n ≡ Some m) → IsFirstPass n (view_at row n)
    pass n h = record {
      log = kept_log (see h.0);
      origin = origin_of (see h.0);
      is = first n h.0 h.1;
      is_number = of.number n h.0 h.1;
      none = ap arrivals (entries_kept (see h.0)) ∙ of.none n h.0 h.1;
      nobody = subst ByNobody (sym (entries_kept (see h.0))) (of.nobody n h.0 h.1);
    }

-- the tables that passes read are these, where each has the origin of the group at its place
pub read_of : {M : Type 0} (see : M → GroupView) (vs : List GroupPass) (ms : List M) → length vs ≡ length ms
    → ((n : ℕ) (m : M) → slice_get ms n ≡ Some m → table_read (slice_index_or vs n spent_view).origin ≡ (see m).first ∷ []) → flat_map (λ (v : GroupPass). table_read v.origin) vs ≡ map (λ m. (see m).first) ms
read_of see [] [] long e = refl
read_of see [] (m ∷ ms) long e = absurd (omega (arith, long))
read_of see (v ∷ vs) [] long e = absurd (omega (arith, long))
read_of see (v ∷ vs) (m ∷ ms) long e =
    ap (λ l. l ++ flat_map (λ (w : GroupPass). table_read w.origin) vs) (e 0 m refl) ∙ ap (λ l. (see m).first ∷ l) (read_of see vs ms (omega (arith, long)) (λ n x q. e (suc n) x q))

pub first_read : {M : Type 0} (see : M → GroupView) (rack : Rack) (ms : List M) (names : List TurnName) (row : GroupPasses) → AreOfRack see rack ms → AreFirstGroupPasses see ms row → AreOf names row → length names ≡ rack.groups
    → tables_read row ≡ map (λ m. (see m).first) ms
first_read see rack ms names row of first are count =
    read_of see row.views ms (let a = are.1 in omega (arith, a, count, of.count)) (λ n m q. ap (λ (v : GroupPass). table_read v.origin) (first n m q))

-- what the first passes know of the archives and of the openings is so of the groups
pub taken_at : {M : Type 0} (see : M → GroupView) (ms : List M) (names : List TurnName) (row : GroupPasses) (meant : ℕ → Meaning) → AreFirstGroupPasses see ms row → AreOf names row → length names ≡ length ms → AreTakenFrom meant see ms
    → AreTakenAt meant row
taken_at {M} see ms names row meant first of long marked g o e = elim (cases_lt g (length names)) [
  | inl l ↦ (let m = element_at ms g (let n = long in omega (arith, l, n)) in at m.0 m.1)
  | inr l ↦ absurd (let q = sym e ∙ ap (λ (v : GroupPass). v.origin) (at_past names row g of l) in cc)
]
  where
    at : (m : M) → slice_get ms g ≡ Some m → (o.taken ≡ map (λ n. taking_of (meant n)) (archives_in o.first)) × IsOpenedAt meant o (entries_of (view_at row g).seen)
    at m q = (
      subst (λ (p : GroupOrigin). p.taken ≡ map (λ n. taking_of (meant n)) (archives_in p.first)) same
          (same_on (taking_at (see m).shelves) (λ n. taking_of (meant n)) (archives_in (see m).first) (marked g m q).marked),
      subst (λ (p : GroupOrigin). IsOpenedAt meant p (entries_of (view_at row g).seen)) same (record {
        marks = opened_at (see m).shelves;
        are = refl;
        opened = subst (λ l. IsOpened meant (RoseBy meant (see m).first (opened_at (see m).shelves)) (RoseOftenBy meant (see m).first (opened_at (see m).shelves)) (see m).first l)
            (sym (ap (λ (v : GroupPass). entries_of v.seen) (first g m q) ∙ entries_kept (see m))) (marked g m q).opened;
      }),
    )
      where
        same : origin_of (see m) ≡ o
        same = same_Some (origin_of (see m)) o (sym (ap (λ (v : GroupPass). v.origin) (first g m q)) ∙ e)
