-- A table that was read keeps the rules of a table.
use Rattle.std.proofs.Common.{inl, inr, All, get_or, length-append, append-nil, ◌≡◌, ◌<◌, ◌≤◌, ℕ, ◌+◌, ◌-◌, ◌*◌, ◌==◌, ◌&&◌, ◌||◌, nat_lt, nat_le, Bool, true, false, List, [], ◌∷◌, ◌++◌, length, flat_map, Ok, ap, sym, ◌∙◌, refl, subst, arith}
use Rattle.std.proofs.Math.Seq.{get_or-append_seam}
use Rattle.std.proofs.lemmas.List.{get_or_append_left}
use Rattle.std.proofs.lemmas.Grind.{flat_map-append}
use Rattle.std.proofs.lemmas.Bool.{leb-true, ltb-true, eqb-true, and_parts, cases_lt}
use Rattle.pot_bytes.specs.declared.rack.Rack.{Rack}
use Rattle.pot_bytes.specs.Rack.{IsRack}
use Rattle.pot_machine.specs.declared.column.Column.{Column}
use Rattle.pot_machine.specs.declared.slot.SlotState.{SlotState}
use Rattle.pot_machine.specs.declared.cursor.Cursor.{Cursor}
use Rattle.pot_machine.specs.Table.{Table, width}
use Rattle.pot_machine.specs.Making.{table_of}
use Rattle.pot_image.specs.Fields.{done}
use Rattle.pot_image.specs.Reading.{◌>>=◌, reading}
use Rattle.pot_image.specs.Numbers.{natural, at_most, between, zeros}
use Rattle.pot_machine.specs.Table.{archives_in}
use Rattle.pot_image.specs.Tables.{cursor, columns, slots, table, table_behind, tables}
use Rattle.pot_image.specs.Rules.{FitsTable, AreTables}
use Rattle.pot_image.proofs.Steps.{holds_of}
use Rattle.pot_image.proofs.Inverse.{parts, done_is, several_keep}
use Rattle.pot_image.proofs.SlotRules.{AreAllowed, slots_are_allowed, voids_of}
use Rattle.pot_image.proofs.ColumnRules.{AreFree, AreKept, columns_kept, columns_of, free_more}
use Rattle.pot_image.proofs.Archives.{archives_of_free}

-- the cursor is at a data column of a stripe, or at column 0 behind the last stripe
pub record IsPlaced (rack : Rack) (c : Cursor) : Type 0 where
  pub stripe : c.stripe ≤ rack.stripes
  pub column : c.column < rack.columns
  pub behind : c.stripe ≡ rack.stripes → c.column ≡ 0

pub cursor_placed : (rack : Rack) (bytes rest : List ℕ) (c : Cursor) → IsRack rack → reading (cursor rack) bytes ≡ Ok (c, rest) → IsPlaced rack c
unfolding cursor
cursor_placed rack bytes rest c fits e =
    (let r = parts (natural 4 (at_most rack.stripes)) (λ stripe. natural 1 (λ c. between 0 (rack.columns - 1) c && (nat_lt stripe rack.stripes || (c == 0))) >>= λ column. zeros 3 >>= λ padding. done (record { stripe = stripe; column = column })) bytes c rest e in
    let s = parts (natural 1 (λ c. between 0 (rack.columns - 1) c && (nat_lt r.value rack.stripes || (c == 0)))) (λ column. zeros 3 >>= λ padding. done (record { stripe = r.value; column = column })) r.behind c rest r.second in
    let u = parts (zeros 3) (λ padding. done (record { stripe = r.value; column = s.value })) s.behind c rest s.second in
    let same = done_is (record { stripe = r.value; column = s.value }) c u.behind rest u.second in
    let stripe : r.value ≤ rack.stripes = leb-true _ _ (holds_of 4 (at_most rack.stripes) bytes r.behind r.value r.first) in
    let rule = and_parts (between 0 (rack.columns - 1) s.value) (nat_lt r.value rack.stripes || (s.value == 0)) (holds_of 1 (λ c. between 0 (rack.columns - 1) c && (nat_lt r.value rack.stripes || (c == 0))) r.behind s.behind s.value s.first) in
    let low : s.value ≤ rack.columns - 1 = leb-true s.value (rack.columns - 1) (and_parts (nat_le 0 s.value) (nat_le s.value (rack.columns - 1)) rule.0).1 in
    subst (IsPlaced rack) same.0 (record { stripe = stripe; column = omega (arith, low, fits.columns.0); behind = λ q. at_end r.value s.value q rule.1 }))
  where
    at_end : (a b : ℕ) → a ≡ rack.stripes → nat_lt a rack.stripes || (b == 0) ≡ true → b ≡ 0
    at_end a b q h = by_test (nat_lt a rack.stripes) refl h
      where
        by_test : (t : Bool) → nat_lt a rack.stripes ≡ t → t || (b == 0) ≡ true → b ≡ 0
        by_test true k h = (let l = ltb-true _ _ k in absurd (omega (arith, l, q)))
        by_test false k h = eqb-true _ _ h

pub table_rules : (rack : Rack) (c : Cursor) (cs : List Column) (ss : List SlotState) (taken : List ℕ) → IsRack rack → IsPlaced rack c
    → AreKept rack.stripes taken (rack.columns + rack.parity) cs
    → length ss ≡ rack.stripes * (rack.columns + rack.parity) → AreAllowed c rack.columns (rack.columns + rack.parity) ss
    → FitsTable rack (table_of rack.stripes c cs ss rack.parity)
table_rules rack c cs ss taken fits at kept size all = record {
  rules = record {
    size = record {
      data_columns = (omega (arith, data_is, fits.columns.0), omega (arith, data_is, fits.columns.1));
      parity = fits.parity;
      stripes = fits.stripes;
      columns = omega (arith, data_is, kept.count);
      slots = size ∙ ap (λ w. rack.stripes * w) (sym wide);
      relays = omega arith;
    };
    cursor = record { stripe = at.stripe; column = omega (arith, data_is, at.column); behind = at.behind };
    voids = voids_of t (size ∙ ap (λ w. rack.stripes * w) (sym wide)) (subst (λ d. AreAllowed c d (width t) ss) (sym data_is) (subst (λ w. AreAllowed c rack.columns w ss) (sym wide) all)) (omega (arith, data_is, fits.columns.0));
    columns = columns_of t taken (omega (arith, data_is, kept.count)) kept.free kept.moves;
    relays = record { apart = λ i j d li lj. absurd (omega arith); standing = λ k d lt. absurd (omega arith) };
  };
  data_columns = data_is;
  parity = refl;
  stripes = refl;
  relays = refl;
}
  where
    t : Table
    t = table_of rack.stripes c cs ss rack.parity

    data_is : length cs - rack.parity ≡ rack.columns
    data_is = (let h = kept.count in omega (arith, h))

    wide : (length cs - rack.parity) + rack.parity ≡ rack.columns + rack.parity
    wide = ap (λ n. n + rack.parity) data_is

record Kept (rack : Rack) (taken : List ℕ) (t : Table) : Type 0 where
  fits : FitsTable rack t
  free : AreFree taken (archives_in t)

table_kept : (rack : Rack) (taken bytes rest : List ℕ) (t : Table) → IsRack rack → reading (table rack taken) bytes ≡ Ok (t, rest) → Kept rack taken t
unfolding table
table_kept rack taken bytes rest t fits e =
    (let a = parts (cursor rack) (λ at. columns (rack.columns + rack.parity) rack.stripes taken >>= λ cs. slots at rack.columns (rack.columns + rack.parity) rack.stripes >>= λ ss. done (table_of rack.stripes at cs ss rack.parity)) bytes t rest e in
    let b = parts (columns (rack.columns + rack.parity) rack.stripes taken) (λ cs. slots a.value rack.columns (rack.columns + rack.parity) rack.stripes >>= λ ss. done (table_of rack.stripes a.value cs ss rack.parity)) a.behind t rest a.second in
    let c = parts (slots a.value rack.columns (rack.columns + rack.parity) rack.stripes) (λ ss. done (table_of rack.stripes a.value b.value ss rack.parity)) b.behind t rest b.second in
    let same = done_is (table_of rack.stripes a.value b.value c.value rack.parity) t c.behind rest c.second in
    let kept = columns_kept (rack.columns + rack.parity) rack.stripes taken a.behind b.behind b.value b.first in
    let all = slots_are_allowed a.value rack.columns (rack.columns + rack.parity) rack.stripes b.behind c.behind c.value fits.columns.0 c.first in
    kept_as (table_of rack.stripes a.value b.value c.value rack.parity) same.0 (table_rules rack a.value b.value c.value taken fits (cursor_placed rack bytes a.behind a.value fits a.first) kept all.0 all.1) kept.free)
  where
    kept_as : (u : Table) → u ≡ t → FitsTable rack u → AreFree taken (archives_in u) → Kept rack taken t
    kept_as u q f free = subst (Kept rack taken) q (record { fits = f; free = free })

record First (rack : Rack) (n : ℕ) (ts : List Table) : Type 0 where
  count : length ts ≡ n
  fits : All (FitsTable rack) ts
  free : AreFree [] (flat_map archives_in ts)

pub tables_kept : (rack : Rack) (bytes rest : List ℕ) (ts : List Table) → IsRack rack → reading (tables rack) bytes ≡ Ok (ts, rest) → AreTables rack ts
unfolding tables
tables_kept rack bytes rest ts fits e =
    (let all = several_keep (First rack) (table_behind rack) rack.groups
    (λ i before x bs rs l p h. one_more i before x p (table_kept rack (flat_map archives_in before) bs rs x fits h))
    rack.groups 0 [] ts bytes rest (omega arith) (record { count = refl; fits = λ k d l. absurd (omega (arith, l)); free = tt }) e in
    record { count = all.count; fits = all.fits; archives = archives_of_free (flat_map archives_in ts) all.free })
  where
    one_more : (i : ℕ) (before : List Table) (x : Table) → First rack i before → Kept rack (flat_map archives_in before) x → First rack (i + 1) (before ++ x ∷ [])
    one_more i before x p k = record {
      count = (let h : length (before ++ x ∷ []) ≡ length before + 1 = length-append before (x ∷ []) in omega (arith, h, p.count));
      fits = λ j d l. (let h : length (before ++ x ∷ []) ≡ length before + 1 = length-append before (x ∷ []) in elim (cases_lt j (length before)) [
        | inl below ↦ subst (FitsTable rack) (sym (get_or_append_left before (x ∷ []) d j below)) (p.fits j d below)
        | inr at ↦ (let q : j ≡ length before = omega (arith, l, h, at) in subst (FitsTable rack) (sym (ap (λ i. get_or (before ++ x ∷ []) i d) q ∙ get_or-append_seam before x [] d)) k.fits)
      ]);
      free = subst (AreFree []) (ap (λ z. flat_map archives_in before ++ z) (sym (append-nil (archives_in x))) ∙ sym (flat_map-append archives_in before (x ∷ []))) (free_more (flat_map archives_in before) (archives_in x) [] p.free k.free);
    }
