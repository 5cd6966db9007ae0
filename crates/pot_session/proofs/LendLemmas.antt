-- The archives of a session: those that it begins with are in use, and those that commands took are
-- given back with them.
use Rattle.std.proofs.Common.{◌≡◌, ◌<◌, ◌≤◌, ◌++◌, ⊎_elim, ℕ, zero, suc, Bool, true, false, List, [], ◌∷◌, length, refl, sym, ap, subst, ◌∙◌, arith}
use Rattle.std.specs.Prelude.{Option, Some, None, All, Contains, IsSome, IsSomeAnd, slice_index_or, flat_map}
use Rattle.std.proofs.lemmas.List.Elements.{All-head, All-tail, Contains-append_cases, Contains-append_left, Contains-append_right}
use Rattle.pot_bytes.proofs.Elements.{none_contained}
use Rattle.pot_outside.specs.Archives.{IsMeant}
use Rattle.pot_outside.specs.Rooms.{RoomState}
use Rattle.pot_machine.specs.declared.entry.Entry.{Entry}
use Rattle.pot_machine.specs.Rules.{IsTable}
use Rattle.pot_machine.specs.Table.{Table, holder_of, archives_in}
use Rattle.pot_machine.specs.Logs.{replayed}
use Rattle.pot_image.specs.Images.{Contents}
use Rattle.pot_image.specs.Rules.{FitsTable, FitsTogether}
use Rattle.pot_rows.specs.Rows.{view_at}
use Rattle.pot_turn.specs.Views.{spent_view}
use Rattle.pot_worked.specs.WroteOnlyFor.{added}
use Rattle.pot_shared.specs.declared.member.GroupOrigin.{GroupOrigin}
use Rattle.pot_shared.specs.Members.{entries_of}
use Rattle.pot_shared.specs.Ready.{GroupPass, GroupPasses}
use Rattle.pot_shared.specs.Catalogs.{IndexPasses}
use Rattle.pot_shared.specs.Works.{Known, gained}
use Rattle.pot_shared.proofs.Times.{one_if}
use Rattle.pot_shared.specs.Going.{AllOnlyWriters}
use Rattle.pot_shared.specs.Hands.{times}
use Rattle.pot_commands.specs.Holding.{AreOut, Untouched}
use Rattle.pot_commands.specs.Taking.{Takes, Come, AreUsed}
use Rattle.pot_shared.specs.Coming.{AreMarkedBy, came_in, taking_of}
use Rattle.pot_commands.proofs.ArrivingLemmas.{arrived_used}
use Rattle.pot_shared.proofs.ComingLemmas.{arrival_in}
use Rattle.pot_shared.proofs.Times.{times-append, times_there}
use Rattle.pot_commands.proofs.TakingLemmas.{came_within}
use Rattle.pot_shared.specs.Groups.{AreFirstPasses, AreLow, HaveCome, table_read, tables_read}
use Rattle.pot_shared.proofs.Times.{times_contains}
use Rattle.pot_shared.proofs.Lists.{all_contained}

-- LOW NUMBERS

low_of : (xs : List ℕ) → All (λ n. n ≤ 511) xs → AreLow xs
low_of [] all n lt = refl
low_of (x ∷ xs) all n lt =
    (let h = All-head (λ k. k ≤ 511) x xs all in let r = low_of xs (All-tail (λ k. k ≤ 511) x xs all) n lt in let t = times_there x n (λ e. (let z = e in omega (arith, h, lt, z))) in omega (arith, r, t))

pub image_low : (v : Contents) → FitsTogether v → AreLow (flat_map archives_in v.tables)
image_low v f = low_of (flat_map archives_in v.tables) f.tables.archives.within

-- IN USE AT FIRST

homes_held : (t : Table) (n : ℕ) → IsTable t → Contains (archives_in t) n → IsSome (holder_of t n)
homes_held t n is has = (let u = arrived_used t t [] n is refl (Contains-append_left (archives_in t) [] n has) in by u.0 u.1 u.2 u.3)
  where
    by : (x y : List Entry) → [] ≡ x ++ y → IsSome (holder_of (replayed t x) n) → IsSome (holder_of t n)
    by [] y e h = h
    by (z ∷ x) y e h = absurd (cc e)

-- the group whose first table has an archive
abbrev HasFirst : List GroupPass → ℕ → Type 0
HasFirst vs n = (g : ℕ) × (g < length vs) × ((o : GroupOrigin) × ((slice_index_or vs g spent_view).origin ≡ Some o) × Contains (archives_in o.first) n)

first_later : (v : GroupPass) (vs : List GroupPass) (n : ℕ) → HasFirst vs n → HasFirst (v ∷ vs) n
first_later v vs n (g, lt, h) = (suc g, (let l = lt in omega (arith, l)), h)

first_here : (v : GroupPass) (vs : List GroupPass) (n : ℕ) → (Contains (flat_map archives_in (flat_map (λ (w : GroupPass). table_read w.origin) vs)) n → HasFirst vs n) → (o : Option GroupOrigin) → v.origin ≡ o
    → Contains (flat_map archives_in (table_read o ++ flat_map (λ (w : GroupPass). table_read w.origin) vs)) n → HasFirst (v ∷ vs) n
first_here v vs n rest None is h = first_later v vs n (rest h)
first_here v vs n rest (Some o) is h = ⊎_elim
    (λ (here : Contains (archives_in o.first) n). (0, omega arith, (o, is, here)))
    (λ (there : Contains (flat_map archives_in (flat_map (λ (w : GroupPass). table_read w.origin) vs)) n). first_later v vs n (rest there))
    (Contains-append_cases (archives_in o.first) (flat_map archives_in (flat_map (λ (w : GroupPass). table_read w.origin) vs)) n h)

first_with : (vs : List GroupPass) (n : ℕ) → Contains (flat_map archives_in (flat_map (λ (v : GroupPass). table_read v.origin) vs)) n → HasFirst vs n
first_with [] n has = absurd (none_contained n has)
first_with (v ∷ vs) n has = first_here v vs n (λ h. first_with vs n h) v.origin refl has

read_in : (vs : List GroupPass) (g : ℕ) (o : GroupOrigin) → g < length vs → (slice_index_or vs g spent_view).origin ≡ Some o → Contains (flat_map (λ (v : GroupPass). table_read v.origin) vs) o.first
read_in [] g o lt is = absurd (omega (arith, lt))
read_in (v ∷ vs) zero o lt is =
    Contains-append_left (table_read v.origin) (flat_map (λ (w : GroupPass). table_read w.origin) vs) o.first (subst (λ x. Contains (table_read x) o.first) (sym is) (0, omega arith, refl))
read_in (v ∷ vs) (suc g) o lt is =
    Contains-append_right (table_read v.origin) (flat_map (λ (w : GroupPass). table_read w.origin) vs) o.first (read_in vs g o (omega (arith, lt)) is)

-- the archives that a session begins with are in use
pub first_used : (room : RoomState) (first : Contents) (row : GroupPasses) (index : IndexPasses) → FitsTogether first → AreFirstPasses row index → tables_read row ≡ first.tables → AreOut room (flat_map archives_in first.tables)
    → AreUsed room row
first_used room first row index fits passes read outs n is =
    let some : 1 ≤ times n (flat_map archives_in (tables_read row)) = (let a = outs n in let b = ap one_if is in let c = ap (λ ts. times n (flat_map archives_in ts)) read in omega (arith, a, b, c)) in
    let f = first_with row.views n (times_contains (flat_map archives_in (tables_read row)) n some) in
    let o = f.2.0 in
    let rules : FitsTable first.rack o.first = all_contained (FitsTable first.rack) first.tables o.first fits.tables.fits (subst (λ ts. Contains ts o.first) read (read_in row.views f.0 o f.1 f.2.1)) in (
      f.0,
      (let a = passes.count in let l = f.1 in omega (arith, a, l)),
      subst (λ x. IsSomeAnd x (λ (p : GroupOrigin). (x : List Entry) × (y : List Entry) × (entries_of (view_at row f.0).seen ≡ x ++ y) × IsSome (holder_of (replayed p.first x) n))) (sym f.2.1)
          ([], entries_of (view_at row f.0).seen, refl, homes_held o.first n rules.rules f.2.2),
    )

-- AFTER THE COMMANDS

pub none_before_asked : (n : ℕ) (ns asked : List ℕ) → times n (ns ++ asked) ≡ 0 → times n ns ≡ 0
none_before_asked n ns asked none = (let a = times-append n ns asked in omega (arith, none, a))

module _ (told well : Type 0) (asked : List ℕ) (r r' : RoomState) (old new : Known) (taken : List ℕ) (takes : Takes told well asked taken r r') (come : Come told r.means taken old new) (ns : List ℕ) (outs : AreOut r ns) where
  -- those that were out, and those that were taken
  pub out_after : AreOut r' (ns ++ taken)
  out_after n = (let a = times-append n ns taken in let b = outs n in let c = takes.out n in omega (arith, a, b, c))

  pub low_after : AreLow ns → AreLow asked → AreLow (ns ++ taken)
  low_after low few n lt = (let a = times-append n ns taken in let b = low n lt in let c = few n lt in let d = takes.among n in omega (arith, a, b, c, d))

  -- they are those of the tables and those that came
  pub have_come : flat_map archives_in (tables_read new.groups) ≡ ns → HaveCome old new (ns ++ taken)
  have_come read sole n = (let a = times-append n ns taken in let b = come.are sole n in let c = ap (times n) read in omega (arith, a, b, c))

  -- the marks of those that came are what the room meant before it lent any
  pub marks_before : (first : RoomState) → Untouched ns first r → told → AllOnlyWriters old new → (g : ℕ) → g < length old.groups.names → AreMarkedBy first.means (added (view_at old.groups g) (view_at new.groups g))
  marks_before first untouched tells sole g lt l n has arr =
      let some = came_within (length old.groups.names) (gained old.groups new.groups) g n lt (arrival_in (added (view_at old.groups g) (view_at new.groups g)) l n has arr) in
      let a = come.are sole n in
      let b = takes.out n in
      let d = outs n in
      let at = at_most (r'.out n) in
      let none : times n ns ≡ 0 = omega (arith, some, a, b, d, at) in
      come.marked tells sole g lt l n has arr ∙ ap (λ m. Some (taking_of m)) (untouched n none)
    where
      at_most : (b : Bool) → one_if b ≤ 1
      at_most true = omega arith
      at_most false = omega arith

  -- a number that was not out and that no command asked for is home
  pub home_after : (n : ℕ) → times n (ns ++ asked) ≡ 0 → r'.out n ≡ false
  home_after n none = by (r'.out n) (let a = times-append n ns asked in let b = outs n in let c = takes.out n in let d = takes.among n in omega (arith, none, a, b, c, d))
    where
      by : (b : Bool) → one_if b ≡ 0 → b ≡ false
      by true e = absurd (omega (arith, e))
      by false e = refl

  pub means_after : (n : ℕ) → times n (ns ++ asked) ≡ 0 → r'.means n ≡ r.means n
  means_after n none = takes.others n (let a = times-append n ns asked in omega (arith, none, a))

  pub none_first : (n : ℕ) → times n (ns ++ asked) ≡ 0 → times n ns ≡ 0
  none_first n none = none_before_asked n ns asked none

  -- a number that was not out, and that no log brought, is home and means what it meant
  pub still_meant : told → well → AllOnlyWriters old new → (n : ℕ) → times n ns ≡ 0 → times n (came_in (length old.groups.names) (gained old.groups new.groups)) ≡ 0
      → (r'.out n ≡ false) × IsMeant (r.means n) (r'.means n)
  still_meant tells it sole n none unbrought = (home, takes.still tells it n home)
    where
      by : (b : Bool) → one_if b ≡ 0 → b ≡ false
      by true e = absurd (omega (arith, e))
      by false e = refl

      home : r'.out n ≡ false
      home = by (r'.out n) (let a = come.are sole n in let b = outs n in let c = takes.out n in omega (arith, none, unbrought, a, b, c))
