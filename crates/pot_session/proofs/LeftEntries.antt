-- What a group leaves may stand in an image: its table without relays, and the entries of its log.
use Rattle.std.proofs.Common.{◌≡◌, ◌≤◌, ◌<◌, ◌+◌, ◌==◌, ◌&&◌, ℕ, Bool, true, false, not, List, [], ◌∷◌, refl, subst, ◌∙◌, arith, cond, nat_le}
use Rattle.std.specs.Prelude.{All, Contains, Some, None, is_some}
use Rattle.std.proofs.lemmas.List.Elements.{All-cons, All-head, All-nil, All-tail, Contains-append_left, Contains-append_right}
use Rattle.pot_bytes.specs.declared.rack.Rack.{Rack}
use Rattle.pot_machine.specs.declared.entry.Entry.{Entry}
use Rattle.pot_machine.specs.declared.entry.Entry.TheVariants as entry
use Rattle.pot_machine.specs.Slot.{is_broken, is_unsound}
use Rattle.pot_machine.specs.Table.{Table, width, first, first_beside, count_beside, slot_at}
use Rattle.pot_machine.specs.Machine.{Legal, Replays, after, stuck_by}
use Rattle.pot_machine.specs.Rules.{IsTable}
use Rattle.pot_machine.proofs.Kept.{after_keeps}
use Rattle.pot_machine.proofs.LeftAlone.{put_column, sizes_stay}
use Rattle.pot_machine.proofs.Searches.{least_some}
use Rattle.pot_machine.proofs.Sizes.{gave_up_range}
use Rattle.pot_group.specs.Arrivals.{arrival, arrivals}
use Rattle.pot_image.specs.Rules.{FitsEntry, FitsTable, IsSpotOf, IsWholeEntry}
use Rattle.pot_shared.specs.Leaving.{still}

-- THE TABLE

still_rules : (t : Table) → IsTable t → IsTable (still t)
still_rules t is = record {
  size = record {
    data_columns = is.size.data_columns;
    parity = is.size.parity;
    stripes = is.size.stripes;
    columns = is.size.columns;
    slots = is.size.slots;
    relays = omega arith;
  };
  cursor = record { stripe = is.cursor.stripe; column = is.cursor.column; behind = is.cursor.behind };
  voids = record { first = is.voids.first; parity = is.voids.parity; after = is.voids.after; cursor = is.voids.cursor };
  columns = record { target = is.columns.target; distinct = is.columns.distinct };
  relays = record { apart = λ i j d li lj. absurd (omega arith); standing = λ k d lt. absurd (omega arith) };
}

-- a table that has the sizes of one of this rack
pub still_fits : (rack : Rack) (t u : Table) → FitsTable rack t → IsTable u → u.data_columns ≡ t.data_columns → u.parity ≡ t.parity → u.stripes ≡ t.stripes → FitsTable rack (still u)
still_fits rack t u fits is columns parity stripes = record {
  rules = still_rules u is;
  data_columns = columns ∙ fits.data_columns;
  parity = parity ∙ fits.parity;
  stripes = stripes ∙ fits.stripes;
  relays = refl;
}

-- ONE ENTRY

-- the column that is in the way is one of the group
stuck_within : (t : Table) (s c o : ℕ) → stuck_by t s c ≡ Some o → o < width t
stuck_within t s c o e = by ((t.parity == 2) && is_some (first t s is_broken)) (nat_le t.parity (count_beside t s c is_unsound)) e
  where
    by : (b d : Bool) → cond b (first t s is_broken) (cond d (first_beside t s c is_unsound) None) ≡ Some o → o < width t
    by true d q = (least_some (width t) (λ k. is_broken (slot_at t s k)) o q).0
    by false true q = (least_some (width t) (λ k. not (k == c) && is_unsound (slot_at t s k)) o q).0
    by false false q = absurd (cc q)

-- what the entry brings has the number of an archive
abbrev pub IsLow : List ℕ → Type 0
IsLow numbers = (n : ℕ) → Contains numbers n → n ≤ 511

module _ (rack : Rack) (t : Table) (is : IsTable t) (columns : t.data_columns ≡ rack.columns) (parity : t.parity ≡ rack.parity) (stripes : t.stripes ≡ rack.stripes) where
  wide : width t ≡ rack.columns + rack.parity
  wide = omega (arith, columns, parity)

  at : (s c : ℕ) → s < t.stripes → c < width t → IsSpotOf rack s c
  at s c ls lc = (subst (λ n. s < n) stripes ls, subst (λ n. c < n) wide lc)

  beside : (c : ℕ) → c < width t → c < rack.columns + rack.parity
  beside c lc = subst (λ n. c < n) wide lc

  here : (to : ℕ) → IsLow (to ∷ []) → to ≤ 511
  here to low = low to (0, omega arith, refl)

  entry_fits : (e : Entry) → Legal t e → IsWholeEntry e → IsLow (arrival e) → FitsEntry rack e
  entry_fits (entry.Put job s c d p kept) (one, put) whole low =
      (whole.0, (at s c put.0.1 (let l = put_column t s c is put in let w = is.size.parity.0 in omega (arith, l, w)), whole.1))
  entry_fits (entry.Skip job s) legal whole low = (whole, subst (λ n. s < n) stripes legal.0.1)
  entry_fits (entry.Seen job s c) legal whole low = (whole, at s c legal.0.0 legal.0.1)
  entry_fits (entry.Gone job s c) legal whole low = (whole, at s c legal.0 legal.1)
  entry_fits (entry.Broke job s c) legal whole low = (whole, at s c legal.1.0 legal.1.1)
  entry_fits (entry.Fault job s c) legal whole low = (whole, at s c legal.0 legal.1)
  entry_fits (entry.Begin job s c) legal whole low = (whole, at s c legal.0.0 legal.0.1)
  entry_fits (entry.Hop job s c) legal whole low = (whole, at s c legal.0.0 legal.0.1)
  entry_fits (entry.Mended job s c) legal whole low = (whole, at s c legal.0.0 legal.0.1)
  entry_fits (entry.GaveUp job s c other) legal whole low = (whole, (at s c legal.0.0 legal.0.1, beside other (gave_up_range t s c other legal).1))
  entry_fits (entry.Oddly job s c found) legal whole low = (whole.0, (at s c legal.0.0 legal.0.1, whole.1))
  entry_fits (entry.Stuck job s c other) (range, unsound, none, by) whole low = (whole, (at s c range.0 range.1, beside other (stuck_within t s c other by)))
  entry_fits (entry.MoveBegin job c to) legal whole low = (whole, (beside c legal.0.0, here to low))
  entry_fits (entry.Moved job s c copied) (moves, within, copies) whole low = (whole, at s c within moves.0)
  entry_fits (entry.MoveEnd job c) legal whole low = (whole, beside c legal.0)
  entry_fits (entry.Swapped job c to) legal whole low = (whole, (beside c legal.0, here to low))
  entry_fits (entry.Counted job) legal whole low = whole
  entry_fits (entry.Put2 job s c d p q kept kept2) (two, put) whole low =
      (whole.0, (at s c put.0.1 (let l = put_column t s c is put in let w = is.size.parity.0 in omega (arith, l, w)), whole.1))

-- A LOG

pub entries_fit : (rack : Rack) (t : Table) (log : List Entry) (u : Table) → IsTable t → t.data_columns ≡ rack.columns → t.parity ≡ rack.parity → t.stripes ≡ rack.stripes
    → Replays t log u → All IsWholeEntry log → IsLow (arrivals log) → All (FitsEntry rack) log
entries_fit rack t [] u is columns parity stripes replays whole low = All-nil (FitsEntry rack)
entries_fit rack t (e ∷ log) u is columns parity stripes (legal, rest) whole low =
    let sizes = sizes_stay t e in
    All-cons (FitsEntry rack) e log
    (entry_fits rack t is columns parity stripes e legal (All-head IsWholeEntry e log whole) (λ n has. low n (Contains-append_left (arrival e) (arrivals log) n has)))
    (entries_fit rack (after t e) log u (after_keeps t e is legal) (sizes.0 ∙ columns) (sizes.1 ∙ parity) (sizes.2 ∙ stripes) rest (All-tail IsWholeEntry e log whole)
    (λ n has. low n (Contains-append_right (arrival e) (arrivals log) n has)))
