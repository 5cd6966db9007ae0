-- The lines of one rack in a catalog.
use Rattle.std.proofs.Common.{◌≡◌, ℕ, zero, suc, ◌+◌, ◌-◌, ◌<◌, ◌≤◌, Bool, true, false, List, [], ◌∷◌, ◌++◌, length, get_or, take, drop, sym, ap, ◌∙◌, add-one, arith}
use Rattle.std.specs.Prelude.{All}
use Rattle.std.proofs.Math.Seq.{take-length, drop-cons}
use Rattle.std.proofs.lemmas.Bool.{eqb-true}
use Rattle.std.proofs.lemmas.List.{get_or-take, length-drop, length-take-le, take-append-drop}
use Rattle.pots_racks.specs.declared.catalog.RackDesk.{RackDesk}
use Rattle.pots_racks.specs.declared.catalog.Line.{Line}
use Rattle.pots_racks.specs.declared.catalog.Line.TheVariants.{OfRack}
use Rattle.pots_racks.specs.Catalog.{BeginsWithNoFile, IsCount, IsPlaceOf, IsSection, is_file, is_of}

rest_is : (lines : List Line) (n : ℕ) → take (length lines - n) (drop n lines) ≡ drop n lines
rest_is lines n = ap (λ (k : ℕ). take k (drop n lines)) (sym (length-drop n lines)) ∙ take-length (drop n lines)

-- what holds at each place before one holds of all that is taken up to it
all_taken : (test : Line → Bool) (answer : Bool) (lines : List Line) (n : ℕ) → n ≤ length lines → ((j : ℕ) (d : Line) → j < n → test (get_or lines j d) ≡ answer) → All (λ l. test l ≡ answer) (take n lines)
all_taken test answer lines n within each k d lt =
    let less : k < n = omega (arith, lt, length-take-le n lines within) in
    ap test (get_or-take n lines k d less) ∙ each k d less

next_is : (lines : List Line) (n : ℕ) → ((d : Line) → n < length lines → is_file (get_or lines n d) ≡ false) → BeginsWithNoFile (drop n lines)
next_is [] zero next = tt
next_is [] (suc n) next = tt
next_is (l ∷ lines) zero next = next l (omega arith)
next_is (l ∷ lines) (suc n) next = next_is lines n (λ d lt. next d (omega (arith, lt)))

section_at : (lines behind : List Line) (rack at count : ℕ) (desk : RackDesk) (d : Line) → behind ≡ drop (at + 1) lines → IsPlaceOf lines rack at → get_or lines at d ≡ OfRack desk → IsCount behind count → IsSection lines rack desk (take count behind)
section_at lines behind rack at count desk d rest place own files = record {
  front = take at lines;
  back = drop count behind;
  whole =
      sym (take-append-drop at lines)
      ∙ ap (λ (l : List Line). take at lines ++ l) (drop-cons lines at d place.within)
      ∙ ap (λ (l : Line). take at lines ++ l ∷ drop (suc at) lines) own
      ∙ ap (λ (l : List Line). take at lines ++ OfRack desk ∷ l) (ap (λ (n : ℕ). drop n lines) (sym (add-one at)) ∙ sym rest ∙ sym (take-append-drop count behind));
  own = eqb-true desk.rack rack (sym (ap (is_of rack) own) ∙ place.is d);
  before = all_taken (is_of rack) false lines at (omega (arith, place.within)) place.before;
  each = all_taken is_file true behind count files.within files.each;
  next = next_is behind count files.next;
}

pub section : (lines : List Line) (rack at count : ℕ) (desk : RackDesk) (d : Line) → IsPlaceOf lines rack at → get_or lines at d ≡ OfRack desk → IsCount (take (length lines - (at + 1)) (drop (at + 1) lines)) count → IsSection lines rack desk (take count (take (length lines - (at + 1)) (drop (at + 1) lines)))
section lines rack at count desk d place own files =
    section_at lines (take (length lines - (at + 1)) (drop (at + 1) lines)) rack at count desk d (rest_is lines (at + 1)) place own files
