-- Names in order, and searches by them.
use Rattle.std.proofs.Common.{◌≡◌, ◌+◌, ◌<◌, ℕ, List, length, get_or, map, Result, Ok, Err, sym, ap, subst, ◌∙◌, arith}
use Rattle.std.specs.Prelude.{MatchResult}
use Rattle.std.specs.Cmp.Lexicographic.{slice_cmp}
use Rattle.std.specs.List.Sorted.{IsSortedBy, IsBinarySearchResult, IsSearchInRange}
use Rattle.std.specs.FinMap.{slice_cmp-IsAntisymmetric, nat_cmp-IsAntisymmetric}
use Rattle.std.specs.Ordering.{nat_cmp, is_lt, ordering_reverse}
use Rattle.std.specs.declared.cmp.Ordering.TheVariants.{Less, Equal}
use Rattle.std.proofs.lemmas.Cmp.{nat_list_cmp_total}
use Rattle.std.proofs.lemmas.List.{get_or-map, length-map}
use Rattle.std.proofs.lemmas.List.Sorted.{searchable_from_sorted}
use Rattle.std.proofs.lemmas.Map.Keys.{Less-from_sorted}
use Rattle.pot_index.specs.declared.record.Record.{Record}
use Rattle.pot_index.specs.Index.{NamesAscend}
use Rattle.pot_index.specs.Searches.{RecordStandsAt, BelongsAt}

name_of : Record → List ℕ
name_of r = r.name

-- records at two places have names in order
pub less_at : (rs : List Record) (i j : ℕ) (d : Record) → NamesAscend rs → i < j → j < length rs → slice_cmp nat_cmp (get_or rs i d).name (get_or rs j d).name ≡ Less
less_at rs i j d up lt within =
    let at_i : get_or (map (λ r. r.name) rs) i d.name ≡ (get_or rs i d).name = get_or-map (λ r. r.name) rs i d d.name (omega arith) in
    let at_j : get_or (map (λ r. r.name) rs) j d.name ≡ (get_or rs j d).name = get_or-map (λ r. r.name) rs j d d.name within in
    let less = Less-from_sorted (slice_cmp nat_cmp) (map (λ r. r.name) rs) i j d.name up lt (subst (λ n. j < n) (sym (length-map rs (λ r. r.name))) within) in
    subst (λ n. slice_cmp nat_cmp n (get_or rs j d).name ≡ Less) at_i (subst (λ n. slice_cmp nat_cmp (get_or (map (λ r. r.name) rs) i d.name) n ≡ Less) at_j less)

pub sorted_by_names : (rs : List Record) → NamesAscend rs → IsSortedBy (λ a b. is_lt (slice_cmp nat_cmp a.name b.name)) rs
sorted_by_names rs up k d low lt =
    ap is_lt (nat_list_cmp_total.antisymm (get_or rs (k + 1) d).name (get_or rs k d).name ∙ ap ordering_reverse (less_at rs k (k + 1) d up (omega arith) lt))

pub same_from_equal : (a b : List ℕ) → slice_cmp nat_cmp a b ≡ Equal → a ≡ b
same_from_equal a b h = slice_cmp-IsAntisymmetric nat_cmp-IsAntisymmetric a b h

pub found_place : (rs : List Record) (name : List ℕ) (r : Result ℕ ℕ) → NamesAscend rs → IsSearchInRange r (length rs) → IsBinarySearchResult (λ x. slice_cmp nat_cmp x.name name) rs r
    → MatchResult r (RecordStandsAt rs name) (BelongsAt rs name)
found_place rs name (Ok at) up range h = (range, λ d. same_from_equal (get_or rs at d).name name (h d))
found_place rs name (Err at) up range h =
    let parts = h (searchable_from_sorted nat_list_cmp_total (λ r. r.name) rs name (sorted_by_names rs up)) in
    record { within = range; before = parts.0; behind = parts.1 }
