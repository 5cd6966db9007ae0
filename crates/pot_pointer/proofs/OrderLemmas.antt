-- A table in order, searched for the names of a pointer.
use Rattle.std.proofs.Common.{◌≡◌, ℕ, ◌≤◌, inl, inr, List, get_or, arith, eqb, nat_cmp}
use Rattle.std.specs.Prelude.{AllPairs}
use Rattle.std.specs.Ordering.{is_eq, ordering_index}
use Rattle.std.specs.List.Sorted.{IsNonDecreasingBy}
use Rattle.std.proofs.lemmas.Bool.{cases_lt}
use Rattle.std.proofs.lemmas.Bool.Decides.{nat_tests}
use Rattle.pot_pointer.specs.declared.Named.{Named}
use Rattle.pot_pointer.specs.Pointers.{blur, IsBefore}
use Rattle.pot_pointer.proofs.BlurLemmas.{blur_rises}

names_rise : (a b : Named) → IsBefore a b → a.name ≤ b.name
names_rise a b before = elim before [ inl less ↦ omega arith | inr same ↦ omega arith ]

compares_rise : (a b pointer : ℕ) → a ≤ b → ordering_index (nat_cmp a pointer) ≤ ordering_index (nat_cmp b pointer)
compares_rise a b pointer le = grind (arith, nat_tests)

-- what the blurs of a table in order compare as rises along it
pub blurs_rise : (table : List Named) (pointer bits : ℕ) → AllPairs IsBefore table
    → IsNonDecreasingBy (λ entry. ordering_index (nat_cmp (blur entry.name bits) pointer)) table
blurs_rise table pointer bits order i j d i_le_j within =
    elim (cases_lt i j) [
      | inl i_lt_j ↦ compares_rise _ _ pointer (blur_rises (get_or table i d).name (get_or table j d).name bits (names_rise _ _ (order i j d i_lt_j within)))
      | inr j_le_i ↦ (let same : i ≡ j = omega (arith, i_le_j, j_le_i) in rw same (omega arith))
    ]

pub equal_is_same : (a b : ℕ) → is_eq (nat_cmp a b) ≡ eqb a b
equal_is_same a b = grind (arith, nat_tests)
