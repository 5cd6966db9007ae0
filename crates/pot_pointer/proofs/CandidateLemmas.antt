-- Which entries a filtered table has.
use Rattle.std.proofs.Common.{◌≡◌, ℕ, ◌+◌, ◌<◌, ◌↔◌, List, filter, length, Some, ap, sym, ◌∙◌, arith, IsPermutation}
use Rattle.std.specs.Prelude.{Contains, slice_get}
use Rattle.std.proofs.lemmas.Bool.{eqb-true, eq-eqb}
use Rattle.std.proofs.lemmas.List.Sorted.{IsPermutation-sym, Contains-permutation}
use Rattle.std.proofs.lemmas.Option.{slice_get-get_or, slice_get_within, get_or_from_slice_get}
use Rattle.pot_pointer.specs.declared.Named.{Named}
use Rattle.pot_pointer.specs.Pointers.{blur, named_at, named, is_meant, IsCandidate}
use Rattle.pot_pointer.proofs.FilterLemmas.{Contains-filter}
use Rattle.pot_pointer.proofs.TableLemmas.{entry_at, length-named}

-- an entry is among the named names exactly where its name stands at its position
Contains-named : (names : List ℕ) (entry : Named) → Contains (named names) entry ↔ (slice_get names entry.position ≡ Some entry.name)
Contains-named names entry = (
  λ there.
      let within : there.0 < length names = omega (arith, there.1, length-named names) in
      let is = sym (entry_at names 0 there.0 entry within) ∙ there.2 in
      let position : entry.position ≡ there.0 = omega (arith, ap (λ (e : Named). e.position) is) in
      ap (slice_get names) position ∙ slice_get-get_or names there.0 0 within ∙ ap (λ (e : Named). Some e.name) is,
  λ stands.
      let within = slice_get_within names entry.position entry.name stands in
      let name = get_or_from_slice_get names entry.position entry.name 0 stands in
      let position : 0 + entry.position ≡ entry.position = omega arith in (
        entry.position,
        omega (arith, within, length-named names),
        entry_at names 0 entry.position entry within
            ∙ ap (λ n. named_at (0 + entry.position, n)) name ∙ ap (λ p. named_at (p, entry.name)) position,
      ),
)

-- an entry is among the candidates exactly where its name stands at its position and has the
-- pointer as its blur
pub Contains-candidates : (names : List ℕ) (pointer bits : ℕ) (found : List Named)
    → IsPermutation (filter (is_meant pointer bits) (named names)) found
    → (entry : Named) → Contains found entry ↔ IsCandidate names pointer bits entry
Contains-candidates names pointer bits found same entry =
    let meant = filter (is_meant pointer bits) (named names) in
    let kept = Contains-filter (is_meant pointer bits) (named names) entry in
    let stands = Contains-named names entry in (
      λ there.
          let both = kept.0 (Contains-permutation found meant entry (IsPermutation-sym meant found same) there) in
          (stands.0 both.0, eqb-true (blur entry.name bits) pointer both.1),
      λ candidate.
          Contains-permutation meant found entry same
          (kept.1 (stands.1 candidate.0, eq-eqb (blur entry.name bits) pointer candidate.1)),
    )
