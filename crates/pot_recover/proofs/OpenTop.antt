-- From the shards that are held to the objects that open chains give.
use Rattle.std.proofs.Common.{◌≡◌, ◌↔◌, inl, inr, ℕ, ◌≤◌, List, [], ◌∷◌, refl, subst, sym, arith, ◌+◌, ◌-◌}
use Rattle.std.specs.Prelude.{AllPairs, ⊤}
use Rattle.pot_chains.specs.Listed.{IsIn, AreAbove}
use Rattle.pot_chains.proofs.ListedLemmas.{listed_same}
use Rattle.pot_shard.specs.declared.shard.Shard.{Shard}
use Rattle.pot_recover.specs.Choices.{AreContents}
use Rattle.pot_recover.specs.Counts.{IsCounted, IsCountedTo}
use Rattle.pot_recover.specs.Held.{IsHeld}
use Rattle.pot_recover.specs.Open.{IsOpenChain, IsOpenFragmentIn, AreOpenlyRecovered, IsOpenlyTooWide, IsOpenlyWithin}
use Rattle.pot_recover.specs.OpenScopes.{IsOpenChainIn, HasSearchedOpen}
use Rattle.pot_recover.specs.Recovered.{IsChoice, IsRecovered, IsBytesBefore}
use Rattle.pot_recover.specs.Wide.{AreFew, AreTooWide}
use Rattle.pot_recover.specs.declared.top.RecoverFault.{RecoverFault}
use Rattle.pot_recover.specs.declared.top.RecoverFault.TheVariants.{Wide, NoMemory}
use Rattle.pot_recover.proofs.RingLemmas.{all_weaker}
use Rattle.pot_recover.proofs.TopLemmas.{choice_same, recovered_same, counted_same}

chain_weaker : (P Q : Shard → Type 0) → ((s : Shard) → P s → Q s) → (c : List Shard) → IsOpenChain P c → IsOpenChain Q c
chain_weaker P Q f [] h = h
chain_weaker P Q f (s ∷ rest) h = (all_weaker P Q f (s ∷ rest) h.0, h.1, h.2)

module _ (blocks : List (List ℕ)) (bits : ℕ) (shards : List Shard) (same : (s : Shard) → IsIn shards s ↔ IsHeld blocks bits s) where
  abbrev All : Shard → Type 0
  All s = ⊤

  to_chain : (c : List Shard) → IsOpenChainIn shards All c → IsOpenChain (IsHeld blocks bits) c
  to_chain [] h = h
  to_chain (s ∷ rest) h = chain_weaker (IsIn shards) (IsHeld blocks bits) (λ t i. (same t).0 i) (s ∷ rest) h.0

  from_chain : (c : List Shard) → IsOpenChain (IsHeld blocks bits) c → IsOpenChainIn shards All c
  from_chain [] h = h
  from_chain (s ∷ rest) h = (chain_weaker (IsHeld blocks bits) (IsIn shards) (λ t i. (same t).1 i) (s ∷ rest) h, tt)

  -- the chains are counted
  pub chains_counted : (most first count : ℕ) (found : List (List ℕ)) → HasSearchedOpen shards All first count [] found → first + most ≡ 4000000 → count ≤ 4000000 → IsCountedTo most (IsOpenChain (IsHeld blocks bits)) (count - first)
  chains_counted most first count found searched sum few = inl (
    (
      searched.chains.0,
      listed_same (IsOpenChainIn shards All) (IsOpenChain (IsHeld blocks bits)) searched.chains.0 (λ c. (to_chain c, from_chain c)) searched.chains.1,
      omega (arith, searched.chains.2),
    ),
    omega (arith, sum, few),
  )

  pub chains_wide : (most first : ℕ) → first + most ≡ 4000000 → AreAbove (IsOpenChainIn shards All) 4000000 first → IsCountedTo most (IsOpenChain (IsHeld blocks bits)) (most + 1)
  chains_wide most first sum above = inr ((above.0, above.1, λ c h. to_chain c (above.2 c h), omega (arith, sum, above.3)), refl)

  -- what was found is what open chains give
  pub found_open : (first count : ℕ) (found : List (List ℕ)) → HasSearchedOpen shards All first count [] found → (c : List ℕ) → IsIn found c ↔ IsOpenFragmentIn blocks bits c
  found_open first count found searched c = (
    λ h. elim ((searched.found c).0 h) [
      | inl none ↦ absurd none
      | inr w ↦ (w.0, to_chain w.0 w.1, w.2, w.3)
    ],
    λ h. (searched.found c).1 (inr (h.0, from_chain h.0 h.1, h.2, h.3)),
  )

-- open fragments are in the grammar
pub open_grammar : (blocks : List (List ℕ)) (bits : ℕ) (contents : List (List ℕ)) → ((c : List ℕ) → IsIn contents c ↔ IsOpenFragmentIn blocks bits c) → AreContents contents
open_grammar blocks bits contents is c h = ((is c).0 h).3.grammar

module _ (blocks : List (List ℕ)) (bits : ℕ) (contents : List (List ℕ)) (same : (c : List ℕ) → IsIn contents c ↔ IsOpenFragmentIn blocks bits c) where
  -- the objects are those of the blocks
  pub are_recovered : (objects : List (List ℕ)) → ((o : List ℕ) → IsIn objects o ↔ IsRecovered (IsIn contents) o) → AllPairs IsBytesBefore objects → AreOpenlyRecovered blocks bits objects
  are_recovered objects each order = record {
    each = λ o.
        let r = recovered_same (IsIn contents) (IsOpenFragmentIn blocks bits) same o in
        (λ h. r.0 ((each o).0 h), λ h. (each o).1 (r.1 h));
    order = order;
  }

  choices_same : (n : ℕ) → IsCounted (IsChoice (IsIn contents)) n → IsCounted (IsChoice (IsOpenFragmentIn blocks bits)) n
  choices_same n = counted_same (IsChoice (IsIn contents)) (IsChoice (IsOpenFragmentIn blocks bits)) n (choice_same (IsIn contents) (IsOpenFragmentIn blocks bits) same)

  pub are_within : (most chains : ℕ) → IsCountedTo most (IsOpenChain (IsHeld blocks bits)) chains → chains ≤ most → AreFew (IsIn contents) → IsOpenlyWithin most blocks bits
  are_within most chains counted few (choices, number, borne) = (chains, choices, counted, choices_same choices number, few, borne)

  pub are_too_wide : (most chains : ℕ) (fault : RecoverFault) → IsCountedTo most (IsOpenChain (IsHeld blocks bits)) chains → chains ≤ most → AreTooWide (IsIn contents) chains fault → IsOpenlyTooWide most blocks bits fault
  are_too_wide most chains (Wide c k) counted few (is, number, wide) =
      (subst (IsCountedTo most (IsOpenChain (IsHeld blocks bits))) (sym is) counted, inr (omega (arith, is, few), choices_same k number, wide))
  are_too_wide most chains NoMemory counted few h = tt
