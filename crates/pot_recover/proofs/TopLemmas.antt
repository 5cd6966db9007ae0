-- From the shards that are held to the objects that are recovered.
use Rattle.std.proofs.Common.{◌≡◌, ◌↔◌, inl, inr, ℕ, ◌≤◌, min, List, [], ◌∷◌, map, length, get_or, refl, sym, ◌∙◌, subst, arith, Ok, Err, ◌+◌, ◌-◌}
use Rattle.std.specs.Prelude.{AllPairs, IfOk, Result, ⊤}
use Rattle.std.specs.List.{flat_map}
use Rattle.std.proofs.Math.Nat.{min-eq_left, min-eq_right}
use Rattle.std.proofs.lemmas.Bool.{cases_lt}
use Rattle.pot_chains.specs.Listed.{IsIn, IsOnce, AreAbove}
use Rattle.pot_chains.proofs.ListedLemmas.{listed_same, from_map}
use Rattle.pot_bytes.specs.Lists.{AreBytes}
use Rattle.pot_shard.specs.declared.shard.Shard.{Shard}
use Rattle.pot_recover.specs.Choices.{AreContents, choices_of}
use Rattle.pot_recover.specs.Counts.{IsCounted}
use Rattle.pot_recover.specs.Groups.{IsHoldable}
use Rattle.pot_recover.specs.Held.{IsHeld}
use Rattle.pot_recover.specs.HeldShards.{shard_of, HaveBytes}
use Rattle.pot_recover.specs.Recovered.{IsChoice, IsRecovered, IsClosedIn, IsBytesBefore, AreRecovered}
use Rattle.pot_recover.specs.Rings.{IsShardChain, IsFragmentClosed}
use Rattle.pot_recover.specs.Scopes.{IsChainIn, IsFoundIn, HasSearched}
use Rattle.pot_recover.specs.Sets.{IsContentFound}
use Rattle.pot_recover.specs.Wide.{IsChainCount, IsChoiceCount, IsTooWide, IsWithin, AreFew, AreTooWide}
use Rattle.pot_recover.specs.declared.top.RecoverFault.{RecoverFault}
use Rattle.pot_recover.specs.declared.top.RecoverFault.TheVariants.{Wide, NoMemory}
use Rattle.pot_recover.specs.declared.held.Held.{Held}
use Rattle.pot_recover.proofs.ChoiceLemmas.{choices_listed}
use Rattle.pot_recover.proofs.RingLemmas.{all_weaker, to_closed, from_closed}

-- held shards may be held
pub held_holdable : (blocks : List (List ℕ)) (bits : ℕ) (held : List Held) → ((s : Shard) → IsIn (map (shard_of bits) held) s ↔ IsHeld blocks bits s) → HaveBytes held
    → (s : Shard) → IsIn (map (shard_of bits) held) s → IsHoldable s
held_holdable blocks bits held same have s h =
    let r = from_map (shard_of bits) held s h in
    let is = ((same s).0 h).2 in
    record { shard = is.shard; bytes = subst (λ (t : Shard). AreBytes t.share) r.2 (have r.0 r.1); whole = is.widths.share }

chain_weaker : (P Q : Shard → Type 0) → ((s : Shard) → P s → Q s) → (c : List Shard) → IsShardChain P c → IsShardChain Q c
chain_weaker P Q f [] h = h
chain_weaker P Q f (s ∷ rest) h = (h.0, all_weaker P Q f (s ∷ rest) h.1, h.2, h.3)

closed_weaker : (P Q : Shard → Type 0) → ((s : Shard) → P s → Q s) → (c : List ℕ) → IsFragmentClosed P c → IsFragmentClosed Q c
closed_weaker P Q f c (ring, all, is, closes) = (ring, all_weaker P Q f ring all, is, closes)

module _ (blocks : List (List ℕ)) (bits : ℕ) (shards : List Shard) (same : (s : Shard) → IsIn shards s ↔ IsHeld blocks bits s)
    (holdable : (s : Shard) → IsIn shards s → IsHoldable s) where
  abbrev All : ℕ → ℕ → Type 0
  All m n = ⊤

  to_chain : (c : List Shard) → IsChainIn shards All c → IsShardChain (IsHeld blocks bits) c
  to_chain [] h = h
  to_chain (s ∷ rest) h = chain_weaker (IsIn shards) (IsHeld blocks bits) (λ t i. (same t).0 i) (s ∷ rest) h.0

  from_chain : (c : List Shard) → IsShardChain (IsHeld blocks bits) c → IsChainIn shards All c
  from_chain [] h = h
  from_chain (s ∷ rest) h = (chain_weaker (IsHeld blocks bits) (IsIn shards) (λ t i. (same t).1 i) (s ∷ rest) h, tt)

  -- the chains are counted
  pub chains_counted : (most first count : ℕ) (found : List (List ℕ)) → HasSearched shards All first count [] found → first + most ≡ 4000000 → count ≤ 4000000 → IsChainCount most blocks bits (count - first)
  chains_counted most first count found searched sum few = inl (
    (
      searched.chains.0,
      listed_same (IsChainIn shards All) (IsShardChain (IsHeld blocks bits)) searched.chains.0 (λ c. (to_chain c, from_chain c)) searched.chains.1,
      omega (arith, searched.chains.2),
    ),
    omega (arith, sum, few),
  )

  pub chains_wide : (most first : ℕ) → first + most ≡ 4000000 → AreAbove (IsChainIn shards All) 4000000 first → IsChainCount most blocks bits (most + 1)
  chains_wide most first sum above = inr ((above.0, above.1, λ c h. to_chain c (above.2 c h), omega (arith, sum, above.3)), refl)

  -- what was found is what is closed
  pub found_closed : (first count : ℕ) (found : List (List ℕ)) → HasSearched shards All first count [] found → (c : List ℕ) → IsIn found c ↔ IsClosedIn blocks bits c
  found_closed first count found searched c =
      let is_shard = λ (t : Shard) (h : IsIn shards t). (holdable t h).shard in
      let bytes = λ (t : Shard) (h : IsIn shards t). (holdable t h).bytes in (
        λ h. elim ((searched.found c).0 h) [
          | inl none ↦ absurd none
          | inr w ↦ closed_weaker (IsIn shards) (IsHeld blocks bits) (λ t i. (same t).0 i) c (to_closed (IsIn shards) is_shard bytes c (as_found w))
        ],
        λ h.
            let w = from_closed (IsIn shards) is_shard bytes c (closed_weaker (IsHeld blocks bits) (IsIn shards) (λ t i. (same t).1 i) c h) in
            (searched.found c).1 (inr (w.0, chain_in w.0 w.1, w.2, w.3)),
      )
    where
      as_found : IsFoundIn shards All c → IsContentFound (IsIn shards) c
      as_found (chain, is, long, closes) = (chain, chain_of chain is, long, closes)
        where
          chain_of : (x : List Shard) → IsChainIn shards All x → IsShardChain (IsIn shards) x
          chain_of [] h = h
          chain_of (s ∷ rest) h = h.0

      chain_in : (x : List Shard) → IsShardChain (IsIn shards) x → IsChainIn shards All x
      chain_in [] h = h
      chain_in (s ∷ rest) h = (h, tt)

-- closed fragments are in the grammar
pub closed_contents : (blocks : List (List ℕ)) (bits : ℕ) (contents : List (List ℕ)) → ((c : List ℕ) → IsIn contents c ↔ IsClosedIn blocks bits c) → AreContents contents
closed_contents blocks bits contents is c h = ((is c).0 h).3.grammar

pub choice_weaker : (P Q : List ℕ → Type 0) → ((c : List ℕ) → P c → Q c) → (choice : List (List ℕ)) → IsChoice P choice → IsChoice Q choice
choice_weaker P Q f choice is =
    record { id = is.id; some = is.some; each = λ i less. (f (get_or choice i []) (is.each i less).0, (is.each i less).1) }

-- choices of the same contents are the same
pub choice_same : (P Q : List ℕ → Type 0) → ((c : List ℕ) → P c ↔ Q c) → (choice : List (List ℕ)) → IsChoice P choice ↔ IsChoice Q choice
choice_same P Q same choice = (choice_weaker P Q (λ c. (same c).0) choice, choice_weaker Q P (λ c. (same c).1) choice)

pub recovered_same : (P Q : List ℕ → Type 0) → ((c : List ℕ) → P c ↔ Q c) → (o : List ℕ) → IsRecovered P o ↔ IsRecovered Q o
recovered_same P Q same o = (
  λ h. (h.0, (h.1.0, (choice_same P Q same h.1.0).0 h.1.1, h.1.2)),
  λ h. (h.0, (h.1.0, (choice_same P Q same h.1.0).1 h.1.1, h.1.2)),
)

-- the choices are counted
pub choices_counted : (contents : List (List ℕ)) (closed : List ℕ → Type 0) (count : ℕ) → AreContents contents → IsOnce contents → ((c : List ℕ) → IsIn contents c ↔ closed c)
    → count ≡ min (length (flat_map (choices_of contents) contents)) 4000001 → IsCounted (IsChoice closed) count
choices_counted contents closed count all once same is =
    let choices = flat_map (choices_of contents) contents in
    let listed = listed_same (IsChoice (IsIn contents)) (IsChoice closed) choices (choice_same (IsIn contents) closed same) (choices_listed contents all once) in
    elim (cases_lt 4000000 (length choices)) [
      | inl wide ↦ inr ((choices, listed.once, λ c h. (listed.each c).0 h, wide), is ∙ min-eq_right (omega (arith, wide)))
      | inr few ↦
          let exact : count ≡ length choices = is ∙ min-eq_left (omega (arith, few)) in
          inl ((choices, listed, sym exact), omega (arith, exact, few))
    ]

-- choices that were counted to no more than the limit
pub choices_within : (contents : List (List ℕ)) (count : ℕ) → count ≤ 4000000 → count ≡ min (length (flat_map (choices_of contents) contents)) 4000001
    → length (flat_map (choices_of contents) contents) ≤ 4000000
choices_within contents count few is =
    elim (cases_lt 4000000 (length (flat_map (choices_of contents) contents))) [
      | inl wide ↦ absurd (omega (arith, few, is ∙ min-eq_right (let w : 4000001 ≤ length (flat_map (choices_of contents) contents) = omega (arith, wide) in w)))
      | inr le ↦ le
    ]

-- contents that were sorted are contents
pub sorted_contents : (old new : List (List ℕ)) → ((c : List ℕ) → IsIn new c ↔ IsIn old c) → AreContents old → AreContents new
sorted_contents old new same all c h = all c ((same c).0 h)

pub if_ok_both : {T E : Type 0} (r : Result T E) (P Q R : T → Type 0) → ((x : T) → P x → Q x → R x) → IfOk r P → IfOk r Q → IfOk r R
if_ok_both (Ok x) P Q R f p q = f x p q
if_ok_both (Err e) P Q R f p q = tt

-- what is counted of the same is the same
pub counted_same : {X : Type 0} (P Q : X → Type 0) (n : ℕ) → ((x : X) → P x ↔ Q x) → IsCounted P n → IsCounted Q n
counted_same P Q n same (inl (number, few)) = inl ((number.0, listed_same P Q number.0 same number.1, number.2), few)
counted_same P Q n same (inr (many, is)) = inr ((many.0, many.1, λ x h. (same x).0 (many.2 x h), many.3), is)

module _ (blocks : List (List ℕ)) (bits : ℕ) (contents : List (List ℕ)) (same : (c : List ℕ) → IsIn contents c ↔ IsClosedIn blocks bits c) where
  -- the objects are those of the blocks
  pub are_recovered : (objects : List (List ℕ)) → ((o : List ℕ) → IsIn objects o ↔ IsRecovered (IsIn contents) o) → AllPairs IsBytesBefore objects → AreRecovered blocks bits objects
  are_recovered objects each order = record {
    each = λ o.
        let r = recovered_same (IsIn contents) (IsClosedIn blocks bits) same o in
        (λ h. r.0 ((each o).0 h), λ h. (each o).1 (r.1 h));
    order = order;
  }

  choices_same : (n : ℕ) → IsCounted (IsChoice (IsIn contents)) n → IsChoiceCount blocks bits n
  choices_same n = counted_same (IsChoice (IsIn contents)) (IsChoice (IsClosedIn blocks bits)) n (choice_same (IsIn contents) (IsClosedIn blocks bits) same)

  pub are_within : (most chains : ℕ) → IsChainCount most blocks bits chains → chains ≤ most → AreFew (IsIn contents) → IsWithin most blocks bits
  are_within most chains counted few (choices, number, borne) = (chains, choices, counted, choices_same choices number, few, borne)

  pub are_too_wide : (most chains : ℕ) (fault : RecoverFault) → IsChainCount most blocks bits chains → chains ≤ most → AreTooWide (IsIn contents) chains fault → IsTooWide most blocks bits fault
  are_too_wide most chains (Wide c k) counted few (is, number, wide) =
      (subst (IsChainCount most blocks bits) (sym is) counted, inr (omega (arith, is, few), choices_same k number, wide))
  are_too_wide most chains NoMemory counted few h = tt

-- choices of a sorted list of contents
pub choices_of_sorted : (old new : List (List ℕ)) (count : ℕ) → AreContents new → IsOnce new → ((c : List ℕ) → IsIn new c ↔ IsIn old c)
    → count ≡ min (length (flat_map (choices_of new) new)) 4000001 → IsCounted (IsChoice (IsIn old)) count
choices_of_sorted old new count all once same is = choices_counted new (IsIn old) count all once same is
