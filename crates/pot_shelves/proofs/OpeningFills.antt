-- Whether a stripe that was read has a filling, by the two sums of its blocks. Nothing here knows a
-- table or an archive.
use Rattle.std.proofs.Common.{◌≡◌, ◌≢◌, ◌⊎◌, inl, inr, ◌↔◌, ℕ, zero, suc, ◌+◌, ◌<◌, ◌≤◌, List, Option, Some, None, Bool, true, false, ◌||◌, IsTrue, nat_eq, get_or, bit_xor, refl, sym, ap, ap₂, ◌∙◌, subst, arith, if◌then◌else◌}
use Rattle.std.proofs.lemmas.Bool.Decides.{nat_tests}
use Rattle.std.specs.Int.Bits.{xor_self, xor_zero_l, xor_zero_r}
use Rattle.std.proofs.lemmas.Bool.{cases_eq, eqb-true, eq-eqb, ne_eqb, or_cases, or_left, or_right}
use Rattle.std.proofs.lemmas.Option.{same_Some, none-some}
use Rattle.pot_bytes.specs.declared.digest.Digest.{Digest}
use Rattle.pot_bytes.specs.Lists.{IsBlock}
use Rattle.pot_bytes.specs.Product.{byte_product}
use Rattle.pot_bytes.specs.Sums.{xor, zero_block}
use Rattle.pot_bytes.specs.Totals.{total}
use Rattle.pot_bytes.specs.Weighted.{scaled}
use Rattle.pot_bytes.proofs.ProductLemmas.{byte_product-below, byte_product-zero_left, byte_product-zero_right, byte_product-one_left}
use Rattle.pot_bytes.proofs.TotalLemmas.{total_change, total_zero, xor_cancel}
use Rattle.pot_bytes.proofs.WeightedLemmas.{get_or-xor, get_or-scaled}
use Rattle.pot_bytes.proofs.Basis.{last_or}
use Rattle.pot_machine.specs.declared.slot.SlotState.{SlotState}
use Rattle.pot_machine.specs.declared.slot.SlotState.TheVariants.{Void, Live, Lost, Broken}
use Rattle.pot_machine.specs.Slot.{digest_in, is_live, is_lost}
use Rattle.pot_machine.specs.Table.{count}
use Rattle.pot_machine.proofs.Searches.{count_none}
use Rattle.pot_steps.specs.Equations.{p_weight, q_weight}
use Rattle.pot_steps.specs.Flight.{weight, p_times, q_times}
use Rattle.pot_bytes.specs.Digests.{digest_of}
use Rattle.pot_steps.specs.Stripe.{Stripe, IsSound, Sound, NoneBroken, Filling, HasFilling}
use Rattle.pot_steps.specs.Law.{IsRead, FindsUnsound, FewUnsound}
use Rattle.pot_steps.specs.Decides.{Computed, IsStripeRead, StandsForSlot}
use Rattle.pot_steps.specs.GroupStep.{BreaksStripe, Spared}
use Rattle.pot_steps.proofs.BlockLemmas.{IsBlock-zero_block, IsBlock-xor, IsBlock-scaled, get_or-zero_block, same_blocks}
use Rattle.pot_steps.proofs.Decides.{filling_computed, made, made_filling, read_serves, left_in, left_out_of}
use Rattle.pot_steps.proofs.Rebuilt.{combined}
use Rattle.pot_steps.proofs.Relays.{weight-target, p-low_q, q-low_q}
use Rattle.pot_steps.proofs.Solved.{total-below}
use Rattle.pot_steps.proofs.AheadLemmas.{one_or_two}
use Rattle.pot_shelves.specs.declared.filling.Breaking.{Breaking}
use Rattle.pot_shelves.specs.declared.filling.Breaking.TheVariants as breaking
use Rattle.pot_shelves.specs.declared.filling.Trial.{Trial}
use Rattle.pot_shelves.specs.declared.opening.Shortage.{Shortage}
use Rattle.pot_shelves.specs.declared.opening.Shortage.TheVariants.{Nothing, One, Two, More}
use Rattle.pot_shelves.specs.Opening.{or_zeros, IsWell, IsUnwell, IsAbsent, IsShort, AreSums}
use Rattle.pot_shelves.specs.Filling.{Suits, AddsUp, Decides, IsBroken, residue, partner, parity_slots, side, trial_of, breaks_at}
use Rattle.pot_shelves.proofs.OpeningStripe.{absent_unwell, void_live, void_broken, live_broken, lost_broken}

taken_digest : (x : SlotState) (d : Digest) → (x ≡ Live d) ⊎ (x ≡ Lost d) → digest_in x ≡ Some d
taken_digest x d (inl l) = ap digest_in l
taken_digest x d (inr l) = ap digest_in l

taken_unbroken : (x : SlotState) (d e : Digest) → (x ≡ Live d) ⊎ (x ≡ Lost d) → x ≢ Broken e
taken_unbroken x d e (inl l) b = live_broken (sym l ∙ b)
taken_unbroken x d e (inr l) b = lost_broken (sym l ∙ b)

well_unbroken : (s : Stripe) (c : ℕ) (d : Digest) → IsWell s c → s.slots c ≢ Broken d
well_unbroken s c d (inl v) e = void_broken (sym v ∙ e)
well_unbroken s c d (inr x) e = live_broken (sym x.1.live ∙ e)

well_not_unwell : (s : Stripe) (c : ℕ) → IsWell s c → IsUnwell s c → ⊥
well_not_unwell s c (inl v) u = u.0 v
well_not_unwell s c (inr x) u = u.1 x

-- a block that is zeros, or to which zeros are added
xor_zeros : (x b : List ℕ) → IsBlock x → IsBlock b → x ≡ zero_block → xor x b ≡ b
xor_zeros x b hx hb e = same_blocks (xor x b) b (IsBlock-xor x b hx hb) hb
    (λ k. get_or-xor x b k (hx.size ∙ sym hb.size) ∙ ap (λ z. bit_xor z (get_or b k 0)) (ap (λ y. get_or y k 0) e ∙ get_or-zero_block k) ∙ xor_zero_l (get_or b k 0))

xor_with_zeros : (x b : List ℕ) → IsBlock x → IsBlock b → b ≡ zero_block → xor x b ≡ x
xor_with_zeros x b hx hb e = same_blocks (xor x b) x (IsBlock-xor x b hx hb) hx
    (λ k. get_or-xor x b k (hx.size ∙ sym hb.size) ∙ ap (bit_xor (get_or x k 0)) (ap (λ y. get_or y k 0) e ∙ get_or-zero_block k) ∙ xor_zero_r (get_or x k 0))

zeros_of : (x b : List ℕ) → IsBlock x → IsBlock b → xor x b ≡ b → x ≡ zero_block
zeros_of x b hx hb e = same_blocks x zero_block hx IsBlock-zero_block
    (λ k. sym (xor_cancel (get_or x k 0) (get_or b k 0)) ∙ ap (λ z. bit_xor z (get_or b k 0)) (sym (get_or-xor x b k (hx.size ∙ sym hb.size)) ∙ ap (λ y. get_or y k 0) e)
    ∙ xor_self (get_or b k 0) ∙ sym (get_or-zero_block k))

-- COUNTS OF TESTS

-- a test that is true at one number at most
count_one : (n u : ℕ) → count n (λ c. nat_eq c u) ≤ 1
unfolding count
count_one zero u = omega arith
count_one (suc n) u = elim (cases_eq n u) [
  | inl e ↦ rw (count_none n (λ c. nat_eq c u) (λ c l. (let ne : c ≢ u = omega arith in ne_eqb c u ne)), eq-eqb n u e) (omega arith)
  | inr ne ↦ rw (ne_eqb n u ne) (let ih : count n (λ c. nat_eq c u) ≤ 1 = count_one n u in omega arith)
]

count_either : (n : ℕ) (f g : ℕ → Bool) → count n (λ c. f c || g c) ≤ count n f + count n g
unfolding count
count_either zero f g = omega arith
count_either (suc n) f g = more (f n) (g n) (count_either n f g)
  where
    more : (a b : Bool) → count n (λ c. f c || g c) ≤ count n f + count n g
        → count n (λ c. f c || g c) + (if a || b then 1 else 0) ≤ (count n f + (if a then 1 else 0)) + (count n g + (if b then 1 else 0))
    more true true h = omega arith
    more true false h = omega arith
    more false true h = omega arith
    more false false h = omega arith

count_some : (n : ℕ) (f : ℕ → Bool) (c : ℕ) → c < n → f c ≡ true → 1 ≤ count n f
unfolding count
count_some zero f c lt h = absurd (omega arith)
count_some (suc n) f c lt h = elim (last_or c n lt) [
  | inl e ↦ rw (sym (ap f e) ∙ h) (omega arith)
  | inr l ↦ (let ih : 1 ≤ count n f = count_some n f c l h in omega arith)
]

count_two : (n : ℕ) (f : ℕ → Bool) (c k : ℕ) → c < k → k < n → f c ≡ true → f k ≡ true → 2 ≤ count n f
unfolding count
count_two zero f c k l lt h g = absurd (omega arith)
count_two (suc n) f c k l lt h g = elim (last_or k n lt) [
  | inl e ↦ rw (sym (ap f e) ∙ g) (let one : 1 ≤ count n f = count_some n f c (omega arith) h in omega arith)
  | inr m ↦ (let ih : 2 ≤ count n f = count_two n f c k l m h g in omega arith)
]

count_three : (n : ℕ) (f : ℕ → Bool) (c j k : ℕ) → c < j → j < k → k < n → f c ≡ true → f j ≡ true → f k ≡ true → 3 ≤ count n f
unfolding count
count_three zero f c j k l m lt a b g = absurd (omega arith)
count_three (suc n) f c j k l m lt a b g = elim (last_or k n lt) [
  | inl e ↦ rw (sym (ap f e) ∙ g) (let two : 2 ≤ count n f = count_two n f c j l (omega arith) a b in omega arith)
  | inr x ↦ (let ih : 3 ≤ count n f = count_three n f c j k l m x a b g in omega arith)
]

partner_within : (n u : ℕ) → partner n u ≤ suc n
partner_within n u = grind (arith, nat_tests)

pub partner_other : (n u : ℕ) → partner n u ≢ u
partner_other n u = grind (arith, nat_tests)

-- in ascending order, and within the stripe
abbrev pub IsOrdered : ℕ → ℕ → Breaking → Type 0
IsOrdered data_columns parity breaking.Nothing = Unit {0}
IsOrdered data_columns parity (breaking.One c) = c < data_columns + parity
IsOrdered data_columns parity (breaking.Both c k) = (c < k) × (k < data_columns + parity)

-- THE SUMS OF A STRIPE

abbrev IsSide : Stripe → ℕ → Option Digest → Type 0
IsSide s c None = IsWell s c
IsSide s c (Some d) = IsAbsent s c d

module _ (data_columns parity : ℕ) (small : data_columns ≤ 16) (one : 1 ≤ parity) (few : parity ≤ 2) (s : Stripe) (p q : List ℕ)
    (lives : (c : ℕ) (b : List ℕ) → c < data_columns + parity → s.held c ≡ Some b → s.slots c ≡ Live (digest_of b)) (sums : AreSums data_columns parity (data_columns + parity) s.held p q) where
  abbrev base : ℕ → List ℕ
  base c = or_zeros (s.held c)

  -- a slot without a block gives zeros
  none_read : (c : ℕ) → (o : Option (List ℕ)) → s.held c ≡ o → ((b : List ℕ) → o ≡ Some b → ⊥) → base c ≡ zero_block
  none_read c None e h = ap or_zeros e
  none_read c (Some b) e h = absurd (h b refl)

  well_read : (c : ℕ) → c < data_columns + parity → IsWell s c → IsBlock (base c) × IsRead s c (base c)
  well_read c lt (inl v) = (sums.blocks c lt, inr (v, none_read c (s.held c) refl (λ b e. void_live (sym v ∙ lives c b lt e))))
  well_read c lt (inr x) = (sums.blocks c lt, inl (subst (λ b. IsSound s c b) (sym (ap or_zeros x.1.held)) x.1))

  absent_zero : (c : ℕ) (d : Digest) → c < data_columns + parity → IsAbsent s c d → base c ≡ zero_block
  absent_zero c d lt a = none_read c (s.held c) refl (λ b e. a.1 (b, record { digest = digest_of b; live = lives c b lt e; held = e; right = refl }))

  -- the sum in which column `t` has weight 1 and column `u` weight 0
  module _ (t u : ℕ) (t_in : t < data_columns + parity) (u_le : u ≤ suc data_columns) (apart : u ≢ t) (single : parity ≡ 1 → data_columns < u) where
    t_le : t ≤ suc data_columns
    t_le = omega arith

    abbrev part : List ℕ
    part = residue data_columns parity t u p q

    abbrev term : ℕ → ℕ → ℕ
    term k c = byte_product (weight data_columns t u c) (get_or (base c) k 0)

    abbrev rest : ℕ → ℕ → ℕ
    rest k c = if nat_eq c t then 0 else term k c

    below : (k c : ℕ) → c < data_columns + parity → get_or (base c) k 0 < 256
    below k c lt = (sums.blocks c lt).bytes k

    abbrev p_total : ℕ → ℕ
    p_total k = total (data_columns + parity) (λ c. byte_product (p_weight data_columns c) (get_or (base c) k 0))

    abbrev q_total : ℕ → ℕ
    q_total k = total (data_columns + parity) (λ c. byte_product (q_weight data_columns c) (get_or (base c) k 0))

    joined : (k : ℕ) → total (data_columns + parity) (term k) ≡ bit_xor (byte_product (p_times data_columns t u) (p_total k)) (byte_product (q_times data_columns t u) (q_total k))
    joined k = combined data_columns (data_columns + parity) t u (λ c. get_or (base c) k 0) (below k)

    bytes_one : parity ≡ 1 → (k : ℕ) → get_or p k 0 ≡ total (data_columns + parity) (term k)
    bytes_one e k =
        let high : data_columns < u = single e in
        let low : t ≤ data_columns = omega arith in
        let small_total : p_total k < 256 = total-below (data_columns + parity) _ (λ c lt. byte_product-below (p_weight data_columns c) (get_or (base c) k 0)) in
        sums.first.bytes k ∙ sym (joined k
        ∙ ap₂ bit_xor (ap (λ z. byte_product z (p_total k)) (p-low_q data_columns t u low high) ∙ byte_product-one_left (p_total k) small_total)
        (ap (λ z. byte_product z (q_total k)) (q-low_q data_columns t u low high) ∙ byte_product-zero_left (q_total k))
        ∙ xor_zero_r (p_total k))

    block_two : parity ≡ 2 → IsBlock (xor zero_block (scaled (p_times data_columns t u) p)) × IsBlock (scaled (q_times data_columns t u) q)
    block_two e = (
      IsBlock-xor zero_block (scaled (p_times data_columns t u) p) IsBlock-zero_block (IsBlock-scaled (p_times data_columns t u) p sums.first.block),
      IsBlock-scaled (q_times data_columns t u) q (sums.second e).block,
    )

    bytes_two : parity ≡ 2 → (k : ℕ) → get_or (xor (xor zero_block (scaled (p_times data_columns t u) p)) (scaled (q_times data_columns t u) q)) k 0 ≡ total (data_columns + parity) (term k)
    bytes_two e k =
        let b : IsBlock (xor zero_block (scaled (p_times data_columns t u) p)) × IsBlock (scaled (q_times data_columns t u) q) = block_two e in
        let sp : IsBlock (scaled (p_times data_columns t u) p) = IsBlock-scaled (p_times data_columns t u) p sums.first.block in
        get_or-xor (xor zero_block (scaled (p_times data_columns t u) p)) (scaled (q_times data_columns t u) q) k (b.0.size ∙ sym b.1.size)
        ∙ ap₂ bit_xor
        (get_or-xor zero_block (scaled (p_times data_columns t u) p) k (IsBlock-zero_block.size ∙ sym sp.size) ∙ ap₂ bit_xor (get_or-zero_block k) (get_or-scaled (p_times data_columns t u) p k)
        ∙ xor_zero_l (byte_product (p_times data_columns t u) (get_or p k 0)) ∙ ap (byte_product (p_times data_columns t u)) (sums.first.bytes k))
        (get_or-scaled (q_times data_columns t u) q k ∙ ap (byte_product (q_times data_columns t u)) ((sums.second e).bytes k))
        ∙ sym (joined k)

    part_block : IsBlock part
    part_block = elim (one_or_two parity one few) [
      | inl e ↦ subst (λ m. IsBlock (residue data_columns m t u p q)) (sym e) sums.first.block
      | inr e ↦ subst (λ m. IsBlock (residue data_columns m t u p q)) (sym e) (IsBlock-xor (xor zero_block (scaled (p_times data_columns t u) p)) (scaled (q_times data_columns t u) q) (block_two e).0 (block_two e).1)
    ]

    part_bytes : (k : ℕ) → get_or part k 0 ≡ total (data_columns + parity) (term k)
    part_bytes k = elim (one_or_two parity one few) [
      | inl e ↦ subst (λ m. get_or (residue data_columns m t u p q) k 0 ≡ total (data_columns + parity) (term k)) (sym e) (bytes_one e k)
      | inr e ↦ subst (λ m. get_or (residue data_columns m t u p q) k 0 ≡ total (data_columns + parity) (term k)) (sym e) (bytes_two e k)
    ]

    -- without the column itself
    but_itself : (k : ℕ) → total (data_columns + parity) (term k) ≡ bit_xor (total (data_columns + parity) (rest k)) (get_or (base t) k 0)
    but_itself k =
        total_change (data_columns + parity) (rest k) (term k) t t_in (λ c lt ne. sym (left_in c t (term k c) ne))
        ∙ ap (bit_xor (total (data_columns + parity) (rest k)))
        (ap₂ bit_xor (left_out_of t (term k t))
        (ap (λ w. byte_product w (get_or (base t) k 0)) (weight-target data_columns t u small apart t_le u_le) ∙ byte_product-one_left (get_or (base t) k 0) (below k t t_in))
        ∙ xor_zero_l (get_or (base t) k 0))

    computed : Computed data_columns parity t u base (xor part (base t))
    computed = record {
      block = IsBlock-xor part (base t) part_block (sums.blocks t t_in);
      bytes = λ k. get_or-xor part (base t) k (part_block.size ∙ sym (sums.blocks t t_in).size)
          ∙ ap (λ z. bit_xor z (get_or (base t) k 0)) (part_bytes k ∙ but_itself k) ∙ xor_cancel (total (data_columns + parity) (rest k)) (get_or (base t) k 0);
    }

    suit_serves : (o : Option Digest) → IsSide s t o → Suits o part → StandsForSlot s t (xor part (base t))
    suit_serves None w e = subst (λ x. StandsForSlot s t x) (sym (xor_zeros part (base t) part_block (sums.blocks t t_in) e)) (read_serves s t (base t) (well_read t t_in w).1)
    suit_serves (Some d) a e = record {
      void = λ v. absurd ((absent_unwell s t d a).0 v);
      digest = λ x h. ap digest_of (xor_with_zeros part (base t) part_block (sums.blocks t t_in) (absent_zero t d t_in a)) ∙ e ∙ same_Some d x (sym (taken_digest (s.slots t) d a.0) ∙ h);
      held = λ b x. absurd (a.1 (b, x));
    }

    fill_suits : (o : Option Digest) → IsSide s t o → (f : ℕ → List ℕ) → Filling data_columns parity s f → xor part (base t) ≡ f t → Suits o part
    fill_suits None w f h e = zeros_of part (base t) part_block (sums.blocks t t_in) (e ∙ elim (well_read t t_in w).1 [ inl x ↦ h.held t (base t) t_in x | inr v ↦ h.void t t_in v.0 ∙ sym v.1 ])
    fill_suits (Some d) a f h e =
        ap digest_of (sym (xor_with_zeros part (base t) part_block (sums.blocks t t_in) (absent_zero t d t_in a)) ∙ e) ∙ h.digest t d t_in (taken_digest (s.slots t) d a.0)

  -- two columns that decide
  module _ (t u : ℕ) (o o2 : Option Digest) (t_in : t < data_columns + parity) (u_le : u ≤ suc data_columns) (apart : u ≢ t) (single : parity ≡ 1 → data_columns < u)
      (at_t : IsSide s t o) (at_u : parity ≢ 1 → IsSide s u o2) (others : (c : ℕ) → c < data_columns + parity → c ≢ t → c ≢ u → IsWell s c) where
    read : IsStripeRead data_columns parity s t u base
    read c lt nt nu = well_read c lt (others c lt nt nu)

    back : IsStripeRead data_columns parity s u t base
    back c lt nu nt = read c lt nt nu

    not_single : parity ≡ 2 → parity ≢ 1
    not_single two e = omega (arith, two, e)

    is_two : parity ≢ 1 → parity ≡ 2
    is_two ne = omega (arith, one, few, ne)

    u_in : parity ≡ 2 → u < data_columns + parity
    u_in two = omega arith

    le_t : t ≤ suc data_columns
    le_t = omega arith

    abbrev Adds : Type 0
    Adds = Suits o (residue data_columns parity t u p q) × (parity ≢ 1 → Suits o2 (residue data_columns parity u t p q))

    other_way : parity ≡ 2 → parity ≡ 1 → data_columns < t
    other_way two e = absurd (omega (arith, two, e))

    t_computed : Computed data_columns parity t u base (xor (residue data_columns parity t u p q) (base t))
    t_computed = computed t u t_in u_le apart single

    u_computed : parity ≡ 2 → Computed data_columns parity u t base (xor (residue data_columns parity u t p q) (base u))
    u_computed two = computed u t (u_in two) le_t (λ e. apart (sym e)) (other_way two)

    t_serves : Adds → StandsForSlot s t (xor (residue data_columns parity t u p q) (base t))
    t_serves a = suit_serves t u t_in u_le apart single o at_t a.0

    u_serves : Adds → parity ≡ 2 → StandsForSlot s u (xor (residue data_columns parity u t p q) (base u))
    u_serves a two = suit_serves u t (u_in two) le_t (λ e. apart (sym e)) (other_way two) o2 (at_u (not_single two)) (a.1 (not_single two))

    fills : Adds → HasFilling data_columns parity s
    fills a = (
      made data_columns parity few one small s t u base t_in u_le apart single read (xor (residue data_columns parity t u p q) (base t)) (xor (residue data_columns parity u t p q) (base u)) t_computed u_computed (t_serves a) (u_serves a),
      made_filling data_columns parity few one small s t u base t_in u_le apart single read (xor (residue data_columns parity t u p q) (base t)) (xor (residue data_columns parity u t p q) (base u)) t_computed u_computed (t_serves a) (u_serves a),
    )

    adds : HasFilling data_columns parity s → Adds
    adds f = (
      fill_suits t u t_in u_le apart single o at_t f.0 f.1 (filling_computed data_columns parity few one small s t u base t_in u_le apart single read f.0 (xor (residue data_columns parity t u p q) (base t)) f.1 t_computed),
      λ ne. (let two : parity ≡ 2 = is_two ne in
          fill_suits u t (u_in two) le_t (λ e. apart (sym e)) (other_way two) o2 (at_u ne) f.0 f.1
          (filling_computed data_columns parity few one small s u t base (u_in two) le_t (λ e. apart (sym e)) (other_way two) back f.0 (xor (residue data_columns parity u t p q) (base u)) f.1 (u_computed two))),
    )

  -- WHICH SLOTS BREAK

  -- what decides, and what else `BreaksStripe` asks for
  record Decided (tr : Trial) : Type 0 where
    fills : AddsUp data_columns parity tr p q → HasFilling data_columns parity s
    adds : HasFilling data_columns parity s → AddsUp data_columns parity tr p q
    few_unsound : FewUnsound data_columns parity s
    unbroken : NoneBroken data_columns parity s
    ordered : IsOrdered data_columns parity tr.broken
    which : (FindsUnsound data_columns parity s (breaks_at tr.broken) × (c : ℕ) × (c < data_columns + parity) × (breaks_at tr.broken c ≡ true))
        ⊎ (((c : ℕ) → c < data_columns + parity → (s.slots c ≡ Void) ⊎ Sound s c) × ((c : ℕ) → c < data_columns + parity → IsTrue (breaks_at tr.broken c) ↔ (data_columns ≤ c)))

  -- every slot gave its block
  module _ (all : (c : ℕ) → c < data_columns + parity → IsWell s c) where
    each_parity : (m : ℕ) → parity ≡ m → (m ≡ 1) ⊎ (m ≡ 2) → (c : ℕ) → c < data_columns + parity → IsTrue (breaks_at (parity_slots data_columns m) c) ↔ (data_columns ≤ c)
    each_parity m e (inl one) c lt = subst (λ m. IsTrue (breaks_at (parity_slots data_columns m) c) ↔ (data_columns ≤ c)) (sym one)
        ((λ h. (let q : c ≡ data_columns = eqb-true c data_columns h in omega arith)), (λ le. eq-eqb c data_columns (omega (arith, lt, e, one, le))))
    each_parity m e (inr two) c lt = subst (λ m. IsTrue (breaks_at (parity_slots data_columns m) c) ↔ (data_columns ≤ c)) (sym two) (
      (λ h. elim (or_cases (nat_eq c data_columns) (nat_eq c (data_columns + 1)) h) [
        | inl x ↦ (let q : c ≡ data_columns = eqb-true c data_columns x in omega arith)
        | inr x ↦ (let q : c ≡ data_columns + 1 = eqb-true c (data_columns + 1) x in omega arith)
      ]),
      (λ le. elim (cases_eq c data_columns) [
        | inl q ↦ or_left (nat_eq c data_columns) (nat_eq c (data_columns + 1)) (eq-eqb c data_columns q)
        | inr ne ↦ or_right (nat_eq c data_columns) (nat_eq c (data_columns + 1)) (eq-eqb c (data_columns + 1) (omega (arith, lt, e, two, le, ne)))
      ]),
    )

    slots_ordered : (m : ℕ) → parity ≡ m → (m ≡ 1) ⊎ (m ≡ 2) → IsOrdered data_columns parity (parity_slots data_columns m)
    slots_ordered m e (inl x) = subst (λ m. IsOrdered data_columns parity (parity_slots data_columns m)) (sym x) (omega (arith, one))
    slots_ordered m e (inr x) = subst (λ m. IsOrdered data_columns parity (parity_slots data_columns m)) (sym x) (omega arith, omega (arith, e, x))

    decided_whole : Decided (record { first = side data_columns None; second = side (data_columns + 1) None; broken = parity_slots data_columns parity })
    decided_whole = record {
      fills = fills data_columns (data_columns + 1) None None (omega (arith, one)) (omega arith) (λ e. absurd (omega (arith, e))) (λ e. omega arith) (all data_columns (omega (arith, one))) (λ ne. all (data_columns + 1) (omega (arith, ne, one))) (λ c lt _ _. all c lt);
      adds = adds data_columns (data_columns + 1) None None (omega (arith, one)) (omega arith) (λ e. absurd (omega (arith, e))) (λ e. omega arith) (all data_columns (omega (arith, one))) (λ ne. all (data_columns + 1) (omega (arith, ne, one))) (λ c lt _ _. all c lt);
      few_unsound = (
        (λ c. false),
        (λ c lt. ((λ h. absurd (cc)), (λ u. absurd (well_not_unwell s c (all c lt) u)))),
        rw (count_none (data_columns + parity) (λ c. false) (λ c lt. refl)) (omega arith),
      );
      unbroken = λ c d lt. well_unbroken s c d (all c lt);
      ordered = slots_ordered parity refl (one_or_two parity one few);
      which = inr (all, each_parity parity refl (one_or_two parity one few));
    }

  -- one slot gave none
  module _ (u : ℕ) (d : Digest) (lt_u : u < data_columns + parity) (gone : IsAbsent s u d) (all : (c : ℕ) → c < data_columns + parity → c ≢ u → IsWell s c) where
    one_finds : FindsUnsound data_columns parity s (λ c. nat_eq c u)
    one_finds c lt = (
      (λ h. subst (λ k. IsUnwell s k) (sym (eqb-true c u h)) (absent_unwell s u d gone)),
      (λ w. elim (cases_eq c u) [ inl e ↦ eq-eqb c u e | inr ne ↦ absurd (well_not_unwell s c (all c lt ne) w) ]),
    )

    partner_le : partner data_columns u ≤ suc data_columns
    partner_le = partner_within data_columns u

    partner_apart : partner data_columns u ≢ u
    partner_apart = partner_other data_columns u

    partner_high : parity ≡ 1 → data_columns < partner data_columns u
    partner_high x = high data_columns u (omega (arith, lt_u, x))
      where
        high : (n u : ℕ) → u ≤ n → n < partner n u
        high n u le = grind (arith, nat_tests)

    decided_but_one : Decided (record { first = side u (Some d); second = side (partner data_columns u) None; broken = breaking.One u })
    decided_but_one = record {
      fills = fills u (partner data_columns u) (Some d) None lt_u partner_le partner_apart partner_high gone (λ ne. all (partner data_columns u) (omega (arith, partner_le, ne, one)) partner_apart) (λ c lt nu _. all c lt nu);
      adds = adds u (partner data_columns u) (Some d) None lt_u partner_le partner_apart partner_high gone (λ ne. all (partner data_columns u) (omega (arith, partner_le, ne, one)) partner_apart) (λ c lt nu _. all c lt nu);
      few_unsound = ((λ c. nat_eq c u), one_finds, (let l : count (data_columns + parity) (λ c. nat_eq c u) ≤ 1 = count_one (data_columns + parity) u in omega arith));
      unbroken = λ c e lt. elim (cases_eq c u) [
        | inl x ↦ subst (λ k. s.slots k ≢ Broken e) (sym x) (taken_unbroken (s.slots u) d e gone.0)
        | inr ne ↦ well_unbroken s c e (all c lt ne)
      ];
      ordered = lt_u;
      which = inl (one_finds, u, lt_u, eq-eqb u u refl);
    }

  -- two did not
  module _ (u k : ℕ) (d e : Digest) (order : u < k) (lt_k : k < data_columns + parity) (gone : IsAbsent s u d) (gone2 : IsAbsent s k e)
      (all : (c : ℕ) → c < data_columns + parity → c ≢ u → c ≢ k → IsWell s c) where
    lt_u' : u < data_columns + parity
    lt_u' = omega arith

    -- each column is one of the two, or gave its block
    at_each : (P : ℕ → Type 0) → P u → P k → ((c : ℕ) → c < data_columns + parity → IsWell s c → P c) → (c : ℕ) → c < data_columns + parity → P c
    at_each P here there well c lt = elim (cases_eq c u) [
      | inl x ↦ subst P (sym x) here
      | inr nu ↦ elim (cases_eq c k) [ inl x ↦ subst P (sym x) there | inr nk ↦ well c lt (all c lt nu nk) ]
    ]

    two_finds : FindsUnsound data_columns parity s (λ c. nat_eq c u || nat_eq c k)
    two_finds c lt = (
      (λ h. elim (or_cases (nat_eq c u) (nat_eq c k) h) [
        | inl x ↦ subst (λ k. IsUnwell s k) (sym (eqb-true c u x)) (absent_unwell s u d gone)
        | inr x ↦ subst (λ k. IsUnwell s k) (sym (eqb-true c k x)) (absent_unwell s k e gone2)
      ]),
      at_each (λ c. IsUnwell s c → nat_eq c u || nat_eq c k ≡ true) (λ _. or_left (nat_eq u u) (nat_eq u k) (eq-eqb u u refl)) (λ _. or_right (nat_eq k u) (nat_eq k k) (eq-eqb k k refl))
          (λ c lt w x. absurd (well_not_unwell s c w x)) c lt,
    )

    decided_but_two : parity ≡ 2 → Decided (record { first = side u (Some d); second = side k (Some e); broken = breaking.Both u k })
    decided_but_two two = record {
      fills = fills u k (Some d) (Some e) lt_u' (omega (arith, lt_k, two)) (λ x. absurd (omega (arith, order, x))) (λ x. absurd (omega (arith, two, x))) gone (λ _. gone2) all;
      adds = adds u k (Some d) (Some e) lt_u' (omega (arith, lt_k, two)) (λ x. absurd (omega (arith, order, x))) (λ x. absurd (omega (arith, two, x))) gone (λ _. gone2) all;
      few_unsound = (
        (λ c. nat_eq c u || nat_eq c k),
        two_finds,
        (let a : count (data_columns + parity) (λ c. nat_eq c u) ≤ 1 = count_one (data_columns + parity) u in
            let b : count (data_columns + parity) (λ c. nat_eq c k) ≤ 1 = count_one (data_columns + parity) k in
            let l : count (data_columns + parity) (λ c. nat_eq c u || nat_eq c k) ≤ count (data_columns + parity) (λ c. nat_eq c u) + count (data_columns + parity) (λ c. nat_eq c k) =
            count_either (data_columns + parity) (λ c. nat_eq c u) (λ c. nat_eq c k) in omega (arith, a, b, l, two)),
      );
      unbroken = λ c x lt. at_each (λ c. s.slots c ≢ Broken x) (taken_unbroken (s.slots u) d x gone.0) (taken_unbroken (s.slots k) e x gone2.0) (λ c lt w. well_unbroken s c x w) c lt;
      ordered = (order, lt_k);
      which = inl (two_finds, u, lt_u', or_left (nat_eq u u) (nat_eq u k) (eq-eqb u u refl));
    }

    -- with one parity column two are too many
    two_spared : parity ≡ 1 → Spared data_columns parity s (λ c. false)
    two_spared single = record {
      none = λ c lt. refl;
      why = inr (λ none f. (let l : 2 ≤ count (data_columns + parity) f.0 =
          count_two (data_columns + parity) f.0 u k order lt_k ((f.1 u lt_u').1 (absent_unwell s u d gone)) ((f.1 k lt_k).1 (absent_unwell s k e gone2)) in
          let m : count (data_columns + parity) f.0 ≤ parity = f.2 in
          omega arith));
    }

  -- a Broken slot, or three that gave none
  more_spared : IsShort (data_columns + parity) s More → Spared data_columns parity s (λ c. false)
  more_spared x = record { none = λ c lt. refl; why = inr (λ none f. refuted x none f) }
    where
      refuted : IsShort (data_columns + parity) s More → NoneBroken data_columns parity s → FewUnsound data_columns parity s → ⊥
      refuted (inl b) none f = none b.0 b.1 b.2 b.3
      refuted (inr (c, j, k, cj, jk, lt, uc, uj, uk)) none f =
          let l : 3 ≤ count (data_columns + parity) f.0 =
          count_three (data_columns + parity) f.0 c j k cj jk lt ((f.1 c (omega (arith, cj, jk, lt))).1 uc) ((f.1 j (omega (arith, jk, lt))).1 uj) ((f.1 k lt).1 uk) in
          let m : count (data_columns + parity) f.0 ≤ parity = f.2 in
          omega (arith, few, l, m)

  abbrev Outcome : Breaking → Type 0
  Outcome b = IsOrdered data_columns parity b × (BreaksStripe data_columns parity s (breaks_at b) ⊎ Spared data_columns parity s (breaks_at b))

  undecided : (b : Breaking) → b ≡ breaking.Nothing → Spared data_columns parity s (λ c. false) → Outcome b
  undecided b e x = subst Outcome (sym e) (tt, inr x)

  decided : (tr : Trial) (b : Breaking) → Decided tr → Decides data_columns parity (Some tr) p q b → Outcome b
  decided tr b d (inl x) = undecided b x.1 (record { none = λ c lt. refl; why = inl (d.fills x.0) })
  decided tr b d (inr x) = subst Outcome (sym x.1) (d.ordered, inl (record { none_broken = d.unbroken; no_filling = λ f. x.0 (d.adds f); few = d.few_unsound; which = d.which }))

  pub outcome : (shortage : Shortage) (b : Breaking) → IsShort (data_columns + parity) s shortage → IsBroken data_columns parity shortage p q b → Outcome b
  outcome Nothing b x w = decided _ b (decided_whole x) w
  outcome (One u d) b x w = decided _ b (decided_but_one u d x.0 x.1 x.2) w
  outcome (Two u d k e) b x w = elim (one_or_two parity one few) [
    | inl single ↦ undecided b (subst (λ m. Decides data_columns parity (trial_of data_columns m (Two u d k e)) p q b) single w) (two_spared u k d e x.0 x.1 x.2 x.3 x.4 single)
    | inr two ↦ decided _ b (decided_but_two u k d e x.0 x.1 x.2 x.3 x.4 two) (subst (λ m. Decides data_columns parity (trial_of data_columns m (Two u d k e)) p q b) two w)
  ]
  outcome More b x w = undecided b w (more_spared x)

-- A SLOT THAT BREAKS IS LIVE OR LOST

-- a stripe whose slots are all Void has a filling
pub void_filled : (data_columns parity : ℕ) (s : Stripe) → ((c : ℕ) → c < data_columns + parity → s.slots c ≡ Void) → HasFilling data_columns parity s
void_filled data_columns parity s void = (
  (λ c. zero_block),
  record {
    block = λ c lt. IsBlock-zero_block;
    void = λ c lt e. refl;
    digest = λ c d lt e. absurd (none-some _ (sym (ap digest_in (void c lt)) ∙ e));
    held = λ c b lt x. absurd (void_live (sym (void c lt) ∙ x.live));
    p_sum = λ k. total_zero (data_columns + parity) _ (λ c lt. ap (byte_product (p_weight data_columns c)) (get_or-zero_block k) ∙ byte_product-zero_right (p_weight data_columns c));
    q_sum = λ two k. total_zero (data_columns + parity) _ (λ c lt. ap (byte_product (q_weight data_columns c)) (get_or-zero_block k) ∙ byte_product-zero_right (q_weight data_columns c));
  },
)

pub takes_broke : (data_columns parity : ℕ) (s : Stripe) (test : ℕ → Bool) → BreaksStripe data_columns parity s test
    → ((c : ℕ) → c < data_columns + parity → data_columns ≤ c → s.slots c ≡ Void → (k : ℕ) → k < data_columns + parity → s.slots k ≡ Void)
    → (c : ℕ) → c < data_columns + parity → test c ≡ true → IsTrue (is_live (s.slots c)) ⊎ IsTrue (is_lost (s.slots c))
takes_broke data_columns parity s test b void c lt e = elim b.which [
  | inl w ↦ kind (s.slots c) (λ v. ((w.0 c lt).0 e).0 v) (λ d x. b.none_broken c d lt x)
  | inr w ↦ elim (w.0 c lt) [
    | inl v ↦ absurd (b.no_filling (void_filled data_columns parity s (void c lt ((w.1 c lt).0 e) v)))
    | inr x ↦ inl (ap is_live x.1.live)
  ]
]
  where
    kind : (x : SlotState) → x ≢ Void → ((d : Digest) → x ≢ Broken d) → IsTrue (is_live x) ⊎ IsTrue (is_lost x)
    kind Void v b = absurd (v refl)
    kind (Live d) v b = inl refl
    kind (Lost d) v b = inr refl
    kind (Broken d) v b = absurd (b d refl)
