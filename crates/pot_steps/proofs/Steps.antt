-- What the steps of a stripe keep.
use Rattle.std.proofs.Common.{◌≡◌, ◌≢◌, ◌⊎◌, ℕ, zero, suc, ◌+◌, ◌<◌, ◌≤◌, bit_xor, refl, sym, ap, ap₂, ◌∙◌, arith, List, Option, Some, None, inl, inr, subst, get_or, nat_eq, nat_le, if◌then◌else◌, Bool, true, false, ◌&&◌, not}
use Rattle.std.proofs.lemmas.Bool.Decides.{nat_tests}
use native.Mathlib.Nat.{le_trans}
use Rattle.std.specs.Int.Bits.{xor_zero_l}
use Rattle.std.proofs.lemmas.Bool.{cases_Bool}
use Rattle.std.proofs.lemmas.Option.{same_Some}
use Rattle.pot_bytes.specs.declared.digest.Digest.{Digest}
use Rattle.pot_bytes.specs.Totals.{total}
use Rattle.pot_bytes.specs.Product.{byte_product}
use Rattle.pot_bytes.specs.Sums.{zero_block}
use Rattle.pot_bytes.proofs.TotalLemmas.{total_same, total_zero, total_change}
use Rattle.pot_machine.specs.declared.slot.SlotState.{SlotState}
use Rattle.pot_machine.specs.declared.slot.SlotState.TheVariants.{Void, Live, Lost, Broken}
use Rattle.pot_machine.specs.declared.relay.Relay.{Relay}
use Rattle.pot_machine.specs.Slot.{digest_in, is_void, is_lost}
use Rattle.pot_machine.specs.Table.{count}
use Rattle.pot_bytes.specs.Lists.{IsBlock}
use Rattle.pot_bytes.specs.Digests.{digest_of}
use Rattle.pot_steps.specs.Stripe.{Stripe, IsSound, Filling}
use Rattle.pot_steps.specs.Law.{StripeLaw, Worse, lost_count}
use Rattle.pot_steps.specs.Flight.{IsNext, IsPartial, FlightLaw, visits, folded, hopped, is_within, weight, left_out}
use Rattle.pot_steps.proofs.BlockLemmas.{get_or-zero_block, IsBlock-zero_block}
use Rattle.pot_steps.proofs.Rebuilt.{if_true, if_false, folded_true, folded_within}

pub no_digest : (x : SlotState) → digest_in x ≡ None → x ≡ Void
no_digest Void h = refl
no_digest (Live d) h = absurd (cc)
no_digest (Lost d) h = absurd (cc)
no_digest (Broken d) h = absurd (cc)

-- a filling stays where the digests stay and no slot becomes sound but with the filling's block
pub filling_stays : (data_columns parity : ℕ) (s s' : Stripe) (blocks : ℕ → List ℕ) → Filling data_columns parity s blocks
    → ((c : ℕ) → c < data_columns + parity → digest_in (s'.slots c) ≡ digest_in (s.slots c))
    → ((c : ℕ) (b : List ℕ) → c < data_columns + parity → IsSound s' c b → blocks c ≡ b) → Filling data_columns parity s' blocks
filling_stays data_columns parity s s' blocks f same sound = record {
  block = f.block;
  void = λ c lt e. f.void c lt (no_digest (s.slots c) (sym (same c lt) ∙ ap digest_in e));
  digest = λ c d lt e. f.digest c d lt (sym (same c lt) ∙ e);
  held = λ c b lt h. sound c b lt h;
  p_sum = f.p_sum;
  q_sum = f.q_sum;
}

pub count-le : (n : ℕ) (f g : ℕ → Bool) → ((c : ℕ) → c < n → f c ≡ true → g c ≡ true) → count n f ≤ count n g
unfolding count
count-le zero f g h = omega arith
count-le (suc n) f g h =
    let ih : count n f ≤ count n g = count-le n f g (λ c l. h c (omega arith)) in
    let last : (if f n then 1 else 0) ≤ (if g n then 1 else 0) = one_le (f n) (g n) (h n (omega arith)) in
    omega arith
  where
    one_le : (a b : Bool) → (a ≡ true → b ≡ true) → (if a then 1 else 0) ≤ (if b then 1 else 0)
    one_le true b h = rw (h refl) (omega arith)
    one_le false b h = omega arith

-- losses, Gone, GaveUp, Fault, a move, a swap: the stripe law stays, also where a relay ends
pub worse_keeps : (data_columns parity : ℕ) (s s' : Stripe) (relay relay' : Option Relay) → Worse data_columns parity s s' → (relay' ≢ None → relay ≢ None) → StripeLaw data_columns parity s relay → StripeLaw data_columns parity s' relay'
worse_keeps data_columns parity s s' relay relay' w r law none few =
    let old : (blocks : ℕ → List ℕ) × Filling data_columns parity s blocks = law (λ c d lt e. none c d lt (w.broken c d lt e))
    (elim few [ inl some ↦ inl (r some) | inr le ↦ inr (le_trans (count-le (data_columns + parity) (λ c. is_lost (s.slots c)) (λ c. is_lost (s'.slots c)) w.lost) le) ]) in
    (old.0, filling_stays data_columns parity s s' old.0 old.1 w.digests (λ c b lt h. old.1.held c b lt (w.sound c b lt h)))

pub void_same : (x y : SlotState) → digest_in x ≡ digest_in y → is_void x ≡ is_void y
void_same Void y e = ap is_void (sym (no_digest y (sym e)))
void_same (Live d) y e = sym (not_void y d (sym e))
  where
    not_void : (y : SlotState) (d : Digest) → digest_in y ≡ Some d → is_void y ≡ false
    not_void Void d e = absurd (cc)
    not_void (Live _) d e = refl
    not_void (Lost _) d e = refl
    not_void (Broken _) d e = refl
void_same (Lost d) Void e = absurd (cc)
void_same (Lost d) (Live _) e = refl
void_same (Lost d) (Lost _) e = refl
void_same (Lost d) (Broken _) e = refl
void_same (Broken d) Void e = absurd (cc)
void_same (Broken d) (Live _) e = refl
void_same (Broken d) (Lost _) e = refl
void_same (Broken d) (Broken _) e = refl

pub visits_same : (data_columns : ℕ) (slots slots' : ℕ → SlotState) (r : Relay) (c : ℕ) → digest_in (slots' c) ≡ digest_in (slots c) → visits data_columns slots' r c ≡ visits data_columns slots r c
unfolding visits
visits_same data_columns slots slots' r c e = ap (λ z. not (nat_eq c r.target) && (not (nat_eq c (left_out data_columns r.target r.skip)) && not z)) (void_same (slots' c) (slots c) e)

pub folded_same : (data_columns : ℕ) (slots slots' : ℕ → SlotState) (r : Relay) (c : ℕ) → digest_in (slots' c) ≡ digest_in (slots c) → folded data_columns slots' r c ≡ folded data_columns slots r c
unfolding folded
folded_same data_columns slots slots' r c e = ap (λ z. z && is_within r.last c) (visits_same data_columns slots slots' r c e)

-- the flight law stays
module _ (data_columns parity : ℕ) (s s' : Stripe) (r : Relay) (partial : List ℕ) (w : Worse data_columns parity s s') where
  pub partial_stays : (blocks : ℕ → List ℕ) → IsPartial data_columns parity s r blocks partial → IsPartial data_columns parity s' r blocks partial
  partial_stays blocks p k = p k ∙ total_same (data_columns + parity) _ _ (λ c lt.
      ap (λ z. if z then byte_product (weight data_columns r.target (left_out data_columns r.target r.skip) c) (get_or (blocks c) k 0) else 0) (sym (folded_same data_columns s.slots s'.slots r c (w.digests c lt))))

  pub worse_keeps_flight : FlightLaw data_columns parity s r partial → FlightLaw data_columns parity s' r partial
  worse_keeps_flight law = record {
    is_block = law.is_block;
    some = (
      law.some.0,
      record {
        block = λ c lt e. law.some.1.block c lt (sym (folded_same data_columns s.slots s'.slots r c (w.digests c lt)) ∙ e);
        digest = λ c d lt e h. law.some.1.digest c d lt (sym (folded_same data_columns s.slots s'.slots r c (w.digests c lt)) ∙ e) (sym (w.digests c lt) ∙ h);
        held = λ c b lt e h. law.some.1.held c b lt (sym (folded_same data_columns s.slots s'.slots r c (w.digests c lt)) ∙ e) (w.sound c b lt h);
      },
      partial_stays law.some.0 law.some.2,
    );
    filled = λ none.
        let old : (blocks : ℕ → List ℕ) × Filling data_columns parity s blocks × IsPartial data_columns parity s r blocks partial = law.filled (λ c d lt e. none c d lt (w.broken c d lt e)) in
        (old.0, filling_stays data_columns parity s s' old.0 old.1 w.digests (λ c b lt h. old.1.held c b lt (w.sound c b lt h)), partial_stays old.0 old.2);
  }

-- a flight begins
module _ (data_columns : ℕ) (slots : ℕ → SlotState) (stripe t : ℕ) (skip : Option ℕ) where
  none_folded : (c : ℕ) → folded data_columns slots (record { stripe = stripe; target = t; skip = skip; last = None }) c ≡ false
  none_folded c = folded_within data_columns slots (record { stripe = stripe; target = t; skip = skip; last = None }) c refl

pub begin_keeps : (data_columns parity : ℕ) (s : Stripe) (stripe t : ℕ) (skip : Option ℕ) → StripeLaw data_columns parity s None → lost_count data_columns parity s ≤ parity
    → FlightLaw data_columns parity s (record { stripe = stripe; target = t; skip = skip; last = None }) zero_block
begin_keeps data_columns parity s stripe t skip law few = record {
  is_block = IsBlock-zero_block;
  some = (
    (λ c. zero_block),
    record {
      block = λ c lt e. IsBlock-zero_block;
      digest = λ c d lt e h. absurd (false_true _ (none_folded data_columns s.slots stripe t skip c) e);
      held = λ c b lt e h. absurd (false_true _ (none_folded data_columns s.slots stripe t skip c) e);
    },
    nothing (λ c. zero_block),
  );
  filled = λ none. let f : (blocks : ℕ → List ℕ) × Filling data_columns parity s blocks = law none (inr few) in (f.0, f.1, nothing f.0);
}
  where
    false_true : (b : Bool) → b ≡ false → b ≡ true → ⊥
    false_true b e h = cc

    nothing : (blocks : ℕ → List ℕ) → IsPartial data_columns parity s (record { stripe = stripe; target = t; skip = skip; last = None }) blocks zero_block
    nothing blocks k = get_or-zero_block k ∙ sym (total_zero (data_columns + parity) _ (λ c lt. if_false _ _ _ (none_folded data_columns s.slots stripe t skip c)))

-- a hop
module _ (data_columns parity : ℕ) (s : Stripe) (r : Relay) (c : ℕ) (b partial partial' : List ℕ) (next : IsNext data_columns parity s r c) (sound : IsSound s c b) (is_block : IsBlock b) (whole : IsBlock partial')
    (grown : (k : ℕ) → get_or partial' k 0 ≡ bit_xor (get_or partial k 0) (byte_product (weight data_columns r.target (left_out data_columns r.target r.skip) c) (get_or b k 0))) where
  passes : visits data_columns s.slots (hopped r c) c ≡ true
  unfolding visits
  passes = next.visited

  visits_on : (k : ℕ) → visits data_columns s.slots (hopped r c) k ≡ visits data_columns s.slots r k
  unfolding visits
  visits_on k = refl

  not_yet : folded data_columns s.slots r c ≡ false
  not_yet = folded_within data_columns s.slots r c next.above

  now : folded data_columns s.slots (hopped r c) c ≡ true
  now = folded_true data_columns s.slots (hopped r c) c passes (le_self c)
    where
      le_self : (c : ℕ) → nat_le c c ≡ true
      le_self c = grind (arith, nat_tests)

  within_on : (k : ℕ) → k ≢ c → visits data_columns s.slots r k ≡ true → is_within (Some c) k ≡ is_within r.last k
  within_on k ne v = elim (apart k c ne) [ inl lt ↦ le_below k c lt ∙ sym (next.least k lt v) | inr gt ↦ le_above k c gt ∙ sym (above r.last k c gt next.above) ]
    where
      apart : (k c : ℕ) → k ≢ c → (k < c) ⊎ (c < k)
      apart k c ne = grind arith

      le_below : (k c : ℕ) → k < c → nat_le k c ≡ true
      le_below k c h = grind (arith, nat_tests)

      le_above : (k c : ℕ) → c < k → nat_le k c ≡ false
      le_above k c h = grind (arith, nat_tests)

      above : (last : Option ℕ) (k c : ℕ) → c < k → is_within last c ≡ false → is_within last k ≡ false
      above None k c h e = refl
      above (Some l) k c h e = grind (arith, nat_tests)

  folded_on : (k : ℕ) → k ≢ c → folded data_columns s.slots (hopped r c) k ≡ folded data_columns s.slots r k
  unfolding folded
  folded_on k ne = elim (cases_Bool (visits data_columns s.slots r k)) [
    | inl v ↦ ap₂ (λ x y. x && y) (visits_on k) (within_on k ne v)
    | inr v ↦ ap (λ x. x && is_within (Some c) k) (visits_on k ∙ v) ∙ sym (ap (λ x. x && is_within r.last k) v)
  ]

  pub hop_sum : (blocks blocks' : ℕ → List ℕ) → ((k : ℕ) → k ≢ c → blocks' k ≡ blocks k) → blocks' c ≡ b → IsPartial data_columns parity s r blocks partial → IsPartial data_columns parity s (hopped r c) blocks' partial'
  hop_sum blocks blocks' same here p k =
      let n : ℕ = data_columns + parity in
      let w : ℕ → ℕ = weight data_columns r.target (left_out data_columns r.target r.skip) in
      let f : ℕ → ℕ = λ j. if folded data_columns s.slots r j then byte_product (w j) (get_or (blocks j) k 0) else 0 in
      let g : ℕ → ℕ = λ j. if folded data_columns s.slots (hopped r c) j then byte_product (w j) (get_or (blocks' j) k 0) else 0 in
      let change : total n g ≡ bit_xor (total n f) (bit_xor (f c) (g c)) = total_change n f g c next.within
      (λ j lt ne. ap₂ (λ x b. if x then byte_product (w j) (get_or b k 0) else 0) (folded_on j ne) (same j ne)) in
      let before : f c ≡ 0 = if_false _ _ _ not_yet in
      let after : g c ≡ byte_product (w c) (get_or b k 0) = if_true _ _ _ now ∙ ap (λ b. byte_product (w c) (get_or b k 0)) here in
      grown k ∙ ap₂ bit_xor (p k) (sym after) ∙ ap (bit_xor (total n f)) (sym (ap (λ z. bit_xor z (g c)) before ∙ xor_zero_l (g c))) ∙ sym change

  with_held : (ℕ → List ℕ) → ℕ → List ℕ
  with_held blocks k = if nat_eq k c then b else blocks k

  held_here : (blocks : ℕ → List ℕ) → with_held blocks c ≡ b
  unfolding with_held
  held_here blocks = at c b (blocks c)
    where
      at : (c : ℕ) (b d : List ℕ) → (if nat_eq c c then b else d) ≡ b
      at c b d = grind (arith, nat_tests)

  held_other : (blocks : ℕ → List ℕ) (k : ℕ) → k ≢ c → with_held blocks k ≡ blocks k
  unfolding with_held
  held_other blocks k ne = at k c b (blocks k) ne
    where
      at : (k c : ℕ) (b d : List ℕ) → k ≢ c → (if nat_eq k c then b else d) ≡ d
      at k c b d ne = grind (arith, nat_tests)

  -- what holds of the block held, and of the blocks so far, holds of all
  each : (blocks : ℕ → List ℕ) (P : ℕ → List ℕ → Type 0) → P c b → ((k : ℕ) → k < data_columns + parity → folded data_columns s.slots r k ≡ true → P k (blocks k)) → (k : ℕ) → k < data_columns + parity → folded data_columns s.slots (hopped r c) k ≡ true → P k (with_held blocks k)
  each blocks P here there k lt e = elim (same_or k c) [
    | inl eq ↦ subst (λ k. P k (with_held blocks k)) (sym eq) (subst (P c) (sym (held_here blocks)) here)
    | inr ne ↦ subst (P k) (sym (held_other blocks k ne)) (there k lt (sym (folded_on k ne) ∙ e))
  ]
    where
      same_or : (k c : ℕ) → (k ≡ c) ⊎ (k ≢ c)
      same_or k c = grind arith

  pub hop_keeps : FlightLaw data_columns parity s r partial → FlightLaw data_columns parity s (hopped r c) partial'
  hop_keeps law = record {
    is_block = whole;
    some = (
      with_held law.some.0,
      record {
        block = λ k lt e. each law.some.0 (λ k b. IsBlock b) is_block law.some.1.block k lt e;
        digest = λ k d lt e. each law.some.0 (λ k b. digest_in (s.slots k) ≡ Some d → digest_of b ≡ d)
            (λ h. sound.right ∙ same_Some _ _ (sym (ap digest_in sound.live) ∙ h)) (λ k lt e. law.some.1.digest k d lt e) k lt e;
        held = λ k x lt e. each law.some.0 (λ k b. IsSound s k x → b ≡ x)
            (λ h. same_Some _ _ (sym sound.held ∙ h.held)) (λ k lt e. law.some.1.held k x lt e) k lt e;
      },
      hop_sum law.some.0 (with_held law.some.0) (held_other law.some.0) (held_here law.some.0) law.some.2,
    );
    filled = λ none.
        let old : (blocks : ℕ → List ℕ) × Filling data_columns parity s blocks × IsPartial data_columns parity s r blocks partial = law.filled none in
        (old.0, old.1, hop_sum old.0 old.0 (λ k ne. refl) (old.1.held c b next.within sound) old.2);
  }
