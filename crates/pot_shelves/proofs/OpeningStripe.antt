-- What the blocks that were read of one stripe say of it. Nothing here knows a table or an archive.
use Rattle.std.proofs.Common.{◌≡◌, ◌≢◌, ◌⊎◌, inl, inr, ℕ, suc, ◌+◌, ◌<◌, List, Option, Some, None, Bool, true, false, ◌&&◌, IsTrue, get_or, bit_xor, refl, sym, ap, ◌∙◌, subst, arith, if◌then◌else◌}
use Rattle.std.specs.Prelude.{nat_le}
use Rattle.std.specs.Int.Bits.{xor_zero_r}
use Rattle.std.proofs.lemmas.Bool.{and_parts, and_from, false≢true, both_ways}
use Rattle.std.proofs.lemmas.Option.{same_Some, none-some}
use Rattle.pot_bytes.specs.declared.digest.Digest.{Digest}
use Rattle.pot_bytes.specs.Totals.{total}
use Rattle.pot_bytes.specs.Product.{byte_product}
use Rattle.pot_bytes.specs.Sums.{xor, zero_block}
use Rattle.pot_bytes.specs.Weighted.{scaled}
use Rattle.pot_bytes.proofs.ProductLemmas.{byte_product-zero_left, byte_product-zero_right, byte_product-one_left}
use Rattle.pot_bytes.proofs.TotalLemmas.{total_same}
use Rattle.pot_bytes.proofs.WeightedLemmas.{get_or-xor, get_or-scaled}
use Rattle.pot_machine.specs.declared.slot.SlotState.{SlotState}
use Rattle.pot_machine.specs.declared.slot.SlotState.TheVariants.{Void, Live, Lost, Broken}
use Rattle.pot_machine.specs.Slot.{digest_in, is_live}
use Rattle.pot_bytes.specs.Lists.{IsBlock}
use Rattle.pot_bytes.proofs.Basis.{last_or}
use Rattle.pot_steps.specs.Equations.{p_weight, q_weight}
use Rattle.pot_bytes.specs.Digests.{digest_of}
use Rattle.pot_steps.specs.Stripe.{Stripe, Sound, HasFilling}
use Rattle.pot_steps.specs.Law.{FindsUnsound}
use Rattle.pot_steps.specs.GroupStep.{FindsGone, BreaksStripe, Spared}
use Rattle.pot_steps.proofs.BlockLemmas.{IsBlock-zero_block, IsBlock-xor, IsBlock-scaled, get_or-zero_block}
use Rattle.pot_steps.proofs.Steps.{filling_stays}
use Rattle.pot_shelves.specs.declared.opening.Part.{Part}
use Rattle.pot_shelves.specs.declared.opening.Part.TheVariants as part
use Rattle.pot_shelves.specs.declared.opening.Shortage.{Shortage}
use Rattle.pot_shelves.specs.declared.opening.Shortage.TheVariants.{Nothing, One, Two, More}
use Rattle.pot_shelves.specs.Opening.{IsPart, block_of, is_missing, short_one, short_by, first_by, second_by, or_zeros, IsWell, IsUnwell, IsAbsent, IsShort, IsSum, AreSums}

-- the stripe with these slots, of which these blocks were read
abbrev pub reading : (ℕ → SlotState) → (ℕ → Option (List ℕ)) → Stripe
reading slots read = record { slots = λ c. slots c; held = λ c. read c }

pub sound_same : (s s' : Stripe) (c : ℕ) → s'.slots c ≡ s.slots c → s'.held c ≡ s.held c → Sound s c → Sound s' c
sound_same s s' c e h x = (x.0, record { digest = x.1.digest; live = e ∙ x.1.live; held = h ∙ x.1.held; right = x.1.right })

well_same : (s s' : Stripe) (c : ℕ) → s'.slots c ≡ s.slots c → s'.held c ≡ s.held c → IsWell s c → IsWell s' c
well_same s s' c e h (inl v) = inl (e ∙ v)
well_same s s' c e h (inr x) = inr (sound_same s s' c e h x)

unwell_same : (s s' : Stripe) (c : ℕ) → s'.slots c ≡ s.slots c → s'.held c ≡ s.held c → IsUnwell s c → IsUnwell s' c
unwell_same s s' c e h u = ((λ v. u.0 (sym e ∙ v)), (λ x. u.1 (sound_same s' s c (sym e) (sym h) x)))

not_sound : (s : Stripe) (c : ℕ) → s.held c ≡ None → Sound s c → ⊥
not_sound s c e x = none-some _ (sym e ∙ x.1.held)

pub void_live : {d : Digest} → Void ≡ Live d → ⊥
void_live e = absurd (cc)

void_lost : {d : Digest} → Void ≡ Lost d → ⊥
void_lost e = absurd (cc)

pub void_broken : {d : Digest} → Void ≡ Broken d → ⊥
void_broken e = absurd (cc)

live_lost : {d e : Digest} → Live d ≡ Lost e → ⊥
live_lost h = absurd (cc)

pub live_broken : {d e : Digest} → Live d ≡ Broken e → ⊥
live_broken h = absurd (cc)

pub lost_broken : {d e : Digest} → Lost d ≡ Broken e → ⊥
lost_broken h = absurd (cc)

total_step : (n : ℕ) (f : ℕ → ℕ) → total (suc n) f ≡ bit_xor (total n f) (f n)
unfolding total
total_step n f = refl

p_weight_one : (data_columns c : ℕ) → nat_le c data_columns ≡ true → p_weight data_columns c ≡ 1
unfolding p_weight
p_weight_one data_columns c e = ap (λ b. if b then 1 else 0) e

p_weight_none : (data_columns c : ℕ) → nat_le c data_columns ≡ false → p_weight data_columns c ≡ 0
unfolding p_weight
p_weight_none data_columns c e = ap (λ b. if b then 1 else 0) e

-- ONE SLOT

module _ (s : Stripe) (c : ℕ) (into : List ℕ) where
  part_found : (p : Part) → IsPart (s.slots c) into p → s.held c ≡ block_of into p → is_live (s.slots c) && is_missing p ≡ true
      → IsTrue (is_live (s.slots c)) × (Sound s c → ⊥)
  part_found part.Empty is last h = absurd (false≢true ((and_parts (is_live (s.slots c)) false h).1))
  part_found part.Present is last h = absurd (false≢true ((and_parts (is_live (s.slots c)) false h).1))
  part_found (part.Missing d) is last h = ((and_parts (is_live (s.slots c)) true h).0, not_sound s c last)
  part_found part.Broken is last h = absurd (false≢true ((and_parts (is_live (s.slots c)) false h).1))

  present_sound : IsPart (s.slots c) into part.Present → s.held c ≡ Some into → Sound s c
  present_sound is last = (into, record { digest = digest_of into; live = is.0; held = last; right = refl })

  part_left : (p : Part) → IsPart (s.slots c) into p → s.held c ≡ block_of into p → is_live (s.slots c) && is_missing p ≡ false
      → IsTrue (is_live (s.slots c)) → Sound s c
  part_left part.Empty is last h live = absurd (false≢true (sym (ap is_live is) ∙ live))
  part_left part.Present is last h live = present_sound is last
  part_left (part.Missing d) is last h live = absurd (both_ways _ h (and_from (is_live (s.slots c)) true live refl))
  part_left part.Broken is last h live = absurd (false≢true (sym (ap is_live is.1) ∙ live))

-- ONE COLUMN MORE

module _ (n : ℕ) (s : Stripe) (well : (c : ℕ) → c < n → IsWell s c) (last : IsWell s n) where
  all_well : (c : ℕ) → c < suc n → IsWell s c
  all_well c lt = elim (last_or c n lt) [ inl e ↦ subst (λ k. IsWell s k) (sym e) last | inr l ↦ well c l ]

taken_unvoid : (x : SlotState) (d : Digest) → (x ≡ Live d) ⊎ (x ≡ Lost d) → x ≢ Void
taken_unvoid x d (inl l) v = void_live (sym v ∙ l)
taken_unvoid x d (inr l) v = void_lost (sym v ∙ l)

-- a slot that gave no block is unwell
pub absent_unwell : (s : Stripe) (c : ℕ) (d : Digest) → IsAbsent s c d → IsUnwell s c
absent_unwell s c d a = (taken_unvoid (s.slots c) d a.0, a.1)

absent_same : (s s' : Stripe) (c : ℕ) (d : Digest) → s'.slots c ≡ s.slots c → s'.held c ≡ s.held c → IsAbsent s c d → IsAbsent s' c d
absent_same s s' c d e h a = (elim a.0 [ inl l ↦ inl (e ∙ l) | inr l ↦ inr (e ∙ l) ], λ y. a.1 (sound_same s' s c (sym e) (sym h) y))

short_same : (n : ℕ) (s s' : Stripe) → ((k : ℕ) → s'.slots k ≡ s.slots k) → ((k : ℕ) → k < n → s'.held k ≡ s.held k) → (shortage : Shortage) → IsShort n s shortage → IsShort n s' shortage
short_same n s s' e h Nothing x = λ c lt. well_same s s' c (e c) (h c lt) (x c lt)
short_same n s s' e h (One u d) x = (x.0, absent_same s s' u d (e u) (h u x.0) x.1, λ c lt ne. well_same s s' c (e c) (h c lt) (x.2 c lt ne))
short_same n s s' e h (Two u d k f) x = (
  x.0,
  x.1,
  absent_same s s' u d (e u) (h u (omega (arith, x.0, x.1))) x.2,
  absent_same s s' k f (e k) (h k x.1) x.3,
  λ c lt nu nk. well_same s s' c (e c) (h c lt) (x.4 c lt nu nk),
)
short_same n s s' e h More (inl b) = inl (b.0, b.1, b.2, e b.0 ∙ b.3)
short_same n s s' e h More (inr (c, j, k, cj, jk, lt, uc, uj, uk)) = inr (
  c,
  j,
  k,
  cj,
  jk,
  lt,
  unwell_same s s' c (e c) (h c (omega (arith, cj, jk, lt))) uc,
  unwell_same s s' j (e j) (h j (omega (arith, jk, lt))) uj,
  unwell_same s s' k (e k) (h k lt) uk,
)

module _ (n : ℕ) (s : Stripe) where
  short_well : (shortage : Shortage) → IsWell s n → IsShort n s shortage → IsShort (suc n) s shortage
  short_well Nothing w x = all_well n s x w
  short_well (One u d) w x = (omega (arith, x.0), x.1, λ c lt ne. elim (last_or c n lt) [ inl e ↦ subst (λ k. IsWell s k) (sym e) w | inr l ↦ x.2 c l ne ])
  short_well (Two u d k e) w x =
      (x.0, omega (arith, x.1), x.2, x.3, λ c lt nu nk. elim (last_or c n lt) [ inl e ↦ subst (λ k. IsWell s k) (sym e) w | inr l ↦ x.4 c l nu nk ])
  short_well More w (inl b) = inl (b.0, b.1, omega (arith, b.2), b.3)
  short_well More w (inr (c, j, k, cj, jk, lt, uc, uj, uk)) = inr (c, j, k, cj, jk, omega (arith, lt), uc, uj, uk)

  short_absent : (shortage : Shortage) (d : Digest) → IsAbsent s n d → IsShort n s shortage → IsShort (suc n) s (short_one shortage n d)
  short_absent Nothing d a x = (omega arith, a, λ c lt ne. elim (last_or c n lt) [ inl e ↦ absurd (ne e) | inr l ↦ x c l ])
  short_absent (One u e) d a x = (x.0, omega arith, x.1, a, λ c lt nu nn. elim (last_or c n lt) [ inl e ↦ absurd (nn e) | inr l ↦ x.2 c l nu ])
  short_absent (Two u e k f) d a x = inr (u, k, n, x.0, x.1, omega arith, absent_unwell s u e x.2, absent_unwell s k f x.3, absent_unwell s n d a)
  short_absent More d a (inl b) = inl (b.0, b.1, omega (arith, b.2), b.3)
  short_absent More d a (inr (c, j, k, cj, jk, lt, uc, uj, uk)) = inr (c, j, k, cj, jk, omega (arith, lt), uc, uj, uk)

  short_part : (shortage : Shortage) (into : List ℕ) (p : Part) → IsPart (s.slots n) into p → s.held n ≡ block_of into p → IsShort n s shortage → IsShort (suc n) s (short_by shortage n p)
  short_part shortage into part.Empty is last x = short_well shortage (inl is) x
  short_part shortage into part.Present is last x = short_well shortage (inr (present_sound s n into is last)) x
  short_part shortage into (part.Missing d) is last x = short_absent shortage d (is, not_sound s n last) x
  short_part shortage into part.Broken is last x = inl (n, is.0, omega arith, is.1)

module _ (slots : ℕ → SlotState) (n : ℕ) (read read' : ℕ → Option (List ℕ)) (same : (k : ℕ) → k < n → read' k ≡ read k) (into : List ℕ) (p : Part)
    (is : IsPart (slots n) into p) (last : read' n ≡ block_of into p) where
  pub find_more : (gone gone' : ℕ → Bool) → ((k : ℕ) → k < n → gone' k ≡ gone k) → gone' n ≡ is_live (slots n) && is_missing p
      → FindsGone n (reading slots read) gone → FindsGone (suc n) (reading slots read') gone'
  find_more gone gone' below here f = record {
    found = λ c lt h. elim (last_or c n lt) [
      | inl e ↦ subst (λ k. IsTrue (is_live (slots k)) × (Sound (reading slots read') k → ⊥)) (sym e) (part_found (reading slots read') n into p is last (sym here ∙ ap gone' (sym e) ∙ h))
      | inr l ↦ (let x : IsTrue (is_live (slots c)) × (Sound (reading slots read) c → ⊥) = f.found c l (sym (below c l) ∙ h) in
          (x.0, λ y. x.1 (sound_same (reading slots read') (reading slots read) c refl (sym (same c l)) y)))
    ];
    left = λ c lt h live. elim (last_or c n lt) [
      | inl e ↦ subst (λ k. Sound (reading slots read') k) (sym e)
          (part_left (reading slots read') n into p is last (sym here ∙ ap gone' (sym e) ∙ h) (ap (λ k. is_live (slots k)) (sym e) ∙ live))
      | inr l ↦ sound_same (reading slots read) (reading slots read') c refl (same c l) (f.left c l (sym (below c l) ∙ h) live)
    ];
  }

  pub short_more : (shortage : Shortage) → IsShort n (reading slots read) shortage → IsShort (suc n) (reading slots read') (short_by shortage n p)
  short_more shortage x =
      short_part n (reading slots read') shortage into p is last (short_same n (reading slots read) (reading slots read') (λ k. refl) same shortage x)

  pub lives_more : ((c : ℕ) (b : List ℕ) → c < n → read c ≡ Some b → slots c ≡ Live (digest_of b)) → (c : ℕ) (b : List ℕ) → c < suc n → read' c ≡ Some b → slots c ≡ Live (digest_of b)
  lives_more h c b lt e = elim (last_or c n lt) [
    | inl q ↦ subst (λ k. slots k ≡ Live (digest_of b)) (sym q) (lives_last p is last b (ap read' (sym q) ∙ e))
    | inr l ↦ h c b l (sym (same c l) ∙ e)
  ]
    where
      lives_last : (p : Part) → IsPart (slots n) into p → read' n ≡ block_of into p → (b : List ℕ) → read' n ≡ Some b → slots n ≡ Live (digest_of b)
      lives_last part.Empty is last b e = absurd (none-some _ (sym last ∙ e))
      lives_last part.Present is last b e = is.0 ∙ ap (λ x. Live (digest_of x)) (same_Some into b (sym last ∙ e))
      lives_last (part.Missing d) is last b e = absurd (none-some _ (sym last ∙ e))
      lives_last part.Broken is last b e = absurd (none-some _ (sym last ∙ e))

  -- a weighted sum grows by the block of the last column
  sum_more : (w : ℕ → ℕ) (sum sum' : List ℕ) → IsBlock sum' → ((k : ℕ) → get_or sum' k 0 ≡ bit_xor (get_or sum k 0) (byte_product (w n) (get_or (or_zeros (block_of into p)) k 0)))
      → IsSum n w read sum → IsSum (suc n) w read' sum'
  sum_more w sum sum' block grows x = record {
    block = block;
    bytes = λ k. grows k ∙ ap (λ z. bit_xor z (byte_product (w n) (get_or (or_zeros (block_of into p)) k 0))) (x.bytes k ∙ total_same n _ _ (λ c l. ap (λ o. byte_product (w c) (get_or (or_zeros o) k 0)) (sym (same c l))))
        ∙ ap (λ o. bit_xor (total n (λ c. byte_product (w c) (get_or (or_zeros (read' c)) k 0))) (byte_product (w n) (get_or (or_zeros o) k 0))) (sym last)
        ∙ sym (total_step n (λ c. byte_product (w c) (get_or (or_zeros (read' c)) k 0)));
  }

  -- where the last column gave no block nothing is added
  nothing : (w : ℕ) (sum : List ℕ) (k : ℕ) → get_or sum k 0 ≡ bit_xor (get_or sum k 0) (byte_product w (get_or zero_block k 0))
  nothing w sum k = sym (ap (bit_xor (get_or sum k 0)) (ap (byte_product w) (get_or-zero_block k) ∙ byte_product-zero_right w) ∙ xor_zero_r (get_or sum k 0))

  module _ (data_columns : ℕ) (sum : List ℕ) (block : IsBlock sum) where
    first_block : (b : Bool) → IsBlock into → IsBlock (if b then xor sum into else sum)
    first_block true i = IsBlock-xor sum into block i
    first_block false i = block

    first_bytes : (b : Bool) (w : ℕ) → IsBlock into → (b ≡ true → w ≡ 1) → (b ≡ false → w ≡ 0) → (k : ℕ) → get_or (if b then xor sum into else sum) k 0 ≡ bit_xor (get_or sum k 0) (byte_product w (get_or into k 0))
    first_bytes true w i one none k =
        get_or-xor sum into k (block.size ∙ sym i.size) ∙ ap (bit_xor (get_or sum k 0)) (sym (ap (λ z. byte_product z (get_or into k 0)) (one refl) ∙ byte_product-one_left (get_or into k 0) (i.bytes k)))
    first_bytes false w i one none k =
        sym (ap (bit_xor (get_or sum k 0)) (ap (λ z. byte_product z (get_or into k 0)) (none refl) ∙ byte_product-zero_left (get_or into k 0)) ∙ xor_zero_r (get_or sum k 0))

  first_more : (data_columns : ℕ) (sum : List ℕ) → IsSum n (p_weight data_columns) read sum → IsSum (suc n) (p_weight data_columns) read' (first_by data_columns n p sum into)
  first_more data_columns sum x = sum_more (p_weight data_columns) sum (first_by data_columns n p sum into) (grown_block p is) (grown p is) x
    where
      grown_block : (p : Part) → IsPart (slots n) into p → IsBlock (first_by data_columns n p sum into)
      grown_block part.Empty is = x.block
      grown_block part.Present is = first_block data_columns sum x.block (nat_le n data_columns) is.1
      grown_block (part.Missing d) is = x.block
      grown_block part.Broken is = x.block

      grown : (p : Part) → IsPart (slots n) into p → (k : ℕ) → get_or (first_by data_columns n p sum into) k 0 ≡ bit_xor (get_or sum k 0) (byte_product (p_weight data_columns n) (get_or (or_zeros (block_of into p)) k 0))
      grown part.Empty is k = nothing (p_weight data_columns n) sum k
      grown part.Present is k = first_bytes data_columns sum x.block (nat_le n data_columns) (p_weight data_columns n) is.1 (p_weight_one data_columns n) (p_weight_none data_columns n) k
      grown (part.Missing d) is k = nothing (p_weight data_columns n) sum k
      grown part.Broken is k = nothing (p_weight data_columns n) sum k

  second_more : (data_columns : ℕ) (sum : List ℕ) → IsSum n (q_weight data_columns) read sum → IsSum (suc n) (q_weight data_columns) read' (second_by data_columns n p sum into)
  second_more data_columns sum x = sum_more (q_weight data_columns) sum (second_by data_columns n p sum into) (grown_block p is) (grown p is) x
    where
      grown_block : (p : Part) → IsPart (slots n) into p → IsBlock (second_by data_columns n p sum into)
      grown_block part.Empty is = x.block
      grown_block part.Present is = IsBlock-xor sum (scaled (q_weight data_columns n) into) x.block (IsBlock-scaled (q_weight data_columns n) into is.1)
      grown_block (part.Missing d) is = x.block
      grown_block part.Broken is = x.block

      grown : (p : Part) → IsPart (slots n) into p → (k : ℕ) → get_or (second_by data_columns n p sum into) k 0 ≡ bit_xor (get_or sum k 0) (byte_product (q_weight data_columns n) (get_or (or_zeros (block_of into p)) k 0))
      grown part.Empty is k = nothing (q_weight data_columns n) sum k
      grown part.Present is k =
          get_or-xor sum (scaled (q_weight data_columns n) into) k (x.block.size ∙ sym (IsBlock-scaled (q_weight data_columns n) into is.1).size) ∙ ap (bit_xor (get_or sum k 0)) (get_or-scaled (q_weight data_columns n) into k)
      grown (part.Missing d) is k = nothing (q_weight data_columns n) sum k
      grown part.Broken is k = nothing (q_weight data_columns n) sum k

  pub sums_more : (data_columns parity : ℕ) (first second first' second' : List ℕ) → first' ≡ first_by data_columns n p first into → (parity ≡ 2 → second' ≡ second_by data_columns n p second into)
      → AreSums data_columns parity n read first second → AreSums data_columns parity (suc n) read' first' second'
  sums_more data_columns parity first second first' second' f g x = record {
    blocks = λ c lt. elim (last_or c n lt) [
      | inl e ↦ subst (λ k. IsBlock (or_zeros (read' k))) (sym e) (subst (λ o. IsBlock (or_zeros o)) (sym last) (last_block p is))
      | inr l ↦ subst (λ o. IsBlock (or_zeros o)) (sym (same c l)) (x.blocks c l)
    ];
    first = subst (λ s. IsSum (suc n) (p_weight data_columns) read' s) (sym f) (first_more data_columns first x.first);
    second = λ two. subst (λ s. IsSum (suc n) (q_weight data_columns) read' s) (sym (g two)) (second_more data_columns second (x.second two));
  }
    where
      last_block : (p : Part) → IsPart (slots n) into p → IsBlock (or_zeros (block_of into p))
      last_block part.Empty is = IsBlock-zero_block
      last_block part.Present is = is.1
      last_block (part.Missing d) is = IsBlock-zero_block
      last_block part.Broken is = IsBlock-zero_block

sum_none : (w : ℕ → ℕ) (read : ℕ → Option (List ℕ)) → IsSum 0 w read zero_block
unfolding total
sum_none w read = record { block = IsBlock-zero_block; bytes = λ k. get_or-zero_block k }

pub sums_none : (data_columns parity : ℕ) (read : ℕ → Option (List ℕ)) → AreSums data_columns parity 0 read zero_block zero_block
sums_none data_columns parity read = record { blocks = λ c lt. absurd (omega arith); first = sum_none (p_weight data_columns) read; second = λ two. sum_none (q_weight data_columns) read }

-- THE SAME STRIPE IN ANOTHER TABLE

module _ (slots slots' : ℕ → SlotState) (read : ℕ → Option (List ℕ)) (n : ℕ) (e : (c : ℕ) → c < n → slots' c ≡ slots c) where
  to_there : (c : ℕ) → c < n → Sound (reading slots read) c → Sound (reading slots' read) c
  to_there c lt x = sound_same (reading slots read) (reading slots' read) c (e c lt) refl x

  to_here : (c : ℕ) → c < n → Sound (reading slots' read) c → Sound (reading slots read) c
  to_here c lt x = sound_same (reading slots' read) (reading slots read) c (sym (e c lt)) refl x

  pub find_moved : (gone : ℕ → Bool) → FindsGone n (reading slots read) gone → FindsGone n (reading slots' read) gone
  find_moved gone f = record {
    found = λ c lt h. (let x : IsTrue (is_live (slots c)) × (Sound (reading slots read) c → ⊥) = f.found c lt h in (ap is_live (e c lt) ∙ x.0, λ y. x.1 (to_here c lt y)));
    left = λ c lt h live. to_there c lt (f.left c lt h (sym (ap is_live (e c lt)) ∙ live));
  }

module _ (data_columns parity : ℕ) (slots slots' : ℕ → SlotState) (read : ℕ → Option (List ℕ)) (e : (c : ℕ) → c < data_columns + parity → slots' c ≡ slots c) where
  here : (c : ℕ) → c < data_columns + parity → slots c ≡ slots' c
  here c lt = sym (e c lt)

  filling_there : HasFilling data_columns parity (reading slots read) → HasFilling data_columns parity (reading slots' read)
  filling_there f = (
    f.0,
    filling_stays data_columns parity (reading slots read) (reading slots' read) f.0 f.1 (λ c lt. ap digest_in (e c lt))
        (λ c b lt x. f.1.held c b lt (record { digest = x.digest; live = here c lt ∙ x.live; held = x.held; right = x.right })),
  )

  filling_here : HasFilling data_columns parity (reading slots' read) → HasFilling data_columns parity (reading slots read)
  filling_here f = (
    f.0,
    filling_stays data_columns parity (reading slots' read) (reading slots read) f.0 f.1 (λ c lt. ap digest_in (here c lt))
        (λ c b lt x. f.1.held c b lt (record { digest = x.digest; live = e c lt ∙ x.live; held = x.held; right = x.right })),
  )

  unsound_there : (test : ℕ → Bool) → FindsUnsound data_columns parity (reading slots read) test → FindsUnsound data_columns parity (reading slots' read) test
  unsound_there test f c lt = (
    λ h. unwell_same (reading slots read) (reading slots' read) c (e c lt) refl ((f c lt).0 h),
    λ w. (f c lt).1 (unwell_same (reading slots' read) (reading slots read) c (here c lt) refl w),
  )

  unsound_here : (test : ℕ → Bool) → FindsUnsound data_columns parity (reading slots' read) test → FindsUnsound data_columns parity (reading slots read) test
  unsound_here test f c lt = (
    λ h. unwell_same (reading slots' read) (reading slots read) c (here c lt) refl ((f c lt).0 h),
    λ w. (f c lt).1 (unwell_same (reading slots read) (reading slots' read) c (e c lt) refl w),
  )

  breaks_there : (test : ℕ → Bool) → BreaksStripe data_columns parity (reading slots read) test → BreaksStripe data_columns parity (reading slots' read) test
  breaks_there test b = record {
    none_broken = λ c d lt x. b.none_broken c d lt (here c lt ∙ x);
    no_filling = λ f. b.no_filling (filling_here f);
    few = (b.few.0, unsound_there b.few.0 b.few.1, b.few.2);
    which = elim b.which [
      | inl w ↦ inl (unsound_there test w.0, w.1, w.2, w.3)
      | inr w ↦ inr ((λ c lt. well_same (reading slots read) (reading slots' read) c (e c lt) refl (w.0 c lt)), w.1)
    ];
  }

  spared_there : (test : ℕ → Bool) → Spared data_columns parity (reading slots read) test → Spared data_columns parity (reading slots' read) test
  spared_there test b = record {
    none = b.none;
    why = elim b.why [
      | inl f ↦ inl (filling_there f)
      | inr refutes ↦ inr (λ none few. refutes (λ c d lt x. none c d lt (e c lt ∙ x)) (few.0, unsound_here few.0 few.1, few.2))
    ];
  }

  pub breaks_moved : (test : ℕ → Bool) → BreaksStripe data_columns parity (reading slots read) test ⊎ Spared data_columns parity (reading slots read) test
      → BreaksStripe data_columns parity (reading slots' read) test ⊎ Spared data_columns parity (reading slots' read) test
  breaks_moved test (inl b) = inl (breaks_there test b)
  breaks_moved test (inr b) = inr (spared_there test b)
