-- What one archive hears of a relay fits every content of the others.
use Rattle.std.proofs.Common.{◌≡◌, inl, inr, ℕ, ◌+◌, ◌<◌, ◌≤◌, List, length, map, Bool, true, false, bit_xor, get_or, refl, sym, ap, ◌∙◌, arith, if◌then◌else◌}
use Rattle.std.specs.Prelude.{slice_index, ◌^◌}
use Rattle.std.specs.List.{range_with_len}
use Rattle.std.proofs.lemmas.Bool.{cases_lt}
use Rattle.std.proofs.lemmas.List.{get_or_past}
use Rattle.std.proofs.lemmas.List.FromFn.{get_or-map-range_with_len, length-map-range_with_len}
use Rattle.std.proofs.lemmas.Nat.{xor_comm}
use Rattle.std.specs.Int.Bits.{xor_assoc}
use Rattle.pot_bytes.specs.Product.{byte_product}
use Rattle.pot_bytes.specs.Sums.{xor}
use Rattle.pot_bytes.proofs.ProductLemmas.{byte_product-below, byte_product-zero_right}
use Rattle.pot_bytes.proofs.TotalLemmas.{total_below, total_zero, xor_cancel}
use Rattle.pot_bytes.proofs.WeightedLemmas.{get_or-xor}
use Rattle.pot_machine.specs.declared.relay.Relay.{Relay}
use Rattle.pot_bytes.specs.Lists.{IsBlock}
use Rattle.pot_steps.specs.Stripe.{Stripe}
use Rattle.pot_steps.specs.Flight.{IsPartial, folded, partial_of, sum_where, weight_in}
use Rattle.pot_steps.specs.Listener.{AreFolded, ListenerFits, FlightHands}
use Rattle.pot_steps.proofs.BlockLemmas.{IsBlock-xor, same_blocks}
use Rattle.pot_steps.proofs.Solved.{heard}

-- THE PARTIAL OF ANY BLOCKS

module _ (data_columns parity : ℕ) (s : Stripe) (r : Relay) (blocks : ℕ → List ℕ) (are : AreFolded data_columns parity s r blocks) where
  abbrev pub byte : ℕ → ℕ
  byte k = sum_where (data_columns + parity) (folded data_columns s.slots r) (weight_in data_columns r) blocks k

  abbrev pub summed : List ℕ
  summed = map byte (range_with_len 0 1024)

  term : (b : Bool) (w x : ℕ) → (if b then byte_product w x else 0) < 2 ^ 8
  term true w x = byte_product-below w x
  term false w x = omega arith

  below : (k : ℕ) → byte k < 256
  below k = total_below 8 (data_columns + parity) _ (omega arith) (λ c lt. term (folded data_columns s.slots r c) (weight_in data_columns r c) (slice_index (blocks c) k))

  -- behind the last byte there are zeros
  behind : (k : ℕ) → 1024 ≤ k → byte k ≡ 0
  behind k le = total_zero (data_columns + parity) _ (λ c lt. none c (folded data_columns s.slots r c) refl lt)
    where
      none : (c : ℕ) (b : Bool) → folded data_columns s.slots r c ≡ b → c < data_columns + parity → (if b then byte_product (weight_in data_columns r c) (slice_index (blocks c) k) else 0) ≡ 0
      none c true e lt = ap (byte_product (weight_in data_columns r c)) (get_or_past (blocks c) k 0 (let z : length (blocks c) ≡ 1024 = (are c lt e).size in omega arith)) ∙ byte_product-zero_right (weight_in data_columns r c)
      none c false e lt = refl

  pub summed_is : IsPartial data_columns parity s r blocks summed
  summed_is k = elim (cases_lt k 1024) [
    | inl lt ↦ get_or-map-range_with_len byte 0 1024 k k 0 lt (omega arith)
    | inr ge ↦ get_or_past summed k 0 (rw (length-map-range_with_len byte 0 1024) ge) ∙ sym (behind k ge)
  ]

  pub summed_block : IsBlock summed
  summed_block = record {
    size = length-map-range_with_len byte 0 1024;
    bytes = λ k. rw (summed_is k) (below k);
  }

-- two partials of the same blocks are one
one_partial : (data_columns parity : ℕ) (s : Stripe) (r : Relay) (blocks : ℕ → List ℕ) (p q : List ℕ) → IsBlock p → IsBlock q
    → IsPartial data_columns parity s r blocks p → IsPartial data_columns parity s r blocks q → p ≡ q
one_partial data_columns parity s r blocks p q hp hq ip iq = same_blocks p q hp hq (λ k. ip k ∙ sym (iq k))

-- THE EXCHANGE

abbrev pub exchanged : List ℕ → List ℕ → List ℕ → List ℕ
exchanged p q blind = xor (xor blind p) q

module _ (p q : List ℕ) (hp : IsBlock p) (hq : IsBlock q) where
  exchanged_block : (blind : List ℕ) → IsBlock blind → IsBlock (exchanged p q blind)
  exchanged_block blind h = IsBlock-xor (xor blind p) q (IsBlock-xor blind p h hp) hq

  at : (blind : List ℕ) (k : ℕ) → IsBlock blind → get_or (exchanged p q blind) k 0 ≡ bit_xor (bit_xor (get_or blind k 0) (get_or p k 0)) (get_or q k 0)
  at blind k h = get_or-xor (xor blind p) q k ((IsBlock-xor blind p h hp).size ∙ sym hq.size) ∙ ap (λ z. bit_xor z (get_or q k 0)) (get_or-xor blind p k (h.size ∙ sym hp.size))

  twice : (a b c : ℕ) → bit_xor (bit_xor (bit_xor (bit_xor a b) c) b) c ≡ a
  twice a b c = ap (λ z. bit_xor z c) (ap (λ z. bit_xor z b) (xor_comm (bit_xor a b) c) ∙ xor_assoc c (bit_xor a b) b ∙ ap (bit_xor c) (xor_cancel a b) ∙ xor_comm c a) ∙ xor_cancel a c

  pub exchanged_twice : (blind : List ℕ) → IsBlock blind → exchanged p q (exchanged p q blind) ≡ blind
  exchanged_twice blind h = same_blocks (exchanged p q (exchanged p q blind)) blind (exchanged_block (exchanged p q blind) (exchanged_block blind h)) h (λ k.
      at (exchanged p q blind) k (exchanged_block blind h) ∙ ap (λ z. bit_xor (bit_xor z (get_or p k 0)) (get_or q k 0)) (at blind k h) ∙ twice (get_or blind k 0) (get_or p k 0) (get_or q k 0))

  -- the same sum
  pub exchanged_sum : (blind : List ℕ) → IsBlock blind → xor (exchanged p q blind) q ≡ xor blind p
  exchanged_sum blind h = same_blocks (xor (exchanged p q blind) q) (xor blind p) (IsBlock-xor (exchanged p q blind) q (exchanged_block blind h) hq) (IsBlock-xor blind p h hp) (λ k.
      get_or-xor (exchanged p q blind) q k ((exchanged_block blind h).size ∙ sym hq.size) ∙ ap (λ z. bit_xor z (get_or q k 0)) (at blind k h)
      ∙ xor_cancel (bit_xor (get_or blind k 0) (get_or p k 0)) (get_or q k 0) ∙ sym (get_or-xor blind p k (h.size ∙ sym hp.size)))

pub listener_fits : ListenerFits
listener_fits data_columns parity s r blocks others are also =
    let p : List ℕ = summed data_columns parity s r blocks are in
    let q : List ℕ = summed data_columns parity s r others also in
    let hp : IsBlock p = summed_block data_columns parity s r blocks are in
    let hq : IsBlock q = summed_block data_columns parity s r others also in
    let ip : IsPartial data_columns parity s r blocks p = summed_is data_columns parity s r blocks are in
    let iq : IsPartial data_columns parity s r others q = summed_is data_columns parity s r others also in
    record {
      partial = p;
      other = q;
      to = exchanged p q;
      is = λ blind. refl;
      partials = (ip, iq);
      block = exchanged_block p q hp hq;
      inverse = exchanged_twice p q hp hq;
      same = λ blind sum h. (
        λ x. (q, hq, iq, x.3 ∙ ap (xor blind) (one_partial data_columns parity s r blocks x.0 p x.1 hp x.2 ip) ∙ sym (exchanged_sum p q hp hq blind h)),
        λ x. (p, hp, ip, x.3 ∙ ap (xor (exchanged p q blind)) (one_partial data_columns parity s r others x.0 q x.1 hq x.2 iq) ∙ exchanged_sum p q hp hq blind h),
      );
    }

pub flight_hands : FlightHands
flight_hands data_columns parity s f x = (x.law.some.0, x.law.some.1, (partial_of f, x.law.is_block, x.law.some.2, sym (heard f.sum f.blind x.sum x.blind)))
