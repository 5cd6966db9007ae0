-- The pure calls of a relay.
use Rattle.std.proofs.Common.{◌≡◌, ◌≢◌, inl, inr, ℕ, ◌+◌, ◌<◌, ◌≤◌, Bool, true, false, not, ◌&&◌, IsTrue, IsSomeAnd, Option, Some, None, List, [], ◌∷◌, ◌++◌, cond, refl, sym, ap, ap₂, ◌∙◌, subst, arith, nat_eq, nat_le, if◌then◌else◌}
use Rattle.std.specs.Prelude.{◌==◌, IsSome, is_some}
use Rattle.std.proofs.lemmas.Bool.Decides.{nat_tests}
use Rattle.pot_machine.specs.declared.relay.Relay.{Relay}
use Rattle.pot_machine.specs.declared.slot.SlotState.{SlotState}
use Rattle.pot_machine.specs.declared.slot.SlotState.TheVariants.{Void, Live, Lost, Broken}
use Rattle.pot_machine.specs.declared.entry.Entry.{Entry}
use Rattle.pot_machine.specs.declared.entry.Entry.TheVariants.{Hop, GaveUp, Oddly, Begin}
use Rattle.pot_machine.specs.Slot.{is_live, is_void, is_unsound, digest_in}
use Rattle.pot_machine.specs.Table.{Table, width, slot_at, relay_at, relay_in, next_column, skipped}
use Rattle.pot_machine.specs.Machine.{Legal, after}
use Rattle.pot_machine.specs.Rules.{IsTable, IsStanding}
use Rattle.std.proofs.Common.{bit_xor, get_or, length}
use Rattle.std.proofs.lemmas.List.{length-map}
use Rattle.std.specs.Int.Bits.{xor_assoc, xor_self, xor_zero_r, xor_zero_l}
use Rattle.std.proofs.lemmas.Nat.{xor_comm}
use Rattle.std.proofs.lemmas.Bool.{cases_eq}
use Rattle.pot_bytes.specs.declared.digest.Digest.{Digest}
use Rattle.pot_bytes.specs.Digests.{digest_bytes, digest_of}
use Rattle.pot_bytes.specs.Product.{byte_product}
use Rattle.pot_bytes.specs.Sums.{xor, zero_block}
use Rattle.pot_bytes.specs.Weighted.{scaled}
use Rattle.pot_bytes.proofs.ProductLemmas.{byte_product-one_left, byte_product-comm, byte_product-below}
use Rattle.pot_bytes.proofs.WeightedLemmas.{get_or-xor, get_or-scaled}
use Rattle.pot_gf.specs.Field.{inverse}
use Rattle.pot_gf.proofs.FieldLemmas.{byte_product-assoc, byte_product-inverse}
use Rattle.pot_bytes.specs.Lists.{IsBlock}
use Rattle.pot_steps.proofs.BlockLemmas.{IsBlock-zero_block, IsBlock-xor, IsBlock-scaled, get_or-zero_block, same_blocks}
use Rattle.pot_steps.specs.declared.flight.Flight.{Flight}
use Rattle.pot_steps.specs.Stripe.{Filling, NoneBroken}
use Rattle.pot_steps.specs.Flights.{IsFlying}
use Rattle.pot_steps.proofs.Rebuilt.{rebuilt}
use Rattle.pot_steps.specs.Flight.{partial_of, IsPartial, unfolded, IsRelay, IsNext, weight_in, left_out, visits}
use Rattle.pot_steps.specs.Flights.{begun_relay}
use Rattle.pot_steps.specs.Calls.{HopMeans}
use Rattle.pot_steps.specs.declared.rebuilding.Hopped.TheVariants as hopped
use Rattle.pot_steps.specs.Holdings.{Holdings, stripe_of}
use Rattle.pot_steps.proofs.Acting.{find_all}
use Rattle.pot_steps.proofs.Standing.{next_is_next, none_is_no_next, standing_is_relay}
use Rattle.pot_steps.proofs.Nonzero.{weight_positive}
use Rattle.pot_steps.proofs.WeightLemmas.{out_apart}

relay_begun : (relays : List Relay) (r : Relay) → relay_in relays r.stripe ≡ None → relay_in (relays ++ r ∷ []) r.stripe ≡ Some r
relay_begun [] r e = rw (itself r.stripe) refl
  where
    itself : (a : ℕ) → (a == a) ≡ true
    itself a = grind (arith, nat_tests)
relay_begun (x ∷ relays) r e = step (λ q. relay_begun relays r q) (x.stripe == r.stripe) e
  where
    step : (relay_in relays r.stripe ≡ None → relay_in (relays ++ r ∷ []) r.stripe ≡ Some r) → (b : Bool) → cond b (Some x) (relay_in relays r.stripe) ≡ None → cond b (Some x) (relay_in (relays ++ r ∷ []) r.stripe) ≡ Some r
    step rest true q = absurd (cc)
    step rest false q = rest q

-- the relay that Begin adds is found in its stripe
pub relay_found : (t u : Table) (job s c : ℕ) (o : Option Relay) → Legal t (Begin job s c) → u ≡ after t (Begin job s c) → o ≡ relay_at u s → o ≡ Some (begun_relay t s c)
relay_found t u job s c o takes e f = f ∙ ap (λ u. relay_at u s) e ∙ relay_begun t.relays (begun_relay t s c) takes.2

pub is_relay_found : (t u : Table) (job s c : ℕ) (o : Option Relay) → Legal t (Begin job s c) → u ≡ after t (Begin job s c) → o ≡ relay_at u s → IsSome o
is_relay_found t u job s c o takes e f = ap is_some (relay_found t u job s c o takes e f)

-- A RELAY THAT STANDS

module _ (t : Table) (r : Relay) (table : IsTable t) (here : relay_at t r.stripe ≡ Some r) where
  pub stands : IsStanding t r
  stands = find_all (IsStanding t) (λ q. q.stripe == r.stripe) t.relays r table.relays.standing here

  pub two_relay : IsRelay t.data_columns 2 r
  two_relay = let is : IsRelay t.data_columns t.parity r = standing_is_relay t r stands in record {
    target = (let l : r.target < t.data_columns + t.parity = is.target in omega (arith, l, table.size.parity.1));
    skip = λ u e. (let x : (u < t.data_columns + t.parity) × (u ≢ r.target) = is.skip u e in (omega (arith, x.0, table.size.parity.1), x.1));
    single = λ e. absurd (omega arith);
  }

  module _ (c : ℕ) (next : next_column t r ≡ Some c) where
    is_next : IsNext t.data_columns t.parity (stripe_of t (λ a b. None) r.stripe) r c
    is_next = next_is_next t (λ a b. None) r c next

    pub next_within : c < width t
    next_within = is_next.within

    seen : (a b v : Bool) → not a && (not b && not v) ≡ true → (a ≡ false) × (b ≡ false)
    seen true b v h = absurd (cc)
    seen false true v h = absurd (cc)
    seen false false v h = (refl, refl)

    apart : (nat_eq c r.target ≡ false) × (nat_eq c (left_out t.data_columns r.target r.skip) ≡ false)
    unfolding visits
    apart = seen (nat_eq c r.target) (nat_eq c (left_out t.data_columns r.target r.skip)) (is_void (slot_at t r.stripe c)) is_next.visited

    out_within : left_out t.data_columns r.target r.skip ≤ t.data_columns + 1
    unfolding left_out
    out_within = within r.skip refl
      where
        low : (w k : ℕ) → (if nat_le k w then w + 1 else w) ≤ w + 1
        low w k = grind (arith, nat_tests)

        within : (o : Option ℕ) → r.skip ≡ o → skipped t.data_columns o r.target ≤ t.data_columns + 1
        within None e = low t.data_columns r.target
        within (Some u) e = (let x : (u < t.data_columns + 2) × (u ≢ r.target) = two_relay.skip u e in omega (arith, x.0))

    pub next_positive : 0 < weight_in t.data_columns r c
    unfolding left_out
    next_positive = weight_positive t.data_columns r.target (left_out t.data_columns r.target r.skip) c table.size.data_columns.1
        (let l : r.target < t.data_columns + 2 = two_relay.target in omega (arith, l)) (omega (arith, out_within)) (omega (arith, next_within, table.size.parity.1))
        (out_is (left_out t.data_columns r.target r.skip) refl) (differ c (left_out t.data_columns r.target r.skip) apart.1)
      where
        differ : (a b : ℕ) → nat_eq a b ≡ false → a ≢ b
        differ a b h = grind (arith, nat_tests)

        out_is : (u : ℕ) → u ≡ left_out t.data_columns r.target r.skip → u ≢ r.target
        out_is u e = out_apart t.data_columns r u e two_relay

    pub legal_gave_up : (job : ℕ) → Legal t (GaveUp job r.stripe r.target c)
    legal_gave_up job = ((stands.stripe, stands.target), subst (λ o. IsSomeAnd o (λ r2. (r2.target ≡ r.target) × (next_column t r2 ≡ Some c))) (sym here) (refl, next))

    pub legal_hop : (job : ℕ) → IsTrue (is_live (slot_at t r.stripe c)) → Legal t (Hop job r.stripe c)
    legal_hop job live = ((stands.stripe, next_within), subst (λ o. IsSomeAnd o (λ r2. next_column t r2 ≡ Some c)) (sym here) next, live)

-- DIGESTS AND BLOCKS

pub is_digest : (d : Digest) (block : List ℕ) → d.bytes ≡ digest_bytes block → d ≡ digest_of block
unfolding digest_of
is_digest d block e = ap (λ b. made b) e
  where
    made : List ℕ → Digest
    made b = record { bytes = b }

pub unsound_digest : (x : SlotState) (d : Digest) → IsTrue (is_unsound x) → x ≡ Void → ⊥
unsound_digest x d u e = no (sym (ap is_unsound e) ∙ u)
  where
    no : false ≡ true → ⊥
    no e = cc

-- what was added to zeros
pub added_zero : (b : List ℕ) → IsBlock b → xor zero_block b ≡ b
added_zero b h = same_blocks (xor zero_block b) b (IsBlock-xor zero_block b IsBlock-zero_block h) h
    (λ k. get_or-xor zero_block b k (IsBlock-zero_block.size ∙ sym h.size) ∙ ap (λ z. bit_xor z (get_or b k 0)) (get_or-zero_block k) ∙ xor_zero_l (get_or b k 0))

-- a block that was folded is unfolded
pub unfolds : (w : ℕ) (sum b : List ℕ) → 0 < w → w < 256 → IsBlock sum → IsBlock b → unfolded w sum (xor sum (scaled w b)) ≡ b
unfolds w sum b pos small hs hb =
    let sb : IsBlock (scaled w b) = IsBlock-scaled w b hb in
    let ss : IsBlock (xor sum (scaled w b)) = IsBlock-xor sum (scaled w b) hs sb in
    let sx : IsBlock (xor (xor sum (scaled w b)) sum) = IsBlock-xor (xor sum (scaled w b)) sum ss hs in
    same_blocks (unfolded w sum (xor sum (scaled w b))) b (IsBlock-scaled (inverse w) (xor (xor sum (scaled w b)) sum) sx) hb (λ k.
    get_or-scaled (inverse w) (xor (xor sum (scaled w b)) sum) k
    ∙ ap (byte_product (inverse w)) (get_or-xor (xor sum (scaled w b)) sum k (ss.size ∙ sym hs.size)
    ∙ ap (λ z. bit_xor z (get_or sum k 0)) (get_or-xor sum (scaled w b) k (hs.size ∙ sym sb.size) ∙ ap (bit_xor (get_or sum k 0)) (get_or-scaled w b k) ∙ xor_comm (get_or sum k 0) (byte_product w (get_or b k 0)))
    ∙ xor_assoc (byte_product w (get_or b k 0)) (get_or sum k 0) (get_or sum k 0) ∙ ap (bit_xor (byte_product w (get_or b k 0))) (xor_self (get_or sum k 0)) ∙ xor_zero_r (byte_product w (get_or b k 0)))
    ∙ sym (byte_product-assoc (inverse w) w (get_or b k 0)) ∙ ap (λ z. byte_product z (get_or b k 0)) (byte_product-comm (inverse w) w ∙ byte_product-inverse w pos small) ∙ byte_product-one_left (get_or b k 0) (hb.bytes k))

pub unfold_is : (w : ℕ) (sum folded added zero : List ℕ) (v : ℕ) (into : List ℕ) → added ≡ xor folded sum → length added ≡ 1024 → zero ≡ zero_block → v ≡ inverse w → into ≡ xor zero (scaled v added) → into ≡ unfolded w sum folded
unfold_is w sum folded added zero v into ea le ez ev ei =
    ei ∙ ap₂ (λ z s. xor z s) ez (ap₂ scaled ev ea) ∙ added_zero (scaled (inverse w) (xor folded sum)) record {
      size = length-map (xor folded sum) (byte_product (inverse w)) ∙ ap length (sym ea) ∙ le;
      bytes = λ k. rw (get_or-scaled (inverse w) (xor folded sum) k) (byte_product-below (inverse w) (get_or (xor folded sum) k 0));
    }

-- FINISHING

pub unsound_at : (t : Table) (r : Relay) (x : SlotState) → IsTable t → relay_at t r.stripe ≡ Some r → x ≡ slot_at t r.stripe r.target → IsTrue (is_unsound x)
unsound_at t r x table here e = ap is_unsound e ∙ (stands t r table here).unsound

pub legal_oddly : (t : Table) (r : Relay) (job : ℕ) (found : Digest) → IsTable t → relay_at t r.stripe ≡ Some r → next_column t r ≡ None → digest_in (slot_at t r.stripe r.target) ≢ Some found → Legal t (Oddly job r.stripe r.target found)
legal_oddly t r job found table here next differs =
    (((stands t r table here).stripe, (stands t r table here).target), subst (λ o. IsSomeAnd o (λ r2. (r2.target ≡ r.target) × (next_column t r2 ≡ None))) (sym here) (refl, next), differs)

pub live_next : (o : Option ℕ) (c : ℕ) (P : ℕ → Type 0) → IsSomeAnd o P → o ≡ Some c → P c
live_next o c P h e = subst (λ o. IsSomeAnd o P) e h

-- a relay that ends at its next column, where what was added is no block of the slot's digest
pub hop_ends : (job : ℕ) (folded : List ℕ) (e : Entry) (old new : Table) (f : Flight) (c : ℕ) → next_column old f.relay ≡ Some c
    → IsSomeAnd (next_column old f.relay) (λ k. e ≡ GaveUp job f.relay.stripe f.relay.target k) → new ≡ after old e
    → digest_in (slot_at old f.relay.stripe c) ≢ Some (digest_of (unfolded (weight_in old.data_columns f.relay c) f.sum folded)) → HopMeans job folded (hopped.Ended e) old new f f
hop_ends job folded e old new f c next is table differs =
    subst (λ o. IsSomeAnd o (λ k. (e ≡ GaveUp job f.relay.stripe f.relay.target k) × (new ≡ after old e) × (f ≡ f)
    × (digest_in (slot_at old f.relay.stripe k) ≢ Some (digest_of (unfolded (weight_in old.data_columns f.relay k) f.sum folded))))) (sym next)
    (live_next (next_column old f.relay) c (λ k. e ≡ GaveUp job f.relay.stripe f.relay.target k) is next, table, refl, differs)

-- a relay that went over all its columns, whose target is Lost, has its digest
pub lost_rebuilt : (t : Table) (h : Holdings) (f : Flight) (d : Digest) → IsTable t → relay_at t f.relay.stripe ≡ Some f.relay → next_column t f.relay ≡ None
    → IsFlying t.data_columns t.parity (stripe_of t h f.relay.stripe) f → slot_at t f.relay.stripe f.relay.target ≡ Lost d → digest_of (partial_of f) ≡ d
lost_rebuilt t h f d table here next fly lost =
    let r : Relay = f.relay in
    let is : IsRelay t.data_columns t.parity f.relay = standing_is_relay t f.relay (stands t f.relay table here) in
    let filled : (blocks : ℕ → List ℕ) × Filling t.data_columns t.parity (stripe_of t h f.relay.stripe) blocks × IsPartial t.data_columns t.parity (stripe_of t h f.relay.stripe) f.relay blocks (partial_of f) = fly.law.filled none_broken in
    let same : partial_of f ≡ filled.0 f.relay.target = rebuilt t.data_columns t.parity table.size.parity.1 table.size.parity.0 table.size.data_columns.1 (stripe_of t h f.relay.stripe) f.relay filled.0 (partial_of f) is filled.1 fly.law.is_block (none_is_no_next t h f.relay next) filled.2 in
    ap digest_of same ∙ filled.1.digest f.relay.target d (stands t f.relay table here).target (ap digest_in lost)
  where
    none_broken : NoneBroken t.data_columns t.parity (stripe_of t h f.relay.stripe)
    none_broken k e lk b = elim (cases_eq k f.relay.target) [
      | inl q ↦ apart (sym lost ∙ sym (ap (λ k. slot_at t f.relay.stripe k) q) ∙ b)
      | inr ne ↦ fly.beside k e lk ne b
    ]
      where
        apart : Lost d ≡ Broken e → ⊥
        apart e = cc

-- so a relay that ends oddly has a Broken target
pub odd_broken : (t : Table) (h : Holdings) (f : Flight) (wanted : Digest) → IsTable t → relay_at t f.relay.stripe ≡ Some f.relay → next_column t f.relay ≡ None
    → IsFlying t.data_columns t.parity (stripe_of t h f.relay.stripe) f → digest_in (slot_at t f.relay.stripe f.relay.target) ≡ Some wanted → wanted ≢ digest_of (partial_of f)
    → slot_at t f.relay.stripe f.relay.target ≡ Broken wanted
odd_broken t h f wanted table here next fly digest differs = by (slot_at t f.relay.stripe f.relay.target) refl (stands t f.relay table here).unsound
  where
    some : (a b : Digest) → Some a ≡ Some b → a ≡ b
    some a b e = cc

    by : (x : SlotState) → slot_at t f.relay.stripe f.relay.target ≡ x → IsTrue (is_unsound (slot_at t f.relay.stripe f.relay.target)) → slot_at t f.relay.stripe f.relay.target ≡ Broken wanted
    by Void e u = absurd (let z : IsTrue (is_unsound Void) = sym (ap is_unsound e) ∙ u in cc)
    by (Live d) e u = absurd (let z : IsTrue (is_unsound (Live d)) = sym (ap is_unsound e) ∙ u in cc)
    by (Lost d) e u = absurd (differs (some wanted d (sym digest ∙ ap digest_in e) ∙ sym (lost_rebuilt t h f d table here next fly e)))
    by (Broken d) e u = e ∙ ap Broken (some d wanted (sym (ap digest_in e) ∙ digest))
