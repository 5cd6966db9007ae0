-- What the steps of a stripe keep.
use Rattle.std.specs.Prelude.{◌≡◌, ◌≢◌, ◌↔◌, ℕ, suc, ◌+◌, ◌<◌, ◌≤◌, List, Option, Some, None}
use Rattle.std.specs.Prelude.{bit_xor, slice_index, nat_eq, if◌then◌else◌}
use Rattle.pot_bytes.specs.declared.digest.Digest.{Digest}
use Rattle.pot_bytes.specs.Totals.{total}
use Rattle.pot_bytes.specs.Product.{byte_product}
use Rattle.pot_bytes.specs.Sums.{xor, zero_block}
use Rattle.pot_bytes.specs.Weighted.{scaled}
use Rattle.pot_machine.specs.declared.relay.Relay.{Relay}
use Rattle.pot_machine.specs.Slot.{digest_in}
use Rattle.pot_bytes.specs.Lists.{IsBlock}
use Rattle.pot_steps.specs.Equations.{sum_at, p_weight, q_weight}
use Rattle.pot_bytes.specs.Digests.{digest_of}
use Rattle.pot_steps.specs.Stripe.{Stripe, IsSound, Sound, Filling, HasFilling, NoneBroken, Whole}
use Rattle.pot_steps.specs.Stripe.{PutsIntoStripe}
use Rattle.pot_steps.specs.Law.{StripeLaw, Worse, Repairs, AllLive, SingleLaw, IsRead, Rebuildable}
use Rattle.pot_steps.specs.Law.{lost_count}
use Rattle.pot_steps.specs.Flight.{IsRelay, IsNext, HasNoNext, hopped, weight_in, FlightLaw}
use Rattle.pot_steps.specs.Decides.{Computed, IsStripeRead, StandsForSlot}

-- at most 16 data columns, and one or two parity columns
pub record FitsColumns (data_columns parity : ℕ) : Type 0 where
  pub small : data_columns ≤ 16
  pub few : parity ≤ 2
  pub one : 1 ≤ parity

-- a put keeps the law of its stripe
abbrev pub PutKeeps : Type 0
PutKeeps =
    (data_columns parity : ℕ) (s s' : Stripe) (c : ℕ) (block p q : List ℕ)
    → FitsColumns data_columns parity → AllLive data_columns parity s
    → PutsIntoStripe data_columns parity s s' c block p q → StripeLaw data_columns parity s None
    → StripeLaw data_columns parity s' None

-- a loss keeps it, and so does a slot that becomes Lost, a relay that ends, or an archive that
-- holds nothing yet
abbrev pub LossKeeps : Type 0
LossKeeps =
    (data_columns parity : ℕ) (s s' : Stripe) (relay relay' : Option Relay)
    → Worse data_columns parity s s' → (relay' ≢ None → relay ≢ None)
    → StripeLaw data_columns parity s relay → StripeLaw data_columns parity s' relay'

-- a loss keeps the law of a flight
abbrev pub LossKeepsFlight : Type 0
LossKeepsFlight =
    (data_columns parity : ℕ) (s s' : Stripe) (r : Relay) (partial : List ℕ)
    → Worse data_columns parity s s'
    → FlightLaw data_columns parity s r partial → FlightLaw data_columns parity s' r partial

-- a flight begins with a partial of zeros
abbrev pub BeginKeeps : Type 0
BeginKeeps =
    (data_columns parity : ℕ) (s : Stripe) (stripe t : ℕ) (skip : Option ℕ)
    → StripeLaw data_columns parity s None → lost_count data_columns parity s ≤ parity
    → FlightLaw data_columns parity s
    (record { stripe = stripe; target = t; skip = skip; last = None }) zero_block

-- a hop adds weight times block to the partial
abbrev pub HopKeeps : Type 0
HopKeeps =
    (data_columns parity : ℕ) (s : Stripe) (r : Relay) (c : ℕ) (b partial partial' : List ℕ)
    → IsNext data_columns parity s r c → IsSound s c b → IsBlock b → IsBlock partial'
    → ((k : ℕ)
    → slice_index partial' k
    ≡ bit_xor (slice_index partial k) (byte_product (weight_in data_columns r c) (slice_index b k)))
    → FlightLaw data_columns parity s r partial
    → FlightLaw data_columns parity s (hopped r c) partial'

-- a relay that ends well keeps the law of its stripe. With two parity columns it stands in a stripe
-- without a Broken slot
abbrev pub MendedKeeps : Type 0
MendedKeeps =
    (data_columns parity : ℕ) → FitsColumns data_columns parity
    → (s s' : Stripe) (r : Relay) (partial : List ℕ) → IsRelay data_columns parity r
    → HasNoNext data_columns parity s r
    → Repairs data_columns parity s s' r.target partial → FlightLaw data_columns parity s r partial
    → (parity ≡ 2 → NoneBroken data_columns parity s)
    → StripeLaw data_columns parity s' None

-- the partial of a relay with no next column is the target's block in a filling, and so has its
-- digest
abbrev pub RelayRebuilds : Type 0
RelayRebuilds =
    (data_columns parity : ℕ) → FitsColumns data_columns parity
    → (s : Stripe) (r : Relay) (partial : List ℕ) → IsRelay data_columns parity r
    → HasNoNext data_columns parity s r
    → FlightLaw data_columns parity s r partial → NoneBroken data_columns parity s
    → (blocks : ℕ → List ℕ) × Filling data_columns parity s blocks × (partial ≡ blocks r.target)

-- in a whole stripe both sums of the held blocks are zero. A Void slot counts as zeros
abbrev pub WholeSums : Type 0
WholeSums =
    (data_columns parity : ℕ) (s : Stripe) (relay : Option Relay)
    → StripeLaw data_columns parity s relay → Whole data_columns parity s
    → (blocks : ℕ → List ℕ) → ((c : ℕ) → c < data_columns + parity → IsRead s c (blocks c))
    → ((k : ℕ) → sum_at (data_columns + parity) (p_weight data_columns) blocks k ≡ 0)
    × (parity ≡ 2 → (k : ℕ) → sum_at (data_columns + parity) (q_weight data_columns) blocks k ≡ 0)

-- the stripe of a place that can be rebuilt has a filling
abbrev pub RebuildableFilled : Type 0
RebuildableFilled =
    (data_columns parity : ℕ) (s : Stripe) (relay : Option Relay) (c : ℕ)
    → StripeLaw data_columns parity s relay
    → Rebuildable data_columns parity s c → HasFilling data_columns parity s

-- with one parity column, a stripe that has a filling keeps the law that speaks of no filling
abbrev pub SingleParity : Type 0
SingleParity =
    (data_columns : ℕ) (s : Stripe) (blocks : ℕ → List ℕ) → HasFilling data_columns 1 s
    → SingleLaw data_columns s blocks

-- with one parity column and all columns read, a stripe has a filling exactly where the XOR of the
-- blocks is zero
abbrev pub SingleWhole : Type 0
SingleWhole =
    (data_columns : ℕ) (s : Stripe) (base : ℕ → List ℕ) → data_columns ≤ 16
    → ((c : ℕ) → c ≤ data_columns → IsBlock (base c) × IsRead s c (base c))
    → HasFilling data_columns 1 s
    ↔ ((k : ℕ) → total (suc data_columns) (λ c. slice_index (base c) k) ≡ 0)

-- and with all columns but one read, exactly where the XOR of the others' blocks has the digest of
-- that one
abbrev pub SingleBut : Type 0
SingleBut =
    (data_columns u : ℕ) (s : Stripe) (base : ℕ → List ℕ) (d : Digest) (rest : List ℕ)
    → data_columns ≤ 16 → u ≤ data_columns → digest_in (s.slots u) ≡ Some d
    → (Sound s u → ⊥)
    → ((c : ℕ) → c ≤ data_columns → c ≢ u → IsBlock (base c) × IsRead s c (base c)) → IsBlock rest
    → ((k : ℕ)
    → slice_index rest k
    ≡ total (suc data_columns) (λ c. if nat_eq c u then 0 else slice_index (base c) k))
    → HasFilling data_columns 1 s ↔ (digest_of rest ≡ d)

-- two columns, of which the second need not be one of the stripe where there is one parity column
pub record AreDistinctColumns (data_columns parity t u : ℕ) : Type 0 where
  pub target : t < data_columns + parity
  pub other : u ≤ suc data_columns
  pub apart : u ≢ t
  pub single : parity ≡ 1 → data_columns < u

-- every filling has the computed block
abbrev pub FillingComputed : Type 0
FillingComputed =
    (data_columns parity : ℕ) → FitsColumns data_columns parity
    → (s : Stripe) (t u : ℕ) (base : ℕ → List ℕ) → AreDistinctColumns data_columns parity t u
    → IsStripeRead data_columns parity s t u base → (f : ℕ → List ℕ) (x : List ℕ)
    → Filling data_columns parity s f → Computed data_columns parity t u base x → x ≡ f t

-- and computed blocks that serve make one
abbrev pub ComputedFilling : Type 0
ComputedFilling =
    (data_columns parity : ℕ) → FitsColumns data_columns parity
    → (s : Stripe) (t u : ℕ) (base : ℕ → List ℕ) → AreDistinctColumns data_columns parity t u
    → IsStripeRead data_columns parity s t u base → (x y : List ℕ)
    → Computed data_columns parity t u base x
    → (parity ≡ 2 → Computed data_columns parity u t base y)
    → StandsForSlot s t x → (parity ≡ 2 → StandsForSlot s u y) → HasFilling data_columns parity s

-- the partial after a hop, where the blind is taken out of the sum
abbrev pub SumGrows : Type 0
SumGrows =
    (sum blind b : List ℕ) (w k : ℕ) → IsBlock sum → IsBlock blind → IsBlock b → w < 256
    → slice_index (xor (xor sum (scaled w b)) blind) k
    ≡ bit_xor (slice_index (xor sum blind) k) (byte_product w (slice_index b k))

-- a sum that is the blind alone has a partial of zeros
abbrev pub SumBegins : Type 0
SumBegins = (blind : List ℕ) → IsBlock blind → xor blind blind ≡ zero_block

-- the sum that an archive hears at a hop is the blind XOR the partial
abbrev pub HeardIsBlinded : Type 0
HeardIsBlinded =
    (sum blind : List ℕ) → IsBlock sum → IsBlock blind → xor blind (xor sum blind) ≡ sum
