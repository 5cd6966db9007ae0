-- A relay of a stripe, the weights of its columns, and the law of its flight.
use Rattle.std.specs.Prelude.{◌≡◌, ◌≢◌, ℕ, ◌+◌, ◌<◌, List, Option, Some, None, Bool, true, false}
use Rattle.std.specs.Prelude.{not, ◌&&◌, bit_xor, slice_index, nat_lt, nat_le, nat_eq}
use Rattle.std.specs.Prelude.{if◌then◌else◌}
use Rattle.pot_bytes.specs.declared.digest.Digest.{Digest}
use Rattle.pot_bytes.specs.Totals.{total}
use Rattle.pot_bytes.specs.Product.{byte_product}
use Rattle.pot_bytes.specs.Sums.{xor}
use Rattle.pot_bytes.specs.Weighted.{scaled}
use Rattle.pot_gf.specs.Field.{power, inverse}
use Rattle.pot_machine.specs.declared.slot.SlotState.{SlotState}
use Rattle.pot_machine.specs.declared.relay.Relay.{Relay}
use Rattle.pot_steps.specs.declared.flight.Flight.{Flight}
use Rattle.pot_machine.specs.Slot.{digest_in, is_void}
use Rattle.pot_machine.specs.Table.{skipped}
use Rattle.pot_bytes.specs.Lists.{IsBlock}
use Rattle.pot_steps.specs.Equations.{p_weight, q_weight}
use Rattle.pot_bytes.specs.Digests.{digest_of}
use Rattle.pot_steps.specs.Stripe.{Stripe, IsSound, Filling, NoneBroken}

-- the column that has weight 0 in a relay: its skip, and where it has none the parity column whose
-- equation it does not use
unfoldable pub left_out : ℕ → ℕ → Option ℕ → ℕ
left_out data_columns t skip = skipped data_columns skip t

-- What the equations of P and of Q are taken times, so that target `t` has weight 1 and column `u`
-- weight 0.
unfoldable pub q_times : ℕ → ℕ → ℕ → ℕ
q_times data_columns t u =
    if nat_lt t data_columns
    then (if nat_lt u data_columns then inverse (bit_xor (power 3 t) (power 3 u))
    else if nat_eq u data_columns then inverse (power 3 t) else 0)
    else if nat_eq t data_columns then (if nat_lt u data_columns then inverse (power 3 u) else 0)
    else 1

unfoldable pub p_times : ℕ → ℕ → ℕ → ℕ
p_times data_columns t u =
    if nat_lt t data_columns
    then (if nat_lt u data_columns then byte_product (q_times data_columns t u) (power 3 u)
    else if nat_eq u data_columns then 0 else 1)
    else if nat_eq t data_columns then 1
    else if nat_lt u data_columns then power 3 u else 0

-- the weight of column `c`: that of P for a data column and P, plus that of Q
unfoldable pub weight : ℕ → ℕ → ℕ → ℕ → ℕ
weight data_columns t u c =
    bit_xor (byte_product (p_times data_columns t u) (p_weight data_columns c))
    (byte_product (q_times data_columns t u) (q_weight data_columns c))

-- the weight of a column in a relay
abbrev pub weight_in : ℕ → Relay → ℕ → ℕ
weight_in data_columns r c = weight data_columns r.target (left_out data_columns r.target r.skip) c

-- the relay goes over this column on its way
unfoldable pub visits : ℕ → (ℕ → SlotState) → Relay → ℕ → Bool
visits data_columns slots r c =
    not (nat_eq c r.target)
    && (not (nat_eq c (left_out data_columns r.target r.skip)) && not (is_void (slots c)))

abbrev pub is_within : Option ℕ → ℕ → Bool
is_within None c = false
is_within (Some l) c = nat_le c l

-- the relay has gone over this column
unfoldable pub folded : ℕ → (ℕ → SlotState) → Relay → ℕ → Bool
folded data_columns slots r c = visits data_columns slots r c && is_within r.last c

-- byte `k` of the XOR of weight times block over the columns that pass the test
abbrev pub sum_where : ℕ → (ℕ → Bool) → (ℕ → ℕ) → (ℕ → List ℕ) → ℕ → ℕ
sum_where n test w blocks k =
    total n (λ c. if test c then byte_product (w c) (slice_index (blocks c) k) else 0)

-- the partial is the XOR of weight times block over the folded columns
abbrev pub IsPartial : ℕ → ℕ → Stripe → Relay → (ℕ → List ℕ) → List ℕ → Type 0
IsPartial data_columns parity s r blocks partial =
    (k : ℕ) → slice_index partial k
    ≡ sum_where (data_columns + parity) (folded data_columns s.slots r) (weight_in data_columns r)
    blocks k

-- a block for each folded column, of its slot's digest, and the one held where the slot is sound
pub record FoldsBlocks (data_columns parity : ℕ) (s : Stripe) (r : Relay)
    (blocks : ℕ → List ℕ) : Type 0 where
  pub block : (c : ℕ) → c < data_columns + parity → folded data_columns s.slots r c ≡ true
      → IsBlock (blocks c)
  pub digest : (c : ℕ) (d : Digest) → c < data_columns + parity
      → folded data_columns s.slots r c ≡ true → digest_in (s.slots c) ≡ Some d
      → digest_of (blocks c) ≡ d
  pub held : (c : ℕ) (b : List ℕ) → c < data_columns + parity
      → folded data_columns s.slots r c ≡ true → IsSound s c b → blocks c ≡ b

-- The law of a flight: there are such blocks whose sum is the partial, and where no slot is Broken,
-- those of one filling.
pub record FlightLaw (data_columns parity : ℕ) (s : Stripe) (r : Relay) (partial : List ℕ) : Type
    0 where
  pub is_block : IsBlock partial
  pub some : (blocks : ℕ → List ℕ) × FoldsBlocks data_columns parity s r blocks
      × IsPartial data_columns parity s r blocks partial
  pub filled : NoneBroken data_columns parity s
      → (blocks : ℕ → List ℕ) × Filling data_columns parity s blocks
      × IsPartial data_columns parity s r blocks partial

abbrev pub partial_of : Flight → List ℕ
partial_of f = xor f.sum f.blind

-- the relay's next column
pub record IsNext (data_columns parity : ℕ) (s : Stripe) (r : Relay) (c : ℕ) : Type 0 where
  pub within : c < data_columns + parity
  pub visited : visits data_columns s.slots r c ≡ true
  pub above : is_within r.last c ≡ false
  pub least : (k : ℕ) → k < c → visits data_columns s.slots r k ≡ true → is_within r.last k ≡ true

abbrev pub HasNoNext : ℕ → ℕ → Stripe → Relay → Type 0
HasNoNext data_columns parity s r =
    (k : ℕ) → k < data_columns + parity → visits data_columns s.slots r k ≡ true
    → is_within r.last k ≡ true

-- the relay after a hop over column `c`
abbrev pub hopped : Relay → ℕ → Relay
hopped r c = record r { last = Some c }

-- the relay's target and skip are two columns, and with one parity column it has no skip
pub record IsRelay (data_columns parity : ℕ) (r : Relay) : Type 0 where
  pub target : r.target < data_columns + parity
  pub skip : (u : ℕ) → r.skip ≡ Some u → (u < data_columns + parity) × (u ≢ r.target)
  pub single : parity ≡ 1 → r.skip ≡ None

-- the block that a fold with this weight added to a sum
abbrev pub unfolded : ℕ → List ℕ → List ℕ → List ℕ
unfolded w sum folded = scaled (inverse w) (xor folded sum)
