-- A group whose parity block was lost, and whose relay has begun.
use Rattle.std.specs.Prelude.{◌≡◌, ℕ, zero, suc, Some, List}
use Rattle.pot_bytes.specs.Digests.{digest_of}
use Rattle.pot_bytes.specs.Lists.{IsBlock}
use Rattle.pot_machine.specs.Slot.{digest_in}
use Rattle.pot_machine.specs.Table.{slot_at}
use Rattle.pot_steps.specs.Equations.{p_weight, sum_at}
use Rattle.pot_world.specs.Group.{WorldGroup, look, lose, mend, put}
use Rattle.pot_world.specs.Reached.{first_group}
use Rattle.law_examples.specs.Sessions.{rack}

-- x comes to column 0 and b to column 1; archive 2 loses the parity block, and a look misses it
abbrev pub looked : List ℕ → List ℕ → WorldGroup
looked x b =
    look 2 0 2 (lose 2 0 (put 1 b (put 1 x (first_group rack 0)).group).group)

abbrev pub three : List ℕ → List ℕ → List ℕ → ℕ → List ℕ
three x b q zero = x
three x b q (suc zero) = b
three x b q _ = q

-- The parity slot still has the digest of a block with which the XOR of the three is zero.
pub record HasParity (x b : List ℕ) (g : WorldGroup) : Type 0 where
  pub q : List ℕ
  pub digest : digest_in (slot_at g.state.table 0 2) ≡ Some (digest_of q)
  pub sum : (k : ℕ) → sum_at 3 (p_weight 2) (three x b q) k ≡ 0

abbrev pub StripeKeepsParity : Type 0
StripeKeepsParity =
    (x b blind : List ℕ) → IsBlock x → IsBlock b → IsBlock blind
    → HasParity x b (mend 2 0 2 blind (looked x b))
