-- With one parity column, a stripe that was read but for one column at most has a filling exactly
-- where the XOR of what was read says so.
use Rattle.std.proofs.Common.{◌≡◌, ◌≢◌, ◌⊎◌, inl, inr, ℕ, suc, ◌≤◌, bit_xor, sym, ap, ap₂, ◌∙◌, subst, arith, List, Some, None, get_or, nat_eq, if◌then◌else◌}
use Rattle.std.proofs.lemmas.Bool.Decides.{nat_tests}
use Rattle.std.specs.Int.Bits.{xor_self, xor_zero_l}
use Rattle.pot_bytes.specs.declared.digest.Digest.{Digest}
use Rattle.pot_bytes.specs.Totals.{total}
use Rattle.pot_bytes.proofs.TotalLemmas.{total_change}
use Rattle.pot_machine.specs.declared.slot.SlotState.{SlotState}
use Rattle.pot_machine.specs.declared.slot.SlotState.TheVariants.{Void}
use Rattle.pot_machine.specs.Slot.{digest_in}
use Rattle.pot_bytes.specs.Lists.{IsBlock}
use Rattle.pot_bytes.specs.Digests.{digest_of}
use Rattle.pot_steps.specs.Stripe.{Stripe, Sound, Filling}
use Rattle.pot_steps.specs.Law.{IsRead}
use Rattle.pot_steps.specs.Decides.{StandsForSlot}
use Rattle.pot_steps.specs.Laws.{SingleWhole, SingleBut}
use Rattle.pot_steps.proofs.Decides.{read_serves}
use Rattle.pot_steps.proofs.PutLaw.{plain, single_law}

-- blocks that serve, and whose XOR is zero, are a filling
plain_filling : (data_columns : ℕ) (s : Stripe) (f : ℕ → List ℕ) → ((c : ℕ) → c ≤ data_columns → IsBlock (f c)) → ((c : ℕ) → c ≤ data_columns → StandsForSlot s c (f c))
    → ((k : ℕ) → total (suc data_columns) (λ c. get_or (f c) k 0) ≡ 0) → Filling data_columns 1 s f
plain_filling data_columns s f block serves sum = record {
  block = λ c lt. block c (omega arith);
  void = λ c lt. (serves c (omega arith)).void;
  digest = λ c d lt. (serves c (omega arith)).digest d;
  held = λ c b lt. (serves c (omega arith)).held b;
  p_sum = λ k. sym (plain data_columns f block k) ∙ sum k;
  q_sum = λ two. absurd (omega arith);
}

pub single_whole : SingleWhole
single_whole data_columns s base small read = (
  (λ f. (single_law data_columns s f.0 base f.1).whole (λ c le. (read c le).1)),
  λ sum. (base, plain_filling data_columns s base (λ c le. (read c le).0) (λ c le. read_serves s c (base c) (read c le).1) sum),
)

-- the XOR of the others in the place of the column that was not read
module _ (data_columns u : ℕ) (s : Stripe) (base : ℕ → List ℕ) (d : Digest) (rest : List ℕ) (le : u ≤ data_columns) (has : digest_in (s.slots u) ≡ Some d) (unsound : Sound s u → ⊥)
    (read : (c : ℕ) → c ≤ data_columns → c ≢ u → IsBlock (base c) × IsRead s c (base c)) (block : IsBlock rest)
    (is : (k : ℕ) → get_or rest k 0 ≡ total (suc data_columns) (λ c. if nat_eq c u then 0 else get_or (base c) k 0)) (right : digest_of rest ≡ d) where
  with_rest : ℕ → List ℕ
  with_rest c = if nat_eq c u then rest else base c

  rest_here : with_rest u ≡ rest
  unfolding with_rest
  rest_here = at u rest (base u)
    where
      at : (u : ℕ) (x y : List ℕ) → (if nat_eq u u then x else y) ≡ x
      at u x y = grind (arith, nat_tests)

  base_else : (c : ℕ) → c ≢ u → with_rest c ≡ base c
  unfolding with_rest
  base_else c ne = at c u rest (base c) ne
    where
      at : (c u : ℕ) (x y : List ℕ) → c ≢ u → (if nat_eq c u then x else y) ≡ y
      at c u x y ne = grind (arith, nat_tests)

  each : (P : ℕ → List ℕ → Type 0) → P u rest → ((c : ℕ) → c ≤ data_columns → c ≢ u → P c (base c)) → (c : ℕ) → c ≤ data_columns → P c (with_rest c)
  each P here others c lt = elim (same_or c u) [
    | inl e ↦ subst (λ c. P c (with_rest c)) (sym e) (subst (P u) (sym rest_here) here)
    | inr ne ↦ subst (P c) (sym (base_else c ne)) (others c lt ne)
  ]
    where
      same_or : (k c : ℕ) → (k ≡ c) ⊎ (k ≢ c)
      same_or k c = grind arith

  rest_serves : StandsForSlot s u rest
  rest_serves = record {
    void = λ e. absurd (apart (s.slots u) e has);
    digest = λ x e. right ∙ some_same d x (sym has ∙ e);
    held = λ b x. absurd (unsound (b, x));
  }
    where
      apart : (x : SlotState) → x ≡ Void → digest_in x ≡ Some d → ⊥
      apart x e h = no_some (sym (ap digest_in e) ∙ h)
        where
          no_some : None ≡ Some d → ⊥
          no_some e = cc

      some_same : (a b : Digest) → Some a ≡ Some b → a ≡ b
      some_same a b h = cc

  sum : (k : ℕ) → total (suc data_columns) (λ c. get_or (with_rest c) k 0) ≡ 0
  sum k =
      let others : ℕ → ℕ = λ c. if nat_eq c u then 0 else get_or (base c) k 0 in
      total_change (suc data_columns) others (λ c. get_or (with_rest c) k 0) u (omega arith) (λ c lt ne. ap (λ b. get_or b k 0) (base_else c ne) ∙ sym (other c (get_or (base c) k 0) ne))
      ∙ ap (bit_xor (total (suc data_columns) others))
      (ap₂ bit_xor (none (get_or (base u) k 0)) (ap (λ b. get_or b k 0) rest_here ∙ is k) ∙ xor_zero_l (total (suc data_columns) others))
      ∙ xor_self (total (suc data_columns) others)
    where
      none : (x : ℕ) → (if nat_eq u u then 0 else x) ≡ 0
      none x = grind (arith, nat_tests)

      other : (c x : ℕ) → c ≢ u → (if nat_eq c u then 0 else x) ≡ x
      other c x ne = grind (arith, nat_tests)

  rest_filling : Filling data_columns 1 s with_rest
  rest_filling = plain_filling data_columns s with_rest (each (λ c b. IsBlock b) block (λ c le ne. (read c le ne).0))
      (each (λ c b. StandsForSlot s c b) rest_serves (λ c le ne. read_serves s c (base c) (read c le ne).1)) sum

pub single_but : SingleBut
single_but data_columns u s base d rest small le has unsound read block is = (
  (λ f. (single_law data_columns s f.0 base f.1).but_one u d le has (λ c le ne. (read c le ne).1) rest block is),
  λ right. (
    with_rest data_columns u s base d rest le has unsound read block is right,
    rest_filling data_columns u s base d rest le has unsound read block is right,
  ),
)
