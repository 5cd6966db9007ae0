-- A stripe whose parity block was lost.
use Rattle.std.proofs.Common.{◌≡◌, ℕ, zero, suc, ◌<◌, ◌≤◌, List, [], ◌∷◌, Option, Some, None, refl, sym, ap, subst, arith, ◌∙◌, ◌⊎◌, inl}
use Rattle.std.specs.Prelude.{◌≢◌}
use Rattle.pot_bytes.specs.declared.digest.Digest.{Digest}
use Rattle.pot_bytes.specs.Digests.{digest_of}
use Rattle.pot_bytes.specs.Totals.{total}
use Rattle.pot_machine.specs.declared.relay.Relay.{Relay}
use Rattle.pot_machine.specs.declared.slot.SlotState.TheVariants.{Live, Lost, Broken}
use Rattle.pot_machine.specs.Slot.{digest_in}
use Rattle.pot_machine.specs.Table.{count, least, relay_at}
use Rattle.pot_steps.specs.Equations.{p_weight, sum_at}
use Rattle.pot_steps.specs.Holdings.{stripe_of}
use Rattle.pot_steps.specs.Law.{StripeLaw}
use Rattle.pot_steps.specs.Stripe.{Stripe, NoneBroken}
use Rattle.pot_world.specs.Group.{WorldGroup, lose, mend, put, put_within}
use Rattle.pot_world.specs.Kept.{IsKept}
use Rattle.pot_world.specs.Laws.{KeptHolds, LookKeeps, LoseKeeps, MendKeeps, PutKeepsWorld}
use Rattle.pot_world.specs.Reached.{EachGroup, ReachedKeeps, Reaches, at_group, first_group, first_groups, first_site}
use Rattle.law_examples.specs.Kept.{StripeKeepsParity, looked, three}
use Rattle.law_examples.specs.Sessions.{rack}
use Rattle.law_examples.proofs.Seeing.{is_rack, two}

two_three : 2 < 3
two_three = omega arith

sum_same : (blocks : ℕ → List ℕ) (x b : List ℕ) (k : ℕ) → blocks 0 ≡ x → blocks 1 ≡ b → sum_at 3 (p_weight 2) (three x b (blocks 2)) k ≡ sum_at 3 (p_weight 2) blocks k
unfolding total
sum_same blocks x b k e f =
    subst (λ (u : List ℕ). sum_at 3 (p_weight 2) (three u b (blocks 2)) k ≡ sum_at 3 (p_weight 2) blocks k) e
    (subst (λ (v : List ℕ). sum_at 3 (p_weight 2) (three (blocks 0) v (blocks 2)) k ≡ sum_at 3 (p_weight 2) blocks k) f refl)

parity_of : (s : Stripe) (relay : Option Relay) (x b : List ℕ) (d : Digest) → s.slots 0 ≡ Live (digest_of x) → s.slots 1 ≡ Live (digest_of b) → s.slots 2 ≡ Lost d → s.held 0 ≡ Some x → s.held 1 ≡ Some b → relay ≢ None → StripeLaw 2 1 s relay
    → (q : List ℕ) × (d ≡ digest_of q) × ((k : ℕ) → sum_at 3 (p_weight 2) (three x b q) k ≡ 0)
parity_of s relay x b d s0 s1 s2 h0 h1 some law =
    let f = law none_broken (inl some) in
    let e0 = f.1.held 0 x (omega arith) (record { digest = digest_of x; live = s0; held = h0; right = refl }) in
    let e1 = f.1.held 1 b (omega arith) (record { digest = digest_of b; live = s1; held = h1; right = refl }) in
    (f.0 2, sym (f.1.digest 2 d two_three (ap digest_in s2)), λ k. sum_same f.0 x b k e0 e1 ∙ f.1.p_sum k)
  where
    live : (d e : Digest) → Live d ≡ Broken e → ⊥
    live d e p = cc

    lost : (d e : Digest) → Lost d ≡ Broken e → ⊥
    lost d e p = cc

    none_broken : NoneBroken 2 1 s
    none_broken zero e l = λ p. live (digest_of x) e (sym s0 ∙ p)
    none_broken (suc zero) e l = λ p. live (digest_of b) e (sym s1 ∙ p)
    none_broken (suc (suc zero)) e l = λ p. lost d e (sym s2 ∙ p)
    none_broken (suc (suc (suc c))) e l = absurd (omega (arith, l))

pub keeps : ReachedKeeps → PutKeepsWorld → LoseKeeps → LookKeeps → MendKeeps → KeptHolds → StripeKeepsParity
unfolding EachGroup Reaches first_groups put_within least count at_group
keeps reach puts loses looks mends holds x b blind ix ib il =
    let first : IsKept (first_group rack 0) = (reach rack [] (first_site rack) is_rack refl).0.0 in
    let one = puts 1 x (first_group rack 0) ix first in
    let both = puts 1 b (put 1 x (first_group rack 0)).group ib one in
    let lost = loses 2 0 (put 1 b (put 1 x (first_group rack 0)).group).group both in
    let seen = looks 2 0 2 (lose 2 0 (put 1 b (put 1 x (first_group rack 0)).group).group) two two_three lost in
    let kept = mends 2 0 2 blind (looked x b) two two_three il seen in
    let g : WorldGroup = mend 2 0 2 blind (looked x b) in
    let law = holds g kept 0 two in
    let r = parity_of (stripe_of g.state.table g.state.held 0) (relay_at g.state.table 0) x b _ refl refl refl refl refl (λ e. absurd (some e)) law in
    record { q = r.0; digest = ap Some r.1; sum = r.2 }
  where
    some : {r : Relay} → Some r ≡ None → ⊥
    some e = cc
