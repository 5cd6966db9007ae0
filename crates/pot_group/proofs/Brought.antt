-- An archive that comes to a group.
use Rattle.std.proofs.Common.{◌≡◌, ◌≢◌, inl, inr, ℕ, ◌+◌, ◌-◌, ◌^◌, ◌<◌, ◌≤◌, List, [], ◌∷◌, refl, sym, ap, ap₂, ◌∙◌, subst, arith}
use Rattle.std.specs.Prelude.{Contains}
use Rattle.std.proofs.lemmas.Bool.{cases_eq}
use Rattle.pot_bytes.proofs.Elements.{contains_front}
use Rattle.pot_outside.specs.Archives.{Meaning}
use Rattle.pot_outside.specs.Counts.{Rose}
use Rattle.pot_machine.specs.Table.{width, serving_at}
use Rattle.pot_steps.specs.Flights.{Stands}
use Rattle.pot_steps.proofs.Acting.{loss_keeps_all}
use Rattle.pot_steps.proofs.Losses.{losses_keep_live}
use Rattle.pot_shelves.specs.Shelves.{Shelves, Brings}
use Rattle.pot_group.specs.Causes.{Covers, HasLost, risen, archives_of, faults_in}
use Rattle.pot_group.specs.Group.{GroupView, IsSettled, LostSince}
use Rattle.pot_group.proofs.CauseLemmas.{WhereMissed-mono}
use Rattle.pot_group.proofs.Reading.{served}
use Rattle.pot_group.proofs.Framing.{framed_brings}
use Rattle.pot_group.proofs.Hearing.{heard_brings}
use Rattle.pot_group.proofs.Settled.{stands_in}

-- WHAT A GROUP KEEPS

module _ (told : Type 0) (g : GroupView) (number : ℕ) (meant : Meaning) (s : Shelves) (settled : IsSettled told g) (fresh : Contains g.shelves.numbers number → ⊥) (b : Brings told number meant g.shelves s) where
  -- no slot is served by it
  apart : (n k : ℕ) → k < width g.table → serving_at g.table n k ≢ number
  apart n k lk e = fresh (subst (λ m. Contains g.shelves.numbers m) e (served told g settled n k lk))

  no_rise : (x y : ℕ) → x ≡ 0 → y ≡ 0 → Rose x y → ⊥
  no_rise x y ex ey (inl l) = omega arith
  no_rise x y ex ey (inr l) = omega arith

  rose_on : (n : ℕ) → LostSince g.shelves n → LostSince s n
  rose_on n r = elim (cases_eq n number) [
    | inl e ↦ absurd (no_rise (g.shelves.losses_taken number) (g.shelves.losses number) b.absent.3 b.absent.2 (subst (λ m. LostSince g.shelves m) e r))
    | inr ne ↦ subst (λ x. Rose x (s.losses n)) (sym (b.same_losses n ne).1) (subst (λ y. Rose (g.shelves.losses_taken n) y) (sym (b.same_losses n ne).0) r)
  ]

  same_risen : (ns : List ℕ) → risen s ns ≡ risen g.shelves ns
  same_risen [] = refl
  same_risen (n ∷ ns) = ap₂ (λ x y. x + y) (elim (cases_eq n number) [
    | inl e ↦ subst (λ m. s.faults m - s.faults_taken m ≡ g.shelves.faults m - g.shelves.faults_taken m) (sym e) (nothing (s.faults number) (s.faults_taken number) (g.shelves.faults number) (g.shelves.faults_taken number) b.marked b.absent.0)
    | inr ne ↦ ap₂ (λ x y. x - y) (b.same_faults n ne).0 (b.same_faults n ne).1
  ]) (same_risen ns)
    where
      nothing : (x y u v : ℕ) → y ≡ x → u ≡ 0 → x - y ≡ u - v
      nothing x y u v e z = omega arith

  covers_on : (ns : List ℕ) (k : ℕ) → Covers g.shelves ns k → Covers s ns k
  covers_on ns k (inl top) = elim (cases_eq top.0 number) [
    | inl e ↦ absurd (let z : g.shelves.faults top.0 ≡ 0 = ap g.shelves.faults e ∙ b.absent.0 in omega (arith, top.2))
    | inr ne ↦ inl (top.0, top.1, subst (λ x. 2 ^ 64 - 1 ≤ x) (sym (b.same_faults top.0 ne).0) top.2)
  ]
  covers_on ns k (inr le) = inr (subst (λ x. k ≤ x) (sym (same_risen ns)) le)

  pub held_same : (n k : ℕ) → k < width g.table → s.held (serving_at g.table n k) n ≡ g.shelves.held (serving_at g.table n k) n
  held_same n k lk = b.same_held (serving_at g.table n k) n (apart n k lk)

  stands_on : told → Stands g.table s.held g.flights
  stands_on t = loss_keeps_all g.table g.flights g.shelves.held s.held (λ n k x ln lk live e. sym (held_same n k lk) ∙ e) (stands_in told g settled t)

  pub settled_brings : IsSettled told (record g { shelves = s })
  settled_brings = record {
    blinds = settled.blinds;
    tried = settled.tried;
    heard = (λ t. heard_brings told g.first g.log g.blinds g.flights number meant g.shelves s b (settled.heard t));
    frame = (λ t. framed_brings told g.first g.log number meant g.shelves s b (settled.frame t));
    replay = settled.replay;
    table = settled.table;
    relays = settled.relays;
    bound = settled.bound;
    shelves = (λ c n lc e. subst (λ ns. Contains ns n) (sym b.numbers) (contains_front g.shelves.numbers (number ∷ []) n (settled.shelves c n lc e)));
    serves = settled.serves;
    sizes = settled.sizes;
    faults = (λ n. elim (cases_eq n number) [
      | inl e ↦ subst (λ m. s.faults_taken m ≤ s.faults m) (sym e) (subst (λ x. x ≤ s.faults number) (sym b.marked) (omega arith))
      | inr ne ↦ omega (arith, settled.faults n, (b.same_faults n ne).0, (b.same_faults n ne).1)
    ]);
    losses = (λ t n. elim (cases_eq n number) [
      | inl e ↦ subst (λ m. s.losses_taken m ≤ s.losses m) (sym e) (subst (λ x. x ≤ s.losses number) (sym (b.marked_losses t)) (omega arith))
      | inr ne ↦ omega (arith, settled.losses t n, (b.same_losses n ne).0, (b.same_losses n ne).1)
    ]);
    opened_faults = (λ n. elim (cases_eq n number) [
      | inl e ↦ subst (λ m. s.faults_opened m ≤ s.faults m) (sym e) (subst (λ x. x ≤ s.faults number) (sym b.opened) (omega arith))
      | inr ne ↦ omega (arith, settled.opened_faults n, (b.same_faults n ne).0, (b.same_opened n ne).0)
    ]);
    opened_losses = (λ t n. elim (cases_eq n number) [
      | inl e ↦ subst (λ m. s.losses_opened m ≤ s.losses m) (sym e) (subst (λ x. x ≤ s.losses number) (sym (b.opened_losses t)) (omega arith))
      | inr ne ↦ omega (arith, settled.opened_losses t n, (b.same_losses n ne).0, (b.same_opened n ne).1)
    ]);
    holds = (λ t. (stands_on t).holds);
    flying = (λ t. (stands_on t).flying);
    live = (λ t. losses_keep_live (LostSince g.shelves) (LostSince s) g.table g.shelves.held s.held rose_on (record { keeps = (λ n c x ln lc nv e. inl (held_same n c lc ∙ e)) }) (settled.live t));
    causes = record {
      faults = (λ c lc. covers_on (archives_of g.first g.log c) (faults_in g.first.data_columns c g.log) (settled.causes.faults c lc));
      losses = (λ t c lc. WhereMissed-mono g.first g.log c (HasLost g.shelves (archives_of g.first g.log c)) (HasLost s (archives_of g.first g.log c))
          (λ h. (h.0, h.1, rose_on h.0 h.2)) (settled.causes.losses t c lc));
    };
  }
