-- The law of the Live slots is kept.
use Rattle.std.proofs.Common.{◌≡◌, ◌≢◌, ◌⊎◌, inl, inr, ℕ, ◌+◌, ◌<◌, ◌≤◌, List, Some, Bool, true, false, IsTrue, refl, sym, ap, ◌∙◌, subst, arith}
use Rattle.std.proofs.lemmas.Bool.{cases_eq}
use Rattle.pot_bytes.specs.declared.digest.Digest.{Digest}
use Rattle.pot_bytes.specs.Sums.{xor}
use Rattle.pot_bytes.specs.Weighted.{scaled}
use Rattle.pot_gf.specs.Field.{power}
use Rattle.pot_machine.specs.declared.slot.SlotState.{SlotState}
use Rattle.pot_machine.specs.declared.slot.SlotState.TheVariants.{Void, Live, Lost, Broken}
use Rattle.pot_machine.specs.declared.entry.Entry.TheVariants.{Put, Skip, Seen, Gone, Broke, Fault, Counted, Put2}
use Rattle.pot_machine.specs.Slot.{is_live, lost_of, broken_of, parity_slot}
use Rattle.pot_machine.specs.Table.{Table, width, slot_at, serving_at}
use Rattle.pot_machine.specs.Machine.{TakesPut, with_slot, with_put, with_loss}
use Rattle.pot_machine.specs.Rules.{IsTable}
use Rattle.pot_machine.proofs.Places.{slot_after}
use Rattle.pot_machine.proofs.Kept.{put_other, put_data, put_parity, put2_other, put2_second}
use Rattle.pot_bytes.specs.Digests.{digest_of}
use Rattle.pot_steps.specs.Stripe.{Sound}
use Rattle.pot_steps.specs.Holdings.{Holdings, LiveLaw, stripe_of}
use Rattle.pot_steps.specs.Entries.{held_at, WritesStripe}
use Rattle.pot_steps.specs.GroupStep.{as_read}
use Rattle.pot_steps.specs.Losses.{KeepsHeld, LossesKeepLive, EntryKeepsLive, StartMakesLive}
use Rattle.pot_steps.proofs.Entries.{column}
use Rattle.pot_steps.proofs.Opening.{slots, live-opened, result}

-- a slot that is Live has a digest
live : (x : SlotState) → IsTrue (is_live x) → (d : Digest) × (x ≡ Live d)
live Void e = absurd (cc)
live (Live d) e = (d, refl)
live (Lost d) e = absurd (cc)
live (Broken d) e = absurd (cc)

live_void : (x : SlotState) (d : Digest) → x ≡ Live d → x ≢ Void
live_void x d e v = apart (sym e ∙ v)
  where
    apart : Live d ≡ Void → ⊥
    apart e = cc

lost_live : (x : SlotState) (d : Digest) → lost_of x ≡ Live d → ⊥
lost_live Void d e = cc
lost_live (Live _) d e = cc
lost_live (Lost _) d e = cc
lost_live (Broken _) d e = cc

broken_live : (x : SlotState) (d : Digest) → broken_of x ≡ Live d → ⊥
broken_live Void d e = cc
broken_live (Live _) d e = cc
broken_live (Lost _) d e = cc
broken_live (Broken _) d e = cc

-- LOSSES

pub losses_keep_live : (rose rose' : ℕ → Type 0) → LossesKeepLive rose rose'
losses_keep_live rose rose' t h h' more counts law s c ls lc l = elim (law s c ls lc l) [
  | inl x ↦ elim (counts.keeps s c x.0 ls lc (live_void (slot_at t s c) x.1.digest x.1.live) x.1.held) [
    | inl e ↦ inl (x.0, record { digest = x.1.digest; live = x.1.live; held = e; right = x.1.right })
    | inr r ↦ inr r
  ]
  | inr r ↦ inr (more (serving_at t s c) r)
]

-- ENTRIES THAT PUT NOTHING

-- the Live slots of `u` were Live with the same digest, and the same archives serve them
module _ (t u : Table) (h h' : Holdings) (rose : ℕ → Type 0) (stripes : u.stripes ≡ t.stripes) (wide : width u ≡ width t)
    (serves : (s c : ℕ) → serving_at u s c ≡ serving_at t s c) (were : (s c : ℕ) (d : Digest) → slot_at u s c ≡ Live d → slot_at t s c ≡ Live d) (kept : KeepsHeld t h h') where
  live_stays : LiveLaw t h rose → LiveLaw u h' rose
  live_stays law s c ls lc l =
      let d : (d : Digest) × (slot_at u s c ≡ Live d) = live (slot_at u s c) l in
      let was : slot_at t s c ≡ Live d.0 = were s c d.0 d.1 in
      let ls' : s < t.stripes = omega arith in
      let lc' : c < width t = omega arith in
      elim (law s c ls' lc' (ap is_live was)) [
        | inl x ↦ inl (
          x.0,
          record {
            digest = d.0;
            live = d.1;
            held = ap (λ a. h' a s) (serves s c) ∙ kept s c x.0 ls' lc' (ap is_live was) x.1.held;
            right = x.1.right ∙ same x.1.digest d.0 (sym x.1.live ∙ was);
          },
        )
        | inr r ↦ inr (subst rose (sym (serves s c)) r)
      ]
    where
      same : (a b : Digest) → Live a ≡ Live b → a ≡ b
      same a b e = cc

written : (t : Table) (s c : ℕ) (x : SlotState) → ((d : Digest) → x ≡ Live d → ⊥) → (n k : ℕ) (d : Digest) → slot_at (with_slot t s c x) n k ≡ Live d → slot_at t n k ≡ Live d
written t s c x dead n k d e = elim (slot_after t s c x n k) [ inl q ↦ sym q ∙ e | inr q ↦ absurd (dead d (sym q.0 ∙ e)) ]

-- PUTS

kept_of : (d e : Digest) (kept : Bool) → parity_slot d kept ≡ Live e → (kept ≡ true) × (d ≡ e)
kept_of d e true h = (refl, cc)
kept_of d e false h = absurd (cc)

live_same : (a b : Digest) → Live a ≡ Live b → a ≡ b
live_same a b e = cc

module _ (t : Table) (h h' : Holdings) (rose : ℕ → Type 0) (s c : ℕ) (digest parity_digest : Digest) (block p q : List ℕ) (kept kept2 : Bool) (table : IsTable t) (takes : TakesPut t s c)
    (is_block : digest ≡ digest_of block) (is_parity : parity_digest ≡ digest_of (xor p block)) (w : WritesStripe t h h' s c block p q kept kept2) (law : LiveLaw t h rose) where
  below : c < t.data_columns
  below = column t h h' s c digest parity_digest block p q kept kept2 table takes is_block is_parity w

  -- a slot that was not written
  left_alone : (u : Table) → ((n k : ℕ) → serving_at u n k ≡ serving_at t n k) → (n k : ℕ) → n < t.stripes → k < width t → slot_at u n k ≡ slot_at t n k → (n ≢ s) ⊎ ((k < t.data_columns) × (k ≢ c))
      → IsTrue (is_live (slot_at u n k)) → Sound (stripe_of u h' n) k ⊎ rose (serving_at u n k)
  left_alone u serves n k ln lk e apart l = elim (law n k ln lk (sym (ap is_live e) ∙ l)) [
    | inl x ↦ inl (
      x.0,
      record {
        digest = x.1.digest;
        live = e ∙ x.1.live;
        held = ap (λ a. h' a n) (serves n k) ∙ w.others n k ln lk apart ∙ x.1.held;
        right = x.1.right;
      },
    )
    | inr r ↦ inr (subst rose (sym (serves n k)) r)
  ]

  -- a slot that was
  made : (u : Table) (k : ℕ) (d : Digest) (b : List ℕ) → slot_at u s k ≡ Live d → d ≡ digest_of b → held_at u h' s k ≡ Some b → Sound (stripe_of u h' s) k
  made u k d b e r held = (b, record { digest = d; live = e; held = held; right = sym r })

  made_parity : (u : Table) (k : ℕ) (d : Digest) (b : List ℕ) (kept : Bool) → slot_at u s k ≡ parity_slot d kept → d ≡ digest_of b → (kept ≡ true → held_at u h' s k ≡ Some b) → IsTrue (is_live (slot_at u s k))
      → Sound (stripe_of u h' s) k
  made_parity u k d b kept e r held l =
      let f : (f : Digest) × (slot_at u s k ≡ Live f) = live (slot_at u s k) l in
      let g : (kept ≡ true) × (d ≡ f.0) = kept_of d f.0 kept (sym e ∙ f.1) in
      made u k f.0 b f.1 (sym g.1 ∙ r) (held g.0)

  -- by place
  places : (u : Table) → ((n k : ℕ) → serving_at u n k ≡ serving_at t n k) → slot_at u s c ≡ Live digest → slot_at u s t.data_columns ≡ parity_slot parity_digest kept
      → (t.data_columns + 1 < width t → IsTrue (is_live (slot_at u s (t.data_columns + 1))) → Sound (stripe_of u h' s) (t.data_columns + 1))
      → ((n k : ℕ) → k < width t → (n ≢ s) ⊎ ((k < t.data_columns) × (k ≢ c)) → slot_at u n k ≡ slot_at t n k)
      → (n k : ℕ) → n < t.stripes → k < width t → IsTrue (is_live (slot_at u n k)) → Sound (stripe_of u h' n) k ⊎ rose (serving_at u n k)
  places u serves at_data at_p at_q others n k ln lk l = elim (cases_eq n s) [
    | inl e ↦ subst (λ n. IsTrue (is_live (slot_at u n k)) → Sound (stripe_of u h' n) k ⊎ rose (serving_at u n k)) (sym e) (in_stripe k lk) l
    | inr ne ↦ left_alone u serves n k ln lk (others n k lk (inl ne)) (inl ne) l
  ]
    where
      which : (k c wide parity : ℕ) → parity ≤ 2 → k < wide + parity → (k ≡ c) ⊎ ((k ≡ wide) ⊎ ((k ≡ wide + 1) ⊎ ((k < wide) × (k ≢ c))))
      which k c wide parity few lt = grind arith

      in_stripe : (k : ℕ) → k < width t → IsTrue (is_live (slot_at u s k)) → Sound (stripe_of u h' s) k ⊎ rose (serving_at u s k)
      in_stripe k lk = elim (which k c t.data_columns t.parity table.size.parity.1 lk) [
        | inl f ↦ subst (λ k. IsTrue (is_live (slot_at u s k)) → Sound (stripe_of u h' s) k ⊎ rose (serving_at u s k)) (sym f)
            (λ l. inl (made u c digest block at_data is_block (ap (λ a. h' a s) (serves s c) ∙ w.data_block)))
        | inr (inl f) ↦ subst (λ k. IsTrue (is_live (slot_at u s k)) → Sound (stripe_of u h' s) k ⊎ rose (serving_at u s k)) (sym f)
            (λ l. inl (made_parity u t.data_columns parity_digest (xor p block) kept at_p is_parity (λ g. ap (λ a. h' a s) (serves s t.data_columns) ∙ w.new_p g) l))
        | inr (inr (inl f)) ↦ subst (λ k. k < width t → IsTrue (is_live (slot_at u s k)) → Sound (stripe_of u h' s) k ⊎ rose (serving_at u s k)) (sym f)
            (λ lk l. inl (at_q lk l)) lk
        | inr (inr (inr f)) ↦ left_alone u serves s k takes.0.1 lk (others s k lk (inr f)) (inr f)
      ]

  put_live : t.parity ≡ 1 → LiveLaw (with_put t s c digest parity_digest kept) h' rose
  put_live single n k ln lk l =
      places (with_put t s c digest parity_digest kept) (λ n k. refl) (put_data t s c digest parity_digest kept takes.0.1 below table.size)
      (put_parity t s c digest parity_digest kept takes.0.1 below table.size) (λ lt l. absurd (omega arith)) put_others n k ln lk l
    where
      put_others : (n k : ℕ) → k < width t → (n ≢ s) ⊎ ((k < t.data_columns) × (k ≢ c)) → slot_at (with_put t s c digest parity_digest kept) n k ≡ slot_at t n k
      put_others n k lk (inl ne) = put_other t s c digest parity_digest kept takes.0.1 below table.size n k lk (λ g. ne g.0) (λ g. ne g.0)
      put_others n k lk (inr f) = put_other t s c digest parity_digest kept takes.0.1 below table.size n k lk (λ g. f.1 g.1) (λ g. (let e : k ≡ t.data_columns = g.1 in let l : k < t.data_columns = f.0 in omega arith))

  put2_live : (second_digest : Digest) → t.parity ≡ 2 → second_digest ≡ digest_of (xor q (scaled (power 3 c) block))
      → LiveLaw (with_slot (with_put t s c digest parity_digest kept) s (t.data_columns + 1) (parity_slot second_digest kept2)) h' rose
  put2_live second_digest double is_second n k ln lk l =
      places (with_slot (with_put t s c digest parity_digest kept) s (t.data_columns + 1) (parity_slot second_digest kept2)) (λ n k. refl)
      (beside s c (let b : c < t.data_columns = below in omega arith) (λ g. (let e : c ≡ t.data_columns + 1 = g.1 in let b : c < t.data_columns = below in omega arith)) ∙ put_data t s c digest parity_digest kept takes.0.1 below table.size)
      (beside s t.data_columns (omega arith) (λ g. (let e : t.data_columns ≡ t.data_columns + 1 = g.1 in omega arith)) ∙ put_parity t s c digest parity_digest kept takes.0.1 below table.size)
      (λ lt l. made_parity (with_slot (with_put t s c digest parity_digest kept) s (t.data_columns + 1) (parity_slot second_digest kept2)) (t.data_columns + 1) second_digest (xor q (scaled (power 3 c) block)) kept2
      (put2_second t s c digest parity_digest second_digest kept kept2 takes.0.1 below table.size double) is_second (w.new_q double) l)
      others n k ln lk l
    where
      beside : (n k : ℕ) → k < width t → ((n ≡ s) × (k ≡ t.data_columns + 1) → ⊥)
          → slot_at (with_slot (with_put t s c digest parity_digest kept) s (t.data_columns + 1) (parity_slot second_digest kept2)) n k ≡ slot_at (with_put t s c digest parity_digest kept) n k
      beside n k lk ne = put2_other t s c digest parity_digest second_digest kept kept2 takes.0.1 below table.size double n k lk ne

      others : (n k : ℕ) → k < width t → (n ≢ s) ⊎ ((k < t.data_columns) × (k ≢ c))
          → slot_at (with_slot (with_put t s c digest parity_digest kept) s (t.data_columns + 1) (parity_slot second_digest kept2)) n k ≡ slot_at t n k
      others n k lk (inl ne) = put2_other t s c digest parity_digest second_digest kept kept2 takes.0.1 below table.size double n k lk (λ g. ne g.0)
          ∙ put_other t s c digest parity_digest kept takes.0.1 below table.size n k lk (λ g. ne g.0) (λ g. ne g.0)
      others n k lk (inr f) = put2_other t s c digest parity_digest second_digest kept kept2 takes.0.1 below table.size double n k lk (λ g. (let e : k ≡ t.data_columns + 1 = g.1 in let l : k < t.data_columns = f.0 in omega arith))
          ∙ put_other t s c digest parity_digest kept takes.0.1 below table.size n k lk (λ g. f.1 g.1) (λ g. (let e : k ≡ t.data_columns = g.1 in let l : k < t.data_columns = f.0 in omega arith))

-- EACH ENTRY

pub entry_keeps_live : (rose : ℕ → Type 0) → EntryKeepsLive rose
entry_keeps_live rose t (Put job s c digest parity_digest kept) h h' table legal e keeps law =
    put_live t h h' rose s c digest parity_digest e.0 e.1 e.1 kept kept table legal.1 e.2 e.3 e.4 law legal.0
entry_keeps_live rose t (Put2 job s c digest parity_digest second_digest kept kept2) h h' table legal e keeps law =
    put2_live t h h' rose s c digest parity_digest e.0 e.1 e.2 kept kept2 table legal.1 e.3 e.4 e.6 law second_digest legal.0 e.5
entry_keeps_live rose t (Skip job s) h h' table legal e keeps law = live_stays t t h h' rose refl refl (λ s c. refl) (λ s c d e. e) (keeps (λ s p. p)) law
entry_keeps_live rose t (Seen job s c) h h' table legal e keeps law = live_stays t t h h' rose refl refl (λ s c. refl) (λ s c d e. e) (keeps (λ s p. p)) law
entry_keeps_live rose t (Gone job s c) h h' table legal e keeps law =
    live_stays t (with_loss t s c) h h' rose refl refl (λ s c. refl) (written t s c (lost_of (slot_at t s c)) (lost_live (slot_at t s c))) (keeps (λ s p. p)) law
entry_keeps_live rose t (Broke job s c) h h' table legal e keeps law =
    live_stays t (with_slot t s c (broken_of (slot_at t s c))) h h' rose refl refl (λ s c. refl) (written t s c (broken_of (slot_at t s c)) (broken_live (slot_at t s c))) (keeps (λ s p. p)) law
entry_keeps_live rose t (Fault job s c) h h' table legal e keeps law = live_stays t t h h' rose refl refl (λ s c. refl) (λ s c d e. e) (keeps (λ s p. p)) law
entry_keeps_live rose t (Counted job) h h' table legal e keeps law = live_stays t t h h' rose refl refl (λ s c. refl) (λ s c d e. e) (keeps (λ s p. p)) law
entry_keeps_live rose t _ h h' table legal e keeps law = absurd e

-- THE OPENING

pub start_makes_live : (rose : ℕ → Type 0) → StartMakesLive rose
start_makes_live rose old new st table counts = subst (λ v. LiveLaw v new.held rose) (sym (result old new st table).shape) found
  where
    found : LiveLaw (record old.table { slots = new.table.slots }) new.held rose
    found s k ls lk l =
        let d : (d : Digest) × (slot_at (record old.table { slots = new.table.slots }) s k ≡ Live d) = live (slot_at (record old.table { slots = new.table.slots }) s k) l in
        let was : (st.gone s k ≡ false) × (slot_at old.table s k ≡ Live d.0) =
        live-opened (st.gone s k) (st.broke s k) (slot_at old.table s k) d.0 (sym (slots old new st table s ls k lk) ∙ d.1) in
        let x : Sound (as_read old.table st.read s) k = (st.finds s ls).left k lk was.0 (ap is_live was.1) in
        elim (counts.keeps s k x.0 ls lk (live_void (slot_at old.table s k) d.0 was.1) (st.reads s k x.0 ls lk x.1.held)) [
          | inl e ↦ inl (x.0, record { digest = d.0; live = d.1; held = e; right = x.1.right ∙ live_same x.1.digest d.0 (sym x.1.live ∙ was.1) })
          | inr r ↦ inr r
        ]
