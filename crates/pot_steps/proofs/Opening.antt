-- The opening makes the law of every stripe hold.
use Rattle.std.proofs.Common.{◌≡◌, ◌≢◌, ◌⊎◌, inl, inr, ℕ, zero, suc, ◌<◌, ◌≤◌, List, [], ◌∷◌, ◌++◌, Bool, true, false, IsTrue, refl, sym, ap, ◌∙◌, subst, arith, map, if◌then◌else◌}
use Rattle.std.proofs.lemmas.Bool.{cases_Bool, both_ways}
use Rattle.std.proofs.lemmas.Option.{same_Some}
use Rattle.pot_bytes.specs.declared.digest.Digest.{Digest}
use Rattle.pot_bytes.proofs.Basis.{last_or}
use Rattle.pot_machine.specs.declared.slot.SlotState.{SlotState}
use Rattle.pot_machine.specs.declared.slot.SlotState.TheVariants.{Void, Live, Lost, Broken}
use Rattle.pot_machine.specs.declared.entry.Entry.{Entry}
use Rattle.pot_machine.specs.declared.entry.Entry.TheVariants.{Gone, Broke}
use Rattle.pot_machine.specs.Slot.{digest_in, is_live, is_lost, lost_of, broken_of}
use Rattle.pot_machine.specs.Table.{Table, width, slot_at, serving_at, relay_at, relay_in, count}
use Rattle.pot_machine.specs.Machine.{Legal, after, Replays, with_slot}
use Rattle.pot_machine.specs.Rules.{IsTable}
use Rattle.pot_machine.proofs.Places.{slot_same, slot_other}
use Rattle.pot_machine.proofs.Kept.{after_keeps}
use Rattle.pot_steps.specs.Stripe.{Sound, IsSound, HasFilling}
use Rattle.pot_steps.specs.Law.{StripeLaw, FindsUnsound}
use Rattle.pot_steps.specs.Flights.{FliesOver, flight_in}
use Rattle.pot_steps.specs.Holdings.{StripesConsistent, stripe_of}
use Rattle.pot_steps.specs.GroupStep.{GroupState, StartStep, StartMakes, as_read, entries_where, opening}
use Rattle.pot_steps.proofs.Steps.{filling_stays}
use Rattle.pot_steps.proofs.Entries.{broken}

-- a log in two parts
split : (xs ys : List Entry) (t u : Table) → Replays t (xs ++ ys) u → (v : Table) × Replays t xs v × Replays v ys u
split [] ys t u r = (t, refl, r)
split (x ∷ xs) ys t u r = let s : (v : Table) × Replays (after t x) xs v × Replays v ys u = split xs ys (after t x) u r.1 in (s.0, (r.0, s.1), s.2)

-- ENTRIES THAT EACH WRITE ONE SLOT OF A STRIPE

-- the slots in the first `m` columns of stripe `n` that pass the test were written by `change`, and
-- nothing else was
record Wrote (t u : Table) (n m : ℕ) (test : ℕ → Bool) (change : SlotState → SlotState) (Took : SlotState → Type 0) : Type 0 where
  shape : u ≡ record t { slots = u.slots }
  table : IsTable u
  here : (k : ℕ) → k < m → test k ≡ true → slot_at u n k ≡ change (slot_at t n k)
  took : (k : ℕ) → k < m → test k ≡ true → Took (slot_at t n k)
  other : (s k : ℕ) → k < width t → (s ≡ n → k < m → test k ≡ true → ⊥) → slot_at u s k ≡ slot_at t s k

module _ (n : ℕ) (test : ℕ → Bool) (make : ℕ → Entry) (change : SlotState → SlotState) (Took : SlotState → Type 0)
    (does : (t : Table) (c : ℕ) → after t (make c) ≡ with_slot t n c (change (slot_at t n c))) (takes : (t : Table) (c : ℕ) → Legal t (make c) → Took (slot_at t n c)) where
  wrote_none : (t u : Table) (m : ℕ) → IsTable t → u ≡ t → m ≡ 0 → Wrote t u n m test change Took
  wrote_none t u m h e z = subst (λ v. Wrote t v n m test change Took) (sym e) record {
    shape = refl;
    table = h;
    here = λ k lt p. absurd (omega arith);
    took = λ k lt p. absurd (omega arith);
    other = λ s k lk apart. refl;
  }

  wrote_left : (t v u : Table) (m : ℕ) → Wrote t v n m test change Took → test m ≡ false → u ≡ v → Wrote t u n (suc m) test change Took
  wrote_left t v u m w f e = subst (λ x. Wrote t x n (suc m) test change Took) (sym e) record {
    shape = w.shape;
    table = w.table;
    here = λ k lt p. elim (last_or k m lt) [ inl q ↦ absurd (both (test k) p (ap test q ∙ f)) | inr l ↦ w.here k l p ];
    took = λ k lt p. elim (last_or k m lt) [ inl q ↦ absurd (both (test k) p (ap test q ∙ f)) | inr l ↦ w.took k l p ];
    other = λ s k lk apart. w.other s k lk (λ e l p. apart e (omega arith) p);
  }
    where
      both : (b : Bool) → b ≡ true → b ≡ false → ⊥
      both b p q = cc

  wrote_more : (t v u : Table) (m : ℕ) → n < t.stripes → m < width t → Wrote t v n m test change Took → test m ≡ true → Legal v (make m) → u ≡ after v (make m)
      → Wrote t u n (suc m) test change Took
  wrote_more t v u m ln lm w p legal e = subst (λ x. Wrote t x n (suc m) test change Took) (sym (e ∙ does v m)) record {
    shape = ap {A = Table} (λ x. record x { slots = now.slots }) w.shape;
    table = subst (λ x. IsTable x) (does v m) (after_keeps v (make m) w.table legal);
    here = λ k lt q. elim (last_or k m lt) [
      | inl g ↦ ap (slot_at now n) g ∙ slot_same v n m (change (slot_at v n m)) w.table.size.slots in_v wide_v ∙ ap change (before n m lm m_later) ∙ sym (ap (λ k. change (slot_at t n k)) g)
      | inr l ↦ slot_other v n m n k (change (slot_at v n m)) wide_v (in_wide k (omega arith)) (λ e. (let g : k ≡ m = e.1 in omega arith)) ∙ w.here k l q
    ];
    took = λ k lt q. elim (last_or k m lt) [
      | inl g ↦ subst (λ k. Took (slot_at t n k)) (sym g) (subst Took (before n m lm m_later) (takes v m legal))
      | inr l ↦ w.took k l q
    ];
    other = λ s k lk apart.
        slot_other v n m s k (change (slot_at v n m)) wide_v (in_wide k lk) (λ e. apart e.0 (let g : k ≡ m = e.1 in omega arith) (ap test e.1 ∙ p))
        ∙ w.other s k lk (λ e l q. apart e (omega arith) q);
  }
    where
      now : Table
      now = with_slot v n m (change (slot_at v n m))

      wide : width v ≡ width t
      wide = ap width w.shape

      in_wide : (k : ℕ) → k < width t → k < width v
      in_wide k l = let e : width v ≡ width t = wide in omega arith

      wide_v : m < width v
      wide_v = let e : width v ≡ width t = wide in omega arith

      in_v : n < v.stripes
      in_v = let e : v.stripes ≡ t.stripes = ap {A = Table} (λ x. x.stripes) w.shape in omega arith

      m_later : n ≡ n → m < m → test m ≡ true → ⊥
      m_later e l q = omega arith

      before : (s k : ℕ) → k < width t → (s ≡ n → k < m → test k ≡ true → ⊥) → slot_at v s k ≡ slot_at t s k
      before s k lk apart = w.other s k lk apart

  wrote : (m : ℕ) (t u : Table) → IsTable t → n < t.stripes → m ≤ width t → Replays t (entries_where m test make) u → Wrote t u n m test change Took
  unfolding entries_where
  wrote zero t u h ln lm r = wrote_none t u 0 h r refl
  wrote (suc m) t u h ln lm r =
      let s : (v : Table) × Replays t (entries_where m test make) v × Replays v (if test m then make m ∷ [] else []) u = split (entries_where m test make) (if test m then make m ∷ [] else []) t u r in
      let w : Wrote t s.0 n m test change Took = wrote m t s.0 h ln (omega arith) s.1 in
      elim (cases_Bool (test m)) [
        | inl p ↦ (let one : Replays s.0 (make m ∷ []) u = subst (λ b. Replays s.0 (if b then make m ∷ [] else []) u) p s.2 in
            wrote_more t s.0 u m ln (omega arith) w p one.0 one.1)
        | inr f ↦ wrote_left t s.0 u m w f (subst (λ b. Replays s.0 (if b then make m ∷ [] else []) u) f s.2)
      ]

-- THE WHOLE OPENING

-- a slot after its entries
abbrev pub opened : Bool → Bool → SlotState → SlotState
opened gone broke x = if broke then broken_of (if gone then lost_of x else x) else (if gone then lost_of x else x)

pub record Opened (t u : Table) (m : ℕ) (gone broke : ℕ → ℕ → Bool) : Type 0 where
  pub shape : u ≡ record t { slots = u.slots }
  pub table : IsTable u
  pub below : (s k : ℕ) → s < m → k < width t → slot_at u s k ≡ opened (gone s k) (broke s k) (slot_at t s k)
  pub above : (s k : ℕ) → m ≤ s → k < width t → slot_at u s k ≡ slot_at t s k
  pub took : (s k : ℕ) → s < m → k < width t → broke s k ≡ true → (d : Digest) × (slot_at u s k ≡ Broken d)

abbrev Takes : SlotState → Type 0
Takes x = IsTrue (is_live x) ⊎ IsTrue (is_lost x)

-- the entries of one stripe
module _ (wide : ℕ) (t u : Table) (n : ℕ) (gone broke : ℕ → ℕ → Bool) (e : wide ≡ width t) (h : IsTable t) (ln : n < t.stripes)
    (r : Replays t (entries_where wide (gone n) (Gone 0 n) ++ entries_where wide (broke n) (Broke 0 n)) u) where
  parts : (v : Table) × Replays t (entries_where wide (gone n) (Gone 0 n)) v × Replays v (entries_where wide (broke n) (Broke 0 n)) u
  parts = split (entries_where wide (gone n) (Gone 0 n)) (entries_where wide (broke n) (Broke 0 n)) t u r

  lost : Wrote t parts.0 n wide (gone n) lost_of (λ x. Unit {0})
  lost = wrote n (gone n) (Gone 0 n) lost_of (λ x. Unit {0}) (λ t c. refl) (λ t c l. tt) wide t parts.0 h ln (omega arith) parts.1

  same_width : width parts.0 ≡ width t
  same_width = ap width lost.shape

  broke_wrote : Wrote parts.0 u n wide (broke n) broken_of Takes
  broke_wrote =
      wrote n (broke n) (Broke 0 n) broken_of Takes (λ t c. refl) (λ t c l. l.2) wide parts.0 u lost.table
      (let g : parts.0.stripes ≡ t.stripes = ap {A = Table} (λ x. x.stripes) lost.shape in omega arith) (let g : width parts.0 ≡ width t = same_width in omega arith) parts.2

  stripe_shape : u ≡ record t { slots = u.slots }
  stripe_shape = broke_wrote.shape ∙ ap {A = Table} (λ x. record x { slots = u.slots }) lost.shape

  stripe_table : IsTable u
  stripe_table = broke_wrote.table

  in_parts : (k : ℕ) → k < width t → k < width parts.0
  in_parts k lk = let g : width parts.0 ≡ width t = same_width in omega arith

  after_gone : (k : ℕ) → k < width t → slot_at parts.0 n k ≡ (if gone n k then lost_of (slot_at t n k) else slot_at t n k)
  after_gone k lk = elim (cases_Bool (gone n k)) [
    | inl p ↦ lost.here k (omega arith) p ∙ sym (ap (λ b. if b then lost_of (slot_at t n k) else slot_at t n k) p)
    | inr f ↦ lost.other n k lk (λ _ _ p. both_ways _ f p) ∙ sym (ap (λ b. if b then lost_of (slot_at t n k) else slot_at t n k) f)
  ]

  after_broke : (k : ℕ) → k < width t → slot_at u n k ≡ (if broke n k then broken_of (slot_at parts.0 n k) else slot_at parts.0 n k)
  after_broke k lk = elim (cases_Bool (broke n k)) [
    | inl p ↦ broke_wrote.here k (omega arith) p ∙ sym (ap (λ b. if b then broken_of (slot_at parts.0 n k) else slot_at parts.0 n k) p)
    | inr f ↦ broke_wrote.other n k (in_parts k lk) (λ _ _ p. both_ways _ f p) ∙ sym (ap (λ b. if b then broken_of (slot_at parts.0 n k) else slot_at parts.0 n k) f)
  ]

  stripe_slots : (k : ℕ) → k < width t → slot_at u n k ≡ opened (gone n k) (broke n k) (slot_at t n k)
  stripe_slots k lk = after_broke k lk ∙ ap (λ y. if broke n k then broken_of y else y) (after_gone k lk)

  stripe_others : (s k : ℕ) → s ≢ n → k < width t → slot_at u s k ≡ slot_at t s k
  stripe_others s k ne lk = broke_wrote.other s k (in_parts k lk) (λ e _ _. ne e) ∙ lost.other s k lk (λ e _ _. ne e)

  stripe_broken : (k : ℕ) → k < width t → broke n k ≡ true → (d : Digest) × (slot_at u n k ≡ Broken d)
  stripe_broken k lk p =
      let b : (d : Digest) × (broken_of (slot_at parts.0 n k) ≡ Broken d) = broken (slot_at parts.0 n k) (broke_wrote.took k (omega arith) p) in
      (b.0, broke_wrote.here k (omega arith) p ∙ b.1)

-- the entries of all stripes
whole : (wide m : ℕ) (t u : Table) (gone broke : ℕ → ℕ → Bool) → wide ≡ width t → IsTable t → m ≤ t.stripes → Replays t (opening wide m gone broke) u → Opened t u m gone broke
unfolding opening
whole wide zero t u gone broke e h lm r = subst (λ v. Opened t v 0 gone broke) (sym r) record {
  shape = refl;
  table = h;
  below = λ s k ls lk. absurd (omega arith);
  above = λ s k ls lk. refl;
  took = λ s k ls lk p. absurd (omega arith);
}
whole wide (suc m) t u gone broke e h lm r =
    let p : (v : Table) × Replays t (opening wide m gone broke) v × Replays v (entries_where wide (gone m) (Gone 0 m) ++ entries_where wide (broke m) (Broke 0 m)) u =
    split (opening wide m gone broke) (entries_where wide (gone m) (Gone 0 m) ++ entries_where wide (broke m) (Broke 0 m)) t u r in
    more p (whole wide m t p.0 gone broke e h (omega arith) p.1)
  where
    more : (p : (v : Table) × Replays t (opening wide m gone broke) v × Replays v (entries_where wide (gone m) (Gone 0 m) ++ entries_where wide (broke m) (Broke 0 m)) u)
        → Opened t p.0 m gone broke → Opened t u (suc m) gone broke
    more p o =
        let w : width p.0 ≡ width t = ap width o.shape in
        let z : p.0.stripes ≡ t.stripes = ap {A = Table} (λ x. x.stripes) o.shape in
        let e' : wide ≡ width p.0 = e ∙ sym w in
        let lm' : m < p.0.stripes = omega arith in
        let others : (s k : ℕ) → s ≢ m → k < width t → slot_at u s k ≡ slot_at p.0 s k =
        (λ s k ne lk. stripe_others wide p.0 u m gone broke e' o.table lm' p.2 s k ne (omega arith)) in
        record {
          shape = stripe_shape wide p.0 u m gone broke e' o.table lm' p.2 ∙ ap {A = Table} (λ x. record x { slots = u.slots }) o.shape;
          table = stripe_table wide p.0 u m gone broke e' o.table lm' p.2;
          below = λ s k ls lk. elim (last_or s m ls) [
            | inl g ↦ subst (λ s. slot_at u s k ≡ opened (gone s k) (broke s k) (slot_at t s k)) (sym g)
                (stripe_slots wide p.0 u m gone broke e' o.table lm' p.2 k (omega arith) ∙ ap (opened (gone m k) (broke m k)) (o.above m k (omega arith) lk))
            | inr l ↦ others s k (omega arith) lk ∙ o.below s k l lk
          ];
          above = λ s k ls lk. others s k (omega arith) lk ∙ o.above s k (omega arith) lk;
          took = λ s k ls lk b. elim (last_or s m ls) [
            | inl g ↦ subst (λ s. (d : Digest) × (slot_at u s k ≡ Broken d)) (sym g)
                (stripe_broken wide p.0 u m gone broke e' o.table lm' p.2 k (omega arith) (sym (ap (λ s. broke s k) g) ∙ b))
            | inr l ↦ (let q : (d : Digest) × (slot_at p.0 s k ≡ Broken d) = o.took s k l lk b in (q.0, others s k (omega arith) lk ∙ q.1))
          ];
        }

-- WHAT BECAME OF A SLOT

digest-opened : (g b : Bool) (x : SlotState) → digest_in (opened g b x) ≡ digest_in x
digest-opened true true Void = refl
digest-opened true true (Live d) = refl
digest-opened true true (Lost d) = refl
digest-opened true true (Broken d) = refl
digest-opened true false Void = refl
digest-opened true false (Live d) = refl
digest-opened true false (Lost d) = refl
digest-opened true false (Broken d) = refl
digest-opened false true Void = refl
digest-opened false true (Live d) = refl
digest-opened false true (Lost d) = refl
digest-opened false true (Broken d) = refl
digest-opened false false x = refl

-- Live is only what was Live and is not gone
pub live-opened : (g b : Bool) (x : SlotState) (d : Digest) → opened g b x ≡ Live d → (g ≡ false) × (x ≡ Live d)
live-opened true true Void d e = absurd (cc)
live-opened true true (Live _) d e = absurd (cc)
live-opened true true (Lost _) d e = absurd (cc)
live-opened true true (Broken _) d e = absurd (cc)
live-opened true false Void d e = absurd (cc)
live-opened true false (Live _) d e = absurd (cc)
live-opened true false (Lost _) d e = absurd (cc)
live-opened true false (Broken _) d e = absurd (cc)
live-opened false true Void d e = absurd (cc)
live-opened false true (Live _) d e = absurd (cc)
live-opened false true (Lost _) d e = absurd (cc)
live-opened false true (Broken _) d e = absurd (cc)
live-opened false false x d e = (refl, e)

broken-opened : (g b : Bool) (x : SlotState) (d : Digest) → b ≡ false → x ≡ Broken d → opened g b x ≡ Broken d
broken-opened true true x d f e = absurd (cc)
broken-opened false true x d f e = absurd (cc)
broken-opened true false x d f e = ap lost_of e
broken-opened false false x d f e = e

-- where nothing broke, Lost is what is gone, and what was Lost
from_lost : (g b : Bool) (x : SlotState) → b ≡ false → is_lost (opened g b x) ≡ true → (x ≡ Void → ⊥) × ((d : Digest) → x ≡ Live d → g ≡ true)
from_lost g true x f l = absurd (cc)
from_lost true false Void f l = absurd (cc)
from_lost true false (Live _) f l = (λ e. cc, λ d e. refl)
from_lost true false (Lost _) f l = (λ e. cc, λ d e. refl)
from_lost true false (Broken _) f l = absurd (cc)
from_lost false false Void f l = absurd (cc)
from_lost false false (Live _) f l = absurd (cc)
from_lost false false (Lost _) f l = (λ e. cc, λ d e. absurd (cc))
from_lost false false (Broken _) f l = absurd (cc)

to_lost : (g b : Bool) (x : SlotState) → b ≡ false → (x ≡ Void → ⊥) → ((d : Digest) → x ≡ Broken d → ⊥) → ((d : Digest) → x ≡ Live d → g ≡ false → ⊥) → is_lost (opened g b x) ≡ true
to_lost g true x f void broken live = absurd (cc)
to_lost g false Void f void broken live = absurd (void refl)
to_lost true false (Live d) f void broken live = refl
to_lost false false (Live d) f void broken live = absurd (live d refl refl)
to_lost true false (Lost d) f void broken live = refl
to_lost false false (Lost d) f void broken live = refl
to_lost g false (Broken d) f void broken live = absurd (broken d refl)

-- ONE STRIPE

module _ (old new : GroupState) (st : StartStep old new) (table : IsTable old.table) where
  pub result : Opened old.table new.table old.table.stripes st.gone st.broke
  result = whole (width old.table) old.table.stripes old.table new.table st.gone st.broke refl table (omega arith) st.replay

  module _ (s : ℕ) (ls : s < old.table.stripes) where
    pub slots : (k : ℕ) → k < width old.table → slot_at (record old.table { slots = new.table.slots }) s k ≡ opened (st.gone s k) (st.broke s k) (slot_at old.table s k)
    slots k lk = subst (λ v. slot_at v s k ≡ opened (st.gone s k) (st.broke s k) (slot_at old.table s k)) result.shape (result.below s k ls lk)

    fills : HasFilling old.table.data_columns old.table.parity (as_read old.table st.read s)
        → HasFilling old.table.data_columns old.table.parity (stripe_of (record old.table { slots = new.table.slots }) new.held s)
    fills f = (
      f.0,
      filling_stays old.table.data_columns old.table.parity (as_read old.table st.read s) (stripe_of (record old.table { slots = new.table.slots }) new.held s) f.0 f.1
          (λ k lk. ap digest_in (slots k lk) ∙ digest-opened (st.gone s k) (st.broke s k) (slot_at old.table s k)) sound,
    )
      where
        sound : (k : ℕ) (b : List ℕ) → k < width old.table → IsSound (stripe_of (record old.table { slots = new.table.slots }) new.held s) k b → f.0 k ≡ b
        sound k b lk x =
            let live : (st.gone s k ≡ false) × (slot_at old.table s k ≡ Live x.digest) =
            live-opened (st.gone s k) (st.broke s k) (slot_at old.table s k) x.digest (sym (slots k lk) ∙ x.live) in
            let was : Sound (as_read old.table st.read s) k = (st.finds s ls).left k lk live.0 (ap is_live live.1) in
            f.1.held k was.0 lk was.1
            ∙ same_Some was.0 b (sym (st.reads s k was.0 ls lk was.1.held) ∙ st.loses (serving_at old.table s k) s b x.held)

    law : StripeLaw old.table.data_columns old.table.parity (stripe_of (record old.table { slots = new.table.slots }) new.held s) (relay_at old.table s)
    law none few = elim (st.breaks s ls) [
      | inl b ↦ elim b.which [
        | inl w ↦ absurd (breaks w.1 w.2 w.3)
        | inr w ↦ absurd (breaks old.table.data_columns (let one : 1 ≤ old.table.parity = table.size.parity.0 in omega arith)
            ((w.1 old.table.data_columns (let one : 1 ≤ old.table.parity = table.size.parity.0 in omega arith)).1 (omega arith)))
      ]
      | inr b ↦ elim b.why [
        | inl f ↦ fills f
        | inr no_few ↦ absurd (no_few
            (λ k d lk e. none k d lk (slots k lk ∙ broken-opened (st.gone s k) (st.broke s k) (slot_at old.table s k) d (b.none k lk) e))
            ((λ k. is_lost (slot_at (record old.table { slots = new.table.slots }) s k)), finds b.none, lost_few))
      ]
    ]
      where
        breaks : (c : ℕ) → c < width old.table → st.broke s c ≡ true → ⊥
        breaks c lc p =
            let q : (d : Digest) × (slot_at new.table s c ≡ Broken d) = result.took s c ls lc p in
            none c q.0 lc (subst (λ v. slot_at v s c ≡ Broken q.0) result.shape q.1)

        lost_few : count (width old.table) (λ k. is_lost (slot_at (record old.table { slots = new.table.slots }) s k)) ≤ old.table.parity
        lost_few = elim few [ inl some ↦ absurd (some (ap (λ r. relay_in r s) st.no_relays)) | inr le ↦ le ]

        finds : ((c : ℕ) → c < width old.table → st.broke s c ≡ false)
            → FindsUnsound old.table.data_columns old.table.parity (as_read old.table st.read s) (λ k. is_lost (slot_at (record old.table { slots = new.table.slots }) s k))
        finds spared c lc = (
          λ l. (let f : (slot_at old.table s c ≡ Void → ⊥) × ((d : Digest) → slot_at old.table s c ≡ Live d → st.gone s c ≡ true) =
              from_lost (st.gone s c) (st.broke s c) (slot_at old.table s c) (spared c lc) (sym (ap is_lost (slots c lc)) ∙ l) in
              (f.0, λ x. ((st.finds s ls).found c lc (f.1 x.1.digest x.1.live)).1 x)),
          λ h. ap is_lost (slots c lc) ∙ to_lost (st.gone s c) (st.broke s c) (slot_at old.table s c) (spared c lc) h.0
              (λ d e. none c d lc (slots c lc ∙ broken-opened (st.gone s c) (st.broke s c) (slot_at old.table s c) d (spared c lc) e))
              (λ d e f. h.1 ((st.finds s ls).left c lc f (ap is_live e))),
        )

pub start_makes : StartMakes
start_makes old new st table = record {
  table = (result old new st table).table;
  relays = ap (map (λ f. f.relay)) none ∙ sym (ap (λ t. t.relays) (result old new st table).shape ∙ st.no_relays);
  holds = subst (λ v. StripesConsistent v new.held) (sym (result old new st table).shape) (λ s ls. law old new st table s ls);
  flying = λ s ls. subst (λ fs. FliesOver new.table.data_columns new.table.parity (stripe_of new.table new.held s) (flight_in fs s)) (sym none) tt;
}
  where
    none : new.flights ≡ []
    none = st.logs.flights ∙ st.no_flights
