-- The rule on relays, kept.
use Rattle.std.proofs.Common.{◌≡◌, ◌≢◌, ◌<◌, ◌⊎◌, inl, inr, ℕ, zero, suc, Bool, true, false, not, ◌&&◌, IsTrue, Option, Some, None, IfSome, List, [], ◌∷◌, length, get_or, map, All, AllPairs, cond, refl, ap, sym, ◌∙◌, subst, arith, if◌then◌else◌}
use Rattle.std.specs.Prelude.{◌==◌}
use Rattle.std.proofs.lemmas.Bool.Decides.{nat_tests}
use Rattle.std.proofs.lemmas.List.{get_or-map, length-map}
use Rattle.std.proofs.lemmas.List.Elements.{All-push, All-map, All-filter, filter_passes}
use Rattle.std.proofs.lemmas.List.Kept.{AllPairs-filter}
use Rattle.std.proofs.lemmas.List.Quantifiers.{all_pairs_push}
use Rattle.pot_machine.specs.declared.relay.Relay.{Relay}
use Rattle.pot_machine.specs.declared.slot.SlotState.{SlotState}
use Rattle.pot_machine.specs.declared.slot.SlotState.TheVariants.{Void, Live, Lost, Broken}
use Rattle.pot_machine.specs.Slot.{is_unsound, is_lost, is_broken}
use Rattle.pot_machine.specs.Table.{Table, width, slot_at, relay_in, first_beside, count_beside}
use Rattle.pot_machine.specs.Machine.{with_slot, with_relay, with_hop, without_relay, hopped, TakesRelay}
use Rattle.pot_machine.specs.Rules.{HasRelays, IsStanding}
use Rattle.pot_machine.proofs.Searches.{least_some, none_counted}
use Rattle.pot_machine.proofs.Places.{slot_other}

-- the same sizes and relays, whose targets are still Lost or Broken
pub relays_kept : (t u : Table) → u.data_columns ≡ t.data_columns → u.parity ≡ t.parity → u.stripes ≡ t.stripes → u.relays ≡ t.relays
    → ((n k : ℕ) → IsTrue (is_unsound (slot_at t n k)) → IsTrue (is_unsound (slot_at u n k))) → HasRelays t → HasRelays u
relays_kept t u data_columns parity stripes relays kept h = record {
  apart = subst (λ xs. AllPairs (λ r q. r.stripe ≢ q.stripe) xs) (sym relays) h.apart;
  standing = subst (λ xs. All (IsStanding u) xs) (sym relays) (λ k d lt. standing_kept t u (get_or t.relays k d) data_columns parity stripes (kept (get_or t.relays k d).stripe (get_or t.relays k d).target) (h.standing k d lt));
}
  where
    standing_kept : (t u : Table) (r : Relay) → u.data_columns ≡ t.data_columns → u.parity ≡ t.parity → u.stripes ≡ t.stripes
        → (IsTrue (is_unsound (slot_at t r.stripe r.target)) → IsTrue (is_unsound (slot_at u r.stripe r.target))) → IsStanding t r → IsStanding u r
    standing_kept t u r data_columns parity stripes kept h =
        let same : width t ≡ width u = omega arith in
        let target : r.target < width t = h.target in
        let stripe : r.stripe < t.stripes = h.stripe in
        record {
          stripe = omega arith;
          target = omega arith;
          unsound = kept h.unsound;
          skip = subst (λ w. IfSome r.skip (λ u. (u < w) × (u ≢ r.target))) same h.skip;
          single = λ e. h.single (sym parity ∙ e);
          last = subst (λ w. IfSome r.last (λ l. l < w)) same h.last;
        }

-- a stripe without a relay
found_none : (b : Bool) (o : Option Relay) (r : Relay) → cond b (Some r) o ≡ None → (b ≡ false) × (o ≡ None)
found_none true o r h = absurd (cc)
found_none false o r h = (refl, h)

pub other_stripes : (relays : List Relay) (s : ℕ) → relay_in relays s ≡ None → All (λ r. r.stripe ≢ s) relays
other_stripes [] s h k d lt = absurd (omega arith)
other_stripes (r ∷ relays) s h zero d lt = differ r.stripe s (found_none (r.stripe == s) (relay_in relays s) r h).0
  where
    differ : (x y : ℕ) → (x == y) ≡ false → x ≢ y
    differ x y e = grind (arith, nat_tests)
other_stripes (r ∷ relays) s h (suc k) d lt = other_stripes relays s (found_none (r.stripe == s) (relay_in relays s) r h).1 k d (omega arith)

-- the relays are no part of what a relay stands on
standing_in : (t : Table) (relays : List Relay) (r : Relay) → IsStanding t r → IsStanding (record t { relays = relays }) r
standing_in t relays r h = record { stripe = h.stripe; target = h.target; unsound = h.unsound; skip = h.skip; single = h.single; last = h.last }

-- a relay begins
unsound_by : (x : SlotState) (single : Type 0) → IsTrue (is_lost x) ⊎ (IsTrue (is_broken x) × single) → IsTrue (is_unsound x)
unsound_by Void single (inl e) = e
unsound_by Void single (inr e) = e.0
unsound_by (Live d) single (inl e) = e
unsound_by (Live d) single (inr e) = e.0
unsound_by (Lost d) single h = refl
unsound_by (Broken d) single h = refl

skip_fits : (t : Table) (s c : ℕ) (o : Option ℕ) → o ≡ first_beside t s c is_lost → IfSome o (λ u. (u < width t) × (u ≢ c))
skip_fits t s c None e = tt
skip_fits t s c (Some u) e =
    let f : (u < width t) × (not (u == c) && is_lost (slot_at t s u) ≡ true) × ((j : ℕ) → j < u → not (j == c) && is_lost (slot_at t s j) ≡ false) =
    least_some (width t) (λ k. not (k == c) && is_lost (slot_at t s k)) u (sym e) in
    (f.0, other u c (is_lost (slot_at t s u)) f.1)
  where
    other : (u c : ℕ) (b : Bool) → not (u == c) && b ≡ true → u ≢ c
    other u c b h = grind (arith, nat_tests)

pub relays_begin : (t : Table) (s c : ℕ) → TakesRelay t s c → HasRelays t → HasRelays (with_relay t s c)
relays_begin t s c l h = record {
  apart = all_pairs_push (λ r q. r.stripe ≢ q.stripe) t.relays (record { stripe = s; target = c; skip = first_beside t s c is_lost; last = None }) h.apart (other_stripes t.relays s l.2);
  standing = λ k d lt. standing_in t (with_relay t s c).relays _ (All-push (IsStanding t) t.relays (record { stripe = s; target = c; skip = first_beside t s c is_lost; last = None }) h.standing
      (record {
        stripe = l.0.0;
        target = l.0.1;
        unsound = unsound_by (slot_at t s c) (t.parity ≡ 1) l.1;
        skip = skip_fits t s c (first_beside t s c is_lost) refl;
        single = λ e. none_counted (width t) (λ k. not (k == c) && is_lost (slot_at t s k)) (let few : count_beside t s c is_lost < t.parity = l.4 in omega arith);
        last = tt;
      }) k d lt);
}

-- a relay goes on
hop_stands : (t : Table) (s c : ℕ) (r : Relay) → c < width t → IsStanding t r → IsStanding t (hopped s c r)
hop_stands t s c r lt h = record {
  stripe = h.stripe;
  target = h.target;
  unsound = h.unsound;
  skip = h.skip;
  single = h.single;
  last = choice (r.stripe == s);
}
  where
    choice : (b : Bool) → IfSome (if b then Some c else r.last) (λ l. l < width t)
    choice true = lt
    choice false = h.last

pub relays_hop : (t : Table) (s c : ℕ) → c < width t → HasRelays t → HasRelays (with_hop t s c)
relays_hop t s c lt h = record {
  apart = λ i j d li lj. (let ll : j < length t.relays = (let e : length (map (hopped s c) t.relays) ≡ length t.relays = length-map t.relays (hopped s c) in omega arith) in
      λ e. h.apart i j d li ll
      (sym (ap (λ r. r.stripe) (get_or-map (hopped s c) t.relays i d d (omega arith))) ∙ e ∙ ap (λ r. r.stripe) (get_or-map (hopped s c) t.relays j d d ll)));
  standing = λ k d l. standing_in t (with_hop t s c).relays _
      (All-map (IsStanding t) (hopped s c) t.relays (λ j e m. hop_stands t s c (get_or t.relays j e) lt (h.standing j e m)) k d l);
}

-- a relay ends
pub relays_end : (t : Table) (s : ℕ) → HasRelays t → HasRelays (without_relay t s)
relays_end t s h = record {
  apart = AllPairs-filter (λ r q. r.stripe ≢ q.stripe) (λ r. not (r.stripe == s)) t.relays h.apart;
  standing = λ k d lt. standing_in t (without_relay t s).relays _ (All-filter (λ r. not (r.stripe == s)) (IsStanding t) t.relays h.standing k d lt);
}

-- the relays that are left stand in other stripes
pub others_left : (t : Table) (s : ℕ) → All (λ r. r.stripe ≢ s) (without_relay t s).relays
others_left t s k d lt = differ _ s (filter_passes (λ r. not (r.stripe == s)) t.relays k d lt)
  where
    differ : (x y : ℕ) → not (x == y) ≡ true → x ≢ y
    differ x y e = grind (arith, nat_tests)

-- a slot was written in a stripe without a relay
pub relays_beside : (t : Table) (s c : ℕ) (x : SlotState) → c < width t → All (λ r. r.stripe ≢ s) t.relays → HasRelays t → HasRelays (with_slot t s c x)
relays_beside t s c x lt apart h = record {
  apart = h.apart;
  standing = λ k d l. (let r : Relay = get_or t.relays k d in stands r (apart k d l) (h.standing k d l));
}
  where
    stands : (r : Relay) → r.stripe ≢ s → IsStanding t r → IsStanding (with_slot t s c x) r
    stands r ne g = record {
      stripe = g.stripe;
      target = g.target;
      unsound = ap is_unsound (slot_other t s c r.stripe r.target x lt g.target (λ e. ne e.0)) ∙ g.unsound;
      skip = g.skip;
      single = g.single;
      last = g.last;
    }
