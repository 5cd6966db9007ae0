-- The digests of data slots along a log.
use Rattle.std.proofs.Common.{◌≡◌, ◌⊎◌, inl, inr, ⊎_elim, ◌<◌, ◌+◌, ℕ, zero, suc, Bool, false, List, [], ◌∷◌, Some, refl, sym, ap, ◌∙◌, subst, arith}
use Rattle.std.specs.Prelude.{Contains}
use Rattle.std.proofs.lemmas.Option.{same_Some}
use Rattle.std.proofs.lemmas.Bool.{cases_eq}
use Rattle.pot_bytes.specs.declared.digest.Digest.{Digest}
use Rattle.pot_bytes.proofs.Elements.{contains_later}
use Rattle.pot_machine.specs.declared.slot.SlotState.{SlotState}
use Rattle.pot_machine.specs.declared.slot.SlotState.TheVariants.{Void, Live, Lost, Broken}
use Rattle.pot_machine.specs.declared.entry.Entry.{Entry}
use Rattle.pot_machine.specs.declared.entry.Entry.TheVariants.{Put, Put2}
use Rattle.pot_machine.specs.Slot.{digest_in, is_void, parity_slot}
use Rattle.pot_machine.specs.Table.{Table, slot_at}
use Rattle.pot_machine.specs.Machine.{Legal, Replays, TakesPut, after, with_slot, with_put}
use Rattle.pot_machine.specs.Rules.{IsTable}
use Rattle.pot_machine.specs.Logs.{Fills, IsFilledWith}
use Rattle.pot_machine.specs.Laws.{DigestsByPuts, PutsStay}
use Rattle.pot_machine.proofs.Places.{slot_same, slot_other}
use Rattle.pot_machine.proofs.Kept.{after_keeps}
use Rattle.pot_machine.proofs.LeftAlone.{data_stays, digests_stay, sizes_stay, slots_stay, put_column}

-- A SLOT THAT IS FILLED

-- a slot has a digest just where it is not Void
pub has_digest : (x : SlotState) → is_void x ≡ false → (d : Digest) × (digest_in x ≡ Some d)
has_digest Void some = absurd (cc some)
has_digest (Live d) some = (d, refl)
has_digest (Lost d) some = (d, refl)
has_digest (Broken d) some = (d, refl)

pub not_void : (x : SlotState) (d : Digest) → digest_in x ≡ Some d → is_void x ≡ false
not_void Void d is = absurd (cc is)
not_void (Live e) d is = refl
not_void (Lost e) d is = refl
not_void (Broken e) d is = refl

filled_with : (x : SlotState) (d : Digest) → digest_in x ≡ Some d → IsFilledWith d x
filled_with Void d is = absurd (cc is)
filled_with (Live e) d is = inl (ap Live (same_Some e d is))
filled_with (Lost e) d is = inr (inl (ap Lost (same_Some e d is)))
filled_with (Broken e) d is = inr (inr (ap Broken (same_Some e d is)))

pub digest_of_filled : (x : SlotState) (d : Digest) → IsFilledWith d x → digest_in x ≡ Some d
digest_of_filled x d (inl is) = ap digest_in is
digest_of_filled x d (inr (inl is)) = ap digest_in is
digest_of_filled x d (inr (inr is)) = ap digest_in is

-- ALONG A LOG

-- a data slot keeps its digest
digest_along : (t : Table) (log : List Entry) (u : Table) (s c : ℕ) (d : Digest) → IsTable t → Replays t log u → c < t.data_columns → digest_in (slot_at t s c) ≡ Some d
    → digest_in (slot_at u s c) ≡ Some d
digest_along t [] u s c d is same lt has = ap (λ x. digest_in (slot_at x s c)) same ∙ has
digest_along t (e ∷ log) u s c d is (legal, rest) lt has =
    let size = (sizes_stay t e).0 in
    digest_along (after t e) log u s c d (after_keeps t e is legal) rest (omega (arith, lt, size))
    (data_stays t e s c is legal lt (not_void (slot_at t s c) d has) ∙ has)

-- and stays filled
pub filled_stays : (t : Table) (log : List Entry) (u : Table) (s c : ℕ) → IsTable t → Replays t log u → c < t.data_columns → is_void (slot_at t s c) ≡ false → is_void (slot_at u s c) ≡ false
filled_stays t log u s c is replays lt some =
    let d = has_digest (slot_at t s c) some in
    not_void (slot_at u s c) d.0 (digest_along t log u s c d.0 is replays lt d.1)

-- A PUT

-- a put gives its slot the digest of its block
module _ (t : Table) (s c : ℕ) (d p : Digest) (kept : Bool) (is : IsTable t) (takes : TakesPut t s c) where
  put_slot : slot_at (with_put t s c d p kept) s c ≡ Live d
  put_slot =
      let lt = put_column t s c is takes in
      let stripe = takes.0.1 in
      let parity = is.size.parity.0 in
      let first : slot_at (with_slot t s c (Live d)) s c ≡ Live d = slot_same t s c (Live d) is.size.slots stripe (omega (arith, lt)) in
      let then : slot_at (with_slot (with_slot t s c (Live d)) s t.data_columns (parity_slot p kept)) s c ≡ slot_at (with_slot t s c (Live d)) s c =
      slot_other (with_slot t s c (Live d)) s t.data_columns s c (parity_slot p kept) (omega (arith, parity)) (omega (arith, lt)) (λ q. let e = q.1 in omega (arith, e, lt)) in
      then ∙ first

  put2_slot : (q : Digest) (kept2 : Bool) → t.parity ≡ 2 → slot_at (with_slot (with_put t s c d p kept) s (t.data_columns + 1) (parity_slot q kept2)) s c ≡ Live d
  put2_slot q kept2 two =
      let lt = put_column t s c is takes in
      slot_other (with_put t s c d p kept) s (t.data_columns + 1) s c (parity_slot q kept2) (omega (arith, two)) (omega (arith, lt)) (λ r. let x = r.1 in omega (arith, x, lt))
      ∙ put_slot

-- the slot that a put fills
put_fills : (t : Table) (s c : ℕ) (d : Digest) (e : Entry) → IsTable t → Legal t e → Fills s c d e → (digest_in (slot_at (after t e) s c) ≡ Some d) × (c < t.data_columns)
put_fills t s c d (Put job n k x p kept) is l (stripe, column, digest) = (
  ap digest_in (ap (λ m. slot_at (after t (Put job n k x p kept)) m c) stripe
      ∙ (ap (λ m. slot_at (after t (Put job n k x p kept)) n m) column ∙ put_slot t n k x p kept is l.1))
      ∙ ap Some (sym digest),
  (let lt = put_column t n k is l.1 in omega (arith, lt, column)),
)
put_fills t s c d (Put2 job n k x p q kept kept2) is l (stripe, column, digest) = (
  ap digest_in (ap (λ m. slot_at (after t (Put2 job n k x p q kept kept2)) m c) stripe
      ∙ (ap (λ m. slot_at (after t (Put2 job n k x p q kept kept2)) n m) column ∙ put2_slot t n k x p kept is l.1 q kept2 l.0))
      ∙ ap Some (sym digest),
  (let lt = put_column t n k is l.1 in omega (arith, lt, column)),
)
put_fills t s c d _ is l fills = absurd fills

-- a digest that a data slot has behind an entry it had before, or the entry filled the slot with it
before_or_put : (t : Table) (e : Entry) (s c : ℕ) (d : Digest) → IsTable t → Legal t e → c < t.data_columns → digest_in (slot_at (after t e) s c) ≡ Some d
    → (digest_in (slot_at t s c) ≡ Some d) ⊎ Fills s c d e
before_or_put t (Put job n k x p kept) s c d is l lt has = elim (cases_eq s n) [
  | inl stripe ↦ elim (cases_eq c k) [
    | inl column ↦ inr (stripe, column, same_Some d x (sym has ∙ (put_fills t s c x (Put job n k x p kept) is l (stripe, column, refl)).0))
    | inr ne ↦ inl (sym (ap digest_in (slots_stay t (Put job n k x p kept) s c is l (omega (arith, lt))
        (λ w. ⊎_elim ne (λ high. omega (arith, high, lt)) w.1))) ∙ has)
  ]
  | inr ne ↦ inl (sym (ap digest_in (slots_stay t (Put job n k x p kept) s c is l (omega (arith, lt)) (λ w. ne w.0))) ∙ has)
]
before_or_put t (Put2 job n k x p q kept kept2) s c d is l lt has = elim (cases_eq s n) [
  | inl stripe ↦ elim (cases_eq c k) [
    | inl column ↦ inr (stripe, column, same_Some d x (sym has ∙ (put_fills t s c x (Put2 job n k x p q kept kept2) is l (stripe, column, refl)).0))
    | inr ne ↦ inl (sym (ap digest_in (slots_stay t (Put2 job n k x p q kept kept2) s c is l (omega (arith, lt))
        (λ w. ⊎_elim ne (λ high. omega (arith, high, lt)) w.1))) ∙ has)
  ]
  | inr ne ↦ inl (sym (ap digest_in (slots_stay t (Put2 job n k x p q kept kept2) s c is l (omega (arith, lt)) (λ w. ne w.0))) ∙ has)
]
before_or_put t e s c d is l lt has = inl (sym (digests_stay t e s c is l (omega (arith, lt)) (λ w. w)) ∙ has)

come_by_put : (t : Table) (log : List Entry) (u : Table) (s c : ℕ) (d : Digest) → IsTable t → Replays t log u → c < t.data_columns → digest_in (slot_at u s c) ≡ Some d
    → (digest_in (slot_at t s c) ≡ Some d) ⊎ ((e : Entry) × Contains log e × Fills s c d e)
come_by_put t [] u s c d is same lt has = inl (sym (ap (λ x. digest_in (slot_at x s c)) same) ∙ has)
come_by_put t (e ∷ log) u s c d is (legal, rest) lt has =
    let size = (sizes_stay t e).0 in
    elim (come_by_put (after t e) log u s c d (after_keeps t e is legal) rest (omega (arith, lt, size)) has) [
      | inl then ↦ ⊎_elim inl (λ fills. inr (e, (0, omega arith, refl), fills)) (before_or_put t e s c d is legal lt then)
      | inr put ↦ inr (put.0, contains_later e put.0 log put.1, put.2)
    ]

-- a slot that a put of a log filled has its digest in the end
pub put_digest : (t : Table) (log : List Entry) (u : Table) (s c : ℕ) (d : Digest) (e : Entry) → IsTable t → Replays t log u → Contains log e → Fills s c d e
    → digest_in (slot_at u s c) ≡ Some d
put_digest t [] u s c d e is replays (k, lt, at) fills = absurd (omega (arith, lt))
put_digest t (x ∷ log) u s c d e is (legal, rest) (zero, lt, at) fills =
    let put_is = put_fills t s c d x is legal (subst (Fills s c d) (sym at) fills) in
    let size = (sizes_stay t x).0 in
    let column = put_is.1 in
    digest_along (after t x) log u s c d (after_keeps t x is legal) rest (omega (arith, column, size)) put_is.0
put_digest t (x ∷ log) u s c d e is (legal, rest) (suc k, lt, at) fills =
    put_digest (after t x) log u s c d e (after_keeps t x is legal) rest (k, omega (arith, lt), at) fills

-- THE LAWS

pub digests_by_puts : DigestsByPuts
digests_by_puts t u log s c d is replays lt = (
  λ filled. elim (come_by_put t log u s c d is replays lt (digest_of_filled (slot_at u s c) d filled)) [
    | inl had ↦ inl (filled_with (slot_at t s c) d had)
    | inr put ↦ inr put
  ],
  λ from. elim from [
    | inl had ↦ filled_with (slot_at u s c) d (digest_along t log u s c d is replays lt (digest_of_filled (slot_at t s c) d had))
    | inr put ↦ filled_with (slot_at u s c) d (put_digest t log u s c d put.0 is replays put.1 put.2)
  ],
)

pub puts_stay : PutsStay
puts_stay t u log s c d e is replays has fills = filled_with (slot_at u s c) d (put_digest t log u s c d e is replays has fills)
