-- A place that was Gone twice.
use Rattle.std.proofs.Common.{◌≡◌, ◌≤◌, ◌⊎◌, inl, inr, ⊎_elim, ℕ, zero, suc, ◌+◌, false, List, [], ◌∷◌, ◌++◌, IsTrue, length, refl, ap, sym, ◌∙◌, subst, arith, append_assoc, length-append, eq-eqb}
use Rattle.std.specs.Prelude.{Option, Some, None, IfSome, filter, Contains}
use Rattle.std.proofs.lemmas.List.Elements.{filter-append, Contains-append_right}
use Rattle.pot_bytes.proofs.Elements.{parted_at}
use Rattle.pot_machine.specs.declared.entry.Entry.{Entry}
use Rattle.pot_machine.specs.declared.entry.Entry.TheVariants as entry
use Rattle.pot_machine.specs.declared.slot.SlotState.{SlotState}
use Rattle.pot_machine.specs.declared.slot.SlotState.TheVariants.{Void, Live, Lost, Broken}
use Rattle.pot_machine.specs.Rules.{IsTable}
use Rattle.pot_machine.specs.Slot.{is_live, is_unsound, is_void}
use Rattle.pot_machine.specs.Table.{Table, slot_at}
use Rattle.pot_machine.specs.Logs.{is_of, own, replayed}
use Rattle.pot_machine.proofs.Logs.{own_cons}
use Rattle.pot_replies.specs.Jobs.{is_look_at}
use Rattle.pot_replies.specs.Fetches.{LooksTwice, LastIs, GoneAgain}
use Rattle.pot_shared.specs.declared.member.GroupOrigin.{GroupOrigin}
use Rattle.pot_store.proofs.LookLemmas.{hit}

-- a second Gone, the slot having been Live at some point between the two
pub record GoneTwice (first : Table) (job : ℕ) (before added : List Entry) (s c : ℕ) : Type 0 where
  pub a : List Entry
  pub between : List Entry
  pub behind : List Entry
  pub z : List Entry
  pub parts : added ≡ ((a ++ entry.Gone job s c ∷ between) ++ behind) ++ entry.Gone job s c ∷ z
  pub live : IsTrue (is_live (slot_at (replayed first (before ++ (a ++ entry.Gone job s c ∷ between))) s c))

-- a slot that is sound and not Void is Live
pub live_is : (x : SlotState) → is_unsound x ≡ false → is_void x ≡ false → IsTrue (is_live x)
live_is Void sound some = absurd (cc some)
live_is (Live d) sound some = refl
live_is (Lost d) sound some = absurd (cc sound)
live_is (Broken d) sound some = absurd (cc sound)

-- what is a table whatever the group read is known of a group that was read
pub has_origin : (t : Table) (o : Option GroupOrigin) → ((first : Table) → IfSome o (λ x. first ≡ x.first) → IsTable first) → (x : GroupOrigin) × (o ≡ Some x)
has_origin t (Some x) is = (x, refl)
has_origin t None is = absurd (let some = (is (record t { data_columns = 0 }) tt).size.data_columns.0 in omega (arith, some))

-- the last entry is the last of what stands behind some entries, unless nothing does
last_in : (front sofar behind : List Entry) (e : Entry) → sofar ++ e ∷ [] ≡ front ++ behind → (behind ≡ []) ⊎ Contains behind e
last_in [] sofar behind e same = inr (subst (λ es. Contains es e) same (Contains-append_right sofar (e ∷ []) e (zero, omega arith, refl)))
last_in (x ∷ front) [] behind e same = inl (none front behind (cc same))
  where
    none : (xs ys : List Entry) → [] ≡ xs ++ ys → ys ≡ []
    none [] ys h = sym h
    none (x ∷ xs) ys h = absurd (cc h)
last_in (x ∷ front) (y ∷ sofar) behind e same = last_in front sofar behind e (cc same)

module _ (job s c : ℕ) where
  abbrev gone : Entry
  gone = entry.Gone job s c

  -- how many looks of the place stand among entries
  abbrev looks : List Entry → ℕ
  looks es = length (filter (is_look_at s c) es)

  looks_parts : (xs ys : List Entry) → looks (xs ++ ys) ≡ looks xs + looks ys
  looks_parts xs ys = ap length (filter-append (is_look_at s c) xs ys) ∙ length-append (filter (is_look_at s c) xs) (filter (is_look_at s c) ys)

  looks_gone : (es : List Entry) → looks (gone ∷ es) ≡ suc (looks es)
  looks_gone es = rw (hit s c s c refl refl) refl

  looks_most : (es : List Entry) → LooksTwice job s c es → looks es ≤ 2
  looks_most es (inl none) = (let e = ap length none in omega (arith, e))
  looks_most es (inr (inl (x, one))) = (let e = ap length one in omega (arith, e))
  looks_most es (inr (inr (x, two))) = (let e = ap length two in omega (arith, e))

  looks_there : (es : List Entry) → Contains es gone → 1 ≤ looks es
  looks_there es has =
      let at = parted_at es gone has in
      let all = ap looks at.2 in
      let parts = looks_parts at.0 (gone ∷ at.1) in
      let one = looks_gone at.1 in
      omega (arith, all, parts, one)

  own_parts : (xs ys : List Entry) → own job (xs ++ gone ∷ ys) ≡ own job xs ++ gone ∷ own job ys
  own_parts xs ys = filter-append (is_of job) xs (gone ∷ ys) ∙ ap (λ l. own job xs ++ l) (own_cons job gone ys (eq-eqb job job refl))

  -- where the last entry of the job is a Gone and it looks twice at most, the second Gone is the
  -- last
  pub gone_again : (first : Table) (before added : List Entry) → GoneTwice first job before added s c → LooksTwice job s c (own job added)
      → LastIs (own job added) (λ e. e ≡ gone) → GoneAgain first job before added s c
  gone_again first before added is twice (sofar, e, at, same) = record {
    a = is.a;
    between = is.between;
    behind = is.behind;
    z = is.z;
    parts = is.parts;
    live = is.live;
    last = ⊎_elim
        (λ (none : own job is.z ≡ []). none)
        (λ (has : Contains (own job is.z) gone). absurd (
        let there = looks_there (own job is.z) has in
        let most = looks_most (own job added) twice in
        let total = ap looks whole in
        let parts = looks_parts (own job ((is.a ++ gone ∷ is.between) ++ is.behind)) (gone ∷ own job is.z) in
        let second = looks_gone (own job is.z) in
        let before_parts = looks_parts (own job (is.a ++ gone ∷ is.between)) (own job is.behind) in
        let front_is = ap looks (filter-append (is_of job) (is.a ++ gone ∷ is.between) is.behind) in
        let early = ap looks (own_parts is.a is.between) in
        let early_parts = looks_parts (own job is.a) (gone ∷ own job is.between) in
        let one = looks_gone (own job is.between) in
        omega (arith, there, most, total, parts, second, before_parts, front_is, early, early_parts, one)))
        (last_in (own job ((is.a ++ gone ∷ is.between) ++ is.behind) ++ gone ∷ []) sofar (own job is.z) gone
        (ap (λ x. sofar ++ x ∷ []) (sym same) ∙ (sym at ∙ (whole ∙ sym (append_assoc (own job ((is.a ++ gone ∷ is.between) ++ is.behind)) (gone ∷ []) (own job is.z))))));
  }
    where
      whole : own job added ≡ own job ((is.a ++ gone ∷ is.between) ++ is.behind) ++ gone ∷ own job is.z
      whole = ap (own job) is.parts ∙ own_parts ((is.a ++ gone ∷ is.between) ++ is.behind) is.z
