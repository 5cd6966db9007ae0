-- The list of the slots that are Lost or Broken has all of them and no others.
use Rattle.std.proofs.Common.{◌≡◌, ◌<◌, ◌||◌, ℕ, zero, suc, Bool, true, false, IsTrue, Option, Some, None, List, [], ◌∷◌, length, get_or, refl, sym, ap, ap₂, subst, ◌∙◌, arith, if◌then◌else◌}
use Rattle.std.specs.Prelude.{slice_get}
use Rattle.std.specs.List.{Contains, list_any}
use Rattle.std.proofs.lemmas.Bool.Decides.{nat_tests}
use Rattle.pot_bytes.specs.declared.digest.Digest.{Digest}
use Rattle.pot_bytes.proofs.Elements.{none_contained, one_contained}
use Rattle.pot_machine.specs.declared.slot.SlotState.{SlotState}
use Rattle.pot_machine.specs.declared.slot.SlotState.TheVariants.{Void, Live, Lost, Broken}
use Rattle.pot_machine.specs.Slot.{digest_in, is_unsound, live_of}
use Rattle.pot_machine.specs.Table.{Table, width, serving_at, slot_at}
use Rattle.pot_image.specs.Images.{Contents}
use Rattle.pot_recheck.specs.declared.listing.Unsound.{Unsound}
use Rattle.pot_recheck.specs.Listing.{IsUnsound, if_unsound, unsound_at, in_stripe, in_table, in_group, in_groups, in_image}
use Rattle.pot_recheck.specs.Finding.{names, is_named, found_slot}
use Rattle.pot_recheck.proofs.Rows.{in_row, of_row}

-- ONE SLOT

record Tells (g s c archive : ℕ) (x : SlotState) (u : Unsound) : Type 0 where
  pub group : u.group ≡ g
  pub stripe : u.stripe ≡ s
  pub column : u.column ≡ c
  pub archive_is : u.archive ≡ archive
  pub unsound : IsTrue (is_unsound x)
  pub digest : digest_in x ≡ Some u.digest

module _ (g s c archive : ℕ) (u : Unsound) where
  tells : (x : SlotState) → Contains (if_unsound g s c archive x) u → Tells g s c archive x u
  tells Void h = absurd (none_contained u h)
  tells (Live d) h = absurd (none_contained u h)
  tells (Lost d) h =
      let e = one_contained (record { group = g; stripe = s; column = c; archive = archive; digest = d }) u h in
      record { group = sym (ap (λ (x : Unsound). x.group) e); stripe = sym (ap (λ (x : Unsound). x.stripe) e); column = sym (ap (λ (x : Unsound). x.column) e); archive_is = sym (ap (λ (x : Unsound). x.archive) e); unsound = refl; digest = ap (λ (x : Unsound). Some x.digest) e }
  tells (Broken d) h =
      let e = one_contained (record { group = g; stripe = s; column = c; archive = archive; digest = d }) u h in
      record { group = sym (ap (λ (x : Unsound). x.group) e); stripe = sym (ap (λ (x : Unsound). x.stripe) e); column = sym (ap (λ (x : Unsound). x.column) e); archive_is = sym (ap (λ (x : Unsound). x.archive) e); unsound = refl; digest = ap (λ (x : Unsound). Some x.digest) e }

-- the slot of what is Lost or Broken tells it
told : (u : Unsound) (archive : ℕ) (x : SlotState) → u.archive ≡ archive → IsTrue (is_unsound x) → digest_in x ≡ Some u.digest → Contains (if_unsound u.group u.stripe u.column archive x) u
told u archive Void e h q = absurd (cc)
told u archive (Live d) e h q = absurd (cc)
told u archive (Lost d) e h q = (0, omega arith, ap₂ (λ a (z : Digest). record { group = u.group; stripe = u.stripe; column = u.column; archive = a; digest = z }) (sym e) (let same : d ≡ u.digest = cc in same))
told u archive (Broken d) e h q = (0, omega arith, ap₂ (λ a (z : Digest). record { group = u.group; stripe = u.stripe; column = u.column; archive = a; digest = z }) (sym e) (let same : d ≡ u.digest = cc in same))

-- THE IMAGE

module _ (v : Contents) (u : Unsound) where
  by_group : (g : ℕ) (o : Option Table) → g < v.rack.groups → slice_get v.tables g ≡ o → Contains (in_group g o) u → IsUnsound v u
  unfolding in_table in_stripe
  by_group g None l q h = absurd (none_contained u h)
  by_group g (Some t) l q h =
      let a = in_row (in_stripe g t) u t.stripes h in
      let b = in_row (unsound_at g t a.0) u (width t) a.2 in
      let e = tells g a.0 b.0 (serving_at t a.0 b.0) u (slot_at t a.0 b.0) b.2 in
      let same = ap₂ (λ s c. slot_at t s c) (sym e.stripe) (sym e.column) in
      record {
        table = t;
        group = (let p = e.group in omega (arith, p, l));
        its = ap (slice_get v.tables) e.group ∙ q;
        stripe = (let p = e.stripe in let m = a.1 in omega (arith, p, m));
        column = (let p = e.column in let m = b.1 in omega (arith, p, m));
        unsound = subst (λ x. IsTrue (is_unsound x)) same e.unsound;
        digest = subst (λ x. digest_in x ≡ Some u.digest) same e.digest;
        archive = e.archive_is ∙ ap₂ (λ s c. serving_at t s c) (sym e.stripe) (sym e.column);
      }

  pub listed_is : Contains (in_image v) u → IsUnsound v u
  unfolding in_groups
  listed_is h = (let a = in_row (λ g. in_group g (slice_get v.tables g)) u v.rack.groups h in by_group a.0 (slice_get v.tables a.0) a.1 refl a.2)

  pub is_listed : IsUnsound v u → Contains (in_image v) u
  unfolding in_groups in_table in_stripe
  is_listed is =
      of_row (λ g. in_group g (slice_get v.tables g)) u v.rack.groups u.group is.group
      (subst (λ o. Contains (in_group u.group o) u) (sym is.its)
      (of_row (in_stripe u.group is.table) u is.table.stripes u.stripe is.stripe
      (of_row (unsound_at u.group is.table u.stripe) u (width is.table) u.column is.column
      (told u (serving_at is.table u.stripe u.column) (slot_at is.table u.stripe u.column) is.archive is.unsound is.digest))))

-- ALL ARE NAMED

any_of : {X : Type 0} (test : X → Bool) (xs : List X) (x : X) (k : ℕ) → k < length xs → get_or xs k x ≡ x → test x ≡ true → list_any test xs ≡ true
any_of test [] x k l h e = absurd (omega (arith, l))
any_of test (y ∷ ys) x zero l h e = ap (λ b. b || list_any test ys) (ap test h ∙ e)
any_of test (y ∷ ys) x (suc k) l h e = ap (λ b. test y || b) (any_of test ys x k (omega (arith, l)) h e) ∙ either_true (test y)
  where
    either_true : (b : Bool) → (b || true) ≡ true
    either_true true = refl
    either_true false = refl

itself : (u : Unsound) → names u.group u.stripe u.column u ≡ true
itself u = grind (arith, nat_tests)

-- where all are named, each slot becomes Live that is not Void
pub all_named : (v : Contents) (g s c : ℕ) (t : Table) → g < v.rack.groups → slice_get v.tables g ≡ Some t → s < t.stripes → c < width t → found_slot (in_image v) g t s c ≡ live_of (slot_at t s c)
all_named v g s c t lg q ls lc = by (slot_at t s c) refl
  where
    unsound : Digest → Unsound
    unsound d = record { group = g; stripe = s; column = c; archive = serving_at t s c; digest = d }

    named : (d : Digest) → IsTrue (is_unsound (slot_at t s c)) → digest_in (slot_at t s c) ≡ Some d → is_named (in_image v) g s c ≡ true
    named d h e = (let is = is_listed v (unsound d) (record { table = t; group = lg; its = q; stripe = ls; column = lc; unsound = h; digest = e; archive = refl }) in any_of (names g s c) (in_image v) (unsound d) is.0 is.1 is.2 (itself (unsound d)))

    either : (b : Bool) (x : SlotState) → live_of x ≡ x → (if b then live_of x else x) ≡ live_of x
    either true x e = refl
    either false x e = sym e

    by : (x : SlotState) → slot_at t s c ≡ x → found_slot (in_image v) g t s c ≡ live_of (slot_at t s c)
    by Void e = either (is_named (in_image v) g s c) (slot_at t s c) (ap live_of e ∙ sym e)
    by (Live d) e = either (is_named (in_image v) g s c) (slot_at t s c) (ap live_of e ∙ sym e)
    by (Lost d) e = ap (λ b. if b then live_of (slot_at t s c) else slot_at t s c) (named d (ap is_unsound e) (ap digest_in e))
    by (Broken d) e = ap (λ b. if b then live_of (slot_at t s c) else slot_at t s c) (named d (ap is_unsound e) (ap digest_in e))
