-- The openings of a session in which no count rose.
use Rattle.std.proofs.Common.{◌≡◌, ◌⊎◌, inl, inr, ℕ, ◌<◌, ◌+◌, Bool, true, false, IsTrue, List, refl, sym, ap, ◌∙◌, subst}
use Rattle.std.proofs.lemmas.Option.{same_Some}
use Rattle.pot_outside.specs.Archives.{Meaning}
use Rattle.pot_machine.specs.declared.slot.SlotState.TheVariants.{Void}
use Rattle.pot_machine.specs.declared.entry.Entry.{Entry}
use Rattle.pot_machine.specs.Slot.{digest_in, is_live}
use Rattle.pot_machine.specs.Table.{Table, serving_at, width}
use Rattle.pot_steps.specs.Stripe.{Stripe, IsSound, Sound, NoneBroken, HasFilling}
use Rattle.pot_steps.specs.Law.{FindsUnsound, FewUnsound}
use Rattle.pot_steps.specs.Holdings.{stripe_of}
use Rattle.pot_steps.specs.GroupStep.{BreaksStripe, FindsGone, Spared, as_read}
use Rattle.pot_steps.proofs.Steps.{filling_stays}
use Rattle.pot_image.specs.Rules.{FitsTable}
use Rattle.pot_shared.specs.Groups.{IsOpened}
use Rattle.pot_session.specs.Serving.{RoseInRoom, RoseOftenInRoom}
use Rattle.pot_shared.proofs.GroupLemmas.{serves_there}
use Rattle.pot_shared.proofs.Lists.{all_at_place}
use Rattle.pot_promises.specs.Openings.{OpeningsAreTrue, OpensAsMeant}

-- STRIPES WITH THE SAME SOUND SLOTS

-- the slots of two stripes are the same, and they are sound with the same blocks
record SameSound (wide : ℕ) (a b : Stripe) : Type 0 where
  slots : (c : ℕ) → b.slots c ≡ a.slots c
  there : (c : ℕ) (x : List ℕ) → c < wide → IsSound a c x → IsSound b c x
  back : (c : ℕ) (x : List ℕ) → c < wide → IsSound b c x → IsSound a c x

turned : (wide : ℕ) (a b : Stripe) → SameSound wide a b → SameSound wide b a
turned wide a b same = record { slots = λ c. sym (same.slots c); there = same.back; back = same.there }

module _ (wide : ℕ) (a b : Stripe) (same : SameSound wide a b) where
  sound : (c : ℕ) → c < wide → Sound a c → Sound b c
  sound c lt x = (x.0, same.there c x.0 lt x.1)

  unsound : (c : ℕ) → c < wide → (Sound a c → ⊥) → Sound b c → ⊥
  unsound c lt none x = none (x.0, same.back c x.0 lt x.1)

  finds : (test : ℕ → Bool) → FindsGone wide a test → FindsGone wide b test
  finds test f = record {
    found = λ c lt e. (let h = f.found c lt e in (subst (λ x. IsTrue (is_live x)) (sym (same.slots c)) h.0, unsound c lt h.1));
    left = λ c lt e live. sound c lt (f.left c lt e (subst (λ x. IsTrue (is_live x)) (same.slots c) live));
  }

module _ (data_columns parity : ℕ) (a b : Stripe) (same : SameSound (data_columns + parity) a b) where
  unbroken : NoneBroken data_columns parity a → NoneBroken data_columns parity b
  unbroken none c d lt e = none c d lt (sym (same.slots c) ∙ e)

  filling : HasFilling data_columns parity a → HasFilling data_columns parity b
  filling f = (f.0, filling_stays data_columns parity a b f.0 f.1 (λ c lt. ap digest_in (same.slots c)) (λ c x lt h. f.1.held c x lt (same.back c x lt h)))

  finds_unsound : (test : ℕ → Bool) → FindsUnsound data_columns parity a test → FindsUnsound data_columns parity b test
  finds_unsound test f c lt = (
    λ h. (let k = (f c lt).0 h in (λ e. k.0 (sym (same.slots c) ∙ e), unsound (data_columns + parity) a b same c lt k.1)),
    λ k. (f c lt).1 (λ e. k.0 (same.slots c ∙ e), λ x. k.1 (sound (data_columns + parity) a b same c lt x)),
  )

  few : FewUnsound data_columns parity a → FewUnsound data_columns parity b
  few f = (f.0, finds_unsound f.0 f.1, f.2)

  either : (c : ℕ) → c < data_columns + parity → (a.slots c ≡ Void) ⊎ Sound a c → (b.slots c ≡ Void) ⊎ Sound b c
  either c lt (inl e) = inl (same.slots c ∙ e)
  either c lt (inr x) = inr (sound (data_columns + parity) a b same c lt x)

module _ (data_columns parity : ℕ) (a b : Stripe) (same : SameSound (data_columns + parity) a b) (test : ℕ → Bool) where
  other : SameSound (data_columns + parity) b a
  other = turned (data_columns + parity) a b same

  breaks : BreaksStripe data_columns parity a test → BreaksStripe data_columns parity b test
  breaks x = record {
    none_broken = unbroken data_columns parity a b same x.none_broken;
    no_filling = λ f. x.no_filling (filling data_columns parity b a other f);
    few = few data_columns parity a b same x.few;
    which = elim x.which [
      | inl u ↦ inl (finds_unsound data_columns parity a b same test u.0, u.1, u.2, u.3)
      | inr u ↦ inr (λ c lt. either data_columns parity a b same c lt (u.0 c lt), u.1)
    ];
  }

  spared : Spared data_columns parity a test → Spared data_columns parity b test
  spared x = record {
    none = x.none;
    why = elim x.why [
      | inl f ↦ inl (filling data_columns parity a b same f)
      | inr none ↦ inr (λ unbroken_b few_b. none (unbroken data_columns parity b a other unbroken_b) (few data_columns parity b a other few_b))
    ];
  }

-- AN OPENING

module _ (meant : ℕ → Meaning) (Rises : ℕ → Type 0) (Often : ℕ → ℕ → Type 0) (t : Table) (log : List Entry) (o : IsOpened meant Rises Often t log)
    (none : (s c : ℕ) → s < t.stripes → c < width t → Rises (serving_at t s c) → ⊥) where
  abbrev meant_at : ℕ → Stripe
  meant_at s = stripe_of t (λ n. (meant n).held) s

  -- a sound block was read, since else its slot were Gone
  is_read : (s c : ℕ) (x : List ℕ) → s < t.stripes → c < width t → IsSound (meant_at s) c x → IsSound (as_read t o.read s) c x
  is_read s c x ls lc h = by (o.gone s c) refl
    where
      by : (b : Bool) → o.gone s c ≡ b → IsSound (as_read t o.read s) c x
      by true e = absurd (none s c ls lc (o.missed s c ls lc e (x, h)))
      by false e =
          let r : Sound (as_read t o.read s) c = (o.finds s ls).left c lc e (ap is_live h.live) in
          let same : r.0 ≡ x = same_Some r.0 x (sym (o.found s c r.0 ls lc r.1.held) ∙ h.held) in
          subst (λ y. IsSound (as_read t o.read s) c y) same r.1

  same_sound : (s : ℕ) → s < t.stripes → SameSound (width t) (as_read t o.read s) (meant_at s)
  same_sound s ls = record {
    slots = λ c. refl;
    there = λ c x lc h. record { digest = h.digest; live = h.live; held = o.found s c x ls lc h.held; right = h.right };
    back = λ c x lc h. is_read s c x ls lc h;
  }

  opens_as_meant : OpensAsMeant meant t log
  opens_as_meant = record {
    gone = o.gone;
    broke = o.broke;
    finds = λ s ls. finds (width t) (as_read t o.read s) (meant_at s) (same_sound s ls) (o.gone s) (o.finds s ls);
    breaks = λ s ls. elim (o.breaks s ls) [
      | inl x ↦ inl (breaks t.data_columns t.parity (as_read t o.read s) (meant_at s) (same_sound s ls) (o.broke s) x)
      | inr x ↦ inr (spared t.data_columns t.parity (as_read t o.read s) (meant_at s) (same_sound s ls) (o.broke s) x)
    ];
    is = o.is;
  }

pub openings_are_true : OpeningsAreTrue
openings_are_true first last room missing story fits told leaves group read is still =
    let rules : FitsTable first.rack read = all_at_place (FitsTable first.rack) first.tables group read fits.tables.fits is in
    opens_as_meant room.before.means (RoseInRoom room.before.means room.after.means missing) (RoseOftenInRoom room.before.means room.after.means missing) read (story.before group) (leaves.found told group read is)
    (λ s c ls lc rises. (let h = still (serving_at read s c) (serves_there read rules.rules s c lc) in h.1 (rises h.0)))
