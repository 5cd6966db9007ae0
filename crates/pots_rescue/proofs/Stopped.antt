-- Each slot that was sound is sound again after a session that was stopped.
use Rattle.std.proofs.Common.{◌≡◌, ℕ, ◌<◌, ◌≤◌, Bool, true, false, List, Option, Some, None, refl, sym, ap, ◌∙◌, subst, arith}
use Rattle.std.specs.Prelude.{◌==◌, nat_le}
use Rattle.std.proofs.lemmas.Bool.Decides.{nat_tests}
use Rattle.pot_bytes.specs.declared.digest.Digest.{Digest}
use Rattle.pot_bytes.specs.Digests.{digest_bytes, digest_of}
use Rattle.pot_machine.specs.Table.{Table, serving_at, width}
use Rattle.pot_steps.specs.Holdings.{Holdings, stripe_of}
use Rattle.pot_steps.specs.Stripe.{Sound, Stripe}
use Rattle.pot_machine.specs.declared.slot.SlotState.TheVariants.{Live}
use Rattle.pots_rescue.specs.declared.bringing.Brought.{Brought}
use Rattle.pots_rescue.specs.declared.bringing.Brought.TheVariants.{There, Copied, Nowhere}
use Rattle.pots_rescue.specs.Bringing.{HoldsDigest, IsBrought}
use Rattle.pots_rescue.specs.Laws.{SlotContent, KeptIsPutBack}
use Rattle.pots_rescue.specs.Stopped.{IsAtCursor, IsParityKept, IsPutBack, IsSessionStopped, StoppedBears}

-- what was kept has the digest
kept_has : (d : Digest) (kept : Brought) (parity spare then : SlotContent) → HoldsDigest d parity → IsBrought d kept parity spare then → HoldsDigest d then
kept_has d There parity spare then has is = subst (HoldsDigest d) (sym is.1) is.0
kept_has d Copied parity spare then has is = subst (HoldsDigest d) (sym is.2) has
kept_has d Nowhere parity spare then has is = absurd (is.1 has)

kept_put_back : KeptIsPutBack
kept_put_back d kept There parity spare kept_then written then has k p = subst (HoldsDigest d) (sym p.1) p.0
kept_put_back d kept Copied parity spare kept_then written then has k p = subst (HoldsDigest d) (sym p.2) p.1
kept_put_back d kept Nowhere parity spare kept_then written then has k p = absurd (p.1 (kept_has d kept parity spare kept_then has k))

abbrev digest_with : List ℕ → Digest
digest_with bytes = record { bytes = bytes }

-- a slot that is sound holds a block of its digest, and the other way round
module _ (x : Stripe) (c : ℕ) where
  has_digest : (sound : Sound x c) → HoldsDigest sound.1.digest (x.held c)
  unfolding digest_of
  has_digest sound = subst (HoldsDigest sound.1.digest) (sym sound.1.held) (ap (λ (d : Digest). d.bytes) sound.1.right)

  is_sound : (d : Digest) → x.slots c ≡ Live d → HoldsDigest d (x.held c) → Sound x c
  unfolding digest_of
  is_sound d live has = by (x.held c) refl has
    where
      by : (o : Option _) → x.held c ≡ o → HoldsDigest d o → Sound x c
      by None e has = absurd has
      by (Some b) e has = (b, record { digest = d; live = live; held = e; right = same d has })
        where
          same : (d : Digest) → digest_bytes b ≡ d.bytes → digest_of b ≡ d
          same d e = ap digest_with e ∙ refl

module _ (t : Table) (first kept stopped then : Holdings) (k : IsParityKept t first kept) (w : IsSessionStopped t kept stopped) (p : IsPutBack t stopped then) where
  -- at the cursor
  parity_sound : (c : ℕ) → t.cursor.stripe < t.stripes → c < width t → t.data_columns ≤ c → Sound (stripe_of t first t.cursor.stripe) c → Sound (stripe_of t then t.cursor.stripe) c
  parity_sound c lt lc le sound =
      let s = t.cursor.stripe in
      let n = serving_at t s c in
      let d = sound.1.digest in
      let at : IsAtCursor t c d n = record { within = lt; column = lc; parity = le; live = sound.1.live; serves = refl } in
      let copy = k.spare c d n at in
      let back = p.parity c d n at in
      let put : IsBrought d back.0 (kept n t.stripes) (stopped n s) (then n s) = subst (λ o. IsBrought d back.0 o (stopped n s) (then n s)) (w.spare n) back.1 in
      is_sound (stripe_of t then s) c d sound.1.live
      (kept_put_back d copy.0 back.0 (first n s) (first n t.stripes) (kept n t.stripes) (stopped n s) (then n s) (has_digest (stripe_of t first s) c sound) copy.1 put)

  -- elsewhere
  other_sound : (s c : ℕ) → s < t.stripes → c < width t → (s ≡ t.cursor.stripe → t.data_columns ≤ c → ⊥) → Sound (stripe_of t first s) c → Sound (stripe_of t then s) c
  other_sound s c lt lc other sound =
      let n = serving_at t s c in
      let d = sound.1.digest in
      let same : then n s ≡ first n s = p.others s c d lt lc sound.1.live other ∙ (w.others s c d lt lc sound.1.live other ∙ k.same n s lt) in
      is_sound (stripe_of t then s) c d sound.1.live (subst (HoldsDigest d) (sym same) (has_digest (stripe_of t first s) c sound))

  bears : (s c : ℕ) → s < t.stripes → c < width t → Sound (stripe_of t first s) c → Sound (stripe_of t then s) c
  bears s c lt lc sound = by (s == t.cursor.stripe) (nat_le t.data_columns c) refl refl
    where
      is : (a b : ℕ) → (a == b) ≡ true → a ≡ b
      is a b e = grind (arith, nat_tests)

      is_not : (a b : ℕ) → (a == b) ≡ false → a ≡ b → ⊥
      is_not a b e = grind (arith, nat_tests)

      most : (a b : ℕ) → nat_le a b ≡ true → a ≤ b
      most a b e = grind (arith, nat_tests)

      not_most : (a b : ℕ) → nat_le a b ≡ false → a ≤ b → ⊥
      not_most a b e = grind (arith, nat_tests)

      by : (at parity : Bool) → (s == t.cursor.stripe) ≡ at → nat_le t.data_columns c ≡ parity → Sound (stripe_of t then s) c
      by false parity e l = other_sound s c lt lc (λ same le. is_not s t.cursor.stripe e same) sound
      by true false e l = other_sound s c lt lc (λ same le. not_most t.data_columns c l le) sound
      by true true e l =
          let same = is s t.cursor.stripe e in
          subst (λ k. Sound (stripe_of t then k) c) (sym same)
          (parity_sound c (subst (λ k. k < t.stripes) same lt) lc (most t.data_columns c l) (subst (λ k. Sound (stripe_of t first k) c) same sound))

pub stopped_bears : StoppedBears
stopped_bears t first kept stopped then k w p = bears t first kept stopped then k w p
