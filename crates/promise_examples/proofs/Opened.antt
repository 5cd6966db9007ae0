-- An opening that finds a block gone.
use Rattle.std.proofs.Common.{◌≡◌, ◌⊎◌, inl, inr, ℕ, List, [], Option, Some, None, Bool, true, false, refl, sym, ap, arith, ◌∙◌}
use Rattle.std.specs.Prelude.{slice_get}
use Rattle.pot_outside.specs.Counts.{Rose}
use Rattle.pot_machine.specs.Table.{width}
use Rattle.pot_steps.specs.GroupStep.{FindsGone}
use Rattle.pot_steps.specs.Holdings.{stripe_of}
use Rattle.pot_steps.specs.Stripe.{Sound}
use Rattle.pot_promises.specs.Openings.{OpeningsAreTrue}
use Rattle.promise_examples.specs.Archives.{OpeningSaysGone, full}

-- a Live slot without a block is found Gone
none_there : (block : List ℕ) (held : ℕ → ℕ → Option (List ℕ)) (gone : ℕ → Bool) → held 0 0 ≡ None → FindsGone (width (full block)) (stripe_of (full block) held 0) gone → gone 0 ≡ true
none_there block held gone none finds = by (gone 0) refl
  where
    sound_not : Sound (stripe_of (full block) held 0) 0 → ⊥
    sound_not x = no_block x.0 (sym none ∙ x.1.held)
      where
        no_block : (b : List ℕ) → None ≡ Some b → ⊥
        no_block b e = cc

    by : (t : Bool) → gone 0 ≡ t → gone 0 ≡ true
    by true e = e
    by false e = absurd (sound_not (finds.left 0 (omega arith) e refl))

pub opening_says_gone : OpeningsAreTrue → OpeningSaysGone
opening_says_gone law block first last room story fits told leaves tables steady none =
    let x = law first last room [] story fits told leaves 0 (full block) (ap (λ ts. slice_get ts 0) tables) (λ n h. (refl, λ rose. rises n rose)) in
    (x, none_there block (λ n. (room.before.means n).held) (x.gone 0) none (x.finds 0 (omega arith)))
  where
    rises : (n : ℕ) → Rose (room.before.means n).faults (room.after.means n).faults ⊎ Rose (room.before.means n).losses (room.after.means n).losses → ⊥
    rises n (inl rose) = (steady n).0 rose
    rises n (inr rose) = (steady n).1 rose
