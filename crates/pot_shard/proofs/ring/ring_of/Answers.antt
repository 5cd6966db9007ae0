use Rattle.std.proofs.Common.{◌≡◌, ◌≢◌, ◌<◌, ◌+◌, ℕ, length, get_or, inl, inr, arith, sym, ap, ◌∙◌, below_more, get_or-set_other, get_or-set_same}
use Rattle.std.proofs.lemmas.Bool.{cases_lt}
use Rattle.std.proofs.lemmas.List.{ext_get_or}
use Rattle.pot_pointer.specs.Pointers.{blur}
use Rattle.pot_shard.specs.Rings.{ring}
use Rattle.pot_shard.proofs.RingLemmas.{length-ring, ring_last, ring_next}
use Rattle.pot_shard.proofs.ring.ring_of.Goals as goal

pub loop-place-preserved : goal.loop-place-preserved
loop-place-preserved c =
    let names = c.args.names.now in
    let bits = c.args.bits in
    let at = c.loop-place.place in
    let here : c.blur.result ≡ get_or (ring names bits) at 0 = elim (cases_lt (at + 1) (length names)) [
      | inl inside ↦
          c.blur.ensures.value ∙ ap (λ (z : ℕ). blur z bits) (c.next_name.ensures.next inside) ∙ sym (ring_next names bits at inside)
      | inr past ↦
          let last : at + 1 ≡ length names = omega arith in
          c.blur.ensures.value ∙ ap (λ (z : ℕ). blur z bits) (c.next_name.ensures.last last) ∙ sym (ring_last names bits at last)
    ] in
    below_more _ _
    (λ k h. let ne : k ≢ at = omega arith in rw get_or-set_other (c.loop-place.invariant k h))
    (let lt : at < length c.loop-place.pointers = omega arith in rw get_or-set_same here)

pub returns : goal.returns
returns c =
    let names = c.args.names.now in
    ext_get_or 0 c.loop-place.pointers (ring names c.args.bits)
    (omega (arith, length-ring names c.args.bits))
    (λ k h. c.loop-place.invariant k (omega arith))
