use Rattle.std.proofs.Common.{◌≡◌, ℕ, length, take, drop, replicate, IsTrue, false, arith, sym, subst, refl, ap, ◌∙◌}
use Rattle.std.proofs.lemmas.List.{length-drop, length-take}
use Rattle.pot_object.specs.Contents.{fragment_head_bytes, IsFragmentHead}
use Rattle.pot_object.proofs.ContentLemmas.{fragment_head_at-content, fragment_head_bytes-at, sealed-content, zeros-content, IsContent-from_parts}
use Rattle.pot_object.proofs.content.read_content.Goals as goal
use Rattle.pot_object.proofs.content.read_content.Goals.{else-is_head-via-then-is_head+then-is_zeros+else-is_sealed, else-is_head-via-then-is_head+else-is_zeros, else-is_head-via-else-is_head}

pub returns-then-is_sealed : goal.returns-then-is_sealed
returns-then-is_sealed c =
    let bytes = c.args.bytes.now in
    let h = c.head_in-head.result in
    let room : length (take 14 (drop 18 bytes)) ≡ 14 = omega (arith, length-take {A = ℕ} 14 (drop 18 bytes), length-drop {A = ℕ} 18 bytes) in
    let zeros : take 14 (drop 18 bytes) ≡ replicate 14 0 = c.if-is_zeros.ensures.0 refl ∙ ap (λ (k : ℕ). replicate k 0) room in
    IsContent-from_parts h bytes c.told-bytes (c.if-is_head.ensures.0 refl)
    (ap fragment_head_bytes c.head_in-head.ensures ∙ fragment_head_bytes-at bytes (omega arith) zeros)
    (c.if-is_sealed.ensures.0 refl)

pub returns-else-is_head : goal.returns-else-is_head
returns-else-is_head c h is =
    let bytes = c.args.bytes.now in
    let same : h ≡ c.head_in-head.result = sym (fragment_head_at-content h bytes is) ∙ sym c.head_in-head.ensures in
    let room : length (take 14 (drop 18 bytes)) ≡ 14 = omega (arith, length-take {A = ℕ} 14 (drop 18 bytes), length-drop {A = ℕ} 18 bytes) in
    elim c.else-is_head.branch [
      | else-is_head-via-then-is_head+then-is_zeros+else-is_sealed w ↦
          let yes : IsTrue false = w.if-is_sealed.ensures.1 (sealed-content h bytes is) in
          cc
      | else-is_head-via-then-is_head+else-is_zeros w ↦
          let yes : IsTrue false = w.if-is_zeros.ensures.1 (zeros-content h bytes is ∙ ap (λ (k : ℕ). replicate k 0) (sym room)) in
          cc
      | else-is_head-via-else-is_head w ↦ let yes : IsTrue false = w.if-is_head.ensures.1 (subst IsFragmentHead same is.head) in cc
    ]
