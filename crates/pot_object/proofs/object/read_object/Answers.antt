use Rattle.std.proofs.Common.{◌≡◌, IsTrue, false, arith, sym, subst, refl, ap, ◌∙◌}
use Rattle.pot_object.specs.Objects.{head_bytes, part_length, IsObjectHead}
use Rattle.pot_object.proofs.ReadLemmas.{head_at-object, head_bytes-head_at, sealed-object, zeros-object, IsObject-from_parts, zeros_there, zeros_as_read}
use Rattle.pot_object.proofs.object.read_object.Goals as goal
use Rattle.pot_object.proofs.object.read_object.Goals.{else-is_sealed-via-then-is_sealed+else-is_zeros, else-is_sealed-via-else-is_sealed}

pub returns-then-not-is_head : goal.returns-then-not-is_head
returns-then-not-is_head c h is =
    let same : h ≡ c.head_in-head.result = sym (head_at-object h c.args.bytes.now is) ∙ sym c.head_in-head.ensures in
    let yes : IsTrue false = c.if-not-is_head.ensures.1 (subst IsObjectHead same is.head) in
    cc

pub returns-then-is_zeros : goal.returns-then-is_zeros
returns-then-is_zeros c =
    let bytes = c.args.bytes.now in
    let h = c.head_in-head.result in
    IsObject-from_parts h bytes c.told-bytes (c.if-not-is_head.ensures.0 refl)
    (ap head_bytes c.head_in-head.ensures ∙ head_bytes-head_at bytes c.fits-bytes (omega arith))
    (c.if-is_sealed.ensures.0 refl)
    (zeros_there bytes (part_length h) c.part_len-end.result c.told-bytes c.part_len-end.ensures (c.if-is_zeros.ensures.0 refl))

pub returns-else-is_sealed : goal.returns-else-is_sealed
returns-else-is_sealed c h is =
    let bytes = c.args.bytes.now in
    let same : h ≡ c.head_in-head.result = sym (head_at-object h bytes is) ∙ sym c.head_in-head.ensures in
    elim c.else-is_sealed.branch [
      | else-is_sealed-via-then-is_sealed+else-is_zeros w ↦
          let yes : IsTrue false =
          w.if-is_zeros.ensures.1 (zeros_as_read bytes (part_length h) c.part_len-end.result c.told-bytes (c.part_len-end.ensures ∙ ap part_length (sym same)) (zeros-object h bytes c.told-bytes is)) in
          cc
      | else-is_sealed-via-else-is_sealed w ↦ let yes : IsTrue false = w.if-is_sealed.ensures.1 (sealed-object h bytes is) in cc
    ]
