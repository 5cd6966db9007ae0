use Rattle.std.proofs.Common.{◌≡◌, ℕ, List, take, drop, arith, ap, ◌∙◌}
use borrow.Rule.Slice.PartMut.{put_mid}
use Rattle.pot_object.specs.Sealing.{sealed}
use Rattle.pot_object.specs.Contents.{content_bytes, fragment_head_bytes}
use Rattle.pot_object.specs.declared.content.FragmentHead.{FragmentHead}
use Rattle.pot_object.proofs.ContentLemmas.{length-fragment_head_bytes}
use Rattle.pot_object.proofs.FieldLemmas.{head_before, rest_after}
use Rattle.pot_object.proofs.content.write_content.Goals as goal

pub returns : goal.returns
unfolding content_bytes
returns c =
    let h : FragmentHead = record { object_id = c.args.object_id.now; number = c.args.number; count = c.args.count } in
    let old = c.args.out.now in
    let part = c.copy_from_slice.new.self in
    let whole = length-fragment_head_bytes h c.told-object_id in
    let front : take 32 (put_mid 64 928 c.put_head.new.out part) ≡ fragment_head_bytes h =
    ap (λ (z : List ℕ). take 32 (put_mid 64 928 z part)) c.put_head.ensures ∙ head_before (fragment_head_bytes h) old part 928 whole (omega arith) in
    let back : drop 64 (put_mid 64 928 c.put_head.new.out part) ≡ c.args.part.now =
    ap (λ (z : List ℕ). drop 64 (put_mid 64 928 z part)) c.put_head.ensures ∙ rest_after (fragment_head_bytes h) old part 928 whole (omega arith)
    ∙ c.copy_from_slice.ensures.after in
    c.seal.ensures ∙ ap (λ (z : List ℕ). sealed z (drop 64 (put_mid 64 928 c.put_head.new.out part))) front
    ∙ ap (λ (z : List ℕ). sealed (fragment_head_bytes h) z) back
