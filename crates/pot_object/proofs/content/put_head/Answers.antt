use Rattle.std.proofs.Common.{◌≡◌, ◌++◌, ◌∷◌, [], length, take, drop, replicate, ℕ, List, arith, refl, ap, ◌∙◌, length-append, length-drop}
use Rattle.std.proofs.lemmas.List.{append_assoc, length-take, length-take-le}
use borrow.Rule.Slice.PartMut.{put_mid}
use Rattle.pot_object.specs.Contents.{fragment_head_bytes}
use Rattle.pot_object.proofs.FieldLemmas.{put_field}
use Rattle.pot_object.proofs.content.put_head.Goals as goal

pub returns : goal.returns
unfolding fragment_head_bytes
returns c =
    let old = c.args.out.now in
    let id = c.copy_from_slice.new.self in
    let two = c.args.head.now.number ∷ c.args.head.now.count ∷ [] in
    let zeros : List ℕ = replicate 14 0 in
    let whole : length id ≡ 16 = c.copy_from_slice.ensures.len ∙ length-take-le 16 old (omega arith) in
    let xs = (id ++ two) ++ drop 18 old in
    let first : put_mid 16 2 (id ++ drop 16 old) c.copy_from_slice-2.new.self ≡ xs =
    put_field id old (id ++ drop 16 old) c.copy_from_slice-2.new.self two 16 2 whole refl c.copy_from_slice-2.ensures.after in
    let room : length (take 14 (drop 18 xs)) ≡ 14 =
    omega (arith, length-take {A = ℕ} 14 (drop 18 xs), length-drop {A = ℕ} 18 xs, length-append {A = ℕ} (id ++ two) (drop 18 old), length-append {A = ℕ} id two, length-drop {A = ℕ} 18 old) in
    let filled : c.fill.new.self ≡ zeros =
    c.fill.ensures.after (λ y e. e)
    ∙ ap (λ (z : List ℕ). replicate (length (take 14 (drop 18 z))) 0) first ∙ ap (λ (k : ℕ). replicate k 0) room in
    let fields : put_mid 18 14 (put_mid 16 2 (id ++ drop 16 old) c.copy_from_slice-2.new.self) c.fill.new.self ≡ ((id ++ two) ++ zeros) ++ drop 32 old =
    put_field (id ++ two) old (put_mid 16 2 (id ++ drop 16 old) c.copy_from_slice-2.new.self) c.fill.new.self zeros 18 14 (omega (arith, length-append {A = ℕ} id two)) first filled in
    let last = c.args.head.now.number ∷ c.args.head.now.count ∷ zeros in
    let regrouped : ((id ++ two) ++ zeros) ++ drop 32 old ≡ (c.args.head.now.object_id ++ last) ++ drop 32 old =
    ap (λ (z : List ℕ). z ++ drop 32 old) (append_assoc id two zeros)
    ∙ ap (λ (z : List ℕ). (z ++ last) ++ drop 32 old) c.copy_from_slice.ensures.after in
    fields ∙ regrouped
