use Rattle.std.proofs.Common.{◌≡◌, ◌++◌, ℕ, List, take, drop, arith, sym, ap, ◌∙◌}
use Rattle.std.proofs.lemmas.List.{append_assoc, drop-drop, length-take, take_rest}
use Rattle.pot_bytes.specs.Digests.{digest_bytes}
use Rattle.pot_object.proofs.sealing.seal.Goals as goal

pub slice_bounds-digest_of_two-end : goal.slice_bounds-digest_of_two-end
slice_bounds-digest_of_two-end c = omega (arith, length-take {A = ℕ} 32 c.args.bytes.now)

pub returns : goal.returns
returns c =
    let bytes = c.args.bytes.now in
    let head = take 32 bytes in
    let rest = drop 64 bytes in
    let digest : c.copy_from_slice.new.self ≡ digest_bytes (head ++ rest) =
    c.copy_from_slice.ensures.after ∙ c.digest_of_two-digest.ensures
    ∙ ap (λ (z : List ℕ). digest_bytes (head ++ z)) (take_rest bytes 64) in
    ap (λ (z : List ℕ). head ++ (c.copy_from_slice.new.self ++ z)) (drop-drop 32 32 bytes)
    ∙ ap (λ (z : List ℕ). head ++ (z ++ rest)) digest
    ∙ sym (append_assoc head (digest_bytes (head ++ rest)) rest)
