use Rattle.std.proofs.Common.{◌≡◌, ◌++◌, ℕ, List, take, drop, arith, sym, ap, ◌∙◌}
use Rattle.std.proofs.lemmas.List.{length-take, take_rest}
use Rattle.std.proofs.lemmas.Bool.Decides.{Decides-eqb}
use Rattle.std.proofs.lemmas.Slice.Eq.{slice_eq-Decides}
use Rattle.pot_bytes.specs.Digests.{digest_bytes}
use Rattle.pot_object.proofs.SealLemmas.{digest_of_sealed, sealed_by_digest}
use Rattle.pot_object.proofs.sealing.is_sealed.Goals as goal

pub slice_bounds-digest_of_two-end : goal.slice_bounds-digest_of_two-end
slice_bounds-digest_of_two-end c = omega (arith, length-take {A = ℕ} 32 c.args.bytes.now)

pub returns : goal.returns
returns c =
    let bytes = c.args.bytes.now in
    let digest : c.as_slice.result.now ≡ digest_bytes (take 32 bytes ++ drop 64 bytes) =
    c.as_slice.ensures ∙ c.digest_of_two-digest.ensures
    ∙ ap (λ (z : List ℕ). digest_bytes (take 32 bytes ++ z)) (take_rest bytes 64) in
    let decides = slice_eq-Decides Decides-eqb c.as_slice.result.now (take 32 (drop 32 bytes)) c.eq.result c.eq.ensures in
    (λ yes. sealed_by_digest bytes (sym (decides.0 yes) ∙ digest), λ stands. decides.1 (digest ∙ sym (digest_of_sealed bytes c.requires stands)))
