use Rattle.std.proofs.Common.{◌≡◌, ◌*◌, ℕ, List, sym, ap, ◌∙◌}
use Rattle.std.specs.Prelude.{Ok, is_ok, is_some}
use Rattle.std.specs.Result.{result_ok}
use Rattle.std.proofs.lemmas.Bool.{true≢false}
use Rattle.std.proofs.lemmas.Bool.Decides.{Decides-eqb}
use Rattle.std.proofs.lemmas.Option.{same_Some}
use Rattle.std.proofs.lemmas.Slice.Eq.{slice_eq-Decides}
use Rattle.hex.specs.Hex.{decode_sized, encode_lower, lower_digits}
use Rattle.hex.proofs.HexLemmas.{decode_of-encode_lower, decode_sized-twice, length-encode_with}
use Rattle.pot_bytes.specs.declared.digest.Digest.{Digest}
use Rattle.pot_client.specs.ReplyWords.{IsByteDigest}
use Rattle.pot_client.proofs.digests.read_digest.Goals as goal

-- the text of a digest is read as its bytes
decodes : (word : List ℕ) (d : Digest) → IsByteDigest d → word ≡ encode_lower d.bytes → decode_sized word 32 ≡ Ok d.bytes
decodes word d is e =
    ap (λ (t : List ℕ). decode_sized t 32) e ∙ decode_sized-twice (encode_lower d.bytes) 32 (length-encode_with lower_digits d.bytes ∙ ap (λ n. 2 * n) is.0)
    ∙ decode_of-encode_lower d.bytes is.1

pub returns-in_err-bytes : goal.returns-in_err-bytes
returns-in_err-bytes c =
    rw c.from_residual.ensures (λ d is e.
    true≢false (sym (ap is_ok (c.from_hex.ensures ∙ decodes c.args.word.now d is e)) ∙ sym c.ok.ensures.variant ∙ ap is_some c.in_err-bytes.was))

pub returns-else-eq : goal.returns-else-eq
returns-else-eq c = λ d is e.
    let bytes : c.in_ok-bytes.bytes ≡ d.bytes =
    same_Some c.in_ok-bytes.bytes d.bytes (sym c.in_ok-bytes.was ∙ c.ok.ensures.value ∙ ap result_ok (c.from_hex.ensures ∙ decodes c.args.word.now d is e)) in
    let digits : c.as_slice.result.now ≡ c.args.word.now = c.as_slice.ensures ∙ c.digits_of.ensures ∙ ap encode_lower bytes ∙ sym e in
    true≢false (sym ((slice_eq-Decides Decides-eqb c.as_slice.result.now c.args.word.now c.eq.result c.eq.ensures).1 digits) ∙ c.if-eq.false)
