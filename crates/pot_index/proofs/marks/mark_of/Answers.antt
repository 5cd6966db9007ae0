use Rattle.std.proofs.Common.{◌≡◌, ◌++◌, ap, ◌∙◌, List, ℕ, []}
use Rattle.std.specs.List.{flat_map}
use Rattle.sha2.specs.Sha256.{sha256}
use Rattle.pot_bytes.specs.Digests.{digest_bytes}
use Rattle.pot_bytes.specs.declared.digest.Digest.{Digest}
use Rattle.pot_bytes.specs.declared.rack.Place.{Place}
use Rattle.pot_index.specs.declared.record.Split.{Split}
use Rattle.pot_index.specs.Records.{head_bytes, split_bytes, current_of, record_bytes}
use Rattle.pot_index.proofs.Writes.{record_parts}
use Rattle.pot_index.proofs.marks.mark_of.Goals as goal

pub returns : goal.returns
unfolding digest_bytes
returns c =
    let kept = c.args.kept.now in
    let older = c.as_slice.result.now in
    let whole =
    ap (λ (ps : List Place). (head_bytes kept ++ flat_map split_bytes older) ++ split_bytes (record { geometry = kept.geometry; places = ps })) c.as_slice-2.ensures
    ∙ ap (λ (ss : List Split). (head_bytes kept ++ flat_map split_bytes ss) ++ split_bytes (current_of kept)) c.as_slice.ensures.value ∙ record_parts kept in
    let is = c.finalize.ensures _ (c.hash_split.ensures _ (c.hash_splits.ensures _ (c.hash_head.ensures [] c.new-hasher.ensures))) in
    let bytes_is : c.finalize.result ≡ sha256 (record_bytes kept) = is ∙ ap sha256 whole in
    ap (λ (b : List ℕ). let d : Digest = record { bytes = b } in d) bytes_is
