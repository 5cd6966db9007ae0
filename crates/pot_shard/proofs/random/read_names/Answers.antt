use Rattle.std.proofs.Common.{◌≡◌, ◌*◌, ◌∷◌, ◌++◌, [], ℕ, List, length, drop, arith, ap, ap₂, sym, ◌∙◌}
use Rattle.std.proofs.lemmas.List.{take_more_set, take_all}
use Rattle.std.proofs.lemmas.List.FromFn.{map-range_with_len_more}
use Rattle.byteorder.specs.Endian.{big_number}
use Rattle.pot_shard.specs.FileBlocks.{names_at}
use Rattle.pot_shard.proofs.random.read_names.Goals as goal

pub loop-place-preserved : goal.loop-place-preserved
loop-place-preserved c =
    let at = c.loop-place.place in
    let bytes = c.args.bytes.now in
    let f : ℕ → ℕ = λ i. big_number 8 (drop (i * 8) bytes) in
    take_more_set c.loop-place.names at c.read_be64.result (omega arith)
    ∙ ap₂ (λ (xs : List ℕ) (y : ℕ). xs ++ y ∷ []) c.loop-place.invariant c.read_be64.ensures
    ∙ sym (map-range_with_len_more f 0 at at (omega arith))

pub returns : goal.returns
returns c =
    let n = length c.args.names.now in
    sym (take_all c.loop-place.place c.loop-place.names (omega arith)) ∙ c.loop-place.invariant
    ∙ ap (λ (k : ℕ). names_at k c.args.bytes.now) (let e : c.loop-place.place ≡ n = omega arith in e)
