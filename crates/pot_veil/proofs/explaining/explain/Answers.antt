use Rattle.std.proofs.Common.{◌≡◌, ◌<◌, ◌+◌, ◌-◌, ◌*◌, ℕ, length, arith, ap, ap₂, sym, ◌∙◌}
use Rattle.pot_shard.specs.FileBlocks.{fragment_len, head_len}
use Rattle.pot_shard.proofs.BlockLemmas.{part_within}
use Rattle.pot_veil.specs.Explained.{rows_len, rows_start}
use Rattle.pot_veil.proofs.Rewriting.{rows_written}
use Rattle.pot_veil.proofs.explaining.explain.Goals as goal

pub slice_bounds-rows-end : goal.slice_bounds-rows-end
slice_bounds-rows-end c =
    let g = c.args.geometry.now in
    let inside : c.from.result < g.fragments = omega (arith, c.from.ensures, c.requires.first, c.requires.last) in
    let whole : length c.explain_pad.new.random ≡ c.head_len.result + g.fragments * fragment_len g =
    c.explain_pad.auto.random ∙ c.requires.random ∙ ap (λ (z : ℕ). z + g.fragments * fragment_len g) (sym c.head_len.ensures.value) in
    let fits = part_within c.head_len.result c.fragment_len.result c.from.result g.fragments (fragment_len g) (length c.explain_pad.new.random)
    inside c.fragment_len.ensures.value whole in
    omega (arith, fits, c.fragment_len.ensures.value, c.rows_len.ensures.value)

pub returns : goal.returns
returns c =
    let g = c.args.geometry.now in
    let j = c.args.fragment - 1 in
    let start = c.head_len.result + c.from.result * c.fragment_len.result in
    let k = start + c.rows_len.result - start in
    let here : start ≡ rows_start g j =
    ap₂ (λ (h i : ℕ). h + i * c.fragment_len.result) c.head_len.ensures.value c.from.ensures
    ∙ ap (λ (s : ℕ). head_len g + j * s) c.fragment_len.ensures.value in
    let size : k ≡ rows_len g = omega (arith, c.rows_len.ensures.value) in
    rows_written g c.args.object.now c.args.other.now c.args.seen.now c.args.random.now c.explain_pad.new.random
    c.fragment_content-content.result c.fragment_content-changed.result c.explain_rows.new.rows j start k c.requires.geometry
    c.told-object c.told-other c.requires.random (omega (arith, c.requires.first, c.requires.last)) c.explain_pad.ensures
    c.fragment_content-content.ensures c.fragment_content-changed.ensures here size c.explain_rows.auto.rows c.explain_rows.ensures
