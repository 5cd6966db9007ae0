use Rattle.std.proofs.Common.{◌≡◌, ◌+◌, ◌-◌, ◌*◌, ◌++◌, ℕ, List, take, drop, arith, ap, ◌∙◌}
use Rattle.pot_object.specs.Contents.{content}
use Rattle.pot_shard.specs.FileBlocks.{content_of, part_at}
use Rattle.pot_shard.proofs.blocks.content_at.Goals as goal

pub returns : goal.returns
unfolding content_of
returns c =
    let g = c.args.geometry.now in
    let random = c.args.random.now in
    let j = c.args.number in
    let pads : c.head_len.result - 16 ≡ (g.fragments - 1) * 928 = omega (arith, c.head_len.ensures.value) in
    c.write_content.ensures
    ∙ ap (λ (z : List ℕ). content z (j + 1) g.fragments c.fragment_at-fragment.result) c.id_in-id.ensures
    ∙ ap (content (take 16 random) (j + 1) g.fragments)
    (c.fragment_at-fragment.ensures ∙ ap (λ (z : ℕ). part_at 0 928 j (take z (drop 16 random) ++ c.args.last.now)) pads)
