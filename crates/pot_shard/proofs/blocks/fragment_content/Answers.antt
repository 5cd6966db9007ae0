use Rattle.std.proofs.Common.{◌≡◌, ◌-◌, ◌*◌, ◌++◌, ℕ, List, length, take, drop, arith, ap, ap₂, sym, ◌∙◌}
use Rattle.pot_bytes.specs.Sums.{xor}
use Rattle.pot_split.specs.Secrecy.{meaning}
use Rattle.pot_shard.specs.FileBlocks.{content_of, pads_in}
use Rattle.pot_shard.proofs.BlockLemmas.{pads_are_rows}
use Rattle.pot_shard.proofs.blocks.fragment_content.Goals as goal

pub last_fragment-last-requires : goal.last_fragment-last-requires
last_fragment-last-requires c =
    pads_are_rows c.args.geometry.now c.args.random.now c.head_len.result c.requires.random c.head_len.ensures.value

pub returns : goal.returns
returns c =
    let g = c.args.geometry.now in
    let object = c.args.object.now in
    let random = c.args.random.now in
    let pads : c.head_len.result - 16 ≡ (g.fragments - 1) * 928 = omega (arith, c.head_len.ensures.value) in
    let last : c.last_fragment-last.result ≡ xor object (meaning (length object) (pads_in g random)) =
    c.last_fragment-last.ensures
    ∙ ap₂ (λ (s n : ℕ). xor object (meaning s (take n (drop 16 random)))) (sym c.told-object) pads in
    c.content_at.ensures ∙ ap (λ (z : List ℕ). content_of g (pads_in g random ++ z) random c.args.number) last
