use Rattle.std.proofs.Common.{◌≡◌, ◌<◌, ◌*◌, ◌%◌, ℕ, length, get_or, ap, ap₂, sym, ◌∙◌, arith}
use Rattle.pot_world.proofs.DataLemmas.{written_all}
use Rattle.pot_actors.proofs.BlockLemmas.{block_is, piece_within, pos_mul}
use Rattle.pot_actors.proofs.blocks.block_at.Goals as goal

pub piece_at-requires-clause-exists : goal.piece_at-requires-clause-exists
piece_at-requires-clause-exists c =
    let u = c.args.split.now in
    let g = c.requires.store.geometry in
    let few = g.fragments in
    let need = g.need in
    piece_within u.geometry u.file u.random c.args.at (c.from.result * c.from-2.result) (ap₂ (λ (a b : ℕ). a * b) c.from.ensures c.from-2.ensures)
    (pos_mul c.from.result c.from-2.result (omega (arith, few.0, c.from.ensures)) (omega (arith, need.0, need.1, c.from-2.ensures))) c.requires.within

pub returns : goal.returns
returns c =
    let u = c.args.split.now in
    let g = c.requires.store.geometry in
    let few = g.fragments in
    let need = g.need in
    block_is u.geometry u.file u.random c.args.at (c.from.result * c.from-2.result) (ap₂ (λ (a b : ℕ). a * b) c.from.ensures c.from-2.ensures)
    (pos_mul c.from.result c.from-2.result (omega (arith, few.0, c.from.ensures)) (omega (arith, need.0, need.1, c.from-2.ensures))) c.requires.within
    c.piece_at.new.out c.index.result.now c.piece_at.ensures
    (c.index.ensures ∙ ap (λ xs. get_or xs (c.args.at % (c.from.result * c.from-2.result)) c.index.result.now)
    (written_all c.in_ok-blocks.blocks.len c.piece_at.new.out c.in_ok-blocks.blocks.items (sym c.deref_mut.ensures.len ∙ ap length c.deref_mut.ensures.value) (c.piece_at.auto.out ∙ ap length c.deref_mut.ensures.value)))
