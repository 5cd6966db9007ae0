use Rattle.std.proofs.Common.{◌*◌, ℕ, length, ap, ap₂, sym, ◌∙◌}
use Rattle.pot_object.specs.Pieces.{pieces_of}
use Rattle.pot_shard.proofs.PlaceLemmas.{place_laws}
use Rattle.pot_actors.proofs.blocks.count_blocks.Goals as goal

pub returns-clause-value : goal.returns-clause-value
returns-clause-value c =
    let u = c.args.split.now in
    ap₂ (λ (a b : ℕ). a * b) (c.count_pieces-pieces.ensures.value ∙ ap (λ xs. pieces_of (length xs)) c.as_slice.ensures) (ap₂ (λ (a b : ℕ). a * b) c.from.ensures c.from-2.ensures)
    ∙ sym (place_laws.count u.geometry u.file u.random)
