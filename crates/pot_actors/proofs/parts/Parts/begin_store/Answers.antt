use Rattle.std.proofs.Common.{◌++◌, ◌∷◌, [], ap, refl, ◌∙◌, arith}
use Rattle.std.specs.Vec.{with_item}
use Rattle.pot_actors.proofs.SeatLemmas.{sits_within}
use Rattle.pot_actors.proofs.StoreLemmas.{store_begins}
use Rattle.pot_actors.proofs.parts.Parts.begin_store.Goals as goal

pub index_mut-requires : goal.index_mut-requires
index_mut-requires c = omega (arith, sits_within c.args.self.now.seats.items c.args.actor c.args.at c.requires, c.args.self.now.seats.ok)

pub returns : goal.returns
returns c =
    store_begins c.args.self.now c.args.actor c.args.at c.index_mut.result.now c.requires c.index_mut.ensures.value
    c.reserve-2.new.self (with_item c.args.self.now.seats c.args.at c.begin.new.self) c.push_reserved.new.self c.args.name.now c.args.file.now c.args.random.now c.in_ok-split.split c.begin.new.self c.of.result
    c.in_ok-split.ensures c.in_ok-reserve-2.ensures refl c.begin.ensures
    (c.push_reserved.ensures.items ∙ ap (λ xs. xs ++ c.of.result ∷ []) c.reserve.ensures.items) c.of.ensures
