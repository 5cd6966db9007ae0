use Rattle.std.proofs.lemmas.Bool.{both_ways}
use Rattle.pot_index.proofs.IndexLemmas.{taken_tells}
use Rattle.pot_index.proofs.lists.Lists.is_taken.Goals as goal

pub returns-else-is_reserved : goal.returns-else-is_reserved
returns-else-is_reserved c =
    taken_tells c.args.self.now.now c.args.name.now c.place_of.result c.is_ok.result (λ k. both_ways _ c.if-is_reserved.false (c.is_reserved.ensures.1 k)) c.place_of.ensures c.is_ok.ensures.value
