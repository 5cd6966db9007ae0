use Rattle.std.proofs.Common.{rules}
use Rattle.std.proofs.lemmas.List.Sorted.{answers_always}
use Rattle.pot_index.proofs.SearchLemmas.{found_place}
use Rattle.pot_actors.proofs.ledger.place_of.Goals as goal

pub returns : goal.returns
returns c =
    let f = c.binary_search_by_key in
    found_place c.args.records.now c.args.name.now f.result c.requires f.ensures.bound (f.ensures.position (λ r. r.name) (answers_always _ _ _ (λ f a r g called. search rules)))
