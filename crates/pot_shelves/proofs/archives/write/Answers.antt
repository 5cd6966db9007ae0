use Rattle.pot_shelves.proofs.TouchLemmas.{is_found, touches_at}
use Rattle.pot_shelves.proofs.archives.write.Goals as goal

pub unwrap-place-requires : goal.unwrap-place-requires
unwrap-place-requires g c = is_found _ c.args.shelves.now.items c.args.number _ c.deref.ensures.value c.place_of.ensures c.requires

pub returns : goal.returns
returns g c =
    touches_at c.args.number c.unwrap-place.result _ c.args.shelves.now.items c.index_mut.result.now c.write.new.self
    c.deref.result.now c.place_of.result c.deref.ensures.value c.place_of.ensures c.unwrap-place.ensures c.index_mut.ensures.value
    c.write.ensures.writes
