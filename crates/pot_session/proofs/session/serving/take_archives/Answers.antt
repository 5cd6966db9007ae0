use Rattle.std.proofs.Common.{ap, length, ◌∙◌, arith}
use Rattle.std.specs.Prelude.{flat_map}
use Rattle.std.proofs.lemmas.List.{length-map}
use Rattle.pot_outside.specs.declared.archive.Shelf.{Shelf}
use Rattle.pot_machine.specs.Table.{archives_in}
use Rattle.pot_shared.proofs.ComingLemmas.{few_archives}
use Rattle.pot_session.proofs.session.serving.take_archives.Goals as goal

pub take_all-requires-clause-space : goal.take_all-requires-clause-space
take_all-requires-clause-space g c = λ bounds within.
    (let n = ap length (c.deref.ensures.value ∙ c.in-Ok.ensures) in let m = few_archives (flat_map archives_in c.args.tables.now) c.requires.apart c.requires.low in
    let s = c.in-Ok-reserve.ensures.space.hand in omega (arith, n, m, s))

pub returns-in-Ok-take_all-clause-few : goal.returns-in-Ok-take_all-clause-few
returns-in-Ok-take_all-clause-few g c =
    (let l = length-map c.take_all.new.hand.items (λ (s : Shelf _). s.number) in let n = ap length (c.in-Ok-take_all.ensures.taken ∙ (c.deref.ensures.value ∙ c.in-Ok.ensures)) in
    let m = few_archives (flat_map archives_in c.args.tables.now) c.requires.apart c.requires.low in omega (arith, l, n, m))
