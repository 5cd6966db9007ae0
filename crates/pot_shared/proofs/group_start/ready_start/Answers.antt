use Rattle.std.proofs.Common.{length, refl, sym, ap, ◌∙◌, arith}
use Rattle.std.proofs.lemmas.List.{take-map}
use Rattle.pot_outside.specs.declared.archive.Shelf.{Shelf}
use Rattle.pot_machine.specs.Table.{archives_in}
use Rattle.pot_shelves.specs.Shelves.{numbers_of}
use Rattle.pot_shared.proofs.group_start.ready_start.Goals as goal

pub returns-in-Ok-take_shelves-clause-can : goal.returns-in-Ok-take_shelves-clause-can
returns-in-Ok-take_shelves-clause-can g c = record {
  is_table = refl;
  relays = c.requires.relays;
  archives = ap numbers_of c.in-Ok-take_shelves.ensures.front ∙ (sym (take-map (λ (s : Shelf _). s.number) (length (archives_in c.args.table)) c.args.hand.now.items) ∙ c.requires.hand);
  space = c.in-Ok-take_shelves.ensures.own;
  none = c.in-Ok.ensures.items;
  room = (let e = c.in-Ok.ensures.exact in omega (arith, e));
}
