use Rattle.std.proofs.Common.{◌<◌, ◌^◌, List, [], length, arith}
use Rattle.std.proofs.lemmas.List.Elements.{All-replicate}
use Rattle.pot_machine.specs.declared.entry.Entry.{Entry}
use Rattle.pot_session.specs.Making.{empty_contents}
use Rattle.pot_session.proofs.Countable.{countable}
use Rattle.pot_session.proofs.init.put_empty_image.Goals as goal

pub keep_image-requires : goal.keep_image-requires
keep_image-requires g c =
    countable c.in-Ok.image (empty_contents c.args.rack.now) c.in-Ok.ensures (omega arith)
    (All-replicate (λ (l : List Entry). length l < 2 ^ 32) c.args.rack.now.groups [] (omega arith)) (omega arith)
