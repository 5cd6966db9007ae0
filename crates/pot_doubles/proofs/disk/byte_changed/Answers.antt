use Rattle.std.proofs.Common.{◌+◌, ◌∷◌, ◌∙◌, sym, ap}
use Rattle.pot_outside.specs.Disks.{seen}
use Rattle.pot_doubles.specs.Disks.{call_of}
use Rattle.pot_doubles.specs.declared.disk.Note.{Note}
use Rattle.pot_doubles.proofs.DiskLemmas.{seen_sync, left_by_write}
use Rattle.pot_doubles.proofs.disk.byte_changed.Goals as goal

pub returns-in-Write : goal.returns-in-Write
returns-in-Write c = λ older.
    let place = c.args.at + c.args.k in
    left_by_write c.in-Write.from c.in-Write.bytes.items c.deref.result.now place _ older c.deref.ensures.value (c.byte_left.ensures (seen older place))
    ∙ ap (λ (n : Note). seen (call_of n ∷ older) place) (sym c.in-Write.is)

pub returns-in-Sync : goal.returns-in-Sync
returns-in-Sync c = λ older.
    let place = c.args.at + c.args.k in
    sym (seen_sync older place) ∙ ap (λ (n : Note). seen (call_of n ∷ older) place) (sym c.in-Sync.is)
