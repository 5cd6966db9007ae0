use Rattle.std.proofs.Common.{◌∷◌, map, ap, ◌∙◌, List}
use Rattle.pot_outside.specs.Disks.{Synced}
use Rattle.pot_doubles.specs.Disks.{call_of, left_by, changes_of}
use Rattle.pot_doubles.specs.declared.disk.Note.{Note}
use Rattle.pot_doubles.proofs.DiskLemmas.{crash_image}
use Rattle.pot_doubles.proofs.disk.MemDisk.crash.Goals as goal

pub returns-clause-image : goal.returns-clause-image
returns-clause-image c =
    crash_image c.args.keep (changes_of c.args.self.now) (map call_of c.in_ok-copy_notes.field-0.items)
    (c.in_ok-copy_notes.ensures ∙ ap (λ (l : List Note). Synced ∷ left_by c.args.keep (map call_of l)) c.deref.ensures.value)
