use Rattle.std.proofs.Common.{IsTrue, map, ◌∙◌}
use Rattle.pot_shelves.proofs.TouchLemmas.{is_taken}
use Rattle.pot_shelves.proofs.archives.Archives.take.Goals as goal

pub returns-clause-taken : goal.returns-clause-taken
returns-clause-taken g c =
    is_taken (IsTrue g.A.Archive.account.tells) g.A.Archive.account.meaning c.in-Ok.marks.items c.in-Ok-marks_of.opened.items (map (λ s. s.value) c.in-Ok-snapshots_of.taken.items)
    c.deref.result.now c.deref-2.result.now c.args.shelves.items c.deref.ensures.value c.deref-2.ensures.value
    (c.in-Ok-snapshots_of.ensures ∙ c.deref-3.ensures.value)
    (c.in-Ok.ensures.faults, c.in-Ok.ensures.losses) (c.in-Ok-marks_of.ensures.faults, c.in-Ok-marks_of.ensures.losses) c.in-Ok.ensures.coherent
