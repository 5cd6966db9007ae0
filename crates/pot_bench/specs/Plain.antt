-- What a contract sees of an archive that tells nothing: its count of faults.
use Rattle.std.specs.Prelude.{[], None}
use Rattle.pot_outside.specs.Archives.{Meaning}
use Rattle.pot_bench.specs.declared.plain.PlainArchive.{PlainArchive}

abbrev pub meaning_in : PlainArchive → Meaning
meaning_in a = record { held = λ _. None; history = []; heard = []; faults = a.faults; losses = 0 }
