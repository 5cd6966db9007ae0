use Rattle.std.proofs.Common.{ap, sym}
use Rattle.pot_image.specs.Spelling.{entry_bytes}
use Rattle.pot_image.proofs.WriteRules.{appended}
use Rattle.pot_image.proofs.entry_writing.append_entry.Goals as goal

pub returns-in_ok-append_placed-in-Moved-clause-bytes : goal.returns-in_ok-append_placed-in-Moved-clause-bytes
unfolding entry_bytes
returns-in_ok-append_placed-in-Moved-clause-bytes c = appended _ _ _ _ _ _ _ c.in_ok-append_placed-in-Moved.ensures.bytes c.append_flag-in-Moved.ensures (ap entry_bytes (sym c.in-Moved.is))
