-- The answers of a scrub, each as the job's own entries give it.
use Rattle.std.specs.Prelude.{◌≡◌, ℕ, Result, Ok, Err}
use Rattle.pot_replies.specs.Settings.{Setting}
use Rattle.pot_replies.specs.Sections.{Section}
use Rattle.pot_replies.specs.Scrubs.{IsScrubbed, IsScrubFault, IsScrubLogFull}
use Rattle.pot_mend.specs.declared.fault.MendFault.{MendFault}
use Rattle.pot_mend.specs.declared.fault.MendFault.TheVariants as fault
use Rattle.pot_mend.specs.declared.scrubbing.Scrubbed.{Scrubbed}

-- what each answer of a scrub says of the section
abbrev pub ScrubRow : Setting → ℕ → ℕ → Result Scrubbed MendFault → Section → Type 0
ScrubRow s job g (Ok scrubbed) w = IsScrubbed s job g scrubbed.seen scrubbed.gone w
ScrubRow s job g (Err (fault.Faulted group column)) w = (group ≡ g) × IsScrubFault s job g column w
ScrubRow s job g (Err (fault.LogFull group)) w = (group ≡ g) × IsScrubLogFull s job g w
