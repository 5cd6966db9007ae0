-- The blinds of the relays that commands begin.
use Rattle.std.specs.Prelude.{ℕ}
use Rattle.pot_pads.specs.Pads.{Pads, pads_of}
use Rattle.pot_script.specs.declared.command.Command.{Command}
use Rattle.pot_script.specs.declared.command.Command.TheVariants as commands
use Rattle.pot_shared.specs.Ready.{GroupPasses}
use Rattle.pot_shared.specs.Blinds.{AreDrawn, Blinds, most_dropped}
use Rattle.pot_shared.specs.Going.{AllOnlyWriters}
use Rattle.pot_shared.specs.Works.{Known, blinds_by}
use Rattle.pot_commands.specs.Sharing.{Common}

-- A command that mends what it finds lost gives each relay that its job begins the next blind of
-- the stream of the seed, the session and the job.
abbrev pub HasBlinds : Common → ℕ → Command → GroupPasses → GroupPasses → Type 0
HasBlinds b job (commands.Fetch name) old new =
    (after : Pads) × Blinds job most_dropped (pads_of b.seed b.session job) after old new
HasBlinds b job (commands.Renew name geometry) old new =
    (after : Pads) × Blinds job most_dropped (pads_of b.seed b.session job) after old new
HasBlinds b job (commands.Repair group) old new =
    (after : Pads) × Blinds job most_dropped (pads_of b.seed b.session job) after old new
HasBlinds b job c old new = Unit {0}

-- Where nobody else logged anything, the relays that each job began have blinds that are drawn from
-- the stream of the seed, the session and that job.
abbrev pub AreJobsBlinded : Common → Known → Known → Type 0
AreJobsBlinded b old new =
    AllOnlyWriters old new
    → (job : ℕ) → AreDrawn (pads_of b.seed b.session job) (blinds_by job old.groups new.groups)
