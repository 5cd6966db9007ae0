-- The blinds with which relays began in what a vault leaves.
use Rattle.std.specs.Prelude.{◌≡◌, ◌<◌, ◌≤◌, ℕ, List, [], Some, filter, length, slice_get}
use Rattle.pot_outside.specs.Archives.{Meaning}
use Rattle.pot_machine.specs.declared.entry.Entry.{Entry}
use Rattle.pot_machine.specs.Table.{Table}
use Rattle.pot_pads.specs.Pads.{pads_of}
use Rattle.pot_group.specs.Group.{GroupView}
use Rattle.pot_shelves.specs.Shelves.{Shelves}
use Rattle.pot_shared.specs.Blinds.{AreDrawn}
use Rattle.pot_shared.specs.Leaving.{LeaveGroups}
use Rattle.pot_shared.specs.Members.{kept_log}
use Rattle.pot_shared.specs.Works.{blinds_in, of_job}

-- the blinds of the relays that a job began in a group, in the order of its log
abbrev pub job_blinds : ℕ → GroupView → List (List ℕ)
job_blinds job g = blinds_in (filter (of_job job) (kept_log g))

module _ {told : Type 0} {meant : ℕ → Meaning} {Has : Shelves → ℕ → Type 0} {read : List Table}
    {logs : List (List Entry)} {written : List Table} where
  -- in each group that is left the job's relays have these blinds, and there is no other group
  pub record HaveBlinds (left : LeaveGroups told meant Has read logs written) (job : ℕ)
      (its : ℕ → List (List ℕ)) : Type 0 where
    pub are : (g : ℕ) (t u : Table) (log : List Entry) (is_read : slice_get read g ≡ Some t)
        (is_written : slice_get written g ≡ Some u) (is_log : slice_get logs g ≡ Some log)
        → job_blinds job (left.each g t u log is_read is_written is_log).view ≡ its g
    pub none : (g : ℕ) → length read ≤ g → its g ≡ []

  -- Each job's relays have the blinds that are drawn from the stream of the seed, the session and
  -- the job.
  abbrev pub AreBlinded : List ℕ → ℕ → LeaveGroups told meant Has read logs written → Type 0
  AreBlinded seed session left =
      (job : ℕ) → 0 < job
      → (its : ℕ → List (List ℕ)) × HaveBlinds left job its
      × AreDrawn (pads_of seed session job) its
