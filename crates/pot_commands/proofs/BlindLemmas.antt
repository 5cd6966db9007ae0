-- The blinds of a command, by what the call says that it makes.
use Rattle.std.proofs.Common.{◌≡◌, ℕ, List, sym, subst}
use Rattle.pot_bytes.specs.declared.rack.Geometry.{Geometry}
use Rattle.pot_pads.specs.Pads.{Pads, pads_of}
use Rattle.pot_script.specs.declared.command.Command.{Command}
use Rattle.pot_script.specs.declared.command.Command.TheVariants as commands
use Rattle.pot_rows.specs.Works.{AllIdle}
use Rattle.pot_shared.specs.Ready.{GroupPasses}
use Rattle.pot_shared.specs.Blinds.{Blinds, most_dropped}
use Rattle.pot_shared.proofs.BlindLemmas.{blinds_none}
use Rattle.pot_commands.specs.Blinding.{HasBlinds}
use Rattle.pot_commands.specs.Sharing.{Common}

module _ (b : Common) (job : ℕ) (c : Command) (old new : GroupPasses) where
  abbrev ByStream : Pads → Pads → Type 0
  ByStream pads after = Blinds job most_dropped pads after old new

  from_stream : (pads after : Pads) → pads ≡ pads_of b.seed b.session job → ByStream pads after → (x : Pads) × ByStream (pads_of b.seed b.session job) x
  from_stream pads after is blinds = (after, subst (λ p. ByStream p after) is blinds)

  pub fetch_blinds : (name : List ℕ) (pads after : Pads) → c ≡ commands.Fetch name → pads ≡ pads_of b.seed b.session job → ByStream pads after → HasBlinds b job c old new
  fetch_blinds name pads after is from blinds = subst (λ x. HasBlinds b job x old new) (sym is) (from_stream pads after from blinds)

  pub renew_blinds : (name : List ℕ) (geometry : Geometry) (pads after : Pads) → c ≡ commands.Renew name geometry → pads ≡ pads_of b.seed b.session job → ByStream pads after
      → HasBlinds b job c old new
  renew_blinds name geometry pads after is from blinds = subst (λ x. HasBlinds b job x old new) (sym is) (from_stream pads after from blinds)

  pub repair_blinds : (group : ℕ) (pads after : Pads) → c ≡ commands.Repair group → pads ≡ pads_of b.seed b.session job → ByStream pads after → HasBlinds b job c old new
  repair_blinds group pads after is from blinds = subst (λ x. HasBlinds b job x old new) (sym is) (from_stream pads after from blinds)

-- where nothing was done
pub none_blinds : (b : Common) (job : ℕ) (c : Command) (row : GroupPasses) → AllIdle row → HasBlinds b job c row row
none_blinds b job (commands.Fetch name) row idle = (pads_of b.seed b.session job, blinds_none idle)
none_blinds b job (commands.Renew name geometry) row idle = (pads_of b.seed b.session job, blinds_none idle)
none_blinds b job (commands.Repair group) row idle = (pads_of b.seed b.session job, blinds_none idle)
none_blinds b job _ row idle = tt
