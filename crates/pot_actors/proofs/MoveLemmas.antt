-- What the steps of groups make of a world.
use Rattle.std.proofs.Common.{◌≡◌, ℕ, ◌<◌, Result, Ok, Err, ap}
use Rattle.pot_world.specs.declared.acts.ActFault.{ActFault}
use Rattle.pot_world.specs.declared.acts.ActFault.TheVariants as act_fault
use Rattle.pot_world.specs.Acts.{Act}
use Rattle.pot_world.specs.Data.{Goes, SiteData, site_of}
use Rattle.pot_world.specs.Reached.{Loses, Makes, Site, moved}
use Rattle.pot_world.specs.World.{MayMake, in_groups}
use Rattle.pot_world.proofs.Sizes.{allowed_at}
use Rattle.pot_world.proofs.SiteCode.{allowed_there}
use Rattle.pot_actors.specs.declared.parts.Parts.{Parts}
use Rattle.pot_actors.specs.Steps.{Becomes}
use Rattle.pot_actors.specs.Worlds.{world_of}

pub went : (p : Parts) (x : SiteData) (n : ℕ) (a : Act) (r : Result (Unit {0}) ActFault) → Goes (Makes n a) p.groups x r
    → Becomes (MayMake (world_of p) n a) (in_groups (Makes n a) (world_of p)) (world_of p) (world_of (record p { groups = x })) r
went p x n a (Ok u) h = (
  allowed_there (site_of p.groups).used n a (site_of p.groups).groups h.0,
  ap (λ (s : Site). record (world_of p) { site = s }) h.1,
)
went p x n a (Err act_fault.NotAllowed) h = (
  λ k. h.0 (allowed_at (site_of p.groups).used n a (site_of p.groups).groups k.0 k.1),
  ap (λ (d : SiteData). record (world_of p) { site = site_of d }) h.1,
)
went p x n a (Err act_fault.NoMemory) h = ap (λ (d : SiteData). record (world_of p) { site = site_of d }) h

pub lost : (p : Parts) (x : SiteData) (archive slot : ℕ) → site_of x ≡ moved (Loses archive slot) (site_of p.groups)
    → world_of (record p { groups = x }) ≡ in_groups (Loses archive slot) (world_of p)
lost p x archive slot e = ap (λ (s : Site). record (world_of p) { site = s }) e
