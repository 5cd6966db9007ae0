use Rattle.std.proofs.Common.{None, List, ap, sym, subst, ◌∙◌}
use Rattle.std.specs.Prelude.{◌==◌}
use Rattle.std.specs.List.{position}
use Rattle.pot_actors.specs.declared.parts.Parts.{Parts}
use Rattle.pot_actors.specs.Runs.{ActorFetched}
use Rattle.pot_actors.specs.Seats.{SeatData}
use Rattle.pot_actors.specs.Worlds.{world_of}
use Rattle.pot_actors.proofs.FetchLemmas.{fetched_as, fetched_none}
use Rattle.pot_actors.proofs.NameLemmas.{none_passes}
use Rattle.pot_actors.proofs.SeatLemmas.{no_seat, nobody, sits_at}
use Rattle.pot_actors.proofs.StepLemmas.{rules}
use Rattle.pot_actors.proofs.world.World.fetched.Goals as goal

pub returns-in_err-at : goal.returns-in_err-at
returns-in_err-at c =
    let p = c.self.inside.parts in
    let a = c.args.actor in
    rw c.from_residual.ensures
    (subst (λ (q : Parts). ActorFetched (world_of q) a None) c.self.view_is
    (fetched_none (world_of p) a (nobody p.seats.items a (none_passes (λ (s : SeatData). a == s.number) p.seats.items
    (sym (c.in_err-at.ensures ∙ ap (λ (xs : List SeatData). position (λ s. a == s.number) xs) c.deref.ensures.value))))))

pub returns : goal.returns
returns c =
    let p = c.self.inside.parts in
    let a = c.args.actor in
    let sits = sits_at p.seats.items a c.in_ok-at.at no_seat (sym (c.in_ok-at.ensures ∙ ap (λ (xs : List SeatData). position (λ s. a == s.number) xs) c.deref.ensures.value)) in
    subst (λ o. ActorFetched (world_of c.args.self.now) a o) (sym c.file.ensures.file)
    (subst (λ (q : Parts). ActorFetched (world_of q) a c.index.result.now.file) c.self.view_is
    (fetched_as p a c.in_ok-at.at c.index.result.now sits c.index.ensures (rules (world_of p) c.self.invariant) c.file.ensures.told))
