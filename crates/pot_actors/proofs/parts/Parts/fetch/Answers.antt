use Rattle.std.proofs.Common.{Ok, refl, ◌∙◌, arith}
use Rattle.std.specs.Global.{Global}
use Rattle.std.specs.Prelude.{Vec}
use Rattle.std.specs.Vec.{with_item}
use Rattle.pot_world.specs.declared.acts.ActFault.TheVariants as act_fault
use Rattle.pot_world.specs.declared.step.Step.TheVariants as step
use Rattle.pot_actors.specs.declared.parts.Parts.{Parts}
use Rattle.pot_actors.specs.Seats.{SeatData}
use Rattle.pot_actors.specs.Worlds.{world_of}
use Rattle.pot_actors.proofs.FetchLemmas.{fetches, readable_named}
use Rattle.pot_actors.proofs.SeatLemmas.{sits_within}
use Rattle.pot_actors.proofs.StepLemmas.{rules, seated}
use Rattle.pot_actors.proofs.parts.Parts.fetch.Goals as goal

pub index_mut-requires : goal.index_mut-requires
index_mut-requires c = omega (arith, sits_within c.take_seat.new.seats.items c.args.actor c.in-Ok.at c.in-Ok.ensures.sits, c.take_seat.new.seats.ok)

pub find-requires-in-Ok-enter : goal.find-requires-in-Ok-enter
find-requires-in-Ok-enter c = readable_named c.args.self.now c.args.name.now c.in-Ok-find.found (rules (world_of c.args.self.now) c.requires) c.in-Ok-find.ensures

pub returns-in-Ok-enter : goal.returns-in-Ok-enter
returns-in-Ok-enter c =
    let p : Parts = record c.args.self.now { seats = c.take_seat.new.seats } in
    let ss : Vec SeatData Global = with_item c.take_seat.new.seats c.in-Ok.at c.find-in-Ok-enter.new.self in
    seated (step.Fetch c.args.actor c.args.name.now) c.args.self.now (record p { names = c.enter.new.self; seats = ss }) c.take_seat.new.seats (Ok tt) c.in-Ok.ensures.same (
      tt,
      fetches p c.args.actor c.in-Ok.at c.index_mut.result.now c.in-Ok.ensures.sits c.index_mut.ensures.value c.enter.new.self ss c.args.name.now c.in-Ok-find.found c.is_some.result c.find-in-Ok-enter.new.self
          c.in-Ok-find.ensures c.is_some.ensures c.in-Ok-enter.ensures refl c.find-in-Ok-enter.ensures,
    )
