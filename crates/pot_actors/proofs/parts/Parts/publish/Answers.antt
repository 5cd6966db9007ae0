use Rattle.std.proofs.Common.{Ok, Err, refl, sym, ◌∙◌, arith}
use Rattle.std.specs.Global.{Global}
use Rattle.std.specs.Prelude.{Vec}
use Rattle.std.specs.Vec.{with_item}
use Rattle.pot_world.specs.declared.acts.ActFault.TheVariants as act_fault
use Rattle.pot_world.specs.declared.step.Step.TheVariants as step
use Rattle.pot_actors.specs.declared.parts.Parts.{Parts}
use Rattle.pot_actors.specs.Seats.{SeatData}
use Rattle.pot_actors.specs.Worlds.{world_of}
use Rattle.pot_actors.proofs.EndLemmas.{no_publish, published_as, refused_as, stored, unpublished}
use Rattle.pot_actors.proofs.SeatLemmas.{sits_within}
use Rattle.pot_actors.proofs.StepLemmas.{reached_seated, rules, seated}
use Rattle.pot_actors.proofs.parts.Parts.publish.Goals as goal

pub index_mut-requires : goal.index_mut-requires
index_mut-requires c = omega (arith, sits_within c.take_seat.new.seats.items c.args.actor c.in-Ok.at c.in-Ok.ensures.sits, c.take_seat.new.seats.ok)

pub returns-in_default-take : goal.returns-in_default-take
returns-in_default-take c =
    let p : Parts = record c.args.self.now { seats = c.take_seat.new.seats } in
    let ss : Vec SeatData Global = with_item c.take_seat.new.seats c.in-Ok.at c.take.new.self in
    seated (step.Publish c.args.actor) c.args.self.now (record p { seats = ss }) c.take_seat.new.seats (Err act_fault.NotAllowed) c.in-Ok.ensures.same
    (no_publish p c.args.actor c.in-Ok.at c.index_mut.result.now c.in-Ok.ensures.sits c.index_mut.ensures.value c.take.new.self (sym c.take.ensures.split ∙ c.in_default-take.is) c.take.ensures.rest ss refl)

pub publish-requires-clause-store : goal.publish-requires-clause-store
publish-requires-clause-store c =
    let p : Parts = record c.args.self.now { seats = c.take_seat.new.seats } in
    stored p c.args.actor c.in-Ok.at c.index_mut.result.now c.in-Ok.ensures.sits c.index_mut.ensures.value
    (rules (world_of p) (reached_seated c.args.self.now c.take_seat.new.seats c.in-Ok.ensures.same c.requires)) c.in-Some.split (sym c.take.ensures.split ∙ c.in-Some.is)

pub publish-requires-clause-ascends : goal.publish-requires-clause-ascends
publish-requires-clause-ascends c = (rules (world_of c.args.self.now) c.requires).names.ascends

pub publish-requires-clause-free : goal.publish-requires-clause-free
publish-requires-clause-free c =
    let p : Parts = record c.args.self.now { seats = c.take_seat.new.seats } in
    unpublished p c.args.actor c.in-Ok.at c.index_mut.result.now c.in-Ok.ensures.sits c.index_mut.ensures.value
    (rules (world_of p) (reached_seated c.args.self.now c.take_seat.new.seats c.in-Ok.ensures.same c.requires)) c.in-Some.split (sym c.take.ensures.split ∙ c.in-Some.is)

pub index_mut-requires-in-Err : goal.index_mut-requires-in-Err
index_mut-requires-in-Err c = omega (arith, sits_within c.take_seat.new.seats.items c.args.actor c.in-Ok.at c.in-Ok.ensures.sits, c.take_seat.new.seats.ok)

pub returns-in-Ok-publish : goal.returns-in-Ok-publish
returns-in-Ok-publish c =
    let p : Parts = record c.args.self.now { seats = c.take_seat.new.seats } in
    let ss : Vec SeatData Global = with_item c.take_seat.new.seats c.in-Ok.at c.take.new.self in
    seated (step.Publish c.args.actor) c.args.self.now (record p { names = c.publish.new.names; seats = ss; ended = c.publish.new.ended }) c.take_seat.new.seats (Ok tt) c.in-Ok.ensures.same
    (published_as p c.args.actor c.in-Ok.at c.index_mut.result.now c.in-Ok.ensures.sits c.index_mut.ensures.value c.in-Some.split (sym c.take.ensures.split ∙ c.in-Some.is) c.take.new.self c.take.ensures.rest
    c.publish.new.names c.publish.new.ended ss refl c.in-Ok-publish.ensures)

pub returns-in-Err : goal.returns-in-Err
returns-in-Err c =
    let p : Parts = record c.args.self.now { seats = c.take_seat.new.seats } in
    let ss : Vec SeatData Global = with_item (with_item c.take_seat.new.seats c.in-Ok.at c.take.new.self) c.in-Ok.at c.begin.new.self in
    seated (step.Publish c.args.actor) c.args.self.now (record p { names = c.publish.new.names; seats = ss; ended = c.publish.new.ended }) c.take_seat.new.seats (Err c.in-Err.fault) c.in-Ok.ensures.same
    (refused_as p c.args.actor c.in-Ok.at c.index_mut.result.now c.in-Ok.ensures.sits c.index_mut.ensures.value c.in-Some.split (sym c.take.ensures.split ∙ c.in-Some.is) c.take.new.self c.take.ensures.rest
    c.publish.new.names c.publish.new.ended c.index_mut-in-Err.result.now c.begin.new.self c.index_mut-in-Err.ensures.value c.begin.ensures ss refl c.in-Err.fault c.in-Err.ensures)
