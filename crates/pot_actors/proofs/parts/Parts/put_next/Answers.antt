use Rattle.std.proofs.Common.{Ok, Err, refl, sym, ◌∙◌, arith}
use Rattle.std.proofs.lemmas.List.{length-map}
use Rattle.std.specs.Vec.{with_item}
use Rattle.std.specs.Prelude.{Vec}
use Rattle.std.specs.Global.{Global}
use Rattle.pot_actors.specs.Seats.{SeatData}
use Rattle.pot_world.specs.Data.{group_of}
use Rattle.pot_world.specs.declared.acts.ActFault.TheVariants as act_fault
use Rattle.pot_world.specs.declared.step.Step.TheVariants as step
use Rattle.pot_actors.specs.declared.parts.Parts.{Parts}
use Rattle.pot_actors.specs.Worlds.{world_of}
use Rattle.pot_actors.proofs.EndLemmas.{stored}
use Rattle.pot_actors.proofs.SeatLemmas.{sits_within}
use Rattle.pot_actors.proofs.StepLemmas.{reached_seated, rules, seated}
use Rattle.pot_actors.proofs.StoreLemmas.{no_put, put_as}
use Rattle.pot_actors.proofs.parts.Parts.put_next.Goals as goal

pub index_mut-requires : goal.index_mut-requires
index_mut-requires c = omega (arith, sits_within c.take_seat.new.seats.items c.args.actor c.in-Ok.at c.in-Ok.ensures.sits, c.take_seat.new.seats.ok)

pub returns-in_default-take : goal.returns-in_default-take
returns-in_default-take c =
    let p : Parts = record c.args.self.now { seats = c.take_seat.new.seats } in
    let ss : Vec SeatData Global = with_item c.take_seat.new.seats c.in-Ok.at c.take.new.self in
    seated (step.PutNext c.args.actor) c.args.self.now (record p { seats = ss }) c.take_seat.new.seats (Err act_fault.NotAllowed) c.in-Ok.ensures.same
    (no_put p c.args.actor c.in-Ok.at c.index_mut.result.now c.in-Ok.ensures.sits c.index_mut.ensures.value c.take.new.self (sym c.take.ensures.split ∙ c.in_default-take.is) c.take.ensures.rest ss refl)

pub put_next-result-requires-clause-store : goal.put_next-result-requires-clause-store
put_next-result-requires-clause-store c =
    let p : Parts = record c.args.self.now { seats = c.take_seat.new.seats } in
    stored p c.args.actor c.in-Ok.at c.index_mut.result.now c.in-Ok.ensures.sits c.index_mut.ensures.value
    (rules (world_of p) (reached_seated c.args.self.now c.take_seat.new.seats c.in-Ok.ensures.same c.requires)) c.in-Some.split (sym c.take.ensures.split ∙ c.in-Some.is)

pub put_next-result-requires-clause-rack : goal.put_next-result-requires-clause-rack
put_next-result-requires-clause-rack c = (rules (world_of c.args.self.now) c.requires).rack

pub put_next-result-requires-clause-all : goal.put_next-result-requires-clause-all
put_next-result-requires-clause-all c = sym (length-map c.args.self.now.groups.groups group_of) ∙ (rules (world_of c.args.self.now) c.requires).sized.0

pub index_mut-requires-2 : goal.index_mut-requires-2
index_mut-requires-2 c = omega (arith, sits_within c.take_seat.new.seats.items c.args.actor c.in-Ok.at c.in-Ok.ensures.sits, c.take_seat.new.seats.ok)

pub returns : goal.returns
returns c =
    let p : Parts = record c.args.self.now { seats = c.take_seat.new.seats } in
    let ss2 : Vec SeatData Global = with_item (with_item c.take_seat.new.seats c.in-Ok.at c.take.new.self) c.in-Ok.at c.begin.new.self in
    seated (step.PutNext c.args.actor) c.args.self.now (record p { groups = c.put_next-result.new.groups; seats = ss2 }) c.take_seat.new.seats c.put_next-result.result c.in-Ok.ensures.same
    (put_as p c.args.actor c.in-Ok.at c.index_mut.result.now c.in-Ok.ensures.sits c.index_mut.ensures.value c.in-Some.split (sym c.take.ensures.split ∙ c.in-Some.is)
    c.take.new.self c.index_mut-2.result.now c.begin.new.self c.put_next-result.new.split c.take.ensures.rest c.index_mut-2.ensures.value c.begin.ensures ss2 refl
    c.put_next-result.new.groups c.put_next-result.result c.put_next-result.ensures)
