use Rattle.std.proofs.Common.{Ok, Err, refl, sym, ◌∙◌, arith}
use Rattle.std.specs.Vec.{with_item}
use Rattle.std.specs.Prelude.{Vec}
use Rattle.std.specs.Global.{Global}
use Rattle.pot_actors.specs.Seats.{SeatData}
use Rattle.pot_world.specs.declared.acts.ActFault.TheVariants as act_fault
use Rattle.pot_world.specs.declared.step.Step.TheVariants as step
use Rattle.pot_actors.specs.declared.parts.Parts.{Parts}
use Rattle.pot_actors.proofs.SeatLemmas.{sits_within}
use Rattle.pot_actors.proofs.StepLemmas.{seated}
use Rattle.pot_actors.proofs.StoreLemmas.{abandon_stays, abandons_renewal, abandons_store, may_abandon, no_abandon}
use Rattle.pot_actors.proofs.parts.Parts.abandon.Goals as goal

pub index_mut-requires : goal.index_mut-requires
index_mut-requires c = omega (arith, sits_within c.take_seat.new.seats.items c.args.actor c.in-Ok.at c.in-Ok.ensures.sits, c.take_seat.new.seats.ok)

pub returns-in_default-take : goal.returns-in_default-take
returns-in_default-take c =
    let p : Parts = record c.args.self.now { seats = c.take_seat.new.seats } in
    let ss : Vec SeatData Global = with_item c.take_seat.new.seats c.in-Ok.at c.take.new.self in
    seated (step.Abandon c.args.actor) c.args.self.now (record p { seats = ss }) c.take_seat.new.seats (Err act_fault.NotAllowed) c.in-Ok.ensures.same
    (no_abandon p c.args.actor c.in-Ok.at c.index_mut.result.now c.in-Ok.ensures.sits c.index_mut.ensures.value c.take.new.self (sym c.take.ensures.split ∙ c.in_default-take.is) c.take.ensures.rest ss refl)

pub returns-then-split : goal.returns-then-split
returns-then-split c =
    let p : Parts = record c.args.self.now { seats = c.take_seat.new.seats } in
    let ss : Vec SeatData Global = with_item c.take_seat.new.seats c.in-Ok.at c.take.new.self in
    let had = sym c.take.ensures.split ∙ c.in-Some.is in
    seated (step.Abandon c.args.actor) c.args.self.now (record p { seats = ss }) c.take_seat.new.seats (Ok tt) c.in-Ok.ensures.same (
      may_abandon p c.args.actor c.in-Ok.at c.index_mut.result.now c.in-Ok.ensures.sits c.index_mut.ensures.value c.in-Some.split had c.take.new.self c.take.ensures.rest ss refl,
      abandons_renewal p c.args.actor c.in-Ok.at c.index_mut.result.now c.in-Ok.ensures.sits c.index_mut.ensures.value c.in-Some.split had c.take.new.self c.take.ensures.rest ss refl c.if-split.true,
    )

pub index_mut-requires-in-Err : goal.index_mut-requires-in-Err
index_mut-requires-in-Err c = omega (arith, sits_within c.take_seat.new.seats.items c.args.actor c.in-Ok.at c.in-Ok.ensures.sits, c.take_seat.new.seats.ok)

pub returns-in-Ok-abandon : goal.returns-in-Ok-abandon
returns-in-Ok-abandon c =
    let p : Parts = record c.args.self.now { seats = c.take_seat.new.seats } in
    let ss : Vec SeatData Global = with_item c.take_seat.new.seats c.in-Ok.at c.take.new.self in
    let had = sym c.take.ensures.split ∙ c.in-Some.is in
    seated (step.Abandon c.args.actor) c.args.self.now (record p { names = c.abandon.new.self; seats = ss }) c.take_seat.new.seats (Ok tt) c.in-Ok.ensures.same (
      may_abandon p c.args.actor c.in-Ok.at c.index_mut.result.now c.in-Ok.ensures.sits c.index_mut.ensures.value c.in-Some.split had c.take.new.self c.take.ensures.rest ss refl,
      abandons_store p c.args.actor c.in-Ok.at c.index_mut.result.now c.in-Ok.ensures.sits c.index_mut.ensures.value c.in-Some.split had c.take.new.self c.take.ensures.rest ss refl c.abandon.new.self c.if-split.false c.in-Ok-abandon.ensures,
    )

pub returns-in-Err : goal.returns-in-Err
returns-in-Err c =
    let p : Parts = record c.args.self.now { seats = c.take_seat.new.seats } in
    let ss2 : Vec SeatData Global = with_item (with_item c.take_seat.new.seats c.in-Ok.at c.take.new.self) c.in-Ok.at c.begin.new.self in
    let had = sym c.take.ensures.split ∙ c.in-Some.is in
    seated (step.Abandon c.args.actor) c.args.self.now (record p { names = c.abandon.new.self; seats = ss2 }) c.take_seat.new.seats (Err act_fault.NoMemory) c.in-Ok.ensures.same
    (abandon_stays p c.args.actor c.in-Ok.at c.index_mut.result.now c.in-Ok.ensures.sits c.index_mut.ensures.value c.in-Some.split had
    c.take.new.self c.index_mut-in-Err.result.now c.begin.new.self c.in-Some.split c.take.ensures.rest c.index_mut-in-Err.ensures.value c.begin.ensures ss2 refl c.abandon.new.self refl c.in-Err.ensures)
