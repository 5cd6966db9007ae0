use Rattle.std.proofs.Common.{◌≡◌, Ok, Err, refl, ap, subst, ◌∙◌, arith}
use Rattle.std.specs.Global.{Global}
use Rattle.std.specs.Prelude.{Vec}
use Rattle.std.specs.Vec.{with_item}
use Rattle.pot_world.specs.declared.acts.ActFault.TheVariants as act_fault
use Rattle.pot_world.specs.declared.step.Step.TheVariants as step
use Rattle.pot_actors.specs.declared.parts.Parts.{Parts}
use Rattle.pot_actors.specs.Seats.{SeatData}
use Rattle.pot_actors.specs.Worlds.{world_of}
use Rattle.pot_actors.specs.Seats.{IsTold}
use Rattle.pot_actors.proofs.FetchLemmas.{looks, looks_not, readable_found}
use Rattle.pot_actors.proofs.SeatLemmas.{same_read, sits_within}
use Rattle.pot_actors.proofs.StepLemmas.{reached_seated, rules, seated}
use Rattle.pot_actors.proofs.parts.Parts.look_at.Goals as goal

pub index-requires : goal.index-requires
index-requires c = omega (arith, sits_within c.take_seat.new.seats.items c.args.actor c.in-Ok.at c.in-Ok.ensures.sits, c.take_seat.new.seats.ok)

pub gathering-requires : goal.gathering-requires
gathering-requires c =
    let p : Parts = record c.args.self.now { seats = c.take_seat.new.seats } in
    readable_found p c.args.actor c.in-Ok.at c.index.result.now c.in-Ok.ensures.sits c.index.ensures (rules (world_of p) (reached_seated c.args.self.now c.take_seat.new.seats c.in-Ok.ensures.same c.requires))

pub index_mut-requires : goal.index_mut-requires
index_mut-requires c = omega (arith, sits_within c.take_seat.new.seats.items c.args.actor c.in-Ok.at c.in-Ok.ensures.sits, c.take_seat.new.seats.ok)

pub gather-requires : goal.gather-requires
gather-requires c =
    let same : c.index.result.now ≡ c.index_mut.result.now = same_read c.take_seat.new.seats.items c.in-Ok.at c.index.result.now c.index_mut.result.now (sits_within c.take_seat.new.seats.items c.args.actor c.in-Ok.at c.in-Ok.ensures.sits) c.index.ensures c.index_mut.ensures.value in
    subst (λ (s : SeatData). IsTold s.found c.in-Ok-gathering.next.gathered.items c.in-Ok-gathering.next.file) same c.in-Ok-gathering.ensures.1

pub returns-in-Ok-make : goal.returns-in-Ok-make
returns-in-Ok-make c =
    let p : Parts = record c.args.self.now { seats = c.take_seat.new.seats } in
    let ss : Vec SeatData Global = with_item c.take_seat.new.seats c.in-Ok.at c.gather.new.self in
    let same : c.index_mut.result.now ≡ c.index.result.now = same_read c.take_seat.new.seats.items c.in-Ok.at c.index_mut.result.now c.index.result.now (sits_within c.take_seat.new.seats.items c.args.actor c.in-Ok.at c.in-Ok.ensures.sits) c.index_mut.ensures.value c.index.ensures in
    seated (step.LookAt c.args.actor c.args.place.now) c.args.self.now (record p { groups = c.make.new.self; seats = ss }) c.take_seat.new.seats (Ok tt) c.in-Ok.ensures.same
    (looks p c.args.actor c.in-Ok.at c.index.result.now c.in-Ok.ensures.sits c.index.ensures c.make.new.self ss c.args.place.now c.sound-block.result c.in-Ok-gathering.next c.gather.new.self
    c.sound-block.ensures c.in-Ok-gathering.ensures refl
    (c.gather.ensures ∙ ap (λ (s : SeatData). record s { gathered = c.in-Ok-gathering.next.gathered.items; file = c.in-Ok-gathering.next.file }) same) c.in-Ok-make.ensures)

pub returns-in-Err : goal.returns-in-Err
returns-in-Err c =
    let p : Parts = record c.args.self.now { seats = c.take_seat.new.seats } in
    seated (step.LookAt c.args.actor c.args.place.now) c.args.self.now (record p { groups = c.make.new.self }) c.take_seat.new.seats (Err c.in-Err.fault) c.in-Ok.ensures.same
    (looks_not p c.args.actor c.in-Ok.at c.index.result.now c.in-Ok.ensures.sits c.index.ensures c.make.new.self c.args.place.now c.in-Err.fault c.in-Err.ensures)
