use Rattle.std.proofs.Common.{Ok, Err, refl, sym, ◌∙◌, arith}
use Rattle.pot_world.specs.declared.acts.ActFault.TheVariants as act_fault
use Rattle.pot_world.specs.declared.step.Step.TheVariants as step
use Rattle.pot_actors.specs.declared.parts.Parts.{Parts}
use Rattle.pot_actors.specs.Worlds.{world_of}
use Rattle.pot_actors.proofs.SeatLemmas.{sits_within}
use Rattle.pot_actors.proofs.StepLemmas.{rules, seated}
use Rattle.pot_actors.proofs.StoreLemmas.{store_busy, store_free, store_reserved, store_taken}
use Rattle.pot_actors.proofs.parts.Parts.store.Goals as goal

pub index-requires : goal.index-requires
index-requires c = omega (arith, sits_within c.take_seat.new.seats.items c.args.actor c.in-Ok.at c.in-Ok.ensures.sits, c.take_seat.new.seats.ok)

pub is_store-requires : goal.is_store-requires
is_store-requires c = (rules (world_of c.args.self.now) c.requires).rack.geometry

pub returns-then-is_busy : goal.returns-then-is_busy
returns-then-is_busy c =
    let p : Parts = record c.args.self.now { seats = c.take_seat.new.seats } in
    seated (step.Store c.args.actor c.args.name.now c.args.file.now c.args.random.now) c.args.self.now p c.take_seat.new.seats (Err act_fault.NotAllowed) c.in-Ok.ensures.same
    (store_busy p c.args.actor c.in-Ok.at c.index.result.now c.in-Ok.ensures.sits c.index.ensures c.args.name.now c.args.file.now c.args.random.now (sym c.is_busy.ensures ∙ c.if-is_busy.true), refl)

pub returns-then-not-is_store : goal.returns-then-not-is_store
returns-then-not-is_store c =
    let p : Parts = record c.args.self.now { seats = c.take_seat.new.seats } in
    seated (step.Store c.args.actor c.args.name.now c.args.file.now c.args.random.now) c.args.self.now p c.take_seat.new.seats (Err act_fault.NotAllowed) c.in-Ok.ensures.same
    ((λ h. (let t = c.is_store.ensures.1 h.1 in absurd (cc))), refl)

pub returns-in-Ok-enter : goal.returns-in-Ok-enter
returns-in-Ok-enter c =
    let p : Parts = record c.args.self.now { seats = c.take_seat.new.seats } in
    seated (step.Store c.args.actor c.args.name.now c.args.file.now c.args.random.now) c.args.self.now (record p { names = c.enter.new.self }) c.take_seat.new.seats (Ok tt) c.in-Ok.ensures.same (
      store_free p c.args.actor c.in-Ok.at c.index.result.now c.in-Ok.ensures.sits c.index.ensures c.args.name.now c.args.file.now c.args.random.now (sym c.is_busy.ensures ∙ c.if-is_busy.false) (c.is_store.ensures.0 c.if-not-is_store.false),
      store_taken p c.enter.new.self c.args.actor c.args.name.now c.args.file.now c.args.random.now (sym c.is_taken.ensures ∙ c.if-is_taken.true) c.in-Ok-enter.ensures,
    )

pub returns-in-Ok-begin_store : goal.returns-in-Ok-begin_store
returns-in-Ok-begin_store c =
    let p : Parts = record c.args.self.now { seats = c.take_seat.new.seats } in
    seated (step.Store c.args.actor c.args.name.now c.args.file.now c.args.random.now) c.args.self.now c.begin_store.new.self c.take_seat.new.seats (Ok tt) c.in-Ok.ensures.same (
      store_free p c.args.actor c.in-Ok.at c.index.result.now c.in-Ok.ensures.sits c.index.ensures c.args.name.now c.args.file.now c.args.random.now (sym c.is_busy.ensures ∙ c.if-is_busy.false) (c.is_store.ensures.0 c.if-not-is_store.false),
      store_reserved p (world_of c.begin_store.new.self) c.args.actor c.args.name.now c.args.file.now c.args.random.now (sym c.is_taken.ensures ∙ c.if-is_taken.false) c.in-Ok-begin_store.ensures,
    )
