use Rattle.std.proofs.Common.{◌≡◌, ◌++◌, ◌∷◌, [], Ok, Err, Some, refl, sym, ap, ◌∙◌, arith}
use Rattle.std.specs.Global.{Global}
use Rattle.std.specs.Prelude.{Vec}
use Rattle.std.specs.Vec.{with_item}
use Rattle.pot_world.specs.declared.acts.ActFault.TheVariants as act_fault
use Rattle.pot_world.specs.declared.step.Step.TheVariants as step
use Rattle.pot_actors.specs.declared.parts.Parts.{Parts}
use Rattle.pot_actors.specs.Seats.{SeatData}
use Rattle.pot_actors.specs.Worlds.{world_of}
use Rattle.pot_actors.proofs.FetchLemmas.{may_begin, not_begun, not_fetched, renew_begins, renew_busy}
use Rattle.pot_actors.proofs.SeatLemmas.{same_read, sits_within}
use Rattle.pot_actors.proofs.StepLemmas.{reached_seated, rules, seated}
use Rattle.pot_actors.proofs.StoreLemmas.{split_none}
use Rattle.pot_actors.proofs.parts.Parts.renew.Goals as goal

pub index-requires : goal.index-requires
index-requires c = omega (arith, sits_within c.take_seat.new.seats.items c.args.actor c.in-Ok.at c.in-Ok.ensures.sits, c.take_seat.new.seats.ok)

pub returns-in_default-fetched_of : goal.returns-in_default-fetched_of
returns-in_default-fetched_of c =
    let p : Parts = record c.args.self.now { seats = c.take_seat.new.seats } in
    seated (step.Renew c.args.actor c.args.name.now c.args.geometry.now c.args.random.now) c.args.self.now p c.take_seat.new.seats (Err act_fault.NotAllowed) c.in-Ok.ensures.same
    (not_fetched p c.args.actor c.in-Ok.at c.index.result.now c.in-Ok.ensures.sits c.index.ensures c.args.name.now c.args.geometry.now c.args.random.now c.in_default-fetched_of.ensures, refl)

pub index-requires-2 : goal.index-requires-2
index-requires-2 c = omega (arith, sits_within c.take_seat.new.seats.items c.args.actor c.in-Ok.at c.in-Ok.ensures.sits, c.take_seat.new.seats.ok)

pub returns-then-is_busy : goal.returns-then-is_busy
returns-then-is_busy c =
    let p : Parts = record c.args.self.now { seats = c.take_seat.new.seats } in
    seated (step.Renew c.args.actor c.args.name.now c.args.geometry.now c.args.random.now) c.args.self.now p c.take_seat.new.seats (Err act_fault.NotAllowed) c.in-Ok.ensures.same
    (renew_busy p c.args.actor c.in-Ok.at c.index-2.result.now c.in-Ok.ensures.sits c.index-2.ensures c.args.name.now c.args.geometry.now c.args.random.now (sym c.is_busy.ensures ∙ c.if-is_busy.true), refl)

pub returns-then-not-is_store : goal.returns-then-not-is_store
returns-then-not-is_store c =
    let p : Parts = record c.args.self.now { seats = c.take_seat.new.seats } in
    seated (step.Renew c.args.actor c.args.name.now c.args.geometry.now c.args.random.now) c.args.self.now p c.take_seat.new.seats (Err act_fault.NotAllowed) c.in-Ok.ensures.same
    (not_begun p c.args.actor c.in-Ok.at c.index.result.now c.in-Ok.ensures.sits c.index.ensures (rules (world_of p) (reached_seated c.args.self.now c.take_seat.new.seats c.in-Ok.ensures.same c.requires)) c.args.name.now c.in-Some.file.now c.args.geometry.now c.args.random.now c.in-Some.ensures (λ apart store. (let t = c.is_store.ensures.1 store in absurd (cc))), refl)

pub index_mut-requires : goal.index_mut-requires
index_mut-requires c = omega (arith, sits_within c.take_seat.new.seats.items c.args.actor c.in-Ok.at c.in-Ok.ensures.sits, c.take_seat.new.seats.ok)

pub returns : goal.returns
returns c =
    let p : Parts = record c.args.self.now { seats = c.take_seat.new.seats } in
    let ss : Vec SeatData Global = with_item c.take_seat.new.seats c.in-Ok.at c.begin.new.self in
    let within = sits_within c.take_seat.new.seats.items c.args.actor c.in-Ok.at c.in-Ok.ensures.sits in
    let idle : c.index.result.now ≡ c.index-2.result.now = same_read c.take_seat.new.seats.items c.in-Ok.at c.index.result.now c.index-2.result.now within c.index.ensures c.index-2.ensures in
    let same : c.index_mut.result.now ≡ c.index.result.now = same_read c.take_seat.new.seats.items c.in-Ok.at c.index_mut.result.now c.index.result.now within c.index_mut.ensures.value c.index.ensures in
    let none = ap (λ (s : SeatData). s.split) idle ∙ split_none c.index-2.result.now.split (sym c.is_busy.ensures ∙ c.if-is_busy.false) in
    seated (step.Renew c.args.actor c.args.name.now c.args.geometry.now c.args.random.now) c.args.self.now (record p { seats = ss; begun = c.push_reserved.new.self }) c.take_seat.new.seats (Ok tt) c.in-Ok.ensures.same (
      may_begin p c.args.actor c.in-Ok.at c.index.result.now c.in-Ok.ensures.sits c.index.ensures (rules (world_of p) (reached_seated c.args.self.now c.take_seat.new.seats c.in-Ok.ensures.same c.requires)) c.args.name.now c.in-Some.file.now c.args.geometry.now c.args.random.now c.in-Some.ensures none (c.fits.ensures.0 c.if-not-fits.false).apart (c.is_store.ensures.0 c.if-not-is_store.false),
      renew_begins p c.args.actor c.in-Ok.at c.index.result.now c.in-Ok.ensures.sits c.index.ensures (rules (world_of p) (reached_seated c.args.self.now c.take_seat.new.seats c.in-Ok.ensures.same c.requires)) c.args.name.now c.in-Some.file.now c.args.geometry.now c.args.random.now c.in-Some.ensures ss c.push_reserved.new.self c.in-Ok-renewal.split c.begin.new.self c.of.result
          c.in-Ok-renewal.ensures refl (c.begin.ensures ∙ ap (λ (s : SeatData). record s { split = Some c.in-Ok-renewal.split }) same)
          (c.push_reserved.ensures.items ∙ ap (λ xs. xs ++ c.of.result ∷ []) c.reserve.ensures.items) c.of.ensures,
    )
