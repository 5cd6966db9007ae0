use Rattle.std.proofs.Common.{IsTrue, ℕ, List, [], ap, map, subst, sym}
use Rattle.pot_steps.specs.declared.flight.Flight.{Flight}
use Rattle.pot_machine.specs.Table.{Table}
use Rattle.pot_shelves.specs.Shelves.{Shelved, numbers_of}
use Rattle.pot_group.specs.Group.{GroupParts, IsSettled, view_of}
use Rattle.pot_group.specs.Beginning.{Begins}
use Rattle.pot_group.specs.Frames.{Tries}
use Rattle.pot_group.specs.Arrivals.{HasArrived}
use Rattle.pot_group.proofs.Opened.{handed_all, after_settled, after_begins}
use Rattle.pot_group.proofs.Arriving.{opens_arrived}
use Rattle.pot_group.proofs.group.Group.open.Goals as goal

-- the group over a first table and flights
abbrev over : (g : _) → (c : goal.After-mark_opened g) → Table → List Flight → List (List ℕ) → Tries → GroupParts g.row.A.Denot
over g c t fs bs ts = record { number = c.args.number; first = t; table = c.open_all.new.table; log = c.open_all.new.log.items; flights = fs; blinds = bs; tried = ts; shelves = c.mark_opened.new.self }

pub open_all-requires-clause-archives : goal.open_all-requires-clause-archives
open_all-requires-clause-archives g c = handed_all c.args.table (numbers_of c.args.archives.shelves) c.cursor-rules.ensures.rules c.requires.archives

pub invariant_of-result : goal.invariant_of-result
invariant_of-result g c =
    let told = IsTrue g.A.Archive.account.tells in
    let meaning = g.A.Archive.account.meaning in
    let s = after_settled told meaning c.args.number c.args.table c.open_all.new.table c.open_all.new.log.items
    c.args.archives c.open_all.new.archives c.mark_opened.new.self c.cursor-rules.ensures.rules c.requires.relays c.requires.taken
    (handed_all c.args.table (numbers_of c.args.archives.shelves) c.cursor-rules.ensures.rules c.requires.archives) c.open_all.ensures.opens c.open_all.ensures.bound
    c.mark_opened.ensures.same c.mark_opened.ensures.opened in (
      subst (λ (t : Table). IsSettled told (view_of meaning (over g c t c.args.memory.flights.items (map (λ s. s.value) c.args.memory.blinds.items) c.args.memory.tried))) (sym c.requires.first)
          (subst (λ (fs : List Flight). IsSettled told (view_of meaning (over g c c.args.table fs (map (λ s. s.value) c.args.memory.blinds.items) c.args.memory.tried))) (sym c.requires.none)
          (subst (λ (bs : List (List ℕ)). IsSettled told (view_of meaning (over g c c.args.table [] bs c.args.memory.tried))) (sym (ap (map (λ s. s.value)) c.requires.blank))
          (subst (λ (ts : Tries). IsSettled told (view_of meaning (over g c c.args.table [] [] ts))) (sym c.requires.tried) s))),
      c.open_all.ensures.room,
      c.requires.places,
      subst (λ (t : Table). HasArrived t c.open_all.new.log.items (numbers_of c.mark_opened.new.self.shelves)) (sym c.requires.first)
          (subst (λ (a : Shelved g.row.A.Denot). HasArrived c.args.table c.open_all.new.log.items (numbers_of a.shelves)) (sym c.mark_opened.ensures.same)
          (opens_arrived told meaning c.args.table c.open_all.new.table c.open_all.new.log.items c.args.archives c.open_all.new.archives c.open_all.ensures.opens c.requires.archives)),
      c.requires.blinds,
    )

pub returns : goal.returns
returns g c =
    let told = IsTrue g.A.Archive.account.tells in
    let meaning = g.A.Archive.account.meaning in
    subst (λ (t : Table). Begins told meaning c.args.number c.args.table c.args.archives.shelves (over g c t c.args.memory.flights.items (map (λ s. s.value) c.args.memory.blinds.items) c.args.memory.tried)) (sym c.requires.first)
    (subst (λ (fs : List Flight). Begins told meaning c.args.number c.args.table c.args.archives.shelves (over g c c.args.table fs (map (λ s. s.value) c.args.memory.blinds.items) c.args.memory.tried)) (sym c.requires.none)
    (subst (λ (bs : List (List ℕ)). Begins told meaning c.args.number c.args.table c.args.archives.shelves (over g c c.args.table [] bs c.args.memory.tried)) (sym (ap (map (λ s. s.value)) c.requires.blank))
    (subst (λ (ts : Tries). Begins told meaning c.args.number c.args.table c.args.archives.shelves (over g c c.args.table [] [] ts)) (sym c.requires.tried)
    (after_begins told meaning c.args.number c.args.table c.open_all.new.table c.open_all.new.log.items
    c.args.archives c.open_all.new.archives c.mark_opened.new.self c.cursor-rules.ensures.rules c.requires.relays c.requires.taken
    (handed_all c.args.table (numbers_of c.args.archives.shelves) c.cursor-rules.ensures.rules c.requires.archives) c.open_all.ensures.opens c.open_all.ensures.bound
    c.mark_opened.ensures.same c.mark_opened.ensures.opened))))
