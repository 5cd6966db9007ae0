use Rattle.std.proofs.Common.{◌<◌, IsTrue, subst, sym, ◌∙◌, map}
use Rattle.std.specs.Prelude.{Contains}
use Rattle.pot_machine.specs.Table.{width}
use Rattle.pot_shelves.specs.Shelves.{plain}
use Rattle.pot_group.specs.Reads.{ReadsByDigest}
use Rattle.pot_group.specs.Group.{GroupParts, view_of}
use Rattle.pot_group.proofs.Reading.{served, read_covers}
use Rattle.pot_group.proofs.Settled.{settled_stays}
use Rattle.pot_group.proofs.group.Group.read_slot.Goals as goal

pub read_sound-requires : goal.read_sound-requires
read_sound-requires g c =
    let a = c.self.inside in
    let v : GroupParts _ = record { number = a.number; first = a.first; table = a.table; log = a.log.items; flights = a.flights.items; blinds = map (λ s. s.value) a.blinds.items; tried = a.tried; shelves = a.archives } in
    subst (λ n. Contains (plain g.A.Archive.account.meaning a.archives).numbers n) (sym c.archive_of-number.ensures)
    (served (IsTrue g.A.Archive.account.tells) (view_of g.A.Archive.account.meaning v) c.self.invariant.0 c.args.stripe c.args.column
    (subst (λ (w : GroupParts _). c.args.column < width w.table) (sym c.self.view_is) c.requires))

pub invariant_of-self : goal.invariant_of-self
invariant_of-self g c =
    let a = c.self.inside in
    let v : GroupParts _ = record { number = a.number; first = a.first; table = a.table; log = a.log.items; flights = a.flights.items; blinds = map (λ s. s.value) a.blinds.items; tried = a.tried; shelves = a.archives } in (
      settled_stays (IsTrue g.A.Archive.account.tells) (view_of g.A.Archive.account.meaning v)
          (plain g.A.Archive.account.meaning c.read_sound.new.archives) c.self.invariant.0 c.read_sound.ensures.stays,
      c.self.invariant.1,
      c.self.invariant.2,
      c.read_sound.ensures.stays.keeps.numbers ∙ c.self.invariant.3,
      c.self.invariant.4,
    )

pub returns-clause-covers : goal.returns-clause-covers
returns-clause-covers g c =
    let a = c.self.inside in
    let v : GroupParts _ = record { number = a.number; first = a.first; table = a.table; log = a.log.items; flights = a.flights.items; blinds = map (λ s. s.value) a.blinds.items; tried = a.tried; shelves = a.archives } in
    read_covers (IsTrue g.A.Archive.account.tells) (view_of g.A.Archive.account.meaning v)
    (plain g.A.Archive.account.meaning c.read_sound.new.archives) c.args.stripe c.args.column c.args.digest c.read_sound.new.into c.read_sound.result
    c.self.invariant.0 (subst (λ (w : GroupParts _). c.args.column < width w.table) (sym c.self.view_is) c.requires)
    (subst (λ n. ReadsByDigest (IsTrue g.A.Archive.account.tells) n c.args.stripe c.args.digest c.read_sound.new.into c.read_sound.result (plain g.A.Archive.account.meaning a.archives) (plain g.A.Archive.account.meaning c.read_sound.new.archives)) c.archive_of-number.ensures c.read_sound.ensures)
