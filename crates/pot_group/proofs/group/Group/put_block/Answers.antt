use Rattle.std.proofs.Common.{◌≡◌, ◌<◌, IsTrue, Err, length, refl, subst, sym, arith, map}
use Rattle.pot_shelves.specs.Shelves.{plain, numbers_of}
use Rattle.pot_group.specs.Group.{GroupParts, view_of}
use Rattle.pot_group.specs.Putting.{BlockMeans, answered}
use Rattle.pot_group.proofs.Reading.{served}
use Rattle.pot_group.proofs.Writing.{CanPut, none_exit, all_exit, put_brings}
use Rattle.pot_group.specs.declared.answers.PutFault.TheVariants as fault
use Rattle.pot_group.proofs.Arriving.{none_arrived}
use Rattle.pot_group.proofs.group.Group.put_block.Goals as goal

pub write_put-requires : goal.write_put-requires
write_put-requires g c =
    let a = c.self.inside in
    let v : GroupParts _ = record { number = a.number; first = a.first; table = a.table; log = a.log.items; flights = a.flights.items; blinds = map (λ s. s.value) a.blinds.items; tried = a.tried; shelves = a.archives } in
    record { served = (λ k lk. served (IsTrue g.A.Archive.account.tells) (view_of g.A.Archive.account.meaning v) c.self.invariant.0 a.table.cursor.stripe k lk) }

pub invariant_of-self : goal.invariant_of-self
invariant_of-self g c =
    let a = c.self.inside in
    let v : GroupParts _ = record { number = a.number; first = a.first; table = a.table; log = a.log.items; flights = a.flights.items; blinds = map (λ s. s.value) a.blinds.items; tried = a.tried; shelves = a.archives } in
    let can = subst (λ (w : GroupParts _). CanPut (IsTrue g.A.Archive.account.tells) c.args.old.now.first c.args.old.now.second (view_of g.A.Archive.account.meaning w)) (sym c.self.view_is)
    (c.requires.cursor, c.requires.takes, c.requires.room, c.requires.old) in
    let long : c.len.result ≡ length a.log.items = omega (arith, c.len.ensures) in
    let x = none_exit (IsTrue g.A.Archive.account.tells) (view_of g.A.Archive.account.meaning v) c.args.job c.args.block.now c.args.old.now.first c.args.old.now.second c.cursor-cursor.result
    (plain g.A.Archive.account.meaning c.write_put.new.archives) c.note.new.table c.note.new.log.items c.self.invariant.0 can c.cursor-cursor.ensures.value
    c.len.result c.keep.new.self long c.keep.ensures c.in-None.ensures c.note.ensures.table c.note.ensures.log in (
      x.0,
      omega (arith, c.self.invariant.1, c.note.ensures.capacity),
      c.self.invariant.2,
      none_arrived a.first a.log.items c.note.new.log.items _ (numbers_of a.archives.shelves) (numbers_of c.write_put.new.archives.shelves) c.self.invariant.3 c.note.ensures.log refl c.in-None.ensures.1.keeps.numbers,
      c.self.invariant.4,
    )

pub invariant_of-self-in-Some : goal.invariant_of-self-in-Some
invariant_of-self-in-Some g c =
    let a = c.self.inside in
    let v : GroupParts _ = record { number = a.number; first = a.first; table = a.table; log = a.log.items; flights = a.flights.items; blinds = map (λ s. s.value) a.blinds.items; tried = a.tried; shelves = a.archives } in
    let can = subst (λ (w : GroupParts _). CanPut (IsTrue g.A.Archive.account.tells) c.args.old.now.first c.args.old.now.second (view_of g.A.Archive.account.meaning w)) (sym c.self.view_is)
    (c.requires.cursor, c.requires.takes, c.requires.room, c.requires.old) in
    let x = all_exit (IsTrue g.A.Archive.account.tells) (view_of g.A.Archive.account.meaning v) c.args.job c.args.block.now c.args.old.now.first c.args.old.now.second c.cursor-cursor.result
    (plain g.A.Archive.account.meaning c.write_put.new.archives) c.note-in-Some.new.table c.note-in-Some.new.log.items c.self.invariant.0 can c.cursor-cursor.ensures.value
    c.after_put-parity.result.first c.after_put-parity.result.second c.in-Some.kept.first c.in-Some.kept.second (record { group = a.number; column = c.cursor-cursor.result.column; stripe = c.cursor-cursor.result.stripe }) c.data_columns-last.result c.parity-parity_columns.result
    c.block_law.ensures c.after_put-parity.ensures.first c.after_put-parity.ensures.second c.in-Some.ensures refl c.data_columns-last.ensures.value c.parity-parity_columns.ensures.value
    (rw c.put_entry-entry.ensures at c.note-in-Some.ensures.table) (rw c.put_entry-entry.ensures at c.note-in-Some.ensures.log) in (
      x.0,
      omega (arith, c.self.invariant.1, c.note-in-Some.ensures.capacity),
      c.self.invariant.2,
      none_arrived a.first a.log.items c.note-in-Some.new.log.items c.put_entry-entry.result (numbers_of a.archives.shelves) (numbers_of c.write_put.new.archives.shelves) c.self.invariant.3 c.note-in-Some.ensures.log
          (put_brings c.put_entry-entry.result c.parity-parity_columns.result c.args.job c.cursor-cursor.result.stripe c.cursor-cursor.result.column c.args.block.now c.after_put-parity.result.first c.after_put-parity.result.second c.in-Some.kept.first c.in-Some.kept.second c.put_entry-entry.ensures)
          c.in-Some.ensures.keeps.numbers,
      c.self.invariant.4,
    )

pub returns-in-None : goal.returns-in-None
returns-in-None g c =
    let a = c.self.inside in
    let v : GroupParts _ = record { number = a.number; first = a.first; table = a.table; log = a.log.items; flights = a.flights.items; blinds = map (λ s. s.value) a.blinds.items; tried = a.tried; shelves = a.archives } in
    let can = subst (λ (w : GroupParts _). CanPut (IsTrue g.A.Archive.account.tells) c.args.old.now.first c.args.old.now.second (view_of g.A.Archive.account.meaning w)) (sym c.self.view_is)
    (c.requires.cursor, c.requires.takes, c.requires.room, c.requires.old) in
    let long : c.len.result ≡ length a.log.items = omega (arith, c.len.ensures) in
    let x = none_exit (IsTrue g.A.Archive.account.tells) (view_of g.A.Archive.account.meaning v) c.args.job c.args.block.now c.args.old.now.first c.args.old.now.second c.cursor-cursor.result
    (plain g.A.Archive.account.meaning c.write_put.new.archives) c.note.new.table c.note.new.log.items c.self.invariant.0 can c.cursor-cursor.ensures.value
    c.len.result c.keep.new.self long c.keep.ensures c.in-None.ensures c.note.ensures.table c.note.ensures.log in
    subst (λ (w : GroupParts _). BlockMeans (IsTrue g.A.Archive.account.tells) c.args.job c.args.block.now c.args.old.now.first c.args.old.now.second (Err (fault.Faulted c.cursor-cursor.result.column))
    (view_of g.A.Archive.account.meaning w)
    (record { number = a.number; first = a.first; table = c.note.new.table; log = c.note.new.log.items; flights = a.flights.items; blinds = map (λ s. s.value) a.blinds.items; tried = c.keep.new.self; shelves = plain g.A.Archive.account.meaning c.write_put.new.archives })) c.self.view_is x.1

pub returns-in-Some : goal.returns-in-Some
returns-in-Some g c =
    let a = c.self.inside in
    let v : GroupParts _ = record { number = a.number; first = a.first; table = a.table; log = a.log.items; flights = a.flights.items; blinds = map (λ s. s.value) a.blinds.items; tried = a.tried; shelves = a.archives } in
    let can = subst (λ (w : GroupParts _). CanPut (IsTrue g.A.Archive.account.tells) c.args.old.now.first c.args.old.now.second (view_of g.A.Archive.account.meaning w)) (sym c.self.view_is)
    (c.requires.cursor, c.requires.takes, c.requires.room, c.requires.old) in
    let x = all_exit (IsTrue g.A.Archive.account.tells) (view_of g.A.Archive.account.meaning v) c.args.job c.args.block.now c.args.old.now.first c.args.old.now.second c.cursor-cursor.result
    (plain g.A.Archive.account.meaning c.write_put.new.archives) c.note-in-Some.new.table c.note-in-Some.new.log.items c.self.invariant.0 can c.cursor-cursor.ensures.value
    c.after_put-parity.result.first c.after_put-parity.result.second c.in-Some.kept.first c.in-Some.kept.second (record { group = a.number; column = c.cursor-cursor.result.column; stripe = c.cursor-cursor.result.stripe }) c.data_columns-last.result c.parity-parity_columns.result
    c.block_law.ensures c.after_put-parity.ensures.first c.after_put-parity.ensures.second c.in-Some.ensures refl c.data_columns-last.ensures.value c.parity-parity_columns.ensures.value
    (rw c.put_entry-entry.ensures at c.note-in-Some.ensures.table) (rw c.put_entry-entry.ensures at c.note-in-Some.ensures.log) in
    subst (λ r. BlockMeans (IsTrue g.A.Archive.account.tells) c.args.job c.args.block.now c.args.old.now.first c.args.old.now.second r
    (view_of g.A.Archive.account.meaning c.args.self.now)
    (record { number = a.number; first = a.first; table = c.note-in-Some.new.table; log = c.note-in-Some.new.log.items; flights = a.flights.items; blinds = map (λ s. s.value) a.blinds.items; tried = a.tried; shelves = plain g.A.Archive.account.meaning c.write_put.new.archives })) (sym c.answered.ensures)
    (subst (λ (w : GroupParts _). BlockMeans (IsTrue g.A.Archive.account.tells) c.args.job c.args.block.now c.args.old.now.first c.args.old.now.second (answered (record { group = a.number; column = c.cursor-cursor.result.column; stripe = c.cursor-cursor.result.stripe }) c.data_columns-last.result c.in-Some.kept.first c.in-Some.kept.second)
    (view_of g.A.Archive.account.meaning w)
    (record { number = a.number; first = a.first; table = c.note-in-Some.new.table; log = c.note-in-Some.new.log.items; flights = a.flights.items; blinds = map (λ s. s.value) a.blinds.items; tried = a.tried; shelves = plain g.A.Archive.account.meaning c.write_put.new.archives })) c.self.view_is x.1)
