use Rattle.std.proofs.Common.{◌≡◌, ◌≤◌, ◌+◌, ◌++◌, [], ◌∷◌, IsTrue, length, length-append, append-nil, append_assoc, refl, sym, ap, ◌∙◌, arith}
use Rattle.pot_machine.specs.declared.entry.Entry.TheVariants.{Broke}
use Rattle.pot_machine.specs.Machine.{after}
use Rattle.pot_machine.specs.Table.{width}
use Rattle.pot_shelves.specs.Shelves.{plain}
use Rattle.pot_shelves.specs.declared.filling.Breaking.TheVariants as breaking
use Rattle.pot_shelves.proofs.OpeningColumns.{columns_length}
use Rattle.pot_shelves.proofs.OpeningAll.{opens_as, legal_one, legal_first, legal_second}
use Rattle.pot_shelves.proofs.opening.open_stripe.Goals as goal

pub note-requires-clause-legal : goal.note-requires-clause-legal
note-requires-clause-legal g c = rw c.broke.ensures (legal_one (IsTrue g.A.Archive.account.tells) c.args.stripe c.args.table.now c.open_columns-shortage.new.table c.args.log.now.items c.open_columns-shortage.new.log.items c.open_columns-shortage.result
    c.open_columns-shortage.new.sums.first c.open_columns-shortage.new.sums.second (plain g.A.Archive.account.meaning c.args.archives.now) (plain g.A.Archive.account.meaning c.open_columns-shortage.new.archives)
    c.data_columns-data_columns.ensures.rules c.requires.stripe c.open_columns-shortage.ensures.opens
    c.in-One.column (rw (c.data_columns-data_columns.ensures.value, c.parity-parity_columns.ensures.value) at c.in-One.ensures))

pub note-requires-clause-room : goal.note-requires-clause-room
note-requires-clause-room g c =
    let l : length c.open_columns-shortage.new.log.items ≤ length c.args.log.now.items + width c.args.table.now = columns_length _ _ _ _ _ _ _ _ _ _ _ _ c.open_columns-shortage.ensures.opens in
    omega (arith, c.data_columns-data_columns.ensures.rules.size.data_columns, c.data_columns-data_columns.ensures.rules.size.parity)

pub note-requires-in-Both-clause-legal : goal.note-requires-in-Both-clause-legal
note-requires-in-Both-clause-legal g c = rw c.broke-in-Both.ensures (legal_first (IsTrue g.A.Archive.account.tells) c.args.stripe c.args.table.now c.open_columns-shortage.new.table c.args.log.now.items c.open_columns-shortage.new.log.items c.open_columns-shortage.result
    c.open_columns-shortage.new.sums.first c.open_columns-shortage.new.sums.second (plain g.A.Archive.account.meaning c.args.archives.now) (plain g.A.Archive.account.meaning c.open_columns-shortage.new.archives)
    c.data_columns-data_columns.ensures.rules c.requires.stripe c.open_columns-shortage.ensures.opens
    c.in-Both.column c.in-Both.other (rw (c.data_columns-data_columns.ensures.value, c.parity-parity_columns.ensures.value) at c.in-Both.ensures))

pub note-requires-in-Both-clause-room : goal.note-requires-in-Both-clause-room
note-requires-in-Both-clause-room g c =
    let l : length c.open_columns-shortage.new.log.items ≤ length c.args.log.now.items + width c.args.table.now = columns_length _ _ _ _ _ _ _ _ _ _ _ _ c.open_columns-shortage.ensures.opens in
    omega (arith, c.data_columns-data_columns.ensures.rules.size.data_columns, c.data_columns-data_columns.ensures.rules.size.parity)

pub note-requires-in-Both-2-clause-legal : goal.note-requires-in-Both-2-clause-legal
note-requires-in-Both-2-clause-legal g c = rw (c.broke-in-Both-2.ensures, c.note-in-Both.ensures.table, c.broke-in-Both.ensures) (legal_second (IsTrue g.A.Archive.account.tells) c.args.stripe c.args.table.now c.open_columns-shortage.new.table c.args.log.now.items c.open_columns-shortage.new.log.items c.open_columns-shortage.result
    c.open_columns-shortage.new.sums.first c.open_columns-shortage.new.sums.second (plain g.A.Archive.account.meaning c.args.archives.now) (plain g.A.Archive.account.meaning c.open_columns-shortage.new.archives)
    c.data_columns-data_columns.ensures.rules c.requires.stripe c.open_columns-shortage.ensures.opens
    c.in-Both.column c.in-Both.other (rw (c.data_columns-data_columns.ensures.value, c.parity-parity_columns.ensures.value) at c.in-Both.ensures))

pub note-requires-in-Both-2-clause-room : goal.note-requires-in-Both-2-clause-room
note-requires-in-Both-2-clause-room g c =
    let l : length c.open_columns-shortage.new.log.items ≤ length c.args.log.now.items + width c.args.table.now = columns_length _ _ _ _ _ _ _ _ _ _ _ _ c.open_columns-shortage.ensures.opens in
    let more : length c.note-in-Both.new.log.items ≡ length c.open_columns-shortage.new.log.items + 1 = ap length c.note-in-Both.ensures.log ∙ length-append c.open_columns-shortage.new.log.items (_ ∷ []) in
    omega (arith, c.data_columns-data_columns.ensures.rules.size.data_columns, c.data_columns-data_columns.ensures.rules.size.parity)

pub returns-in-Nothing-clause-opens : goal.returns-in-Nothing-clause-opens
returns-in-Nothing-clause-opens g c = opens_as (IsTrue g.A.Archive.account.tells) c.args.stripe c.args.table.now c.open_columns-shortage.new.table c.args.log.now.items c.open_columns-shortage.new.log.items c.open_columns-shortage.result
    c.open_columns-shortage.new.sums.first c.open_columns-shortage.new.sums.second (plain g.A.Archive.account.meaning c.args.archives.now) (plain g.A.Archive.account.meaning c.open_columns-shortage.new.archives)
    c.data_columns-data_columns.ensures.rules c.requires.stripe c.open_columns-shortage.ensures.opens
    breaking.Nothing (rw (c.data_columns-data_columns.ensures.value, c.parity-parity_columns.ensures.value) at c.in-Nothing.ensures) c.open_columns-shortage.new.table c.open_columns-shortage.new.log.items refl (sym (append-nil c.open_columns-shortage.new.log.items))

pub returns-in-Nothing-clause-bound : goal.returns-in-Nothing-clause-bound
returns-in-Nothing-clause-bound g c =
    let l : length c.open_columns-shortage.new.log.items ≤ length c.args.log.now.items + width c.args.table.now = columns_length _ _ _ _ _ _ _ _ _ _ _ _ c.open_columns-shortage.ensures.opens in
    omega (arith, c.data_columns-data_columns.ensures.rules.size.data_columns, c.data_columns-data_columns.ensures.rules.size.parity)

pub returns-in-One-clause-opens : goal.returns-in-One-clause-opens
returns-in-One-clause-opens g c = opens_as (IsTrue g.A.Archive.account.tells) c.args.stripe c.args.table.now c.open_columns-shortage.new.table c.args.log.now.items c.open_columns-shortage.new.log.items c.open_columns-shortage.result
    c.open_columns-shortage.new.sums.first c.open_columns-shortage.new.sums.second (plain g.A.Archive.account.meaning c.args.archives.now) (plain g.A.Archive.account.meaning c.open_columns-shortage.new.archives)
    c.data_columns-data_columns.ensures.rules c.requires.stripe c.open_columns-shortage.ensures.opens
    (breaking.One c.in-One.column) (rw (c.data_columns-data_columns.ensures.value, c.parity-parity_columns.ensures.value) at c.in-One.ensures) c.note.new.table c.note.new.log.items (
      legal_one (IsTrue g.A.Archive.account.tells) c.args.stripe c.args.table.now c.open_columns-shortage.new.table c.args.log.now.items c.open_columns-shortage.new.log.items c.open_columns-shortage.result
          c.open_columns-shortage.new.sums.first c.open_columns-shortage.new.sums.second (plain g.A.Archive.account.meaning c.args.archives.now) (plain g.A.Archive.account.meaning c.open_columns-shortage.new.archives)
          c.data_columns-data_columns.ensures.rules c.requires.stripe c.open_columns-shortage.ensures.opens
          c.in-One.column (rw (c.data_columns-data_columns.ensures.value, c.parity-parity_columns.ensures.value) at c.in-One.ensures),
      c.note.ensures.table ∙ ap (after c.open_columns-shortage.new.table) c.broke.ensures,
    )
    (c.note.ensures.log ∙ ap (λ e. c.open_columns-shortage.new.log.items ++ e ∷ []) c.broke.ensures)

pub returns-in-One-clause-bound : goal.returns-in-One-clause-bound
returns-in-One-clause-bound g c =
    let l : length c.open_columns-shortage.new.log.items ≤ length c.args.log.now.items + width c.args.table.now = columns_length _ _ _ _ _ _ _ _ _ _ _ _ c.open_columns-shortage.ensures.opens in
    let more : length c.note.new.log.items ≡ length c.open_columns-shortage.new.log.items + 1 = ap length c.note.ensures.log ∙ length-append c.open_columns-shortage.new.log.items (_ ∷ []) in
    omega (arith, c.data_columns-data_columns.ensures.rules.size.data_columns, c.data_columns-data_columns.ensures.rules.size.parity)

pub returns-in-Both-clause-opens : goal.returns-in-Both-clause-opens
returns-in-Both-clause-opens g c = opens_as (IsTrue g.A.Archive.account.tells) c.args.stripe c.args.table.now c.open_columns-shortage.new.table c.args.log.now.items c.open_columns-shortage.new.log.items c.open_columns-shortage.result
    c.open_columns-shortage.new.sums.first c.open_columns-shortage.new.sums.second (plain g.A.Archive.account.meaning c.args.archives.now) (plain g.A.Archive.account.meaning c.open_columns-shortage.new.archives)
    c.data_columns-data_columns.ensures.rules c.requires.stripe c.open_columns-shortage.ensures.opens
    (breaking.Both c.in-Both.column c.in-Both.other) (rw (c.data_columns-data_columns.ensures.value, c.parity-parity_columns.ensures.value) at c.in-Both.ensures) c.note-in-Both-2.new.table c.note-in-Both-2.new.log.items (
      legal_first (IsTrue g.A.Archive.account.tells) c.args.stripe c.args.table.now c.open_columns-shortage.new.table c.args.log.now.items c.open_columns-shortage.new.log.items c.open_columns-shortage.result
          c.open_columns-shortage.new.sums.first c.open_columns-shortage.new.sums.second (plain g.A.Archive.account.meaning c.args.archives.now) (plain g.A.Archive.account.meaning c.open_columns-shortage.new.archives)
          c.data_columns-data_columns.ensures.rules c.requires.stripe c.open_columns-shortage.ensures.opens
          c.in-Both.column c.in-Both.other (rw (c.data_columns-data_columns.ensures.value, c.parity-parity_columns.ensures.value) at c.in-Both.ensures),
      (
        legal_second (IsTrue g.A.Archive.account.tells) c.args.stripe c.args.table.now c.open_columns-shortage.new.table c.args.log.now.items c.open_columns-shortage.new.log.items c.open_columns-shortage.result
            c.open_columns-shortage.new.sums.first c.open_columns-shortage.new.sums.second (plain g.A.Archive.account.meaning c.args.archives.now) (plain g.A.Archive.account.meaning c.open_columns-shortage.new.archives)
            c.data_columns-data_columns.ensures.rules c.requires.stripe c.open_columns-shortage.ensures.opens
            c.in-Both.column c.in-Both.other (rw (c.data_columns-data_columns.ensures.value, c.parity-parity_columns.ensures.value) at c.in-Both.ensures),
        c.note-in-Both-2.ensures.table ∙ ap (after c.note-in-Both.new.table) c.broke-in-Both-2.ensures
            ∙ ap (λ t. after t (Broke 0 c.args.stripe c.in-Both.other)) (c.note-in-Both.ensures.table ∙ ap (after c.open_columns-shortage.new.table) c.broke-in-Both.ensures),
      ),
    )
    (c.note-in-Both-2.ensures.log ∙ ap (λ e. c.note-in-Both.new.log.items ++ e ∷ []) c.broke-in-Both-2.ensures
    ∙ ap (λ xs. xs ++ Broke 0 c.args.stripe c.in-Both.other ∷ []) (c.note-in-Both.ensures.log ∙ ap (λ e. c.open_columns-shortage.new.log.items ++ e ∷ []) c.broke-in-Both.ensures)
    ∙ append_assoc c.open_columns-shortage.new.log.items (Broke 0 c.args.stripe c.in-Both.column ∷ []) (Broke 0 c.args.stripe c.in-Both.other ∷ []))

pub returns-in-Both-clause-bound : goal.returns-in-Both-clause-bound
returns-in-Both-clause-bound g c =
    let l : length c.open_columns-shortage.new.log.items ≤ length c.args.log.now.items + width c.args.table.now = columns_length _ _ _ _ _ _ _ _ _ _ _ _ c.open_columns-shortage.ensures.opens in
    let more : length c.note-in-Both.new.log.items ≡ length c.open_columns-shortage.new.log.items + 1 = ap length c.note-in-Both.ensures.log ∙ length-append c.open_columns-shortage.new.log.items (_ ∷ []) in
    let last : length c.note-in-Both-2.new.log.items ≡ length c.note-in-Both.new.log.items + 1 = ap length c.note-in-Both-2.ensures.log ∙ length-append c.note-in-Both.new.log.items (_ ∷ []) in
    omega (arith, c.data_columns-data_columns.ensures.rules.size.data_columns, c.data_columns-data_columns.ensures.rules.size.parity)
