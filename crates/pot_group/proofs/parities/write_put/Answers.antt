use Rattle.std.proofs.Common.{IsTrue, sym, subst, arith, ◌∙◌}
use Rattle.std.specs.Prelude.{Contains}
use Rattle.pot_shelves.specs.Shelves.{plain}
use Rattle.pot_group.proofs.PutWrites.{wide_column, wide_first, wide_second, served_at, one_exit, two_exit}
use Rattle.pot_group.proofs.parities.write_put.Goals as goal

pub write-requires : goal.write-requires
write-requires g c =
    served_at _ c.args.table.now c.cursor-stripe.result c.cursor-stripe.result.column c.archive_of-home.result c.cursor-stripe.ensures.value c.requires.served
    (wide_column c.args.table.now c.cursor-stripe.result c.cursor-stripe.ensures.rules c.cursor-stripe.ensures.value) c.archive_of-home.ensures

pub write-first-requires : goal.write-first-requires
write-first-requires g c =
    subst (λ ns. Contains ns c.archive_of.result) (sym c.write.ensures.keeps.numbers)
    (served_at _ c.args.table.now c.cursor-stripe.result c.data_columns-last.result c.archive_of.result c.cursor-stripe.ensures.value c.requires.served
    (wide_first c.args.table.now c.data_columns-last.result c.cursor-stripe.ensures.rules c.data_columns-last.ensures.value) c.archive_of.ensures)

pub returns-then-parity-eq1 : goal.returns-then-parity-eq1
returns-then-parity-eq1 g c =
    one_exit (IsTrue g.A.Archive.account.tells) c.args.table.now c.args.block.now c.args.parity.now.first c.args.parity.now.second c.cursor-stripe.result c.archive_of-home.result
    c.data_columns-last.result c.archive_of.result (plain g.A.Archive.account.meaning c.args.archives.now) (plain g.A.Archive.account.meaning c.write.new.self)
    (plain g.A.Archive.account.meaning c.write-first.new.self) c.in_default.field-0 c.write-first.result c.cursor-stripe.ensures.rules c.cursor-stripe.ensures.value
    c.data_columns-last.ensures.value c.archive_of-home.ensures c.archive_of.ensures c.in_default.ensures c.write-first.ensures c.is_ok.result
    (omega (arith, c.parity.ensures.value, c.if-parity-eq1.true)) c.is_ok.ensures.value

pub write-second-requires : goal.write-second-requires
write-second-requires g c =
    subst (λ ns. Contains ns c.archive_of-2.result) (sym (c.write-first.ensures.keeps.numbers ∙ c.write.ensures.keeps.numbers))
    (served_at _ c.args.table.now c.cursor-stripe.result _ c.archive_of-2.result c.cursor-stripe.ensures.value c.requires.served
    (wide_second c.args.table.now c.data_columns-last.result c.parity.result c.cursor-stripe.ensures.rules c.data_columns-last.ensures.value c.parity.ensures.value
    (omega (arith, c.if-parity-eq1.false))) c.archive_of-2.ensures)

pub returns : goal.returns
returns g c =
    two_exit (IsTrue g.A.Archive.account.tells) c.args.table.now c.args.block.now c.args.parity.now.first c.args.parity.now.second c.cursor-stripe.result c.archive_of-home.result
    c.data_columns-last.result c.archive_of.result (plain g.A.Archive.account.meaning c.args.archives.now) (plain g.A.Archive.account.meaning c.write.new.self)
    (plain g.A.Archive.account.meaning c.write-first.new.self) c.in_default.field-0 c.write-first.result c.cursor-stripe.ensures.rules c.cursor-stripe.ensures.value
    c.data_columns-last.ensures.value c.archive_of-home.ensures c.archive_of.ensures c.in_default.ensures c.write-first.ensures
    c.parity.result c.archive_of-2.result (plain g.A.Archive.account.meaning c.write-second.new.self) c.write-second.result c.is_ok-2.result c.is_ok-3.result
    c.parity.ensures.value (omega (arith, c.if-parity-eq1.false)) c.is_ok-2.ensures.value c.is_ok-3.ensures.value c.archive_of-2.ensures c.write-second.ensures
