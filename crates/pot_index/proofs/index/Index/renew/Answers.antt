use Rattle.std.proofs.Common.{◌+◌, ◌<◌, arith, refl, subst, sym, Ok, Err}
use Rattle.pot_bytes.specs.Rack.{log_bound}
use Rattle.pot_object.specs.Pieces.{pieces_of}
use Rattle.pot_index.specs.declared.fault.RenewFault.TheVariants.{TooOften}
use Rattle.pot_index.specs.declared.record.Record.{Record}
use Rattle.pot_index.specs.Fits.{FitsSplit}
use Rattle.pot_index.specs.Index.{IndexView, IsPublished, IsRecordOf, owed}
use Rattle.pot_index.specs.Calls.{Renews}
use Rattle.pot_index.proofs.IndexLemmas.{often_is, renewing_is, often_row, no_memory_row, renewed_row, renew_no_memory, full_row, record_published}
use Rattle.pot_index.proofs.RecordLemmas.{belongs_unpublished}
use Rattle.pot_index.proofs.index.Index.renew.Goals as goal

pub returns-then-owed-gt-LOG_BOUND : goal.returns-then-owed-gt-LOG_BOUND
returns-then-owed-gt-LOG_BOUND c =
    full_row c.args.self.now c.args.self.now c.args.name.now c.args.job c.args.split c.requires
    (subst (λ (v : IndexView). log_bound < owed v + 1) c.self.view_is (omega (arith, c.owed.ensures)), refl)

pub unreachable-requires : goal.unreachable-requires
unreachable-requires c =
    belongs_unpublished c.self.inside.lists.now.published c.args.name.now c.in_default.field-0 c.in_default.ensures
    (subst (λ (v : IndexView). IsPublished v.now c.args.name.now) (sym c.self.view_is) (record_published c.args.self.now.now c.args.name.now c.requires.0 c.requires.1))

pub invariant_of-self : goal.invariant_of-self
invariant_of-self c =
    often_is c.self.inside.lists c.args.name.now c.in-Ok.at c.in-Ok.ensures _ c.args.job c.older.result c.self.invariant (omega (arith, c.owed.ensures)) c.older.ensures.value c.if-older-eq-MOST_OLDER.true c.enter.ensures

pub returns-then-older-eq-MOST_OLDER : goal.returns-then-older-eq-MOST_OLDER
returns-then-older-eq-MOST_OLDER c =
    subst (λ (v : IndexView). Renews c.args.job c.args.name.now c.args.split v c.enter.new.self (Err TooOften)) c.self.view_is
    (often_row c.self.inside.lists c.args.name.now c.in-Ok.at c.in-Ok.ensures _ c.args.job c.args.split c.older.result (omega (arith, c.owed.ensures)) c.older.ensures.value c.if-older-eq-MOST_OLDER.true c.enter.ensures)

pub returns-in_err-renew : goal.returns-in_err-renew
returns-in_err-renew c =
    subst (λ (v : IndexView). Renews c.args.job c.args.name.now c.args.split v c.renew.new.self c.from_residual.result) c.self.view_is
    (renew_no_memory c.self.inside.lists c.renew.new.self c.args.job c.args.name.now c.args.split c.from_residual.result
    (no_memory_row c.self.inside.lists c.args.name.now c.in-Ok.at c.in-Ok.ensures c.renew.new.self c.args.job c.args.split c.older.result (omega (arith, c.owed.ensures)) c.older.ensures.value (omega (arith, c.older.ensures.few, c.if-older-eq-MOST_OLDER.false)) c.in_err-renew.ensures.err)
    c.from_residual.ensures.1)

pub invariant_of-self-2 : goal.invariant_of-self-2
invariant_of-self-2 c =
    renewing_is c.self.inside.lists c.args.name.now c.in-Ok.at c.in-Ok.ensures _ c.args.job c.args.split c.older.result c.self.invariant (omega (arith, c.owed.ensures)) c.older.ensures.value
    (omega (arith, c.older.ensures.few, c.if-older-eq-MOST_OLDER.false))
    (subst (λ (v : IndexView). (r : Record) × IsRecordOf v.now c.args.name.now r × FitsSplit v.rack (pieces_of r.length) c.args.split) (sym c.self.view_is) c.requires) c.in_ok-renew.ensures.ok

pub returns : goal.returns
returns c =
    subst (λ (v : IndexView). Renews c.args.job c.args.name.now c.args.split v c.renew.new.self (Ok tt)) c.self.view_is
    (renewed_row c.self.inside.lists c.args.name.now c.in-Ok.at c.in-Ok.ensures _ c.args.job c.args.split c.older.result (omega (arith, c.owed.ensures)) c.older.ensures.value (omega (arith, c.older.ensures.few, c.if-older-eq-MOST_OLDER.false)) c.in_ok-renew.ensures.ok)
