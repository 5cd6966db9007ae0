use Rattle.std.proofs.Common.{subst}
use Rattle.pot_index.specs.Searches.{BelongsAt, RecordStandsAt}
use Rattle.pot_index.proofs.RecordLemmas.{stands_published}
use Rattle.pot_actors.proofs.NameLemmas.{published_ledger}
use Rattle.pot_actors.proofs.ledger.Ledger.publish.Goals as goal

pub unreachable-requires : goal.unreachable-requires
unreachable-requires c = c.requires.free (stands_published c.args.self.now.records.items c.args.kept.name c.in_default.field-0 (subst (λ rs. RecordStandsAt rs c.args.kept.name c.in_default.field-0) c.deref.ensures.value c.in_default.ensures))

pub returns : goal.returns
returns c =
    published_ledger c.args.self.now.rack c.args.self.now.records.items c.args.self.now.reserved.items c.args.self.now.log.items c.push_reserved.new.self.items c.args.job c.args.kept c.of.result c.args.mark c.of.ensures c.requires.marked
    c.in-Err.at c.insert.new.self.items c.release.new.reserved.items
    (subst (λ rs. BelongsAt rs c.args.kept.name c.in-Err.at) c.deref.ensures.value c.in-Err.ensures)
    (rw (← c.reserve-2.ensures.items) c.in-Ok.ensures.items) c.release.ensures
    (rw (← c.reserve.ensures.items) c.push_reserved.ensures.items)
