use Rattle.std.proofs.Common.{◌++◌, length, sym, ap, ◌∙◌, arith}
use Rattle.pot_group.specs.Group.{view_of}
use Rattle.std.specs.Prelude.{slice_index_or, flat_map}
use Rattle.pot_index.specs.Index.{IndexView}
use Rattle.pot_turn.specs.Views.{spent_view}
use Rattle.pot_shared.specs.Catalogs.{records_in}
use Rattle.pot_shelves.specs.Shelves.{numbers_of}
use Rattle.pot_shared.specs.Groups.{had_by}
use Rattle.pot_shared.proofs.OpenLemmas.{can_call_of, first_passes, first_read, taken_at}
use Rattle.pot_shared.proofs.opening.share.Goals as goal

pub start-requires-2-clause-groups : goal.start-requires-2-clause-groups
start-requires-2-clause-groups g c n m at = (c.requires.groups.number n m at, c.requires.groups.table n m at)

pub returns-in-Ok-start-clause-opened : goal.returns-in-Ok-start-clause-opened
returns-in-Ok-start-clause-opened g c =
    record {
      is_rack = c.in-Ok-start.ensures.rack;
      can_call = can_call_of _ _ c.args.rack.now c.in-Ok-start.ensures.rack c.requires.rack c.in-Ok-start.ensures.count c.in-Ok-start.ensures.ready.0 c.in-Ok-start.ensures.ready.1;
      parts = record { groups = c.in-Ok-start.ensures.parts.0; index = c.in-Ok-start.ensures.parts.1 };
      first = first_passes (λ m. view_of g.A.Archive.account.meaning m.group) c.args.rack.now c.args.members.items _ _ _ _ c.requires.groups c.in-Ok-start.ensures.first c.in-Ok-start.ensures.ready.0.of c.in-Ok-start.ensures.count
          c.in-Ok-start.ensures.index;
      are_tables = first_read (λ m. view_of g.A.Archive.account.meaning m.group) c.args.rack.now c.args.members.items _ _ c.requires.groups c.in-Ok-start.ensures.first c.in-Ok-start.ensures.ready.0.of c.in-Ok-start.ensures.count;
      are_records = ap (λ vs. records_in (slice_index_or vs 0 spent_view).origin) c.in-Ok-start.ensures.index ∙ ap (λ (i : IndexView). i.read) c.in-Ok.ensures.started;
    }

pub end_groups-requires-in-Err-start-clause-tables : goal.end_groups-requires-in-Err-start-clause-tables
end_groups-requires-in-Err-start-clause-tables g c = (let n = ap length c.in-Err-start.ensures.refused.1 in let h = c.requires.tables in omega (arith, n, h))

pub end_groups-requires-in-Err-start-clause-logs : goal.end_groups-requires-in-Err-start-clause-logs
end_groups-requires-in-Err-start-clause-logs g c = (let n = ap length c.in-Err-start.ensures.refused.1 in let h = c.requires.logs in omega (arith, n, h))

pub end_groups-requires-in-Err-start-clause-hand : goal.end_groups-requires-in-Err-start-clause-hand
end_groups-requires-in-Err-start-clause-hand g c =
    let n = ap (λ ms. length (flat_map (λ m. had_by (view_of g.A.Archive.account.meaning m.group)) ms)) c.in-Err-start.ensures.refused.1 in let h = c.requires.hand in omega (arith, n, h)

pub returns-in-Err-start-clause-refused : goal.returns-in-Err-start-clause-refused
returns-in-Err-start-clause-refused g c =
    c.end_groups-in-Err-start.ensures.hand
    ∙ ap (λ ms. numbers_of c.args.remains.now.hand.items ++ flat_map (λ m. had_by (view_of g.A.Archive.account.meaning m.group)) ms) c.in-Err-start.ensures.refused.1

pub returns-in-Err-start-clause-back : goal.returns-in-Err-start-clause-back
returns-in-Err-start-clause-back g c = c.end_groups-in-Err-start.ensures.shelves ∙ ap (λ ms. c.args.remains.now.hand.items ++ flat_map (λ m. m.group.shelves.shelves) ms) c.in-Err-start.ensures.refused.1

pub returns-in-Ok-start-clause-taken : goal.returns-in-Ok-start-clause-taken
returns-in-Ok-start-clause-taken g c meant marked =
    taken_at (λ m. view_of g.A.Archive.account.meaning m.group) c.args.members.items _ _ meant c.in-Ok-start.ensures.first c.in-Ok-start.ensures.ready.0.of (c.in-Ok-start.ensures.count ∙ sym c.requires.groups.count) marked
