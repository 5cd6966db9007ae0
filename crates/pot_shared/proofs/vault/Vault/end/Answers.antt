use Rattle.std.proofs.Common.{◌++◌, IsTrue, map, length, ap, ◌∙◌, arith}
use Rattle.std.specs.Prelude.{flat_map}
use Rattle.pot_group.specs.Group.{view_of}
use Rattle.pot_shelves.specs.Shelves.{numbers_of}
use Rattle.pot_shared.specs.Hands.{times}
use Rattle.pot_shared.specs.Groups.{had_by}
use Rattle.pot_shared.proofs.LeftLemmas.{few_records, few_entries, closed_few, closed_had, closed_long, closed_groups, closed_opened, closed_leaves, all_few}
use Rattle.pot_shared.proofs.vault.Vault.end.Goals as goal

pub end_groups-requires-clause-tables : goal.end_groups-requires-clause-tables
end_groups-requires-clause-tables g c =
    let n = closed_long (λ m. view_of g.A.Archive.account.meaning m.group) _ _ _ _ c.args.passes.index _ _ c.requires.vault.can_call.ready c.requires.vault.can_call.index_ready c.requires.served.0 c.requires.served.2 c.close-members.ensures in
    let e = ap length c.requires.bare.fresh.tables in let s = c.requires.space.tables in omega (arith, n, e, s)

pub end_groups-requires-clause-logs : goal.end_groups-requires-clause-logs
end_groups-requires-clause-logs g c =
    let n = closed_long (λ m. view_of g.A.Archive.account.meaning m.group) _ _ _ _ c.args.passes.index _ _ c.requires.vault.can_call.ready c.requires.vault.can_call.index_ready c.requires.served.0 c.requires.served.2 c.close-members.ensures in
    let e = ap length c.requires.bare.fresh.logs in let s = c.requires.space.logs in omega (arith, n, e, s)

pub end_groups-requires-clause-hand : goal.end_groups-requires-clause-hand
end_groups-requires-clause-hand g c =
    let n = closed_few (λ m. view_of g.A.Archive.account.meaning m.group) _ _ _ _ c.args.passes.index _ _ c.requires.vault.can_call.ready c.requires.vault.can_call.index_ready c.requires.served.0 c.requires.served.2 c.close-members.ensures c.requires.served.1 c.requires.served.3 c.requires.served.4 c.requires.served.5 in
    let e = ap length c.requires.bare.hand in let s = c.requires.space.hand in omega (arith, n, e, s)

pub returns-clause-hand : goal.returns-clause-hand
returns-clause-hand g c old numbers served have n =
    ap (times n) (c.end_groups.ensures.hand ∙ ap (λ l. numbers_of l ++ flat_map (λ m. had_by (view_of g.A.Archive.account.meaning m.group)) c.close-members.result.members.items) c.requires.bare.hand)
    ∙ closed_had (λ m. view_of g.A.Archive.account.meaning m.group) _ _ _ _ c.args.passes.index _ _ c.requires.vault.can_call.ready c.requires.vault.can_call.index_ready old served c.close-members.ensures numbers have n

pub returns-clause-groups : goal.returns-clause-groups
returns-clause-groups g c old meant from =
    closed_groups (IsTrue g.A.Archive.account.tells) g.A.Archive.account.meaning (λ m. m.group) _ _ _ _ c.args.passes.index _ _ c.requires.vault.can_call.ready c.requires.vault.can_call.index_ready old from.served c.close-members.ensures c.end_groups.ensures.ended meant from.taken from.marked _
    (c.end_groups.ensures.shelves ∙ ap (λ l. l ++ flat_map (λ m. m.group.shelves.shelves) c.close-members.result.members.items) c.requires.bare.hand) _ _
    (c.end_groups.ensures.logs ∙ ap (λ l. map (λ v. v.items) l ++ map (λ m. m.group.log) c.close-members.result.members.items) c.requires.bare.fresh.logs) (c.end_groups.ensures.tables ∙ ap (λ l. l ++ map (λ m. m.group.table) c.close-members.result.members.items) c.requires.bare.fresh.tables)

pub returns-clause-opened : goal.returns-clause-opened
returns-clause-opened g c old meant from told =
    closed_opened (IsTrue g.A.Archive.account.tells) g.A.Archive.account.meaning (λ m. m.group) _ _ _ _ c.args.passes.index _ _ c.requires.vault.can_call.ready c.requires.vault.can_call.index_ready old from.served c.close-members.ensures c.end_groups.ensures.ended meant from.taken from.marked _
    (c.end_groups.ensures.shelves ∙ ap (λ l. l ++ flat_map (λ m. m.group.shelves.shelves) c.close-members.result.members.items) c.requires.bare.hand) told

pub returns-clause-logs : goal.returns-clause-logs
returns-clause-logs g c old served =
    closed_leaves (λ m. view_of g.A.Archive.account.meaning m.group) _ _ _ _ c.args.passes.index _ _ c.requires.vault.can_call.ready c.requires.vault.can_call.index_ready old served c.close-members.ensures _ _ _
    (c.end_groups.ensures.logs ∙ ap (λ l. map (λ v. v.items) l ++ map (λ m. m.group.log) c.close-members.result.members.items) c.requires.bare.fresh.logs) c.end-records.ensures.log c.end-records.ensures.records

pub returns-clause-countable : goal.returns-clause-countable
returns-clause-countable g c = (
  few_records _ _ c.close-members.ensures.is_index c.end-records.ensures.records,
  all_few _ (λ m. view_of g.A.Archive.account.meaning m.group) _ c.end_groups.ensures.ended _ (c.end_groups.ensures.logs ∙ ap (λ l. map (λ v. v.items) l ++ map (λ m. m.group.log) c.close-members.result.members.items) c.requires.bare.fresh.logs),
  few_entries _ _ c.close-members.ensures.is_index c.end-records.ensures.log,
)
