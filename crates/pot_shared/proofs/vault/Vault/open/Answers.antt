use Rattle.std.proofs.Common.{◌++◌, length, refl, sym, ap, subst, ◌∙◌, arith}
use Rattle.std.specs.Prelude.{IfOk, flat_map}
use Rattle.std.proofs.lemmas.List.{length-map}
use Rattle.pot_outside.specs.declared.archive.Shelf.{Shelf}
use Rattle.pot_group.specs.Group.{view_of}
use Rattle.pot_shelves.specs.Shelves.{numbers_of}
use Rattle.pot_shared.specs.Groups.{had_by}
use Rattle.pot_shared.specs.Opening.{IsOpenedFrom}
use Rattle.pot_shared.specs.Remains.{IsBare, KeepsSpace}
use Rattle.pot_shared.specs.Hands.{times, AreApart, AreMeantButLost}
use Rattle.pot_shared.proofs.GroupLemmas.{had_all}
use Rattle.pot_shared.proofs.OpenLemmas.{of_rack, firsts}
use Rattle.pot_shared.proofs.Results.{on_err, on_ok}
use Rattle.pot_shared.proofs.vault.Vault.open.Goals as goal

pub share-requires-clause-groups : goal.share-requires-clause-groups
share-requires-clause-groups g c =
    of_rack (λ m. view_of g.A.Archive.account.meaning m.group) c.args.rack.now c.args.tables.items c.start_groups.new.members.items c.in-Ok-start_groups.ensures.started c.requires.tables c.requires.count

pub share-requires-clause-tables : goal.share-requires-clause-tables
share-requires-clause-tables g c =
    let n = c.in-Ok-start_groups.ensures.started.count in let e = ap length c.requires.fresh.tables in let s = c.requires.space.tables in omega (arith, n, e, s)

pub share-requires-clause-logs : goal.share-requires-clause-logs
share-requires-clause-logs g c =
    let n = c.in-Ok-start_groups.ensures.started.count in let e = ap length c.requires.fresh.logs in let s = c.requires.space.logs in omega (arith, n, e, s)

pub share-requires-clause-hand : goal.share-requires-clause-hand
share-requires-clause-hand g c =
    let n = ap length (had_all (λ m. view_of g.A.Archive.account.meaning m.group) c.args.tables.items c.start_groups.new.members.items c.in-Ok-start_groups.ensures.started) in
    let h = ap length c.requires.hand in let m = length-map c.args.remains.now.hand.items (λ (s : Shelf _). s.number) in
    let e = ap length c.in-Ok-start_groups.ensures.empty in let s = c.requires.space.hand in let k = c.start_groups.ensures.space in omega (arith, n, h, m, e, s, k)

pub returns-in-Ok-start_groups-clause-opened : goal.returns-in-Ok-start_groups-clause-opened
returns-in-Ok-start_groups-clause-opened g c =
    subst (λ ts. IfOk c.share.result (λ p. IsOpenedFrom c.args.rack.now ts c.args.records.items p.0 p.1))
    (firsts (λ m. view_of g.A.Archive.account.meaning m.group) c.args.tables.items c.start_groups.new.members.items c.in-Ok-start_groups.ensures.started) c.share.ensures.opened

pub returns-in-Ok-start_groups-clause-bare : goal.returns-in-Ok-start_groups-clause-bare
returns-in-Ok-start_groups-clause-bare g c = on_ok c.share.result c.share.ensures.same (λ e. subst IsBare (sym e) (record {
  fresh = record { tables = c.requires.fresh.tables; logs = c.requires.fresh.logs; records = c.requires.fresh.records; index_log = c.requires.fresh.index_log };
  hand = c.in-Ok-start_groups.ensures.empty;
}))

pub returns-in-Ok-start_groups-clause-space : goal.returns-in-Ok-start_groups-clause-space
returns-in-Ok-start_groups-clause-space g c = on_ok c.share.result c.share.ensures.same (λ e. subst (KeepsSpace c.args.remains.now) (sym e) (record { tables = refl; logs = refl; hand = c.start_groups.ensures.space }))

pub returns-in-Ok-start_groups-clause-refused : goal.returns-in-Ok-start_groups-clause-refused
returns-in-Ok-start_groups-clause-refused g c =
    on_err c.share.result c.share.ensures.refused (λ e n. ap (times n) e ∙ (
    let had = had_all (λ m. view_of g.A.Archive.account.meaning m.group) c.args.tables.items c.start_groups.new.members.items c.in-Ok-start_groups.ensures.started in
    ap (λ l. times n (numbers_of l ++ flat_map (λ m. had_by (view_of g.A.Archive.account.meaning m.group)) c.start_groups.new.members.items)) c.in-Ok-start_groups.ensures.empty ∙ ap (times n) had))

pub returns-in-Ok-start_groups-clause-taken : goal.returns-in-Ok-start_groups-clause-taken
returns-in-Ok-start_groups-clause-taken g c meant told are = c.share.ensures.taken meant (c.in-Ok-start_groups.ensures.marked meant told are)

pub returns-in-Ok-start_groups-clause-lost : goal.returns-in-Ok-start_groups-clause-lost
returns-in-Ok-start_groups-clause-lost g c meant told apart are =
    on_err c.share.result c.share.ensures.back (λ e. subst (λ ss. AreMeantButLost g.A.Archive.account.meaning meant ss) (sym e) (c.start_groups.ensures.lost meant told (subst AreApart (sym c.requires.hand) apart) are))

pub returns-in-Err-clause-lost : goal.returns-in-Err-clause-lost
returns-in-Err-clause-lost g c meant told apart are =
    subst (λ ss. AreMeantButLost g.A.Archive.account.meaning meant ss) (sym c.end_groups.ensures.shelves) (c.start_groups.ensures.lost meant told (subst AreApart (sym c.requires.hand) apart) are)
