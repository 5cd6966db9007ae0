use Rattle.std.proofs.Common.{Option, length, subst}
use Rattle.pot_desk_shares.specs.Finding.{IsLatest, IsOfComplete}
use Rattle.pot_desk_shares.specs.declared.share.ShareHead.{ShareHead}
use Rattle.pot_desk_shares.proofs.FindLemmas.{newest_of_latest, none_of_latest}
use Rattle.pot_desk_shares.proofs.GiveLemmas.{gives, only_memory}
use Rattle.pot_desk_shares.proofs.joining.join.Goals as goal

pub join_set-requires-clause-newest : goal.join_set-requires-clause-newest
join_set-requires-clause-newest c =
    let shares = c.args.shares.now in
    (newest_of_latest shares c.in-Some.head
    (subst (λ (o : Option ShareHead). IsLatest shares (IsOfComplete shares) (length shares) o) c.in-Some.is c.in_ok-head.ensures)).1

pub why_not-requires : goal.why_not-requires
why_not-requires c =
    let shares = c.args.shares.now in
    none_of_latest shares
    (subst (λ (o : Option ShareHead). IsLatest shares (IsOfComplete shares) (length shares) o) c.in-None.is c.in_ok-head.ensures)

pub returns-in-Some-clause-gives_back : goal.returns-in-Some-clause-gives_back
returns-in-Some-clause-gives_back c = gives c.args.shares.now c.join_set.result c.join_set.ensures.given c.join_set.ensures.fault

pub returns-in_ok-why_not-in-None-clause-gives_back : goal.returns-in_ok-why_not-in-None-clause-gives_back
returns-in_ok-why_not-in-None-clause-gives_back c t text random stands =
    only_memory c.args.shares.now t text random c.in_ok-why_not-in-None.field-0 stands c.in_ok-why_not-in-None.ensures
