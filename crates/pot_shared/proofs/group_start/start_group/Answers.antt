use Rattle.std.proofs.Common.{◌≡◌, ◌++◌, ⊎_elim, take, drop, length, sym, ap, subst, ◌∙◌, IsTrue, arith}
use Rattle.std.proofs.lemmas.List.{take-map}
use Rattle.std.specs.Prelude.{Contains}
use Rattle.pot_outside.specs.declared.archive.Shelf.{Shelf}
use Rattle.pot_machine.specs.Table.{archives_in}
use Rattle.pot_machine.specs.Rules.{IsTable}
use Rattle.pot_shelves.specs.Shelves.{numbers_of}
use Rattle.pot_shared.specs.Hands.{AreApart, AreSame}
use Rattle.pot_shared.proofs.GroupLemmas.{opened_of, started_of, marked_of, same_parts, long_parts}
use Rattle.std.proofs.lemmas.List.Elements.{Contains-append_cases}
use Rattle.pot_shared.proofs.Lists.{drop_contains, take_contains}
use Rattle.pot_shared.proofs.LostLemmas.{apart_take, lost_of}
use Rattle.pot_shared.proofs.group_start.start_group.Goals as goal

pub start-requires-clause-shelves : goal.start-requires-clause-shelves
start-requires-clause-shelves g c =
    ap numbers_of c.in_ok-shelves.ensures.front ∙ (sym (take-map (λ (s : Shelf _). s.number) (length (archives_in c.args.table)) c.args.hand.now.items) ∙ c.requires.hand)

pub returns-in-Ok-clause-started : goal.returns-in-Ok-clause-started
returns-in-Ok-clause-started g c =
    started_of (IsTrue g.A.Archive.account.tells) g.A.Archive.account.meaning c.args.number c.args.table c.in_ok-shelves.shelves.items c.in-Ok.group c.in-Ok.ensures.begins
    (ap numbers_of c.in_ok-shelves.ensures.front ∙ (sym (take-map (λ (s : Shelf _). s.number) (length (archives_in c.args.table)) c.args.hand.now.items) ∙ c.requires.hand))
    c.logged-rules.ensures.arrived

pub returns-in-Ok-clause-marked : goal.returns-in-Ok-clause-marked
returns-in-Ok-clause-marked g c meant told are =
    marked_of (IsTrue g.A.Archive.account.tells) g.A.Archive.account.meaning meant c.args.number c.args.table c.in_ok-shelves.shelves.items c.in-Ok.group told c.in-Ok.ensures.begins
    (ap numbers_of c.in_ok-shelves.ensures.front ∙ (sym (take-map (λ (s : Shelf _). s.number) (length (archives_in c.args.table)) c.args.hand.now.items) ∙ c.requires.hand))
    (λ s has. are s (take_contains c.args.hand.now.items (length (archives_in c.args.table)) s (subst (λ ss. Contains ss s) c.in_ok-shelves.ensures.front has)))

pub returns-in-Ok-clause-opened : goal.returns-in-Ok-clause-opened
returns-in-Ok-clause-opened g c meant told are =
    opened_of (IsTrue g.A.Archive.account.tells) g.A.Archive.account.meaning meant c.args.number c.args.table c.in_ok-shelves.shelves.items c.in-Ok.group told c.in-Ok.ensures.begins
    (ap numbers_of c.in_ok-shelves.ensures.front ∙ (sym (take-map (λ (s : Shelf _). s.number) (length (archives_in c.args.table)) c.args.hand.now.items) ∙ c.requires.hand))
    (λ s has. are s (take_contains c.args.hand.now.items (length (archives_in c.args.table)) s (subst (λ ss. Contains ss s) c.in_ok-shelves.ensures.front has)))
    (subst (λ t. IsTable t) c.in-Ok.ensures.begins.first c.logged-rules.ensures.first)

pub put_back-requires : goal.put_back-requires
put_back-requires g c =
    let a = ap length c.in_ok-shelves.ensures.rest in let b = ap length c.in_ok-shelves.ensures.front in
    let r = ap (λ (v : _). length v.items) c.in-Err.ensures.refused.1 in
    let p = long_parts c.args.hand.now.items (length (archives_in c.args.table)) in
    omega (arith, a, b, r, p, c.requires.space, c.take_shelves.ensures.space)

pub returns-in-Err-clause-refused : goal.returns-in-Err-clause-refused
returns-in-Err-clause-refused g c =
    let all : c.put_back.new.into.items ≡ drop (length (archives_in c.args.table)) c.args.hand.now.items ++ take (length (archives_in c.args.table)) c.args.hand.now.items =
    c.put_back.ensures.items ∙ (ap (λ l. l ++ c.in-Err.refused.shelves.items) c.in_ok-shelves.ensures.rest
    ∙ ap (λ l. drop (length (archives_in c.args.table)) c.args.hand.now.items ++ l) (ap (λ (v : _). v.items) c.in-Err.ensures.refused.1 ∙ c.in_ok-shelves.ensures.front)) in
    subst (λ ss. AreSame (numbers_of ss) (numbers_of c.args.hand.now.items)) (sym all) (same_parts c.args.hand.now.items (length (archives_in c.args.table)))

pub returns-in-Ok-clause-lost : goal.returns-in-Ok-clause-lost
returns-in-Ok-clause-lost g c meant told apart are =
    lost_of (IsTrue g.A.Archive.account.tells) g.A.Archive.account.meaning meant c.args.number c.args.table c.in_ok-shelves.shelves.items c.in-Ok.group told c.in-Ok.ensures.begins
    (subst (λ ss. AreApart (numbers_of ss)) (sym c.in_ok-shelves.ensures.front) (apart_take c.args.hand.now.items (length (archives_in c.args.table)) apart))
    (λ s has. are s (take_contains c.args.hand.now.items (length (archives_in c.args.table)) s (subst (λ ss. Contains ss s) c.in_ok-shelves.ensures.front has)))

pub returns-in-Err-clause-back : goal.returns-in-Err-clause-back
returns-in-Err-clause-back g c s has =
    let all : c.put_back.new.into.items ≡ drop (length (archives_in c.args.table)) c.args.hand.now.items ++ take (length (archives_in c.args.table)) c.args.hand.now.items =
    c.put_back.ensures.items ∙ (ap (λ l. l ++ c.in-Err.refused.shelves.items) c.in_ok-shelves.ensures.rest
    ∙ ap (λ l. drop (length (archives_in c.args.table)) c.args.hand.now.items ++ l) (ap (λ (v : _). v.items) c.in-Err.ensures.refused.1 ∙ c.in_ok-shelves.ensures.front)) in
    ⊎_elim
    (λ (h : Contains (drop (length (archives_in c.args.table)) c.args.hand.now.items) s). drop_contains c.args.hand.now.items (length (archives_in c.args.table)) s h)
    (λ (h : Contains (take (length (archives_in c.args.table)) c.args.hand.now.items) s). take_contains c.args.hand.now.items (length (archives_in c.args.table)) s h)
    (Contains-append_cases (drop (length (archives_in c.args.table)) c.args.hand.now.items) (take (length (archives_in c.args.table)) c.args.hand.now.items) s (subst (λ ss. Contains ss s) all has))
