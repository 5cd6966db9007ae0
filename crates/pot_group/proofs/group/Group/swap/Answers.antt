use Rattle.std.proofs.Common.{◌≡◌, ◌<◌, IsTrue, true, false, length, refl, subst, sym, ap, ◌∙◌, rules}
use Rattle.std.specs.Prelude.{Contains}
use Rattle.pot_shelves.specs.Shelves.{numbers_of}
use Rattle.pot_machine.specs.declared.entry.Entry.TheVariants.{Swapped}
use Rattle.pot_group.specs.Group.{GroupParts, view_of, with_archives}
use Rattle.pot_group.specs.Moving.{live_in}
use Rattle.pot_group.proofs.MovingCalls.{swap_legal, swapped_comes}
use Rattle.pot_group.proofs.Rows.{comes_made}
use Rattle.pot_group.proofs.group.Group.swap.Goals as goal

apart : true ≡ false → ⊥
apart e = cc

pub swap_to-requires-clause-fresh : goal.swap_to-requires-clause-fresh
swap_to-requires-clause-fresh g c =
    λ h. apart (sym (c.has.ensures.1 (subst (λ (w : GroupParts _). Contains (numbers_of w.shelves.shelves) c.args.shelf.number) (sym c.self.view_is) h)) ∙ c.if-has.false)

pub swap_to-requires-clause-legal : goal.swap_to-requires-clause-legal
swap_to-requires-clause-legal g c =
    let fresh : Contains (numbers_of c.args.self.now.shelves.shelves) c.args.shelf.number → ⊥ =
    λ h. apart (sym (c.has.ensures.1 (subst (λ (w : GroupParts _). Contains (numbers_of w.shelves.shelves) c.args.shelf.number) (sym c.self.view_is) h)) ∙ c.if-has.false) in
    swap_legal (IsTrue g.A.Archive.account.tells) g.A.Archive.account.meaning c.args.self.now c.args.self.now c.args.job c.args.column c.args.shelf.number c.logged-settled.ensures.settled c.requires.column fresh refl

pub returns : goal.returns
returns g c =
    let told = IsTrue g.A.Archive.account.tells in
    let fresh : Contains (numbers_of c.args.self.now.shelves.shelves) c.args.shelf.number → ⊥ =
    λ h. apart (sym (c.has.ensures.1 (subst (λ (w : GroupParts _). Contains (numbers_of w.shelves.shelves) c.args.shelf.number) (sym c.self.view_is) h)) ∙ c.if-has.false) in
    let room : length c.args.self.now.log < 262144 = search rules in
    let made = comes_made g.A.Archive.account.meaning told c.args.shelf (view_of g.A.Archive.account.meaning c.args.self.now) (view_of g.A.Archive.account.meaning c.swap_to.new.self) (Swapped c.args.job c.args.column c.args.shelf.number)
    (swapped_comes told g.A.Archive.account.meaning c.args.self.now (with_archives c.args.self.now c.swap_to.new.self.shelves) c.swap_to.new.self c.args.shelf c.logged-settled.ensures.settled room fresh
    refl c.in_default.ensures.came.1 c.args.job c.args.column c.requires.column c.in_default.ensures.came.0) in
    record { swaps = (made.0, made.1, (made.2, c.live_in-live.ensures ∙ ap (λ (w : GroupParts _). live_in w.table c.args.column) c.self.view_is)) }
