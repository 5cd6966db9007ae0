use Rattle.std.proofs.Common.{subst, sym, ap, ◌∙◌}
use Rattle.pot_machine.specs.Table.{holder_of}
use Rattle.pot_machine.specs.Machine.{Replays}
use Rattle.pot_group.specs.Group.{GroupParts, view_of}
use Rattle.pot_group.specs.Uses.{brought_to}
use Rattle.pot_group.proofs.Used.{no_use, retired_first, retired_later, some_none}
use Rattle.pot_group.proofs.group.Group.retired.Goals as goal
use Rattle.pot_group.proofs.group.Group.retired.Goals.{in-Some, in-None}

pub returns-in-Some-had : goal.returns-in-Some-had
returns-in-Some-had g c = (
  ap (λ (w : GroupParts _). w.number) c.self.view_is,
  elim c.match-holder_of.branch [
    | in-Some w ↦ retired_first (view_of g.A.Archive.account.meaning c.args.self.now) c.args.number c.in-Some-had.column c.requires
        (ap (λ (w : GroupParts _). holder_of w.first c.args.number) (sym c.self.view_is) ∙ sym c.holder_of.ensures ∙ w.in-Some.is ∙ sym w.had-is ∙ c.in-Some-had.is)
    | in-None w ↦ retired_later (view_of g.A.Archive.account.meaning c.args.self.now) c.args.number c.in-Some-had.column
        (subst (λ (w : GroupParts _). Replays w.first w.log w.table) c.self.view_is c.self.invariant.0.replay) c.requires
        (ap brought_to (sym w.bringer.ensures) ∙ sym w.brought_to-had.ensures ∙ sym w.had-is ∙ c.in-Some-had.is)
  ],
)

pub returns-in-None-had : goal.returns-in-None-had
returns-in-None-had g c = elim c.match-holder_of.branch [
  | in-Some w ↦ absurd (some_none (sym w.had-is ∙ c.in-None-had.is))
  | in-None w ↦ no_use (view_of g.A.Archive.account.meaning c.args.self.now) c.args.number c.requires
      (ap (λ (w : GroupParts _). holder_of w.first c.args.number) (sym c.self.view_is) ∙ sym c.holder_of.ensures ∙ w.in-None.is)
      (ap brought_to (sym w.bringer.ensures) ∙ sym w.brought_to-had.ensures ∙ sym w.had-is ∙ c.in-None-had.is)
]
