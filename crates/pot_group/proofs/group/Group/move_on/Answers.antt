use Rattle.std.proofs.Common.{◌≡◌, ◌≤◌, ◌<◌, IsTrue, false, subst, ap, ◌∙◌}
use Rattle.pot_machine.specs.declared.slot.SlotState.{SlotState}
use Rattle.pot_machine.specs.Slot.{is_live}
use Rattle.pot_machine.specs.Table.{slot_at}
use Rattle.pot_shelves.specs.Shelves.{plain}
use Rattle.pot_group.specs.Group.{GroupParts}
use Rattle.pot_group.proofs.AdvanceSteps.{dead_unsound}
use Rattle.pot_group.proofs.Stepping.{dead_slot, ended_steps, passed_steps}
use Rattle.pot_group.proofs.group.Group.move_on.Goals as goal

pub returns-then-moving-stripes : goal.returns-then-moving-stripes
returns-then-moving-stripes g c = ended_steps (IsTrue g.A.Archive.account.tells) g.A.Archive.account.meaning c.args.self.now c.args.job c.args.column c.args.moving c.logged-settled.ensures.settled c.requires.room c.requires.column c.requires.moves c.end_move.new.self
    (subst (λ (w : GroupParts _). w.table.stripes ≤ c.args.moving.upto) c.self.view_is (subst (λ n. n ≤ c.args.moving.upto) c.stripes.ensures.value c.if-moving-stripes.true)) c.end_move.ensures

pub returns-in_default : goal.returns-in_default
returns-in_default g c =
    let same : c.slot.result ≡ slot_at c.args.self.now.table c.args.moving.upto c.args.column = c.slot.ensures ∙ ap (λ (w : GroupParts _). slot_at w.table c.args.moving.upto c.args.column) c.self.view_is in
    passed_steps (IsTrue g.A.Archive.account.tells) g.A.Archive.account.meaning c.args.self.now c.args.job c.args.column c.args.moving c.logged-settled.ensures.settled c.requires.room c.requires.column c.requires.moves c.pass_slot.new.self
    (subst (λ (w : GroupParts _). c.args.moving.upto < w.table.stripes) c.self.view_is (subst (λ n. c.args.moving.upto < n) c.stripes.ensures.value c.if-moving-stripes.false))
    (λ t. dead_unsound (plain g.A.Archive.account.meaning c.args.self.now.shelves).held c.args.self.now.table c.args.moving.upto c.args.column
    (subst (λ (x : SlotState). is_live x ≡ false) same (dead_slot c.slot.result c.in_default.not-Live))) c.pass_slot.ensures
