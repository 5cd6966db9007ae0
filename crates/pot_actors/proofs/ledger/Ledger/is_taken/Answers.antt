use Rattle.std.proofs.Common.{◌≡◌, Bool, true, false, ◌||◌, ap, ◌∙◌, sym}
use Rattle.std.specs.Prelude.{find, is_some}
use Rattle.pot_index.specs.declared.record.Record.{Record}
use Rattle.pot_index.specs.Index.{same_name}
use Rattle.pot_world.specs.World.{is_reserved}
use Rattle.pot_actors.specs.Ledgers.{names_of}
use Rattle.pot_actors.proofs.NameLemmas.{finds_alike}
use Rattle.pot_actors.proofs.ledger.Ledger.is_taken.Goals as goal

pub returns-then-is_some : goal.returns-then-is_some
returns-then-is_some c =
    let rs = c.args.self.now.records.items in
    let p : Record → Bool = λ r. same_name r.name c.args.name.now in
    let e : is_some (find p rs) ≡ true = finds_alike p rs ∙ ap is_some (sym c.record_at.ensures) ∙ sym c.is_some.ensures ∙ c.if-is_some.true in
    c.if-is_some.true ∙ sym (ap (λ b. b || is_reserved (names_of c.args.self.now) c.args.name.now) e)

pub returns-else-is_some : goal.returns-else-is_some
returns-else-is_some c =
    let rs = c.args.self.now.records.items in
    let p : Record → Bool = λ r. same_name r.name c.args.name.now in
    let e : is_some (find p rs) ≡ false = finds_alike p rs ∙ ap is_some (sym c.record_at.ensures) ∙ sym c.is_some.ensures ∙ c.if-is_some.false in
    c.is_reserved.ensures ∙ sym (ap (λ b. b || is_reserved (names_of c.args.self.now) c.args.name.now) e)
