use Rattle.std.proofs.Common.{Bool, Some, ap, sym, ◌∙◌}
use Rattle.pot_index.specs.declared.record.Record.{Record}
use Rattle.pot_index.specs.Index.{same_name}
use Rattle.pot_actors.proofs.NameLemmas.{found_at, not_found}
use Rattle.pot_actors.proofs.ledger.Ledger.find.Goals as goal

pub returns-in_ok-copy-in-Some : goal.returns-in_ok-copy-in-Some
returns-in_ok-copy-in-Some c =
    let p : Record → Bool = λ r. same_name r.name c.args.name.now in
    ap Some (c.in_ok-copy-in-Some.ensures ∙ c.index-record.ensures)
    ∙ sym (found_at p c.args.self.now.records.items c.in-Some.at c.index-record.result.now (sym c.in-Some.ensures)).1

pub returns-in-None : goal.returns-in-None
returns-in-None c =
    let p : Record → Bool = λ r. same_name r.name c.args.name.now in
    sym (not_found p c.args.self.now.records.items (sym c.in-None.ensures))
