use Rattle.std.proofs.Common.{◌∙◌, ap, sym}
use Rattle.std.specs.Prelude.{Some}
use Rattle.pot_turn.specs.Passes.{view, turn_of, name_of}
use Rattle.pot_turn.specs.Views.{cut_view}
use Rattle.pot_rows.proofs.RowLemmas.{one_name, named_at, row_long, row_at, row_set}
use Rattle.pot_rows.proofs.Turns.split_at.Goals as goal

pub split-requires-clause-own : goal.split-requires-clause-own
split-requires-clause-own g c =
    one_name turn_of name_of c.passes.inside.passes.items c.self.inside.turns.items _ _ c.args.at c.index_mut-pass.result.now c.index-turn.result.now
    (ap (λ r. r.names) c.passes.view_is) (ap (λ r. r.names) c.self.view_is) c.requires.own.0 c.requires.within c.index_mut-pass.ensures.value c.index-turn.ensures

pub returns-clause-left : goal.returns-clause-left
returns-clause-left g c =
    let ps = c.passes.inside.passes.items in
    let long = row_long turn_of view ps c.args.passes.now _ c.args.at c.passes.view_is c.requires.own.0 c.requires.within in
    let was = row_at turn_of view ps c.args.passes.now c.args.at c.index_mut-pass.result.now c.passes.view_is long c.index_mut-pass.ensures.value in
    row_set turn_of view ps c.args.passes.now c.args.at c.index_mut-pass.result.now c.split.new.pass _ c.passes.view_is long c.index_mut-pass.ensures.value c.split.ensures.same
    (c.split.ensures.left ∙ ap (cut_view c.args.parts) was)

pub returns-clause-own : goal.returns-clause-own
returns-clause-own g c =
    ap Some c.in-Ok.ensures.own
    ∙ sym (named_at turn_of c.passes.inside.passes.items c.args.self.now.names c.args.at c.index_mut-pass.result.now
    (ap (λ r. r.names) c.passes.view_is ∙ c.requires.own.0) c.requires.within c.index_mut-pass.ensures.value)
