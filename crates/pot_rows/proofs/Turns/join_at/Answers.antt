use Rattle.std.proofs.Common.{refl, subst}
use Rattle.pot_turn.specs.Passes.{view, turn_of}
use Rattle.pot_rows.specs.Parts.{Joined}
use Rattle.pot_rows.proofs.RowLemmas.{row_long, row_at, row_set}
use Rattle.pot_rows.proofs.Turns.join_at.Goals as goal

pub returns : goal.returns
returns g c =
    let ps = c.passes.inside.passes.items in
    let long = row_long turn_of view ps c.args.passes.now _ c.args.at c.passes.view_is c.requires.own.0 c.requires.within in
    let was = row_at turn_of view ps c.args.passes.now c.args.at c.index_mut-pass.result.now c.passes.view_is long c.index_mut-pass.ensures.value in
    let one = view c.join.new.pass in
    let is = c.join.ensures in
    record {
      one = one;
      joined = subst (λ v. Joined v (view c.args.part) one) was
          (record { both = is.both; begins = is.begins; its_begins = is.its_begins; opened = is.alike.0; origin = is.alike.1; apart = is.apart });
      is = row_set turn_of view ps c.args.passes.now c.args.at c.index_mut-pass.result.now c.join.new.pass one c.passes.view_is long c.index_mut-pass.ensures.value is.same refl;
    }
