use Rattle.std.proofs.Common.{ap, refl, subst}
use Rattle.pot_turn.specs.Passes.{view, turn_of, name_of}
use Rattle.pot_rows.specs.Rows.{view_at}
use Rattle.pot_rows.specs.Ties.{Tied}
use Rattle.pot_rows.proofs.RowLemmas.{one_name, row_long, row_at, row_set}
use Rattle.pot_rows.proofs.Turns.tie_at.Goals as goal

pub tie_one-requires-clause-own : goal.tie_one-requires-clause-own
tie_one-requires-clause-own g c = (
  one_name turn_of name_of c.mine.inside.passes.items c.self.inside.turns.items _ _ c.args.at c.index_mut-one.result.now c.index-turn.result.now
      (ap (λ r. r.names) c.mine.view_is) (ap (λ r. r.names) c.self.view_is) c.requires.own.0.0 c.requires.within c.index_mut-one.ensures.value c.index-turn.ensures,
  one_name turn_of name_of c.others.inside.passes.items c.self.inside.turns.items _ _ c.args.at c.index_mut-other.result.now c.index-turn.result.now
      (ap (λ r. r.names) c.others.view_is) (ap (λ r. r.names) c.self.view_is) c.requires.own.1.0 c.requires.within c.index_mut-other.ensures.value c.index-turn.ensures,
)

pub returns : goal.returns
returns g c =
    let ps = c.mine.inside.passes.items in
    let ks = c.others.inside.passes.items in
    let plong = row_long turn_of view ps c.args.mine.now _ c.args.at c.mine.view_is c.requires.own.0.0 c.requires.within in
    let klong = row_long turn_of view ks c.args.others.now _ c.args.at c.others.view_is c.requires.own.1.0 c.requires.within in
    let pwas = row_at turn_of view ps c.args.mine.now c.args.at c.index_mut-one.result.now c.mine.view_is plong c.index_mut-one.ensures.value in
    let kwas = row_at turn_of view ks c.args.others.now c.args.at c.index_mut-other.result.now c.others.view_is klong c.index_mut-other.ensures.value in
    let one = view c.tie_one.new.mine in
    let other = view c.tie_one.new.other in
    record {
      one = one;
      other = other;
      tied = subst (λ v. Tied v (view_at c.args.others.now c.args.at) one other) pwas (subst (λ w. Tied (view c.index_mut-one.result.now) w one other) kwas c.tie_one.ensures.tied);
      is_mine = row_set turn_of view ps c.args.mine.now c.args.at c.index_mut-one.result.now c.tie_one.new.mine one c.mine.view_is plong c.index_mut-one.ensures.value c.tie_one.ensures.same.0 refl;
      is_other = row_set turn_of view ks c.args.others.now c.args.at c.index_mut-other.result.now c.tie_one.new.other other c.others.view_is klong c.index_mut-other.ensures.value c.tie_one.ensures.same.1 refl;
    }
