use Rattle.pot_turn.specs.Views.{first_view}
use Rattle.pot_turn.specs.Passes.{view, made_with}
use Rattle.pot_rows.proofs.EndLemmas.{all_made, first_made}
use Rattle.pot_rows.proofs.Turns.start.Goals as goal

pub returns-then-make_turns-clause-first : goal.returns-then-make_turns-clause-first
returns-then-make_turns-clause-first g c =
    let made = c.make_turns.ensures in
    first_made view made_with (λ x. first_view (g.T.Kept.log x) (g.T.Kept.origin x)) c.make_turns.new.passes.items c.make_turns.new.turns.items c.args.values.now.items c.reverse.new.self.items _
    made.first.1 c.reverse.ensures.items made.order (made.all c.if-make_turns.true)

pub returns-then-make_turns-clause-made : goal.returns-then-make_turns-clause-made
returns-then-make_turns-clause-made g c =
    let made = c.make_turns.ensures in
    all_made made_with c.make_turns.new.turns.items c.args.values.now.items c.reverse.new.self.items _ c.reverse.ensures.items made.order (made.all c.if-make_turns.true)
