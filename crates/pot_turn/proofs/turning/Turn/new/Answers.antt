use Rattle.std.proofs.Common.{◌∙◌, ap, sym, length, Some, [], ◌∷◌, ◌++◌}
use Rattle.pot_turn.proofs.Closes.{opens}
use Rattle.pot_turn.proofs.turning.Turn.new.Goals as goal

pub new-requires : goal.new-requires
new-requires g c =
    let same = sym c.of-opened.ensures in
    let items = c.in_default.ensures.items ∙ (ap (λ l. l ++ Some c.args.value ∷ []) c.new-slots.ensures.items ∙ ap (λ x. Some x ∷ []) same) in
    opens g.T.Kept.log g.T.Kept.origin c.of-opened.result.value c.length-count.result (c.length-count.ensures ∙ ap (λ x. length (g.T.Kept.log x)) same) c.push.new.self.items items
