use Rattle.std.proofs.Common.{◌∙◌, ap, sym, subst, arith}
use Rattle.std.specs.Prelude.{Any, MatchOption}
use Rattle.pot_index.specs.Ending.{IsNameHeld, EndsAt}
use Rattle.pot_index.specs.Entries.{IsReserving, entries}
use Rattle.pot_index.specs.Index.{IndexView}
use Rattle.pot_index.proofs.ListLemmas.{log_is, entries-with_brought}
use Rattle.pot_index.proofs.lists.Lists.ended_at.Goals as goal

pub end_of-requires-clause-few : goal.end_of-requires-clause-few
end_of-requires-clause-few c = omega (arith, c.self.inside.log.ok, c.deref.ensures.len, log_is c.args.self.now _ _ _ _ _ _ c.self.view_is)

pub end_of-requires-clause-made : goal.end_of-requires-clause-made
end_of-requires-clause-made c =
    subst (Any (IsReserving c.args.job c.args.name.now)) (sym (c.deref.ensures.value ∙ sym (entries-with_brought c.self.inside.log.items _) ∙ ap (λ (v : IndexView). entries v.log) c.self.view_is)) c.requires.made

pub returns : goal.returns
returns c =
    subst (λ es. MatchOption c.end_of.result (IsNameHeld c.args.job c.args.name.now es) (EndsAt c.args.job c.args.name.now es))
    (c.deref.ensures.value ∙ sym (entries-with_brought c.self.inside.log.items _) ∙ ap (λ (v : IndexView). entries v.log) c.self.view_is) c.end_of.ensures
