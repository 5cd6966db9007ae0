use Rattle.std.proofs.Common.{subst}
use Rattle.std.specs.Prelude.{MatchOption}
use Rattle.pot_index.specs.Index.{IndexView, IsReservedBy}
use Rattle.pot_index.proofs.IndexLemmas.{ended_tells}
use Rattle.pot_index.proofs.index.Index.ended_at.Goals as goal

pub returns-clause-held : goal.returns-clause-held
returns-clause-held c =
    subst (λ (v : IndexView). MatchOption c.ended_at.result (IsReservedBy v.now c.args.job c.args.name.now) (λ _. IsReservedBy v.now c.args.job c.args.name.now → ⊥)) c.self.view_is
    (ended_tells c.self.inside.lists c.args.job c.args.name.now c.ended_at.result c.self.invariant c.ended_at.ensures)
