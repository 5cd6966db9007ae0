use Rattle.pot_image.specs.Reading.{reading}
use Rattle.std.proofs.Common.{ap, sym, ◌∙◌, ◌++◌, [], ◌∷◌, ◌≡◌, ℕ, List, Result, Ok, Err}
use Rattle.pot_image.proofs.Steps.{fails_then, fails_on, exits, gives_as, gives_on, chosen, not_chosen}
use Rattle.std.proofs.Common.{IfOk}
use Rattle.pot_machine.specs.declared.column.Column.{Column}
use Rattle.pot_image.specs.declared.fault.Fault.{Fault}
use Rattle.pot_machine.specs.Column.{homes_of}
use Rattle.pot_image.specs.Tables.{column, moving}
use Rattle.pot_image.proofs.columns.read_column.Goals as goal

pub returns-in_err-home-clause-reads : goal.returns-in_err-home-clause-reads
unfolding column
returns-in_err-home-clause-reads c = exits _ _ _ _ c.from_residual.ensures.1 (fails_then _ _ _ _ c.in_err-home.ensures.reads)

pub returns-in_err-moves-clause-reads : goal.returns-in_err-moves-clause-reads
unfolding column
returns-in_err-moves-clause-reads c = exits _ _ _ _ c.from_residual-in_err-moves.ensures.1 (fails_on _ _ _ _ _ _ c.in_ok-home.ensures.reads (fails_then _ _ _ _ c.in_err-moves.ensures))

pub returns-in_err-padding-clause-reads : goal.returns-in_err-padding-clause-reads
unfolding column
returns-in_err-padding-clause-reads c = exits _ _ _ _ c.from_residual-in_err-padding.ensures.1 (fails_on _ _ _ _ _ _ c.in_ok-home.ensures.reads (fails_on _ _ _ _ _ _ c.in_ok-moves.ensures (fails_then _ _ _ _ c.in_err-padding.ensures)))

pub returns-then-moves-clause-reads : goal.returns-then-moves-clause-reads
unfolding column
returns-then-moves-clause-reads c = gives_on _ _ _ _ _ _ _ c.in_ok-home.ensures.reads (gives_on _ _ _ _ _ _ _ c.in_ok-moves.ensures (gives_on _ _ _ _ _ _ _ c.in_ok-padding.ensures (
    gives_as _ _ _ _ (ap (λ xs. reading (moving c.args.stripes xs c.in_ok-home.home) c.in_ok-padding.padding.now) c.in_ok-home.ensures.taken ∙ chosen _ _ _ _ c.if-moves.true) c.read_moving.ensures.reads)))

pub returns-else-moves-clause-reads : goal.returns-else-moves-clause-reads
unfolding column
returns-else-moves-clause-reads c = gives_on _ _ _ _ _ _ _ c.in_ok-home.ensures.reads (gives_on _ _ _ _ _ _ _ c.in_ok-moves.ensures (gives_on _ _ _ _ _ _ _ c.in_ok-padding.ensures (
    gives_as _ _ _ _ (not_chosen _ _ _ _ c.if-moves.false) c.read_resting.ensures.reads)))

resting_taken : {Y : Type 0} (r : Result (Column × Y) Fault) (new taken : List ℕ) (home : ℕ) → new ≡ taken ++ home ∷ [] → IfOk r (λ x. homes_of x.0 ≡ home ∷ []) → IfOk r (λ x. new ≡ taken ++ homes_of x.0)
resting_taken (Ok x) new taken home e h = e ∙ ap (λ xs. taken ++ xs) (sym h)
resting_taken (Err f) new taken home e h = tt

pub returns-else-moves-clause-taken : goal.returns-else-moves-clause-taken
returns-else-moves-clause-taken c = resting_taken _ _ _ _ c.in_ok-home.ensures.taken c.read_resting.ensures.numbers
