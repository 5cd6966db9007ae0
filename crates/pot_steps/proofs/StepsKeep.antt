-- The steps of a group that log one entry keep the law of every stripe and of every flight.
use Rattle.std.proofs.Common.{◌≡◌, inl, inr, ℕ, List, subst, sym, ◌∙◌}
use Rattle.pot_machine.specs.Table.{Table, serving_at}
use Rattle.pot_machine.specs.Machine.{after}
use Rattle.pot_steps.specs.declared.flight.Flight.{Flight}
use Rattle.pot_steps.specs.Holdings.{Holdings}
use Rattle.pot_steps.specs.Entries.{LosesAtLive}
use Rattle.pot_steps.specs.Flights.{Stands, flights_after}
use Rattle.pot_steps.specs.GroupStep.{GroupState, LosesBlocks, FullStep, Settled}
use Rattle.pot_steps.specs.RelaySteps.{LoggedKeeps, Unchanged, BeginStepKeeps, AdvanceStepKeeps, MendStepKeeps, GoesBy, MendAnswer, Begun, NoRoom, Whole, Standing, TwoGone, Crowded, Hopped, Mended, Ended, Odd, Faulted, Idle, LogFull, Began, Extends, NoNeed, Stuck, MendOdd, MendFaulted, MendFull}
use Rattle.pot_steps.specs.MoveSteps.{BringStepKeeps, MoveStepKeeps, Copied, Passed, MoveEnded, MoveFaulted, MoveIdle, MoveFull}
use Rattle.pot_steps.proofs.Acting.{act_keeps, loss_keeps_all}

pub loses_only : (t : Table) (h h' : Holdings) → LosesBlocks h h' → LosesAtLive t h h'
loses_only t h h' l s c b ls lc void e = l (serving_at t s c) s b e

-- the same table and flights
stands_at : (t u : Table) (h h' : Holdings) (fs gs : List Flight) → u ≡ t → gs ≡ fs → LosesBlocks h h' → Stands t h fs → Stands u h' gs
stands_at t u h h' fs gs e f l x = subst (λ u. Stands u h' gs) (sym e) (subst (λ gs. Stands t h' gs) (sym f) (loss_keeps_all t fs h h' (loses_only t h h' l) x))

pub logged_keeps : LoggedKeeps
logged_keeps e given old new step x =
    stands_at (after old.table e) new.table step.now new.held (flights_after old.table e given old.flights) new.flights step.table step.flights step.loses
    (act_keeps old.table e old.flights given step.before step.now step.legal step.acts
    (loss_keeps_all old.table old.flights old.held step.before (loses_only old.table old.held step.before step.lost) x))

unchanged : (old new : GroupState) → Unchanged old new → Settled old → Settled new
unchanged old new step x = stands_at old.table new.table old.held new.held old.flights new.flights step.table step.flights (λ n s b e. sym (step.held n s) ∙ e) x

full : (old new : GroupState) → FullStep old new → Settled old → Settled new
full old new step x = stands_at old.table new.table old.held new.held old.flights new.flights step.table step.logs.flights (λ n s b e. sym (step.held n s) ∙ e) x

pub begin_step_keeps : BeginStepKeeps
begin_step_keeps job s c blind Begun old new step x = logged_keeps _ blind old new step.0 x
begin_step_keeps job s c blind NoRoom old new step x = full old new step x
begin_step_keeps job s c blind Whole old new step x = unchanged old new step.0 x
begin_step_keeps job s c blind (Standing column) old new step x = unchanged old new step.0 x
begin_step_keeps job s c blind (TwoGone first second) old new step x = logged_keeps _ _ old new step.0 x
begin_step_keeps job s c blind Crowded old new step x = unchanged old new step.0 x

pub advance_step_keeps : AdvanceStepKeeps
advance_step_keeps job s Hopped old new step x = logged_keeps _ _ old new step.2 x
advance_step_keeps job s Mended old new step x = logged_keeps _ _ old new step.1 x
advance_step_keeps job s Ended old new step x = logged_keeps _ _ old new step.2 x
advance_step_keeps job s (Odd wanted found) old new step x = logged_keeps _ _ old new step.1 x
advance_step_keeps job s (Faulted column) old new step x = logged_keeps _ _ old new step.0 x
advance_step_keeps job s Idle old new step x = unchanged old new step.0 x
advance_step_keeps job s LogFull old new step x = full old new step x

goes_keeps : (job n s c : ℕ) (answer : MendAnswer) (old new : GroupState) → GoesBy job n s c answer old new → Settled old → Settled new
goes_keeps job n s c Extends old new (inl step) x = advance_step_keeps job n Hopped old new step x
goes_keeps job n s c Extends old new (inr (inl step)) x = advance_step_keeps job n Mended old new step x
goes_keeps job n s c Extends old new (inr (inr (inl step))) x = advance_step_keeps job n Ended old new step x
goes_keeps job n s c Extends old new (inr (inr (inr step))) x = advance_step_keeps job n (Odd step.0 step.1) old new step.2 x
goes_keeps job n s c (MendOdd wanted found) old new step x = advance_step_keeps job n (Odd wanted found) old new step.0 x
goes_keeps job n s c (MendFaulted column) old new step x = advance_step_keeps job n (Faulted column) old new step x
goes_keeps job n s c _ old new step x = absurd step

pub mend_step_keeps : MendStepKeeps
mend_step_keeps job s c blind Began old new step x = begin_step_keeps job s c blind Begun old new step x
mend_step_keeps job s c blind NoNeed old new step x = begin_step_keeps job s c blind Whole old new step x
mend_step_keeps job s c blind (Stuck first second) old new step x = begin_step_keeps job s c blind (TwoGone first second) old new step x
mend_step_keeps job s c blind MendFull old new step x = full old new step x
mend_step_keeps job s c blind Extends old new step x = goes_keeps job step.1.0 s c Extends old new step.1.2 x
mend_step_keeps job s c blind (MendOdd wanted found) old new step x = goes_keeps job step.1.0 s c (MendOdd wanted found) old new step.1.2 x
mend_step_keeps job s c blind (MendFaulted column) old new step x = goes_keeps job step.1.0 s c (MendFaulted column) old new step.1.2 x

pub bring_step_keeps : BringStepKeeps
bring_step_keeps e number held heard old new step x = logged_keeps e _ old new step.logs x

pub move_step_keeps : MoveStepKeeps
move_step_keeps job c Copied old new step x = logged_keeps _ _ old new step.1 x
move_step_keeps job c Passed old new step x = logged_keeps _ _ old new step.1 x
move_step_keeps job c MoveEnded old new step x = logged_keeps _ _ old new step.0 x
move_step_keeps job c MoveFaulted old new step x = logged_keeps _ _ old new step.1 x
move_step_keeps job c MoveIdle old new step x = unchanged old new step.0 x
move_step_keeps job c MoveFull old new step x = full old new step x
