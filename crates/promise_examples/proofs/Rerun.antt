-- Runs over a desk, and a recheck between them.
use Rattle.std.proofs.Common.{◌≡◌, ◌≢◌, ◌⊎◌, inl, inr, ℕ, List, None, true, refl, sym, subst, ◌∙◌}
use Rattle.std.specs.Prelude.{Option}
use Rattle.pot_bytes.specs.declared.rack.Rack.{Rack}
use Rattle.pot_outside.specs.Desks.{image_met}
use Rattle.pot_session.specs.declared.ending.status.Status.{Status}
use Rattle.pot_session.specs.declared.ending.status.Status.TheVariants as status
use Rattle.pot_session.specs.Making.{empty_contents}
use Rattle.pot_promises.specs.Chains.{Same}
use Rattle.pot_promises.specs.Complete.{IsFault, NextIsAnswered, RunsAreAnswered}
use Rattle.pot_promises.specs.Runs.{Bare, CameTo, CarefulKeeps, ClosedAs, DesksStayGood, HasImage, HasLater, IsDone, IsKeptAs, NeverRefused, Next, NoneClosed, Recheck, RechecksBegin, RunsAreSessions, RunsGoLater, RunsMayClose}
use Rattle.pot_promises.specs.Words.{WordsAreAnswered}
use Rattle.promise_examples.specs.Desks.{BeginsAfterRecheck, FailedCloses, GoesOnFromNew, GoodIsWritten, InitIsMade, NeverTurnedAway, NoneIsRefused, NoneIsRefusedNext, NothingIsRefused}

pub never_turned_away : DesksStayGood → NeverRefused → NeverTurnedAway
never_turned_away good law made one a first bare runs told desk answer is rechecks words drawn b second held there runs_b told_b run spells =
    by (good desk.after came)
  where
    came_a : CameTo a.desk.after.held.now
    came_a = Next made one a first (subst CameTo (sym bare) Bare) runs told

    came : CameTo desk.after
    came = Recheck desk answer (subst CameTo (sym is) came_a) rechecks

    by : (desk.after ≡ None) ⊎ ((rack : Rack) × HasLater (empty_contents rack) desk.after) → second ≢ status.ImageRefused
    by (inl none) = absurd (there none)
    by (inr x) = law words drawn b second runs_b told_b x.1.0 (subst (λ (h : Option (List ℕ)). HasImage h x.1.0) (sym held) x.1.1) run spells

pub goes_on_from_new : RunsGoLater → GoesOnFromNew
goes_on_from_new law rack seed careful seen answer rules held holds told =
    law seed careful seen answer holds told (empty_contents rack) (empty_contents rack, (held, rules), Same)

pub begins_after_recheck : RechecksBegin → BeginsAfterRecheck
begins_after_recheck law rack desk answer read rules held rechecks holds =
    law (empty_contents rack) desk answer read (held, rules) rechecks holds

pub good_is_written : RunsAreSessions → GoodIsWritten
good_is_written law seed seen holds told =
    let ran = law seed true seen status.Good holds tt told in (ran, ran.written)

pub failed_closes : RunsMayClose → CarefulKeeps → FailedCloses
failed_closes may keeps seed seen holds told closes =
    (closed (may seed true seen status.SinkFault holds told), kept (keeps seed seen status.SinkFault holds (inl refl) told))
  where
    closed : ClosedAs seed seen ⊎ NoneClosed (image_met seen.desk) → ClosedAs seed seen
    closed (inl c) = c
    closed (inr none) = absurd (closes none)

    kept : IsKeptAs seed seen ⊎ NoneClosed (image_met seen.desk) → IsKeptAs seed seen
    kept (inl c) = c
    kept (inr none) = absurd (closes none)

pub none_is_refused : RunsAreAnswered → NoneIsRefused
none_is_refused law words drawn seen answer runs source desk given asks image holds goes steps read =
    (λ is. away status.ScriptRefused is (λ f. f) (λ e. cc e) (λ f. f), λ is. away status.WordsRefused is (λ f. f) (λ e. cc e) (λ f. f))
  where
    away : (bad : Status) → answer ≡ bad → (IsFault bad → ⊥) → (bad ≢ status.NoMemory) → (IsDone bad → ⊥) → ⊥
    away bad is no_fault no_want undone =
        undone (subst IsDone is (law words drawn seen answer runs source desk given asks image holds goes steps read (λ f. no_fault (subst IsFault is f)) (λ e. no_want (sym is ∙ e))).0)

pub none_is_refused_next : NextIsAnswered → NoneIsRefusedNext
none_is_refused_next law words drawn seen answer runs source desk given asks left has goes steps read =
    (λ is. away status.ScriptRefused is (λ f. f) (λ e. cc e) (λ f. f), λ is. away status.SessionSpent is (λ f. f) (λ e. cc e) (λ f. f))
  where
    away : (bad : Status) → answer ≡ bad → (IsFault bad → ⊥) → (bad ≢ status.NoMemory) → (IsDone bad → ⊥) → ⊥
    away bad is no_fault no_want undone =
        undone (subst IsDone is (law words drawn seen answer runs source desk given asks left has goes steps read (λ f. no_fault (subst IsFault is f)) (λ e. no_want (sym is ∙ e))).0)

good_is_no_want : status.Good ≡ status.NoMemory → ⊥
good_is_no_want e = cc

pub init_is_made : WordsAreAnswered → InitIsMade
init_is_made law words drawn seen runs rack spells told bare =
    let w = law words drawn seen status.Good runs (λ f. f) good_is_no_want in
    let x = w.init rack spells told in
    let made = x.2.none bare in
    record { rack = x.0; spelled = x.1; desk = made.1; told = made.2 }

pub nothing_is_refused : WordsAreAnswered → NothingIsRefused
nothing_is_refused law words drawn seen asks runs =
    not_good ((law words drawn seen status.Good runs (λ f. f) good_is_no_want).nothing asks).0
  where
    not_good : status.Good ≡ status.WordsRefused → ⊥
    not_good e = cc
