-- The steps so far, and their end.
use Rattle.std.proofs.Common.{◌≡◌, ◌<◌, ◌≤◌, ◌+◌, ◌++◌, ℕ, zero, suc, Bool, true, false, List, [], ◌∷◌, length, take, drop, slice_index_or, refl, ap, sym, ◌∙◌, subst, arith, append-nil, append_assoc, add-one}
use Rattle.std.specs.Prelude.{◌||◌, Ok, Err, IsTrue}
use Rattle.std.specs.List.{AllByRecursion}
use Rattle.std.proofs.lemmas.Grind.{flat_map-append}
use Rattle.std.proofs.lemmas.List.{take-append-drop}
use lib.Seq.{drop-length}
use Rattle.pot_outside.specs.Accounts.{transition_by}
use Rattle.pot_bytes.specs.declared.rack.Rack.{Rack}
use Rattle.pot_turn.specs.declared.name.TurnName.{TurnName}
use Rattle.pot_rows.specs.Rows.{HasMoreParts}
use Rattle.pot_script.specs.declared.grouping.Step.{Step}
use Rattle.pot_script.specs.declared.reply.Reply.{Reply}
use Rattle.pot_script.specs.Replies.{reply_text, is_refusal}
use Rattle.pot_group.specs.Arrivals.{arrivals}
use Rattle.pot_rows.specs.Rows.{view_at}
use Rattle.pot_shared.specs.Members.{entries_of}
use Rattle.pot_shared.specs.Ready.{GroupPasses, AreReady}
use Rattle.pot_shared.specs.Catalogs.{IndexPasses, IsIndexReady}
use Rattle.pot_replies.specs.Sessions.{jobs_in, jobs_of}
use Rattle.pot_shared.specs.Works.{Known, known}
use Rattle.pot_commands.specs.Rows.{HasFilled}
use Rattle.pot_commands.specs.declared.working.Ending.{Ending}
use Rattle.pot_commands.specs.declared.working.Ending.TheVariants as ending
use Rattle.pot_commands.specs.Ones.{OneEnds}
use Rattle.pot_commands.specs.Steps.{step_of, steps_of, StepGives, StepLeaves, StepHalts}
use Rattle.pot_commands.specs.Ends.{next_job, texts_of, any_refusal, AreReplied, Ends}
use Rattle.pot_shared.specs.Going.{AllStay, AllExtend}
use Rattle.pot_shared.specs.Hands.{times}
use Rattle.pot_commands.specs.Taking.{Took, asks_in, asked_by}
use Rattle.pot_outside.specs.Rooms.{RoomState}
use Rattle.pot_commands.proofs.AnswerLemmas.{stayed_worked}
use Rattle.pot_commands.proofs.Going.{filled_stays, work_all_went, went_more, stays_more}
use Rattle.pot_commands.proofs.TakingLemmas.{took_none, took_more, took_wider}
use Rattle.pot_shared.proofs.Times.{times-append}
use Rattle.pot_commands.proofs.FoldLemmas.{jobs_append, jobs_more, none_replied, replied_on, left_on, halted_on, next_on}

-- THE PASSES

pub stays_same : (k : Known) → AllStay k k
stays_same k = record {
  groups = record { names = refl; origin = λ at. refl; opened = λ at. refl; parts = λ at. refl };
  index = record { names = refl; origin = λ at. refl; opened = λ at. refl; parts = λ at. refl };
}

pub parts_stay : (old new : Known) (n : ℕ) → AllStay old new → HasMoreParts n old.groups → HasMoreParts n new.groups
parts_stay old new n stays more at lt =
    let same = stays.groups.parts at in
    let long = ap length stays.groups.names in
    let m = more at (omega (arith, lt, long)) in
    omega (arith, m, same)

pub index_parts_stay : (old new : Known) (n : ℕ) → AllStay old new → HasMoreParts n old.index → HasMoreParts n new.index
index_parts_stay old new n stays more at lt =
    let same = stays.index.parts at in
    let long = ap length stays.index.names in
    let m = more at (omega (arith, lt, long)) in
    omega (arith, m, same)

-- LISTS

take_more : {X : Type 0} (xs : List X) (i : ℕ) (x : X) → i < length xs → x ≡ slice_index_or xs i x → take (suc i) xs ≡ take i xs ++ x ∷ []
take_more [] i x h e = absurd (omega arith)
take_more (y ∷ xs) zero x h e = ap (λ z. z ∷ []) (sym e)
take_more (y ∷ xs) (suc i) x h e = ap (λ r. y ∷ r) (take_more xs i x (omega arith) e)

pub holds_at : {X : Type 0} (P : X → Type 0) (xs : List X) (i : ℕ) (x : X) → AllByRecursion P xs → i < length xs → x ≡ slice_index_or xs i x → P x
holds_at P [] i x all h e = absurd (omega arith)
holds_at P (y ∷ xs) zero x all h e = subst P (sym e) all.0
holds_at P (y ∷ xs) (suc i) x all h e = holds_at P xs i x all.1 (omega arith) e

-- the jobs of a step are numbered within those of all
pub jobs_fit : (ss : List Step) (n job bound : ℕ) (d : Step) → n < length ss → d ≡ slice_index_or ss n d → job ≡ next_job (take n ss) → next_job ss ≤ bound
    → (0 < job) × (job + jobs_in (step_of d) ≤ bound)
jobs_fit ss n job bound d within is number few =
    let more : next_job (take (suc n) ss) ≡ next_job (take n ss) + jobs_in (step_of d) = ap next_job (take_more ss n d within is) ∙ jobs_more (take n ss) d in
    let all : next_job ss ≡ next_job (take (suc n) ss) + jobs_of (steps_of (drop (suc n) ss)) =
    ap next_job (sym (take-append-drop (suc n) ss)) ∙ jobs_append (take (suc n) ss) (drop (suc n) ss) in
    (omega (arith, number), omega (arith, number, more, all, few))

texts_append : (rs its : List Reply) → texts_of (rs ++ its) ≡ texts_of rs ++ texts_of its
texts_append rs its = flat_map-append reply_text rs its

refusal_append : (rs its : List Reply) → any_refusal (rs ++ its) ≡ (any_refusal rs || any_refusal its)
refusal_append [] its = refl
refusal_append (r ∷ rs) its = ap (λ b. is_refusal r || b) (refusal_append rs its) ∙ assoc (is_refusal r) (any_refusal rs) (any_refusal its)
  where
    assoc : (a b c : Bool) → (a || (b || c)) ≡ ((a || b) || c)
    assoc true b c = refl
    assoc false b c = refl

-- THE STEPS SO FAR

pub record IsWorking (told : Bool) (tells : Type 0) (rack : Rack) (seed : List ℕ) (session : ℕ) (before now : List ℕ) (ss : List Step) (n job : ℕ) (refused : Bool) (lent lends : RoomState) (old mid : Known) : Type 0 where
  pub number : job ≡ next_job (take n ss)
  pub went : AllExtend old mid
  pub stays : AllStay old mid
  pub took : Took tells (Unit {0}) (asked_by (take n ss)) lent lends old mid
  pub filled : HasFilled rack mid
  pub replies : List Reply
  pub replied : AreReplied rack seed session (take n ss) replies old mid
  pub refusal : refused ≡ any_refusal replies
  pub written : IsTrue told → now ≡ before ++ texts_of replies

pub begins_working : (told : Bool) (tells : Type 0) (rack : Rack) (seed : List ℕ) (session : ℕ) (before : List ℕ) (ss : List Step) (lent : RoomState) (names turn : List TurnName) (row : GroupPasses) (i : IndexPasses)
    → AreReady rack names row → IsIndexReady rack names turn i → HasFilled rack (known row i) → IsWorking told tells rack seed session before before ss 0 1 false lent lent (known row i) (known row i)
begins_working told tells rack seed session before ss lent names turn row i ready index_ready filled = record {
  number = refl;
  went = work_all_went 1 (known row i) (known row i) (stayed_worked rack names turn 1 row i ready index_ready);
  stays = stays_same (known row i);
  took = took_none tells (Unit {0}) [] lent lent (known row i) (known row i) (λ n. refl) (λ n. refl) (λ sole g. ap (λ ls. arrivals (entries_of ls)) (drop-length (view_at row g).seen));
  filled = filled;
  replies = [];
  replied = none_replied rack seed session (known row i);
  refusal = refl;
  written = λ t. sym (append-nil before);
}

module _ (told : Bool) (tells : Type 0) (rack : Rack) (seed : List ℕ) (session : ℕ) (before now : List ℕ) (ss : List Step) (n job : ℕ) (refused : Bool) (lent lends then : RoomState) (old mid new : Known)
    (so : IsWorking told tells rack seed session before now ss n job refused lent lends old mid) (d : Step) (within : n < length ss) (is : d ≡ slice_index_or ss n d)
    (went : AllExtend mid new) (stays : AllStay mid new) where
  abbrev first : List Step
  first = take n ss ++ d ∷ []

  one_more : take (n + 1) ss ≡ first
  one_more = ap (λ k. take k ss) (add-one n) ∙ take_more ss n d within is

  whole : ss ≡ first ++ drop (suc n) ss
  whole = sym (take-append-drop (suc n) ss) ∙ ap (λ l. l ++ drop (suc n) ss) (take_more ss n d within is)

  pub new_went : AllExtend old new
  new_went = went_more old mid new so.went went

  pub new_stays : AllStay old new
  new_stays = stays_more old mid new so.stays stays

  new_replied : (its : List Reply) → StepGives rack seed session job (step_of d) mid new its → AreReplied rack seed session first (so.replies ++ its) old new
  new_replied its gives = replied_on rack seed session (take n ss) so.replies d old mid new so.went so.stays so.replied went its
      (subst (λ j. StepGives rack seed session j (step_of d) mid new its) so.number gives)

  -- what was taken before and for this step
  next_took : (well : Type 0) → Took tells well (asks_in d) lends then mid new → Took tells well (asked_by (take n ss) ++ asks_in d) lent then old new
  next_took well took = took_more tells well (asked_by (take n ss)) (asks_in d) lent lends then old mid new so.went went so.stays.groups.names so.took took

  asked_next : asked_by (take (n + 1) ss) ≡ asked_by (take n ss) ++ asks_in d
  asked_next = ap asked_by one_more ∙ (flat_map-append asks_in (take n ss) (d ∷ []) ∙ ap (λ l. asked_by (take n ss) ++ l) (append-nil (asks_in d)))

  pub ends_took : (well then_well : Type 0) → (then_well → well) → Took tells well (asks_in d) lends then mid new → Took tells then_well (asked_by ss) lent then old new
  ends_took well then_well from took =
      took_wider tells well then_well (asked_by (take n ss) ++ asks_in d) (asked_by ss) lent then old new
      (λ k. (let a = ap (times k) asked_next in
      let b : times k (asked_by ss) ≡ times k (asked_by (take (n + 1) ss) ++ asked_by (drop (n + 1) ss)) = ap (times k) (ap asked_by (sym (take-append-drop (n + 1) ss)) ∙ flat_map-append asks_in (take (n + 1) ss) (drop (n + 1) ss)) in
      let cut = times-append k (asked_by (take (n + 1) ss)) (asked_by (drop (n + 1) ss)) in omega (arith, a, b, cut)))
      from (next_took well took)

  pub working_more : (after : List ℕ) (some : Bool) (well : Type 0) → well → Took tells well (asks_in d) lends then mid new → OneEnds rack seed session job (step_of d) mid new (transition_by told now after) (Ok some)
      → (after_job : ℕ) → after_job ≡ job + jobs_in (step_of d) → IsWorking told tells rack seed session before after ss (n + 1) after_job (refused || some) lent then old new
  working_more after some well is_well took (its, gives, refuses, writes) after_job next = record {
    number = next ∙ (ap (λ j. j + jobs_in (step_of d)) so.number ∙ (sym (jobs_more (take n ss) d) ∙ ap next_job (sym one_more)));
    went = new_went;
    stays = new_stays;
    took = subst (λ ns. Took tells (Unit {0}) ns lent then old new) (sym asked_next) (took_wider tells well (Unit {0}) (asked_by (take n ss) ++ asks_in d) (asked_by (take n ss) ++ asks_in d) lent then old new (λ k. omega arith) (λ u. is_well) (next_took well took));
    filled = filled_stays rack mid new stays so.filled;
    replies = so.replies ++ its;
    replied = subst (λ ds. AreReplied rack seed session ds (so.replies ++ its) old new) (sym one_more) (new_replied its gives);
    refusal = ap (λ b. b || some) so.refusal ∙ (ap (λ b. any_refusal so.replies || b) refuses ∙ sym (refusal_append so.replies its));
    written = λ t. writes t ∙ (ap (λ l. l ++ texts_of its) (so.written t) ∙ (append_assoc before (texts_of so.replies) (texts_of its) ∙ ap (λ l. before ++ l) (sym (texts_append so.replies its))));
  }

  left_short : (after : List ℕ) → StepLeaves rack seed session job (step_of d) mid new → (IsTrue told → after ≡ now) → Ends rack seed session (transition_by told before after) ss old new ending.NoMemory
  left_short after leaves writes = record {
    first = take n ss;
    next = d;
    rest = drop (suc n) ss;
    parts = whole;
    replies = so.replies;
    replied = left_on rack seed session (take n ss) so.replies d old mid new so.went so.stays so.replied went (subst (λ j. StepLeaves rack seed session j (step_of d) mid new) so.number leaves);
    written = λ t. writes t ∙ so.written t;
  }

  halted_short : (after : List ℕ) → StepHalts rack seed session job (step_of d) mid new → (IsTrue told → after ≡ now) → Ends rack seed session (transition_by told before after) ss old new ending.RoomFailed
  halted_short after halts writes = record {
    first = take n ss;
    next = d;
    rest = drop (suc n) ss;
    parts = whole;
    replies = so.replies;
    replied = halted_on rack seed session (take n ss) so.replies d old mid new so.went so.stays so.replied went (subst (λ j. StepHalts rack seed session j (step_of d) mid new) so.number halts);
    written = λ t. writes t ∙ so.written t;
  }

  pub working_ends : (after : List ℕ) (end : Ending) → OneEnds rack seed session job (step_of d) mid new (transition_by told now after) (Err end) → Ends rack seed session (transition_by told before after) ss old new end
  working_ends after ending.SinkFailed (its, gives, writes) = record {
    first = take n ss;
    next = d;
    rest = drop (suc n) ss;
    parts = whole;
    replies = so.replies;
    its = its;
    answered = next_on rack seed session (take n ss) so.replies d old mid new so.went so.stays so.replied went its
        (subst (λ j. StepGives rack seed session j (step_of d) mid new its) so.number gives);
    replied = new_replied its gives;
    written = λ t. let cut = writes t in (
      cut.0,
      cut.1,
      cut.2 ∙ (ap (λ l. l ++ take cut.0 (texts_of its)) (so.written t) ∙ append_assoc before (texts_of so.replies) (take cut.0 (texts_of its))),
    );
  }
  working_ends after ending.RoomFailed (halts, writes) = halted_short after halts writes
  working_ends after ending.NoMemory (leaves, writes) = left_short after leaves writes
  working_ends after (ending.Done refused) none = absurd none

-- all steps were worked
pub all_took : (told : Bool) (tells well : Type 0) (rack : Rack) (seed : List ℕ) (session : ℕ) (before now : List ℕ) (ss : List Step) (n job : ℕ) (refused : Bool) (lent lends : RoomState) (old new : Known)
    → IsWorking told tells rack seed session before now ss n job refused lent lends old new → take n ss ≡ ss → Took tells well (asked_by ss) lent lends old new
all_took told tells well rack seed session before now ss n job refused lent lends old new so all =
    took_wider tells (Unit {0}) well (asked_by (take n ss)) (asked_by ss) lent lends old new (λ k. (let e = ap (λ ds. times k (asked_by ds)) all in omega (arith, e))) (λ w. tt) so.took

pub ends_well : (told : Bool) (tells : Type 0) (rack : Rack) (seed : List ℕ) (session : ℕ) (before now : List ℕ) (ss : List Step) (n job : ℕ) (refused : Bool) (lent lends : RoomState) (old new : Known)
    → IsWorking told tells rack seed session before now ss n job refused lent lends old new → take n ss ≡ ss → Ends rack seed session (transition_by told before now) ss old new (ending.Done refused)
ends_well told tells rack seed session before now ss n job refused lent lends old new so all = record {
  replies = so.replies;
  replied = subst (λ ds. AreReplied rack seed session ds so.replies old new) all so.replied;
  refusal = so.refusal;
  written = so.written;
}
