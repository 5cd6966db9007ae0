-- The lines of a batch that have begun so far, and what passes know then.
use Rattle.std.proofs.Common.{◌≡◌, ◌<◌, ◌≤◌, ◌+◌, ◌++◌, inl, inr, ℕ, List, [], ◌∷◌, length, take, drop, get_or, refl, ap, sym, ◌∙◌, subst, arith, append-nil, length-append, add-one}
use Rattle.std.specs.Prelude.{Some, slice_get}
use Rattle.std.specs.List.{flat_map}
use Rattle.std.proofs.Math.Seq.{take-length}
use Rattle.std.proofs.lemmas.Bool.{cases_lt}
use Rattle.std.proofs.lemmas.Grind.{flat_map-append}
use Rattle.std.proofs.lemmas.List.{take-append-drop}
use Rattle.std.proofs.lemmas.Option.{same_Some, slice_get_read, slice_get_within}
use lib.Seq.{drop-length}
use Rattle.pot_bytes.specs.declared.rack.Rack.{Rack}
use Rattle.pot_group.specs.Arrivals.{arrivals}
use Rattle.pot_turn.specs.declared.name.TurnName.{TurnName}
use Rattle.pot_turn.proofs.LogLemmas.{get_front, get_back}
use Rattle.pot_worked.specs.WroteOnlyFor.{added}
use Rattle.pot_rows.specs.Rows.{view_at}
use Rattle.pot_rows.proofs.Lists.{take_next}
use Rattle.pot_script.specs.declared.command.Command.{Command}
use Rattle.pot_script.specs.declared.command.Command.TheVariants as commands
use Rattle.pot_machine.specs.Logs.{own}
use Rattle.pot_index.specs.Entries as index
use Rattle.pot_replies.specs.Settings.{Setting}
use Rattle.pot_replies.specs.Sections.{IsOfJobs, IsSilent, mine}
use Rattle.pot_replies.specs.Sessions.{Together}
use Rattle.pot_shared.specs.Catalogs.{IndexPasses, IsIndexReady}
use Rattle.pot_shared.specs.Members.{entries_of}
use Rattle.pot_shared.specs.Ready.{AreReady, GroupPasses}
use Rattle.pot_shared.specs.Works.{Known, known, JobWroteOnly, JobOnlyWriter, IsSettingOf, section_of}
use Rattle.pot_commands.specs.declared.arriving.Unanswered.{Unanswered}
use Rattle.pot_commands.specs.declared.arriving.Unanswered.TheVariants as unanswered
use Rattle.pot_commands.specs.declared.beginning.Task.{Task}
use Rattle.pot_commands.specs.Begun.{HasTask, HaveTasks, LineBegins, HaveBegun, AreMovesBegun}
use Rattle.pot_shared.specs.Going.{AllOnlyWriters, AllStay, AllExtend}
use Rattle.pot_shared.specs.Hands.{times}
use Rattle.pot_commands.specs.Steps.{AsksRoom, IsBatched, IsStill, StepHalts, StepLeaves, StepStops}
use Rattle.pot_commands.specs.Taking.{Took, asks}
use Rattle.pot_outside.specs.Rooms.{RoomState}
use Rattle.pot_commands.proofs.AnswerLemmas.{stayed_worked}
use Rattle.pot_commands.proofs.BegunLemmas.{begun_halted, more_begun, none_begun, same_begun}
use Rattle.pot_commands.proofs.Going.{known_follows, setting_of_stays, sole_alone, sole_parts, stays_more, went_more, work_all_went}
use Rattle.pot_shared.proofs.Times.{times-append}
use Rattle.pot_commands.proofs.TakingLemmas.{took_more, took_none, took_wider}
use Rattle.pot_commands.proofs.Whose.{its_jobs, own_all}
use Rattle.pot_commands.proofs.WorkingLemmas.{stays_same}

-- what was asked for by these lines
abbrev pub asked_in : List Command → List ℕ
asked_in lines = flat_map asks lines

-- The first lines have their tasks, and their moves have begun.
pub record IsBeginning (rack : Rack) (told : Type 0) (from : ℕ) (lines : List Command) (n : ℕ) (tasks : List Task) (lent lends : RoomState) (old now : Known) : Type 0 where
  pub count : length tasks ≡ n
  pub index : now.index ≡ old.index
  pub fits : (i : ℕ) (c : Command) (t : Task) → slice_get lines i ≡ Some c → slice_get tasks i ≡ Some t → HasTask rack c t
  pub went : AllExtend old now
  pub stays : AllStay old now
  pub begun : AllOnlyWriters old now → (s : Setting) → IsSettingOf s rack old → HaveBegun s from lines tasks (section_of old now)
  pub took : Took told (Unit {0}) (asked_in (take n lines)) lent lends old now

pub begins_beginning : (rack : Rack) (told : Type 0) (from : ℕ) (lines : List Command) (tasks : List Task) (lent : RoomState) (names turn : List TurnName) (row : GroupPasses) (i : IndexPasses)
    → tasks ≡ [] → AreReady rack names row → IsIndexReady rack names turn i → IsBeginning rack told from lines 0 tasks lent lent (known row i) (known row i)
begins_beginning rack told from lines tasks lent names turn row i none ready index_ready = subst (λ ts. IsBeginning rack told from lines 0 ts lent lent (known row i) (known row i)) (sym none) (record {
  count = refl;
  index = refl;
  fits = λ k c t at there. absurd (cc there);
  went = work_all_went 1 (known row i) (known row i) (stayed_worked rack names turn 1 row i ready index_ready);
  stays = stays_same (known row i);
  begun = λ sole s is. none_begun s from lines (section_of (known row i) (known row i)) ((λ g. ap entries_of (drop-length (view_at row g).seen)), drop-length (view_at i 0).seen);
  took = took_none told (Unit {0}) [] lent lent (known row i) (known row i) (λ n. refl) (λ n. refl) (λ sole g. ap (λ ls. arrivals (entries_of ls)) (drop-length (view_at row g).seen));
})

-- the moves of the first lines, wherever they end
pub beginning_moves : (rack : Rack) (told : Type 0) (from : ℕ) (lines : List Command) (n : ℕ) (tasks : List Task) (lent lends : RoomState) (old now : Known) → IsBeginning rack told from lines n tasks lent lends old now → n ≤ length lines
    → AreMovesBegun rack from lines tasks old now
beginning_moves rack told from lines n tasks lent lends old now is le = record { few = (let c = is.count in omega (arith, c, le)); went = is.went; stays = is.stays; begun = is.begun }

-- all lines have begun
pub all_tasks : (rack : Rack) (told : Type 0) (from : ℕ) (lines : List Command) (n : ℕ) (tasks : List Task) (lent lends : RoomState) (old now : Known) → IsBeginning rack told from lines n tasks lent lends old now → n ≡ length lines
    → HaveTasks rack lines tasks
all_tasks rack told from lines n tasks lent lends old now is all = record { count = is.count ∙ all; each = is.fits }

pub all_asked : (rack : Rack) (told well : Type 0) (from : ℕ) (lines : List Command) (n : ℕ) (tasks : List Task) (lent lends : RoomState) (old now : Known) → IsBeginning rack told from lines n tasks lent lends old now → n ≡ length lines
    → Took told well (asked_in lines) lent lends old now
all_asked rack told well from lines n tasks lent lends old now is all =
    took_wider told (Unit {0}) well (asked_in (take n lines)) (asked_in lines) lent lends old now
    (λ k. (let e = ap (λ ls. times k (asked_in ls)) (ap (λ m. take m lines) all ∙ take-length lines) in omega (arith, e))) (λ w. tt) is.took

-- A LINE THAT MOVES NOTHING

pub still_line : (groups : ℕ) (c : Command) → IsBatched groups c → ((from to : ℕ) → c ≡ commands.Migrate from to → ⊥) → IsStill groups c
still_line groups (commands.Migrate from to) batched ne = absurd (ne from to refl)
still_line groups (commands.Store name file) batched ne = batched
still_line groups (commands.Fetch name) batched ne = batched
still_line groups (commands.Renew name geometry) batched ne = batched
still_line groups (commands.Scrub group) batched ne = batched
still_line groups (commands.Repair group) batched ne = batched
still_line groups _ batched ne = absurd batched

-- it logs nothing when the moves begin, and asks for no archive
pub still_silent : (job : ℕ) (k : Known) → IsSilent (mine job (section_of k k))
still_silent job k = ((λ g. ap (λ ls. own job (entries_of ls)) (drop-length (view_at k.groups g).seen)), ap (index.own job) (drop-length (view_at k.index 0).seen))

pub still_took : (told well : Type 0) (asked : List ℕ) (r : RoomState) (k : Known) → Took told well asked r r k k
still_took told well asked r k = took_none told well asked r r k k (λ n. refl) (λ n. refl) (λ sole g. ap (λ ls. arrivals (entries_of ls)) (drop-length (view_at k.groups g).seen))

-- ONE LINE MORE

module _ (rack : Rack) (told : Type 0) (from : ℕ) (lines : List Command) (n : ℕ) (tasks : List Task) (lent lends then : RoomState) (old mid new : Known) (is : IsBeginning rack told from lines n tasks lent lends old mid)
    (c : Command) (within : n < length lines) (at : c ≡ get_or lines n c) (worked : JobWroteOnly (from + n) mid new) (stays : AllStay mid new) (same : new.index ≡ mid.index) where
  there : slice_get lines n ≡ Some c
  there = slice_get_read lines (length lines) n c refl within at

  one_more : take (n + 1) lines ≡ take n lines ++ c ∷ []
  one_more = ap (λ k. take k lines) (add-one n) ∙ take_next lines n c there

  asked_next : asked_in (take (n + 1) lines) ≡ asked_in (take n lines) ++ asks c
  asked_next = ap asked_in one_more ∙ (flat_map-append asks (take n lines) (c ∷ []) ∙ ap (λ l. asked_in (take n lines) ++ l) (append-nil (asks c)))

  went : AllExtend mid new
  went = work_all_went (from + n) mid new worked

  none_index : (section_of mid new).index_added ≡ []
  none_index = ap (λ (i : IndexPasses). added (view_at mid.index 0) (view_at i 0)) same ∙ drop-length (view_at mid.index 0).seen

  setting_then : (s : Setting) → IsSettingOf s rack old → IsSettingOf s rack mid
  setting_then s set = setting_of_stays s rack old mid is.stays.groups.names is.stays.groups.origin is.stays.index.origin set

  next_took : (well : Type 0) → Took told well (asks c) lends then mid new → Took told well (asked_in (take n lines) ++ asks c) lent then old new
  next_took well took = took_more told well (asked_in (take n lines)) (asks c) lent lends then old mid new is.went went is.stays.groups.names is.took took

  module _ (t : Task) (fits : HasTask rack c t) (says : JobOnlyWriter (from + n) mid new → (s : Setting) → IsSettingOf s rack mid → IsOfJobs (from + n) 1 (section_of mid new) → LineBegins s (from + n) c t (section_of mid new)) where
    now_begun : AllOnlyWriters old new → (s : Setting) → IsSettingOf s rack old → HaveBegun s from lines (tasks ++ t ∷ []) (section_of old new)
    now_begun sole s set =
        let parts = sole_parts old mid new is.went went sole in
        let its = its_jobs (from + n) mid new worked parts.1 in
        let number : n ≡ length tasks = sym is.count in
        more_begun s from lines tasks (section_of old mid) (section_of mid new) (section_of old new) (is.begun parts.0 s set) (known_follows old mid new is.went went)
        (subst (λ k. IsOfJobs (from + k) 1 (section_of mid new)) number its) c t (subst (λ k. slice_get lines k ≡ Some c) number there)
        (subst (λ k. LineBegins s (from + k) c t (section_of mid new)) number (says (sole_alone (from + n) mid new worked parts.1) s (setting_then s set) its)) none_index

    pub more_beginning : (well : Type 0) → well → Took told well (asks c) lends then mid new → IsBeginning rack told from lines (n + 1) (tasks ++ t ∷ []) lent then old new
    more_beginning well is_well took = record {
      count = (let c = is.count in let l = length-append tasks (t ∷ []) in omega (arith, c, l));
      index = same ∙ is.index;
      fits = λ i d u in_lines in_tasks. elim (cases_lt i (length tasks)) [
        | inl lt ↦ is.fits i d u in_lines (sym (get_front tasks (t ∷ []) i lt) ∙ in_tasks)
        | inr le ↦ last_fits i d u in_lines in_tasks le
      ];
      went = went_more old mid new is.went went;
      stays = stays_more old mid new is.stays stays;
      begun = now_begun;
      took = subst (λ ns. Took told (Unit {0}) ns lent then old new) (sym asked_next)
          (took_wider told well (Unit {0}) (asked_in (take n lines) ++ asks c) (asked_in (take n lines) ++ asks c) lent then old new (λ k. omega arith) (λ u. is_well) (next_took well took));
    }
      where
        last_fits : (i : ℕ) (d : Command) (u : Task) → slice_get lines i ≡ Some d → slice_get (tasks ++ t ∷ []) i ≡ Some u → length tasks ≤ i → HasTask rack d u
        last_fits i d u in_lines in_tasks le =
            let within = slice_get_within (tasks ++ t ∷ []) i u in_tasks in
            let last : i ≡ n = (let l = length-append tasks (t ∷ []) in let k = is.count in omega (arith, le, within, l, k)) in
            let same_line : c ≡ d = same_Some c d (sym there ∙ (ap (slice_get lines) (sym last) ∙ in_lines)) in
            let same_task : t ≡ u = same_Some t u (sym (get_back tasks (t ∷ []) 0) ∙ (ap (slice_get (tasks ++ t ∷ [])) (let k = is.count in let e : length tasks + 0 ≡ i = omega (arith, last, k) in e) ∙ in_tasks)) in
            subst (λ b. HasTask rack b u) same_line (subst (λ b. HasTask rack c b) same_task fits)

  -- the line has no task, and nothing was logged
  module _ (silent : JobOnlyWriter (from + n) mid new → (s : Setting) → IsSettingOf s rack mid → IsSilent (mine (from + n) (section_of mid new))) where
    ended_begun : AllOnlyWriters old new → (s : Setting) → IsSettingOf s rack old → HaveBegun s from lines tasks (section_of old new)
    ended_begun sole s set =
        let parts = sole_parts old mid new is.went went sole in
        let its = its_jobs (from + n) mid new worked parts.1 in
        let none = silent (sole_alone (from + n) mid new worked parts.1) s (setting_then s set) in
        same_begun s from lines tasks (section_of old mid) (section_of mid new) (section_of old new) (is.begun parts.0 s set) (known_follows old mid new is.went went)
        ((λ g. sym (own_all (from + n) ((section_of mid new).added g) (its.groups g)) ∙ none.0 g), none_index)

    pub ended_moves : AreMovesBegun rack from lines tasks old new
    ended_moves = record {
      few = (let c = is.count in omega (arith, c, within));
      went = went_more old mid new is.went went;
      stays = stays_more old mid new is.stays stays;
      begun = ended_begun;
    }

  pub ended_asked : (well then_well : Type 0) → (then_well → well) → Took told well (asks c) lends then mid new → Took told then_well (asked_in lines) lent then old new
  ended_asked well then_well from_well took =
      took_wider told well then_well (asked_in (take n lines) ++ asks c) (asked_in lines) lent then old new
      (λ k. (let a = ap (times k) asked_next in
      let b : times k (asked_in lines) ≡ times k (asked_in (take (n + 1) lines) ++ asked_in (drop (n + 1) lines)) = ap (times k) (ap asked_in (sym (take-append-drop (n + 1) lines)) ∙ flat_map-append asks (take (n + 1) lines) (drop (n + 1) lines)) in
      let cut = times-append k (asked_in (take (n + 1) lines)) (asked_in (drop (n + 1) lines)) in omega (arith, a, b, cut)))
      from_well (next_took well took)

-- THE STEP

-- where only moves have begun, the room failed at the step, or the step was left
pub moves_halt : (rack : Rack) (seed : List ℕ) (session from : ℕ) (lines : List Command) (tasks : List Task) (old new : Known) → AsksRoom (Together lines) → AreMovesBegun rack from lines tasks old new
    → StepHalts rack seed session from (Together lines) old new
moves_halt rack seed session from lines tasks old new asked moves sole s is =
    let halted = begun_halted s from lines tasks (section_of old new) (moves.begun sole s is.setting) moves.few in (halted.0, (asked, halted.1))

pub moves_leave : (rack : Rack) (seed : List ℕ) (session from : ℕ) (lines : List Command) (tasks : List Task) (old new : Known) → AreMovesBegun rack from lines tasks old new
    → StepLeaves rack seed session from (Together lines) old new
moves_leave rack seed session from lines tasks old new moves sole s is =
    let halted = begun_halted s from lines tasks (section_of old new) (moves.begun sole s is.setting) moves.few in
    (halted.0, (halted.1.0, halted.1.1))

pub moves_stop : (rack : Rack) (seed : List ℕ) (session from : ℕ) (lines : List Command) (tasks : List Task) (old new : Known) (e : Unanswered) → (e ≡ unanswered.RoomFailed → AsksRoom (Together lines)) → AreMovesBegun rack from lines tasks old new
    → StepStops rack seed session from (Together lines) old new e
moves_stop rack seed session from lines tasks old new unanswered.RoomFailed asked moves = moves_halt rack seed session from lines tasks old new (asked refl) moves
moves_stop rack seed session from lines tasks old new unanswered.NoMemory asked moves = moves_leave rack seed session from lines tasks old new moves
