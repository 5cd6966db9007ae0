-- Looks of one turn, and what was looked at with them.
use Rattle.std.proofs.Common.{◌≡◌, ◌<◌, ◌≤◌, ◌⊎◌, inl, inr, ⊎_elim, ℕ, suc, ◌+◌, List, [], ◌∷◌, ◌++◌, length, refl, ap, sym, ◌∙◌, subst, arith, append-nil, append_assoc, eq-eqb}
use Rattle.std.specs.Prelude.{Some, Contains, IsTrue, filter, map}
use Rattle.std.proofs.lemmas.List.{map-append}
use Rattle.std.proofs.lemmas.List.Elements.{Contains-append_left, Contains-append_right}
use Rattle.pot_bytes.specs.declared.rack.Place.{Place}
use Rattle.pot_bytes.specs.Rack.{log_bound}
use Rattle.pot_bytes.proofs.Elements.{none_contained, one_contained}
use Rattle.pot_machine.specs.declared.entry.Entry.{Entry}
use Rattle.pot_machine.specs.declared.entry.Entry.TheVariants as entry
use Rattle.pot_machine.specs.Slot.{is_live}
use Rattle.pot_machine.specs.Table.{Table, width, slot_at}
use Rattle.pot_machine.specs.Logs.{is_of, own, replayed}
use Rattle.pot_machine.proofs.Logs.{own_cons, replayed_append, replays_is}
use Rattle.pot_index.proofs.NameLemmas.{contains_here}
use Rattle.pot_steps.specs.GroupStep.{look_entries}
use Rattle.pot_group.specs.declared.answers.Looked.{Looked}
use Rattle.pot_group.specs.declared.answers.Looked.TheVariants as looked
use Rattle.pot_group.specs.Group.{GroupView, LookCause, looked_as}
use Rattle.pot_group.specs.Finding.{IsNextPlace}
use Rattle.pot_group.specs.Calls.{LookCall}
use Rattle.pot_group.specs.Sweeping.{IsLookAnswered, Look, LooksOn, was_gone, was_seen}
use Rattle.pot_worked.specs.Laws.{AllOf}
use Rattle.pot_replies.specs.Jobs.{is_look, is_seen, is_gone, place_in, EachIs, Ascend, Precedes}
use Rattle.pot_replies.specs.Scrubs.{WereLive}
use Rattle.pot_shared.proofs.WorkLemmas.{all_append, all_none, all_one}
use Rattle.pot_mend.proofs.LiveLemmas.{live_more, live_none, live_others}
use Rattle.pot_mend.proofs.EntryLemmas.{each_more, one_in}
use Rattle.pot_mend.proofs.OrderLemmas.{AtOrAfter, ascend_later, ascend_more, before_next, before_or_after, none_before}
use Rattle.pot_mend.proofs.SectionLemmas.{FailsIn, fails_last, fails_more, sizes_replayed}

-- WHAT LOOKS LOG

-- what a look at a place logs
abbrev pub logged : ℕ → Place → Looked → List Entry
logged job p looked.Seen = entry.Seen job p.stripe p.column ∷ []
logged job p looked.Gone = entry.Gone job p.stripe p.column ∷ []
logged job p (looked.Faulted column) = entry.Fault job p.stripe column ∷ []
logged job p looked.LogFull = []

-- and look after look
abbrev pub logged_by : ℕ → List Look → List Entry
logged_by job [] = []
logged_by job ((p, answer) ∷ rest) = logged job p answer ++ logged_by job rest

-- where an archive failed, it was that of the place
abbrev pub IsHere : Place → Looked → Type 0
IsHere p (looked.Faulted column) = column ≡ p.column
IsHere p _ = Unit {0}

-- each look saw the block, or that it is gone
abbrev pub AreAnswered : List Look → Type 0
AreAnswered looks = (x : Look) → Contains looks x → IsLookAnswered x

pub none_answered : AreAnswered []
none_answered x has = absurd (none_contained x has)

pub rest_answered : (x : Look) (rest : List Look) → AreAnswered (x ∷ rest) → AreAnswered rest
rest_answered x rest all y has = all y (Contains-append_right (x ∷ []) rest y has)

all_logged_of : (job : ℕ) (p : Place) (answer : Looked) → AllOf (is_of job) (logged job p answer)
all_logged_of job p looked.Seen = all_one (is_of job) (entry.Seen job p.stripe p.column) (eq-eqb job job refl)
all_logged_of job p looked.Gone = all_one (is_of job) (entry.Gone job p.stripe p.column) (eq-eqb job job refl)
all_logged_of job p (looked.Faulted column) = all_one (is_of job) (entry.Fault job p.stripe column) (eq-eqb job job refl)
all_logged_of job p looked.LogFull = all_none (is_of job)

pub all_by : (job : ℕ) (looks : List Look) → AllOf (is_of job) (logged_by job looks)
all_by job [] = all_none (is_of job)
all_by job ((p, answer) ∷ rest) = all_append (is_of job) (logged job p answer) (logged_by job rest) (all_logged_of job p answer) (all_by job rest)

-- all of it is the job's
pub own_by : (job : ℕ) (looks : List Look) → own job (logged_by job looks) ≡ logged_by job looks
own_by job [] = refl
own_by job ((p, looked.Seen) ∷ rest) =
    own_cons job (entry.Seen job p.stripe p.column) (logged_by job rest) (eq-eqb job job refl) ∙ ap (λ l. entry.Seen job p.stripe p.column ∷ l) (own_by job rest)
own_by job ((p, looked.Gone) ∷ rest) =
    own_cons job (entry.Gone job p.stripe p.column) (logged_by job rest) (eq-eqb job job refl) ∙ ap (λ l. entry.Gone job p.stripe p.column ∷ l) (own_by job rest)
own_by job ((p, looked.Faulted column) ∷ rest) =
    own_cons job (entry.Fault job p.stripe column) (logged_by job rest) (eq-eqb job job refl) ∙ ap (λ l. entry.Fault job p.stripe column ∷ l) (own_by job rest)
own_by job ((p, looked.LogFull) ∷ rest) = own_by job rest

-- and that of the last one stands last
pub last_by : (job : ℕ) (front : List Look) (p : Place) (answer : Looked) → logged_by job (front ++ (p, answer) ∷ []) ≡ logged_by job front ++ logged job p answer
last_by job [] p answer = append-nil (logged job p answer)
last_by job ((q, a) ∷ front) p answer = ap (λ l. logged job q a ++ l) (last_by job front p answer) ∙ sym (append_assoc (logged job q a) (logged_by job front) (logged job p answer))

-- what they are counted as
pub seen_by : (job : ℕ) (looks : List Look) → length (filter was_seen looks) ≡ length (filter is_seen (logged_by job looks))
seen_by job [] = refl
seen_by job ((p, looked.Seen) ∷ rest) = ap suc (seen_by job rest)
seen_by job ((p, looked.Gone) ∷ rest) = seen_by job rest
seen_by job ((p, looked.Faulted column) ∷ rest) = seen_by job rest
seen_by job ((p, looked.LogFull) ∷ rest) = seen_by job rest

pub gone_by : (job : ℕ) (looks : List Look) → length (filter was_gone looks) ≡ length (filter is_gone (logged_by job looks))
gone_by job [] = refl
gone_by job ((p, looked.Seen) ∷ rest) = gone_by job rest
gone_by job ((p, looked.Gone) ∷ rest) = ap suc (gone_by job rest)
gone_by job ((p, looked.Faulted column) ∷ rest) = gone_by job rest
gone_by job ((p, looked.LogFull) ∷ rest) = gone_by job rest

-- no more than they logged
pub most_by : (job : ℕ) (looks : List Look) → length (filter was_seen looks) + length (filter was_gone looks) ≤ length (logged_by job looks)
most_by job [] = omega arith
most_by job ((p, looked.Seen) ∷ rest) = (let more = most_by job rest in omega (arith, more))
most_by job ((p, looked.Gone) ∷ rest) = (let more = most_by job rest in omega (arith, more))
most_by job ((p, looked.Faulted column) ∷ rest) = (let more = most_by job rest in omega (arith, more))
most_by job ((p, looked.LogFull) ∷ rest) = most_by job rest

-- and that where each was answered
pub both_by : (job : ℕ) (looks : List Look) → AreAnswered looks → length (filter was_seen looks) + length (filter was_gone looks) ≡ length (logged_by job looks)
both_by job [] all = refl
both_by job ((p, looked.Seen) ∷ rest) all = (let more = both_by job rest (rest_answered (p, looked.Seen) rest all) in omega (arith, more))
both_by job ((p, looked.Gone) ∷ rest) all = (let more = both_by job rest (rest_answered (p, looked.Gone) rest all) in omega (arith, more))
both_by job ((p, looked.Faulted column) ∷ rest) all = absurd (all (p, looked.Faulted column) (contains_here (p, looked.Faulted column) rest))
both_by job ((p, looked.LogFull) ∷ rest) all = absurd (all (p, looked.LogFull) (contains_here (p, looked.LogFull) rest))

pub each_by : (job : ℕ) (looks : List Look) → AreAnswered looks → EachIs is_look (logged_by job looks)
each_by job [] all = λ e has. absurd (none_contained e has)
each_by job ((p, looked.Seen) ∷ rest) all =
    each_more is_look (entry.Seen job p.stripe p.column ∷ []) (logged_by job rest) (λ e has. ap is_look (sym (one_contained (entry.Seen job p.stripe p.column) e has)))
    (each_by job rest (rest_answered (p, looked.Seen) rest all))
each_by job ((p, looked.Gone) ∷ rest) all =
    each_more is_look (entry.Gone job p.stripe p.column ∷ []) (logged_by job rest) (λ e has. ap is_look (sym (one_contained (entry.Gone job p.stripe p.column) e has)))
    (each_by job rest (rest_answered (p, looked.Gone) rest all))
each_by job ((p, looked.Faulted column) ∷ rest) all = absurd (all (p, looked.Faulted column) (contains_here (p, looked.Faulted column) rest))
each_by job ((p, looked.LogFull) ∷ rest) all = absurd (all (p, looked.LogFull) (contains_here (p, looked.LogFull) rest))

-- a last look that was answered logged one entry more
pub one_more_by : (job : ℕ) (front : List Look) (last : Look) → AreAnswered (front ++ last ∷ []) → length (logged_by job front) < length (logged_by job (front ++ last ∷ []))
one_more_by job [] (p, looked.Seen) all = omega arith
one_more_by job [] (p, looked.Gone) all = omega arith
one_more_by job [] (p, looked.Faulted column) all = absurd (all (p, looked.Faulted column) (contains_here (p, looked.Faulted column) []))
one_more_by job [] (p, looked.LogFull) all = absurd (all (p, looked.LogFull) (contains_here (p, looked.LogFull) []))
one_more_by job ((p, looked.Seen) ∷ front) last all = (let more = one_more_by job front last (rest_answered (p, looked.Seen) (front ++ last ∷ []) all) in omega (arith, more))
one_more_by job ((p, looked.Gone) ∷ front) last all = (let more = one_more_by job front last (rest_answered (p, looked.Gone) (front ++ last ∷ []) all) in omega (arith, more))
one_more_by job ((p, looked.Faulted column) ∷ front) last all = absurd (all (p, looked.Faulted column) (contains_here (p, looked.Faulted column) (front ++ last ∷ [])))
one_more_by job ((p, looked.LogFull) ∷ front) last all = absurd (all (p, looked.LogFull) (contains_here (p, looked.LogFull) (front ++ last ∷ [])))

-- LOOK AFTER LOOK

-- the place was looked at
abbrev pub WasLooked : List Entry → ℕ → ℕ → ℕ → Type 0
WasLooked entries job n k = Contains entries (entry.Seen job n k) ⊎ Contains entries (entry.Gone job n k)

looked_more : (xs ys : List Entry) (job n k : ℕ) → WasLooked xs job n k → WasLooked (xs ++ ys) job n k
looked_more xs ys job n k (inl a) = inl (Contains-append_left xs ys (entry.Seen job n k) a)
looked_more xs ys job n k (inr a) = inr (Contains-append_left xs ys (entry.Gone job n k) a)

looked_last : (xs ys : List Entry) (job n k : ℕ) → WasLooked ys job n k → WasLooked (xs ++ ys) job n k
looked_last xs ys job n k (inl a) = inl (Contains-append_right xs ys (entry.Seen job n k) a)
looked_last xs ys job n k (inr a) = inr (Contains-append_right xs ys (entry.Gone job n k) a)

-- the place is done: it was looked at, or was not Live at some point of what a log gained
abbrev pub IsDone : List Entry → ℕ → Table → List Entry → List Entry → ℕ → ℕ → Type 0
IsDone entries job first before added n k = WasLooked entries job n k ⊎ FailsIn is_live first before added n k

-- What was done before this place, by the job's own entries, while a log gained these.
pub record ScrubOn (job s c : ℕ) (entries : List Entry) (first : Table) (before added : List Entry) : Type 0 where
  pub ascends : Ascend (map place_in entries ++ (s, c) ∷ [])
  pub done : (n k : ℕ) → Precedes (n, k) (s, c) → IsDone entries job first before added n k
  pub live : WereLive job first before added

pub on_begin : (job : ℕ) (first : Table) (before : List Entry) → ScrubOn job 0 0 [] first before []
on_begin job first before = record {
  ascends = tt;
  done = λ n k low. absurd (none_before n k low);
  live = live_none job first before;
}

module _ (job s c : ℕ) (entries : List Entry) (first : Table) (before added : List Entry) (on : ScrubOn job s c entries first before added) where
  -- others logged more
  pub on_others : (others : List Entry) → own job others ≡ [] → ScrubOn job s c entries first before (added ++ others)
  on_others others none = record {
    ascends = on.ascends;
    done = λ n k low. ⊎_elim
        (λ (had : WasLooked entries job n k). inl had)
        (λ (failed : FailsIn is_live first before added n k). inr (fails_more is_live first before added others n k failed))
        (on.done n k low);
    live = live_others job first before added on.live others none;
  }

  -- the first Live slot at or after the place
  module _ (n' k' : ℕ) (next : IsNextPlace (replayed first (before ++ added)) is_live s c (Some (n', k'))) where
    pub on_ascends : Ascend (map place_in entries ++ (n', k') ∷ [])
    on_ascends = ascend_later (map place_in entries) (s, c) (n', k') on.ascends next.0.1

    -- each slot that was passed was not Live
    passed : (n k : ℕ) → AtOrAfter (s, c) (n, k) → Precedes (n, k) (n', k') → FailsIn is_live first before added n k
    passed n k at low = fails_last is_live first before added n k
        (λ in_stripes in_columns. let sizes = sizes_replayed first (before ++ added) in
        next.2 n k ((subst (λ m. n < m) (sym sizes.0) in_stripes, subst (λ m. k < m) (sym sizes.1) in_columns), at) low)

    -- an entry of its place has a slot that was Live
    pub on_live : (d : Entry) → place_in d ≡ (n', k') → WereLive job first before (added ++ d ∷ [])
    on_live d at = live_more job first before added on.live d (subst (λ (q : ℕ × ℕ). IsTrue (is_live (slot_at (replayed first (before ++ added)) q.0 q.1))) (sym at) next.1)

    -- it was looked at
    pub on_look : (e : Entry) → place_in e ≡ (n', k') → WasLooked (e ∷ []) job n' k' → ScrubOn job n' (k' + 1) (entries ++ e ∷ []) first before (added ++ e ∷ [])
    on_look e place was = record {
      ascends = subst (λ ps. Ascend (ps ++ (n', k' + 1) ∷ [])) (sym its_places) (ascend_more (map place_in entries) (n', k') (n', k' + 1) on_ascends (inr (refl, omega arith)));
      done = λ n k low. ⊎_elim
          (λ (less : Precedes (n, k) (n', k')). ⊎_elim
          (λ (front : Precedes (n, k) (s, c)). ⊎_elim
          (λ (had : WasLooked entries job n k). inl (looked_more entries (e ∷ []) job n k had))
          (λ (failed : FailsIn is_live first before added n k). inr (fails_more is_live first before added (e ∷ []) n k failed))
          (on.done n k front))
          (λ (at : AtOrAfter (s, c) (n, k)). inr (fails_more is_live first before added (e ∷ []) n k (passed n k at less)))
          (before_or_after n k s c))
          (λ (here : (n ≡ n') × (k ≡ k')).
          inl (subst (λ m. WasLooked (entries ++ e ∷ []) job m k) (sym here.0) (subst (λ m. WasLooked (entries ++ e ∷ []) job n' m) (sym here.1) (looked_last entries (e ∷ []) job n' k' was))))
          (before_next n k n' k' low);
      live = on_live e place;
    }
      where
        its_places : map place_in (entries ++ e ∷ []) ≡ map place_in entries ++ (n', k') ∷ []
        its_places = map-append place_in entries (e ∷ []) ∙ ap (λ q. map place_in entries ++ q ∷ []) place

-- the same of other names of the lists
pub on_same : {job s c : ℕ} {first : Table} {before : List Entry} (entries entries' added added' : List Entry) → entries ≡ entries' → added ≡ added'
    → ScrubOn job s c entries first before added → ScrubOn job s c entries' first before added'
on_same {job} {s} {c} {first} {before} entries entries' added added' one two on =
    subst (λ a. ScrubOn job s c entries' first before a) two (subst (λ es. ScrubOn job s c es first before added) one on)

-- ONE LOOK

module _ (told : Type 0) (job : ℕ) (p : Place) (into : List ℕ) (old new : GroupView) where
  is_here : (answer : Looked) → LookCause answer old new p.stripe p.column into → IsHere p answer
  is_here looked.Seen cause = tt
  is_here looked.Gone cause = tt
  is_here (looked.Faulted column) cause = cause.0
  is_here looked.LogFull cause = tt

  as_logged : (answer : Looked) → IsHere p answer → look_entries job p.stripe p.column (looked_as answer into) ≡ logged job p answer
  as_logged looked.Seen here = refl
  as_logged looked.Gone here = refl
  as_logged (looked.Faulted column) here = ap (λ k. entry.Fault job p.stripe k ∷ []) (sym here)
  as_logged looked.LogFull here = refl

  module _ (answer : Looked) (entries : List Entry) (call : LookCall told job p into answer old new entries) where
    look_here : IsHere p answer
    look_here = is_here answer call.cause

    look_logs : entries ≡ logged job p answer
    look_logs = call.entries_are ∙ as_logged answer look_here

    -- its entries lead on
    look_leads : (first : Table) (log : List Entry) → old.table ≡ replayed first log → new.table ≡ replayed first (log ++ entries)
    look_leads first log is = sym (replays_is old.table entries new.table call.logs.replay) ∙ (ap (λ t. replayed t entries) is ∙ sym (replayed_append first log entries))

-- a look that was answered, at the first Live slot at or after a place
on_answer : (job s c : ℕ) (entries : List Entry) (first : Table) (before added : List Entry) → ScrubOn job s c entries first before added → (p : Place)
    → IsNextPlace (replayed first (before ++ added)) is_live s c (Some (p.stripe, p.column)) → (answer : Looked) → IsLookAnswered (p, answer)
    → ScrubOn job p.stripe (p.column + 1) (entries ++ logged job p answer) first before (added ++ logged job p answer)
on_answer job s c entries first before added on p next looked.Seen held =
    on_look job s c entries first before added on p.stripe p.column next (entry.Seen job p.stripe p.column) refl (inl (one_in (entry.Seen job p.stripe p.column)))
on_answer job s c entries first before added on p next looked.Gone held =
    on_look job s c entries first before added on p.stripe p.column next (entry.Gone job p.stripe p.column) refl (inr (one_in (entry.Gone job p.stripe p.column)))
on_answer job s c entries first before added on p next (looked.Faulted column) held = absurd held
on_answer job s c entries first before added on p next looked.LogFull held = absurd held

-- LOOKS OF ONE TURN

-- the place behind the last of them
abbrev pub behind : ℕ → ℕ → List Look → ℕ × ℕ
behind s c [] = (s, c)
behind s c ((p, answer) ∷ rest) = behind p.stripe (p.column + 1) rest

pub behind_last : (s c : ℕ) (front : List Look) (p : Place) (answer : Looked) → behind s c (front ++ (p, answer) ∷ []) ≡ (p.stripe, p.column + 1)
behind_last s c [] p answer = refl
behind_last s c ((q, a) ∷ front) p answer = behind_last q.stripe (q.column + 1) front p answer

-- A look behind these entries, at the first Live slot at or after where they led.
pub record LastLook (job : ℕ) (entries : List Entry) (p : Place) (answer : Looked) (first : Table) (before added : List Entry) : Type 0 where
  pub stripe : ℕ
  pub column : ℕ
  pub sofar : List Entry
  pub on : ScrubOn job stripe column entries first before sofar
  pub next : IsNextPlace (replayed first (before ++ sofar)) is_live stripe column (Some (p.stripe, p.column))
  pub parts : added ≡ sofar ++ logged job p answer

module _ (told : Type 0) (job : ℕ) where
  pub turn_logs : (s c : ℕ) (looks : List Look) (old new : GroupView) (entries : List Entry) → LooksOn told job s c looks old new entries → entries ≡ logged_by job looks
  turn_logs s c [] old new entries on = on.0
  turn_logs s c ((p, answer) ∷ rest) old new entries on =
      let (into, mid, front, more, place, call, goes, parts) = on in
      parts ∙ (ap (λ l. l ++ more) (look_logs told job p into old mid answer front call)
      ∙ ap (λ l. logged job p answer ++ l) (turn_logs p.stripe (p.column + 1) rest mid new more goes))

  -- the last of them
  module _ (p : Place) (answer : Looked) where
    pub last_here : (s c : ℕ) (front : List Look) (old new : GroupView) (entries : List Entry) → LooksOn told job s c (front ++ (p, answer) ∷ []) old new entries → IsHere p answer
    last_here s c [] old new entries on =
        let (into, mid, first, more, place, call, goes, parts) = on in
        look_here told job p into old mid answer first call
    last_here s c ((q, a) ∷ front) old new entries on =
        let (into, mid, first, more, place, call, goes, parts) = on in
        last_here q.stripe (q.column + 1) front mid new more goes

    pub last_narrow : (s c : ℕ) (front : List Look) (old new : GroupView) (entries : List Entry) → LooksOn told job s c (front ++ (p, answer) ∷ []) old new entries
        → (t : Table) (log : List Entry) → old.table ≡ replayed t log → p.column < width t
    last_narrow s c [] old new entries on t log is =
        let (into, mid, first, more, place, call, goes, parts) = on in
        subst (λ n. p.column < n) (ap width is ∙ (sizes_replayed t log).1) place.1.0.0.1
    last_narrow s c ((q, a) ∷ front) old new entries on t log is =
        let (into, mid, first, more, place, call, goes, parts) = on in
        last_narrow q.stripe (q.column + 1) front mid new more goes t (log ++ first) (look_leads told job q into old mid a first call t log is)

  -- the log was full
  pub last_full_log : (p : Place) (s c : ℕ) (front : List Look) (old new : GroupView) (entries : List Entry) → LooksOn told job s c (front ++ (p, looked.LogFull) ∷ []) old new entries
      → length new.log ≡ log_bound
  last_full_log p s c [] old new entries on =
      let (into, mid, first, more, place, call, goes, parts) = on in
      ap (λ (g : GroupView). length g.log) (goes.1 ∙ call.cause) ∙ call.full.0 refl
  last_full_log p s c ((q, a) ∷ front) old new entries on =
      let (into, mid, first, more, place, call, goes, parts) = on in
      last_full_log p q.stripe (q.column + 1) front mid new more goes

  -- what was done with them
  module _ (first : Table) (before : List Entry) where
    -- the next of them
    on_turn : (s c : ℕ) (p : Place) (into : List ℕ) (answer : Looked) (old mid : GroupView) (one : List Entry) → LookCall told job p into answer old mid one → IsLookAnswered (p, answer)
        → (entries added : List Entry) → old.table ≡ replayed first (before ++ added) → IsNextPlace old.table is_live s c (Some (p.stripe, p.column))
        → ScrubOn job s c entries first before added → ScrubOn job p.stripe (p.column + 1) (entries ++ logged job p answer) first before (added ++ one)
    on_turn s c p into answer old mid one call held entries added is next on =
        on_same (entries ++ logged job p answer) (entries ++ logged job p answer) (added ++ logged job p answer) (added ++ one) refl
        (ap (λ l. added ++ l) (sym (look_logs told job p into old mid answer one call)))
        (on_answer job s c entries first before added on p (subst (λ t. IsNextPlace t is_live s c (Some (p.stripe, p.column))) is next) answer held)

    leads_on : (p : Place) (into : List ℕ) (answer : Looked) (old mid : GroupView) (one : List Entry) → LookCall told job p into answer old mid one → (added : List Entry)
        → old.table ≡ replayed first (before ++ added) → mid.table ≡ replayed first (before ++ (added ++ one))
    leads_on p into answer old mid one call added is = look_leads told job p into old mid answer one call first (before ++ added) is ∙ ap (replayed first) (append_assoc before added one)

    pub turn_done : (s c : ℕ) (looks : List Look) (old new : GroupView) (more : List Entry) → LooksOn told job s c looks old new more → AreAnswered looks
        → (entries added : List Entry) → old.table ≡ replayed first (before ++ added) → ScrubOn job s c entries first before added
        → ScrubOn job (behind s c looks).0 (behind s c looks).1 (entries ++ logged_by job looks) first before (added ++ more)
    turn_done s c [] old new more goes all entries added is on =
        on_same entries (entries ++ []) added (added ++ more) (sym (append-nil entries)) (sym (append-nil added) ∙ ap (λ l. added ++ l) (sym goes.0)) on
    turn_done s c ((p, answer) ∷ rest) old new more goes all entries added is on =
        let (into, mid, one, left, place, call, then, parts) = goes in
        let now = on_turn s c p into answer old mid one call (all (p, answer) (contains_here (p, answer) rest)) entries added is place.1 on in
        on_same ((entries ++ logged job p answer) ++ logged_by job rest) (entries ++ (logged job p answer ++ logged_by job rest)) ((added ++ one) ++ left) (added ++ more)
        (append_assoc entries (logged job p answer) (logged_by job rest)) (append_assoc added one left ∙ ap (λ l. added ++ l) (sym parts))
        (turn_done p.stripe (p.column + 1) rest mid new left then (rest_answered (p, answer) rest all) (entries ++ logged job p answer) (added ++ one)
        (leads_on p into answer old mid one call added is) now)

    -- the last look of a turn, with what was done before it
    pub turn_last : (p : Place) (answer : Looked) (s c : ℕ) (front : List Look) (old new : GroupView) (more : List Entry)
        → LooksOn told job s c (front ++ (p, answer) ∷ []) old new more → AreAnswered front
        → (entries added : List Entry) → old.table ≡ replayed first (before ++ added) → ScrubOn job s c entries first before added
        → LastLook job (entries ++ logged_by job front) p answer first before (added ++ more)
    turn_last p answer s c [] old new more goes all entries added is on =
        let (into, mid, one, left, place, call, then, parts) = goes in
        record {
          stripe = s;
          column = c;
          sofar = added;
          on = on_same entries (entries ++ []) added added (sym (append-nil entries)) refl on;
          next = subst (λ t. IsNextPlace t is_live s c (Some (p.stripe, p.column))) is place.1;
          parts = ap (λ l. added ++ l)
              (parts ∙ (ap (λ l. one ++ l) then.0 ∙ (append-nil one ∙ look_logs told job p into old mid answer one call)));
        }
    turn_last p answer s c ((q, a) ∷ front) old new more goes all entries added is on =
        let (into, mid, one, left, place, call, then, parts) = goes in
        let now = on_turn s c q into a old mid one call (all (q, a) (contains_here (q, a) front)) entries added is place.1 on in
        subst (λ es. LastLook job es p answer first before (added ++ more)) (append_assoc entries (logged job q a) (logged_by job front))
        (subst (λ l. LastLook job ((entries ++ logged job q a) ++ logged_by job front) p answer first before l) (append_assoc added one left ∙ ap (λ l. added ++ l) (sym parts))
        (turn_last p answer q.stripe (q.column + 1) front mid new left then (rest_answered (q, a) front all) (entries ++ logged job q a) (added ++ one)
        (leads_on q into a old mid one call added is) now))
