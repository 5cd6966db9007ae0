-- Which row a command has by its place in the script, and where the section of its step stands in
-- what a session added.
use Rattle.std.proofs.Common.{◌≡◌, ◌+◌, ◌<◌, ℕ, zero, suc, List, [], ◌∷◌, ◌++◌, Some, length, refl, ap, sym, ◌∙◌, subst, arith, append_assoc, append-nil}
use Rattle.std.specs.Prelude.{Contains, option_map, slice_get, take}
use Rattle.std.proofs.lemmas.List.{take-map}
use Rattle.std.proofs.lemmas.List.Elements.{Contains-append_left, Contains-append_right}
use Rattle.std.proofs.lemmas.Option.{same_Some, slice_get-map, slice_get_within}
use Rattle.pot_index.specs.declared.entry.Logged.{Logged}
use Rattle.pot_index.specs.Entries as index
use Rattle.pot_machine.specs.declared.entry.Entry.{Entry}
use Rattle.pot_machine.specs.Logs.{own}
use Rattle.pot_replies.specs.Sections.{Section, MovesThenRest, FollowsSection}
use Rattle.pot_replies.specs.Sessions.{AreSections, Answered, Answers, Rows, jobs_in, jobs_of}
use Rattle.pot_replies.specs.Settings.{Setting}
use Rattle.pot_replies.proofs.SessionLemmas.{own_in_sections}
use Rattle.pot_script.specs.declared.command.Command.{Command}
use Rattle.pot_script.specs.declared.grouping.Step.{Step}
use Rattle.pot_script.specs.declared.grouping.Step.TheVariants as steps
use Rattle.pot_script.specs.declared.reply.Reply.{Reply}
use Rattle.pot_commands.specs.Rows.{Row}
use Rattle.pot_commands.specs.Steps.{step_of, steps_of}
use Rattle.pot_promises.specs.Answers.{IsAnswered, CommandStandsAt, count_in, count_replies, reply_place, job_at}
use Rattle.pot_promises.proofs.Replying.{as_many, element_behind, element_in_front, element_pushed}

module _ (s : Setting) where
  -- THE REPLY OF A PLACE

  -- a line of a batch has the reply of its place
  pub line_row : (lines : List Command) (job i : ℕ) (now : List Reply) (w : Section) (h : MovesThenRest w) (c : Command) (r : Reply) (later : List Reply) → Rows (Row s) job lines now w h
      → slice_get lines i ≡ Some c → slice_get (now ++ later) i ≡ Some r → Row s (job + i) c (r ∷ []) w h
  line_row [] job i now w h c r later rows at first = absurd (cc at)
  line_row (l ∷ ls) job zero now w h c r later (x, more, is, row, rest) at first =
      let its : x ≡ r = same_Some x r (subst (λ n. slice_get (n ++ later) 0 ≡ Some r) is first) in
      subst (λ j. Row s j c (r ∷ []) w h) (let e : job ≡ job + 0 = omega arith in e)
      (subst (λ d. Row s job d (r ∷ []) w h) (same_Some l c at) (subst (λ y. Row s job l (y ∷ []) w h) its row))
  line_row (l ∷ ls) job (suc i) now w h c r later (x, more, is, row, rest) at first =
      subst (λ j. Row s j c (r ∷ []) w h) (let e : suc job + i ≡ job + suc i = omega arith in e)
      (line_row ls (suc job) i more w h c r later rest at (subst (λ n. slice_get (n ++ later) (suc i) ≡ Some r) is first))

  -- and so has a command alone that has one
  one_row : (d : Command) (job : ℕ) (now : List Reply) (w : Section) (h : MovesThenRest w) (c : Command) (r : Reply) (later : List Reply) → Row s job d now w h
      → d ≡ c → count_replies s.rack c ≡ 1 → slice_get (now ++ later) 0 ≡ Some r → Row s job c (r ∷ []) w h
  one_row d job [] w h c r later row same one first =
      absurd (let none : 0 ≡ 1 = as_many s job d [] w h row ∙ (ap (count_replies s.rack) same ∙ one) in let no : ⊥ = omega (arith, none) in no)
  one_row d job (x ∷ []) w h c r later row same one first =
      subst (λ e. Row s job e (r ∷ []) w h) same (subst (λ y. Row s job d (y ∷ []) w h) (same_Some x r first) row)
  one_row d job (x ∷ y ∷ now) w h c r later row same one first =
      absurd (let two : suc (suc (length now)) ≡ 1 = as_many s job d (x ∷ y ∷ now) w h row ∙ (ap (count_replies s.rack) same ∙ one) in let no : ⊥ = omega (arith, two) in no)

  its_row : (d : Step) (job i : ℕ) (now : List Reply) (w : Section) (h : MovesThenRest w) (c : Command) (r : Reply) (later : List Reply) → Answered (Row s) job (step_of d) now w h
      → CommandStandsAt d i c → count_replies s.rack c ≡ 1 → slice_get (now ++ later) i ≡ Some r → Row s (job + i) c (r ∷ []) w h
  its_row (steps.One d) job i now w h c r later row (none, same) one first =
      subst (λ j. Row s j c (r ∷ []) w h) (let e : job ≡ job + i = omega (arith, none) in e)
      (one_row d job now w h c r later row same one (subst (λ n. slice_get (now ++ later) n ≡ Some r) none first))
  its_row (steps.Together lines) job i now w h c r later rows at one first = line_row lines job i now w h c r later rows at first

  rows_many : (lines : List Command) (job : ℕ) (now : List Reply) (w : Section) (h : MovesThenRest w) → Rows (Row s) job lines now w h → length now ≡ length lines
  rows_many [] job now w h rows = ap length rows
  rows_many (l ∷ ls) job now w h (x, more, is, row, rest) = ap length is ∙ ap suc (rows_many ls (suc job) more w h rest)

  step_many : (d : Step) (job : ℕ) (now : List Reply) (w : Section) (h : MovesThenRest w) → Answered (Row s) job (step_of d) now w h → length now ≡ count_in s.rack d
  step_many (steps.One c) job now w h row = as_many s job c now w h row
  step_many (steps.Together lines) job now w h rows = rows_many lines job now w h rows

  -- what is answered in a later step has its reply behind those of the first
  pub answered_behind : (d : Step) (ss : List Step) (job : ℕ) (now later rs : List Reply) (w : Section) (h : MovesThenRest w) (k i : ℕ) (c : Command) (r : Reply)
      → Answered (Row s) job (step_of d) now w h → rs ≡ now ++ later → IsAnswered s.rack (d ∷ ss) rs (suc k) i c r → IsAnswered s.rack ss later k i c r
  answered_behind d ss job now later rs w h k i c r row is answered = record {
    step = answered.step;
    there = answered.there;
    command = answered.command;
    reply = element_behind now later (reply_place s.rack ss k + i) r
        (subst (λ n. slice_get (now ++ later) n ≡ Some r)
        (let many = step_many d job now w h row in let e : (count_in s.rack d + reply_place s.rack ss k) + i ≡ length now + (reply_place s.rack ss k + i) = omega (arith, many) in e)
        (subst (λ l. slice_get l ((count_in s.rack d + reply_place s.rack ss k) + i) ≡ Some r) is answered.reply));
  }

  -- and what is answered in the first has its row
  answered_here : (d : Step) (ss : List Step) (job : ℕ) (now later rs : List Reply) (w : Section) (h : MovesThenRest w) (i : ℕ) (c : Command) (r : Reply)
      → Answered (Row s) job (step_of d) now w h → rs ≡ now ++ later → count_replies s.rack c ≡ 1 → IsAnswered s.rack (d ∷ ss) rs zero i c r → Row s (job + i) c (r ∷ []) w h
  answered_here d ss job now later rs w h i c r row is one answered =
      its_row d job i now w h c r later row (subst (λ x. CommandStandsAt x i c) (sym (same_Some d answered.step answered.there)) answered.command) one
      (subst (λ l. slice_get l i ≡ Some r) is (subst (λ n. slice_get rs n ≡ Some r) (let e : 0 + i ≡ i = omega arith in e) answered.reply))

  -- and the other way: a reply of the first step is one of all
  pub is_answered_here : (d : Step) (ss : List Step) (now later rs : List Reply) (i : ℕ) (c : Command) (r : Reply) → rs ≡ now ++ later → CommandStandsAt d i c
      → slice_get now i ≡ Some r → IsAnswered s.rack (d ∷ ss) rs zero i c r
  is_answered_here d ss now later rs i c r is stands got = record {
    step = d;
    there = refl;
    command = stands;
    reply = subst (λ n. slice_get rs n ≡ Some r) (let e : i ≡ 0 + i = omega arith in e)
        (subst (λ l. slice_get l i ≡ Some r) (sym is) (element_in_front now later i r got));
  }

  -- and so is one of a later step
  pub is_answered_behind : (d : Step) (ss : List Step) (job : ℕ) (now later rs : List Reply) (w : Section) (h : MovesThenRest w) (k i : ℕ) (c : Command) (r : Reply)
      → Answered (Row s) job (step_of d) now w h → rs ≡ now ++ later → IsAnswered s.rack ss later k i c r → IsAnswered s.rack (d ∷ ss) rs (suc k) i c r
  is_answered_behind d ss job now later rs w h k i c r row is answered = record {
    step = answered.step;
    there = answered.there;
    command = answered.command;
    reply = subst (λ l. slice_get l ((count_in s.rack d + reply_place s.rack ss k) + i) ≡ Some r) (sym is)
        (subst (λ n. slice_get (now ++ later) n ≡ Some r)
        (let many = step_many d job now w h row in let e : length now + (reply_place s.rack ss k + i) ≡ (count_in s.rack d + reply_place s.rack ss k) + i = omega (arith, many) in e)
        (element_pushed now later (reply_place s.rack ss k + i) r answered.reply));
  }

  -- the section of step k, and the row of the command of a job in it
  pub record HasRow (ones : List Section) (k job : ℕ) (c : Command) (r : Reply) : Type 0 where
    pub one : Section
    pub there : slice_get ones k ≡ Some one
    pub halves : MovesThenRest one
    pub row : Row s job c (r ∷ []) one halves

  row_from : (ss : List Step) (job : ℕ) (ones : List Section) (rs : List Reply) (k i : ℕ) (c : Command) (r : Reply)
      → Answers (Row s) job (steps_of ss) ones rs → count_replies s.rack c ≡ 1 → IsAnswered s.rack ss rs k i c r
      → HasRow ones k ((job + jobs_of (steps_of (take k ss))) + i) c r
  row_from [] job ones rs k i c r answers one answered = let no = answered.there in absurd (cc no)
  row_from (x ∷ ss) job [] rs k i c r answers one answered = absurd answers
  row_from (x ∷ ss) job (o ∷ os) rs zero i c r (h, now, later, is, row, behind) one answered = record {
    one = o;
    there = refl;
    halves = h;
    row = subst (λ n. Row s n c (r ∷ []) o h) (let e : job + i ≡ (job + 0) + i = omega arith in e)
        (answered_here x ss job now later rs o h i c r row is one answered);
  }
  row_from (x ∷ ss) job (o ∷ os) rs (suc k) i c r (h, now, later, is, row, behind) one answered =
      let rest = row_from ss (job + jobs_in (step_of x)) os later k i c r behind one (answered_behind x ss job now later rs o h k i c r row is answered) in
      record {
        one = rest.one;
        there = rest.there;
        halves = rest.halves;
        row = subst (λ n. Row s n c (r ∷ []) rest.one rest.halves)
            (let jobs : ℕ = jobs_of (steps_of (take k ss)) in
            let e : ((job + jobs_in (step_of x)) + jobs) + i ≡ (job + (jobs_in (step_of x) + jobs)) + i = omega arith in e)
            rest.row;
      }

  pub row_at : (ss : List Step) (ones : List Section) (rs : List Reply) (k i : ℕ) (c : Command) (r : Reply) → Answers (Row s) 1 (steps_of ss) ones rs
      → count_replies s.rack c ≡ 1 → IsAnswered s.rack ss rs k i c r → HasRow ones k (job_at ss k i) c r
  row_at ss ones rs k i c r answers one answered =
      subst (λ n. HasRow ones k n c r) (let e : (1 + jobs_of (steps_of (take k ss))) + i ≡ job_at ss k i = omega arith in e)
      (row_from ss 1 ones rs k i c r answers one answered)

-- WHOSE ENTRIES A SECTION HAS

within : (d : Step) (i : ℕ) (c : Command) → CommandStandsAt d i c → i < jobs_in (step_of d)
within (steps.One e) i c (none, same) = omega (arith, none)
within (steps.Together lines) i c at = slice_get_within lines i c at

-- What all logs have of a command's job is what the section of its step has.
pub own_at : (ss : List Step) (ones : List Section) (w : Section) (k i : ℕ) (d : Step) (c : Command) (one : Section) → AreSections 1 (steps_of ss) ones w
    → slice_get ss k ≡ Some d → CommandStandsAt d i c → slice_get ones k ≡ Some one
    → ((g : ℕ) → own (job_at ss k i) (w.added g) ≡ own (job_at ss k i) (one.added g)) × (index.own (job_at ss k i) w.index_added ≡ index.own (job_at ss k i) one.index_added)
own_at ss ones w k i d c one are there stands here =
    let at : slice_get (steps_of ss) k ≡ Some (step_of d) = slice_get-map step_of ss k ∙ ap (option_map step_of) there in
    let front : jobs_of (take k (steps_of ss)) ≡ jobs_of (steps_of (take k ss)) = ap jobs_of (take-map step_of k ss) in
    let few = within d i c stands in
    own_in_sections 1 (steps_of ss) ones w are k (step_of d) one at here (job_at ss k i) (omega (arith, front), omega (arith, front, few))

-- WHERE A SECTION STANDS

-- what the logs had gained before a section, and what they gained after it
pub record IsCut (one w : Section) : Type 0 where
  pub earlier : ℕ → List Entry
  pub later : ℕ → List Entry
  pub before : (g : ℕ) → one.before g ≡ w.before g ++ earlier g
  pub added : (g : ℕ) → w.added g ≡ earlier g ++ (one.added g ++ later g)
  pub index_earlier : List Logged
  pub index_later : List Logged
  pub index_before : one.index_before ≡ w.index_before ++ index_earlier
  pub index_added : w.index_added ≡ index_earlier ++ (one.index_added ++ index_later)

cut_first : (one rest w : Section) → FollowsSection one rest w → IsCut one w
cut_first one rest w follows = record {
  earlier = λ g. [];
  later = rest.added;
  before = λ g. follows.begins g ∙ sym (append-nil (w.before g));
  added = follows.is_added;
  index_earlier = [];
  index_later = rest.index_added;
  index_before = follows.index_begins ∙ sym (append-nil w.index_before);
  index_added = follows.index_is_added;
}

cut_rest : (one rest w two : Section) → FollowsSection one rest w → IsCut two rest → IsCut two w
cut_rest one rest w two follows cut = record {
  earlier = λ g. one.added g ++ cut.earlier g;
  later = cut.later;
  before = λ g. cut.before g ∙ (ap (λ l. l ++ cut.earlier g) (follows.goes_on g) ∙ append_assoc (w.before g) (one.added g) (cut.earlier g));
  added = λ g. follows.is_added g
      ∙ (ap (λ l. one.added g ++ l) (cut.added g) ∙ sym (append_assoc (one.added g) (cut.earlier g) (two.added g ++ cut.later g)));
  index_earlier = one.index_added ++ cut.index_earlier;
  index_later = cut.index_later;
  index_before = cut.index_before ∙ (ap (λ l. l ++ cut.index_earlier) follows.index_goes_on ∙ append_assoc w.index_before one.index_added cut.index_earlier);
  index_added = follows.index_is_added
      ∙ (ap (λ l. one.index_added ++ l) cut.index_added ∙ sym (append_assoc one.index_added cut.index_earlier (two.index_added ++ cut.index_later)));
}

pub cut_at : (ss : List Step) (job : ℕ) (ones : List Section) (w : Section) (k : ℕ) (one : Section) → AreSections job (steps_of ss) ones w → slice_get ones k ≡ Some one → IsCut one w
cut_at [] job [] w k one are at = absurd (cc at)
cut_at [] job (o ∷ os) w k one are at = absurd are
cut_at (x ∷ ss) job [] w k one are at = absurd are
cut_at (x ∷ ss) job (o ∷ os) w zero one (rest, follows, of, more) at = subst (λ z. IsCut z w) (same_Some o one at) (cut_first o rest w follows)
cut_at (x ∷ ss) job (o ∷ os) w (suc k) one (rest, follows, of, more) at =
    cut_rest o rest w one follows (cut_at ss (job + jobs_in (step_of x)) os rest k one more at)

-- a section, cut behind another one: all that was added there stands before it
pub record IsBehind (one two w : Section) : Type 0 where
  pub cut : IsCut two w
  pub has : (g : ℕ) (e : Entry) → Contains (one.added g) e → Contains (cut.earlier g) e
  pub index_has : (x : Logged) → Contains one.index_added x → Contains cut.index_earlier x

pub behind_at : (ss : List Step) (job : ℕ) (ones : List Section) (w : Section) (p q : ℕ) (one two : Section) → p < q → AreSections job (steps_of ss) ones w
    → slice_get ones p ≡ Some one → slice_get ones q ≡ Some two → IsBehind one two w
unfolding cut_rest
behind_at [] job [] w p q one two lt are at there = absurd (cc at)
behind_at [] job (o ∷ os) w p q one two lt are at there = absurd are
behind_at (x ∷ ss) job [] w p q one two lt are at there = absurd are
behind_at (x ∷ ss) job (o ∷ os) w p zero one two lt are at there = absurd (omega (arith, lt))
behind_at (x ∷ ss) job (o ∷ os) w zero (suc q) one two lt (rest, follows, of, more) at there =
    let cut = cut_at ss (job + jobs_in (step_of x)) os rest q two more there in
    let same = same_Some o one at in
    record {
      cut = cut_rest o rest w two follows cut;
      has = λ g e here. Contains-append_left (o.added g) (cut.earlier g) e (subst (λ (z : Section). Contains (z.added g) e) (sym same) here);
      index_has = λ y here. Contains-append_left o.index_added cut.index_earlier y (subst (λ (z : Section). Contains z.index_added y) (sym same) here);
    }
behind_at (x ∷ ss) job (o ∷ os) w (suc p) (suc q) one two lt (rest, follows, of, more) at there =
    let it = behind_at ss (job + jobs_in (step_of x)) os rest p q one two (omega (arith, lt)) more at there in
    record {
      cut = cut_rest o rest w two follows it.cut;
      has = λ g e here. Contains-append_right (o.added g) (it.cut.earlier g) e (it.has g e here);
      index_has = λ y here. Contains-append_right o.index_added it.cut.index_earlier y (it.index_has y here);
    }
