-- The row of a command, found by its place in the script.
use Rattle.std.proofs.Common.{◌≡◌, ◌+◌, ◌<◌, ℕ, zero, suc, List, [], ◌∷◌, ◌++◌, Some, length, refl, sym, subst, arith}
use Rattle.std.specs.Prelude.{Contains, slice_get}
use Rattle.std.proofs.lemmas.List.Elements.{Contains-append_left, Contains-append_right}
use Rattle.std.proofs.lemmas.Option.{same_Some}
use Rattle.pot_machine.specs.declared.entry.Entry.{Entry}
use Rattle.pot_script.specs.declared.command.Command.{Command}
use Rattle.pot_script.specs.declared.grouping.Step.{Step}
use Rattle.pot_script.specs.declared.grouping.Step.TheVariants as steps
use Rattle.pot_script.specs.declared.reply.Reply.{Reply}
use Rattle.pot_replies.specs.Sections.{Section, MovesThenRest}
use Rattle.pot_replies.specs.Sessions.{AreSections, Answered, Answers, jobs_in}
use Rattle.pot_replies.specs.Settings.{Setting}
use Rattle.pot_commands.specs.Rows.{Row}
use Rattle.pot_commands.specs.Steps.{step_of, steps_of}
use Rattle.pot_promises.specs.Answers.{IsAnswered, CommandStandsAt, count_replies}
use Rattle.pot_promises.proofs.Walking.{answered_behind, line_row}
use Rattle.pot_promises.proofs.Replying.{as_many}

-- A command has its row on a section, whose entries stand in the whole, and this is its first
-- reply.
pub record HasReply (s : Setting) (w : Section) (c : Command) (r : Reply) : Type 0 where
  pub job : ℕ
  pub one : Section
  pub halves : MovesThenRest one
  pub its : List Reply
  pub row : Row s job c its one halves
  pub first : slice_get its 0 ≡ Some r
  pub within : (g : ℕ) (e : Entry) → Contains (one.added g) e → Contains (w.added g) e

first_of : (now later : List Reply) (r : Reply) → 0 < length now → slice_get (now ++ later) 0 ≡ Some r → slice_get now 0 ≡ Some r
first_of [] later r some first = absurd (omega (arith, some))
first_of (x ∷ now) later r some first = first

module _ (s : Setting) where
  here : (x : Step) (job i : ℕ) (now later rs : List Reply) (o w : Section) (h : MovesThenRest o) (c : Command) (r : Reply) → Answered (Row s) job (step_of x) now o h
      → rs ≡ now ++ later → 0 < count_replies s.rack c → CommandStandsAt x i c → slice_get rs i ≡ Some r
      → ((g : ℕ) (e : Entry) → Contains (o.added g) e → Contains (w.added g) e) → HasReply s w c r
  here (steps.One d) job i now later rs o w h c r row is some (none, same) at within =
      let its : Row s job c now o h = subst (λ x. Row s job x now o h) same row in
      let many : length now ≡ count_replies s.rack c = as_many s job c now o h its in
      record {
        job = job;
        one = o;
        halves = h;
        its = now;
        row = its;
        first = first_of now later r (omega (arith, some, many)) (subst (λ l. slice_get l 0 ≡ Some r) is (subst (λ n. slice_get rs n ≡ Some r) none at));
        within = within;
      }
  here (steps.Together lines) job i now later rs o w h c r rows is some stands at within = record {
    job = job + i;
    one = o;
    halves = h;
    its = r ∷ [];
    row = line_row s lines job i now o h c r later rows stands (subst (λ l. slice_get l i ≡ Some r) is at);
    first = refl;
    within = within;
  }

  pub reply_of : (ss : List Step) (job : ℕ) (ones : List Section) (rs : List Reply) (w : Section) (k i : ℕ) (c : Command) (r : Reply)
      → AreSections job (steps_of ss) ones w → Answers (Row s) job (steps_of ss) ones rs → 0 < count_replies s.rack c
      → IsAnswered s.rack ss rs k i c r → HasReply s w c r
  reply_of [] job ones rs w k i c r are answers some answered = let no = answered.there in absurd (cc no)
  reply_of (x ∷ ss) job [] rs w k i c r are answers some answered = absurd are
  reply_of (x ∷ ss) job (o ∷ ones) rs w zero i c r (rest, follows, its, more) (h, now, later, is, row, behind) some answered =
      here x job i now later rs o w h c r row is some (subst (λ y. CommandStandsAt y i c) (sym (same_Some x answered.step answered.there)) answered.command)
      (subst (λ n. slice_get rs n ≡ Some r) (let e : 0 + i ≡ i = omega arith in e) answered.reply)
      (λ g e there. subst (λ l. Contains l e) (sym (follows.is_added g)) (Contains-append_left (o.added g) (rest.added g) e there))
  reply_of (x ∷ ss) job (o ∷ ones) rs w (suc k) i c r (rest, follows, its, more) (h, now, later, is, row, behind) some answered =
      let there : HasReply s rest c r = reply_of ss (job + jobs_in (step_of x)) ones later rest k i c r more behind some
      (answered_behind s x ss job now later rs o h k i c r row is answered) in
      record {
        job = there.job;
        one = there.one;
        halves = there.halves;
        its = there.its;
        row = there.row;
        first = there.first;
        within = λ g e at. subst (λ l. Contains l e) (sym (follows.is_added g)) (Contains-append_right (o.added g) (rest.added g) e (there.within g e at));
      }
