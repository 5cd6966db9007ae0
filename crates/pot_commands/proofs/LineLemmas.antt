-- The line of a group, counted in one locked call.
use Rattle.std.proofs.Common.{◌≡◌, ℕ, suc, List, [], ◌∷◌, ◌++◌, length, refl, ap, sym, ◌∙◌, subst, eq-eqb}
use Rattle.std.specs.Prelude.{Result, Ok, Err}
use Rattle.pot_machine.specs.declared.entry.Entry.{Entry}
use Rattle.pot_machine.specs.declared.entry.Entry.TheVariants.{Counted}
use Rattle.pot_machine.specs.Table.{Table}
use Rattle.pot_machine.specs.Logs.{is_of, own, replayed}
use Rattle.pot_machine.proofs.Logs.{replays_is}
use Rattle.pot_group.specs.declared.counting.Counts as of_group
use Rattle.pot_group.specs.declared.telling.LogFull.{LogFull}
use Rattle.pot_group.specs.Counting.{AreSlotsCounted}
use Rattle.pot_group.specs.Group.{GroupView}
use Rattle.pot_worked.specs.WroteOnlyFor.{added, OnlyWriterOf}
use Rattle.pot_worked.specs.Laws.{AllOf}
use Rattle.pot_worked.proofs.WroteOnlyForLemmas.{own_in_turn}
use Rattle.pot_script.specs.declared.reply.Reply.{Reply}
use Rattle.pot_replies.specs.Settings.{Setting}
use Rattle.pot_replies.specs.Sections.{Section}
use Rattle.pot_replies.specs.Listings.{GroupCounts, counts_of, StatusLine, Group, GroupFull, IsStatusLine}
use Rattle.pot_shared.specs.declared.member.Logged.{Logged}
use Rattle.pot_shared.specs.Members.{entries_of}
use Rattle.pot_shared.specs.Ready.{GroupPass, GroupPasses}
use Rattle.pot_group.specs.Calls.{CountCall}
use Rattle.pot_shared.specs.Calls.{CallTurn, CallAt, marked}
use Rattle.pot_shared.proofs.MemberLemmas.{entries_all, entries_append, entries_kept}
use Rattle.pot_shared.specs.Works.{of_job}
use Rattle.pot_shared.proofs.WorkLemmas.{all_none, all_cons, all_one, own_entries}
use Rattle.pot_commands.specs.Rows.{reply_of_line}
use Rattle.pot_commands.specs.Counting.{CountsTable, CountsLine}
use Rattle.pot_commands.proofs.Logs.{turn_added}

-- what a count of a group gives is the counts of its table
abbrev pub plain_counts : of_group.Counts → GroupCounts
plain_counts c = record { live = c.live; lost = c.lost; broken = c.broken; stripe = c.stripe; column = c.column }

counted_is : (t : Table) (c : of_group.Counts) → AreSlotsCounted t c → plain_counts c ≡ counts_of t
counted_is t c is = cc (is.live, is.lost, is.broken, is.stripe, is.column)

-- the line of an answer
abbrev pub line_of : Result of_group.Counts LogFull → StatusLine
line_of (Ok c) = Group (plain_counts c)
line_of (Err e) = GroupFull

counts_table : (told : Type 0) (job : ℕ) (result : Result of_group.Counts LogFull) (old new : GroupView) (entries : List Entry)
    → CountCall told job result old new entries → CountsTable job (line_of result) old new entries
counts_table told job (Ok c) old new entries is = (is.0, counted_is old.table c is.1)
counts_table told job (Err e) old new entries is = (is.0, is.2)

pub line_counted : (told : Type 0) (job group : ℕ) (result : Result of_group.Counts LogFull) (reply : Reply) (old new : GroupPasses)
    → reply ≡ reply_of_line group (line_of result) → CallAt told (CountCall told job result) group old new → CountsLine told job group reply old new
line_counted told job group result reply old new is call =
    let t = call.turn in
    record {
      line = line_of result;
      is = is;
      call = record {
        pass = call.pass;
        is = call.is;
        turn = record {
          old = t.old;
          new = t.new;
          others = t.others;
          entries = t.entries;
          transition = t.transition;
          origin = t.origin;
          settled_old = t.settled_old;
          read = t.read;
          settled = t.settled;
          first = t.first;
          log = t.log;
          more = t.more;
          blinds = t.blinds;
          turn = t.turn;
          call = counts_table told job result t.old t.new t.entries t.call;
        };
      };
    }

-- what a line logs
abbrev line_entries : ℕ → StatusLine → List Entry
line_entries job (Group c) = Counted job ∷ []
line_entries job GroupFull = []

line_logs : (job : ℕ) (line : StatusLine) (old new : GroupView) (entries : List Entry) → CountsTable job line old new entries → entries ≡ line_entries job line
line_logs job (Group c) old new entries is = is.0
line_logs job GroupFull old new entries is = is.0

line_own : (job : ℕ) (line : StatusLine) → AllOf (is_of job) (line_entries job line)
line_own job (Group c) = all_one (is_of job) (Counted job) (eq-eqb job job refl)
line_own job GroupFull = all_none (is_of job)

all_marked : (job : ℕ) (es : List Entry) (ls : List Logged) → entries_of ls ≡ es → AllOf (is_of job) es → AllOf (of_job job) ls
all_marked job [] [] same h = all_none (of_job job)
all_marked job (e ∷ es) [] same h = absurd (cc same)
all_marked job [] (l ∷ ls) same h = absurd (cc same)
all_marked job (e ∷ es) (l ∷ ls) same h =
    let head : l.entry ≡ e = cc same in
    all_cons (of_job job) l ls (ap (is_of job) head ∙ h 0 e refl) (all_marked job es ls (cc same) (λ i x is. h (suc i) x is))

-- ONE TURN, READ FROM THE SECTION

module _ (told : Type 0) (job : ℕ) (line : StatusLine) (v w : GroupPass) (turn : CallTurn told (CountsTable job line) v w) where
  its_entries : turn.entries ≡ line_entries job line
  its_entries = line_logs job line turn.old turn.new turn.entries turn.call

  pub all_own : AllOf (is_of job) turn.entries
  all_own = subst (λ es. AllOf (is_of job) es) (sym its_entries) (line_own job line)

  abbrev its_marked : List Logged
  its_marked = marked turn

  turn_own : OnlyWriterOf (of_job job) v w → own job (entries_of (added v w)) ≡ line_entries job line
  turn_own alone =
      own_entries job (added v w)
      ∙ (ap entries_of (own_in_turn (of_job job) v w turn.others its_marked turn.turn (all_marked job turn.entries its_marked (entries_all turn.new.shelves turn.more turn.entries) all_own) alone)
      ∙ (entries_all turn.new.shelves turn.more turn.entries ∙ its_entries))

  turn_gain : entries_of (added v w) ≡ entries_of turn.others ++ line_entries job line
  turn_gain =
      ap entries_of (turn_added turn.others its_marked v w turn.turn)
      ∙ (entries_append turn.others its_marked ∙ ap (λ es. entries_of turn.others ++ es) (entries_all turn.new.shelves turn.more turn.entries ∙ its_entries))

  met_log : turn.old.log ≡ entries_of v.seen ++ entries_of turn.others
  met_log = sym (entries_kept turn.old) ∙ (ap entries_of turn.transition ∙ entries_append v.seen turn.others)

  turn_leads : (first : Table) → first ≡ turn.old.first → replayed first (entries_of v.seen ++ entries_of turn.others) ≡ turn.old.table
  turn_leads first same =
      ap (λ t. replayed t (entries_of v.seen ++ entries_of turn.others)) same
      ∙ (ap (replayed turn.old.first) (sym met_log) ∙ replays_is turn.old.first turn.old.log turn.old.table turn.settled_old.replay)

-- the line of a group, where the job was alone there
pub line_stands : (told : Type 0) (job g : ℕ) (s : Setting) (it : Section) (v w : GroupPass) (line : StatusLine) → (turn : CallTurn told (CountsTable job line) v w)
    → OnlyWriterOf (of_job job) v w → s.first g ≡ turn.old.first → it.before g ≡ entries_of v.seen → it.added g ≡ entries_of (added v w) → IsStatusLine s job g line it
line_stands told job g s it v w (Group c) turn alone first before gains = record {
  own_is = ap (own job) gains ∙ turn_own told job (Group c) v w turn alone;
  sofar = entries_of turn.others;
  later = [];
  at = gains ∙ turn_gain told job (Group c) v w turn;
  are = turn.call.1 ∙ ap counts_of (sym (turn_leads told job (Group c) v w turn (s.first g) first) ∙ ap (λ b. replayed (s.first g) (b ++ entries_of turn.others)) (sym before));
}
line_stands told job g s it v w GroupFull turn alone first before gains = record {
  none = ap (own job) gains ∙ turn_own told job GroupFull v w turn alone;
  log = entries_of v.seen ++ entries_of turn.others;
  moment = record {
    sofar = entries_of turn.others;
    later = [];
    parts = gains ∙ turn_gain told job GroupFull v w turn;
    last = refl;
    is = ap (λ b. b ++ entries_of turn.others) (sym before);
  };
  full = ap length (sym (met_log told job GroupFull v w turn)) ∙ turn.call.1;
}
