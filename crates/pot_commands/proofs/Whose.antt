-- Whose entries stand in the section of a command.
use Rattle.std.proofs.Common.{◌≡◌, ◌==◌, ℕ, suc, true, List, [], ◌∷◌, ◌++◌, refl, ap, sym, ◌∙◌, subst, arith, append-nil, eq-eqb, eqb-true}
use Rattle.std.specs.Prelude.{filter}
use mathlib.Core.Path.{fun_ext}
use Rattle.pot_machine.specs.declared.entry.Entry.{Entry}
use Rattle.pot_machine.specs.Logs.{job_of, is_of, own}
use Rattle.pot_index.specs.declared.entry.Logged as of_index
use Rattle.pot_index.specs.Entries as index
use Rattle.pot_worked.specs.WroteOnlyFor.{added}
use Rattle.pot_worked.specs.Laws.{AllOf}
use Rattle.pot_worked.proofs.OnlyWriterLemmas.{sole_owns}
use Rattle.pot_rows.specs.Rows.{view_at}
use Rattle.pot_script.specs.declared.command.Command.{Command}
use Rattle.pot_script.specs.declared.command.Command.TheVariants as commands
use Rattle.pot_script.specs.declared.reply.Reply.{Reply}
use Rattle.pot_replies.specs.Jobs.{is_move_begin}
use Rattle.pot_replies.specs.Settings.{Setting}
use Rattle.pot_replies.specs.Sections.{Section, IsAmong, IsOfJobs, MovesThenRest, work_of}
use Rattle.pot_shared.specs.declared.member.Logged.{Logged}
use Rattle.pot_shared.specs.Members.{entries_of}
use Rattle.pot_shared.specs.Works.{of_job, Known, JobWroteOnly, section_of}
use Rattle.pot_commands.specs.Rows.{AreReplies, Row}
use Rattle.pot_shared.specs.Going.{AllOnlyWriters}
use Rattle.pot_commands.proofs.NoMoves.{begins_none}

among_one : (job k : ℕ) → (k == job) ≡ true → IsAmong job 1 k
among_one job k is = let same : k ≡ job = eqb-true k job is in (omega (arith, same), omega (arith, same))

entry_of : (job : ℕ) (ls : List Logged) → AllOf (of_job job) ls → (x y : List Entry) (e : Entry) → entries_of ls ≡ x ++ e ∷ y → is_of job e ≡ true
entry_of job [] all [] y e at = absurd (cc at)
entry_of job [] all (z ∷ x) y e at = absurd (cc at)
entry_of job (l ∷ ls) all [] y e at = let head : l.entry ≡ e = cc at in ap (is_of job) (sym head) ∙ all 0 l refl
entry_of job (l ∷ ls) all (z ∷ x) y e at = entry_of job ls (λ i f is. all (suc i) f is) x y e (cc at)

index_entry_of : (job : ℕ) (ls : List of_index.Logged) → AllOf (index.is_of job) ls → (x y : List of_index.Logged) (e : of_index.Logged) → ls ≡ x ++ e ∷ y → index.is_of job e ≡ true
index_entry_of job [] all [] y e at = absurd (cc at)
index_entry_of job [] all (z ∷ x) y e at = absurd (cc at)
index_entry_of job (l ∷ ls) all [] y e at = let head : l ≡ e = cc at in ap (index.is_of job) (sym head) ∙ all 0 l refl
index_entry_of job (l ∷ ls) all (z ∷ x) y e at = index_entry_of job ls (λ i f is. all (suc i) f is) x y e (cc at)

pub its_jobs : (job : ℕ) (old new : Known) → JobWroteOnly job old new → AllOnlyWriters old new → IsOfJobs job 1 (section_of old new)
its_jobs job old new worked sole = record {
  groups = λ g x y e at.
      let v = view_at old.groups g in
      let w = view_at new.groups g in
      among_one job (job_of e) (entry_of job (added v w) (sole_owns (of_job job) v w (worked.groups g) (sole.groups g)) x y e at);
  index = λ x y e at.
      let v = view_at old.index 0 in
      let w = view_at new.index 0 in
      among_one job (index.job_in e.entry) (index_entry_of job (added v w) (sole_owns (index.is_of job) v w (worked.index 0) (sole.index 0)) x y e at);
}

-- where all entries are the job's, they are its own
pub own_all : (job : ℕ) (es : List Entry) → ((x y : List Entry) (e : Entry) → es ≡ x ++ e ∷ y → IsAmong job 1 (job_of e)) → own job es ≡ es
own_all job [] each = refl
own_all job (e ∷ es) each =
    let here : is_of job e ≡ true = eq-eqb (job_of e) job (let a = (each [] es e refl).0 in let b = (each [] es e refl).1 in omega (arith, a, b)) in
    rw here (ap (λ l. e ∷ l) (own_all job es (λ x y f at. each (e ∷ x) y f (ap (λ l. e ∷ l) at))))

-- the table of replies for a command that began no move
row_of : (s : Setting) (job : ℕ) (c : Command) (rs : List Reply) (w : Section) (h : MovesThenRest w) → ((from to : ℕ) → c ≡ commands.Migrate from to → ⊥) → ((g : ℕ) → own job (h.begun g) ≡ []) → IsOfJobs job 1 (work_of w h)
    → AreReplies s job c rs (work_of w h) → Row s job c rs w h
row_of s job (commands.Replace from to) (r ∷ []) w h ne none its row = (none, row its)
row_of s job (commands.Migrate from to) rs w h ne none its row = absurd (ne from to refl)
row_of s job _ _ w h ne none its row = (none, row)

-- it is judged on all that it added
began_none : (s : Setting) (job : ℕ) (c : Command) (rs : List Reply) (w : Section) → ((from to : ℕ) → c ≡ commands.Migrate from to → ⊥) → IsOfJobs job 1 w → AreReplies s job c rs w → (h : MovesThenRest w) × Row s job c rs w h
began_none s job c rs w ne its row =
    let h : MovesThenRest w = record {
      begun = λ g. [];
      worked = w.added;
      parts = λ g. refl;
      begins = λ g e (k, lt, at). absurd (omega (arith, lt));
      no_more = λ g. ap (filter is_move_begin) (sym (own_all job (w.added g) (its.groups g))) ∙ begins_none s job c rs w ne its row g;
      in_order = λ g. tt;
    } in
    let befores : (λ g. w.before g ++ []) ≡ w.before = fun_ext (λ g. append-nil (w.before g)) in
    let whole : work_of w h ≡ w = λ i. record { before = befores i; added = w.added; index_before = w.index_before; index_added = w.index_added } in
    (h, row_of s job c rs w h ne (λ g. refl) (subst (λ (x : Section). IsOfJobs job 1 x) (sym whole) its) (subst (λ (x : Section). AreReplies s job c rs x) (sym whole) row))

-- a command that has its replies is judged by the table
pub judged : (s : Setting) (job : ℕ) (c : Command) (rs : List Reply) (w : Section) → IsOfJobs job 1 w → AreReplies s job c rs w → (h : MovesThenRest w) × Row s job c rs w h
judged s job (commands.Migrate from to) (r ∷ []) w its row = row its
judged s job (commands.Store name file) rs w its row = began_none s job (commands.Store name file) rs w (λ a b e. cc e) its row
judged s job (commands.Fetch name) rs w its row = began_none s job (commands.Fetch name) rs w (λ a b e. cc e) its row
judged s job (commands.Renew name geometry) rs w its row = began_none s job (commands.Renew name geometry) rs w (λ a b e. cc e) its row
judged s job commands.List rs w its row = began_none s job commands.List rs w (λ a b e. cc e) its row
judged s job commands.Status rs w its row = began_none s job commands.Status rs w (λ a b e. cc e) its row
judged s job (commands.Scrub group) rs w its row = began_none s job (commands.Scrub group) rs w (λ a b e. cc e) its row
judged s job (commands.Repair group) rs w its row = began_none s job (commands.Repair group) rs w (λ a b e. cc e) its row
judged s job (commands.Replace from to) rs w its row = began_none s job (commands.Replace from to) rs w (λ a b e. cc e) its row
judged s job _ _ w its row = absurd row
