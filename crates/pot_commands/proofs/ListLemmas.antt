-- The names of the index, listed in one locked call.
use Rattle.std.proofs.Common.{◌≡◌, ◌<◌, ◌+◌, ℕ, List, [], ◌∷◌, ◌++◌, length, refl, ap, sym, ◌∙◌, subst, arith, append-nil, eq-eqb}
use Rattle.std.specs.Prelude.{Vec, Result, Ok, Err, IfSome, map}
use Rattle.std.specs.Global.{Global}
use lib.Seq.{drop-length}
use Rattle.pot_bytes.specs.declared.rack.Rack.{Rack}
use Rattle.pot_bytes.specs.Rack.{log_bound}
use Rattle.pot_index.specs.declared.entry.IndexEntry.TheVariants as entry
use Rattle.pot_index.specs.declared.entry.Logged.{Logged}
use Rattle.pot_index.specs.declared.fault.ListFault.{ListFault}
use Rattle.pot_index.specs.declared.fault.ListFault.TheVariants as list_fault
use Rattle.pot_index.specs.declared.listed.Listed.{Listed}
use Rattle.pot_index.specs.Entries.{plain}
use Rattle.pot_index.specs.Entries as index
use Rattle.pot_index.specs.Calls.{ListsNames, listed_of}
use Rattle.pot_index.specs.Index.{IndexView, names_read}
use Rattle.pot_turn.specs.declared.name.TurnName.{TurnName}
use Rattle.pot_worked.specs.WroteOnlyFor.{added}
use Rattle.pot_worked.specs.Laws.{AllOf}
use Rattle.pot_rows.specs.Rows.{view_at}
use Rattle.pot_rows.proofs.RowLemmas.{at_set}
use Rattle.pot_machine.specs.Logs.{own}
use Rattle.pot_replies.specs.Settings.{Setting}
use Rattle.pot_replies.specs.Sections.{Section, mine, IsSilent, NoneInGroups, names_after}
use Rattle.pot_replies.specs.Listings.{IsIndexFull, AreNamesListed}
use Rattle.pot_shared.specs.declared.catalog.CatalogOrigin.{CatalogOrigin}
use Rattle.pot_shared.specs.Members.{entries_of}
use Rattle.pot_shared.specs.Ready.{GroupPasses, AreReady}
use Rattle.pot_shared.specs.Catalogs.{IndexPasses, IsIndexReady}
use Rattle.pot_shared.specs.IndexCalls.{IndexCall, ListsIndex}
use Rattle.pot_shared.specs.Works.{of_job, gained, known, JobWroteOnly, JobOnlyWriter, IsSettingOf, section_of}
use Rattle.pot_shared.proofs.WorkLemmas.{all_none, all_one, row_stays, index_work, index_own}
use Rattle.pot_commands.proofs.Logs.{names_to, turn_added, same_end}

-- what a call logs by its answer
abbrev list_entries : ℕ → Result (Vec Listed Global) ListFault → List Logged
list_entries job (Ok v) = plain (entry.Listed job) ∷ []
list_entries job (Err e) = []

list_logs : (job : ℕ) (result : Result (Vec Listed Global) ListFault) (s t : IndexView) (entries : List Logged)
    → ListsNames job s t result → t.log ≡ s.log ++ entries → entries ≡ list_entries job result
list_logs job (Ok v) s t entries l log = same_end s.log entries (plain (entry.Listed job) ∷ []) t.log log (ap (λ (i : IndexView). i.log) l.2)
list_logs job (Err list_fault.LogFull) s t entries l log = same_end s.log entries [] t.log log (ap (λ (i : IndexView). i.log) l.1 ∙ sym (append-nil s.log))
list_logs job (Err list_fault.NoMemory) s t entries l log = same_end s.log entries [] t.log log (ap (λ (i : IndexView). i.log) l.1 ∙ sym (append-nil s.log))

list_own : (job : ℕ) (result : Result (Vec Listed Global) ListFault) → AllOf (index.is_of job) (list_entries job result)
list_own job (Ok v) = all_one (index.is_of job) (plain (entry.Listed job)) (eq-eqb job job refl)
list_own job (Err e) = all_none (index.is_of job)

-- what the answer says of the section
abbrev pub NamesSay : Setting → ℕ → Result (Vec Listed Global) ListFault → Section → Type 0
NamesSay s job (Ok v) w = AreNamesListed s job v.items w
NamesSay s job (Err list_fault.LogFull) w = IsIndexFull s 1 job w
NamesSay s job (Err list_fault.NoMemory) w = IsSilent (mine job w)

-- a row of passes that stayed gained nothing
pub none_gained : (job : ℕ) (row : GroupPasses) (g : ℕ) → own job (gained row row g) ≡ []
none_gained job row g = ap (λ ls. own job (entries_of ls)) (drop-length (view_at row g).seen)

module _ (rack : Rack) (names turn : List TurnName) (job : ℕ) (row : GroupPasses) (v w : IndexPasses) (ready : IsIndexReady rack names turn v)
    (result : Result (Vec Listed Global) ListFault) (call : IndexCall (ListsIndex job result) v w) where
  logs : call.turn.entries ≡ list_entries job result
  logs = list_logs job result call.turn.old call.turn.new call.turn.entries call.turn.call call.turn.log

  all_own : AllOf (index.is_of job) call.turn.entries
  all_own = subst (λ es. AllOf (index.is_of job) es) (sym logs) (list_own job result)

  pub names_worked : AreReady rack names row → JobWroteOnly job (known row v) (known row w)
  names_worked idle = record {
    groups = row_stays (of_job job) row idle.idle;
    index = index_work job rack names turn (ListsIndex job result) v w ready call all_own;
  }

  its_added : added (view_at v 0) (view_at w 0) ≡ call.turn.others ++ call.turn.entries
  its_added =
      let within : 0 < length v.views = (let a = ready.of.1 in let b = ready.one in omega (arith, a, b)) in
      let here : view_at w 0 ≡ call.pass = ap (λ (r : IndexPasses). view_at r 0) call.is ∙ at_set v 0 call.pass within in
      ap (added (view_at v 0)) here ∙ turn_added call.turn.others call.turn.entries (view_at v 0) call.pass call.turn.turn

  module _ (alone : JobOnlyWriter job (known row v) (known row w)) (s : Setting) (setting : IsSettingOf s rack (known row v)) where
    abbrev it : Section
    it = section_of (known row v) (known row w)

    no_groups : NoneInGroups (mine job it)
    no_groups g = none_gained job row g

    its_own : index.own job it.index_added ≡ list_entries job result
    its_own = index_own job rack names turn (ListsIndex job result) v w ready call all_own alone.index ∙ logs

    -- the log that the call met
    abbrev transition : List Logged
    transition = (view_at v 0).seen ++ call.turn.others

    same_read : s.read ≡ call.turn.old.read
    same_read = subst (λ o. IfSome o (λ (x : CatalogOrigin). s.read ≡ x.read)) (sym call.turn.origin.1) setting.read

    leads : names_after (names_read s.read) transition ≡ call.turn.old.now
    leads =
        ap (λ rs. names_after (names_read rs) transition) same_read
        ∙ (ap (names_after (names_read call.turn.old.read)) (sym call.turn.transition)
        ∙ names_to call.turn.old.rack (names_read call.turn.old.read) call.turn.old.now call.turn.old.log call.turn.is_old.replays)

    says : (r : Result (Vec Listed Global) ListFault) → ListsNames job call.turn.old call.turn.new r → call.turn.entries ≡ list_entries job r
        → index.own job it.index_added ≡ list_entries job r → NamesSay s job r it
    says (Ok x) l log mine_is = record {
      groups = no_groups;
      index = mine_is;
      sofar = call.turn.others;
      later = [];
      at = its_added ∙ ap (λ es. call.turn.others ++ es) log;
      are = l.1 ∙ ap (λ n. map listed_of n.published) (sym leads);
    }
    says (Err list_fault.LogFull) l log mine_is = record {
      silent = (no_groups, mine_is);
      log = transition;
      moment = record { sofar = call.turn.others; later = []; parts = its_added ∙ ap (λ es. call.turn.others ++ es) log; last = refl; is = refl };
      full = subst (λ n. log_bound < (length transition + length n.reserved) + 1) (sym leads) (subst (λ ls. log_bound < (length ls + length call.turn.old.now.reserved) + 1) call.turn.transition l.0);
    }
    says (Err list_fault.NoMemory) l log mine_is = (no_groups, mine_is)

    pub names_say : NamesSay s job result it
    names_say = says result call.turn.call logs its_own

-- A LIST, WHICH LEAVES THE GROUPS

module _ (rack : Rack) (names turn : List TurnName) (job : ℕ) (row row' : GroupPasses) (v w : IndexPasses) (idle : AreReady rack names row) (ready : IsIndexReady rack names turn v)
    (same : row' ≡ row) (result : Result (Vec Listed Global) ListFault) (call : IndexCall (ListsIndex job result) v w) where
  pub list_worked : JobWroteOnly job (known row v) (known row' w)
  list_worked = subst (λ (r : GroupPasses). JobWroteOnly job (known row v) (known r w)) (sym same) (names_worked rack names turn job row v w ready result call idle)

  pub list_says : JobOnlyWriter job (known row v) (known row' w) → (s : Setting) → IsSettingOf s rack (known row v) → NamesSay s job result (section_of (known row v) (known row' w))
  list_says = subst (λ (r : GroupPasses). JobOnlyWriter job (known row v) (known r w) → (s : Setting) → IsSettingOf s rack (known row v) → NamesSay s job result (section_of (known row v) (known r w))) (sym same)
      (λ alone s setting. names_say rack names turn job row v w ready result call alone s setting)
