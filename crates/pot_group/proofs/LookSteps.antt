-- A look as a step of a group.
use Rattle.std.proofs.Common.{◌≡◌, ◌<◌, ◌≤◌, ◌++◌, ◌+◌, ℕ, arith, length-append, append-nil, List, [], ◌∷◌, refl, ap, sym, subst, length}
use Rattle.pot_bytes.specs.declared.rack.Place.{Place}
use Rattle.pot_bytes.specs.Rack.{log_bound}
use Rattle.pot_machine.specs.declared.entry.Entry.{Entry}
use Rattle.pot_machine.specs.declared.entry.Entry.TheVariants as entry
use Rattle.pot_machine.specs.Slot.{is_live}
use Rattle.pot_machine.specs.Table.{width, serving_at}
use Rattle.pot_machine.specs.Machine.{Legal, Replays, after}
use Rattle.pot_bytes.specs.Digests.{digest_of}
use Rattle.pot_steps.specs.GroupStep.{LogsInStep, LookMeans, look_entries}
use Rattle.pot_group.specs.declared.answers.Looked.{Looked}
use Rattle.pot_group.specs.declared.answers.Looked.TheVariants as looked
use Rattle.pot_group.specs.declared.reads.Found.TheVariants as found
use Rattle.pot_group.specs.Looking.{Looks}
use Rattle.pot_shelves.specs.Shelves.{ShelvesStay}
use Rattle.pot_group.specs.Group.{GroupView, Logs, LookCause, looked_as, state_of}
use Rattle.pot_group.specs.Calls.{LookCall, Made}
use Rattle.pot_group.proofs.Rows.{grows_keeps, grows_same, no_tries}
use Rattle.pot_shelves.proofs.ShelfLemmas.{stays_refl}

-- the log has room for one more
room_for : (g : GroupView) (e : Entry) → length g.log < log_bound → length (g.log ++ e ∷ []) ≤ log_bound
room_for g e l = (let n : length (g.log ++ e ∷ []) ≡ length g.log + 1 = length-append g.log (e ∷ []) in omega arith)

-- The archives may have lost blocks, and an entry is logged.
module _ (told : Type 0) (g mid : GroupView) (job : ℕ) (place : Place) (into : List ℕ) (stripe : place.stripe < g.table.stripes) (column : place.column < width g.table) (room : length g.log < log_bound) where
  abbrev after_look : Entry → GroupView
  after_look e = record g { table = after g.table e; log = g.log ++ e ∷ []; shelves = mid.shelves }

  logs_one : (e : Entry) → Legal g.table e → Logs (e ∷ []) g (after_look e)
  logs_one e legal = record { number = refl; first = refl; log = refl; flights = refl; blinds = refl; tried = refl; replay = (legal, refl) }

  not_full : {X : Type 0} → length g.log ≡ log_bound → X
  not_full e = absurd (omega (arith, e, room))

  one_made : (answer : Looked) (e : Entry) → e ∷ [] ≡ look_entries job place.stripe place.column (looked_as answer into) → Legal g.table e → (answer ≡ looked.LogFull → ⊥) → ShelvesStay told g.shelves mid.shelves
      → LookCause answer g (after_look e) place.stripe place.column into → (told → LookMeans (state_of g) (state_of (after_look e)) place.stripe place.column (looked_as answer into))
      → Made (LookCall told job place into answer) g (after_look e)
  one_made answer e says legal other stays cause means = (
    e ∷ [],
    grows_keeps g (after_look e) (e ∷ []) refl refl refl (no_tries g (after_look e) refl) stays.keeps,
    record {
      logs = logs_one e legal;
      entries_are = says;
      full = (λ q. absurd (other q), λ q. not_full q);
      cause = cause;
      stays = stays;
      step = λ t. record {
        logs = subst (λ es. LogsInStep es (state_of g) (state_of (after_look e))) says (record { log = refl; room = room_for g e room; flights = refl; heard = stays.heard t });
        replay = subst (λ es. Replays g.table es (after g.table e)) says (legal, refl);
        loses = (λ n m b h. (stays.loses t n).keeps m b h);
        means = means t;
      };
    },
  )

  pub seen_made : Looks told place.stripe place.column into found.Sound g mid → Made (LookCall told job place into looked.Seen) g (after_look (entry.Seen job place.stripe place.column))
  seen_made looks = one_made looked.Seen (entry.Seen job place.stripe place.column) refl ((stripe, column), ap is_live looks.finds.0) (λ q. cc) looks.stays looks.finds.0
      (λ t. record { digest = digest_of into; live = looks.finds.0; held = (looks.stays.loses t (serving_at g.table place.stripe place.column)).keeps place.stripe into (looks.finds.1 t); right = refl })

  pub gone_made : Looks told place.stripe place.column into found.Missing g mid → Made (LookCall told job place into looked.Gone) g (after_look (entry.Gone job place.stripe place.column))
  gone_made looks = one_made looked.Gone (entry.Gone job place.stripe place.column) refl (stripe, column) (λ q. cc) looks.stays tt looks.finds

  pub faulted_made : Looks told place.stripe place.column into found.NotRead g mid
      → Made (LookCall told job place into (looked.Faulted place.column)) g (after_look (entry.Fault job place.stripe place.column))
  faulted_made looks = one_made (looked.Faulted place.column) (entry.Fault job place.stripe place.column) refl (stripe, column) (λ q. cc) looks.stays
      (refl, looks.finds.0, looks.finds.2) (λ t. looks.finds.2)

-- the log is full, and nothing is logged
pub full_made : (told : Type 0) (g : GroupView) (job : ℕ) (place : Place) (into : List ℕ) → length g.log ≡ log_bound → Made (LookCall told job place into looked.LogFull) g g
full_made told g job place into full = (
  [],
  grows_same g g refl,
  record {
    logs = record { number = refl; first = refl; log = sym (append-nil g.log); flights = refl; blinds = refl; tried = refl; replay = refl };
    entries_are = refl;
    full = (λ q. full, λ q. refl);
    cause = refl;
    stays = stays_refl told g.shelves;
    step = λ t. record {
      logs = record { log = sym (append-nil g.log); room = omega (arith, full); flights = refl; heard = (λ n. refl) };
      replay = refl;
      loses = (λ n m b h. h);
      means = full;
    };
  },
)
