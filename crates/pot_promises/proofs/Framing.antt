-- What the archives of a session may hold and may have heard after it.
use Rattle.std.proofs.Common.{◌≡◌, ◌<◌, ◌++◌, inl, inr, ℕ, IsTrue, List, [], length, sym, ◌∙◌, subst, arith}
use Rattle.std.specs.Prelude.{Contains}
use Rattle.pot_bytes.proofs.Elements.{element_at}
use Rattle.pot_outside.specs.Archives.{Meaning}
use Rattle.pot_outside.specs.Counts.{Rose}
use Rattle.pot_machine.specs.declared.entry.Entry.{Entry}
use Rattle.pot_machine.specs.Table.{Table, archives_in}
use Rattle.pot_steps.specs.declared.flight.Flight.{Flight}
use Rattle.pot_shelves.specs.Shelves.{Shelves}
use Rattle.pot_group.specs.Arrivals.{arrivals}
use Rattle.pot_group.specs.Frames.{Tries}
use Rattle.pot_group.specs.Group.{GroupView}
use Rattle.pot_group.specs.Heard.{FlyBy}
use Rattle.pot_shared.specs.Groups.{had_by}
use Rattle.pot_shared.specs.Hands.{times}
use Rattle.pot_shared.specs.Leaving.{AreWithin, IsArchiveFramed, LeavesGroup, Shows}
use Rattle.pot_session.specs.Serving.{IsInRoom}
use Rattle.pot_session.proofs.LossLemmas.{get_within}
use Rattle.pot_promises.specs.Frames.{FrameOfRun, IsSessionFramed}

-- what is shown of an archive is what it means
shown_framed : (read : Table) (log : List Entry) (tried : Tries) (givens : List (List ℕ)) (n : ℕ) (s : Shelves) (old new : Meaning) → IsArchiveFramed read log tried s n old givens → Shows s n new
    → IsSessionFramed read log tried givens n old new
shown_framed read log tried givens n s old new within shows = record {
  held = λ slot block l e. within.held slot block l (shows.blocks slot ∙ e);
  history = λ block h. within.history block (subst (λ bs. Contains bs block) (sym shows.history) h);
  heard = λ x h. within.heard x (subst (λ xs. Contains xs x) (sym shows.sums) h);
  kept = λ slot block l e. elim (within.kept slot block l e) [
    | inl y ↦ inl (y.0, sym (shows.blocks slot) ∙ y.1)
    | inr y ↦ elim y [ inl z ↦ inr (inl z) | inr z ↦ inr (inr (subst (λ k. Rose old.losses k) shows.losses z)) ]
  ];
}

-- a group that was left
module _ (told : Type 0) (meant means : ℕ → Meaning) (missing : List ℕ) (is_told : told) where
  abbrev Framed : Table → List Entry → Type 0
  Framed read log =
      (tried : Tries) × (givens : List (List ℕ)) × (flights : List Flight) × FlyBy read [] log givens flights
      × ((n : ℕ) → Contains (archives_in read ++ arrivals log) n → times n missing ≡ 0 → IsSessionFramed read log tried givens n (meant n) (means n))

  of_view : (g : GroupView) → AreWithin meant g → ((n : ℕ) → Contains (had_by g) n → IsInRoom told means missing g.shelves n) → Framed g.first g.log
  of_view g w archives = (
    g.tried,
    w.givens,
    g.flights,
    w.fly,
    λ n has back. shown_framed g.first g.log g.tried w.givens n g.shelves (meant n) (means n) (w.each n has) (archives n has is_told back),
  )

  of_group : (read written : Table) (log : List Entry) → LeavesGroup told meant (IsInRoom told means missing) read log written → Framed read log
  of_group read written log left =
      subst (λ t. Framed t log) left.first (subst (λ l. Framed left.view.first l) left.is_log (of_view left.view (left.within is_told) left.archives))

pub frame_of_run : FrameOfRun
frame_of_run first last room missing story told leaves group read log is_read is_log =
    let in_last : group < length last.tables = (let a = leaves.groups.count in let b = get_within first.tables group read is_read in omega (arith, a, b)) in
    let written = element_at last.tables group in_last in
    of_group (IsTrue room.tells) room.before.means room.after.means missing told read written.0 log (leaves.groups.each group read written.0 log is_read written.1 is_log)
