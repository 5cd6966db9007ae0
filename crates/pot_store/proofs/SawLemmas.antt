-- Calls that only saw where groups stand.
use Rattle.std.proofs.Common.{◌≡◌, ◌≢◌, ◌<◌, ⊎_elim, ℕ, List, [], ◌++◌, length, append-nil, ap, ◌∙◌, sym, subst, arith}
use Rattle.std.proofs.lemmas.Bool.{cases_eq}
use Rattle.pot_bytes.specs.declared.digest.Digest.{Digest}
use Rattle.pot_bytes.specs.declared.rack.Geometry.{Geometry}
use Rattle.pot_bytes.specs.declared.rack.Place.{Place}
use Rattle.pot_bytes.specs.declared.rack.Rack.{Rack}
use Rattle.pot_machine.specs.declared.entry.Entry.{Entry}
use Rattle.pot_machine.specs.Logs.{is_of, own}
use Rattle.pot_group.specs.Group.{GroupView}
use Rattle.pot_group.specs.declared.standing.Standing.{Standing}
use Rattle.pot_turn.specs.declared.name.TurnName.{TurnName}
use Rattle.pot_worked.specs.Laws.{AllOf}
use Rattle.pot_worked.specs.WroteOnlyFor.{added}
use Rattle.pot_rows.specs.Rows.{view_at}
use Rattle.pot_rows.specs.Works.{RowWroteOnlyFor, RowOnlyWriterOf}
use Rattle.pot_rows.proofs.WorkLemmas.{row_work_in_parts, row_alone_in_parts}
use Rattle.pot_replies.specs.Stores.{Placed, Puts, place_of, in_group}
use Rattle.pot_shared.specs.Ready.{GroupPasses, AreReady}
use Rattle.pot_shared.specs.Seen.{SeesPut}
use Rattle.pot_shared.specs.Calls.{CallAt, StandingCall}
use Rattle.pot_shared.proofs.CatalogLemmas.{sees_more}
use Rattle.pot_shared.specs.Works.{of_job, gained, OnlySaw}
use Rattle.pot_store.specs.Puts.{ArePut}
use Rattle.pot_shared.proofs.WorkLemmas.{all_none, group_work, group_own, group_else, own_more}

-- A GROUP THAT TELLS WHERE IT STANDS

module _ {rack : Rack} {names : List TurnName} {told : Type 0} {group : ℕ} {v w : GroupPasses} (standing : Standing) (ready : AreReady rack names v)
    (within : group < length names) (call : CallAt told (StandingCall standing) group v w) where
  long : group < length v.views
  long = let l = ready.of.1 in omega (arith, within, l)

  abbrev Stands : GroupView → GroupView → List Entry → Type 0
  Stands = StandingCall standing

  all : (job : ℕ) → AllOf (is_of job) call.turn.entries
  all job = subst (λ es. AllOf (is_of job) es) (sym call.turn.call.0) (all_none (is_of job))

  none_at : (job : ℕ) → RowOnlyWriterOf (of_job job) v w → (g : ℕ) → own job (gained v w g) ≡ []
  none_at job alone g = ⊎_elim
      (λ (e : group ≡ g). subst (λ n. own job (gained v w n) ≡ []) e (group_own told job Stands group v w long call (all job) alone ∙ call.turn.call.0))
      (λ (ne : group ≢ g). group_else told job Stands group v w long call (all job) alone g ne)
      (cases_eq group g)

  pub standing_saw : OnlySaw v w
  standing_saw = record {
    worked = λ job. group_work told job Stands group v w long call (all job) ready.idle;
    none = none_at;
  }

-- BESIDE THE PUTS OF A STORE

module _ (rack : Rack) (names : List TurnName) (job : ℕ) (u v w : GroupPasses) (ready : AreReady rack names v) (again : AreReady rack names w) (saw : OnlySaw v w) where
  still_seen : (p : Place) (d : Digest) → SeesPut v p d → SeesPut w p d
  still_seen = sees_more v w (ap length again.of.0 ∙ sym (ap length ready.of.0))
      (λ g lt. (added (view_at v g) (view_at w g), (saw.worked job g).seen))

  puts_still : (placed : List Placed) → RowWroteOnlyFor (of_job job) u v
      → (RowOnlyWriterOf (of_job job) u v → (g : ℕ) → Puts job (in_group g placed) (own job (gained u v g)))
      → RowOnlyWriterOf (of_job job) u w → (g : ℕ) → Puts job (in_group g placed) (own job (gained u w g))
  puts_still placed worked puts alone g =
      let parts = row_alone_in_parts (of_job job) u v w worked (saw.worked job) alone in
      subst (λ es. Puts job (in_group g placed) es)
      (sym (own_more job u v w worked (saw.worked job) g ∙ (ap (λ es. own job (gained u v g) ++ es) (saw.none job parts.1 g) ∙ append-nil (own job (gained u v g)))))
      (puts parts.0 g)

-- the same puts were made
pub puts_seen : {rack : Rack} {geometry : Geometry} {names : List TurnName} {job : ℕ} {blocks : List (List ℕ)} {places : List Place} {u v w : GroupPasses}
    → AreReady rack names v → AreReady rack names w → OnlySaw v w → ArePut rack geometry job blocks places u v → ArePut rack geometry job blocks places u w
puts_seen {rack} {geometry} {names} {job} {blocks} {places} {u} {v} {w} ready again saw sofar = record {
  placed = sofar.placed;
  places_are = sofar.places_are;
  digests = sofar.digests;
  fits = sofar.fits;
  seen = λ b x is. still_seen rack names job u v w ready again saw (place_of x) x.digest (sofar.seen b x is);
  apart = sofar.apart;
  worked = row_work_in_parts (of_job job) u v w sofar.worked (saw.worked job);
  puts = puts_still rack names job u v w ready again saw sofar.placed sofar.worked sofar.puts;
}
