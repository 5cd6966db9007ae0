-- Where the first of a name stands, and what a ledger has after an entry.
use Rattle.std.proofs.Common.{◌≡◌, ◌≢◌, ℕ, ◌+◌, ◌<◌, ◌≤◌, List, [], ◌∷◌, ◌++◌, Option, Some, None, Bool, true, false, length, map, get_or, set, refl, ap, ap₂, ◌∙◌, subst, arith, nat_lt, if◌then◌else◌}
use Rattle.std.specs.Prelude.{find, insert, is_some, slice_get}
use Rattle.std.specs.List.{position, position_or_len}
use Rattle.std.specs.declared.snapshot.Snapshot.{Snapshot}
use Rattle.std.proofs.lemmas.Bool.Decides.{nat_tests}
use Rattle.std.proofs.lemmas.List.{map-append}
use Rattle.std.proofs.lemmas.List.Folds.{find_at}
use Rattle.std.proofs.lemmas.List.Sums.{fails_before_first}
use Rattle.std.proofs.lemmas.Option.{slice_get-get_or, slice_get_past}
use Rattle.pot_bytes.specs.declared.digest.Digest.{Digest}
use Rattle.pot_bytes.specs.declared.rack.Rack.{Rack}
use Rattle.pot_index.specs.declared.entry.IndexEntry.{IndexEntry}
use Rattle.pot_index.specs.declared.entry.IndexEntry.TheVariants as entry
use Rattle.pot_index.specs.declared.record.Record.{Record}
use Rattle.pot_index.specs.declared.reservation.Reservation.{Reservation}
use Rattle.pot_index.specs.Entries.{bringing}
use Rattle.pot_index.specs.Index.{NamesAscend, IndexView, logged, without}
use Rattle.pot_index.specs.Records.{mark_of}
use Rattle.pot_index.specs.Searches.{BelongsAt, RecordStandsAt}
use Rattle.pot_index.proofs.RecordLemmas.{insert_is, set_is}
use Rattle.pot_actors.specs.declared.ledger.Entered.{Entered}
use Rattle.pot_actors.specs.Ledgers.{logged_of}

module _ {X : Type 0} (p : X → Bool) (xs : List X) where
  at_is : (b : Bool) (at : ℕ) → nat_lt (position_or_len p xs) (length xs) ≡ b → (if b then Some (position_or_len p xs) else None) ≡ Some at → (position_or_len p xs ≡ at) × (position_or_len p xs < length xs)
  at_is true at e h = (cc, grind (arith, nat_tests))
  at_is false at e h = absurd (cc)

  pub found_at : (at : ℕ) (d : X) → position p xs ≡ Some at → (at < length xs) × (find p xs ≡ Some (get_or xs at d))
  found_at at d e =
      let h = at_is (nat_lt (position_or_len p xs) (length xs)) at refl e in
      let l : at < length xs = subst (λ n. n < length xs) h.0 h.1 in
      (l, find_at p xs ∙ ap (slice_get xs) h.0 ∙ slice_get-get_or xs at d l)

  past : (b : Bool) → nat_lt (position_or_len p xs) (length xs) ≡ b → (if b then Some (position_or_len p xs) else None) ≡ None → length xs ≤ position_or_len p xs
  past true e h = absurd (cc)
  past false e h = grind (arith, nat_tests)

  pub not_found : position p xs ≡ None → find p xs ≡ None
  not_found e = find_at p xs ∙ slice_get_past xs (position_or_len p xs) (past (nat_lt (position_or_len p xs) (length xs)) refl e)

  pub none_passes : position p xs ≡ None → (k : ℕ) (d : X) → k < length xs → p (get_or xs k d) ≡ false
  none_passes e k d l = fails_before_first p xs k d (let h = past (nat_lt (position_or_len p xs) (length xs)) refl e in omega (arith, h, l))

  by_place : (o : Option ℕ) → position p xs ≡ o → is_some (find p xs) ≡ is_some o
  by_place None e = ap is_some (not_found e)
  by_place (Some at) e = one xs (λ d. (found_at at d e).1) (found_at_some at e)
    where
      found_at_some : (at : ℕ) → position p xs ≡ Some at → at < length xs
      found_at_some at e = (let h = at_is (nat_lt (position_or_len p xs) (length xs)) at refl e in subst (λ n. n < length xs) h.0 h.1)

      one : (ys : List X) → ((d : X) → find p xs ≡ Some (get_or xs at d)) → at < length ys → is_some (find p xs) ≡ true
      one [] h l = absurd (omega (arith, l))
      one (y ∷ ys) h l = ap is_some (h y)

  -- a search by place and one by element find alike
  pub finds_alike : is_some (find p xs) ≡ is_some (position p xs)
  finds_alike = by_place (position p xs) refl

-- WHAT A LEDGER HAS

module _ (rack : Rack) (rs : List Record) (vs : List Reservation) (log log' : List Entered) (job : ℕ) (r : Record) (brought : Snapshot Record) (mark : Digest) (value : brought.value ≡ r) (marked : mark ≡ mark_of r) where
  entered : (e : Digest → IndexEntry) → log' ≡ log ++ record { entry = e mark; brought = Some brought } ∷ [] → map logged_of log' ≡ map logged_of log ++ bringing (e (mark_of r)) r ∷ []
  entered e is =
      ap (map logged_of) is ∙ map-append logged_of log (record { entry = e mark; brought = Some brought } ∷ [])
      ∙ ap₂ (λ (m : Digest) (y : Record). map logged_of log ++ bringing (e m) y ∷ []) marked value

  pub published_ledger : (at : ℕ) (rs' : List Record) (vs' : List Reservation) → BelongsAt rs r.name at → rs' ≡ insert rs at r → vs' ≡ without r.name vs
      → log' ≡ log ++ record { entry = entry.Publish job r.name mark; brought = Some brought } ∷ []
      → ◌≡◌ {A = IndexView} (record { rack = rack; read = []; now = record { published = rs'; reserved = vs' }; log = map logged_of log' })
      (logged (record { rack = rack; read = []; now = record { published = rs; reserved = vs }; log = map logged_of log }) (bringing (entry.Publish job r.name (mark_of r)) r))
  published_ledger at rs' vs' place is left more =
      (λ i. record { rack = rack; read = []; now = record { published = (is ∙ insert_is r rs at place) i; reserved = left i }; log = entered (λ m. entry.Publish job r.name m) more i })

  pub renewed_ledger : (at : ℕ) → NamesAscend rs → RecordStandsAt rs r.name at → log' ≡ log ++ record { entry = entry.Renew job r.name mark; brought = Some brought } ∷ []
      → ◌≡◌ {A = IndexView} (record { rack = rack; read = []; now = record { published = set rs at r; reserved = vs }; log = map logged_of log' })
      (logged (record { rack = rack; read = []; now = record { published = rs; reserved = vs }; log = map logged_of log }) (bringing (entry.Renew job r.name (mark_of r)) r))
  renewed_ledger at up place more =
      (λ i. record { rack = rack; read = []; now = record { published = set_is r rs at up place i; reserved = vs }; log = entered (λ m. entry.Renew job r.name m) more i })
