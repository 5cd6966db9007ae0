-- What legal entries keep of the names, and how a log goes on.
use Rattle.std.proofs.Common.{◌≡◌, ℕ, Bool, true, false, List, [], ◌∷◌, ◌++◌, Option, Some, None, refl, sym, ap, subst, ◌∙◌, inl, inr, ◌⊎◌, ⊎_elim}
use Rattle.std.specs.Prelude.{◌||◌, Contains, All}
use Rattle.std.specs.Cmp.Lexicographic.{slice_cmp}
use Rattle.std.specs.List.Sorted.{IsStrictlySortedBy}
use Rattle.std.specs.Ordering.{nat_cmp}
use Rattle.std.specs.List.{IsDistinct, list_any}
use Rattle.std.proofs.lemmas.Cmp.{nat_list_eq_equiv}
use Rattle.std.proofs.lemmas.List.{map_push}
use Rattle.std.proofs.lemmas.List.Elements.{All-contains, Contains-push_cases}
use Rattle.std.proofs.lemmas.Map.Keys.{IsDistinct-push}
use Rattle.pot_bytes.specs.declared.rack.Rack.{Rack}
use Rattle.pot_bytes.proofs.Elements.{contains_later}
use Rattle.pot_index.specs.declared.entry.IndexEntry.{IndexEntry}
use Rattle.pot_index.specs.declared.entry.IndexEntry.TheVariants.{Reserve, Taken, Publish, Abandon, Find, Listed, Renew, Often}
use Rattle.pot_index.specs.declared.entry.Logged.{Logged}
use Rattle.pot_index.specs.declared.record.Record.{Record}
use Rattle.pot_index.specs.declared.reservation.Reservation.{Reservation}
use Rattle.pot_index.specs.Fits.{FitsRack}
use Rattle.pot_index.specs.Index.{Names, IsPublished, IsReservedBy, IsFree, AreNames, LegalLogged, LegalEntry, ReplaysIndex, after, after_entry, same_name, inserted, replaced, without}
use Rattle.pot_index.proofs.NameLemmas.{names_of, same_true, contains_map, from_map, contains_here, all_from_members, without_from, without_distinct, without_gone}
use Rattle.pot_index.proofs.RecordLemmas.{record_names, inserted_from, inserted_ascends, record_names-replaced, replaced_from}

-- A RESERVED NAME

any_name : (names : List (List ℕ)) (name : List ℕ) → list_any (same_name name) names ≡ true → Contains names name
any_name [] name h = absurd (cc)
any_name (n ∷ ns) name h = by (same_name name n) refl h (λ later. any_name ns name later)
  where
    by : (b : Bool) → same_name name n ≡ b → (b || list_any (same_name name) ns) ≡ true → (list_any (same_name name) ns ≡ true → Contains ns name) → Contains (n ∷ ns) name
    by true e k go = subst (λ m. Contains (n ∷ ns) m) (sym (same_true name n e)) (contains_here n ns)
    by false e k go = contains_later n name ns (go k)

not_any : (names : List (List ℕ)) (name : List ℕ) → (Contains names name → ⊥) → list_any (same_name name) names ≡ false
not_any names name none = by (list_any (same_name name) names) (λ h. none (any_name names name h))
  where
    by : (b : Bool) → (b ≡ true → ⊥) → b ≡ false
    by true h = absurd (h refl)
    by false h = refl

reserved_kept : (rack : Rack) (n : Names) (job : ℕ) (name : List ℕ) → AreNames rack n → IsFree n name → AreNames rack (record n { reserved = n.reserved ++ record { name = name; job = job } ∷ [] })
reserved_kept rack n job name a free = record {
  ascends = a.ascends;
  fits = a.fits;
  free = all_from_members (λ x. IsPublished n x.name → ⊥) (n.reserved ++ mine ∷ []) (λ x h. by x (Contains-push_cases n.reserved mine x h));
  once = subst (λ ns. IsDistinct same_name ns) (sym (map_push (λ (x : Reservation). x.name) n.reserved mine))
      (IsDistinct-push nat_list_eq_equiv (names_of n.reserved) name a.once (not_any (names_of n.reserved) name free.1));
}
  where
    mine : Reservation
    mine = record { name = name; job = job }

    by : (x : Reservation) → Contains n.reserved x ⊎ (mine ≡ x) → IsPublished n x.name → ⊥
    by x (inl old) = All-contains (λ y. IsPublished n y.name → ⊥) n.reserved x a.free old
    by x (inr e) = subst (λ (y : Reservation). IsPublished n y.name → ⊥) e free.0

released_kept : (rack : Rack) (n : Names) (name : List ℕ) → AreNames rack n → AreNames rack (record n { reserved = without name n.reserved })
released_kept rack n name a = record {
  ascends = a.ascends;
  fits = a.fits;
  free = all_from_members (λ x. IsPublished n x.name → ⊥) (without name n.reserved) (λ x h. All-contains (λ y. IsPublished n y.name → ⊥) n.reserved x a.free (without_from name n.reserved x h));
  once = without_distinct name n.reserved a.once;
}

-- A PUBLISHED RECORD

-- the names of reservations are not those of published records
pub reserved_unpublished : (rack : Rack) (n : Names) (job : ℕ) (name : List ℕ) → AreNames rack n → IsReservedBy n job name → IsPublished n name → ⊥
reserved_unpublished rack n job name a mine = All-contains (λ y. IsPublished n y.name → ⊥) n.reserved (record { name = name; job = job }) a.free mine

published_kept : (rack : Rack) (n : Names) (job : ℕ) (name : List ℕ) (r : Record) → AreNames rack n → r.name ≡ name → IsReservedBy n job name → FitsRack rack r
    → AreNames rack (record { published = inserted r n.published; reserved = without name n.reserved })
published_kept rack n job name r a named mine fits = record {
  ascends = inserted_ascends r n.published a.ascends (subst (λ m. IsPublished n m → ⊥) (sym named) (reserved_unpublished rack n job name a mine));
  fits = all_from_members (FitsRack rack) (inserted r n.published) (λ o h. ⊎_elim (λ e. subst (FitsRack rack) e fits) (λ old. All-contains (FitsRack rack) n.published o a.fits old) (inserted_from r o n.published h));
  free = all_from_members (λ x. Contains (record_names (inserted r n.published)) x.name → ⊥) (without name n.reserved) (λ x h k. gone x h (from_map (λ o. o.name) x.name (inserted r n.published) k));
  once = without_distinct name n.reserved a.once;
}
  where
    gone : (x : Reservation) → Contains (without name n.reserved) x → (o : Record) × Contains (inserted r n.published) o × (o.name ≡ x.name) → ⊥
    gone x h found = by (inserted_from r found.0 n.published found.1)
      where
        by : (r ≡ found.0) ⊎ Contains n.published found.0 → ⊥
        by (inl e) =
            let is : x.name ≡ name = sym found.2 ∙ ap (λ (o : Record). o.name) (sym e) ∙ named in
            without_gone name n.reserved a.once (subst (λ m. Contains (names_of (without name n.reserved)) m) is (contains_map (λ y. y.name) x (without name n.reserved) h))
        by (inr old) =
            All-contains (λ y. IsPublished n y.name → ⊥) n.reserved x a.free (without_from name n.reserved x h)
            (subst (λ m. Contains (record_names n.published) m) found.2 (contains_map (λ o. o.name) found.0 n.published old))

replaced_kept : (rack : Rack) (n : Names) (r : Record) → AreNames rack n → FitsRack rack r → AreNames rack (record n { published = replaced r n.published })
replaced_kept rack n r a fits = record {
  ascends = subst (λ ns. IsStrictlySortedBy (slice_cmp nat_cmp) ns) (sym (record_names-replaced r n.published)) a.ascends;
  fits = all_from_members (FitsRack rack) (replaced r n.published) (λ o h. ⊎_elim (λ e. subst (FitsRack rack) e fits) (λ old. All-contains (FitsRack rack) n.published o a.fits old) (replaced_from r o n.published h));
  free = subst (λ ns. All (λ x. Contains ns x.name → ⊥) n.reserved) (sym (record_names-replaced r n.published)) a.free;
  once = a.once;
}

-- EACH ENTRY

pub entry_keeps : (rack : Rack) (n : Names) (e : IndexEntry) (b : Option Record) → AreNames rack n → LegalEntry rack n e b → AreNames rack (after_entry n e b)
entry_keeps rack n (Reserve job name) None a legal = reserved_kept rack n job name a legal
entry_keeps rack n (Taken job name) None a legal = a
entry_keeps rack n (Publish job name mark) (Some r) a (named, marked, mine, fits) = published_kept rack n job name r a named mine fits
entry_keeps rack n (Abandon job name) None a legal = released_kept rack n name a
entry_keeps rack n (Find job name found) None a legal = a
entry_keeps rack n (Listed job) None a legal = a
entry_keeps rack n (Renew job name mark) (Some r) a (marked, fits, old) = replaced_kept rack n r a fits
entry_keeps rack n (Often job name) None a legal = a
entry_keeps rack n _ _ a legal = absurd legal

pub after_keeps : (rack : Rack) (n : Names) (x : Logged) → AreNames rack n → LegalLogged rack n x → AreNames rack (after n x)
after_keeps rack n x a legal = entry_keeps rack n x.entry x.brought a legal

-- WHOLE LOGS

pub replay_keeps : (rack : Rack) (n m : Names) (log : List Logged) → AreNames rack n → ReplaysIndex rack n log m → AreNames rack m
replay_keeps rack n m [] a h = subst (AreNames rack) (sym h) a
replay_keeps rack n m (x ∷ log) a (legal, rest) = replay_keeps rack (after n x) m log (after_keeps rack n x a legal) rest

pub goes_on : (rack : Rack) (n m : Names) (log : List Logged) (x : Logged) → ReplaysIndex rack n log m → LegalLogged rack m x → ReplaysIndex rack n (log ++ x ∷ []) (after m x)
goes_on rack n m [] x h legal = (subst (λ (k : Names). LegalLogged rack k x) h legal, ap (λ (k : Names). after k x) h)
goes_on rack n m (y ∷ log) x (first, rest) legal = (first, goes_on rack (after n y) m log x rest legal)

pub went_on : (rack : Rack) (n k : Names) (log more : List Logged) → ReplaysIndex rack n (log ++ more) k → (m : Names) × ReplaysIndex rack n log m × ReplaysIndex rack m more k
went_on rack n k [] more h = (n, refl, h)
went_on rack n k (y ∷ log) more (first, rest) = let later = went_on rack (after n y) k log more rest in (later.0, (first, later.1), later.2)

pub leads_once : (rack : Rack) (n m k : Names) (log : List Logged) → ReplaysIndex rack n log m → ReplaysIndex rack n log k → m ≡ k
leads_once rack n m k [] p q = p ∙ sym q
leads_once rack n m k (x ∷ log) p q = leads_once rack (after n x) m k log p.1 q.1
