-- What the replay of a log says of reservations and of records.
use Rattle.std.proofs.Common.{◌≡◌, ℕ, true, false, List, [], ◌∷◌, ◌++◌, Option, Some, None, sym, ap, subst, inl, inr, ◌⊎◌, ⊎_elim}
use Rattle.std.specs.Prelude.{Contains, All}
use Rattle.std.proofs.lemmas.List.Elements.{All-head, All-tail, Contains-append_left, Contains-push, Contains-push_cases}
use Rattle.std.proofs.lemmas.Bool.{cases_Bool}
use Rattle.pot_bytes.specs.declared.rack.Rack.{Rack}
use Rattle.pot_index.specs.declared.entry.IndexEntry.{IndexEntry}
use Rattle.pot_index.specs.declared.entry.IndexEntry.TheVariants.{Reserve, Taken, Publish, Abandon, Find, Listed, Renew, Often}
use Rattle.pot_index.specs.declared.entry.Logged.{Logged}
use Rattle.pot_index.specs.declared.record.Record.{Record}
use Rattle.pot_index.specs.declared.reservation.Reservation.{Reservation}
use Rattle.pot_index.specs.Entries.{IsReserving, IsEnding, entries}
use Rattle.pot_index.specs.Index.{Names, IsReservedBy, AreNames, LegalEntry, ReplaysIndex, after, after_entry, same_name, without}
use Rattle.pot_index.proofs.NameLemmas.{names_of, same_true, same_false, contains_map, one_reservation, without_keeps, without_from, without_gone}
use Rattle.pot_index.proofs.NamesKept.{after_keeps}

-- RESERVATIONS

-- the end of another job's or another name's reservation leaves this one
still_mine : (rack : Rack) (n : Names) (job j : ℕ) (name m : List ℕ) → AreNames rack n → IsReservedBy n job name → IsReservedBy n j m → ((j ≡ job) × (m ≡ name) → ⊥)
    → Contains (without m n.reserved) (record { name = name; job = job })
still_mine rack n job j name m a mine other not_mine = by (cases_Bool (same_name name m))
  where
    same_job : name ≡ m → j ≡ job
    same_job e = ap (λ (x : Reservation). x.job) (one_reservation n.reserved (record { name = m; job = j }) (record { name = name; job = job }) a.once other mine (sym e))

    by : (same_name name m ≡ true) ⊎ (same_name name m ≡ false) → Contains (without m n.reserved) (record { name = name; job = job })
    by (inl same) = absurd (not_mine (same_job (same_true name m same), sym (same_true name m same)))
    by (inr apart) = without_keeps m n.reserved (record { name = name; job = job }) mine (same_false name m apart)

held_step : (rack : Rack) (n : Names) (job : ℕ) (name : List ℕ) (e : IndexEntry) (b : Option Record) → AreNames rack n → LegalEntry rack n e b → IsReservedBy n job name → (IsEnding job name e → ⊥) → IsReservedBy (after_entry n e b) job name
held_step rack n job name (Reserve j m) None a legal mine kept = Contains-append_left n.reserved (record { name = m; job = j } ∷ []) (record { name = name; job = job }) mine
held_step rack n job name (Taken j m) None a legal mine kept = mine
held_step rack n job name (Publish j m mark) (Some r) a (named, marked, other, fits) mine kept = still_mine rack n job j name m a mine other kept
held_step rack n job name (Abandon j m) None a legal mine kept = still_mine rack n job j name m a mine legal kept
held_step rack n job name (Find j m found) None a legal mine kept = mine
held_step rack n job name (Listed j) None a legal mine kept = mine
held_step rack n job name (Renew j m mark) (Some r) a legal mine kept = mine
held_step rack n job name (Often j m) None a legal mine kept = mine
held_step rack n job name _ _ a legal mine kept = absurd legal

gone_step : (rack : Rack) (n : Names) (job : ℕ) (name : List ℕ) (e : IndexEntry) (b : Option Record) → LegalEntry rack n e b → (IsReservedBy n job name → ⊥) → (IsReserving job name e → ⊥) → IsReservedBy (after_entry n e b) job name → ⊥
gone_step rack n job name (Reserve j m) None legal gone quiet h = ⊎_elim gone (λ e. quiet (ap (λ (x : Reservation). x.job) e, ap (λ (x : Reservation). x.name) e)) (Contains-push_cases n.reserved (record { name = m; job = j }) (record { name = name; job = job }) h)
gone_step rack n job name (Taken j m) None legal gone quiet h = gone h
gone_step rack n job name (Publish j m mark) (Some r) legal gone quiet h = gone (without_from m n.reserved (record { name = name; job = job }) h)
gone_step rack n job name (Abandon j m) None legal gone quiet h = gone (without_from m n.reserved (record { name = name; job = job }) h)
gone_step rack n job name (Find j m found) None legal gone quiet h = gone h
gone_step rack n job name (Listed j) None legal gone quiet h = gone h
gone_step rack n job name (Renew j m mark) (Some r) legal gone quiet h = gone h
gone_step rack n job name (Often j m) None legal gone quiet h = gone h
gone_step rack n job name _ _ legal gone quiet h = absurd legal

made_step : (rack : Rack) (n : Names) (job : ℕ) (name : List ℕ) (e : IndexEntry) (b : Option Record) → LegalEntry rack n e b → IsReserving job name e → IsReservedBy (after_entry n e b) job name
made_step rack n job name (Reserve j m) None legal (p, q) =
    let made : Reservation = record { name = m; job = j } in
    let mine : Reservation = record { name = name; job = job } in
    let is : made ≡ mine = λ i. record { name = q i; job = p i } in
    subst (λ z. Contains (n.reserved ++ made ∷ []) z) is (Contains-push n.reserved made)
made_step rack n job name (Reserve j m) (Some r) legal made = absurd legal
made_step rack n job name _ _ legal made = absurd made

ended_step : (rack : Rack) (n : Names) (job : ℕ) (name : List ℕ) (e : IndexEntry) (b : Option Record) → AreNames rack n → LegalEntry rack n e b → IsEnding job name e → IsReservedBy (after_entry n e b) job name → ⊥
ended_step rack n job name (Publish j m mark) (Some r) a legal (p, q) h =
    without_gone m n.reserved a.once (subst (λ k. Contains (names_of (without m n.reserved)) k) (sym q) (contains_map (λ x. x.name) (record { name = name; job = job }) (without m n.reserved) h))
ended_step rack n job name (Publish j m mark) None a legal ending h = absurd legal
ended_step rack n job name (Abandon j m) None a legal (p, q) h =
    without_gone m n.reserved a.once (subst (λ k. Contains (names_of (without m n.reserved)) k) (sym q) (contains_map (λ x. x.name) (record { name = name; job = job }) (without m n.reserved) h))
ended_step rack n job name (Abandon j m) (Some r) a legal ending h = absurd legal
ended_step rack n job name _ _ a legal ending h = absurd ending

-- the tail of a list of entries
pub rest_is : (e f : IndexEntry) (es fs : List IndexEntry) → e ∷ es ≡ f ∷ fs → es ≡ fs
rest_is e f es fs h = (cc)

pub first_is : (e f : IndexEntry) (es fs : List IndexEntry) → e ∷ es ≡ f ∷ fs → e ≡ f
first_is e f es fs h = (cc)

held_on : (rack : Rack) (n m : Names) (log : List Logged) (job : ℕ) (name : List ℕ) → AreNames rack n → ReplaysIndex rack n log m → IsReservedBy n job name → All (λ e. IsEnding job name e → ⊥) (entries log) → IsReservedBy m job name
held_on rack n m [] job name a h mine kept = subst (λ (k : Names). IsReservedBy k job name) (sym h) mine
held_on rack n m (x ∷ log) job name a (legal, rest) mine kept =
    held_on rack (after n x) m log job name (after_keeps rack n x a legal) rest
    (held_step rack n job name x.entry x.brought a legal mine (All-head (λ e. IsEnding job name e → ⊥) x.entry (entries log) kept)) (All-tail (λ e. IsEnding job name e → ⊥) x.entry (entries log) kept)

gone_on : (rack : Rack) (n m : Names) (log : List Logged) (job : ℕ) (name : List ℕ) → ReplaysIndex rack n log m → (IsReservedBy n job name → ⊥) → All (λ e. IsReserving job name e → ⊥) (entries log) → IsReservedBy m job name → ⊥
gone_on rack n m [] job name h gone quiet mine = gone (subst (λ (k : Names). IsReservedBy k job name) h mine)
gone_on rack n m (x ∷ log) job name (legal, rest) gone quiet mine =
    gone_on rack (after n x) m log job name rest
    (λ k. gone_step rack n job name x.entry x.brought legal gone (All-head (λ e. IsReserving job name e → ⊥) x.entry (entries log) quiet) k) (All-tail (λ e. IsReserving job name e → ⊥) x.entry (entries log) quiet) mine

pub reserved_stays : (rack : Rack) (n m : Names) (log : List Logged) (job : ℕ) (name : List ℕ) (before : List IndexEntry) (made : IndexEntry) (behind : List IndexEntry)
    → AreNames rack n → ReplaysIndex rack n log m → entries log ≡ before ++ made ∷ behind → IsReserving job name made → All (λ e. IsEnding job name e → ⊥) behind → IsReservedBy m job name
reserved_stays rack n m [] job name [] made behind a h is makes kept = absurd (cc)
reserved_stays rack n m [] job name (b ∷ before) made behind a h is makes kept = absurd (cc)
reserved_stays rack n m (x ∷ log) job name [] made behind a (legal, rest) is makes kept =
    held_on rack (after n x) m log job name (after_keeps rack n x a legal) rest
    (made_step rack n job name x.entry x.brought legal (subst (IsReserving job name) (sym (first_is x.entry made (entries log) behind is)) makes))
    (subst (All (λ e. IsEnding job name e → ⊥)) (sym (rest_is x.entry made (entries log) behind is)) kept)
reserved_stays rack n m (x ∷ log) job name (b ∷ before) made behind a (legal, rest) is makes kept =
    reserved_stays rack (after n x) m log job name before made behind (after_keeps rack n x a legal) rest (rest_is x.entry b (entries log) (before ++ made ∷ behind) is) makes kept

pub ended_stays : (rack : Rack) (n m : Names) (log : List Logged) (job : ℕ) (name : List ℕ) (before : List IndexEntry) (ended : IndexEntry) (behind : List IndexEntry)
    → AreNames rack n → ReplaysIndex rack n log m → entries log ≡ before ++ ended ∷ behind → IsEnding job name ended → All (λ e. IsReserving job name e → ⊥) behind → IsReservedBy m job name → ⊥
ended_stays rack n m [] job name [] ended behind a h is ends quiet mine = absurd (cc)
ended_stays rack n m [] job name (b ∷ before) ended behind a h is ends quiet mine = absurd (cc)
ended_stays rack n m (x ∷ log) job name [] ended behind a (legal, rest) is ends quiet mine =
    gone_on rack (after n x) m log job name rest
    (ended_step rack n job name x.entry x.brought a legal (subst (IsEnding job name) (sym (first_is x.entry ended (entries log) behind is)) ends))
    (subst (All (λ e. IsReserving job name e → ⊥)) (sym (rest_is x.entry ended (entries log) behind is)) quiet) mine
ended_stays rack n m (x ∷ log) job name (b ∷ before) ended behind a (legal, rest) is ends quiet mine =
    ended_stays rack (after n x) m log job name before ended behind (after_keeps rack n x a legal) rest (rest_is x.entry b (entries log) (before ++ ended ∷ behind) is) ends quiet mine
