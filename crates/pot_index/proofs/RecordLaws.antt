-- What the replay of a log says of published records, and how many names it leaves.
use Rattle.std.proofs.Common.{◌≡◌, ◌+◌, ◌<◌, ◌≤◌, ℕ, Bool, true, false, List, [], ◌∷◌, ◌++◌, length, get_or, Option, Some, None, refl, sym, ap, subst, ◌∙◌, inl, inr, ◌⊎◌, append-nil, append_assoc, arith}
use Rattle.std.specs.Prelude.{if◌then◌else◌, Contains, All, filter}
use Rattle.std.proofs.lemmas.Bool.{cases_lt, cases_Bool}
use Rattle.std.proofs.lemmas.List.{length_push, length-map, get_or_default}
use Rattle.std.proofs.lemmas.List.Elements.{All-cons, All-head, All-tail, All-nil}
use Rattle.pot_bytes.specs.declared.rack.Rack.{Rack}
use Rattle.pot_index.specs.declared.entry.IndexEntry.{IndexEntry}
use Rattle.pot_index.specs.declared.entry.IndexEntry.TheVariants.{Reserve, Taken, Publish, Abandon, Find, Listed, Renew, Often}
use Rattle.pot_index.specs.declared.entry.Logged.{Logged}
use Rattle.pot_index.specs.declared.record.Record.{Record}
use Rattle.pot_index.specs.declared.record.Split.{Split}
use Rattle.pot_index.specs.declared.reservation.Reservation.{Reservation}
use Rattle.pot_index.specs.Entries.{IsPublishing, IsRenewing, entries, is_reserve, ends_reserve, reserved_in}
use Rattle.pot_index.specs.Records.{splits_of, renewed, current_of}
use Rattle.pot_index.specs.Index.{Names, IsPublished, IsReservedBy, IsRecordOf, AreNames, NamesAscend, LegalEntry, ReplaysIndex, after, after_entry, same_name, inserted, replaced, without}
use Rattle.pot_index.specs.Laws.{KeepsFileAndSplits}
use Rattle.pot_index.proofs.SearchLemmas.{less_at}
use Rattle.pot_index.proofs.NameLemmas.{same_true, same_false, contains_map, from_map, length-without}
use Rattle.pot_index.proofs.RecordLemmas.{record_names, differs_from_less, inserted_has, inserted_keeps, length-inserted, record_names-replaced, replaced_keeps, replaced_has}
use Rattle.pot_index.proofs.NamesKept.{after_keeps, reserved_unpublished}
use Rattle.pot_index.proofs.LogLaws.{rest_is, first_is}

-- PUBLISHED NAMES

published_step : (rack : Rack) (n : Names) (name : List ℕ) (e : IndexEntry) (b : Option Record) → LegalEntry rack n e b → IsPublished n name → IsPublished (after_entry n e b) name
published_step rack n name (Reserve j m) None legal h = h
published_step rack n name (Taken j m) None legal h = h
published_step rack n name (Publish j m mark) (Some r) legal h =
    let found = from_map (λ o. o.name) name n.published h in
    subst (λ k. Contains (record_names (inserted r n.published)) k) found.2 (contains_map (λ o. o.name) found.0 (inserted r n.published) (inserted_keeps r found.0 n.published found.1))
published_step rack n name (Abandon j m) None legal h = h
published_step rack n name (Find j m found) None legal h = h
published_step rack n name (Listed j) None legal h = h
published_step rack n name (Renew j m mark) (Some r) legal h = subst (λ ns. Contains ns name) (sym (record_names-replaced r n.published)) h
published_step rack n name (Often j m) None legal h = h
published_step rack n name _ _ legal h = absurd legal

-- a Publish is of a name that is not published, and publishes it
publishing_needs : (rack : Rack) (n : Names) (name : List ℕ) (e : IndexEntry) (b : Option Record) → AreNames rack n → LegalEntry rack n e b → IsPublishing name e → IsPublished n name → ⊥
publishing_needs rack n name (Publish j m mark) (Some r) a (named, marked, mine, fits) is h =
    reserved_unpublished rack n j m a mine (subst (λ k. IsPublished n k) (sym is) h)
publishing_needs rack n name (Publish j m mark) None a legal is h = absurd legal
publishing_needs rack n name _ _ a legal is h = absurd is

publishing_makes : (rack : Rack) (n : Names) (name : List ℕ) (e : IndexEntry) (b : Option Record) → LegalEntry rack n e b → IsPublishing name e → IsPublished (after_entry n e b) name
publishing_makes rack n name (Publish j m mark) (Some r) (named, marked, mine, fits) is =
    subst (λ k. Contains (record_names (inserted r n.published)) k) (named ∙ is) (contains_map (λ o. o.name) r (inserted r n.published) (inserted_has r n.published))
publishing_makes rack n name (Publish j m mark) None legal is = absurd legal
publishing_makes rack n name _ _ legal is = absurd is

none_publishes : (rack : Rack) (n m : Names) (log : List Logged) (name : List ℕ) → AreNames rack n → ReplaysIndex rack n log m → IsPublished n name → All (λ e. IsPublishing name e → ⊥) (entries log)
none_publishes rack n m [] name a h there = All-nil (λ e. IsPublishing name e → ⊥)
none_publishes rack n m (x ∷ log) name a (legal, rest) there =
    All-cons (λ e. IsPublishing name e → ⊥) x.entry (entries log) (λ is. publishing_needs rack n name x.entry x.brought a legal is there)
    (none_publishes rack (after n x) m log name (after_keeps rack n x a legal) rest (published_step rack n name x.entry x.brought legal there))

pub published_once : (rack : Rack) (n m : Names) (log : List Logged) (name : List ℕ) (before : List IndexEntry) (e : IndexEntry) (behind : List IndexEntry)
    → AreNames rack n → ReplaysIndex rack n log m → entries log ≡ before ++ e ∷ behind → IsPublishing name e
    → (IsPublished n name → ⊥) × All (λ f. IsPublishing name f → ⊥) before × All (λ f. IsPublishing name f → ⊥) behind
published_once rack n m [] name [] e behind a h is publishes = absurd (cc)
published_once rack n m [] name (b ∷ before) e behind a h is publishes = absurd (cc)
published_once rack n m (x ∷ log) name [] e behind a (legal, rest) is publishes =
    let it : IsPublishing name x.entry = subst (IsPublishing name) (sym (first_is x.entry e (entries log) behind is)) publishes in (
      publishing_needs rack n name x.entry x.brought a legal it,
      All-nil (λ f. IsPublishing name f → ⊥),
      subst (All (λ f. IsPublishing name f → ⊥)) (rest_is x.entry e (entries log) behind is) (none_publishes rack (after n x) m log name (after_keeps rack n x a legal) rest (publishing_makes rack n name x.entry x.brought legal it)),
    )
published_once rack n m (x ∷ log) name (b ∷ before) e behind a (legal, rest) is publishes =
    let later = published_once rack (after n x) m log name before e behind (after_keeps rack n x a legal) rest (rest_is x.entry b (entries log) (before ++ e ∷ behind) is) publishes in (
      λ there. later.0 (published_step rack n name x.entry x.brought legal there),
      All-cons (λ f. IsPublishing name f → ⊥) b before (λ it. later.0 (publishing_makes rack n name x.entry x.brought legal (subst (IsPublishing name) (sym (first_is x.entry b (entries log) (before ++ e ∷ behind) is)) it))) later.1,
      later.2,
    )

-- RECORDS

-- two records of one name are one
pub one_record : (rs : List Record) (x y : Record) → NamesAscend rs → Contains rs x → Contains rs y → x.name ≡ y.name → x ≡ y
one_record rs x y up (i, lt, at_i) (j, lu, at_j) same = by (cases_lt i j) (cases_lt j i)
  where
    x_there : get_or rs i y ≡ x
    x_there = get_or_default rs i y x lt ∙ at_i

    y_there : get_or rs j x ≡ y
    y_there = get_or_default rs j x y lu ∙ at_j

    by : (i < j) ⊎ (j ≤ i) → (j < i) ⊎ (i ≤ j) → x ≡ y
    by (inl less) q = absurd (differs_from_less (get_or rs i y).name (get_or rs j y).name (less_at rs i j y up less lu) (ap (λ (z : Record). z.name) x_there ∙ same ∙ ap (λ (z : Record). z.name) (sym at_j)))
    by (inr le) (inl more) = absurd (differs_from_less (get_or rs j x).name (get_or rs i x).name (less_at rs j i x up more lt) (ap (λ (z : Record). z.name) y_there ∙ sym same ∙ ap (λ (z : Record). z.name) (sym at_i)))
    by (inr le) (inr ge) = let e : i ≡ j = omega arith in sym at_i ∙ ap (λ k. get_or rs k x) e ∙ y_there

-- a renewed record has the name of the entry
renewed_name : (n : Names) (name : List ℕ) (r o : Record) → IsRecordOf n name o → r ≡ renewed o (current_of r) → r.name ≡ name
renewed_name n name r o old is = ap (λ (z : Record). z.name) is ∙ old.1

record_step : (rack : Rack) (n : Names) (r : Record) (e : IndexEntry) (b : Option Record) → LegalEntry rack n e b → Contains n.published r → (IsRenewing r.name e → ⊥) → Contains (after_entry n e b).published r
record_step rack n r (Reserve j m) None legal h quiet = h
record_step rack n r (Taken j m) None legal h quiet = h
record_step rack n r (Publish j m mark) (Some q) legal h quiet = inserted_keeps q r n.published h
record_step rack n r (Abandon j m) None legal h quiet = h
record_step rack n r (Find j m found) None legal h quiet = h
record_step rack n r (Listed j) None legal h quiet = h
record_step rack n r (Renew j m mark) (Some q) (marked, fits, (o, old, is)) h quiet =
    replaced_keeps q r n.published h (λ same. quiet (sym (same ∙ renewed_name n m q o old is)))
record_step rack n r (Often j m) None legal h quiet = h
record_step rack n r _ _ legal h quiet = absurd legal

pub records_stay : (rack : Rack) (n m : Names) (log : List Logged) (r : Record) → AreNames rack n → ReplaysIndex rack n log m → Contains n.published r → All (λ e. IsRenewing r.name e → ⊥) (entries log) → Contains m.published r
records_stay rack n m [] r a h there quiet = subst (λ (k : Names). Contains k.published r) (sym h) there
records_stay rack n m (x ∷ log) r a (legal, rest) there quiet =
    records_stay rack (after n x) m log r (after_keeps rack n x a legal) rest
    (record_step rack n r x.entry x.brought legal there (All-head (λ e. IsRenewing r.name e → ⊥) x.entry (entries log) quiet)) (All-tail (λ e. IsRenewing r.name e → ⊥) x.entry (entries log) quiet)

goes_same : (r : Record) → KeepsFileAndSplits r r
goes_same r = record { name = refl; long = refl; digest = refl; splits = ([], sym (append-nil (splits_of r))) }

goes_further : (r o p : Record) → KeepsFileAndSplits r o → KeepsFileAndSplits o p → KeepsFileAndSplits r p
goes_further r o p g h = record {
  name = h.name ∙ g.name;
  long = h.long ∙ g.long;
  digest = h.digest ∙ g.digest;
  splits = (g.splits.0 ++ h.splits.0, h.splits.1 ∙ ap (λ (t : List Split). t ++ h.splits.0) g.splits.1 ∙ append_assoc (splits_of r) g.splits.0 h.splits.0);
}

goes_renewed : (r q : Record) → q ≡ renewed r (current_of q) → KeepsFileAndSplits r q
goes_renewed r q is = record {
  name = ap (λ (z : Record). z.name) is;
  long = ap (λ (z : Record). z.length) is;
  digest = ap (λ (z : Record). z.digest) is;
  splits = (current_of q ∷ [], ap (λ (z : List Split). z ++ current_of q ∷ []) (ap (λ (z : Record). z.older) is));
}

splits_step : (rack : Rack) (n : Names) (r : Record) (e : IndexEntry) (b : Option Record) → AreNames rack n → LegalEntry rack n e b → Contains n.published r → (o : Record) × Contains (after_entry n e b).published o × KeepsFileAndSplits r o
splits_step rack n r (Reserve j m) None a legal h = (r, h, goes_same r)
splits_step rack n r (Taken j m) None a legal h = (r, h, goes_same r)
splits_step rack n r (Publish j m mark) (Some q) a legal h = (r, inserted_keeps q r n.published h, goes_same r)
splits_step rack n r (Abandon j m) None a legal h = (r, h, goes_same r)
splits_step rack n r (Find j m found) None a legal h = (r, h, goes_same r)
splits_step rack n r (Listed j) None a legal h = (r, h, goes_same r)
splits_step rack n r (Renew j m mark) (Some q) a (marked, fits, (o, old, is)) h = by (cases_Bool (same_name r.name q.name))
  where
    by : (same_name r.name q.name ≡ true) ⊎ (same_name r.name q.name ≡ false) → (p : Record) × Contains (replaced q n.published) p × KeepsFileAndSplits r p
    by (inl same) =
        let named : o.name ≡ r.name = sym (ap (λ (z : Record). z.name) is) ∙ sym (same_true r.name q.name same) in
        let it : o ≡ r = one_record n.published o r a.ascends old.0 h named in (
          q,
          replaced_has q n.published (subst (λ k. Contains (record_names n.published) k) (same_true r.name q.name same) (contains_map (λ z. z.name) r n.published h)),
          goes_renewed r q (is ∙ ap (λ (z : Record). renewed z (current_of q)) it),
        )
    by (inr apart) = (r, replaced_keeps q r n.published h (same_false r.name q.name apart), goes_same r)
splits_step rack n r (Often j m) None a legal h = (r, h, goes_same r)
splits_step rack n r _ _ a legal h = absurd legal

pub splits_stay : (rack : Rack) (n m : Names) (log : List Logged) (r : Record) → AreNames rack n → ReplaysIndex rack n log m → Contains n.published r → (o : Record) × Contains m.published o × KeepsFileAndSplits r o
splits_stay rack n m [] r a h there = (r, subst (λ (k : Names). Contains k.published r) (sym h) there, goes_same r)
splits_stay rack n m (x ∷ log) r a (legal, rest) there =
    let one = splits_step rack n r x.entry x.brought a legal there in
    let more = splits_stay rack (after n x) m log one.0 (after_keeps rack n x a legal) rest one.1 in
    (more.0, more.1, goes_further r one.0 more.0 one.2 more.2)

-- COUNTS

pub mine_there : (n : Names) (job : ℕ) (name : List ℕ) → IsReservedBy n job name → length (without name n.reserved) + 1 ≡ length n.reserved
mine_there n job name mine = length-without name n.reserved (contains_map (λ x. x.name) (record { name = name; job = job }) n.reserved mine)

count_step : (rack : Rack) (n : Names) (e : IndexEntry) (b : Option Record) → LegalEntry rack n e b
    → length (after_entry n e b).reserved + length (filter ends_reserve (e ∷ [])) ≡ length n.reserved + length (filter is_reserve (e ∷ []))
count_step rack n (Reserve j m) None legal = let mine : Reservation = record { name = m; job = j } in omega (arith, length_push n.reserved mine)
count_step rack n (Taken j m) None legal = refl
count_step rack n (Publish j m mark) (Some r) (named, marked, mine, fits) = omega (arith, mine_there n j m mine)
count_step rack n (Abandon j m) None legal = omega (arith, mine_there n j m legal)
count_step rack n (Find j m found) None legal = refl
count_step rack n (Listed j) None legal = refl
count_step rack n (Renew j m mark) (Some r) legal = refl
count_step rack n (Often j m) None legal = refl
count_step rack n _ _ legal = absurd legal

filter_cons : (p : IndexEntry → Bool) (e : IndexEntry) (es : List IndexEntry) → length (filter p (e ∷ es)) ≡ length (filter p (e ∷ [])) + length (filter p es)
filter_cons p e es = by (p e)
  where
    by : (b : Bool) → length (if b then e ∷ filter p es else filter p es) ≡ length (if b then e ∷ [] else []) + length (filter p es)
    by true = omega arith
    by false = omega arith

filter_few : (p : IndexEntry → Bool) (es : List IndexEntry) → length (filter p es) ≤ length es
filter_few p [] = omega arith
filter_few p (e ∷ es) = by (p e) (filter_few p es)
  where
    by : (b : Bool) → length (filter p es) ≤ length es → length (if b then e ∷ filter p es else filter p es) ≤ length (e ∷ es)
    by true go = omega arith
    by false go = omega arith

count_on : (rack : Rack) (n m : Names) (log : List Logged) → ReplaysIndex rack n log m
    → length m.reserved + length (filter ends_reserve (entries log)) ≡ length n.reserved + length (filter is_reserve (entries log))
count_on rack n m [] h = ap (λ (k : Names). length k.reserved + 0) h
count_on rack n m (x ∷ log) (legal, rest) =
    omega (arith, count_step rack n x.entry x.brought legal, count_on rack (after n x) m log rest, filter_cons ends_reserve x.entry (entries log), filter_cons is_reserve x.entry (entries log))

pub counts_reserved : (rack : Rack) (n m : Names) (log : List Logged) → ReplaysIndex rack n log m → n.reserved ≡ [] → length m.reserved ≡ reserved_in (entries log)
counts_reserved rack n m log h none = omega (arith, count_on rack n m log h, ap length none)

pub owed_never_falls : (rack : Rack) (n m : Names) (log : List Logged) → ReplaysIndex rack n log m → length n.reserved ≤ length log + length m.reserved
owed_never_falls rack n m log h =
    omega (arith, count_on rack n m log h, filter_few ends_reserve (entries log), length-map log (λ (x : Logged). x.entry))

few_step : (rack : Rack) (n : Names) (e : IndexEntry) (b : Option Record) → LegalEntry rack n e b → length (after_entry n e b).published ≤ length n.published + 1
few_step rack n (Reserve j m) None legal = omega arith
few_step rack n (Taken j m) None legal = omega arith
few_step rack n (Publish j m mark) (Some r) legal = omega (arith, length-inserted r n.published)
few_step rack n (Abandon j m) None legal = omega arith
few_step rack n (Find j m found) None legal = omega arith
few_step rack n (Listed j) None legal = omega arith
few_step rack n (Renew j m mark) (Some r) legal = omega (arith, length-map n.published (λ (o : Record). if same_name o.name r.name then r else o))
few_step rack n (Often j m) None legal = omega arith
few_step rack n _ _ legal = absurd legal

pub few_published : (rack : Rack) (n m : Names) (log : List Logged) → ReplaysIndex rack n log m → length m.published ≤ length n.published + length log
few_published rack n m [] h = omega (arith, ap (λ (k : Names). length k.published) h)
few_published rack n m (x ∷ log) (legal, rest) = omega (arith, few_step rack n x.entry x.brought legal, few_published rack (after n x) m log rest)
