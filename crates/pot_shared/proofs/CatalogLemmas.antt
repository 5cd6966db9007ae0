-- What passes have seen stays seen, and what the calls of an index leave of its log.
use Rattle.std.proofs.Common.{◌≡◌, ◌<◌, ◌⊎◌, inl, inr, ℕ, zero, suc, List, [], ◌∷◌, ◌++◌, length, refl, ap, sym, ◌∙◌, subst, arith, append-nil}
use Rattle.std.specs.Prelude.{Contains, Some, None, Result, Ok, Err, Vec}
use Rattle.std.specs.Global.{Global}
use Rattle.std.proofs.lemmas.List.{map-append}
use Rattle.std.proofs.lemmas.List.Elements.{Contains-append_left}
use Rattle.pot_bytes.specs.declared.digest.Digest.{Digest}
use Rattle.pot_bytes.specs.declared.rack.Place.{Place}
use Rattle.pot_bytes.specs.declared.rack.Rack.{Rack}
use Rattle.pot_index.specs.declared.entry.IndexEntry.{IndexEntry}
use Rattle.pot_index.specs.declared.entry.IndexEntry.TheVariants as entry
use Rattle.pot_index.specs.declared.entry.Logged.{Logged}
use Rattle.pot_index.specs.declared.fault.FindFault.{FindFault}
use Rattle.pot_index.specs.declared.fault.FindFault.TheVariants as find_fault
use Rattle.pot_index.specs.declared.fault.ListFault.{ListFault}
use Rattle.pot_index.specs.declared.fault.ListFault.TheVariants as list_fault
use Rattle.pot_index.specs.declared.fault.RenewFault.{RenewFault}
use Rattle.pot_index.specs.declared.fault.RenewFault.TheVariants as renew_fault
use Rattle.pot_index.specs.declared.fault.ReserveFault.{ReserveFault}
use Rattle.pot_index.specs.declared.fault.ReserveFault.TheVariants as reserve_fault
use Rattle.pot_index.specs.declared.listed.Listed.{Listed}
use Rattle.pot_index.specs.declared.record.Record.{Record}
use Rattle.pot_index.specs.declared.record.Split.{Split}
use Rattle.pot_index.specs.Calls.{Reserves, Finds, ListsNames, Renews, published_by}
use Rattle.pot_index.specs.Entries.{plain, bringing}
use Rattle.pot_index.specs.Index.{IndexView, IsIndex, IsRecordOf, Names, after, logged}
use Rattle.pot_index.specs.Records.{mark_of, renewed}
use Rattle.pot_index.proofs.RecordLaws.{one_record}
use Rattle.pot_index.proofs.RecordLemmas.{inserted_from, replaced_from}
use Rattle.pot_turn.specs.declared.name.TurnName.{TurnName}
use Rattle.pot_turn.specs.Logs.{StartsWith}
use Rattle.pot_rows.specs.Rows.{AreOf, HasMoreParts, view_at}
use Rattle.pot_rows.specs.Ties.{RowTied}
use Rattle.pot_shared.specs.Members.{entries_of}
use Rattle.pot_shared.specs.Ready.{GroupPasses, AreReady, IsOrigin}
use Rattle.pot_shared.specs.Seen.{SeesPut, SeesFile, RowKnowsMore}
use Rattle.pot_shared.specs.Catalogs.{AreFirstSplits, AreTold, CatalogView, KeepsSeen, Publishes}

-- SEEN

module _ (v w : GroupPasses) (long : length w.names ≡ length v.names) (more : (g : ℕ) → g < length v.names → StartsWith (view_at w g).seen (view_at v g).seen) where
  pub sees_more : (p : Place) (d : Digest) → SeesPut v p d → SeesPut w p d
  sees_more p d (within, (job, e, is, here)) =
      let grown = more p.group within in
      let all : entries_of (view_at w p.group).seen ≡ entries_of (view_at v p.group).seen ++ entries_of grown.0 =
      ap entries_of grown.1 ∙ map-append (λ l. l.entry) (view_at v p.group).seen grown.0 in (
        omega (arith, within, long),
        (job, e, is, subst (λ es. Contains es e) (sym all) (Contains-append_left (entries_of (view_at v p.group).seen) (entries_of grown.0) e here)),
      )

  pub file_more : (r : Record) → SeesFile v r → SeesFile w r
  file_more r s = record {
    file = s.file;
    random = s.random;
    store = s.store;
    long = s.long;
    digest = s.digest;
    puts = (λ b p is. sees_more p _ (s.puts b p is));
  }

-- WHAT A CALL ADDED TO THE LOG OF AN INDEX

-- no entry, or one that brought no record
abbrev pub IsSmall : IndexView → IndexView → Type 0
IsSmall s t = (t ≡ s) ⊎ ((e : IndexEntry) × (t ≡ logged s (plain e)))

pub reserves_small : (job : ℕ) (name : List ℕ) (s t : IndexView) (result : Result (Unit {0}) ReserveFault) → Reserves job name s t result → IsSmall s t
reserves_small job name s t (Ok u) r = inr (_, r.2)
reserves_small job name s t (Err reserve_fault.LogFull) r = inl r.1
reserves_small job name s t (Err reserve_fault.Exists) r = inr (_, r.2)
reserves_small job name s t (Err reserve_fault.NoMemory) r = inl r.2

pub finds_small : (job : ℕ) (name : List ℕ) (s t : IndexView) (result : Result Record FindFault) → Finds job name s t result → IsSmall s t
finds_small job name s t (Ok r) f = inr (_, f.2)
finds_small job name s t (Err find_fault.LogFull) f = inl f.1
finds_small job name s t (Err find_fault.Absent) f = inr (_, f.2)
finds_small job name s t (Err find_fault.NoMemory) f = inl f.2

pub lists_small : (job : ℕ) (s t : IndexView) (result : Result (Vec Listed Global) ListFault) → ListsNames job s t result → IsSmall s t
lists_small job s t (Ok v) l = inr (_, l.2)
lists_small job s t (Err list_fault.LogFull) l = inl l.1
lists_small job s t (Err list_fault.NoMemory) l = inl l.1

contains_last : {X : Type 0} (xs : List X) (y z : X) → Contains (xs ++ y ∷ []) z → Contains xs z ⊎ (y ≡ z)
contains_last [] y z (zero, l, e) = inr e
contains_last [] y z (suc k, l, e) = absurd (omega (arith, l))
contains_last (x ∷ xs) y z (zero, l, e) = inl (zero, omega arith, e)
contains_last (x ∷ xs) y z (suc k, l, e) = elim (contains_last xs y z (k, omega (arith, l), e)) [
  | inl h ↦ inl (suc h.0, omega (arith, h.1), h.2)
  | inr q ↦ inr q
]

brings_none : (e : IndexEntry) (f : IndexEntry) (r : Record) → plain e ≡ bringing f r → ⊥
brings_none e f r is = (let same : None ≡ Some r = ap (λ (x : Logged). x.brought) is in cc)

-- what is published afterwards was published before
pub small_publishes : (s t : IndexView) → IsSmall s t → (r : Record) → Publishes t.log r → Publishes s.log r
small_publishes s t (inl e) r p = subst (λ (i : IndexView). Publishes i.log r) e p
small_publishes s t (inr (e, is)) r p =
    let q = subst (λ (i : IndexView). Publishes i.log r) is p in
    elim (contains_last s.log (plain e) (bringing q.0 r) q.1) [
      | inl h ↦ (q.0, h)
      | inr same ↦ absurd (brings_none e q.0 r same)
    ]

pub small_rack : (s t : IndexView) → IsSmall s t → t.rack ≡ s.rack
small_rack s t (inl e) = ap (λ (i : IndexView). i.rack) e
small_rack s t (inr (e, is)) = ap (λ (i : IndexView). i.rack) is

pub small_read : (s t : IndexView) → IsSmall s t → t.read ≡ s.read
small_read s t (inl e) = ap (λ (i : IndexView). i.read) e
small_read s t (inr (e, is)) = ap (λ (i : IndexView). i.read) is

pub small_log : (s t : IndexView) → IsSmall s t → (entries : List Logged) × (t.log ≡ s.log ++ entries)
small_log s t (inl e) = ([], ap (λ (i : IndexView). i.log) e ∙ sym (append-nil s.log))
small_log s t (inr (e, is)) = (plain e ∷ [], ap (λ (i : IndexView). i.log) is)

-- an entry that brings no record publishes none
plain_published : (n : Names) (e : IndexEntry) → (after n (plain e)).published ≡ n.published
plain_published n (entry.Reserve job name) = refl
plain_published n (entry.Taken job name) = refl
plain_published n (entry.Publish job name mark) = refl
plain_published n (entry.Abandon job name) = refl
plain_published n (entry.Find job name found) = refl
plain_published n (entry.Listed job) = refl
plain_published n (entry.Renew job name mark) = refl
plain_published n (entry.Often job name) = refl

-- a longer log publishes what it published
publishes_more : (log : List Logged) (x : Logged) (r : Record) → Publishes log r → Publishes (log ++ x ∷ []) r
publishes_more log x r (e, has) = (e, Contains-append_left log (x ∷ []) (bringing e r) has)

pub small_told : (s t : IndexView) → IsSmall s t → AreTold s → AreTold t
small_told s t (inl e) told = subst AreTold (sym e) told
small_told s t (inr (e, is)) told = subst AreTold (sym is) (λ r has. elim (told r (subst (λ rs. Contains rs r) (plain_published s.now e) has)) [
  | inl read ↦ inl read
  | inr put ↦ inr (publishes_more s.log (plain e) r put)
])

-- and published with one split
small_once : (s t : IndexView) → IsSmall s t → AreFirstSplits s.log → AreFirstSplits t.log
small_once s t (inl e) once = subst (λ (i : IndexView). AreFirstSplits i.log) (sym e) once
small_once s t (inr (e, is)) once = subst (λ (i : IndexView). AreFirstSplits i.log) (sym is) (λ job name mark r has. elim (contains_last s.log (plain e) (bringing (entry.Publish job name mark) r) has) [
  | inl h ↦ once job name mark r h
  | inr same ↦ absurd (brings_none e (entry.Publish job name mark) r same)
])

-- an index whose kept passes did nothing
pub keeps_small : (s t : IndexView) (kept : GroupPasses) → IsSmall s t → KeepsSeen (record { index = s; kept = kept }) → KeepsSeen (record { index = t; kept = kept })
keeps_small s t kept small keeps =
    let rack = small_rack s t small in
    record {
      groups = keeps.groups ∙ sym (ap (λ (x : Rack). x.groups) rack);
      ready = subst (λ x. AreReady x kept.names kept) (sym rack) keeps.ready;
      kept = keeps.kept;
      seen = (λ r p. keeps.seen r (small_publishes s t small r p));
      told = small_told s t small keeps.told;
      once = small_once s t small keeps.once;
    }

-- TWO ROWS THAT ARE TIED

module _ (rack : Rack) (names : List TurnName) (mine kept mine' kept' : GroupPasses) (own : AreOf names mine') (own_kept : AreOf names kept')
    (ready : AreReady rack names mine) (same : kept.names ≡ names) (tied : RowTied mine kept mine' kept') where
  pub mine_more : RowKnowsMore mine mine'
  mine_more = (own.0 ∙ sym ready.of.0, own.1 ∙ sym ready.of.1, λ g lt. (tied g).mine)

  -- the caller has seen what the kept passes had
  pub file_told : (r : Record) → SeesFile kept r → SeesFile mine' r
  file_told r s = file_more kept mine' (ap length (own.0 ∙ sym same)) (λ g lt. (tied g).told) r s

  pub ready_tied : AreReady rack names mine'
  ready_tied = record {
    of = own;
    idle = (λ g. (tied g).mine.holds ∙ ready.idle g);
    origins = (λ g lt. subst (λ o. IsOrigin rack g o) (sym (tied g).mine.origin) (ready.origins g lt));
  }

  module _ (s : IndexView) (keeps : KeepsSeen (record { index = s; kept = kept })) where
    -- and the kept passes have seen what the caller had
    pub keeps_tied : KeepsSeen (record { index = s; kept = kept' })
    keeps_tied =
        let names_same : kept'.names ≡ kept.names = own_kept.0 ∙ sym same in
        let long = ap length names_same in
        record {
          groups = long ∙ keeps.groups;
          ready = subst (λ ns. AreReady s.rack ns kept') (sym names_same) (record {
            of = subst (λ ns. AreOf ns kept') (sym same) own_kept;
            idle = (λ g. (tied g).other.holds ∙ keeps.ready.idle g);
            origins = (λ g lt. subst (λ o. IsOrigin s.rack g o) (sym (tied g).other.origin) (keeps.ready.origins g lt));
          });
          kept = (λ g lt. (let q = keeps.kept g (omega (arith, lt, long)) in let o = (tied g).other in (o.parts ∙ q.0, o.turns ∙ q.1, o.joined ∙ q.2, o.made ∙ q.3)));
          seen = (λ r p. file_more kept kept' long (λ g lt. (tied g).other.seen) r (keeps.seen r p));
          told = keeps.told;
          once = keeps.once;
        }

    -- the kept passes have seen the puts that the caller had
    pub file_heard : (r : Record) → SeesFile mine r → SeesFile kept' r
    file_heard r f = file_more mine kept' (ap length (own_kept.0 ∙ sym ready.of.0)) (λ g lt. (tied g).heard) r f

-- ONE RECORD MORE

contains_end : {X : Type 0} (xs : List X) (y : X) → Contains (xs ++ y ∷ []) y
contains_end [] y = (zero, omega arith, refl)
contains_end (x ∷ xs) y = (let h = contains_end xs y in (suc h.0, omega (arith, h.1), h.2))

same_record : (e f : IndexEntry) (r o : Record) → bringing e r ≡ bringing f o → r ≡ o
same_record e f r o is = (let same : Some r ≡ Some o = ap (λ (x : Logged). x.brought) is in cc)

same_entry : (e f : IndexEntry) (r o : Record) → bringing e r ≡ bringing f o → e ≡ f
same_entry e f r o is = ap (λ (x : Logged). x.entry) is

-- an entry that brings a record whose puts the kept passes have seen
keeps_brought : (s : IndexView) (e : IndexEntry) (r : Record) (t : IndexView) (kept : GroupPasses) → t ≡ logged s (bringing e r)
    → ((o : Record) → Contains (after s.now (bringing e r)).published o → (r ≡ o) ⊎ Contains s.now.published o) → SeesFile kept r
    → ((job : ℕ) (name : List ℕ) (mark : Digest) → e ≡ entry.Publish job name mark → r.older ≡ [])
    → KeepsSeen (record { index = s; kept = kept }) → KeepsSeen (record { index = t; kept = kept })
keeps_brought s e r t kept is from seen first keeps = subst (λ (i : IndexView). KeepsSeen (record { index = i; kept = kept })) (sym is) (record {
  groups = keeps.groups;
  ready = keeps.ready;
  kept = keeps.kept;
  seen = (λ o p. elim (contains_last s.log (bringing e r) (bringing p.0 o) p.1) [
    | inl h ↦ keeps.seen o (p.0, h)
    | inr same ↦ subst (λ x. SeesFile kept x) (same_record e p.0 r o same) seen
  ]);
  told = (λ o has. elim (from o has) [
    | inl same ↦ inr (subst (λ x. Publishes (s.log ++ bringing e r ∷ []) x) same (e, contains_end s.log (bringing e r)))
    | inr old ↦ elim (keeps.told o old) [
      | inl read ↦ inl read
      | inr put ↦ inr (publishes_more s.log (bringing e r) o put)
    ]
  ]);
  once = (λ job name mark o has. elim (contains_last s.log (bringing e r) (bringing (entry.Publish job name mark) o) has) [
    | inl h ↦ keeps.once job name mark o h
    | inr same ↦ subst (λ (x : Record). x.older ≡ []) (same_record e (entry.Publish job name mark) r o same) (first job name mark (same_entry e (entry.Publish job name mark) r o same))
  ]);
})

pub keeps_published : (s : IndexView) (job : ℕ) (r : Record) (t : IndexView) (kept : GroupPasses) → t ≡ published_by s job r → SeesFile kept r → r.older ≡ []
    → KeepsSeen (record { index = s; kept = kept }) → KeepsSeen (record { index = t; kept = kept })
keeps_published s job r t kept is seen once keeps =
    keeps_brought s (entry.Publish job r.name (mark_of r)) r t kept is (λ o has. inserted_from r o s.now.published has) seen (λ j n m e. once) keeps

-- A NEW SPLIT

-- the puts of a file at the places of a split are those of each record of that file with the split
pub file_same : (row : GroupPasses) (r o : Record) (split : Split) → o.length ≡ r.length → o.digest ≡ r.digest → SeesFile row (renewed r split) → SeesFile row (renewed o split)
file_same row r o split long digest s = record {
  file = s.file;
  random = s.random;
  store = s.store;
  long = s.long ∙ sym long;
  digest = digest ∙ s.digest;
  puts = s.puts;
}

-- the index has one record of a name
one_of : (s : IndexView) (name : List ℕ) (r o : Record) → IsIndex s → IsRecordOf s.now name r → IsRecordOf s.now name o → r ≡ o
one_of s name r o is_index is other = one_record s.now.published r o is_index.names.ascends is.0 other.0 (is.1 ∙ sym other.1)

pub keeps_renewed : (s : IndexView) (job : ℕ) (name : List ℕ) (split : Split) (result : Result (Unit {0}) RenewFault) (t : IndexView) (kept : GroupPasses) (r : Record)
    → IsIndex s → Renews job name split s t result → IsRecordOf s.now name r → SeesFile kept (renewed r split)
    → KeepsSeen (record { index = s; kept = kept }) → KeepsSeen (record { index = t; kept = kept })
keeps_renewed s job name split (Ok u) t kept r is_index (o, of, (room, few, is)) here seen keeps =
    let q = renewed o split in
    keeps_brought s (entry.Renew job name (mark_of q)) q t kept is (λ p has. replaced_from q p s.now.published has)
    (subst (λ (x : Record). SeesFile kept (renewed x split)) (one_of s name r o is_index here of) seen) (λ j n m e. absurd (cc e)) keeps
keeps_renewed s job name split (Err renew_fault.LogFull) t kept r is_index (o, of, (full, is)) here seen keeps = keeps_small s t kept (inl is) keeps
keeps_renewed s job name split (Err renew_fault.TooOften) t kept r is_index (o, of, (room, many, is)) here seen keeps = keeps_small s t kept (inr (_, is)) keeps
keeps_renewed s job name split (Err renew_fault.NoMemory) t kept r is_index (o, of, (room, few, is)) here seen keeps = keeps_small s t kept (inl is) keeps

-- the kept passes have a part to give
pub kept_parts : (c : CatalogView) → KeepsSeen c → HasMoreParts 1 c.kept
kept_parts c keeps = λ g lt. (let p = (keeps.kept g lt).0 in omega (arith, p))
