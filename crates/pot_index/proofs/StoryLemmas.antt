-- What the tests' own functions rest on.
use Rattle.std.proofs.Common.{◌≡◌, ℕ, List, [], ◌∷◌, ◌++◌, Result, Ok, Err, refl, sym, ap, subst, ◌∙◌, arith}
use Rattle.std.specs.Prelude.{Any, Contains}
use Rattle.std.specs.List.Sorted.{IsStrictlySortedBy}
use Rattle.std.proofs.lemmas.List.{map_push}
use Rattle.std.proofs.lemmas.List.Elements.{Contains-push}
use Rattle.std.proofs.lemmas.List.Quantifiers.{Any-push}
use Rattle.pot_bytes.specs.declared.rack.Rack.{Rack}
use Rattle.pot_bytes.proofs.Elements.{any_front}
use Rattle.pot_index.specs.declared.entry.IndexEntry.{IndexEntry}
use Rattle.pot_index.specs.declared.entry.IndexEntry.TheVariants.{Reserve, Abandon}
use Rattle.pot_index.specs.declared.entry.Logged.{Logged}
use Rattle.pot_index.specs.declared.fault.RenewFault.{RenewFault}
use Rattle.pot_index.specs.declared.fault.RenewFault.TheVariants as renew_fault
use Rattle.pot_index.specs.declared.record.Record.{Record}
use Rattle.pot_index.specs.declared.record.Split.{Split}
use Rattle.pot_index.specs.Calls.{Renews, published_by}
use Rattle.pot_index.specs.Entries.{IsReserving, entries, plain}
use Rattle.pot_index.specs.Index.{IndexView, IsIndex, AreFirstRecords, IsReservedBy, IsRecordOf, logged, replaced}
use Rattle.pot_index.specs.Records.{renewed}
use Rattle.pot_index.specs.Stories.{HasSmall}
use Rattle.pot_index.proofs.NameLemmas.{contains_map}
use Rattle.pot_index.proofs.RecordLaws.{one_record}
use Rattle.pot_index.proofs.RecordLemmas.{inserted_has, replaced_has}

empty_read : (rack : Rack) → AreFirstRecords rack []
unfolding IsStrictlySortedBy
empty_read rack = record { few = omega arith; ascends = tt; fits = λ k d lt. absurd (omega arith) }

pub none_read : (rack : Rack) (rs : List Record) → rs ≡ [] → AreFirstRecords rack rs
none_read rack rs none = subst (AreFirstRecords rack) (sym none) (empty_read rack)

pub reserved_here : (s t : IndexView) (job : ℕ) (name : List ℕ) → t ≡ logged s (plain (Reserve job name)) → IsReservedBy t.now job name
reserved_here s t job name is =
    subst (λ (v : IndexView). IsReservedBy v.now job name) (sym is) (Contains-push s.now.reserved (record { name = name; job = job }))

pub small_published : (s t : IndexView) (job : ℕ) (name : List ℕ) (r : Record) → t ≡ published_by s job r → r.name ≡ name → r.length ≡ 5 → HasSmall t name
small_published s t job name r is named long = subst (λ (v : IndexView). HasSmall v name) (sym is) (r, (inserted_has r s.now.published, named), long)

pub reserved_before : (s t u : IndexView) (job : ℕ) (name : List ℕ) → t ≡ logged s (plain (Reserve job name)) → u ≡ logged t (plain (Abandon job name)) → Any (IsReserving job name) (entries u.log)
reserved_before s t u job name is_t is_u =
    subst (λ es. Any (IsReserving job name) es)
    (sym (ap (λ (v : IndexView). entries v.log) is_u ∙ map_push (λ (x : Logged). x.entry) t.log (plain (Abandon job name))
    ∙ ap (λ (es : List IndexEntry). es ++ Abandon job name ∷ []) (ap (λ (v : IndexView). entries v.log) is_t ∙ map_push (λ (x : Logged). x.entry) s.log (plain (Reserve job name)))))
    (any_front (IsReserving job name) (entries s.log ++ Reserve job name ∷ []) (Abandon job name ∷ []) (Any-push (IsReserving job name) (entries s.log) (Reserve job name) (refl, refl)))

small_renewed : (s t : IndexView) (job : ℕ) (name : List ℕ) (split : Split) (r : Record) → IsIndex s → HasSmall s name → IsRecordOf s.now name r
    → t.now.published ≡ replaced (renewed r split) s.now.published → HasSmall t name
small_renewed s t job name split r i (o, old, long) mine is =
    let it : r ≡ o = one_record s.now.published r o i.names.ascends mine.0 old.0 (mine.1 ∙ sym old.1) in (
      renewed r split,
      (subst (λ rs. Contains rs (renewed r split)) (sym is) (replaced_has (renewed r split) s.now.published (contains_map (λ z. z.name) r s.now.published mine.0)), mine.1),
      ap (λ (z : Record). z.length) it ∙ long,
    )

pub still_small : (s t : IndexView) (job : ℕ) (name : List ℕ) (split : Split) (result : Result (Unit {0}) RenewFault) → IsIndex s → HasSmall s name → Renews job name split s t result → HasSmall t name
still_small s t job name split (Ok u) i h (r, mine, (room, few, is)) = small_renewed s t job name split r i h mine (ap (λ (v : IndexView). v.now.published) is)
still_small s t job name split (Err renew_fault.LogFull) i h (r, mine, (full, is)) = subst (λ (v : IndexView). HasSmall v name) (sym is) h
still_small s t job name split (Err renew_fault.TooOften) i h (r, mine, (room, many, is)) = subst (λ (v : IndexView). HasSmall v name) (sym is) h
still_small s t job name split (Err renew_fault.NoMemory) i h (r, mine, (room, few, is)) = subst (λ (v : IndexView). HasSmall v name) (sym is) h
