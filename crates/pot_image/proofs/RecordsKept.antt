-- The records that were read are those with which an index may begin.
use Rattle.std.proofs.Common.{◌≡◌, ◌⊎◌, inl, inr, ℕ, ◌+◌, ◌-◌, ◌<◌, ◌≤◌, ◌&&◌, Bool, true, Some, None, slice_get, List, [], ◌∷◌, ◌++◌, length, get_or, map, All, Ok, ap, sym, subst, ◌∙◌, refl, arith, length-append}
use Rattle.std.specs.Cmp.Lexicographic.{slice_cmp}
use Rattle.std.specs.Ordering.{is_lt, nat_cmp}
use Rattle.std.specs.declared.cmp.Ordering.TheVariants.{Less, Equal, Greater}
use Rattle.std.proofs.Math.Seq.{get_or-append_seam}
use Rattle.std.proofs.lemmas.Cmp.{nat_list_cmp_total}
use Rattle.std.proofs.lemmas.List.{get_or_append_left, get_or-map, length-map}
use Rattle.std.proofs.lemmas.List.Elements.{All-nil, All-push, All-weaker}
use Rattle.std.proofs.lemmas.List.Sums.{AllPass-from_list_all}
use Rattle.std.proofs.lemmas.Map.Keys.{sorted_from_all_adjacent}
use Rattle.std.proofs.lemmas.Option.{slice_get-get_or}
use Rattle.std.proofs.lemmas.Bool.{leb-true, and_parts}
use Rattle.std.specs.declared.cmp.Ordering.{Ordering}
use Rattle.pot_bytes.specs.Names.{IsName, is_name_byte}
use Rattle.pot_bytes.specs.declared.digest.Digest.{Digest}
use Rattle.pot_bytes.specs.declared.rack.Rack.{Rack}
use Rattle.pot_bytes.specs.Rack.{IsRack}
use Rattle.pot_object.specs.Pieces.{longest, pieces_of}
use Rattle.pot_machine.specs.Table.{Table}
use Rattle.pot_index.specs.declared.record.Record.{Record}
use Rattle.pot_index.specs.Fits.{FitsSplit, FitsRack}
use Rattle.pot_index.specs.Index.{NamesAscend}
use Rattle.pot_image.specs.declared.format.Format.{Format}
use Rattle.pot_image.specs.Fields.{ReadsFields, done, wants}
use Rattle.pot_image.specs.Reading.{◌>>=◌, several, reading}
use Rattle.pot_image.specs.Numbers.{natural, text, any, at_most, between, digest}
use Rattle.pot_image.specs.Records.{name, is_name, is_above, splits, record_behind, records}
use Rattle.pot_image.specs.Rules.{IsDigest, IsFilled, IsRecordOver, AreRecords}
use Rattle.pot_image.proofs.Once.{reads_are}
use Rattle.pot_image.proofs.Steps.{holds_of, between_of}
use Rattle.pot_image.proofs.Inverse.{parts, done_is, several_keep}
use Rattle.pot_image.proofs.RecordRules.{KeptSplit, splits_kept, one_longer}

-- NAMES AND DIGESTS

text_kept : (size : ℕ) (rule : List ℕ → Bool) (bytes rest x : List ℕ) → reading (text size rule) bytes ≡ Ok (x, rest) → (length x ≡ size) × (rule x ≡ true)
unfolding text
text_kept size rule bytes rest x e = (let r = reads_are (text size rule) bytes rest x e in of_fields r.0 r.2)
  where
    of_fields : (xs : List (List ℕ)) → ReadsFields (wants (record { size = size; holds = rule }) done) xs x → (length x ≡ size) × (rule x ≡ true)
    of_fields [] h = absurd h
    of_fields (y ∷ []) h = subst (λ z. (length z ≡ size) × (rule z ≡ true)) h.1 h.0
    of_fields (y ∷ z ∷ xs) h = absurd h.1

pub digest_kept : (bytes rest : List ℕ) (d : Digest) → reading digest bytes ≡ Ok (d, rest) → IsDigest d
unfolding digest
digest_kept bytes rest d e = (let r = reads_are digest bytes rest d e in of_fields r.0 r.2)
  where
    of_fields : (xs : List (List ℕ)) → ReadsFields (wants (record { size = 32; holds = any }) (λ x. done (record { bytes = x }))) xs d → IsDigest d
    of_fields [] h = absurd h
    of_fields (y ∷ []) h = subst IsDigest h.1 h.0.0
    of_fields (y ∷ z ∷ xs) h = absurd h.1

pub name_kept : (rule : List ℕ → Bool) (bytes rest x : List ℕ) → reading (name rule) bytes ≡ Ok (x, rest) → IsName x × (rule x ≡ true)
unfolding name
name_kept rule bytes rest x e =
    (let a = parts (natural 1 (between 1 64)) (λ n. text n (λ x. is_name x && rule x)) bytes x rest e in
    let range = between_of 1 1 64 bytes a.behind a.value a.first in
    let t = text_kept a.value (λ x. is_name x && rule x) a.behind rest x a.second in
    let rules = and_parts (is_name x) (rule x) t.1 in
    (record { some = omega (arith, t.0, range.0); few = omega (arith, t.0, range.1); each = AllPass-from_list_all is_name_byte x rules.0 }, rules.1))

-- ONE RECORD

record KeptRecord (rack : Rack) (ts : List Table) (before : List Record) (r : Record) : Type 0 where
  above : is_above before r.name ≡ true
  fits : FitsRack rack r
  over : IsRecordOver ts r

record_kept : (format : Format) (rack : Rack) (ts : List Table) (i : ℕ) (before : List Record) (bytes rest : List ℕ) (r : Record) → IsRack rack
    → reading (record_behind format rack ts i before) bytes ≡ Ok (r, rest) → KeptRecord rack ts before r
unfolding record_behind
record_kept format rack ts i before bytes rest r rules e =
    (let a = parts (name (is_above before)) (λ name. natural 8 (at_most longest) >>= λ length. digest >>= λ digest. splits format rack ts (pieces_of length) >>= λ s. done (record { name = name; length = length; digest = digest; geometry = s.current.geometry; places = s.current.places; older = s.older })) bytes r rest e in
    let b = parts (natural 8 (at_most longest)) (λ length. digest >>= λ digest. splits format rack ts (pieces_of length) >>= λ s. done (record { name = a.value; length = length; digest = digest; geometry = s.current.geometry; places = s.current.places; older = s.older })) a.behind r rest a.second in
    let c = parts digest (λ digest. splits format rack ts (pieces_of b.value) >>= λ s. done (record { name = a.value; length = b.value; digest = digest; geometry = s.current.geometry; places = s.current.places; older = s.older })) b.behind r rest b.second in
    let d = parts (splits format rack ts (pieces_of b.value)) (λ s. done (record { name = a.value; length = b.value; digest = c.value; geometry = s.current.geometry; places = s.current.places; older = s.older })) c.behind r rest c.second in
    let same = done_is (record { name = a.value; length = b.value; digest = c.value; geometry = d.value.current.geometry; places = d.value.current.places; older = d.value.older }) r d.behind rest d.second in
    let named = name_kept (is_above before) bytes a.behind a.value a.first in
    let kept = splits_kept format rack ts (pieces_of b.value) c.behind d.behind d.value rules d.first in
    let all = All-push (KeptSplit rack ts (pieces_of b.value)) d.value.older d.value.current kept.older kept.current in
    subst (KeptRecord rack ts before) same.0 (record {
      above = named.1;
      fits = record {
        long = leb-true b.value longest (holds_of 8 (at_most longest) a.behind b.behind b.value b.first);
        few = kept.few;
        splits = All-weaker (KeptSplit rack ts (pieces_of b.value)) (FitsSplit rack (pieces_of b.value)) (λ s k. k.fits) (d.value.older ++ d.value.current ∷ []) all;
      };
      over = record {
        name = named.0;
        digest = digest_kept b.behind c.behind c.value c.first;
        filled = All-weaker (KeptSplit rack ts (pieces_of b.value)) (λ s. All (IsFilled ts) s.places) (λ s k. k.filled) (d.value.older ++ d.value.current ∷ []) all;
      };
    }))

-- ALL RECORDS

abbrev Follows : Record → Record → Type 0
Follows r o = slice_cmp nat_cmp r.name o.name ≡ Less

less_is : (o : Ordering) → is_lt o ≡ true → o ≡ Less
less_is Less e = refl
less_is Equal e = absurd (cc)
less_is Greater e = absurd (cc)

above_is : (before : List Record) (x : List ℕ) (r : Record) → slice_get before (length before - 1) ≡ Some r → is_above before x ≡ true → slice_cmp nat_cmp r.name x ≡ Less
above_is before x r e h = less_is (slice_cmp nat_cmp r.name x) (sym (ap (λ o. elim o [ None ↦ true | Some r ↦ is_lt (slice_cmp nat_cmp r.name x) ]) e) ∙ h)

record AreKept (rack : Rack) (ts : List Table) (n : ℕ) (rs : List Record) : Type 0 where
  count : length rs ≡ n
  rising : (k : ℕ) (d : Record) → k + 1 < length rs → Follows (get_or rs k d) (get_or rs (k + 1) d)
  fits : All (FitsRack rack) rs
  each : All (IsRecordOver ts) rs

one_record : (rack : Rack) (ts : List Table) (n : ℕ) (before : List Record) (x : Record) → AreKept rack ts n before → KeptRecord rack ts before x → AreKept rack ts (n + 1) (before ++ x ∷ [])
one_record rack ts n before x are k = record {
  count = one_longer before x n are.count;
  rising = λ i d l. rises i d l (nearer (i + 1) (length before));
  fits = All-push (FitsRack rack) before x are.fits k.fits;
  each = All-push (IsRecordOver ts) before x are.each k.over;
}
  where
    nearer : (a b : ℕ) → (a < b) ⊎ (b ≤ a)
    nearer a b = grind arith

    rises : (i : ℕ) (d : Record) → i + 1 < length (before ++ x ∷ []) → ((i + 1 < length before) ⊎ (length before ≤ i + 1)) → Follows (get_or (before ++ x ∷ []) i d) (get_or (before ++ x ∷ []) (i + 1) d)
    rises i d l (inl below) =
        let here : get_or (before ++ x ∷ []) i d ≡ get_or before i d = get_or_append_left before (x ∷ []) d i (omega (arith, below)) in
        let next : get_or (before ++ x ∷ []) (i + 1) d ≡ get_or before (i + 1) d = get_or_append_left before (x ∷ []) d (i + 1) below in
        subst (λ r. Follows r (get_or (before ++ x ∷ []) (i + 1) d)) (sym here) (subst (Follows (get_or before i d)) (sym next) (are.rising i d below))
    rises i d l (inr at) =
        let whole : length (before ++ x ∷ []) ≡ length before + 1 = length-append before (x ∷ []) in
        let last : length before - 1 ≡ i = omega (arith, l, whole, at) in
        let behind : i + 1 ≡ length before = omega (arith, l, whole, at) in
        let below : i < length before = omega (arith, behind) in
        let here : get_or (before ++ x ∷ []) i d ≡ get_or before i d = get_or_append_left before (x ∷ []) d i below in
        let next : get_or (before ++ x ∷ []) (i + 1) d ≡ x = ap (λ j. get_or (before ++ x ∷ []) j d) behind ∙ get_or-append_seam before x [] d in
        subst (λ r. Follows r (get_or (before ++ x ∷ []) (i + 1) d)) (sym here) (subst (Follows (get_or before i d)) (sym next) (above_is before x.name (get_or before i d) (ap (slice_get before) last ∙ slice_get-get_or before i d below) k.above))

ascends : (rs : List Record) (d : Record) → ((k : ℕ) → k + 1 < length rs → Follows (get_or rs k d) (get_or rs (k + 1) d)) → NamesAscend rs
ascends rs d h =
    sorted_from_all_adjacent nat_list_cmp_total (map (λ r. r.name) rs) d.name (λ k l. at k (let n = length-map rs (λ r. r.name) in omega (arith, l, n)))
  where
    at : (k : ℕ) → k + 1 < length rs → slice_cmp nat_cmp (get_or (map (λ r. r.name) rs) k d.name) (get_or (map (λ r. r.name) rs) (k + 1) d.name) ≡ Less
    at k l =
        let here : get_or (map (λ r. r.name) rs) k d.name ≡ (get_or rs k d).name = get_or-map (λ r. r.name) rs k d d.name (omega (arith, l)) in
        let next : get_or (map (λ r. r.name) rs) (k + 1) d.name ≡ (get_or rs (k + 1) d).name = get_or-map (λ r. r.name) rs (k + 1) d d.name l in
        subst (λ n. slice_cmp nat_cmp n (get_or (map (λ r. r.name) rs) (k + 1) d.name) ≡ Less) (sym here) (subst (λ n. slice_cmp nat_cmp (get_or rs k d).name n ≡ Less) (sym next) (h k l))

no_record : Record
no_record = record { name = []; length = 0; digest = record { bytes = [] }; geometry = record { fragments = 0; need = 0; shards = 0; blur = 0 }; places = []; older = [] }

pub records_kept : (format : Format) (rack : Rack) (ts : List Table) (bytes rest : List ℕ) (rs : List Record) → IsRack rack
    → reading (records format rack ts) bytes ≡ Ok (rs, rest) → AreRecords rack ts rs
unfolding records
records_kept format rack ts bytes rest rs rules e =
    (let a = parts (natural 4 (at_most 4000000000)) (λ n. several 0 n (record_behind format rack ts) []) bytes rs rest e in
    let most = leb-true a.value 4000000000 (holds_of 4 (at_most 4000000000) bytes a.behind a.value a.first) in
    let all = several_keep (AreKept rack ts) (record_behind format rack ts) a.value
    (λ i before x bs rs l are h. one_record rack ts i before x are (record_kept format rack ts i before bs rs x rules h))
    a.value 0 [] rs a.behind rest (omega arith) none a.second in
    let count = all.count in
    record { read = record { few = omega (arith, count, most); ascends = ascends rs no_record (λ k l. all.rising k no_record l); fits = all.fits }; each = all.each })
  where
    none : AreKept rack ts 0 []
    none = record { count = refl; rising = λ k d l. absurd (omega (arith, l)); fits = All-nil (FitsRack rack); each = All-nil (IsRecordOver ts) }
