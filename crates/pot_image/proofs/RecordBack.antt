-- The records of an image are read back.
use Rattle.std.proofs.Common.{◌≡◌, ◌⊎◌, inl, inr, ℕ, zero, suc, ◌+◌, ◌-◌, ◌*◌, ◌<◌, ◌≤◌, ◌==◌, ◌&&◌, ◌||◌, not, All, Some, None, slice_get, List, [], ◌∷◌, ◌++◌, true, false, length, get_or, take, flat_map, ap, ap₂, sym, subst, ◌∙◌, refl, arith, append-nil, length-append, length-take-le, eq-eqb}
use Rattle.std.specs.List.{list_any}
use Rattle.std.specs.Cmp.Lexicographic.{slice_cmp}
use Rattle.std.specs.Ordering.{is_lt, nat_cmp}
use Rattle.std.proofs.lemmas.List.{get_or-take, get_or_append_left}
use Rattle.std.proofs.Math.Seq.{get_or-append_seam}
use Rattle.std.proofs.lemmas.Grind.{flat_map-append}
use Rattle.std.proofs.lemmas.Option.{slice_get-get_or}
use Rattle.std.proofs.lemmas.Bool.{le-leb, and_from, cases_Bool}
use Rattle.byteorder.specs.Endian.{big_bytes}
use Rattle.pot_bytes.specs.declared.rack.Geometry.{Geometry}
use Rattle.pot_bytes.specs.declared.rack.Place.{Place}
use Rattle.pot_bytes.specs.declared.rack.Rack.{Rack}
use Rattle.pot_bytes.specs.Rack.{IsRack, no_place}
use Rattle.pot_object.specs.Pieces.{longest, pieces_of}
use Rattle.pot_object.proofs.ReadLemmas.{spread}
use Rattle.pot_machine.specs.Table.{Table}
use Rattle.pot_index.specs.declared.record.Record.{Record}
use Rattle.pot_index.specs.declared.record.Split.{Split}
use Rattle.pot_index.specs.Fits.{group_of, FitsPlace, FitsSplit, FitsRack}
use Rattle.pot_index.specs.Index.{NamesAscend}
use Rattle.pot_index.specs.Records.{current_of, splits_of, name_bytes, geometry_bytes, place_bytes, split_bytes, record_bytes}
use Rattle.pot_index.proofs.SearchLemmas.{less_at}
use Rattle.pot_image.specs.declared.format.Format.TheVariants.{Second}
use Rattle.pot_image.specs.Reading.{several}
use Rattle.pot_image.specs.Numbers.{natural, at_most, between, digest}
use Rattle.pot_image.specs.Heads.{geometry}
use Rattle.pot_image.specs.Records.{name, is_above, is_filled, is_at, is_apart, place, places, split, split_behind, splits, record_behind, records}
use Rattle.pot_image.specs.Spelling.{counted_bytes}
use Rattle.pot_image.specs.Rules.{IsFilled, IsRecordOver, AreRecords}
use Rattle.pot_image.proofs.Filled.{all_pass}
use Rattle.pot_image.proofs.MarkRules.{at_same}
use Rattle.pot_image.proofs.HeadBack.{is_between, geometry_back}
use Rattle.pot_image.proofs.LogBack.{name_back}
use Rattle.pot_image.proofs.ReadBack.{Back, back_then, back_end, back_as, back_number, back_byte, back_digest, back_several}

-- PLACES

none_at : (before : List Place) (g c s : ℕ) → ((j : ℕ) → j < length before → is_at g c s (get_or before j no_place) ≡ false) → list_any (is_at g c s) before ≡ false
none_at [] g c s h = refl
none_at (p ∷ before) g c s h = ap₂ (λ a b. a || b) (h 0 (omega arith)) (none_at before g c s (λ j l. h (suc j) (omega (arith, l))))

placed : ℕ → ℕ → ℕ → Place
placed g c s = record { group = g; column = c; stripe = s }

same_place : (p q : Place) → is_at q.group q.column q.stripe p ≡ true → p ≡ q
unfolding placed
same_place p q e = (let is = at_same q.group q.column q.stripe p e in ap₂ (λ a b. placed a b p.stripe) is.0 is.1 ∙ ap (λ s. placed q.group q.column s) is.2)

place_apart : (ps : List Place) (i : ℕ) → i < length ps → ((a b : ℕ) (p : Place) → slice_get ps a ≡ Some p → slice_get ps b ≡ Some p → a ≡ b)
    → is_apart (take i ps) (get_or ps i no_place).group (get_or ps i no_place).column (get_or ps i no_place).stripe ≡ true
place_apart ps i l distinct = ap not (none_at (take i ps) (get_or ps i no_place).group (get_or ps i no_place).column (get_or ps i no_place).stripe other)
  where
    other : (j : ℕ) → j < length (take i ps) → is_at (get_or ps i no_place).group (get_or ps i no_place).column (get_or ps i no_place).stripe (get_or (take i ps) j no_place) ≡ false
    other j lj = by_test (cases_Bool (is_at (get_or ps i no_place).group (get_or ps i no_place).column (get_or ps i no_place).stripe (get_or (take i ps) j no_place)))
      where
        before : j < i
        before = (let n = length-take-le i ps (omega (arith, l)) in omega (arith, n, lj))

        by_test : ((is_at (get_or ps i no_place).group (get_or ps i no_place).column (get_or ps i no_place).stripe (get_or (take i ps) j no_place) ≡ true) ⊎ (is_at (get_or ps i no_place).group (get_or ps i no_place).column (get_or ps i no_place).stripe (get_or (take i ps) j no_place) ≡ false))
            → is_at (get_or ps i no_place).group (get_or ps i no_place).column (get_or ps i no_place).stripe (get_or (take i ps) j no_place) ≡ false
        by_test (inr e) = e
        by_test (inl e) =
            let same : get_or ps j no_place ≡ get_or ps i no_place = sym (get_or-take i ps j no_place before) ∙ same_place (get_or (take i ps) j no_place) (get_or ps i no_place) e in
            let at : j ≡ i = distinct j i (get_or ps i no_place) (slice_get-get_or ps j no_place (omega (arith, before, l)) ∙ ap Some same) (slice_get-get_or ps i no_place l) in
            absurd (omega (arith, at, before))

place_back : (rack : Rack) (ts : List Table) (g : Geometry) (b : ℕ) (before : List Place) (p : Place) → IsRack rack → FitsPlace rack g b p → is_filled ts p.group p.column p.stripe ≡ true → is_apart before p.group p.column p.stripe ≡ true
    → Back (place rack ts g b before) (place_bytes p) p
unfolding place
place_back rack ts g b before p rules fits filled apart =
    (let few = rules.stripes.1 in let lc = fits.column in let ls = fits.stripe in
    back_then (natural 1 (λ n. n == group_of rack g b)) _ (p.group ∷ []) (p.column ∷ big_bytes 4 p.stripe) p.group p (back_byte (λ n. n == group_of rack g b) p.group (eq-eqb _ _ fits.group))
    (back_then (natural 1 (between 0 (rack.columns - 1))) _ (p.column ∷ []) (big_bytes 4 p.stripe) p.column p (back_byte (between 0 (rack.columns - 1)) p.column (is_between 0 (rack.columns - 1) p.column (omega arith) (omega (arith, lc))))
    (back_end (natural 4 (λ s. at_most (rack.stripes - 1) s && (is_filled ts p.group p.column s && is_apart before p.group p.column s))) (λ s. record { group = p.group; column = p.column; stripe = s }) (big_bytes 4 p.stripe) p.stripe
    (back_number 4 (λ s. at_most (rack.stripes - 1) s && (is_filled ts p.group p.column s && is_apart before p.group p.column s)) p.stripe (omega (arith, few, ls)) (and_from _ _ (le-leb _ _ (omega (arith, ls))) (and_from _ _ filled apart))))))

places_back : (rack : Rack) (ts : List Table) (pieces : ℕ) (s : Split) → IsRack rack → FitsSplit rack pieces s → All (λ p. is_filled ts p.group p.column p.stripe ≡ true) s.places
    → Back (places rack ts pieces s.geometry) (flat_map place_bytes s.places) s.places
unfolding places
places_back rack ts pieces s rules fits filled =
    (back_several (place rack ts s.geometry) place_bytes s.places no_place (pieces * s.geometry.fragments * s.geometry.shards) fits.count (λ i l. (let below : i < length s.places = (let n = fits.count in omega (arith, l, n)) in
    place_back rack ts s.geometry i (take i s.places) (get_or s.places i no_place) rules (fits.places i (get_or s.places i no_place) (slice_get-get_or s.places i no_place below)) (filled i no_place below) (place_apart s.places i below fits.distinct))))

-- SPLITS

split_back : (rack : Rack) (ts : List Table) (pieces : ℕ) (s : Split) → IsRack rack → FitsSplit rack pieces s → All (IsFilled ts) s.places → Back (split rack ts pieces) (split_bytes s) s
unfolding split
split_back rack ts pieces s rules fits filled =
    (back_then (geometry rack.groups) _ (geometry_bytes s.geometry) (flat_map place_bytes s.places) s.geometry s (geometry_back rack.groups s.geometry fits.geometry.limits fits.geometry.groups)
    (back_end (places rack ts pieces s.geometry) (λ ps. record { geometry = s.geometry; places = ps }) (flat_map place_bytes s.places) s.places (places_back rack ts pieces s rules fits (all_pass ts s.places filled))))

no_split : Split
no_split = record { geometry = record { fragments = 0; need = 0; shards = 0; blur = 0 }; places = [] }

splits_back : (rack : Rack) (ts : List Table) (r : Record) → IsRack rack → FitsRack rack r → All (λ s. All (IsFilled ts) s.places) (splits_of r)
    → Back (splits Second rack ts (pieces_of r.length)) (length (splits_of r) ∷ flat_map split_bytes (splits_of r)) (record { older = r.older; current = current_of r })
unfolding splits
splits_back rack ts r rules fits filled =
    (back_then (natural 1 (between 1 16)) _ (length (splits_of r) ∷ []) (flat_map split_bytes (splits_of r)) (length (splits_of r)) _ (back_byte (between 1 16) (length (splits_of r)) (is_between 1 16 (length (splits_of r)) (omega (arith, number)) (omega (arith, number, few))))
    (back_as _ (flat_map split_bytes r.older ++ split_bytes (current_of r)) (flat_map split_bytes (splits_of r)) _ spelled
    (back_then (several 0 (length (splits_of r) - 1) (split_behind rack ts (pieces_of r.length)) []) _ (flat_map split_bytes r.older) (split_bytes (current_of r)) r.older _
    (back_several (split_behind rack ts (pieces_of r.length)) split_bytes r.older no_split (length (splits_of r) - 1) (omega (arith, number)) (λ i l. older i (omega (arith, l, number))))
    (back_end (split rack ts (pieces_of r.length)) (λ c. record { older = r.older; current = c }) (split_bytes (current_of r)) (current_of r)
    (split_back rack ts (pieces_of r.length) (current_of r) rules (subst (FitsSplit rack (pieces_of r.length)) last (fits.splits (length r.older) no_split (omega (arith, number)))) (subst (λ s. All (IsFilled ts) s.places) last (filled (length r.older) no_split (omega (arith, number)))))))))
  where
    few : length r.older ≤ 15
    few = fits.few

    number : length (splits_of r) ≡ length r.older + 1
    number = length-append r.older (current_of r ∷ [])

    last : get_or (splits_of r) (length r.older) no_split ≡ current_of r
    last = get_or-append_seam r.older (current_of r) [] no_split

    spelled : flat_map split_bytes r.older ++ split_bytes (current_of r) ≡ flat_map split_bytes (splits_of r)
    spelled = sym (flat_map-append split_bytes r.older (current_of r ∷ []) ∙ ap (λ z. flat_map split_bytes r.older ++ z) (append-nil (split_bytes (current_of r))))

    older : (i : ℕ) → i < length r.older → Back (split rack ts (pieces_of r.length)) (split_bytes (get_or r.older i no_split)) (get_or r.older i no_split)
    older i l =
        let same : get_or (splits_of r) i no_split ≡ get_or r.older i no_split = get_or_append_left r.older (current_of r ∷ []) no_split i l in
        split_back rack ts (pieces_of r.length) (get_or r.older i no_split) rules (subst (FitsSplit rack (pieces_of r.length)) same (fits.splits i no_split (omega (arith, number, l)))) (subst (λ s. All (IsFilled ts) s.places) same (filled i no_split (omega (arith, number, l))))

-- RECORDS

no_record : Record
no_record = record { name = []; length = 0; digest = record { bytes = [] }; geometry = no_split.geometry; places = []; older = [] }

above_nothing : (before : List Record) (x : List ℕ) → slice_get before (length before - 1) ≡ None → is_above before x ≡ true
above_nothing before x e = ap (λ o. elim o [ None ↦ true | Some r ↦ is_lt (slice_cmp nat_cmp r.name x) ]) e

above_last : (before : List Record) (x : List ℕ) (r : Record) → slice_get before (length before - 1) ≡ Some r → is_lt (slice_cmp nat_cmp r.name x) ≡ true → is_above before x ≡ true
above_last before x r e h = ap (λ o. elim o [ None ↦ true | Some r ↦ is_lt (slice_cmp nat_cmp r.name x) ]) e ∙ h

name_above : (rs : List Record) (i : ℕ) → NamesAscend rs → i < length rs → is_above (take i rs) (get_or rs i no_record).name ≡ true
name_above rs zero up l = above_nothing (take 0 rs) (get_or rs 0 no_record).name refl
name_above rs (suc i) up l =
    let size : length (take (suc i) rs) ≡ suc i = length-take-le (suc i) rs (omega (arith, l)) in
    let place : length (take (suc i) rs) - 1 ≡ i = omega (arith, size) in
    let here : slice_get (take (suc i) rs) (length (take (suc i) rs) - 1) ≡ Some (get_or rs i no_record) =
    ap (slice_get (take (suc i) rs)) place ∙ slice_get-get_or (take (suc i) rs) i no_record (omega (arith, size)) ∙ ap Some (get_or-take (suc i) rs i no_record (omega arith)) in
    above_last (take (suc i) rs) (get_or rs (suc i) no_record).name (get_or rs i no_record) here (ap is_lt (less_at rs i (suc i) no_record up (omega arith) l))

record_back : (rack : Rack) (ts : List Table) (i : ℕ) (before : List Record) (r : Record) → IsRack rack → FitsRack rack r → IsRecordOver ts r → is_above before r.name ≡ true → Back (record_behind Second rack ts i before) (record_bytes r) r
unfolding record_behind record_bytes
record_back rack ts i before r rules fits over above =
    (back_as _ (name_bytes r.name ++ (big_bytes 8 r.length ++ (r.digest.bytes ++ (length (splits_of r) ∷ flat_map split_bytes (splits_of r))))) _ _ (sym (spread (name_bytes r.name) (big_bytes 8 r.length) r.digest.bytes (length (splits_of r) ∷ []) (flat_map split_bytes (splits_of r))))
    (back_then (name (is_above before)) _ (name_bytes r.name) _ r.name r (name_back (is_above before) r.name over.name above)
    (back_then (natural 8 (at_most longest)) _ (big_bytes 8 r.length) _ r.length r (back_number 8 (at_most longest) r.length (omega (arith, short)) (le-leb _ _ short))
    (back_then digest _ r.digest.bytes _ r.digest r (back_digest r.digest over.digest)
    (back_end (splits Second rack ts (pieces_of r.length)) (λ s. record { name = r.name; length = r.length; digest = r.digest; geometry = s.current.geometry; places = s.current.places; older = s.older }) _ (record { older = r.older; current = current_of r })
    (splits_back rack ts r rules fits over.filled))))))
  where
    short : r.length ≤ 884736
    short = fits.long

pub records_back : (rack : Rack) (ts : List Table) (rs : List Record) → IsRack rack → AreRecords rack ts rs → Back (records Second rack ts) (counted_bytes record_bytes rs) rs
unfolding records
records_back rack ts rs rules are =
    (let few = are.read.few in
    back_then (natural 4 (at_most 4000000000)) _ (big_bytes 4 (length rs)) (flat_map record_bytes rs) (length rs) rs (back_number 4 (at_most 4000000000) (length rs) (omega (arith, few)) (le-leb _ _ few))
    (back_several (record_behind Second rack ts) record_bytes rs no_record (length rs) refl (λ i l. record_back rack ts i (take i rs) (get_or rs i no_record) rules (are.read.fits i no_record l) (are.each i no_record l) (name_above rs i are.read.ascends l))))
