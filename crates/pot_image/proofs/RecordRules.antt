-- The records that were read fit the rack, and no place of theirs has a slot that is Void.
use Rattle.std.proofs.Common.{◌≡◌, ◌⊎◌, inl, inr, ℕ, zero, suc, ◌+◌, ◌-◌, ◌*◌, ◌<◌, ◌≤◌, ◌==◌, ◌&&◌, Bool, true, false, not, Option, Some, slice_get, List, [], ◌∷◌, ◌++◌, length, All, Ok, ap, sym, subst, ◌∙◌, refl, arith, length-append, eq-eqb}
use Rattle.std.specs.List.{list_any}
use Rattle.std.proofs.lemmas.List.Elements.{All-nil, All-push}
use Rattle.std.proofs.lemmas.Map.Keys.{any_passes_from_place}
use Rattle.std.proofs.lemmas.Bool.{eqb-true, leb-true, and_parts}
use Rattle.pot_bytes.specs.declared.rack.Geometry.{Geometry}
use Rattle.pot_bytes.specs.declared.rack.Place.{Place}
use Rattle.pot_bytes.specs.declared.rack.Rack.{Rack}
use Rattle.pot_bytes.specs.Rack.{IsRack}
use Rattle.pot_machine.specs.Table.{Table}
use Rattle.pot_index.specs.declared.record.Split.{Split}
use Rattle.pot_index.specs.Fits.{group_of, FitsGeometry, FitsPlace, FitsSplit}
use Rattle.pot_image.specs.declared.format.Format.{Format}
use Rattle.pot_image.specs.declared.format.Format.TheVariants.{First, Second}
use Rattle.pot_image.specs.declared.records.RecordSplits.{RecordSplits}
use Rattle.pot_image.specs.Fields.{done}
use Rattle.pot_image.specs.Reading.{◌>>=◌, several, reading}
use Rattle.pot_image.specs.Numbers.{natural, at_most, between}
use Rattle.pot_image.specs.Heads.{geometry}
use Rattle.pot_image.specs.Records.{is_filled, is_at, is_apart, place, places, split, split_behind, splits}
use Rattle.pot_image.specs.Rules.{IsFilled}
use Rattle.pot_image.proofs.Steps.{holds_of, between_of}
use Rattle.pot_image.proofs.Inverse.{parts, done_is, several_keep}
use Rattle.pot_image.proofs.HeadRules.{geometry_kept}
use Rattle.pot_image.proofs.Filled.{Passes, all_filled}

-- LISTS THAT GROW BY ONE

-- what stands in a list with one more value behind
one_behind : {X : Type 0} (xs : List X) (x : X) (i : ℕ) (p : X) → slice_get (xs ++ x ∷ []) i ≡ Some p → (slice_get xs i ≡ Some p) ⊎ ((i ≡ length xs) × (x ≡ p))
one_behind [] x zero p e = inr (refl, (cc))
one_behind [] x (suc i) p e = absurd ((cc))
one_behind (y ∷ xs) x zero p e = inl e
one_behind (y ∷ xs) x (suc i) p e = elim (one_behind xs x i p e) [ inl h ↦ inl h | inr h ↦ inr (ap suc h.0, h.1) ]

pub one_longer : {X : Type 0} (xs : List X) (x : X) (n : ℕ) → length xs ≡ n → length (xs ++ x ∷ []) ≡ n + 1
one_longer xs x n e = (let h : length (xs ++ x ∷ []) ≡ length xs + 1 = length-append xs (x ∷ []) in omega (arith, h, e))

-- PLACES

record KeptPlace (rack : Rack) (ts : List Table) (g : Geometry) (b : ℕ) (before : List Place) (p : Place) : Type 0 where
  fits : FitsPlace rack g b p
  filled : Passes ts p
  apart : is_apart before p.group p.column p.stripe ≡ true

place_kept : (rack : Rack) (ts : List Table) (g : Geometry) (b : ℕ) (before : List Place) (bytes rest : List ℕ) (p : Place) → IsRack rack
    → reading (place rack ts g b before) bytes ≡ Ok (p, rest) → KeptPlace rack ts g b before p
unfolding place
place_kept rack ts g b before bytes rest p rules e =
    (let x = parts (natural 1 (λ n. n == group_of rack g b)) (λ group. natural 1 (between 0 (rack.columns - 1)) >>= λ column. natural 4 (λ s. at_most (rack.stripes - 1) s && (is_filled ts group column s && is_apart before group column s)) >>= λ stripe. done (record { group = group; column = column; stripe = stripe })) bytes p rest e in
    let y = parts (natural 1 (between 0 (rack.columns - 1))) (λ column. natural 4 (λ s. at_most (rack.stripes - 1) s && (is_filled ts x.value column s && is_apart before x.value column s)) >>= λ stripe. done (record { group = x.value; column = column; stripe = stripe })) x.behind p rest x.second in
    let z = parts (natural 4 (λ s. at_most (rack.stripes - 1) s && (is_filled ts x.value y.value s && is_apart before x.value y.value s))) (λ stripe. done (record { group = x.value; column = y.value; stripe = stripe })) y.behind p rest y.second in
    let same = done_is (record { group = x.value; column = y.value; stripe = z.value }) p z.behind rest z.second in
    let rule = and_parts (at_most (rack.stripes - 1) z.value) (is_filled ts x.value y.value z.value && is_apart before x.value y.value z.value) (holds_of 4 (λ s. at_most (rack.stripes - 1) s && (is_filled ts x.value y.value s && is_apart before x.value y.value s)) y.behind z.behind z.value z.first) in
    let free = and_parts (is_filled ts x.value y.value z.value) (is_apart before x.value y.value z.value) rule.1 in
    subst (KeptPlace rack ts g b before) same.0 (record {
      fits = record {
        group = eqb-true x.value (group_of rack g b) (holds_of 1 (λ n. n == group_of rack g b) bytes x.behind x.value x.first);
        column = below y.value rack.columns rules.columns.0 (between_of 1 0 (rack.columns - 1) x.behind y.behind y.value y.first).1;
        stripe = below z.value rack.stripes rules.stripes.0 (leb-true z.value (rack.stripes - 1) rule.0);
      };
      filled = free.0;
      apart = free.1;
    }))
  where
    below : (n m : ℕ) → 1 ≤ m → n ≤ m - 1 → n < m
    below n m l k = omega (arith, l, k)

-- these places stand where they should, and are distinct
record AreKept (rack : Rack) (ts : List Table) (g : Geometry) (n : ℕ) (ps : List Place) : Type 0 where
  count : length ps ≡ n
  fits : (b : ℕ) (p : Place) → slice_get ps b ≡ Some p → FitsPlace rack g b p
  filled : All (Passes ts) ps
  distinct : (a b : ℕ) (p : Place) → slice_get ps a ≡ Some p → slice_get ps b ≡ Some p → a ≡ b

one_place : (rack : Rack) (ts : List Table) (g : Geometry) (n : ℕ) (before : List Place) (x : Place) → AreKept rack ts g n before → KeptPlace rack ts g n before x → AreKept rack ts g (n + 1) (before ++ x ∷ [])
one_place rack ts g n before x are k = record {
  count = one_longer before x n are.count;
  fits = λ b p e. elim (one_behind before x b p e) [
    | inl h ↦ are.fits b p h
    | inr h ↦ subst (FitsPlace rack g b) h.1 (subst (λ i. FitsPlace rack g i x) (sym (h.0 ∙ are.count)) k.fits)
  ];
  filled = All-push (Passes ts) before x are.filled k.filled;
  distinct = λ a b p e h. elim (one_behind before x a p e) [
    | inl ea ↦ elim (one_behind before x b p h) [
      | inl eb ↦ are.distinct a b p ea eb
      | inr eb ↦ absurd (twice a (ea ∙ ap some (sym eb.1)))
    ]
    | inr ea ↦ elim (one_behind before x b p h) [
      | inl eb ↦ absurd (twice b (eb ∙ ap some (sym ea.1)))
      | inr eb ↦ ea.0 ∙ sym eb.0
    ]
  ];
}
  where
    some : Place → Option Place
    some p = Some p

    itself : is_at x.group x.column x.stripe x ≡ true
    itself = same (x.group == x.group) (x.column == x.column) (x.stripe == x.stripe) (eq-eqb _ _ refl) (eq-eqb _ _ refl) (eq-eqb _ _ refl)
      where
        same : (a b c : Bool) → a ≡ true → b ≡ true → c ≡ true → a && (b && c) ≡ true
        same true true true d e f = refl
        same true true false d e f = f
        same true false c d e f = absurd ((cc))
        same false b c d e f = absurd ((cc))

    twice : (i : ℕ) → slice_get before i ≡ Some x → ⊥
    twice i e = clash (list_any (is_at x.group x.column x.stripe) before) (any_passes_from_place (is_at x.group x.column x.stripe) before i x e itself) k.apart
      where
        clash : (b : Bool) → b ≡ true → not b ≡ true → ⊥
        clash b t f = cc

places_kept : (rack : Rack) (ts : List Table) (pieces : ℕ) (g : Geometry) (bytes rest : List ℕ) (ps : List Place) → IsRack rack
    → reading (places rack ts pieces g) bytes ≡ Ok (ps, rest) → AreKept rack ts g (pieces * g.fragments * g.shards) ps
unfolding places
places_kept rack ts pieces g bytes rest ps rules e =
    several_keep (AreKept rack ts g) (place rack ts g) (pieces * g.fragments * g.shards)
    (λ i before x bs rs l are h. one_place rack ts g i before x are (place_kept rack ts g i before bs rs x rules h))
    (pieces * g.fragments * g.shards) 0 [] ps bytes rest (omega arith) none e
  where
    none : AreKept rack ts g 0 []
    none = record { count = refl; fits = λ b p h. absurd ((cc)); filled = All-nil (Passes ts); distinct = λ a b p h k. absurd ((cc)) }

-- SPLITS

pub record KeptSplit (rack : Rack) (ts : List Table) (pieces : ℕ) (s : Split) : Type 0 where
  pub fits : FitsSplit rack pieces s
  pub filled : All (IsFilled ts) s.places

of_places : (rack : Rack) (ts : List Table) (pieces : ℕ) (g : Geometry) (ps : List Place) → FitsGeometry rack g → AreKept rack ts g (pieces * g.fragments * g.shards) ps
    → KeptSplit rack ts pieces (record { geometry = g; places = ps })
of_places rack ts pieces g ps fits are = record {
  fits = record { geometry = fits; count = are.count; places = are.fits; distinct = are.distinct };
  filled = all_filled ts ps are.filled;
}

split_kept : (rack : Rack) (ts : List Table) (pieces : ℕ) (bytes rest : List ℕ) (s : Split) → IsRack rack → reading (split rack ts pieces) bytes ≡ Ok (s, rest) → KeptSplit rack ts pieces s
unfolding split
split_kept rack ts pieces bytes rest s rules e =
    (let x = parts (geometry rack.groups) (λ g. places rack ts pieces g >>= λ ps. done (record { geometry = g; places = ps })) bytes s rest e in
    let y = parts (places rack ts pieces x.value) (λ ps. done (record { geometry = x.value; places = ps })) x.behind s rest x.second in
    let same = done_is (record { geometry = x.value; places = y.value }) s y.behind rest y.second in
    let fits = geometry_kept rack.groups bytes x.behind x.value x.first in
    subst (KeptSplit rack ts pieces) same.0 (of_places rack ts pieces x.value y.value (record { limits = fits.limits; groups = fits.groups_are }) (places_kept rack ts pieces x.value x.behind y.behind y.value rules y.first)))

pub record KeptSplits (rack : Rack) (ts : List Table) (pieces : ℕ) (s : RecordSplits) : Type 0 where
  pub few : length s.older ≤ 15
  pub older : All (KeptSplit rack ts pieces) s.older
  pub current : KeptSplit rack ts pieces s.current

record AreOlder (rack : Rack) (ts : List Table) (pieces n : ℕ) (ss : List Split) : Type 0 where
  count : length ss ≡ n
  each : All (KeptSplit rack ts pieces) ss

pub splits_kept : (format : Format) (rack : Rack) (ts : List Table) (pieces : ℕ) (bytes rest : List ℕ) (s : RecordSplits) → IsRack rack
    → reading (splits format rack ts pieces) bytes ≡ Ok (s, rest) → KeptSplits rack ts pieces s
unfolding splits
splits_kept First rack ts pieces bytes rest s rules e =
    (let x = parts (places rack ts pieces rack.geometry) (λ ps. done (record { older = []; current = record { geometry = rack.geometry; places = ps } })) bytes s rest e in
    let same = done_is (record { older = []; current = record { geometry = rack.geometry; places = x.value } }) s x.behind rest x.second in
    let kept = of_places rack ts pieces rack.geometry x.value (record { limits = rules.geometry; groups = rules.groups.0 }) (places_kept rack ts pieces rack.geometry bytes x.behind x.value rules x.first) in
    subst (KeptSplits rack ts pieces) same.0 (record { few = omega arith; older = All-nil (KeptSplit rack ts pieces); current = kept }))
splits_kept Second rack ts pieces bytes rest s rules e =
    (let x = parts (natural 1 (between 1 16)) (λ n. several 0 (n - 1) (split_behind rack ts pieces) [] >>= λ older. split rack ts pieces >>= λ current. done (record { older = older; current = current })) bytes s rest e in
    let y = parts (several 0 (x.value - 1) (split_behind rack ts pieces) []) (λ older. split rack ts pieces >>= λ current. done (record { older = older; current = current })) x.behind s rest x.second in
    let z = parts (split rack ts pieces) (λ current. done (record { older = y.value; current = current })) y.behind s rest y.second in
    let same = done_is (record { older = y.value; current = z.value }) s z.behind rest z.second in
    let range = between_of 1 1 16 bytes x.behind x.value x.first in
    let older = several_keep (AreOlder rack ts pieces) (split_behind rack ts pieces) (x.value - 1)
    (λ i before s bs rs l are h. (one_split i before s are (split_kept rack ts pieces bs rs s rules h)))
    (x.value - 1) 0 [] y.value x.behind y.behind (omega arith) (record { count = refl; each = All-nil (KeptSplit rack ts pieces) }) y.first in
    let few = older.count in
    subst (KeptSplits rack ts pieces) same.0 (record { few = omega (arith, few, range.1); older = older.each; current = split_kept rack ts pieces y.behind z.behind z.value rules z.first }))
  where
    one_split : (i : ℕ) (before : List Split) (s : Split) → AreOlder rack ts pieces i before → KeptSplit rack ts pieces s → AreOlder rack ts pieces (i + 1) (before ++ s ∷ [])
    one_split i before s are k = record { count = one_longer before s i are.count; each = All-push (KeptSplit rack ts pieces) before s are.each k }
