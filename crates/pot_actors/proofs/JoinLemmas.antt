-- The points of a fragment that are at hand, and what is joined of them.
use Rattle.std.proofs.Common.{◌≡◌, ◌⊎◌, inl, inr, ℕ, zero, suc, ◌+◌, ◌-◌, ◌*◌, ◌<◌, ◌≤◌, List, [], ◌∷◌, ◌++◌, Option, Some, None, Bool, true, false, length, drop, get_or, nat_eq, nat_lt, refl, sym, ap, ap₂, ◌∙◌, subst, arith}
use Rattle.std.specs.Prelude.{Contains, find, is_some, option_map}
use Rattle.std.proofs.lemmas.Cmp.{nat_eq_equiv}
use Rattle.std.specs.List.{All, IsDistinct, flat_map, list_any}
use Rattle.std.proofs.lemmas.Bool.Decides.{nat_tests}
use Rattle.std.proofs.lemmas.Bool.{cases_lt}
use Rattle.std.proofs.lemmas.List.{flat_map_more, get_or_default, length_push}
use Rattle.std.proofs.lemmas.Nat.{mul-add-lt}
use Rattle.std.proofs.lemmas.List.Elements.{Contains-push_cases, Contains-push, Contains-append_left}
use Rattle.std.proofs.lemmas.Map.Keys.{IsDistinct-push}
use Rattle.std.proofs.lemmas.Map.Views.{Contains-from_any, list_any-from_Contains}
use Rattle.std.proofs.lemmas.Map.Made.{length-le_from_is_member}
use Rattle.std.proofs.lemmas.Option.{same_Some}
use Rattle.pot_bytes.proofs.Elements.{none_contained}
use Rattle.pot_bytes.specs.declared.rack.Geometry.{Geometry}
use Rattle.pot_bytes.specs.declared.rack.Place.{Place}
use Rattle.pot_bytes.specs.Rack.{no_place}
use Rattle.pot_index.specs.declared.record.Record.{Record}
use Rattle.pot_index.proofs.NameLemmas.{all_from_members}
use Rattle.pot_object.specs.Pieces.{content_size, pieces_of}
use Rattle.pot_split.specs.Threshold.{IsJoin}
use Rattle.pot_shard.specs.Places.{place_at, position}
use Rattle.pot_world.specs.World.{FragmentGathered, Gathered, same_place}
use Rattle.pot_world.proofs.Names.{found_is, none_found}
use Rattle.pot_world.proofs.WorldJoins.{same_is, same_self}
use Rattle.pot_actors.specs.Joins.{FragmentJoined, IsReadable, Shared, block_of_point, gathered_at, shared_by, shared_to, with_point}

not_both : {b : Bool} → b ≡ true → b ≡ false → ⊥
not_both e f = (let z : true ≡ false = sym e ∙ f in absurd (cc))

not_true : (b : Bool) → (b ≡ true → ⊥) → b ≡ false
not_true true h = absurd (h refl)
not_true false h = refl

nat_same : (x y : ℕ) → nat_eq x y ≡ true → x ≡ y
nat_same x y e = grind (arith, nat_tests)

abbrev pub value_of : Option (List ℕ) → List ℕ
value_of None = []
value_of (Some b) = b

abbrev pub share_of : Option (List ℕ) → List ℕ
share_of o = drop 32 (value_of o)

pub under : (a b : ℕ) → a < b → nat_lt a b ≡ true
under a b lt = grind (arith, nat_tests)

-- what is known of the points so far
pub record Known (f : ℕ → Option (List ℕ)) (need n : ℕ) (s : Shared) : Type 0 where
  pub low : (x : ℕ) → Contains s.points x → (1 ≤ x) × (x ≤ n) × (is_some (f (x - 1)) ≡ true)
  pub few : length s.points ≤ need
  pub distinct : IsDistinct nat_eq s.points
  pub rows : s.rows ≡ flat_map (λ x. share_of (f (x - 1))) s.points
  pub all : length s.points < need → (x : ℕ) → 1 ≤ x → x ≤ n → is_some (f (x - 1)) ≡ true → Contains s.points x

known_none : (f : ℕ → Option (List ℕ)) (need : ℕ) → Known f need 0 (record { points = []; rows = [] })
unfolding IsDistinct
known_none f need = record {
  low = λ x h. absurd (none_contained x h);
  few = omega arith;
  distinct = tt;
  rows = refl;
  all = λ l x a b. absurd (omega (arith, a, b));
}

back_one : (n : ℕ) → suc n - 1 ≡ n
back_one n = omega arith

module _ (f : ℕ → Option (List ℕ)) (need n : ℕ) (s : Shared) (k : Known f need n s) where
  later : (x : ℕ) → (1 ≤ x) × (x ≤ n) × (is_some (f (x - 1)) ≡ true) → (1 ≤ x) × (x ≤ suc n) × (is_some (f (x - 1)) ≡ true)
  later x h = (h.0, omega (arith, h.1), h.2)

  -- no point more: enough are there, or it is not at hand
  known_same : (length s.points < need → f n ≡ None) → Known f need (suc n) s
  known_same none = record {
    low = λ x h. later x (k.low x h);
    few = k.few;
    distinct = k.distinct;
    rows = k.rows;
    all = λ l x a b t. elim (cases_lt x (suc n)) [
      | inl lt ↦ k.all l x a (omega (arith, lt)) t
      | inr ge ↦ (let e : x ≡ suc n = omega (arith, b, ge) in absurd (not_both (sym (ap (λ y. is_some (f y)) (ap (λ z. z - 1) e ∙ back_one n)) ∙ t) (ap is_some (none l))))
    ];
  }

  module _ (b : List ℕ) (here : f n ≡ Some b) (lt : length s.points < need) where
    abbrev more : Shared
    more = record { points = s.points ++ suc n ∷ []; rows = s.rows ++ drop 32 b }

    at_here : f (suc n - 1) ≡ Some b
    at_here = ap f (back_one n) ∙ here

    new : list_any (nat_eq (suc n)) s.points ≡ false
    new = not_true (list_any (nat_eq (suc n)) s.points) (λ t. (let h = k.low (suc n) (Contains-from_any nat_same (suc n) s.points t) in omega (arith, h.1)))

    one_more : length (s.points ++ suc n ∷ []) ≡ length s.points + 1
    one_more = length_push s.points (suc n)

    low_more : (x : ℕ) → Contains s.points x ⊎ (suc n ≡ x) → (1 ≤ x) × (x ≤ suc n) × (is_some (f (x - 1)) ≡ true)
    low_more x (inl h) = later x (k.low x h)
    low_more x (inr e) = subst (λ y. (1 ≤ y) × (y ≤ suc n) × (is_some (f (y - 1)) ≡ true)) e (omega arith, omega arith, ap is_some at_here)

    pub known_more : Known f need (suc n) (record { points = s.points ++ suc n ∷ []; rows = s.rows ++ drop 32 b })
    known_more = record {
      low = λ x h. low_more x (Contains-push_cases s.points (suc n) x h);
      few = omega (arith, one_more, lt);
      distinct = IsDistinct-push nat_eq_equiv s.points (suc n) k.distinct new;
      rows = ap₂ (λ xs ys. xs ++ ys) k.rows (sym (ap share_of at_here)) ∙ flat_map_more (λ x. share_of (f (x - 1))) [] s.points (suc n);
      all = λ l x a b t. elim (cases_lt x (suc n)) [
        | inl lt' ↦ Contains-append_left s.points (suc n ∷ []) x (k.all lt x a (omega (arith, lt')) t)
        | inr ge ↦ (let e : suc n ≡ x = omega (arith, b, ge) in subst (Contains (s.points ++ suc n ∷ [])) e (Contains-push s.points (suc n)))
      ];
    }

  by_point : (t : Bool) (o : Option (List ℕ)) → nat_lt (length s.points) need ≡ t → f n ≡ o → Known f need (suc n) (with_point t (suc n) o s)
  by_point true None e h = known_same (λ l. h)
  by_point true (Some b) e h = known_more b h (grind (arith, nat_tests))
  by_point false None e h = known_same (λ l. h)
  by_point false (Some b) e h = known_same (λ l. absurd (no_more e l))
    where
      no_more : nat_lt (length s.points) need ≡ false → length s.points < need → ⊥
      no_more e l = grind (arith, nat_tests)

pub known : (f : ℕ → Option (List ℕ)) (need n : ℕ) → Known f need n (shared_by f need n)
unfolding shared_by
known f need zero = known_none f need
known f need (suc n) = by_point f need n (shared_by f need n) (known f need n) (nat_lt (length (shared_by f need n).points) need) (f n) refl refl

-- fewer points than needed are all that are at hand
pub too_few : (f : ℕ → Option (List ℕ)) (need n : ℕ) (s : Shared) → Known f need n s → length s.points < need → (points : List ℕ) → IsDistinct nat_eq points
    → ((x : ℕ) → Contains points x → (1 ≤ x) × (x ≤ n) × (is_some (f (x - 1)) ≡ true)) → length points ≤ length s.points
too_few f need n s k lt points distinct each =
    length-le_from_is_member nat_eq_equiv points s.points distinct
    (λ q t. list_any-from_Contains nat_eq_equiv q s.points (let h = each q (Contains-from_any nat_same q points t) in k.all lt q h.0 h.1 h.2))

-- WHAT WAS GATHERED

pub at_hand : (gathered : List Gathered) (place : Place) (b : List ℕ) → gathered_at gathered place ≡ Some b → Contains gathered (record { place = place; block = b })
at_hand gathered place b h = by (find (λ y. same_place y.place place) gathered) refl h
  where
    by : (o : Option Gathered) → find (λ y. same_place y.place place) gathered ≡ o → option_map (λ (y : Gathered). y.block) o ≡ Some b → Contains gathered (record { place = place; block = b })
    by None e g = absurd (cc)
    by (Some y) e g =
        let x = found_is (λ (y : Gathered). same_place y.place place) gathered y e in
        let is : y.block ≡ b = same_Some y.block b g in
        subst (λ c. Contains gathered (record { place = place; block = c })) is (subst (λ q. Contains gathered (record { place = q; block = y.block })) (same_is y.place place x.1) x.0)

pub is_at_hand : (gathered : List Gathered) (place : Place) (b : List ℕ) → Contains gathered (record { place = place; block = b }) → is_some (gathered_at gathered place) ≡ true
is_at_hand gathered place b h = by (find (λ y. same_place y.place place) gathered) refl
  where
    by : (o : Option Gathered) → find (λ y. same_place y.place place) gathered ≡ o → is_some (option_map (λ (y : Gathered). y.block) o) ≡ true
    by None e = absurd (not_both (same_self place) (none_found (λ (y : Gathered). same_place y.place place) gathered (record { place = place; block = b }) e h))
    by (Some y) e = refl

pub not_gathered : (r : Record) (gathered : List Gathered) (i j : ℕ) → length (shared_to r gathered i j r.geometry.shards).points < r.geometry.need → FragmentGathered r gathered i j → ⊥
not_gathered r gathered i j lt g =
    let le = too_few (block_of_point r gathered i j) r.geometry.need r.geometry.shards (shared_to r gathered i j r.geometry.shards) (known (block_of_point r gathered i j) r.geometry.need r.geometry.shards) lt g.points g.chosen.distinct
    (λ x h. (let c = g.chosen.each x h in let e = g.each x h in (c.0, c.1, is_at_hand gathered (place_at r.geometry r.places i j (x - 1)) e.0 e.1))) in
    omega (arith, le, lt, g.chosen.enough)

module _ (r : Record) (gathered : List Gathered) (i j : ℕ) where
  abbrev points_of : List ℕ
  points_of = (shared_to r gathered i j r.geometry.shards).points

  all_known : Known (block_of_point r gathered i j) r.geometry.need r.geometry.shards (shared_to r gathered i j r.geometry.shards)
  all_known = known (block_of_point r gathered i j) r.geometry.need r.geometry.shards

  pub points_few : length (shared_to r gathered i j r.geometry.shards).points ≤ r.geometry.need
  points_few = all_known.few

  pub points_distinct : IsDistinct nat_eq (shared_to r gathered i j r.geometry.shards).points
  points_distinct = all_known.distinct

  pub points_not_zero : All (λ x. 0 < x) (shared_to r gathered i j r.geometry.shards).points
  points_not_zero = all_from_members (λ (x : ℕ). 0 < x) (shared_to r gathered i j r.geometry.shards).points (λ x h. (let l = all_known.low x h in omega (arith, l.0)))

  from_point : (x : ℕ) (o : Option (List ℕ)) → block_of_point r gathered i j (x - 1) ≡ o → is_some o ≡ true
      → Contains gathered (record { place = place_at r.geometry r.places i j (x - 1); block = value_of o })
  from_point x None e t = absurd (cc)
  from_point x (Some b) e t = at_hand gathered (place_at r.geometry r.places i j (x - 1)) b e

  pub fragment_joined : (content : List ℕ) → r.geometry.need ≤ length (shared_to r gathered i j r.geometry.shards).points → length content ≡ content_size
      → IsJoin (shared_to r gathered i j r.geometry.shards).points (shared_to r gathered i j r.geometry.shards).rows content → FragmentJoined r gathered i j content
  fragment_joined content enough wide join = record {
    points = (shared_to r gathered i j r.geometry.shards).points;
    blocks = λ x. value_of (block_of_point r gathered i j (x - 1));
    chosen = record {
      enough = (let l = all_known.few in omega (arith, l, enough));
      distinct = all_known.distinct;
      each = λ x h. (let l = all_known.low x h in (l.0, l.1));
    };
    from = λ x h. from_point x (block_of_point r gathered i j (x - 1)) refl (all_known.low x h).2;
    wide = wide;
    join = subst (λ rows. IsJoin (shared_to r gathered i j r.geometry.shards).points rows content) all_known.rows join;
  }

-- one point more was seen
pub shared_none : (f : ℕ → Option (List ℕ)) (need : ℕ) → record { points = []; rows = [] } ≡ shared_by f need 0
unfolding shared_by
shared_none f need = refl

pub shared_more : (f : ℕ → Option (List ℕ)) (need n x : ℕ) (s s' : Shared) (o : Option (List ℕ)) → s ≡ shared_by f need n → o ≡ f n → x ≡ suc n
    → s' ≡ with_point (nat_lt (length s.points) need) x o s → s' ≡ shared_by f need (n + 1)
unfolding shared_by
shared_more f need n x s s' o before here e is =
    is ∙ (λ i. with_point (nat_lt (length (before i).points) need) (e i) (here i) (before i))
    ∙ ap (shared_by f need) (let z : suc n ≡ n + 1 = omega arith in z)

-- where the block of a point stands
pub position_within : (r : Record) (i j p : ℕ) → IsReadable r → i < pieces_of r.length → j < r.geometry.fragments → p < r.geometry.shards → position r.geometry i j p < length r.places
position_within r i j p k il jl pl =
    let g = r.geometry in
    let row = mul-add-lt i g.fragments j (pieces_of r.length) il jl in
    let all = mul-add-lt (i * g.fragments + j) g.shards p (g.fragments * pieces_of r.length) row pl in
    let same : g.shards * (g.fragments * pieces_of r.length) ≡ pieces_of r.length * (g.fragments * g.shards) = three g.shards g.fragments (pieces_of r.length) in
    subst (λ n. position g i j p < n) (same ∙ sym k.count) all
  where
    three : (a b c : ℕ) → a * (b * c) ≡ c * (b * a)
    three a b c = grind arith

pub at_place : (g : Geometry) (places : List Place) (i j p at : ℕ) (d : Place) → at ≡ position g i j p → at < length places → get_or places at d ≡ place_at g places i j p
at_place g places i j p at d e lt = get_or_default places at d no_place lt ∙ ap (λ n. get_or places n no_place) e

pub at_read : (gathered : List Gathered) (g : Geometry) (slice places : List Place) (i j p at : ℕ) (d : Place) (o : Option (List ℕ)) → o ≡ gathered_at gathered (get_or slice at d) → slice ≡ places
    → at ≡ position g i j p → at < length places → o ≡ gathered_at gathered (place_at g places i j p)
at_read gathered g slice places i j p at d o is e here lt = is ∙ ap (gathered_at gathered) (ap (λ ps. get_or ps at d) e ∙ at_place g places i j p at d here lt)
