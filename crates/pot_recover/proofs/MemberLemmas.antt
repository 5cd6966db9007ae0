-- The parts of a group, and its shards.
use Rattle.std.proofs.Common.{◌≡◌, ◌↔◌, inl, inr, ℕ, zero, suc, ◌+◌, ◌<◌, ◌≤◌, ◌^◌, Bool, true, false, cond, List, [], ◌∷◌, ◌++◌, map, filter, length, take, get_or, refl, sym, ap, ◌∙◌, subst, arith, add-one, nat_cmp}
use Rattle.std.specs.Borrow.{Bor}
use Rattle.std.specs.Ordering.{is_eq}
use Rattle.std.specs.Cmp.Lexicographic.{slice_cmp}
use Rattle.std.specs.List.{flat_map, range_with_len}
use Rattle.std.proofs.lemmas.Cmp.{nat_list_cmp_total, eq_by_cmp_equiv}
use Rattle.std.proofs.lemmas.Bool.{cases_lt}
use Rattle.std.proofs.lemmas.List.{length-map}
use Rattle.std.proofs.lemmas.List.FromFn.{length-range_with_len}
use Rattle.std.proofs.lemmas.Map.Lookups.{exact_bytes}
use Rattle.pot_bytes.proofs.Elements.{length-filter_le}
use Rattle.pot_chains.specs.Levels.{AreLevels}
use Rattle.pot_chains.specs.Listed.{IsIn, IsOnce, IsListed}
use Rattle.pot_chains.specs.declared.levels.Level.{Level}
use Rattle.pot_chains.proofs.ListedLemmas.{in_map, from_map, in_flat_map, listed_same, in_from_contains, contains_from_in, in_append, in_left, in_right}
use Rattle.pot_pointer.proofs.FilterLemmas.{Contains-filter}
use Rattle.pot_shard.specs.declared.shard.Shard.{Shard}
use Rattle.pot_recover.specs.Groups.{IsAt, AreParts, IsLevelOf, AreLevelsOf, part_of, now_of, parts_of, shards_in, IsGroup, IsHoldable}
use Rattle.pot_recover.specs.declared.group.Group.{Group}
use Rattle.pot_recover.specs.HeldShards.{shard_of, place_of, stands_at}
use Rattle.pot_recover.specs.declared.held.Held.{Held}
use Rattle.pot_recover.proofs.PartLemmas.{equal_is}

pub in_filter : {X : Type 0} (p : X → Bool) (xs : List X) (x : X) → IsIn (filter p xs) x ↔ (IsIn xs x × (p x ≡ true))
in_filter p xs x =
    let c = Contains-filter p xs x in (
      λ h. let w = c.0 (contains_from_in (filter p xs) x h) in (in_from_contains xs x w.0, w.1),
      λ w. in_from_contains (filter p xs) x (c.1 (contains_from_in xs x w.0, w.1)),
    )

pub once_filter : {X Y : Type 0} (f : X → Y) (p : X → Bool) (xs : List X) → IsOnce (map f xs) → IsOnce (map f (filter p xs))
once_filter f p [] once = tt
once_filter f p (x ∷ xs) once = by (p x) (once_filter f p xs once.1)
  where
    by : (b : Bool) → IsOnce (map f (filter p xs)) → IsOnce (map f (cond b (x ∷ filter p xs) (filter p xs)))
    by true rest = (
      λ there.
          let r = from_map f (filter p xs) (f x) there in
          once.0 (subst (IsIn (map f xs)) r.2 (in_map f xs r.0 ((in_filter p xs r.0).0 r.1).0)),
      rest,
    )
    by false rest = rest

equal_itself : (place : List ℕ) → is_eq (slice_cmp nat_cmp place place) ≡ true
equal_itself place = (eq_by_cmp_equiv nat_list_cmp_total).refl place

-- what stands at m, n and x
stands : (m n bits x : ℕ) (h : Held) → (stands_at (m ∷ n ∷ x ∷ []) h ≡ true) ↔ IsAt m n bits x (shard_of bits h)
stands m n bits x h = (
  λ e.
      let same : h.m ∷ h.n ∷ h.x ∷ [] ≡ m ∷ n ∷ x ∷ [] = exact_bytes (place_of h) (m ∷ n ∷ x ∷ []) (equal_is (slice_cmp nat_cmp (place_of h) (m ∷ n ∷ x ∷ [])) e) in
      record { need = cc; count = cc; bits_are = refl; point = cc },
  λ a.
      let same : m ∷ n ∷ x ∷ [] ≡ place_of h = places h.m m h.n n h.x x a.need a.count a.point in
      subst (λ l. is_eq (slice_cmp nat_cmp (place_of h) l) ≡ true) (sym same) (equal_itself (place_of h)),
)
  where
    places : (a b c d e f : ℕ) → a ≡ b → c ≡ d → e ≡ f → b ∷ d ∷ f ∷ [] ≡ a ∷ c ∷ e ∷ []
    places a b c d e f p q r = cc

-- the shards of m, n and x, each once
pub part_listed : (bits m n x : ℕ) (held : List Held) → IsOnce (map (shard_of bits) held)
    → IsListed (λ s. IsIn (map (shard_of bits) held) s × IsAt m n bits x s) (map (shard_of bits) (part_of m n held x))
part_listed bits m n x held once = record {
  each = λ s. (
    λ h.
        let r = from_map (shard_of bits) (part_of m n held x) s h in
        let w = (in_filter (stands_at (m ∷ n ∷ x ∷ [])) held r.0).0 r.1 in (
          subst (IsIn (map (shard_of bits) held)) r.2 (in_map (shard_of bits) held r.0 w.0),
          subst (IsAt m n bits x) r.2 ((stands m n bits x r.0).0 w.1),
        ),
    λ w.
        let r = from_map (shard_of bits) held s w.0 in
        subst (IsIn (map (shard_of bits) (part_of m n held x))) r.2
        (in_map (shard_of bits) (part_of m n held x) r.0
        ((in_filter (stands_at (m ∷ n ∷ x ∷ [])) held r.0).1 (r.1, (stands m n bits x r.0).1 (subst (IsAt m n bits x) (sym r.2) w.1)))),
  );
  once = once_filter (shard_of bits) (stands_at (m ∷ n ∷ x ∷ [])) held once;
}

parts_from : ℕ → ℕ → ℕ → List Held → ℕ → ℕ → List (List Shard)
parts_from bits m n held x k = map (λ y. map (shard_of bits) (part_of m n held y)) (range_with_len x k)

parts_listed : (bits m n x k : ℕ) (held : List Held) → IsOnce (map (shard_of bits) held) → AreParts (map (shard_of bits) held) m n bits x (parts_from bits m n held x k)
unfolding parts_from
parts_listed bits m n x zero held once = tt
parts_listed bits m n x (suc k) held once = (
  part_listed bits m n x held once,
  subst (λ y. AreParts (map (shard_of bits) held) m n bits y (parts_from bits m n held (x + 1) k)) (add-one x) (parts_listed bits m n (x + 1) k held once),
)

-- the parts without where their shares lie
parts_are : (bits m n : ℕ) (held : List Held) (parts : List (Bor (List Held))) (k : ℕ) → map now_of parts ≡ map (part_of m n held) (range_with_len 1 k)
    → parts_of bits parts ≡ parts_from bits m n held 1 k
unfolding parts_from
parts_are bits m n held parts k e = fused parts ∙ (ap (map (map (shard_of bits))) e ∙ again (range_with_len 1 k))
  where
    fused : (ps : List (Bor (List Held))) → parts_of bits ps ≡ map (map (shard_of bits)) (map now_of ps)
    fused [] = refl
    fused (p ∷ ps) = ap (λ l. map (shard_of bits) p.now ∷ l) (fused ps)

    again : (xs : List ℕ) → map (map (shard_of bits)) (map (part_of m n held) xs) ≡ map (λ y. map (shard_of bits) (part_of m n held y)) xs
    again [] = refl
    again (x ∷ xs) = ap (λ l. map (shard_of bits) (part_of m n held x) ∷ l) (again xs)

pub group_parts : (bits m n : ℕ) (held : List Held) (parts : List (Bor (List Held))) → map now_of parts ≡ map (part_of m n held) (range_with_len 1 n)
    → IsOnce (map (shard_of bits) held) → AreParts (map (shard_of bits) held) m n bits 1 (parts_of bits parts)
group_parts bits m n held parts e once =
    subst (AreParts (map (shard_of bits) held) m n bits 1) (sym (parts_are bits m n held parts n e)) (parts_listed bits m n 1 n held once)

pub group_length : (m n : ℕ) (held : List Held) (parts : List (Bor (List Held))) → map now_of parts ≡ map (part_of m n held) (range_with_len 1 n) → length parts ≡ n
group_length m n held parts e =
    sym (length-map parts now_of) ∙ (ap length e ∙ (length-map (range_with_len 1 n) (part_of m n held) ∙ length-range_with_len 1 n))

pub part_short : (m n : ℕ) (held : List Held) (parts : List (Bor (List Held))) → map now_of parts ≡ map (part_of m n held) (range_with_len 1 n)
    → length held < 2 ^ 32 → (part : Bor (List Held)) → IsIn parts part → length part.now < 2 ^ 32
part_short m n held parts e short part there =
    let r = from_map (part_of m n held) (range_with_len 1 n) part.now (subst (λ l. IsIn l part.now) e (in_map now_of parts part there)) in
    let le = length-filter_le (stands_at (m ∷ n ∷ r.0 ∷ [])) held in
    omega (arith, le, ap length r.2, short)

module _ (shards : List Shard) (m n bits : ℕ) where
  abbrev members : List (List Shard) → List Shard
  members parts = flat_map (λ part. part) parts

  -- the shards of parts are shards of m and n
  pub members_are : (x : ℕ) (parts : List (List Shard)) → AreParts shards m n bits x parts → (s : Shard) → IsIn (members parts) s
      → IsIn shards s × (s.m ≡ m) × (s.n ≡ n) × (s.blur ≡ bits)
  members_are x [] are s h = absurd h
  members_are x (part ∷ parts) are s h =
      elim (in_append part (members parts) s h) [
        | inl here ↦ let w = (are.0.each s).0 here in (w.0, w.1.need, w.1.count, w.1.bits_are)
        | inr there ↦ members_are (suc x) parts are.1 s there
      ]

  -- and each of them, at one of the points
  pub are_members : (x : ℕ) (parts : List (List Shard)) → AreParts shards m n bits x parts → (s : Shard) → IsIn shards s → IsAt m n bits s.x s
      → x ≤ s.x → s.x < x + length parts → IsIn (members parts) s
  are_members x [] are s h at low high = absurd (omega (arith, low, high))
  are_members x (part ∷ parts) are s h at low high =
      elim (cases_lt x s.x) [
        | inl less ↦ in_right part (members parts) s (are_members (suc x) parts are.1 s h at (omega (arith, less)) (omega (arith, high)))
        | inr same ↦ in_left part (members parts) s ((are.0.each s).1 (h, record { need = at.need; count = at.count; bits_are = at.bits_are; point = omega (arith, low, same) }))
      ]

  -- parts of a list are parts of their own shards
  parts_of_members : (whole : List (List Shard)) (x : ℕ) (parts : List (List Shard)) → ((part : List Shard) → IsIn parts part → IsIn whole part)
      → ((s : Shard) → IsIn (members whole) s → IsIn shards s) → AreParts shards m n bits x parts → AreParts (members whole) m n bits x parts
  parts_of_members whole x [] inside back are = tt
  parts_of_members whole x (part ∷ parts) inside back are = (
    listed_same (λ s. IsIn shards s × IsAt m n bits x s) (λ s. IsIn (members whole) s × IsAt m n bits x s) part
        (λ s. (
          λ w. (in_flat_map (λ p. p) whole part s (inside part (inl refl)) ((are.0.each s).1 w), w.1),
          λ w. (back s w.0, w.1),
        )) are.0,
    parts_of_members whole (suc x) parts (λ p h. inside p (inr h)) back are.1,
  )

  pub own_parts : (parts : List (List Shard)) → AreParts shards m n bits 1 parts → AreParts (members parts) m n bits 1 parts
  own_parts parts are = parts_of_members parts 1 parts (λ p h. h) (λ s h. (members_are 1 parts are s h).0) are

pub levels_are : (parts : List (List Shard)) (levels : List Level) → AreLevelsOf parts levels → AreLevels levels
levels_are [] [] h = tt
levels_are [] (l ∷ ls) h = absurd h
levels_are (p ∷ ps) [] h = absurd h
levels_are (p ∷ ps) (l ∷ ls) h =
    let pointers = length-map p (λ (s : Shard). s.pointer) in
    let names = length-map p (λ (s : Shard). s.name) in (
      record {
        same = omega (arith, ap length h.0.names, ap length h.0.pointers, pointers, names);
        short = omega (arith, ap length h.0.pointers, pointers, h.0.short);
      },
      levels_are ps ls h.1,
    )

pub levels_more : (parts : List (List Shard)) (levels : List Level) (part : List Shard) (level : Level) → AreLevelsOf parts levels → IsLevelOf part level
    → AreLevelsOf (parts ++ part ∷ []) (levels ++ level ∷ [])
levels_more [] [] part level h k = (k, tt)
levels_more [] (l ∷ ls) part level h k = absurd h
levels_more (p ∷ ps) [] part level h k = absurd h
levels_more (p ∷ ps) (l ∷ ls) part level h k = (h.0, levels_more ps ls part level h.1 k)

pub length-levels : (parts : List (List Shard)) (levels : List Level) → AreLevelsOf parts levels → length levels ≡ length parts
length-levels [] [] h = refl
length-levels [] (l ∷ ls) h = absurd h
length-levels (p ∷ ps) [] h = absurd h
length-levels (p ∷ ps) (l ∷ ls) h = ap suc (length-levels ps ls h.1)

-- the fronts of parts and levels
pub levels_front : (k : ℕ) (parts : List (List Shard)) (levels : List Level) → AreLevelsOf parts levels → AreLevelsOf (take k parts) (take k levels)
levels_front zero parts levels h = tt
levels_front (suc k) [] [] h = tt
levels_front (suc k) [] (l ∷ ls) h = absurd h
levels_front (suc k) (p ∷ ps) [] h = absurd h
levels_front (suc k) (p ∷ ps) (l ∷ ls) h = (h.0, levels_front k ps ls h.1)

pub parts_front : (shards : List Shard) (m n bits k x : ℕ) (parts : List (List Shard)) → AreParts shards m n bits x parts → AreParts shards m n bits x (take k parts)
parts_front shards m n bits zero x parts h = tt
parts_front shards m n bits (suc k) x [] h = tt
parts_front shards m n bits (suc k) x (p ∷ ps) h = (h.0, parts_front shards m n bits k (suc x) ps h.1)

mapped_twice : {X Y Z : Type 0} (f : X → Y) (g : Y → Z) (xs : List X) → map g (map f xs) ≡ map (λ x. g (f x)) xs
mapped_twice f g [] = refl
mapped_twice f g (x ∷ xs) = ap (λ l. g (f x) ∷ l) (mapped_twice f g xs)

-- a level of the names and the pointers of a part
pub level_is : (bits : ℕ) (part : List Held) (level : Level) → level.pointers.items ≡ map (λ (h : Held). h.pointer) part
    → level.index ≡ map (λ (h : Held). h.name) part → length part < 2 ^ 32 → IsLevelOf (map (shard_of bits) part) level
level_is bits part level pointers names short = record {
  pointers = pointers ∙ sym (mapped_twice (shard_of bits) (λ (s : Shard). s.pointer) part);
  names = names ∙ sym (mapped_twice (shard_of bits) (λ (s : Shard). s.name) part);
  short = omega (arith, short, length-map part (shard_of bits));
}

-- one more part
pub taken_more : (bits : ℕ) (parts : List (Bor (List Held))) (i : ℕ) (d : Bor (List Held)) → i < length parts
    → parts_of bits (take (i + 1) parts) ≡ parts_of bits (take i parts) ++ map (shard_of bits) (get_or parts i d).now ∷ []
taken_more bits parts i d inside = ap (λ k. parts_of bits (take k parts)) (add-one i) ∙ by parts i inside
  where
    by : (parts : List (Bor (List Held))) (i : ℕ) → i < length parts
        → parts_of bits (take (suc i) parts) ≡ parts_of bits (take i parts) ++ map (shard_of bits) (get_or parts i d).now ∷ []
    by [] i inside = absurd (omega arith)
    by (p ∷ ps) zero inside = refl
    by (p ∷ ps) (suc i) inside = ap (λ l. map (shard_of bits) p.now ∷ l) (by ps i (omega arith))

-- the shards of the parts of m and n are those of m and n
pub group_members : (bits m n : ℕ) (held : List Held) (parts : List (Bor (List Held)))
    → map now_of parts ≡ map (part_of m n held) (range_with_len 1 n)
    → IsOnce (map (shard_of bits) held) → ((s : Shard) → IsIn (map (shard_of bits) held) s → IsHoldable s)
    → (s : Shard) → IsIn (flat_map (λ part. part) (parts_of bits parts)) s ↔ (IsIn (map (shard_of bits) held) s × (s.m ≡ m) × (s.n ≡ n))
group_members bits m n held parts e once holdable s =
    let shards = map (shard_of bits) held in
    let are = group_parts bits m n held parts e once in
    let counted : length (parts_of bits parts) ≡ n = length-map parts (λ part. map (shard_of bits) part.now) ∙ group_length m n held parts e in (
      λ h. let w = members_are shards m n bits 1 (parts_of bits parts) are s h in (w.0, w.1, w.2),
      λ w.
          let is = (holdable s w.0).shard in
          are_members shards m n bits 1 (parts_of bits parts) are s w.0
          (record { need = w.1; count = w.2; bits_are = blurred s w.0; point = refl }) is.x_first (omega (arith, is.x_last, w.2, counted)),
    )
  where
    blurred : (s : Shard) → IsIn (map (shard_of bits) held) s → s.blur ≡ bits
    blurred s h = let r = from_map (shard_of bits) held s h in ap (λ (t : Shard). t.blur) (sym r.2)

-- the group of m and n among some shards
pub group_is : (bits m n : ℕ) (held : List Held) (parts : List (Bor (List Held))) (levels : List Level) (g : Group)
    → map now_of parts ≡ map (part_of m n held) (range_with_len 1 n) → AreLevelsOf (parts_of bits parts) levels
    → IsOnce (map (shard_of bits) held) → ((s : Shard) → IsIn (map (shard_of bits) held) s → IsHoldable s) → 1 ≤ m → m ≤ n → n ≤ 16 → bits ≤ 63
    → g.need ≡ m → g.bits ≡ bits → g.parts.items ≡ parts → g.levels.items ≡ levels
    → IsGroup g
group_is bits m n held parts levels g e are_levels once holdable some need few small is_need is_bits is_parts is_levels =
    let shards = map (shard_of bits) held in
    let are = group_parts bits m n held parts e once in
    let long = group_length m n held parts e in
    let same : parts_of g.bits g.parts.items ≡ parts_of bits parts = ap (λ b. parts_of b g.parts.items) is_bits ∙ ap (parts_of bits) is_parts in
    let mine : shards_in g ≡ flat_map (λ part. part) (parts_of bits parts) = ap (flat_map (λ part. part)) same in
    let count : length g.parts.items ≡ n = ap length is_parts ∙ long in
    record {
      some = omega (arith, some, is_need);
      need = omega (arith, need, is_need, count);
      few = omega (arith, few, count);
      bits = omega (arith, small, is_bits);
      parts =
          subst (λ (l : List Shard). AreParts l g.need (length g.parts.items) g.bits 1 (parts_of g.bits g.parts.items)) (sym mine)
          (subst (λ (l : List (List Shard)). AreParts (flat_map (λ part. part) (parts_of bits parts)) g.need (length g.parts.items) g.bits 1 l) (sym same)
          (subst (λ k. AreParts (flat_map (λ part. part) (parts_of bits parts)) k (length g.parts.items) g.bits 1 (parts_of bits parts)) (sym is_need)
          (subst (λ k. AreParts (flat_map (λ part. part) (parts_of bits parts)) m k g.bits 1 (parts_of bits parts)) (sym count)
          (subst (λ k. AreParts (flat_map (λ part. part) (parts_of bits parts)) m n k 1 (parts_of bits parts)) (sym is_bits)
          (own_parts shards m n bits (parts_of bits parts) are)))));
      levels = subst (λ (l : List (List Shard)). AreLevelsOf l g.levels.items) (sym same) (subst (AreLevelsOf (parts_of bits parts)) (sym is_levels) are_levels);
      shards = λ s h. holdable s (members_are shards m n bits 1 (parts_of bits parts) are s (subst (λ (l : List Shard). IsIn l s) mine h)).0;
    }
