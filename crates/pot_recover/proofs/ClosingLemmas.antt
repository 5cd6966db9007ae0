-- A chain of held shards, and the sets past it.
use Rattle.std.proofs.Common.{◌≡◌, ◌≢◌, ◌↔◌, ◌⊎◌, inl, inr, ℕ, zero, suc, ◌+◌, ◌-◌, ◌*◌, ◌<◌, ◌≤◌, Bool, true, false, ◌||◌, Option, Some, None, List, [], ◌∷◌, map, length, get_or, nat_eq, eqb-true, eq-eqb, true≢false, refl, sym, ap, ◌∙◌, subst, arith}
use Rattle.std.specs.Prelude.{IsTrue, MatchOption}
use Rattle.std.specs.Borrow.{Bor}
use Rattle.pot_pointer.specs.Pointers.{blur}
use Rattle.std.specs.List.{flat_map, range_with_len, list_any}
use Rattle.std.proofs.lemmas.List.{length-map, get_or_default}
use Rattle.std.proofs.lemmas.List.FromFn.{length-range_with_len, get_or-range_with_len}
use Rattle.pot_chains.specs.Listed.{IsIn, IsListed}
use Rattle.pot_chains.specs.Paths.{AreAll}
use Rattle.pot_chains.specs.declared.levels.Level.{Level}
use Rattle.pot_chains.proofs.ListedLemmas.{in_map}
use Rattle.pot_joins.specs.Joins.{IsJoinAt}
use Rattle.pot_shard.specs.declared.shard.Shard.{Shard}
use Rattle.pot_split.specs.Secrecy.{rows_of}
use Rattle.pot_split.specs.Threshold.{column}
use Rattle.pot_recover.specs.Groups.{IsAt, AreLevelsOf, IsLevelOf, no_shard, parts_of, shards_in, AreInside, IsGroup, IsHoldable, IsWholeChain}
use Rattle.pot_recover.specs.HeldShards.{shard_of, point_of, piece_of, bytes_held, AreWhole, HaveBytes, IsFixedBy}
use Rattle.pot_recover.specs.Reached.{name_of}
use Rattle.pot_recover.specs.Rings.{IsAnyContent}
use Rattle.pot_recover.specs.Sets.{IsFixed, IsPointed, ReturnsTo, ClosesWith}
use Rattle.pot_recover.specs.declared.group.Group.{Group}
use Rattle.pot_recover.specs.declared.held.Held.{Held}
use Rattle.pot_recover.proofs.GroupLemmas.{get_or-mapped}
use Rattle.pot_recover.proofs.JoinLemmas.{length-pieces, bytes_in_pieces}
use Rattle.pot_recover.proofs.MemberLemmas.{length-levels}
use Rattle.pot_recover.proofs.NextLemmas.{points_same, to_fixed, from_fixed, fixed_once, chain_points, part_at_place, last_shard, returns_is, at_place}

pub all_in : {X : Type 0} (P : X → Type 0) (xs : List X) (x : X) → AreAll P xs → IsIn xs x → P x
all_in P [] x a h = absurd h
all_in P (y ∷ ys) x a (inl e) = subst P e a.0
all_in P (y ∷ ys) x a (inr h) = all_in P ys x a.1 h

module _ (shards : List Shard) (m n bits : ℕ) (chain : List Held) (w : IsWholeChain shards m n bits (map (shard_of bits) chain)) where
  holdable : (h : Held) → IsIn chain h → IsHoldable (shard_of bits h)
  holdable h there = w.holdable (shard_of bits h) (by (map (shard_of bits) chain) w (in_map (shard_of bits) chain h there))
    where
      by : (c : List Shard) → IsWholeChain shards m n bits c → IsIn c (shard_of bits h) → IsIn shards (shard_of bits h)
      by [] v i = absurd i
      by (s ∷ rest) v i = all_in (IsIn shards) (s ∷ rest) (shard_of bits h) v.of.0.1 i

  pub chain_whole : AreWhole chain
  chain_whole h there = (holdable h there).whole

  pub chain_bytes : HaveBytes chain
  chain_bytes h there = (holdable h there).bytes

  pub chain_long : length chain ≡ m
  chain_long = sym (length-map chain (shard_of bits)) ∙ w.long

  pub chain_some : 0 < length chain
  chain_some = let some = w.some in omega (arith, chain_long, some)

  pub chain_few : length chain ≤ 16
  chain_few = omega (arith, chain_long, w.few, w.small)

  pub chain_point : map point_of chain ≡ range_with_len 1 (length chain)
  chain_point = points_same bits chain ∙ (chain_points shards m n bits (map (shard_of bits) chain) w ∙ ap (range_with_len 1) (length-map chain (shard_of bits)))

  -- what a share that was computed is
  pub fixed_is : (points rows out : List ℕ) (x : ℕ) → length out ≡ 992 → points ≡ range_with_len 1 (length chain) → rows ≡ flat_map (piece_of 0 992) chain
      → ((k : ℕ) → k < length out → IsJoinAt points (column k (rows_of (length points) (length out) rows)) x (get_or out k 0))
      → IsFixed (map (shard_of bits) chain) x out
  fixed_is points rows out x wide is row join =
      to_fixed bits chain x out (λ k less.
      let count : length points ≡ length chain = ap length is ∙ length-range_with_len 1 (length chain) in
      let column_is : column k (rows_of (length points) (length out) rows) ≡ bytes_held k chain =
      ap (λ i. column k (rows_of i (length out) rows)) count ∙ (ap (λ i. column k (rows_of (length chain) i rows)) wide
      ∙ (ap (λ r. column k (rows_of (length chain) 992 r)) row ∙ (bytes_in_pieces 0 992 k chain chain_whole (omega arith) less
      ∙ ap (λ i. bytes_held i chain) (let e : 0 + k ≡ k = omega arith in e)))) in
      subst (λ (p : List ℕ). IsJoinAt p (bytes_held k chain) x (get_or out k 0)) (is ∙ sym chain_point)
      (subst (λ (v : List ℕ). IsJoinAt points v x (get_or out k 0)) column_is (join k (omega (arith, less, wide)))))

  -- the points of the chain are not that of a part behind it
  pub points_apart : (points : List ℕ) (place : ℕ) → points ≡ range_with_len 1 (length chain) → length chain ≤ place → (i : ℕ) → i < length points → get_or points i 0 ≢ place + 1
  points_apart points place is behind i less same =
      let inside : i < length chain = omega (arith, less, ap length is, length-range_with_len 1 (length chain)) in
      omega (arith, same, ap (λ l. get_or l i 0) is, get_or-range_with_len 1 (length chain) i 0 inside, behind, inside)

  pub rows_long : (points rows : List ℕ) → points ≡ range_with_len 1 (length chain) → rows ≡ flat_map (piece_of 0 992) chain → length rows ≡ length points * 992
  rows_long points rows is row =
      ap length row ∙ (length-pieces 0 992 chain chain_whole (omega arith) ∙ ap (λ k. k * 992) (sym (ap length is ∙ length-range_with_len 1 (length chain))))

level_at : (parts : List (List Shard)) (levels : List Level) (i : ℕ) (d : Level) → AreLevelsOf parts levels → i < length parts → IsLevelOf (get_or parts i []) (get_or levels i d)
level_at [] levels i d h less = absurd (omega arith)
level_at (p ∷ ps) [] i d h less = absurd h
level_at (p ∷ ps) (l ∷ ls) zero d h less = h.0
level_at (p ∷ ps) (l ∷ ls) (suc i) d h less = level_at ps ls i d h.1 (omega arith)

names_same : (bits : ℕ) (part : List Held) → map (λ (s : Shard). s.name) (map (shard_of bits) part) ≡ map name_of part
names_same bits [] = refl
names_same bits (h ∷ part) = ap (λ l. h.name ∷ l) (names_same bits part)

module _ (g : Group) (is : IsGroup g) (place : ℕ) (inside : place < length g.parts.items) where
  abbrev P : List (List Shard)
  P = parts_of g.bits g.parts.items

  within : place < length P
  within = omega (arith, inside, length-map g.parts.items (λ (part : Bor (List Held)). map (shard_of g.bits) part.now))

  part_is : (d : Bor (List Held)) → get_or P place [] ≡ map (shard_of g.bits) (get_or g.parts.items place d).now
  part_is d = get_or-mapped (λ (part : Bor (List Held)). map (shard_of g.bits) part.now) g.parts.items place d [] inside

  -- the index of a part
  pub index_is : (d : Bor (List Held)) (e : Level) → (get_or g.levels.items place e).index ≡ map name_of (get_or g.parts.items place d).now
  index_is d e = (level_at P g.levels.items place e is.levels within).names ∙ (ap (map (λ (s : Shard). s.name)) (part_is d) ∙ names_same g.bits (get_or g.parts.items place d).now)

  -- the shards of a part
  pub shards_are : (d : Bor (List Held)) → IsListed (λ s. IsIn (shards_in g) s × IsAt g.need (length g.parts.items) g.bits (place + 1) s) (map (shard_of g.bits) (get_or g.parts.items place d).now)
  shards_are d =
      subst (λ (l : List Shard). IsListed (λ s. IsIn (shards_in g) s × IsAt g.need (length g.parts.items) g.bits (place + 1) s) l) (part_is d)
      (subst (λ x. IsListed (λ s. IsIn (shards_in g) s × IsAt g.need (length g.parts.items) g.bits x s) (get_or P place [])) (let e : 1 + place ≡ place + 1 = omega arith in e)
      (part_at_place (shards_in g) g.need (length g.parts.items) g.bits 1 place P is.parts within))

-- The content of a chain that means one is what its ring closes with, where it returns.
pub closes_is : (shards : List Shard) (m n bits : ℕ) (chain : List Held) (content : List ℕ) → IsWholeChain shards m n bits (map (shard_of bits) chain)
    → IsFixedBy chain 0 content → IsAnyContent content
    → (c : List ℕ) → ((content ≡ c) × ReturnsTo (IsIn shards) (map (shard_of bits) chain)) ↔ ClosesWith (IsIn shards) (map (shard_of bits) chain) c
closes_is shards m n bits chain content w fixed any c = (
  λ h. (
    subst (IsFixed (map (shard_of bits) chain) 0) h.0 (to_fixed bits chain 0 content fixed),
    subst IsAnyContent h.0 any,
    h.1,
  ),
  λ h. (
    fixed_once shards m n bits (map (shard_of bits) chain) 0 content c w (to_fixed bits chain 0 content fixed) h.0 any.1.long h.1.1.long,
    h.2,
  ),
)

pub closes_not : (shards : List Shard) (bits : ℕ) (chain : List Held) → ((c : List ℕ) → IsFixedBy chain 0 c → ¬ IsAnyContent c)
    → (c : List ℕ) → ¬ ClosesWith (IsIn shards) (map (shard_of bits) chain) c
closes_not shards bits chain none c h = none c (from_fixed bits chain 0 c h.0) h.1

pub first_is : (bits : ℕ) (chain : List Held) (h : Held) → 0 < length chain → h ≡ get_or chain 0 h → (get_or (map (shard_of bits) chain) 0 no_shard).name ≡ h.name
first_is bits [] h some e = absurd (omega arith)
first_is bits (x ∷ chain) h some e = ap (λ (y : Held). y.name) (sym e)

pub last_is : (bits : ℕ) (chain : List Held) (h : Held) → 0 < length chain → h ≡ get_or chain (length chain - 1) h → (last_shard (map (shard_of bits) chain)).pointer ≡ h.pointer
last_is bits [] h some e = absurd (omega arith)
last_is bits (x ∷ chain) h some e = by x chain (e ∙ ap (λ k. get_or (x ∷ chain) k h) (let k : suc (length chain) - 1 ≡ length chain = omega arith in k))
  where
    by : (x : Held) (rest : List Held) → h ≡ get_or (x ∷ rest) (length rest) h → (last_shard (map (shard_of bits) (x ∷ rest))).pointer ≡ h.pointer
    by x [] e = ap (λ (y : Held). y.pointer) (sym e)
    by x (y ∷ rest) e = by y rest e

-- there are as many levels as parts
pub levels_within : (g : Group) → IsGroup g → length g.levels.items ≡ length g.parts.items
levels_within g is =
    length-levels (parts_of g.bits g.parts.items) g.levels.items is.levels ∙ length-map g.parts.items (λ (part : Bor (List Held)). map (shard_of g.bits) part.now)

-- what stands for none
abbrev pub nobody : Held
nobody = record { m = 0; n = 0; x = 0; name = 0; pointer = 0; share = record { ref_ptr = (0, 0); now = [] } }

-- a content that was found
pub content_some : (chain : List Held) (o : Option (List ℕ)) (content : List ℕ) → o ≡ Some content
    → MatchOption o ((c : List ℕ) → IsFixedBy chain 0 c → ¬ IsAnyContent c) (λ c. IsFixedBy chain 0 c × IsAnyContent c)
    → IsFixedBy chain 0 content × IsAnyContent content
content_some chain o content e h = subst (λ (p : Option (List ℕ)). MatchOption p ((c : List ℕ) → IsFixedBy chain 0 c → ¬ IsAnyContent c) (λ c. IsFixedBy chain 0 c × IsAnyContent c)) e h

pub content_none : (chain : List Held) (o : Option (List ℕ)) → o ≡ None
    → MatchOption o ((c : List ℕ) → IsFixedBy chain 0 c → ¬ IsAnyContent c) (λ c. IsFixedBy chain 0 c × IsAnyContent c)
    → (c : List ℕ) → IsFixedBy chain 0 c → ¬ IsAnyContent c
content_none chain o e h = subst (λ (p : Option (List ℕ)). MatchOption p ((c : List ℕ) → IsFixedBy chain 0 c → ¬ IsAnyContent c) (λ c. IsFixedBy chain 0 c × IsAnyContent c)) e h

-- a position lies within its part
pub position_within : (bits : ℕ) (parts : List (Bor (List Held))) (c : List ℕ) (i : ℕ) (part d : Bor (List Held)) → AreInside (parts_of bits parts) c → i < length c
    → part ≡ get_or parts i d → get_or c i 0 < length part.now
position_within bits parts c i part d inside less is =
    let r = at_place (parts_of bits parts) c i inside less in
    let here : i < length parts = omega (arith, r.0, length-map parts (λ (p : Bor (List Held)). map (shard_of bits) p.now)) in
    let same = get_or-mapped (λ (p : Bor (List Held)). map (shard_of bits) p.now) parts i d [] here in
    omega (arith, r.1, ap length same, length-map (get_or parts i d).now (shard_of bits), ap (λ (p : Bor (List Held)). length p.now) is)

-- the last pointer of a chain alone
pub first_pointed : (held : Shard → Type 0) (bits : ℕ) (chain : List Held) (old new : List ℕ) (k : ℕ) → 0 < length chain → k ≡ 0 → old ≡ []
    → ((p : ℕ) → IsIn new p ↔ (IsIn old p ⊎ ((get_or chain (length chain - 1) nobody).pointer ≡ p)))
    → (p : ℕ) → IsIn new p ↔ IsPointed held (map (shard_of bits) chain) (last_shard (map (shard_of bits) chain)) k p
first_pointed held bits chain old new k some none empty step p =
    let last = last_is bits chain (get_or chain (length chain - 1) nobody) some
    (get_or_default chain (length chain - 1) nobody (get_or chain (length chain - 1) nobody) (omega (arith, some))) in
    subst (λ i. IsIn new p ↔ IsPointed held (map (shard_of bits) chain) (last_shard (map (shard_of bits) chain)) i p) (sym none) (
      λ h. elim ((step p).0 h) [
        | inl before ↦ absurd (subst (λ l. IsIn l p) empty before)
        | inr same ↦ (last_shard (map (shard_of bits) chain), refl, last ∙ same)
      ],
      λ w. (step p).1 (inr (sym last ∙ (ap (λ (t : Shard). t.pointer) (sym w.1) ∙ w.2))),
    )

any_in : (xs : List ℕ) (x : ℕ) → (list_any (λ y. nat_eq y x) xs ≡ true) ↔ IsIn xs x
any_in [] x = (λ e. absurd (cc), λ h. absurd h)
any_in (y ∷ ys) x = by (nat_eq y x) refl (any_in ys x)
  where
    by : (b : Bool) → nat_eq y x ≡ b → (list_any (λ z. nat_eq z x) ys ≡ true) ↔ IsIn ys x → ((b || list_any (λ z. nat_eq z x) ys) ≡ true) ↔ IsIn (y ∷ ys) x
    by true e rest = (λ h. inl (eqb-true y x e), λ h. refl)
    by false e rest = (λ h. inr (rest.0 h), λ h. elim h [ inl same ↦ absurd (true≢false (sym (eq-eqb y x same) ∙ e)) | inr there ↦ rest.1 there ])

-- the name of the first of a chain, and whether its blur is among the last pointers
pub ends_is : (g : Group) (chain : List Held) (pointers now : List ℕ) (k blurred : ℕ) (found : Bool)
    → IsWholeChain (shards_in g) g.need (length g.parts.items) g.bits (map (shard_of g.bits) chain) → k ≡ length g.parts.items - g.need
    → ((p : ℕ) → IsIn pointers p ↔ IsPointed (IsIn (shards_in g)) (map (shard_of g.bits) chain) (last_shard (map (shard_of g.bits) chain)) k p)
    → now ≡ pointers → blurred ≡ blur (get_or chain 0 nobody).name g.bits → found ≡ list_any (λ y. nat_eq y blurred) now
    → IsTrue found ↔ ReturnsTo (IsIn (shards_in g)) (map (shard_of g.bits) chain)
ends_is g chain pointers now k blurred found w steps is same name value =
    let some = chain_some (shards_in g) g.need (length g.parts.items) g.bits chain w in
    let first = first_is g.bits chain (get_or chain 0 nobody) some (get_or_default chain 0 nobody (get_or chain 0 nobody) some) in
    let at : blurred ≡ blur (get_or (map (shard_of g.bits) chain) 0 no_shard).name g.bits = name ∙ ap (λ x. blur x g.bits) (sym first) in
    let returns = returns_is (shards_in g) g.need (length g.parts.items) g.bits (map (shard_of g.bits) chain) pointers w
    (subst (λ i. (p : ℕ) → IsIn pointers p ↔ IsPointed (IsIn (shards_in g)) (map (shard_of g.bits) chain) (last_shard (map (shard_of g.bits) chain)) i p) steps is) in
    let any = any_in now blurred in (
      λ h. returns.0 (subst (IsIn pointers) at (subst (λ l. IsIn l blurred) same (any.0 (sym value ∙ h)))),
      λ r. value ∙ any.1 (subst (λ l. IsIn l blurred) (sym same) (subst (IsIn pointers) (sym at) (returns.1 r))),
    )
