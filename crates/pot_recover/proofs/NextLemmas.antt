-- The chain at some positions, and the pointers of the set at the next point.
use Rattle.std.proofs.Common.{◌≡◌, ◌↔◌, inl, inr, ℕ, zero, suc, ◌+◌, ◌-◌, ◌<◌, ◌≤◌, List, [], ◌∷◌, ◌++◌, map, length, take, get_or, Some, refl, sym, ap, ap₂, ◌∙◌, subst, arith, add-one}
use Rattle.std.specs.Borrow.{Bor}
use Rattle.std.specs.List.{range_with_len}
use Rattle.std.proofs.lemmas.List.{length-map, ext_get_or}
use Rattle.std.proofs.lemmas.Option.{slice_get-get_or, slice_get_within, get_or_from_slice_get}
use Rattle.pot_chains.specs.Listed.{IsIn, IsListed}
use Rattle.pot_chains.specs.Paths.{last_of, IsReached}
use Rattle.pot_chains.proofs.ListedLemmas.{in_map, from_map, in_get_or, contains_from_in}
use Rattle.pot_bytes.specs.Lists.{AreBytes}
use Rattle.pot_joins.specs.Joins.{IsJoinAt}
use Rattle.pot_pointer.specs.Pointers.{blur}
use Rattle.pot_shard.specs.LinkedRings.{IsLinked}
use Rattle.pot_shard.specs.declared.shard.Shard.{Shard}
use Rattle.pot_recover.specs.Groups.{IsAt, AreParts, no_shard, shards_at, AreInside, parts_of, IsWholeChain}
use Rattle.pot_recover.specs.HeldShards.{shard_of, point_of, bytes_held, IsFixedBy}
use Rattle.pot_recover.specs.Reached.{IsNextPointer}
use Rattle.pot_recover.specs.Rings.{points_of, bytes_at}
use Rattle.pot_recover.specs.Sets.{IsFixed, FitsChain, IsNextShard, IsPointed, ReturnsTo}
use Rattle.pot_recover.specs.declared.held.Held.{Held}
use Rattle.pot_recover.proofs.GroupLemmas.{get_or-mapped}
use Rattle.pot_recover.proofs.ReachedLemmas.{last_at, reached_at, next_set}
use Rattle.pot_recover.proofs.RingLemmas.{one_through, points_run, all_weaker}

-- what is fixed by held shards is fixed by the shards that they stand for
pub points_same : (bits : ℕ) (chain : List Held) → map point_of chain ≡ points_of (map (shard_of bits) chain)
points_same bits [] = refl
points_same bits (h ∷ chain) = ap (λ l. h.x ∷ l) (points_same bits chain)

pub bytes_same : (bits k : ℕ) (chain : List Held) → bytes_held k chain ≡ bytes_at k (map (shard_of bits) chain)
bytes_same bits k [] = refl
bytes_same bits k (h ∷ chain) = ap (λ l. get_or h.share.now k 0 ∷ l) (bytes_same bits k chain)

module _ (bits : ℕ) (chain : List Held) (y : ℕ) (share : List ℕ) where
  pub to_fixed : IsFixedBy chain y share → IsFixed (map (shard_of bits) chain) y share
  to_fixed h k less = subst (λ (T : List ℕ). IsJoinAt T (bytes_at k (map (shard_of bits) chain)) y (get_or share k 0)) (points_same bits chain)
      (subst (λ (T : List ℕ). IsJoinAt (map point_of chain) T y (get_or share k 0)) (bytes_same bits k chain) (h k less))

  pub from_fixed : IsFixed (map (shard_of bits) chain) y share → IsFixedBy chain y share
  from_fixed h k less = subst (λ (T : List ℕ). IsJoinAt T (bytes_held k chain) y (get_or share k 0)) (sym (points_same bits chain))
      (subst (λ (T : List ℕ). IsJoinAt (points_of (map (shard_of bits) chain)) T y (get_or share k 0)) (sym (bytes_same bits k chain)) (h k less))

-- what it fixes is one
pub fixed_once : (shards : List Shard) (m n bits : ℕ) (chain : List Shard) (y : ℕ) (a b : List ℕ) → IsWholeChain shards m n bits chain
    → IsFixed chain y a → IsFixed chain y b → length a ≡ 992 → length b ≡ 992 → a ≡ b
fixed_once shards m n bits [] y a b w fa fb la lb = absurd w.of
fixed_once shards m n bits (s ∷ rest) y a b w fa fb la lb =
    let bytes = all_weaker (IsIn shards) (λ (t : Shard). AreBytes t.share) (λ t h. (w.holdable t h).bytes) (s ∷ rest) w.of.0.1 in
    ext_get_or 0 a b (la ∙ sym lb) (λ k less.
    let inside : k < 992 = omega (arith, less, la) in
    let r = one_through s rest w.of.0.0 w.of.0.2 (omega (arith, w.long, w.few, w.of.2)) (omega (arith, w.small, w.of.2)) bytes k in
    fa k inside r.0 r.1 r.2 r.3 ∙ sym (fb k inside r.0 r.1 r.2 r.3))

-- its points are 1 to m
pub chain_points : (shards : List Shard) (m n bits : ℕ) (chain : List Shard) → IsWholeChain shards m n bits chain → points_of chain ≡ range_with_len 1 (length chain)
chain_points shards m n bits [] w = absurd w.of
chain_points shards m n bits (s ∷ rest) w =
    points_run s rest w.of.0.2 (omega (arith, w.of.0.0, w.of.2, w.long, w.few)) ∙ ap (λ x. range_with_len x (suc (length rest))) w.of.0.0

-- the part of a point
pub part_at_place : (shards : List Shard) (m n bits x i : ℕ) (parts : List (List Shard)) → AreParts shards m n bits x parts → i < length parts
    → IsListed (λ s. IsIn shards s × IsAt m n bits (x + i) s) (get_or parts i [])
part_at_place shards m n bits x i [] are inside = absurd (omega arith)
part_at_place shards m n bits x zero (part ∷ parts) are inside =
    subst (λ y. IsListed (λ s. IsIn shards s × IsAt m n bits y s) part) (let e : x ≡ x + 0 = omega arith in e) are.0
part_at_place shards m n bits x (suc i) (part ∷ parts) are inside =
    subst (λ y. IsListed (λ s. IsIn shards s × IsAt m n bits y s) (get_or parts i [])) (let e : suc x + i ≡ x + suc i = omega arith in e)
    (part_at_place shards m n bits (suc x) i parts are.1 (omega arith))

-- The pointers that are found are those of the shards of the next point that hold the fixed share
-- and that an old pointer means.
pub next_is : (shards : List Shard) (m n bits x : ℕ) (chain : List Shard) (there : List Held) (pointers : List ℕ) (share : List ℕ)
    → IsWholeChain shards m n bits chain → IsListed (λ s. IsIn shards s × IsAt m n bits x s) (map (shard_of bits) there)
    → IsFixed chain x share → length share ≡ 992
    → (p : ℕ) → IsNextPointer pointers there bits share p ↔ IsNextShard (IsIn shards) chain m n bits x (IsIn pointers) p
next_is shards m n bits x chain there pointers share whole listed fixed wide p = (
  λ w.
      let h = w.1 in
      let s = shard_of bits h in
      let inside = slice_get_within there w.0 h w.2 in
      let stands : IsIn there h = subst (IsIn there) (get_or_from_slice_get there w.0 h h w.2) (in_get_or w.0 there h inside) in
      let is = (listed.each s).0 (in_map (shard_of bits) there h stands) in (
        s,
        is.0,
        (is.1.need, is.1.count, is.1.bits_are),
        is.1.point,
        subst (λ y. IsFixed chain y h.share.now) (sym is.1.point) (subst (IsFixed chain x) (sym w.4) fixed),
        w.3,
        w.5,
      ),
  λ w.
      let s = w.0 in
      let r = from_map (shard_of bits) there s ((listed.each s).1 (w.1, record { need = w.2.0; count = w.2.1; bits_are = w.2.2; point = w.3 })) in
      let h = r.0 in
      let at = contains_from_in there h r.1 in
      let same : s.share ≡ share = fixed_once shards m n bits chain x s.share share whole (subst (λ y. IsFixed chain y s.share) w.3 w.4) fixed (whole.holdable s w.1).whole wide in (
        at.0,
        h,
        slice_get-get_or there at.0 h at.1 ∙ ap Some at.2,
        subst (λ (t : Shard). IsIn pointers (blur t.name bits)) (sym r.2) w.5,
        ap (λ (t : Shard). t.share) r.2 ∙ same,
        ap (λ (t : Shard). t.pointer) r.2 ∙ w.6,
      ),
)

-- the set of no step is the last of the chain
pub pointed_first : (held : Shard → Type 0) (chain : List Shard) (last : Shard) (pointers : List ℕ) (p : ℕ) → pointers ≡ last.pointer ∷ []
    → IsIn pointers p ↔ IsPointed held chain last 0 p
pointed_first held chain last pointers p e = (
  λ h. elim (subst (λ l. IsIn l p) e h) [ inl same ↦ (last, refl, same) | inr none ↦ absurd none ],
  λ w. subst (λ l. IsIn l p) (sym e) (inl (ap (λ (t : Shard). t.pointer) (sym w.1) ∙ w.2)),
)

abbrev pub last_shard : List Shard → Shard
last_shard [] = no_shard
last_shard (s ∷ rest) = last_of s rest

-- the last of a chain stands at m
end_at : (shards : List Shard) (m n bits : ℕ) (s : Shard) (rest : List Shard) → IsWholeChain shards m n bits (s ∷ rest) → IsAt m n bits m (last_of s rest)
end_at shards m n bits s rest w =
    let at = last_at m n bits s rest (record { need = w.of.1; count = w.of.2; bits_are = w.blurred s w.of.0.1.0; point = refl }) w.of.0.2 (omega (arith, w.of.0.0, w.long, w.few)) in
    record { need = at.need; count = at.count; bits_are = at.bits_are; point = omega (arith, at.point, w.of.0.0, w.long) }

-- the sets of a chain: its first is at its end, and each next is a step on
pub chain_next : (shards : List Shard) (m n bits : ℕ) (chain : List Shard) (k : ℕ) (old new : List ℕ) → IsWholeChain shards m n bits chain → m + suc k ≤ n
    → ((p : ℕ) → IsIn old p ↔ IsPointed (IsIn shards) chain (last_shard chain) k p)
    → ((p : ℕ) → IsIn new p ↔ IsNextShard (IsIn shards) chain m n bits (m + suc k) (IsIn old) p)
    → (p : ℕ) → IsIn new p ↔ IsPointed (IsIn shards) chain (last_shard chain) (suc k) p
chain_next shards m n bits [] k old new w less before step p = absurd w.of
chain_next shards m n bits (s ∷ rest) k old new w less before step p =
    next_set (IsIn shards) (s ∷ rest) m n bits (last_of s rest) (end_at shards m n bits s rest w) k (IsIn old) (IsIn new) less before step p

-- the ring returns where a last pointer is the blur of the name of the first
pub returns_is : (shards : List Shard) (m n bits : ℕ) (chain : List Shard) (pointers : List ℕ) → IsWholeChain shards m n bits chain
    → ((p : ℕ) → IsIn pointers p ↔ IsPointed (IsIn shards) chain (last_shard chain) (n - m) p)
    → IsIn pointers (blur (get_or chain 0 no_shard).name bits) ↔ ReturnsTo (IsIn shards) chain
returns_is shards m n bits [] pointers w is = (λ h. absurd w.of, λ h. absurd w.of)
returns_is shards m n bits (s ∷ rest) pointers w is =
    let steps : s.n - s.m ≡ n - m = ap₂ (λ a b. a - b) w.of.2 w.of.1 in
    let at = λ (t : Shard) (r : IsReached IsLinked (FitsChain (IsIn shards) (s ∷ rest)) (last_of s rest) (n - m) t).
    reached_at (IsIn shards) (s ∷ rest) m n bits (last_of s rest) (end_at shards m n bits s rest w) (n - m) t (omega (arith, w.few)) r in (
      λ h.
          let r = (is (blur s.name bits)).0 h in
          let a = at r.0 r.1 in (
            r.0,
            subst (λ k. IsReached IsLinked (FitsChain (IsIn shards) (s ∷ rest)) (last_of s rest) k r.0) (sym steps) r.1,
            record {
              needed = w.of.1 ∙ sym a.need;
              count = w.of.2 ∙ sym a.count;
              bits = w.blurred s w.of.0.1.0 ∙ sym a.bits_are;
              next = inr (omega (arith, a.point, a.count, w.few), w.of.0.0);
              pointer = r.2 ∙ ap (blur s.name) (sym (w.blurred s w.of.0.1.0));
            },
          ),
      λ r. (is (blur s.name bits)).1 (
        r.0,
        subst (λ k. IsReached IsLinked (FitsChain (IsIn shards) (s ∷ rest)) (last_of s rest) k r.0) steps r.1,
        r.2.pointer ∙ ap (blur s.name) (w.blurred s w.of.0.1.0),
      ),
    )

-- shards at positions
pub at_place : (parts : List (List Shard)) (c : List ℕ) (i : ℕ) → AreInside parts c → i < length c
    → (i < length parts) × (get_or c i 0 < length (get_or parts i [])) × (get_or (shards_at parts c) i no_shard ≡ get_or (get_or parts i []) (get_or c i 0) no_shard)
at_place parts [] i inside less = absurd (omega arith)
at_place [] (p ∷ ps) i inside less = absurd inside
at_place (part ∷ parts) (p ∷ ps) zero inside less = (omega arith, inside.0, refl)
at_place (part ∷ parts) (p ∷ ps) (suc i) inside less = let r = at_place parts ps i inside.1 (omega arith) in (omega (arith, r.0), r.1, r.2)

pub length-shards_at : (parts : List (List Shard)) (c : List ℕ) → AreInside parts c → length (shards_at parts c) ≡ length c
length-shards_at parts [] inside = refl
length-shards_at [] (p ∷ ps) inside = absurd inside
length-shards_at (part ∷ parts) (p ∷ ps) inside = ap suc (length-shards_at parts ps inside.1)

-- positions in a front of the parts
pub front_inside : (k : ℕ) (parts : List (List Shard)) (c : List ℕ) → AreInside (take k parts) c → AreInside parts c × (shards_at (take k parts) c ≡ shards_at parts c)
front_inside k parts [] h = (tt, refl)
front_inside zero parts (p ∷ ps) h = absurd h
front_inside (suc k) [] (p ∷ ps) h = absurd h
front_inside (suc k) (part ∷ parts) (p ∷ ps) h = let r = front_inside k parts ps h.1 in ((h.0, r.0), ap (λ l. get_or part p no_shard ∷ l) r.1)

-- one more shard of a chain
pub chain_more : (bits : ℕ) (parts : List (Bor (List Held))) (c : List ℕ) (i : ℕ) (old new : List Held) (d : Bor (List Held)) (h e : Held)
    → AreInside (parts_of bits parts) c → i < length c → map (shard_of bits) old ≡ take i (shards_at (parts_of bits parts) c)
    → new ≡ old ++ h ∷ [] → h ≡ get_or (get_or parts i d).now (get_or c i 0) e
    → map (shard_of bits) new ≡ take (i + 1) (shards_at (parts_of bits parts) c)
chain_more bits parts c i old new d h e inside less before grown is =
    let P = parts_of bits parts in
    let r = at_place P c i inside less in
    let here : i < length parts = omega (arith, r.0, length-map parts (λ (part : Bor (List Held)). map (shard_of bits) part.now)) in
    let part : get_or P i [] ≡ map (shard_of bits) (get_or parts i d).now = get_or-mapped (λ (part : Bor (List Held)). map (shard_of bits) part.now) parts i d [] here in
    let within : get_or c i 0 < length (get_or parts i d).now = omega (arith, r.1, ap length part, length-map (get_or parts i d).now (shard_of bits)) in
    let shard : get_or (shards_at P c) i no_shard ≡ shard_of bits h =
    r.2 ∙ (ap (λ (l : List Shard). get_or l (get_or c i 0) no_shard) part ∙ (get_or-mapped (shard_of bits) (get_or parts i d).now (get_or c i 0) e no_shard within ∙ ap (shard_of bits) (sym is))) in
    ap (map (shard_of bits)) grown ∙ (map_more old ∙ (ap₂ (λ l s. l ++ s ∷ []) before (sym shard)
    ∙ (sym (take_more_of (shards_at P c) i (omega (arith, less, length-shards_at P c inside))) ∙ ap (λ k. take k (shards_at P c)) (sym (add-one i)))))
  where
    map_more : (l : List Held) → map (shard_of bits) (l ++ h ∷ []) ≡ map (shard_of bits) l ++ shard_of bits h ∷ []
    map_more [] = refl
    map_more (x ∷ l) = ap (λ k. shard_of bits x ∷ k) (map_more l)

    take_more_of : (l : List Shard) (k : ℕ) → k < length l → take (suc k) l ≡ take k l ++ get_or l k no_shard ∷ []
    take_more_of [] k h = absurd (omega arith)
    take_more_of (x ∷ l) zero h = refl
    take_more_of (x ∷ l) (suc k) h = ap (λ t. x ∷ t) (take_more_of l k (omega arith))
