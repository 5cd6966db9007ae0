-- Open chains: their points, their positions, and what was searched of them.
use Rattle.std.proofs.Common.{◌≡◌, ◌↔◌, ◌⊎◌, inl, inr, ℕ, zero, suc, ◌+◌, ◌-◌, ◌<◌, ◌≤◌, Bool, true, false, List, [], ◌∷◌, ◌++◌, map, length, take, Some, get_or, nat_eq, refl, sym, ap, ◌∙◌, subst, arith, lit<, length-append, append_assoc, add-one, eqb-true, eq-eqb}
use Rattle.std.specs.Borrow.{Bor}
use Rattle.std.specs.Prelude.{⊤, ◌^◌, slice_get}
use Rattle.std.specs.List.{IsDistinct}
use Rattle.std.proofs.lemmas.Bool.{cases_lt, ne_eqb}
use Rattle.std.proofs.lemmas.List.{length-map}
use Rattle.std.proofs.lemmas.Option.{slice_get-get_or}
use Rattle.std.proofs.lemmas.Map.Keys.{IsDistinct-from_apart}
use Rattle.pot_bytes.specs.Lists.{AreBytes}
use Rattle.pot_chains.specs.Levels.{IsPathFrom, IsPath, IsPathBelow, AreLevels}
use Rattle.pot_chains.specs.Listed.{IsIn, IsOnce, IsListed, AreAbove, HasGrown}
use Rattle.pot_chains.specs.Paths.{AreLinked}
use Rattle.pot_chains.specs.declared.levels.Level.{Level}
use Rattle.pot_chains.proofs.ListedLemmas.{listed_map_on, listed_same, listed_append, once_append, in_append, in_map, once_map_on, from_map, in_take_more}
use Rattle.pot_pointer.specs.Pointers.{blur}
use Rattle.pot_shard.specs.LinkedRings.{IsLinked, IsNextPoint}
use Rattle.pot_shard.specs.declared.shard.Shard.{Shard}
use Rattle.pot_bytes.proofs.Elements.{length-filter_le}
use Rattle.pot_recover.specs.Groups.{IsAt, AreLevelsOf, AreInside, IsHoldable, no_shard, now_of, part_of, shards_at, parts_of}
use Rattle.pot_recover.specs.HeldShards.{shard_of, stands_at}
use Rattle.pot_recover.specs.declared.held.Held.{Held}
use Rattle.pot_recover.specs.OpenScopes.{after, points_from, AreWindow, AreJoinable, IsWindow, IsOpenChainIn, IsOpenlyFound, IsGivenAmong, HasSearchedOpen, IsJoinable, BeginsAt}
use Rattle.pot_recover.specs.Points.{ArePoints}
use Rattle.pot_recover.specs.Rings.{need_of, points_of, ClosesRing}
use Rattle.pot_recover.specs.declared.group.Group.{Group}
use Rattle.pot_recover.proofs.ClosingLemmas.{all_in}
use Rattle.pot_recover.proofs.GroupLemmas.{IsRun, at, get_or-mapped, index_same, meant_inside, meant_name, placed}
use Rattle.pot_recover.proofs.MemberLemmas.{levels_are, length-levels, part_listed}

-- POINTS

-- the point after x is the next, and the only one
pub after_next : (n x : ℕ) → x ≤ n → IsNextPoint n x (after n x)
after_next n x last = by (nat_eq x n) refl
  where
    by : (b : Bool) → nat_eq x n ≡ b → IsNextPoint n x (Rattle.std.specs.Prelude.if◌then◌else◌ b 1 (x + 1))
    by true e = inr (eqb-true x n e, refl)
    by false e = inl ((elim (cases_lt x n) [ inl less ↦ less | inr more ↦ absurd (Rattle.std.proofs.lemmas.Bool.false≢true (sym e ∙ eq-eqb x n (omega (arith, more, last)))) ]), refl)

pub next_after : (n x y : ℕ) → IsNextPoint n x y → y ≡ after n x
next_after n x y (inl on) = on.1 ∙ sym (ap (λ b. Rattle.std.specs.Prelude.if◌then◌else◌ b 1 (x + 1)) (ne_eqb x n (λ same. omega (arith, on.0, same))))
next_after n x y (inr turned) = turned.1 ∙ sym (ap (λ b. Rattle.std.specs.Prelude.if◌then◌else◌ b 1 (x + 1)) (eq-eqb x n turned.0))

pub after_first : (n x : ℕ) → x ≤ n → 1 ≤ after n x
after_first n x last = elim (after_next n x last) [ inl on ↦ omega (arith, on.1) | inr turned ↦ omega (arith, turned.1) ]

pub after_last : (n x : ℕ) → 1 ≤ x → x ≤ n → after n x ≤ n
after_last n x first last = elim (after_next n x last) [ inl on ↦ omega (arith, on.0, on.1) | inr turned ↦ omega (arith, turned.1, first, last) ]

-- where a point stands
point_at : (n x k i d : ℕ) → 1 ≤ x → x ≤ n → i < k → i < n
    → ((x + i ≤ n) × (get_or (points_from n x k) i d ≡ x + i)) ⊎ ((n < x + i) × (get_or (points_from n x k) i d + n ≡ x + i))
point_at n x zero i d first last inside less = absurd (omega arith)
point_at n x (suc k) zero d first last inside less = inl (omega arith, omega arith)
point_at n x (suc k) (suc i) d first last inside less =
    let r = point_at n (after n x) k i d (after_first n x last) (after_last n x first last) (omega arith) (omega arith) in
    elim (after_next n x last) [
      | inl on ↦ elim r [ inl low ↦ inl (omega (arith, low.0, on.1), omega (arith, low.1, on.1)) | inr high ↦ inr (omega (arith, high.0, on.1), omega (arith, high.1, on.1)) ]
      | inr turned ↦ elim r [ inl low ↦ inr (omega (arith, turned.0), omega (arith, low.1, turned.0, turned.1)) | inr high ↦ absurd (omega (arith, high.0, turned.1, less)) ]
    ]

length-points : (n x k : ℕ) → length (points_from n x k) ≡ k
length-points n x zero = refl
length-points n x (suc k) = ap suc (length-points n (after n x) k)

points_bytes : (n x k : ℕ) → 1 ≤ x → x ≤ n → n < 256 → AreBytes (points_from n x k)
points_bytes n x zero first last small j = lit< tt
points_bytes n x (suc k) first last small zero = omega arith
points_bytes n x (suc k) first last small (suc j) = points_bytes n (after n x) k (after_first n x last) (after_last n x first last) small j

-- so many points from x on may be joined at
pub points_are : (n x k : ℕ) → 1 ≤ x → x ≤ n → k ≤ n → n ≤ 16 → ArePoints (points_from n x k)
points_are n x k first last few small = record {
  bytes = points_bytes n x k first last (omega (arith, small));
  distinct = IsDistinct-from_apart nat_eq (points_from n x k) (λ i j d less within.
      let inside : j < k = omega (arith, within, length-points n x k) in
      let a = point_at n x k i d first last (omega (arith, less, inside)) (omega (arith, less, inside, few)) in
      let b = point_at n x k j d first last inside (omega (arith, inside, few)) in
      ne_eqb (get_or (points_from n x k) i d) (get_or (points_from n x k) j d) (λ same.
      elim a [
        | inl low ↦ elim b [ inl l ↦ omega (arith, low.1, l.1, same, less) | inr h ↦ omega (arith, low.1, h.1, same, less, inside, few) ]
        | inr high ↦ elim b [ inl l ↦ omega (arith, high.0, l.0, less) | inr h ↦ omega (arith, high.1, h.1, same, less) ]
      ]));
  not_zero = λ i d within.
      let inside : i < k = omega (arith, within, length-points n x k) in
      elim (point_at n x k i d first last inside (omega (arith, inside, few))) [ inl low ↦ omega (arith, low.1, first) | inr high ↦ omega (arith, high.0, high.1) ];
}

-- POSITIONS

module _ (shards : List Shard) (m n bits : ℕ) where
  link : (x : ℕ) (s t : Shard) → x ≤ n → IsAt m n bits x s → IsAt m n bits (after n x) t → blur t.name bits ≡ s.pointer → IsLinked s t
  link x s t last a b e = record {
    needed = b.need ∙ sym a.need;
    count = b.count ∙ sym a.count;
    bits = b.bits_are ∙ sym a.bits_are;
    next = subst (λ k. IsNextPoint s.n k t.x) (sym a.point) (subst (λ k. IsNextPoint k x t.x) (sym a.count) (subst (IsNextPoint n x) (sym b.point) (after_next n x last)));
    pointer = sym (ap (blur t.name) b.bits_are ∙ e);
  }

  -- a linked shard stands at the point after
  next_at : (x : ℕ) (s t : Shard) → IsAt m n bits x s → IsLinked s t → IsAt m n bits (after n x) t
  next_at x s t a l = record {
    need = l.needed ∙ a.need;
    count = l.count ∙ a.count;
    bits_are = l.bits ∙ a.bits_are;
    point = next_after n x t.x (subst (λ k. IsNextPoint k x t.x) a.count (subst (λ k. IsNextPoint s.n k t.x) a.point l.next));
  }

  -- its points
  pub run_points : (x : ℕ) (s : Shard) (rest : List Shard) → IsAt m n bits x s → AreLinked IsLinked s rest → points_of (s ∷ rest) ≡ points_from n x (suc (length rest))
  run_points x s [] a h = ap (λ k. k ∷ []) a.point
  run_points x s (t ∷ rest) a h = both s.x x (points_of (t ∷ rest)) (points_from n (after n x) (suc (length rest))) a.point (run_points (after n x) t rest (next_at x s t a h.0) h.1)
    where
      both : (a b : ℕ) (xs ys : List ℕ) → a ≡ b → xs ≡ ys → a ∷ xs ≡ b ∷ ys
      both a b xs ys e f = cc

  to_run : (x : ℕ) (part : List Shard) (parts : List (List Shard)) (a : Level) (levels : List Level) (p : ℕ) (ps : List ℕ)
      → AreWindow shards m n bits x (part ∷ parts) → AreLevelsOf (part ∷ parts) (a ∷ levels) → 1 ≤ x → x ≤ n → p < length part
      → IsPathFrom bits (a ∷ levels) p ps
      → IsRun shards m n bits x (shards_at (part ∷ parts) (p ∷ ps)) × AreInside (part ∷ parts) (p ∷ ps) × (length (shards_at parts ps) ≡ length ps)
  to_run x part parts a levels p [] are are_levels first last inside path =
      let s = at shards m n bits x part p are.0 inside in ((s.1, (s.0, tt), tt), (inside, tt), refl)
  to_run x part [] a [] p (q ∷ qs) are are_levels first last inside path = absurd path
  to_run x part [] a (b ∷ levels) p (q ∷ qs) are are_levels first last inside path = absurd are_levels.1
  to_run x part (next ∷ parts) a [] p (q ∷ qs) are are_levels first last inside path = absurd are_levels.1
  to_run x part (next ∷ parts) a (b ∷ levels) p (q ∷ qs) are are_levels first last inside path =
      let s = at shards m n bits x part p are.0 inside in
      let r = to_run (after n x) next parts b levels q qs are.1 are_levels.1 (after_first n x last) (after_last n x first last) (meant_inside shards m n bits part next a b p q are_levels.1.0 path.0) path.1 in (
        (
          s.1,
          (s.0, r.0.1),
          (
            link x (get_or part p no_shard) (get_or next q no_shard) last s.1 r.0.0
                (meant_name shards m n bits part next a b p q are_levels.0 are_levels.1.0 inside path.0),
            r.0.2,
          ),
        ),
        (inside, r.1),
        ap suc r.2,
      )

  from_run : (x : ℕ) (part : List Shard) (parts : List (List Shard)) (a : Level) (levels : List Level) (s : Shard) (rest : List Shard)
      → AreWindow shards m n bits x (part ∷ parts) → AreLevelsOf (part ∷ parts) (a ∷ levels) → length rest ≤ length parts
      → IsRun shards m n bits x (s ∷ rest)
      → (p : ℕ) × (ps : List ℕ) × (p < length part) × IsPathFrom bits (a ∷ levels) p ps × (shards_at (part ∷ parts) (p ∷ ps) ≡ s ∷ rest) × (length ps ≡ length rest)
  from_run x part parts a levels s [] are are_levels short run =
      let r = placed shards m n bits x part s are.0 (run.1.0, run.0) in (r.0, [], r.1, tt, ap (λ t. t ∷ []) r.2, refl)
  from_run x part [] a levels s (t ∷ rest) are are_levels short run = absurd (omega arith)
  from_run x part (next ∷ parts) a [] s (t ∷ rest) are are_levels short run = absurd are_levels.1
  from_run x part (next ∷ parts) a (b ∷ levels) s (t ∷ rest) are are_levels short run =
      let r = placed shards m n bits x part s are.0 (run.1.0, run.0) in
      let on = next_at x s t run.0 run.2.0 in
      let w = from_run (after n x) next parts b levels t rest are.1 are_levels.1 (omega arith) (on, run.1.1, run.2.1) in
      let first : get_or next w.0 no_shard ≡ t = head_is (get_or next w.0 no_shard) t (shards_at parts w.1) rest w.4 in
      let named : slice_get b.index w.0 ≡ Some t.name =
      ap (λ l. slice_get l w.0) are_levels.1.0.names
      ∙ (slice_get-get_or (map (λ (u : Shard). u.name) next) w.0 0 (omega (arith, w.2, length-map next (λ (u : Shard). u.name)))
      ∙ ap Some (get_or-mapped (λ (u : Shard). u.name) next w.0 no_shard 0 w.2 ∙ ap (λ (u : Shard). u.name) first)) in
      let pointer : blur t.name bits ≡ get_or a.pointers.items r.0 0 =
      sym (ap (λ l. get_or l r.0 0) are_levels.0.pointers ∙ (get_or-mapped (λ (u : Shard). u.pointer) part r.0 no_shard 0 r.1
      ∙ (ap (λ (u : Shard). u.pointer) r.2 ∙ (run.2.0.pointer ∙ ap (blur t.name) on.bits_are)))) in
      (r.0, w.0 ∷ w.1, r.1, ((t.name, named, pointer), w.3), both (get_or part r.0 no_shard) s (shards_at (next ∷ parts) (w.0 ∷ w.1)) (t ∷ rest) r.2 w.4, ap suc w.5)
    where
      head_is : (a b : Shard) (xs ys : List Shard) → a ∷ xs ≡ b ∷ ys → a ≡ b
      head_is a b xs ys e = cc

      both : (a b : Shard) (xs ys : List Shard) → a ≡ b → xs ≡ ys → a ∷ xs ≡ b ∷ ys
      both a b xs ys e f = cc

  -- positions inside are told by their shards
  positions_same : (x : ℕ) (parts : List (List Shard)) (ps qs : List ℕ) → AreWindow shards m n bits x parts → AreInside parts ps → AreInside parts qs
      → shards_at parts ps ≡ shards_at parts qs → ps ≡ qs
  positions_same x parts [] [] are a b e = refl
  positions_same x [] [] (q ∷ qs) are a b e = absurd b
  positions_same x (part ∷ parts) [] (q ∷ qs) are a b e = absurd (cc)
  positions_same x [] (p ∷ ps) qs are a b e = absurd a
  positions_same x (part ∷ parts) (p ∷ ps) [] are a b e = absurd (cc)
  positions_same x (part ∷ parts) (p ∷ ps) (q ∷ qs) are a b e =
      let first : get_or part p no_shard ≡ get_or part q no_shard = cc in
      let others : shards_at parts ps ≡ shards_at parts qs = cc in
      let here : p ≡ q = index_same part no_shard p q are.0.once a.0 b.0 first in
      let there : ps ≡ qs = positions_same (after n x) parts ps qs are.1 a.1 b.1 others in
      cc

-- A WINDOW

module _ (shards : List Shard) (m n x : ℕ) (g : Group) (is : IsWindow shards m n x g) where
  abbrev P : List (List Shard)
  P = parts_of g.bits g.parts.items

  abbrev Scope : Shard → Type 0
  Scope = BeginsAt m n x

  pub levels_long : length g.levels.items ≡ m
  levels_long = length-levels P g.levels.items is.levels ∙ is.counted

  -- they are levels
  pub all_are : AreLevels g.levels.items
  all_are = levels_are P g.levels.items is.levels

  -- a path is a chain of shards
  pub path_open : (k : ℕ) (c : List ℕ) → IsPath g.bits g.levels.items k c → k < m
      → IsOpenChainIn shards Scope (shards_at P c) × AreInside P c × (length (shards_at P c) ≡ suc k)
  path_open k c path less = by P g.levels.items c is.parts is.levels path
    where
      by : (parts : List (List Shard)) (levels : List Level) (c : List ℕ) → AreWindow shards m n g.bits x parts → AreLevelsOf parts levels
          → IsPath g.bits levels k c → IsOpenChainIn shards Scope (shards_at parts c) × AreInside parts c × (length (shards_at parts c) ≡ suc k)
      by parts levels [] are are_levels path = absurd path
      by parts [] (p ∷ ps) are are_levels path = absurd path
      by [] (a ∷ levels) (p ∷ ps) are are_levels path = absurd are_levels
      by (part ∷ parts) (a ∷ levels) (p ∷ ps) are are_levels path =
          let inside : p < length part = omega (arith, path.0, ap length are_levels.0.pointers, length-map part (λ (s : Shard). s.pointer)) in
          let r = to_run shards m n g.bits x part parts a levels p ps are are_levels is.first is.last inside path.2 in (
            (
              (r.0.1, r.0.2, omega (arith, r.2, path.1, less, r.0.0.need)),
              ((r.0.0.need, r.0.0.count), r.0.0.point),
            ),
            r.1,
            ap suc (r.2 ∙ path.1),
          )

  -- and each such chain is one
  pub open_path : (chain : List Shard) → IsOpenChainIn shards Scope chain
      → (c : List ℕ) × (k : ℕ) × (k < m) × IsPath g.bits g.levels.items k c × (shards_at P c ≡ chain) × (length chain ≡ suc k)
  open_path chain of = by P g.levels.items chain is.parts is.levels is.counted of
    where
      by : (parts : List (List Shard)) (levels : List Level) (chain : List Shard) → AreWindow shards m n g.bits x parts → AreLevelsOf parts levels → length parts ≡ m
          → IsOpenChainIn shards Scope chain → (c : List ℕ) × (k : ℕ) × (k < m) × IsPath g.bits levels k c × (shards_at parts c ≡ chain) × (length chain ≡ suc k)
      by parts levels [] are are_levels whole of = absurd of
      by [] levels (s ∷ rest) are are_levels whole of = absurd (omega (arith, whole, of.0.2, of.1.0.0))
      by (part ∷ parts) [] (s ∷ rest) are are_levels whole of = absurd are_levels
      by (part ∷ parts) (a ∷ levels) (s ∷ rest) are are_levels whole of =
          let here : IsAt m n g.bits x s = record { need = of.1.0.0; count = of.1.0.1; bits_are = is.blurred s of.0.0.0; point = of.1.1 } in
          let r = from_run shards m n g.bits x part parts a levels s rest are are_levels (omega (arith, whole, of.0.2, of.1.0.0)) (here, of.0.0, of.0.1) in (
            r.0 ∷ r.1,
            length rest,
            omega (arith, of.0.2, of.1.0.0),
            (omega (arith, r.2, ap length are_levels.0.pointers, length-map part (λ (t : Shard). t.pointer)), r.5, r.3),
            r.4,
            refl,
          )

  -- all chains are counted
  pub grown_is : (before now : ℕ) → HasGrown (IsPathBelow g.bits g.levels.items (length g.levels.items)) before now
      → HasGrown (IsOpenChainIn shards Scope) before now
  grown_is before now (all, listed, e) = (
    map (shards_at P) all,
    listed_same (λ y. (c : List ℕ) × IsPathBelow g.bits g.levels.items m c × (shards_at P c ≡ y)) (IsOpenChainIn shards Scope) (map (shards_at P) all)
        (λ y. (
          λ w. subst (IsOpenChainIn shards Scope) w.2 (path_open w.1.0 w.0 w.1.2 w.1.1).0,
          λ h. let r = open_path y h in (r.0, (r.1, r.2, r.3), r.4),
        ))
        (listed_map_on (IsPathBelow g.bits g.levels.items m) (shards_at P) all (subst (λ k. IsListed (IsPathBelow g.bits g.levels.items k) all) levels_long listed)
        (λ a b p q e. positions_same shards m n g.bits x P a b is.parts (path_open p.0 a p.2 p.1).1 (path_open q.0 b q.2 q.1).1 e)),
    e ∙ ap (λ k. before + k) (sym (length-map all (shards_at P))),
  )

  pub above_is : (limit before : ℕ) → AreAbove (IsPathBelow g.bits g.levels.items (length g.levels.items)) limit before
      → AreAbove (IsOpenChainIn shards Scope) limit before
  above_is limit before (all, once, each, more) =
      let chain = λ (c : List ℕ) (h : IsIn all c).
      let w = subst (λ k. IsPathBelow g.bits g.levels.items k c) levels_long (each c h) in
      path_open w.0 c w.2 w.1 in (
        map (shards_at P) all,
        once_map_on (shards_at P) all
            (λ a b h k e. positions_same shards m n g.bits x P a b is.parts (chain a h).1 (chain b k).1 e) once,
        λ y h. let r = from_map (shards_at P) all y h in subst (IsOpenChainIn shards Scope) r.2 (chain r.0 r.1).0,
        omega (arith, more, length-map all (shards_at P)),
      )

  joinable : (chain : List Shard) → IsOpenChainIn shards Scope chain → length chain ≡ m → IsJoinable chain
  joinable [] of long = absurd of
  joinable (s ∷ rest) of long =
      let here : IsAt m n g.bits x s = record { need = of.1.0.0; count = of.1.0.1; bits_are = is.blurred s of.0.0.0; point = of.1.1 } in
      let some = is.some in
      let few = is.few in
      let small = is.small in
      record {
        some = omega arith;
        few = omega (arith, long, few, small);
        whole = long ∙ sym of.1.0.0;
        points = subst ArePoints (sym (run_points shards m n g.bits x s rest here of.0.1)) (points_are n x (suc (length rest)) is.first is.last (omega (arith, long, few)) small);
        holdable = λ t there. is.holdable t (all_in (IsIn shards) (s ∷ rest) t of.0.0 there);
      }

  one_less : suc (m - 1) ≡ m
  one_less = let some = is.some in omega (arith, some)

  -- the chains of m lead to shards that may be joined
  pub all_joinable : (chains : List (List ℕ)) → IsListed (IsPath g.bits g.levels.items (length g.levels.items - 1)) chains → AreJoinable P chains
  all_joinable chains listed path there =
      let r = path_open (m - 1) path (subst (λ k. IsPath g.bits g.levels.items (k - 1) path) levels_long ((listed.each path).0 there)) (omega (arith, one_less)) in
      (r.1, joinable (shards_at P path) r.0 (r.2 ∙ one_less))

  need_is : (chain : List Shard) → IsOpenChainIn shards Scope chain → need_of chain ≡ m
  need_is [] of = absurd of
  need_is (s ∷ rest) of = of.1.0.0

  -- what they give is what is found
  pub found_is : (chains : List (List ℕ)) → IsListed (IsPath g.bits g.levels.items (length g.levels.items - 1)) chains
      → (c : List ℕ) → IsGivenAmong P chains c ↔ IsOpenlyFound shards Scope c
  found_is chains listed c = (
    λ w.
        let r = path_open (m - 1) w.0 (subst (λ k. IsPath g.bits g.levels.items (k - 1) w.0) levels_long ((listed.each w.0).0 w.1)) (omega (arith, one_less)) in
        (shards_at P w.0, r.0, r.2 ∙ (one_less ∙ sym (need_is (shards_at P w.0) r.0)), w.2),
    λ w.
        let r = open_path w.0 w.1 in
        let path : IsPath g.bits g.levels.items (length g.levels.items - 1) r.0 =
        subst (λ k. IsPath g.bits g.levels.items k r.0) (omega (arith, r.5, w.2, need_is w.0 w.1, levels_long)) r.3 in
        (r.0, (listed.each r.0).1 path, subst (λ chain. ClosesRing chain c) (sym r.4) w.3),
  )

  -- what was searched from here on
  pub window_searched : (before now : ℕ) (old new : List (List ℕ)) (chains : List (List ℕ)) → IsListed (IsPath g.bits g.levels.items (length g.levels.items - 1)) chains
      → HasGrown (IsPathBelow g.bits g.levels.items (length g.levels.items)) before now
      → ((c : List ℕ) → IsIn new c ↔ (IsIn old c ⊎ IsGivenAmong P chains c))
      → HasSearchedOpen shards Scope before now old new
  window_searched before now old new chains listed grown given = record {
    chains = grown_is before now grown;
    found = λ c. let same = found_is chains listed c in (
      λ h. elim ((given c).0 h) [ inl there ↦ inl there | inr w ↦ inr (same.0 w) ],
      λ h. elim h [ inl there ↦ (given c).1 (inl there) | inr w ↦ (given c).1 (inr (same.1 w)) ],
    );
  }

-- one more chain
pub among_more : (parts : List (List Shard)) (chains : List (List ℕ)) (i : ℕ) (d : List ℕ) (old found new : List (List ℕ)) → i < length chains
    → ((c : List ℕ) → IsIn found c ↔ (IsIn old c ⊎ IsGivenAmong parts (take i chains) c))
    → ((c : List ℕ) → IsIn new c ↔ (IsIn found c ⊎ ClosesRing (shards_at parts (get_or chains i d)) c))
    → (c : List ℕ) → IsIn new c ↔ (IsIn old c ⊎ IsGivenAmong parts (take (i + 1) chains) c)
among_more parts chains i d old found new inside before step c =
    subst (λ k. IsIn new c ↔ (IsIn old c ⊎ IsGivenAmong parts (take k chains) c)) (sym (add-one i)) (
      λ h. elim ((step c).0 h) [
        | inl was ↦ elim ((before c).0 was) [ inl first ↦ inl first | inr w ↦ inr (w.0, (in_take_more i chains d w.0 inside).1 (inl w.1), w.2) ]
        | inr closes ↦ inr (get_or chains i d, (in_take_more i chains d (get_or chains i d) inside).1 (inr refl), closes)
      ],
      λ h. elim h [
        | inl first ↦ (step c).1 (inl ((before c).1 (inl first)))
        | inr w ↦ elim ((in_take_more i chains d w.0 inside).0 w.1) [
          | inl front ↦ (step c).1 (inl ((before c).1 (inr (w.0, front, w.2))))
          | inr at ↦ (step c).1 (inr (subst (λ p. ClosesRing (shards_at parts p) c) (sym at) w.2))
        ]
      ],
    )

pub among_none : (parts : List (List Shard)) (chains old : List (List ℕ)) (c : List ℕ)
    → IsIn old c ↔ (IsIn old c ⊎ IsGivenAmong parts (take 0 chains) c)
among_none parts chains old c = (λ h. inl h, λ h. elim h [ inl there ↦ there | inr w ↦ absurd w.1 ])

-- LOOPS

module _ (shards : List Shard) where
  -- nothing begins so
  searched_none : (S : Shard → Type 0) (count : ℕ) (found : List (List ℕ)) → ((s : Shard) → IsIn shards s → ¬ S s) → HasSearchedOpen shards S count count found found
  searched_none S count found none = record {
    chains = ([], record { each = λ c. (λ h. absurd h, λ h. no_chain c h); once = tt }, omega arith);
    found = λ c. (λ h. inl h, λ h. elim h [ inl there ↦ there | inr w ↦ absurd (no_chain w.0 w.1) ]);
  }
    where
      no_chain : (c : List Shard) → ¬ IsOpenChainIn shards S c
      no_chain [] h = h
      no_chain (s ∷ rest) h = none s h.0.0.0 h.1

  chain_same : (S T : Shard → Type 0) → ((s : Shard) → IsIn shards s → S s → T s) → (c : List Shard) → IsOpenChainIn shards S c → IsOpenChainIn shards T c
  chain_same S T same [] h = h
  chain_same S T same (s ∷ rest) h = (h.0, same s h.0.0.0 h.1)

  not_both : (S T : Shard → Type 0) → ((s : Shard) → S s → ¬ T s) → (c : List Shard) → IsOpenChainIn shards S c → ¬ IsOpenChainIn shards T c
  not_both S T apart [] a b = a
  not_both S T apart (s ∷ rest) a b = apart s a.1 b.1

  -- the same beginnings, said otherwise
  pub searched_same : (S T : Shard → Type 0) (a b : ℕ) (f g : List (List ℕ)) → ((s : Shard) → IsIn shards s → S s ↔ T s)
      → HasSearchedOpen shards S a b f g → HasSearchedOpen shards T a b f g
  searched_same S T a b f g same p =
      let to = chain_same S T (λ s h. (same s h).0) in
      let from = chain_same T S (λ s h. (same s h).1) in
      record {
        chains = (p.chains.0, listed_same (IsOpenChainIn shards S) (IsOpenChainIn shards T) p.chains.0 (λ c. (to c, from c)) p.chains.1, p.chains.2);
        found = λ x. (
          λ there. elim ((p.found x).0 there) [ inl old ↦ inl old | inr w ↦ inr (w.0, to w.0 w.1, w.2, w.3) ],
          λ h. elim h [ inl old ↦ (p.found x).1 (inl old) | inr w ↦ (p.found x).1 (inr (w.0, from w.0 w.1, w.2, w.3)) ],
        );
      }

  -- A loop over a number that shards have, as m, n or the point.
  module _ (B : Shard → Type 0) (key : Shard → ℕ) where
    abbrev pub Below : ℕ → Shard → Type 0
    Below k s = B s × (key s < k)

    abbrev pub At : ℕ → Shard → Type 0
    At k s = B s × (key s ≡ k)

    pub loop_begin : (k a : ℕ) (f : List (List ℕ)) → ((s : Shard) → IsIn shards s → B s → k ≤ key s) → HasSearchedOpen shards (Below k) a a f f
    loop_begin k a f low = searched_none (Below k) a f (λ s there w. let le = low s there w.0 in omega (arith, le, w.1))

    either : (k : ℕ) (s : Shard) → Below (k + 1) s → Below k s ⊎ At k s
    either k s w = elim (cases_lt (key s) k) [ inl less ↦ inl (w.0, less) | inr more ↦ inr (w.0, omega (arith, w.1, more)) ]

    later : (k : ℕ) (s : Shard) → Below k s → Below (k + 1) s
    later k s w = (w.0, omega (arith, w.1))

    last : (k : ℕ) (s : Shard) → At k s → Below (k + 1) s
    last k s w = (w.0, omega (arith, w.1))

    apart : (k : ℕ) (s : Shard) → Below k s → ¬ At k s
    apart k s w v = omega (arith, w.1, v.1)

    in_either : (k : ℕ) (c : List Shard) → IsOpenChainIn shards (Below (k + 1)) c → IsOpenChainIn shards (Below k) c ⊎ IsOpenChainIn shards (At k) c
    in_either k [] h = absurd h
    in_either k (s ∷ rest) h = elim (either k s h.1) [ inl w ↦ inl (h.0, w) | inr w ↦ inr (h.0, w) ]

    to_later : (k : ℕ) (c : List Shard) → IsOpenChainIn shards (Below k) c → IsOpenChainIn shards (Below (k + 1)) c
    to_later k = chain_same (Below k) (Below (k + 1)) (λ s i w. later k s w)

    to_last : (k : ℕ) (c : List Shard) → IsOpenChainIn shards (At k) c → IsOpenChainIn shards (Below (k + 1)) c
    to_last k = chain_same (At k) (Below (k + 1)) (λ s i w. last k s w)

    -- one search after another
    pub loop_more : (k a b c : ℕ) (f g h : List (List ℕ)) → HasSearchedOpen shards (Below k) a b f g → HasSearchedOpen shards (At k) b c g h
        → HasSearchedOpen shards (Below (k + 1)) a c f h
    loop_more k a b c f g h p q = record {
      chains = (
        p.chains.0 ++ q.chains.0,
        listed_same (λ x. IsOpenChainIn shards (Below k) x ⊎ IsOpenChainIn shards (At k) x) (IsOpenChainIn shards (Below (k + 1))) (p.chains.0 ++ q.chains.0)
            (λ x. (λ w. elim w [ inl u ↦ to_later k x u | inr u ↦ to_last k x u ], in_either k x))
            (listed_append (IsOpenChainIn shards (Below k)) (IsOpenChainIn shards (At k)) p.chains.0 q.chains.0 p.chains.1 q.chains.1 (not_both (Below k) (At k) (apart k))),
        omega (arith, p.chains.2, q.chains.2, length-append p.chains.0 q.chains.0),
      );
      found = λ x. (
        λ there. elim ((q.found x).0 there) [
          | inl before ↦ elim ((p.found x).0 before) [ inl first ↦ inl first | inr w ↦ inr (w.0, to_later k w.0 w.1, w.2, w.3) ]
          | inr w ↦ inr (w.0, to_last k w.0 w.1, w.2, w.3)
        ],
        λ w. elim w [
          | inl first ↦ (q.found x).1 (inl ((p.found x).1 (inl first)))
          | inr v ↦ elim (in_either k v.0 v.1) [
            | inl one ↦ (q.found x).1 (inl ((p.found x).1 (inr (v.0, one, v.2, v.3))))
            | inr two ↦ (q.found x).1 (inr (v.0, two, v.2, v.3))
          ]
        ],
      );
    }

    pub loop_end : (k a b : ℕ) (f g : List (List ℕ)) → ((s : Shard) → IsIn shards s → B s → key s < k) → HasSearchedOpen shards (Below k) a b f g → HasSearchedOpen shards B a b f g
    loop_end k a b f g high p = searched_same (Below k) B a b f g (λ s there. (λ w. w.0, λ w. (w, high s there w))) p

    -- too many are too many of all
    pub loop_above : (k limit a b : ℕ) (f g : List (List ℕ)) → HasSearchedOpen shards (Below k) a b f g → AreAbove (IsOpenChainIn shards (At k)) limit b → AreAbove (IsOpenChainIn shards B) limit a
    loop_above k limit a b f g p q = (
      p.chains.0 ++ q.0,
      once_append p.chains.0 q.0 p.chains.1.once q.1 (λ x h i. not_both (Below k) (At k) (apart k) x ((p.chains.1.each x).0 h) (q.2 x i)),
      λ x h. elim (in_append p.chains.0 q.0 x h) [
        | inl i ↦ chain_same (Below k) B (λ s t w. w.0) x ((p.chains.1.each x).0 i)
        | inr i ↦ chain_same (At k) B (λ s t w. w.0) x (q.2 x i)
      ],
      omega (arith, p.chains.2, q.3, length-append p.chains.0 q.0),
    )

  pub above_same : (S T : Shard → Type 0) (limit a : ℕ) → ((s : Shard) → S s → T s) → AreAbove (IsOpenChainIn shards S) limit a → AreAbove (IsOpenChainIn shards T) limit a
  above_same S T limit a same (xs, once, each, more) = (xs, once, λ x h. chain_same S T (λ s i w. same s w) x (each x h), more)

-- THE PARTS OF A WINDOW

window_listed : (bits m n x k : ℕ) (held : List Held) → IsOnce (map (shard_of bits) held)
    → AreWindow (map (shard_of bits) held) m n bits x (map (λ y. map (shard_of bits) (part_of m n held y)) (points_from n x k))
window_listed bits m n x zero held once = tt
window_listed bits m n x (suc k) held once = (part_listed bits m n x held once, window_listed bits m n (after n x) k held once)

-- the parts without where their shares lie
without_places : (bits m n : ℕ) (held : List Held) (parts : List (Bor (List Held))) (points : List ℕ) → map now_of parts ≡ map (part_of m n held) points
    → parts_of bits parts ≡ map (λ y. map (shard_of bits) (part_of m n held y)) points
without_places bits m n held parts points e = fused parts ∙ (ap (map (map (shard_of bits))) e ∙ again points)
  where
    fused : (ps : List (Bor (List Held))) → parts_of bits ps ≡ map (map (shard_of bits)) (map now_of ps)
    fused [] = refl
    fused (p ∷ ps) = ap (λ l. map (shard_of bits) p.now ∷ l) (fused ps)

    again : (xs : List ℕ) → map (map (shard_of bits)) (map (part_of m n held) xs) ≡ map (λ y. map (shard_of bits) (part_of m n held y)) xs
    again [] = refl
    again (x ∷ xs) = ap (λ l. map (shard_of bits) (part_of m n held x) ∷ l) (again xs)

pub window_short : (m n : ℕ) (held : List Held) (parts : List (Bor (List Held))) (points : List ℕ) → map now_of parts ≡ map (part_of m n held) points
    → length held < 2 ^ 32 → (part : Bor (List Held)) → IsIn parts part → length part.now < 2 ^ 32
window_short m n held parts points e short part there =
    let r = from_map (part_of m n held) points part.now (subst (λ l. IsIn l part.now) e (in_map now_of parts part there)) in
    let le = length-filter_le (stands_at (m ∷ n ∷ r.0 ∷ [])) held in
    omega (arith, le, ap length r.2, short)

-- the window of m points from x on among some shards
pub window_is : (bits m n x : ℕ) (held : List Held) (g : Group) → map now_of g.parts.items ≡ map (part_of m n held) (points_from n x m)
    → AreLevelsOf (parts_of bits g.parts.items) g.levels.items → IsOnce (map (shard_of bits) held)
    → ((s : Shard) → IsIn (map (shard_of bits) held) s → IsHoldable s) → 1 ≤ m → m ≤ n → n ≤ 16 → 1 ≤ x → x ≤ n → g.bits ≡ bits
    → IsWindow (map (shard_of bits) held) m n x g
window_is bits m n x held g parts levels once holdable some few small first last e =
    let P = without_places bits m n held g.parts.items (points_from n x m) parts in
    record {
      some = some;
      few = few;
      small = small;
      first = first;
      last = last;
      counted = ap (λ b. length (parts_of b g.parts.items)) e ∙ (ap length P
          ∙ (length-map (points_from n x m) (λ y. map (shard_of bits) (part_of m n held y)) ∙ length-points n x m));
      parts = subst (λ b. AreWindow (map (shard_of bits) held) m n b x (parts_of b g.parts.items)) (sym e)
          (subst (AreWindow (map (shard_of bits) held) m n bits x) (sym P) (window_listed bits m n x m held once));
      levels = subst (λ b. AreLevelsOf (parts_of b g.parts.items) g.levels.items) (sym e) levels;
      holdable = holdable;
      blurred = λ s there. let r = from_map (shard_of bits) held s there in ap (λ (t : Shard). t.blur) (sym r.2) ∙ sym e;
    }

-- one part more
pub part_more : (m n x left : ℕ) (held : List Held) (parts : List (List Held)) (part : List Held) (all : List (List Held)) → part ≡ part_of m n held x
    → parts ++ map (part_of m n held) (points_from n x (suc left)) ≡ all
    → (parts ++ part ∷ []) ++ map (part_of m n held) (points_from n (after n x) left) ≡ all
part_more m n x left held parts part all is before =
    append_assoc parts (part ∷ []) (map (part_of m n held) (points_from n (after n x) left))
    ∙ (ap (λ p. parts ++ p ∷ map (part_of m n held) (points_from n (after n x) left)) is ∙ before)
