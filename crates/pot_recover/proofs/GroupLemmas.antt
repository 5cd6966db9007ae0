-- The chains of positions are the chains of shards.
use Rattle.std.proofs.Common.{◌≡◌, inl, inr, ℕ, zero, suc, ◌+◌, ◌<◌, ◌≤◌, List, [], ◌∷◌, map, length, Some, get_or, refl, sym, ap, ◌∙◌, subst, arith}
use Rattle.std.specs.Prelude.{slice_get}
use Rattle.std.proofs.lemmas.List.{length-map, get_or_default}
use Rattle.std.proofs.lemmas.Option.{slice_get_within, slice_get-get_or, get_or_from_slice_get}
use Rattle.pot_chains.specs.Levels.{IsPathFrom, IsPath, IsPathBelow}
use Rattle.pot_chains.specs.Listed.{IsIn, IsOnce, IsListed}
use Rattle.pot_chains.specs.Paths.{AreLinked, AreAll}
use Rattle.pot_chains.specs.Steps.{IsPointedAt}
use Rattle.pot_chains.specs.declared.levels.Level.{Level}
use Rattle.pot_chains.proofs.ListedLemmas.{listed_map_on, listed_same, contains_from_in, in_get_or}
use Rattle.pot_pointer.specs.Pointers.{blur}
use Rattle.pot_shard.specs.LinkedRings.{IsLinked}
use Rattle.pot_shard.specs.declared.shard.Shard.{Shard}
use Rattle.pot_recover.specs.Groups.{IsAt, AreParts, IsLevelOf, AreLevelsOf, no_shard, shards_at, AreInside, IsChainOf}
use Rattle.pot_recover.specs.LongScopes.{IsLongChainOf}

pub get_or-mapped : {X Y : Type 0} (f : X → Y) (xs : List X) (i : ℕ) (d : X) (e : Y) → i < length xs → get_or (map f xs) i e ≡ f (get_or xs i d)
get_or-mapped f [] i d e h = absurd (omega arith)
get_or-mapped f (x ∷ xs) zero d e h = refl
get_or-mapped f (x ∷ xs) (suc i) d e h = get_or-mapped f xs i d e (omega arith)

-- in a list without repetition a place is told by what stands there
pub index_same : {X : Type 0} (xs : List X) (d : X) (i j : ℕ) → IsOnce xs → i < length xs → j < length xs → get_or xs i d ≡ get_or xs j d → i ≡ j
index_same [] d i j once h k e = absurd (omega arith)
index_same (x ∷ xs) d zero zero once h k e = refl
index_same (x ∷ xs) d zero (suc j) once h k e = absurd (once.0 (subst (IsIn xs) (sym e) (in_get_or j xs d (omega arith))))
index_same (x ∷ xs) d (suc i) zero once h k e = absurd (once.0 (subst (IsIn xs) e (in_get_or i xs d (omega arith))))
index_same (x ∷ xs) d (suc i) (suc j) once h k e = ap suc (index_same xs d i j once.1 (omega arith) (omega arith) e)

module _ (shards : List Shard) (m n bits : ℕ) where
  -- a chain from the point x on
  abbrev pub IsRun : ℕ → List Shard → Type 0
  IsRun x [] = ⊥
  IsRun x (s ∷ rest) = IsAt m n bits x s × AreAll (IsIn shards) (s ∷ rest) × AreLinked IsLinked s rest

  abbrev Part : ℕ → Shard → Type 0
  Part x s = IsIn shards s × IsAt m n bits x s

  pub at : (x : ℕ) (part : List Shard) (p : ℕ) → IsListed (Part x) part → p < length part → Part x (get_or part p no_shard)
  at x part p is inside = (is.each (get_or part p no_shard)).0 (in_get_or p part no_shard inside)

  -- what the pointer of a level means stands in the next part, under its name
  pub meant_inside : (part next : List Shard) (a b : Level) (p q : ℕ) → IsLevelOf next b → IsPointedAt a.pointers.items b.index bits p q → q < length next
  meant_inside part next a b p q is meant =
      let within = slice_get_within b.index q meant.0 meant.1 in omega (arith, within, ap length is.names, length-map next (λ (s : Shard). s.name))

  pub meant_name : (part next : List Shard) (a b : Level) (p q : ℕ) → IsLevelOf part a → IsLevelOf next b → p < length part → IsPointedAt a.pointers.items b.index bits p q
      → blur (get_or next q no_shard).name bits ≡ (get_or part p no_shard).pointer
  meant_name part next a b p q is_a is_b inside meant =
      let inside_next = meant_inside part next a b p q is_b meant in
      let name : (get_or next q no_shard).name ≡ meant.0 =
      sym (get_or-mapped (λ (s : Shard). s.name) next q no_shard 0 inside_next)
      ∙ (ap (λ l. get_or l q 0) (sym is_b.names) ∙ get_or_from_slice_get b.index q meant.0 0 meant.1) in
      ap (λ k. blur k bits) name ∙ (meant.2 ∙ (ap (λ l. get_or l p 0) is_a.pointers ∙ get_or-mapped (λ (s : Shard). s.pointer) part p no_shard 0 inside))

  link : (x : ℕ) (s t : Shard) → x < n → IsAt m n bits x s → IsAt m n bits (suc x) t → blur t.name bits ≡ s.pointer → IsLinked s t
  link x s t less a b e = record {
    needed = b.need ∙ sym a.need;
    count = b.count ∙ sym a.count;
    bits = b.bits_are ∙ sym a.bits_are;
    next = inl (omega (arith, less, a.point, a.count), omega (arith, a.point, b.point));
    pointer = sym (ap (blur t.name) b.bits_are ∙ e);
  }

  to_run : (x : ℕ) (part : List Shard) (parts : List (List Shard)) (a : Level) (levels : List Level) (p : ℕ) (ps : List ℕ)
      → AreParts shards m n bits x (part ∷ parts) → AreLevelsOf (part ∷ parts) (a ∷ levels) → x + length parts ≤ n → p < length part
      → IsPathFrom bits (a ∷ levels) p ps
      → IsRun x (shards_at (part ∷ parts) (p ∷ ps)) × AreInside (part ∷ parts) (p ∷ ps) × (length (shards_at parts ps) ≡ length ps)
  to_run x part parts a levels p [] are are_levels few inside path =
      let s = at x part p are.0 inside in ((s.1, (s.0, tt), tt), (inside, tt), refl)
  to_run x part [] a [] p (q ∷ qs) are are_levels few inside path = absurd path
  to_run x part [] a (b ∷ levels) p (q ∷ qs) are are_levels few inside path = absurd are_levels.1
  to_run x part (next ∷ parts) a [] p (q ∷ qs) are are_levels few inside path = absurd are_levels.1
  to_run x part (next ∷ parts) a (b ∷ levels) p (q ∷ qs) are are_levels few inside path =
      let s = at x part p are.0 inside in
      let r = to_run (suc x) next parts b levels q qs are.1 are_levels.1 (omega (arith, few)) (meant_inside part next a b p q are_levels.1.0 path.0) path.1 in (
        (
          s.1,
          (s.0, r.0.1),
          (
            link x (get_or part p no_shard) (get_or next q no_shard) (omega (arith, few)) s.1 r.0.0
                (meant_name part next a b p q are_levels.0 are_levels.1.0 inside path.0),
            r.0.2,
          ),
        ),
        (inside, r.1),
        ap suc r.2,
      )

  -- a shard of a part stands there at a position
  pub placed : (x : ℕ) (part : List Shard) (s : Shard) → IsListed (Part x) part → Part x s → (p : ℕ) × (p < length part) × (get_or part p no_shard ≡ s)
  placed x part s is h = let r = contains_from_in part s ((is.each s).1 h) in (r.0, r.1, get_or_default part r.0 no_shard s r.1 ∙ r.2)

  -- a linked shard stands at the next point
  next_at : (x : ℕ) (s t : Shard) → x < n → IsAt m n bits x s → IsLinked s t → IsAt m n bits (suc x) t
  next_at x s t less a l =
      elim l.next [
        | inl on ↦ record { need = l.needed ∙ a.need; count = l.count ∙ a.count; bits_are = l.bits ∙ a.bits_are; point = omega (arith, on.1, a.point) }
        | inr turned ↦ absurd (omega (arith, turned.0, a.point, a.count, less))
      ]

  from_run : (x : ℕ) (part : List Shard) (parts : List (List Shard)) (a : Level) (levels : List Level) (s : Shard) (rest : List Shard)
      → AreParts shards m n bits x (part ∷ parts) → AreLevelsOf (part ∷ parts) (a ∷ levels) → x + length parts ≤ n → length rest ≤ length parts
      → IsRun x (s ∷ rest)
      → (p : ℕ) × (ps : List ℕ) × (p < length part) × IsPathFrom bits (a ∷ levels) p ps × (shards_at (part ∷ parts) (p ∷ ps) ≡ s ∷ rest) × (length ps ≡ length rest)
  from_run x part parts a levels s [] are are_levels few short run =
      let r = placed x part s are.0 (run.1.0, run.0) in (r.0, [], r.1, tt, ap (λ t. t ∷ []) r.2, refl)
  from_run x part [] a levels s (t ∷ rest) are are_levels few short run = absurd (omega arith)
  from_run x part (next ∷ parts) a [] s (t ∷ rest) are are_levels few short run = absurd are_levels.1
  from_run x part (next ∷ parts) a (b ∷ levels) s (t ∷ rest) are are_levels few short run =
      let r = placed x part s are.0 (run.1.0, run.0) in
      let on = next_at x s t (omega (arith, few)) run.0 run.2.0 in
      let w = from_run (suc x) next parts b levels t rest are.1 are_levels.1 (omega (arith, few)) (omega arith) (on, run.1.1, run.2.1) in
      let first : get_or next w.0 no_shard ≡ t = head_is (get_or next w.0 no_shard) t (shards_at parts w.1) rest w.4 in
      let named : slice_get b.index w.0 ≡ Some t.name =
      ap (λ l. slice_get l w.0) are_levels.1.0.names
      ∙ (slice_get-get_or (map (λ (u : Shard). u.name) next) w.0 0 (omega (arith, w.2, length-map next (λ (u : Shard). u.name)))
      ∙ ap Some (get_or-mapped (λ (u : Shard). u.name) next w.0 no_shard 0 w.2 ∙ ap (λ (u : Shard). u.name) first)) in
      let pointer : blur t.name bits ≡ get_or a.pointers.items r.0 0 =
      sym (ap (λ l. get_or l r.0 0) are_levels.0.pointers ∙ (get_or-mapped (λ (u : Shard). u.pointer) part r.0 no_shard 0 r.1
      ∙ (ap (λ (u : Shard). u.pointer) r.2 ∙ (run.2.0.pointer ∙ ap (blur t.name) on.bits_are)))) in
      (r.0, w.0 ∷ w.1, r.1, ((t.name, named, pointer), w.3), both (get_or part r.0 no_shard) s (shards_at (next ∷ parts) (w.0 ∷ w.1)) (t ∷ rest) r.2 w.4, ap suc w.5)
    where
      head_is : (a b : Shard) (xs ys : List Shard) → a ∷ xs ≡ b ∷ ys → a ≡ b
      head_is a b xs ys e = cc

      both : (a b : Shard) (xs ys : List Shard) → a ≡ b → xs ≡ ys → a ∷ xs ≡ b ∷ ys
      both a b xs ys e f = cc

  -- positions inside are told by their shards
  pub positions_same : (x : ℕ) (parts : List (List Shard)) (ps qs : List ℕ) → AreParts shards m n bits x parts → AreInside parts ps → AreInside parts qs
      → shards_at parts ps ≡ shards_at parts qs → ps ≡ qs
  positions_same x parts [] [] are a b e = refl
  positions_same x [] [] (q ∷ qs) are a b e = absurd b
  positions_same x (part ∷ parts) [] (q ∷ qs) are a b e = absurd (cc)
  positions_same x [] (p ∷ ps) qs are a b e = absurd a
  positions_same x (part ∷ parts) (p ∷ ps) [] are a b e = absurd (cc)
  positions_same x (part ∷ parts) (p ∷ ps) (q ∷ qs) are a b e =
      let first : get_or part p no_shard ≡ get_or part q no_shard = cc in
      let others : shards_at parts ps ≡ shards_at parts qs = cc in
      let here : p ≡ q = index_same part no_shard p q are.0.once a.0 b.0 first in
      let there : ps ≡ qs = positions_same (suc x) parts ps qs are.1 a.1 b.1 others in
      cc

  module _ (parts : List (List Shard)) (levels : List Level) (are : AreParts shards m n bits 1 parts) (are_levels : AreLevelsOf parts levels)
      (whole : length parts ≡ m) (few : m ≤ n) (blurred : (s : Shard) → IsIn shards s → s.blur ≡ bits) where
    pub path_chain : (k : ℕ) (c : List ℕ) → IsPath bits levels k c → k < m
        → IsChainOf shards m n (shards_at parts c) × AreInside parts c × (length (shards_at parts c) ≡ suc k)
    path_chain k c path less = by parts levels c are are_levels whole path
      where
        by : (parts : List (List Shard)) (levels : List Level) (c : List ℕ) → AreParts shards m n bits 1 parts → AreLevelsOf parts levels → length parts ≡ m
            → IsPath bits levels k c → IsChainOf shards m n (shards_at parts c) × AreInside parts c × (length (shards_at parts c) ≡ suc k)
        by parts levels [] are are_levels whole path = absurd path
        by parts [] (p ∷ ps) are are_levels whole path = absurd path
        by [] (a ∷ levels) (p ∷ ps) are are_levels whole path = absurd are_levels
        by (part ∷ parts) (a ∷ levels) (p ∷ ps) are are_levels whole path =
            let inside : p < length part = omega (arith, path.0, ap length are_levels.0.pointers, length-map part (λ (s : Shard). s.pointer)) in
            let r = to_run 1 part parts a levels p ps are are_levels (omega (arith, whole, few)) inside path.2 in (
              (
                (r.0.0.point, r.0.1, r.0.2, omega (arith, r.2, path.1, less, r.0.0.need)),
                r.0.0.need,
                r.0.0.count,
              ),
              r.1,
              ap suc (r.2 ∙ path.1),
            )

    pub chain_path : (chain : List Shard) → IsChainOf shards m n chain → (c : List ℕ) × (k : ℕ) × (k < m) × IsPath bits levels k c × (shards_at parts c ≡ chain) × (length chain ≡ suc k)
    chain_path chain is = by parts levels chain are are_levels whole is
      where
        by : (parts : List (List Shard)) (levels : List Level) (chain : List Shard) → AreParts shards m n bits 1 parts → AreLevelsOf parts levels → length parts ≡ m
            → IsChainOf shards m n chain → (c : List ℕ) × (k : ℕ) × (k < m) × IsPath bits levels k c × (shards_at parts c ≡ chain) × (length chain ≡ suc k)
        by parts levels [] are are_levels whole is = absurd is
        by [] levels (s ∷ rest) are are_levels whole is = absurd (omega (arith, whole, is.0.3, is.1))
        by (part ∷ parts) [] (s ∷ rest) are are_levels whole is = absurd are_levels
        by (part ∷ parts) (a ∷ levels) (s ∷ rest) are are_levels whole is =
            let at : IsAt m n bits 1 s = record { need = is.1; count = is.2; bits_are = blurred s is.0.1.0; point = is.0.0 } in
            let r = from_run 1 part parts a levels s rest are are_levels (omega (arith, whole, few)) (omega (arith, whole, is.0.3, is.1)) (at, is.0.1, is.0.2) in (
              r.0 ∷ r.1,
              length rest,
              omega (arith, is.0.3, is.1),
              (omega (arith, r.2, ap length are_levels.0.pointers, length-map part (λ (t : Shard). t.pointer)), r.5, r.3),
              r.4,
              refl,
            )

    -- the chains of shards are those of positions, each once
    pub chains_listed : (all : List (List ℕ)) → IsListed (IsPathBelow bits levels m) all → IsListed (IsChainOf shards m n) (map (shards_at parts) all)
    chains_listed all is =
        listed_same (λ y. (c : List ℕ) × IsPathBelow bits levels m c × (shards_at parts c ≡ y)) (IsChainOf shards m n) (map (shards_at parts) all)
        (λ y. (
          λ w. subst (IsChainOf shards m n) w.2 (path_chain w.1.0 w.0 w.1.2 w.1.1).0,
          λ h. let r = chain_path y h in (r.0, (r.1, r.2, r.3), r.4),
        ))
        (listed_map_on (IsPathBelow bits levels m) (shards_at parts) all is
        (λ a b p q e. positions_same 1 parts a b are (path_chain p.0 a p.2 p.1).1 (path_chain q.0 b q.2 q.1).1 e))

  -- the same for chains of 1 to n
  module _ (parts : List (List Shard)) (levels : List Level) (are : AreParts shards m n bits 1 parts) (are_levels : AreLevelsOf parts levels)
      (whole : length parts ≡ n) (blurred : (s : Shard) → IsIn shards s → s.blur ≡ bits) where
    pub long_path : (k : ℕ) (c : List ℕ) → IsPath bits levels k c → k < n
        → IsLongChainOf shards m n (shards_at parts c) × AreInside parts c × (length (shards_at parts c) ≡ suc k)
    long_path k c path less = by parts levels c are are_levels whole path
      where
        by : (parts : List (List Shard)) (levels : List Level) (c : List ℕ) → AreParts shards m n bits 1 parts → AreLevelsOf parts levels → length parts ≡ n
            → IsPath bits levels k c → IsLongChainOf shards m n (shards_at parts c) × AreInside parts c × (length (shards_at parts c) ≡ suc k)
        by parts levels [] are are_levels whole path = absurd path
        by parts [] (p ∷ ps) are are_levels whole path = absurd path
        by [] (a ∷ levels) (p ∷ ps) are are_levels whole path = absurd are_levels
        by (part ∷ parts) (a ∷ levels) (p ∷ ps) are are_levels whole path =
            let inside : p < length part = omega (arith, path.0, ap length are_levels.0.pointers, length-map part (λ (s : Shard). s.pointer)) in
            let r = to_run 1 part parts a levels p ps are are_levels (omega (arith, whole)) inside path.2 in (
              (
                (r.0.0.point, r.0.1, r.0.2, omega (arith, r.2, path.1, less, r.0.0.count)),
                r.0.0.need,
                r.0.0.count,
              ),
              r.1,
              ap suc (r.2 ∙ path.1),
            )

    pub path_of_long : (chain : List Shard) → IsLongChainOf shards m n chain → (c : List ℕ) × (k : ℕ) × (k < n) × IsPath bits levels k c × (shards_at parts c ≡ chain) × (length chain ≡ suc k)
    path_of_long chain is = by parts levels chain are are_levels whole is
      where
        by : (parts : List (List Shard)) (levels : List Level) (chain : List Shard) → AreParts shards m n bits 1 parts → AreLevelsOf parts levels → length parts ≡ n
            → IsLongChainOf shards m n chain → (c : List ℕ) × (k : ℕ) × (k < n) × IsPath bits levels k c × (shards_at parts c ≡ chain) × (length chain ≡ suc k)
        by parts levels [] are are_levels whole is = absurd is
        by [] levels (s ∷ rest) are are_levels whole is = absurd (omega (arith, whole, is.0.3, is.2))
        by (part ∷ parts) [] (s ∷ rest) are are_levels whole is = absurd are_levels
        by (part ∷ parts) (a ∷ levels) (s ∷ rest) are are_levels whole is =
            let at : IsAt m n bits 1 s = record { need = is.1; count = is.2; bits_are = blurred s is.0.1.0; point = is.0.0 } in
            let r = from_run 1 part parts a levels s rest are are_levels (omega (arith, whole)) (omega (arith, whole, is.0.3, is.2)) (at, is.0.1, is.0.2) in (
              r.0 ∷ r.1,
              length rest,
              omega (arith, is.0.3, is.2),
              (omega (arith, r.2, ap length are_levels.0.pointers, length-map part (λ (t : Shard). t.pointer)), r.5, r.3),
              r.4,
              refl,
            )

    -- the chains of shards are those of positions, each once
    pub long_listed : (all : List (List ℕ)) → IsListed (IsPathBelow bits levels n) all → IsListed (IsLongChainOf shards m n) (map (shards_at parts) all)
    long_listed all is =
        listed_same (λ y. (c : List ℕ) × IsPathBelow bits levels n c × (shards_at parts c ≡ y)) (IsLongChainOf shards m n) (map (shards_at parts) all)
        (λ y. (
          λ w. subst (IsLongChainOf shards m n) w.2 (long_path w.1.0 w.0 w.1.2 w.1.1).0,
          λ h. let r = path_of_long y h in (r.0, (r.1, r.2, r.3), r.4),
        ))
        (listed_map_on (IsPathBelow bits levels n) (shards_at parts) all is
        (λ a b p q e. positions_same 1 parts a b are (long_path p.0 a p.2 p.1).1 (long_path q.0 b q.2 q.1).1 e))
