-- What was searched, m and n by m and n.
use Rattle.std.proofs.Common.{◌≡◌, ◌↔◌, ◌⊎◌, inl, inr, ℕ, zero, suc, ◌+◌, ◌-◌, ◌<◌, ◌≤◌, List, [], ◌∷◌, ◌++◌, map, length, take, get_or, refl, sym, ap, ◌∙◌, subst, arith, length-append, add-one, Ok, Err}
use Rattle.std.specs.Prelude.{⊤, OnOk, Result}
use Rattle.std.proofs.lemmas.Bool.{cases_lt}
use Rattle.std.proofs.lemmas.List.{length-take-le, length-map}
use Rattle.pot_chains.specs.Levels.{IsPath, IsPathBelow, AreLevels}
use Rattle.pot_chains.specs.Listed.{IsIn, IsListed, AreAbove, HasGrown}
use Rattle.pot_chains.specs.Paths.{last_of, AreLinked, AreAll, IsReached}
use Rattle.pot_chains.proofs.ListedLemmas.{listed_append, listed_same, once_append, in_append, in_take_more, from_map, once_map_on}
use Rattle.pot_shard.specs.LinkedRings.{IsLinked}
use Rattle.pot_shard.specs.declared.shard.Shard.{Shard}
use Rattle.pot_recover.specs.Groups.{AreParts, AreLevelsOf, parts_of, shards_in, shards_at, AreInside, IsGroup, IsHoldable, IsChainOf, IsWholeChain}
use Rattle.pot_recover.specs.HeldShards.{shard_of}
use Rattle.pot_recover.specs.Rings.{need_of}
use Rattle.pot_recover.specs.Scopes.{IsChainIn, IsFoundOf, IsFoundAmong, HasSearched}
use Rattle.pot_recover.specs.Sets.{FitsChain, ClosesWith}
use Rattle.pot_recover.specs.declared.group.Group.{Group}
use Rattle.pot_recover.proofs.GroupLemmas.{path_chain, chain_path, chains_listed, positions_same}
use Rattle.pot_recover.proofs.MemberLemmas.{members_are, levels_front, parts_front, levels_are, length-levels}
use Rattle.pot_recover.proofs.NextLemmas.{front_inside}
use Rattle.pot_recover.proofs.RingLemmas.{all_weaker}

module _ (shards : List Shard) where
  -- nothing of no m and n
  pub searched_none : (scope : ℕ → ℕ → Type 0) (count : ℕ) (found : List (List ℕ)) → ((s : Shard) → IsIn shards s → ¬ scope s.m s.n)
      → HasSearched shards scope count count found found
  searched_none scope count found none = record {
    chains = ([], record { each = λ c. (λ h. absurd h, λ h. no_chain c h); once = tt }, omega arith);
    found = λ c. (λ h. inl h, λ h. elim h [ inl there ↦ there | inr w ↦ absurd (no_chain w.0 w.1) ]);
  }
    where
      no_chain : (c : List Shard) → ¬ IsChainIn shards scope c
      no_chain [] h = h
      no_chain (s ∷ rest) h = none s h.0.1.0 h.1

  in_either : (S T : ℕ → ℕ → Type 0) (c : List Shard) → (IsChainIn shards S c ⊎ IsChainIn shards T c) ↔ IsChainIn shards (λ m n. S m n ⊎ T m n) c
  in_either S T [] = (λ h. elim h [ inl a ↦ a | inr b ↦ b ], λ h. absurd h)
  in_either S T (s ∷ rest) = (
    λ h. elim h [ inl a ↦ (a.0, inl a.1) | inr b ↦ (b.0, inr b.1) ],
    λ h. elim h.1 [ inl a ↦ inl (h.0, a) | inr b ↦ inr (h.0, b) ],
  )

  not_both : (S T : ℕ → ℕ → Type 0) → ((m n : ℕ) → S m n → ¬ T m n) → (c : List Shard) → IsChainIn shards S c → ¬ IsChainIn shards T c
  not_both S T apart [] a b = a
  not_both S T apart (s ∷ rest) a b = apart s.m s.n a.1 b.1

  -- one search after another
  pub searched_more : (S T : ℕ → ℕ → Type 0) (a b c : ℕ) (f g h : List (List ℕ)) → ((m n : ℕ) → S m n → ¬ T m n)
      → HasSearched shards S a b f g → HasSearched shards T b c g h → HasSearched shards (λ m n. S m n ⊎ T m n) a c f h
  searched_more S T a b c f g h apart p q = record {
    chains = (
      p.chains.0 ++ q.chains.0,
      listed_same (λ x. IsChainIn shards S x ⊎ IsChainIn shards T x) (IsChainIn shards (λ m n. S m n ⊎ T m n)) (p.chains.0 ++ q.chains.0) (in_either S T)
          (listed_append (IsChainIn shards S) (IsChainIn shards T) p.chains.0 q.chains.0 p.chains.1 q.chains.1 (not_both S T apart)),
      omega (arith, p.chains.2, q.chains.2, length-append p.chains.0 q.chains.0),
    );
    found = λ x. (
      λ there. elim ((q.found x).0 there) [
        | inl before ↦ elim ((p.found x).0 before) [ inl first ↦ inl first | inr w ↦ inr (w.0, (in_either S T w.0).0 (inl w.1), w.2, w.3) ]
        | inr w ↦ inr (w.0, (in_either S T w.0).0 (inr w.1), w.2, w.3)
      ],
      λ w. elim w [
        | inl first ↦ (q.found x).1 (inl ((p.found x).1 (inl first)))
        | inr v ↦ elim ((in_either S T v.0).1 v.1) [
          | inl one ↦ (q.found x).1 (inl ((p.found x).1 (inr (v.0, one, v.2, v.3))))
          | inr two ↦ (q.found x).1 (inr (v.0, two, v.2, v.3))
        ]
      ],
    );
  }

  chain_same : (S T : ℕ → ℕ → Type 0) → ((s : Shard) → IsIn shards s → S s.m s.n → T s.m s.n) → (c : List Shard) → IsChainIn shards S c → IsChainIn shards T c
  chain_same S T same [] h = h
  chain_same S T same (s ∷ rest) h = (h.0, same s h.0.1.0 h.1)

  -- the same m and n, said otherwise
  pub searched_same : (S T : ℕ → ℕ → Type 0) (a b : ℕ) (f g : List (List ℕ)) → ((s : Shard) → IsIn shards s → S s.m s.n ↔ T s.m s.n)
      → HasSearched shards S a b f g → HasSearched shards T a b f g
  searched_same S T a b f g same p =
      let to = chain_same S T (λ s h. (same s h).0) in
      let from = chain_same T S (λ s h. (same s h).1) in
      record {
        chains = (p.chains.0, listed_same (IsChainIn shards S) (IsChainIn shards T) p.chains.0 (λ c. (to c, from c)) p.chains.1, p.chains.2);
        found = λ x. (
          λ there. elim ((p.found x).0 there) [ inl old ↦ inl old | inr w ↦ inr (w.0, to w.0 w.1, w.2, w.3) ],
          λ h. elim h [ inl old ↦ (p.found x).1 (inl old) | inr w ↦ (p.found x).1 (inr (w.0, from w.0 w.1, w.2, w.3)) ],
        );
      }

  -- too many of some are too many of all
  pub above_more : (S T U : ℕ → ℕ → Type 0) (limit a b : ℕ) (f g : List (List ℕ)) → ((m n : ℕ) → S m n → ¬ T m n)
      → ((m n : ℕ) → S m n → U m n) → ((m n : ℕ) → T m n → U m n)
      → HasSearched shards S a b f g → AreAbove (IsChainIn shards T) limit b → AreAbove (IsChainIn shards U) limit a
  above_more S T U limit a b f g apart left right p q = (
    p.chains.0 ++ q.0,
    once_append p.chains.0 q.0 p.chains.1.once q.1 (λ x h k. not_both S T apart x ((p.chains.1.each x).0 h) (q.2 x k)),
    λ x h. elim (in_append p.chains.0 q.0 x h) [
      | inl k ↦ chain_same S U (λ s i w. left s.m s.n w) x ((p.chains.1.each x).0 k)
      | inr k ↦ chain_same T U (λ s i w. right s.m s.n w) x (q.2 x k)
    ],
    omega (arith, p.chains.2, q.3, length-append p.chains.0 q.0),
  )

-- linked shards have one m and one n
linked_same : (m n : ℕ) (s : Shard) (rest : List Shard) → s.m ≡ m → s.n ≡ n → AreLinked IsLinked s rest → AreAll (λ (t : Shard). (t.m ≡ m) × (t.n ≡ n)) (s ∷ rest)
linked_same m n s [] em en h = ((em, en), tt)
linked_same m n s (t ∷ rest) em en h = ((em, en), linked_same m n t rest (h.0.needed ∙ em) (h.0.count ∙ en) h.1)

all_and : {X : Type 0} (P Q R : X → Type 0) → ((x : X) → P x → Q x → R x) → (xs : List X) → AreAll P xs → AreAll Q xs → AreAll R xs
all_and P Q R f [] a b = tt
all_and P Q R f (x ∷ xs) a b = (f x a.0 b.0, all_and P Q R f xs a.1 b.1)

last_same : (m n : ℕ) (s : Shard) (rest : List Shard) → AreAll (λ (t : Shard). (t.m ≡ m) × (t.n ≡ n)) (s ∷ rest) → ((last_of s rest).m ≡ m) × ((last_of s rest).n ≡ n)
last_same m n s [] h = h.0
last_same m n s (t ∷ rest) h = last_same m n t rest h.1

module _ (shards group : List Shard) (m n : ℕ) (same : (s : Shard) → IsIn group s ↔ (IsIn shards s × (s.m ≡ m) × (s.n ≡ n))) where
  abbrev Scope : ℕ → ℕ → Type 0
  Scope a b = (a ≡ m) × (b ≡ n)

  to_all : (c : List Shard) → IsChainOf group m n c → IsChainIn shards Scope c
  to_all [] h = h
  to_all (s ∷ rest) h = ((h.0.0, all_weaker (IsIn group) (IsIn shards) (λ t i. ((same t).0 i).0) (s ∷ rest) h.0.1, h.0.2, h.0.3), (h.1, h.2))

  to_group : (c : List Shard) → IsChainIn shards Scope c → IsChainOf group m n c
  to_group [] h = h
  to_group (s ∷ rest) h = (
    (
      h.0.0,
      all_and (IsIn shards) (λ (t : Shard). (t.m ≡ m) × (t.n ≡ n)) (IsIn group) (λ t i e. (same t).1 (i, e.0, e.1)) (s ∷ rest) h.0.1
          (linked_same m n s rest h.1.0 h.1.1 h.0.2),
      h.0.2,
      h.0.3,
    ),
    h.1.0,
    h.1.1,
  )

  -- the sets of a group are those of all
  reached_all : (chain : List Shard) (last : Shard) (k : ℕ) (t : Shard) → IsReached IsLinked (FitsChain (IsIn group) chain) last k t → IsReached IsLinked (FitsChain (IsIn shards) chain) last k t
  reached_all chain last zero t h = h
  reached_all chain last (suc k) t (s, before, link, fit) = (s, reached_all chain last k s before, link, (((same t).0 fit.0).0, fit.1))

  reached_group : (chain : List Shard) (last : Shard) (k : ℕ) (t : Shard) → last.m ≡ m → last.n ≡ n → IsReached IsLinked (FitsChain (IsIn shards) chain) last k t
      → IsReached IsLinked (FitsChain (IsIn group) chain) last k t × (t.m ≡ m) × (t.n ≡ n)
  reached_group chain last zero t em en h = (h, ap (λ (x : Shard). x.m) h ∙ em, ap (λ (x : Shard). x.n) h ∙ en)
  reached_group chain last (suc k) t em en (s, before, link, fit) =
      let r = reached_group chain last k s em en before in
      let tm = link.needed ∙ r.1 in
      let tn = link.count ∙ r.2 in
      ((s, r.0, link, ((same t).1 (fit.0, tm, tn), fit.1)), tm, tn)

  closes_all : (c : List Shard) (x : List ℕ) → ClosesWith (IsIn group) c x → ClosesWith (IsIn shards) c x
  closes_all [] x h = h
  closes_all (s ∷ rest) x h = (h.0, h.1, (h.2.0, reached_all (s ∷ rest) (last_of s rest) (s.n - s.m) h.2.0 h.2.1, h.2.2))

  closes_group : (c : List Shard) (x : List ℕ) → IsChainIn shards Scope c → ClosesWith (IsIn shards) c x → ClosesWith (IsIn group) c x
  closes_group [] x is h = h
  closes_group (s ∷ rest) x is h =
      let ends = last_same m n s rest (linked_same m n s rest is.1.0 is.1.1 is.0.2) in
      (h.0, h.1, (h.2.0, (reached_group (s ∷ rest) (last_of s rest) (s.n - s.m) h.2.0 ends.0 ends.1 h.2.1).0, h.2.2))

  need_is : (c : List Shard) → IsChainIn shards Scope c → need_of c ≡ m
  need_is [] h = absurd h
  need_is (s ∷ rest) h = h.1.0

  -- what was searched in a group was searched of its m and n
  pub group_searched : (a b : ℕ) (f g : List (List ℕ)) → HasGrown (IsChainOf group m n) a b → ((c : List ℕ) → IsIn g c ↔ (IsIn f c ⊎ IsFoundOf group m n c))
      → HasSearched shards Scope a b f g
  group_searched a b f g grown found = record {
    chains = (grown.0, listed_same (IsChainOf group m n) (IsChainIn shards Scope) grown.0 (λ c. (to_all c, to_group c)) grown.1, grown.2);
    found = λ x. (
      λ there. elim ((found x).0 there) [
        | inl old ↦ inl old
        | inr w ↦ inr (w.0, to_all w.0 w.1, w.2 ∙ sym (need_is w.0 (to_all w.0 w.1)), closes_all w.0 x w.3)
      ],
      λ h. elim h [
        | inl old ↦ (found x).1 (inl old)
        | inr w ↦ (found x).1 (inr (w.0, to_group w.0 w.1, w.2 ∙ need_is w.0 w.1, closes_group w.0 x w.1 w.3))
      ],
    );
  }

  pub group_above : (limit before : ℕ) → AreAbove (IsChainOf group m n) limit before → AreAbove (IsChainIn shards Scope) limit before
  group_above limit before (xs, once, each, more) = (xs, once, λ x h. to_all x (each x h), more)

-- the paths of a group
module _ (g : Group) (is : IsGroup g) where
  abbrev P : List (List Shard)
  P = parts_of g.bits g.parts.items

  abbrev n : ℕ
  n = length g.parts.items

  blurred : (s : Shard) → IsIn (shards_in g) s → s.blur ≡ g.bits
  blurred s h = (members_are (shards_in g) g.need n g.bits 1 P is.parts s h).3

  front_parts : AreParts (shards_in g) g.need n g.bits 1 (take g.need P)
  front_parts = parts_front (shards_in g) g.need n g.bits g.need 1 P is.parts

  front_levels : AreLevelsOf (take g.need P) (take g.need g.levels.items)
  front_levels = levels_front g.need P g.levels.items is.levels

  counted : length P ≡ n
  counted = length-map g.parts.items (λ part. map (shard_of g.bits) part.now)

  whole : length (take g.need P) ≡ g.need
  whole = length-take-le g.need P (omega (arith, counted, is.need))

  pub levels_long : length (take g.need g.levels.items) ≡ g.need
  levels_long = length-levels (take g.need P) (take g.need g.levels.items) front_levels ∙ whole

  -- they are levels
  pub front_are : AreLevels (take g.need g.levels.items)
  front_are = levels_are (take g.need P) (take g.need g.levels.items) front_levels

  pub whole_of : (path : List ℕ) → IsPath g.bits (take g.need g.levels.items) (g.need - 1) path
      → AreInside P path × IsWholeChain (shards_in g) g.need n g.bits (shards_at P path)
  whole_of path h =
      let r = path_chain (shards_in g) g.need n g.bits (take g.need P) (take g.need g.levels.items) front_parts front_levels whole is.need blurred (g.need - 1) path h
      (let some = is.some in omega (arith, some)) in
      let f = front_inside g.need P path r.1 in (
        f.0,
        record {
          of = subst (IsChainOf (shards_in g) g.need n) f.1 r.0;
          long = ap length (sym f.1) ∙ (r.2 ∙ (let some = is.some in let e : suc (g.need - 1) ≡ g.need = omega (arith, some) in e));
          some = is.some;
          few = is.need;
          small = is.few;
          holdable = is.shards;
          blurred = blurred;
        },
      )

  pub found_is : (chains : List (List ℕ)) → IsListed (IsPath g.bits (take g.need g.levels.items) (g.need - 1)) chains
      → (c : List ℕ) → IsFoundAmong (shards_in g) P chains c ↔ IsFoundOf (shards_in g) g.need n c
  found_is chains listed c = (
    λ w. let r = (whole_of w.0 ((listed.each w.0).0 w.1)).1 in (shards_at P w.0, r.of, r.long, w.2),
    λ w.
        let r = chain_path (shards_in g) g.need n g.bits (take g.need P) (take g.need g.levels.items) front_parts front_levels whole is.need blurred w.0 w.1 in
        let path = subst (λ k. IsPath g.bits (take g.need g.levels.items) k r.0) (let e : r.1 ≡ g.need - 1 = omega (arith, r.5, w.2) in e) r.3 in
        let f = front_inside g.need P r.0
        (path_chain (shards_in g) g.need n g.bits (take g.need P) (take g.need g.levels.items) front_parts front_levels whole is.need blurred r.1 r.0 r.3 r.2).1 in
        (r.0, (listed.each r.0).1 path, subst (λ chain. ClosesWith (IsIn (shards_in g)) chain c) (sym r.4 ∙ f.1) w.3),
  )

  -- all chains are counted
  pub grown_is : (before now : ℕ) → HasGrown (IsPathBelow g.bits (take g.need g.levels.items) (length (take g.need g.levels.items))) before now
      → HasGrown (IsChainOf (shards_in g) g.need n) before now
  grown_is before now (all, listed, e) = (
    map (shards_at (take g.need P)) all,
    chains_listed (shards_in g) g.need n g.bits (take g.need P) (take g.need g.levels.items) front_parts front_levels whole is.need blurred all
        (subst (λ k. IsListed (IsPathBelow g.bits (take g.need g.levels.items) k) all) levels_long listed),
    e ∙ ap (λ k. before + k) (sym (length-map all (shards_at (take g.need P)))),
  )

  pub above_is : (limit before : ℕ) → AreAbove (IsPathBelow g.bits (take g.need g.levels.items) (length (take g.need g.levels.items))) limit before
      → AreAbove (IsChainOf (shards_in g) g.need n) limit before
  above_is limit before (all, once, each, more) =
      let chain = λ (c : List ℕ) (h : IsIn all c).
      let w = subst (λ k. IsPathBelow g.bits (take g.need g.levels.items) k c) levels_long (each c h) in
      path_chain (shards_in g) g.need n g.bits (take g.need P) (take g.need g.levels.items) front_parts front_levels whole is.need blurred w.0 c w.2 w.1 in (
        map (shards_at (take g.need P)) all,
        once_map_on (shards_at (take g.need P)) all
            (λ a b h k e. positions_same (shards_in g) g.need n g.bits 1 (take g.need P) a b front_parts (chain a h).1 (chain b k).1 e) once,
        λ y h. let r = from_map (shards_at (take g.need P)) all y h in subst (IsChainOf (shards_in g) g.need n) r.2 (chain r.0 r.1).0,
        omega (arith, more, length-map all (shards_at (take g.need P))),
      )

-- one more chain
pub among_more : (shards : List Shard) (parts : List (List Shard)) (chains : List (List ℕ)) (i : ℕ) (d : List ℕ) (old found new : List (List ℕ)) → i < length chains
    → ((c : List ℕ) → IsIn found c ↔ (IsIn old c ⊎ IsFoundAmong shards parts (take i chains) c))
    → ((c : List ℕ) → IsIn new c ↔ (IsIn found c ⊎ ClosesWith (IsIn shards) (shards_at parts (get_or chains i d)) c))
    → (c : List ℕ) → IsIn new c ↔ (IsIn old c ⊎ IsFoundAmong shards parts (take (i + 1) chains) c)
among_more shards parts chains i d old found new inside before step c =
    subst (λ k. IsIn new c ↔ (IsIn old c ⊎ IsFoundAmong shards parts (take k chains) c)) (sym (add-one i)) (
      λ h. elim ((step c).0 h) [
        | inl was ↦ elim ((before c).0 was) [ inl first ↦ inl first | inr w ↦ inr (w.0, (in_take_more i chains d w.0 inside).1 (inl w.1), w.2) ]
        | inr closes ↦ inr (get_or chains i d, (in_take_more i chains d (get_or chains i d) inside).1 (inr refl), closes)
      ],
      λ h. elim h [
        | inl first ↦ (step c).1 (inl ((before c).1 (inl first)))
        | inr w ↦ elim ((in_take_more i chains d w.0 inside).0 w.1) [
          | inl front ↦ (step c).1 (inl ((before c).1 (inr (w.0, front, w.2))))
          | inr at ↦ (step c).1 (inr (subst (λ p. ClosesWith (IsIn shards) (shards_at parts p) c) (sym at) w.2))
        ]
      ],
    )

pub among_none : (shards : List Shard) (parts : List (List Shard)) (chains old : List (List ℕ)) (c : List ℕ)
    → IsIn old c ↔ (IsIn old c ⊎ IsFoundAmong shards parts (take 0 chains) c)
among_none shards parts chains old c = (λ h. inl h, λ h. elim h [ inl there ↦ there | inr w ↦ absurd w.1 ])

-- n by n
pub more_shards : (shards : List Shard) (need k a b c : ℕ) (f g h : List (List ℕ))
    → HasSearched shards (λ m n. (m ≡ need) × (n < k)) a b f g → HasSearched shards (λ m n. (m ≡ need) × (n ≡ k)) b c g h
    → HasSearched shards (λ m n. (m ≡ need) × (n < k + 1)) a c f h
more_shards shards need k a b c f g h p q =
    let S : ℕ → ℕ → Type 0 = λ m n. (m ≡ need) × (n < k) in
    let T : ℕ → ℕ → Type 0 = λ m n. (m ≡ need) × (n ≡ k) in
    searched_same shards (λ m n. S m n ⊎ T m n) (λ m n. (m ≡ need) × (n < k + 1)) a c f h
    (λ s there. (
      λ w. elim w [ inl l ↦ (l.0, omega (arith, l.1)) | inr e ↦ (e.0, omega (arith, e.1)) ],
      λ w. elim (cases_lt s.n k) [ inl less ↦ inl (w.0, less) | inr more ↦ inr (w.0, omega (arith, w.1, more)) ],
    ))
    (searched_more shards S T a b c f g h (λ m n x y. omega (arith, x.1, y.1)) p q)

-- m by m
pub more_needs : (shards : List Shard) (k a b c : ℕ) (f g h : List (List ℕ))
    → HasSearched shards (λ m n. m < k) a b f g → HasSearched shards (λ m n. m ≡ k) b c g h → HasSearched shards (λ m n. m < k + 1) a c f h
more_needs shards k a b c f g h p q =
    let S : ℕ → ℕ → Type 0 = λ m n. m < k in
    let T : ℕ → ℕ → Type 0 = λ m n. m ≡ k in
    searched_same shards (λ m n. S m n ⊎ T m n) (λ m n. m < k + 1) a c f h
    (λ s there. (
      λ w. elim w [ inl l ↦ omega (arith, l) | inr e ↦ omega (arith, e) ],
      λ w. elim (cases_lt s.m k) [ inl less ↦ inl less | inr more ↦ inr (omega (arith, w, more)) ],
    ))
    (searched_more shards S T a b c f g h (λ m n x y. omega (arith, x, y)) p q)

module _ (shards : List Shard) (holdable : (s : Shard) → IsIn shards s → IsHoldable s) where
  -- where no n was searched yet
  pub shards_begin : (need a : ℕ) (f : List (List ℕ)) → HasSearched shards (λ m n. (m ≡ need) × (n < need)) a a f f
  shards_begin need a f =
      searched_none shards (λ m n. (m ≡ need) × (n < need)) a f (λ s there w. let is = (holdable s there).shard.m_last in omega (arith, w.0, w.1, is))

  pub shards_end : (need k a b : ℕ) (f g : List (List ℕ)) → 17 ≤ k → HasSearched shards (λ m n. (m ≡ need) × (n < k)) a b f g → HasSearched shards (λ m n. m ≡ need) a b f g
  shards_end need k a b f g all p =
      searched_same shards (λ m n. (m ≡ need) × (n < k)) (λ m n. m ≡ need) a b f g
      (λ s there. (λ w. w.0, λ e. (e, (let is = (holdable s there).shard.n_last in omega (arith, is, all))))) p

  pub needs_begin : (a : ℕ) (f : List (List ℕ)) → HasSearched shards (λ m n. m < 1) a a f f
  needs_begin a f = searched_none shards (λ m n. m < 1) a f (λ s there w. let is = (holdable s there).shard.m_first in omega (arith, w, is))

  pub needs_end : (k a b : ℕ) (f g : List (List ℕ)) → 17 ≤ k → HasSearched shards (λ m n. m < k) a b f g → HasSearched shards (λ m n. ⊤) a b f g
  needs_end k a b f g all p =
      searched_same shards (λ m n. m < k) (λ m n. ⊤) a b f g
      (λ s there. (
        λ w. tt,
        λ w. let is = (holdable s there).shard in let m_last = is.m_last in let n_last = is.n_last in omega (arith, m_last, n_last, all),
      )) p

-- what was searched in a group, whose m and n are these
pub group_is_searched : (shards group : List Shard) (m n m' n' a b : ℕ) (f g : List (List ℕ)) → m' ≡ m → n' ≡ n
    → ((s : Shard) → IsIn group s ↔ (IsIn shards s × (s.m ≡ m) × (s.n ≡ n)))
    → HasGrown (IsChainOf group m' n') a b → ((c : List ℕ) → IsIn g c ↔ (IsIn f c ⊎ IsFoundOf group m' n' c))
    → HasSearched shards (λ x y. (x ≡ m) × (y ≡ n)) a b f g
group_is_searched shards group m n m' n' a b f g em en same grown found =
    group_searched shards group m n same a b f g
    (subst (λ k. HasGrown (IsChainOf group k n) a b) em (subst (λ k. HasGrown (IsChainOf group m' k) a b) en grown))
    (λ c. subst (λ k. IsIn g c ↔ (IsIn f c ⊎ IsFoundOf group k n c)) em (subst (λ k. IsIn g c ↔ (IsIn f c ⊎ IsFoundOf group m' k c)) en (found c)))

pub group_is_above : (shards group : List Shard) (m n m' n' limit before : ℕ) → m' ≡ m → n' ≡ n
    → ((s : Shard) → IsIn group s ↔ (IsIn shards s × (s.m ≡ m) × (s.n ≡ n)))
    → AreAbove (IsChainOf group m' n') limit before → AreAbove (IsChainIn shards (λ x y. (x ≡ m) × (y ≡ n))) limit before
group_is_above shards group m n m' n' limit before em en same above =
    group_above shards group m n same limit before
    (subst (λ k. AreAbove (IsChainOf group k n) limit before) em (subst (λ k. AreAbove (IsChainOf group m' k) limit before) en above))

-- too many are too many of all
pub shards_above : (shards : List Shard) (need k limit a b : ℕ) (f g : List (List ℕ)) → HasSearched shards (λ m n. (m ≡ need) × (n < k)) a b f g
    → AreAbove (IsChainIn shards (λ m n. (m ≡ need) × (n ≡ k))) limit b → AreAbove (IsChainIn shards (λ m n. m ≡ need)) limit a
shards_above shards need k limit a b f g p above =
    above_more shards (λ m n. (m ≡ need) × (n < k)) (λ m n. (m ≡ need) × (n ≡ k)) (λ m n. m ≡ need) limit a b f g (λ m n x y. omega (arith, x.1, y.1))
    (λ m n x. x.0) (λ m n x. x.0) p above

pub needs_above : (shards : List Shard) (k limit a b : ℕ) (f g : List (List ℕ)) → HasSearched shards (λ m n. m < k) a b f g
    → AreAbove (IsChainIn shards (λ m n. m ≡ k)) limit b → AreAbove (IsChainIn shards (λ m n. ⊤)) limit a
needs_above shards k limit a b f g p above =
    above_more shards (λ m n. m < k) (λ m n. m ≡ k) (λ m n. ⊤) limit a b f g (λ m n x y. omega (arith, x, y)) (λ m n x. tt) (λ m n x. tt) p above

-- from two facts of an Ok
pub ok_both : {T E P Q R : Type 0} (r : Result T E) → (P → Q → R) → OnOk r P → OnOk r Q → OnOk r R
ok_both (Ok x) f p q = f p q
ok_both (Err e) f p q = tt
