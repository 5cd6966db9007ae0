-- Chains through levels, each longer by one level.
use Rattle.std.proofs.Common.{◌≡◌, ◌↔◌, ◌⊎◌, inl, inr, ℕ, zero, suc, ◌+◌, ◌<◌, ◌≤◌, List, [], ◌∷◌, ◌++◌, length, get_or, map, refl, sym, ap, ◌∙◌, subst, arith, length-append}
use Rattle.std.specs.List.{range_with_len}
use Rattle.std.proofs.lemmas.Bool.{cases_lt}
use Rattle.std.proofs.lemmas.List.{length-map}
use Rattle.std.proofs.lemmas.List.FromFn.{length-range_with_len}
use Rattle.std.proofs.lemmas.Option.{slice_get_within}
use Rattle.pot_chains.specs.Listed.{IsIn, IsListed, AreAbove, HasGrown}
use Rattle.pot_chains.specs.Paths.{last_of}
use Rattle.pot_chains.proofs.ListedLemmas.{listed_same, listed_append, listed_map, range_listed, once_append, in_append}
use Rattle.pot_chains.proofs.ChainLemmas.{unsnoc}
use Rattle.pot_chains.specs.Levels.{IsPathFrom, IsPath, IsPathBelow, AreLevels, StepAt}
use Rattle.pot_chains.specs.Steps.{end_of, IsPointedAt, IsLonger, IsStart}
use Rattle.pot_chains.specs.declared.levels.Level.{Level}

module _ (bits : ℕ) where
  path_more : (levels : List Level) (p : ℕ) (ps : List ℕ) (u : ℕ) → IsPathFrom bits levels p ps → StepAt bits levels (length ps) (last_of p ps) u → IsPathFrom bits levels p (ps ++ u ∷ [])
  path_more [] p ps u h s = absurd s
  path_more (a ∷ []) p ps u h s = absurd s
  path_more (a ∷ (b ∷ rest)) p [] u h s = (s, tt)
  path_more (a ∷ (b ∷ rest)) p (q ∷ qs) u h s = (h.0, path_more (b ∷ rest) q qs u h.1 s)

  path_less : (levels : List Level) (p : ℕ) (ps : List ℕ) (u : ℕ) → IsPathFrom bits levels p (ps ++ u ∷ []) → IsPathFrom bits levels p ps × StepAt bits levels (length ps) (last_of p ps) u
  path_less [] p [] u h = absurd h
  path_less [] p (q ∷ qs) u h = absurd h
  path_less (a ∷ []) p [] u h = absurd h
  path_less (a ∷ []) p (q ∷ qs) u h = absurd h
  path_less (a ∷ (b ∷ rest)) p [] u h = (tt, h.0)
  path_less (a ∷ (b ∷ rest)) p (q ∷ qs) u h = let r = path_less (b ∷ rest) q qs u h.1 in ((h.0, r.0), r.1)

  -- the step at level t, by the two levels
  step_is : (levels : List Level) (t : ℕ) (a b : Level) (q u : ℕ) → suc t < length levels → a ≡ get_or levels t a → b ≡ get_or levels (suc t) b
      → StepAt bits levels t q u ↔ IsPointedAt a.pointers.items b.index bits q u
  step_is [] t a b q u h ea eb = absurd (omega arith)
  step_is (c ∷ []) t a b q u h ea eb = absurd (omega arith)
  step_is (c ∷ (d ∷ rest)) zero a b q u h ea eb = (
    λ s. subst (λ (x : Level). IsPointedAt x.pointers.items b.index bits q u) (sym ea) (subst (λ (y : Level). IsPointedAt c.pointers.items y.index bits q u) (sym eb) s),
    λ s. subst (λ (x : Level). IsPointedAt x.pointers.items d.index bits q u) ea (subst (λ (y : Level). IsPointedAt a.pointers.items y.index bits q u) eb s),
  )
  step_is (c ∷ (d ∷ rest)) (suc t) a b q u h ea eb = step_is (d ∷ rest) t a b q u (omega arith) ea eb

  -- the last of a chain stands at its level
  path_end : (first : Level) (rest : List Level) (p : ℕ) (ps : List ℕ) (a : Level) → AreLevels (first ∷ rest) → p < length first.pointers.items
      → IsPathFrom bits (first ∷ rest) p ps → a ≡ get_or (first ∷ rest) (length ps) a → last_of p ps < length a.pointers.items
  path_end first rest p [] a levels inside h e = subst (λ (x : Level). p < length x.pointers.items) (sym e) inside
  path_end first [] p (q ∷ qs) a levels inside h e = absurd h
  path_end first (b ∷ rest) p (q ∷ qs) a levels inside h e =
      path_end b rest q qs a levels.1 (let w = slice_get_within b.index q h.0.0 h.0.1 in omega (arith, w, levels.1.0.same)) h.1 e

  pub starts : (levels : List Level) (t : ℕ) (a : Level) (chains : List (List ℕ)) → AreLevels levels → length levels ≤ 16 → suc t < length levels
      → a ≡ get_or levels t a → IsListed (IsPath bits levels t) chains → IsStart (length a.pointers.items) chains
  starts [] t a chains are few inside e is = absurd (omega arith)
  starts (first ∷ rest) t a chains are few inside e is = λ chain there. one chain ((is.each chain).0 there)
    where
      one : (chain : List ℕ) → IsPath bits (first ∷ rest) t chain → (length chain < 16) × (end_of chain < length a.pointers.items)
      one [] h = absurd h
      one (p ∷ ps) h = (
        omega (arith, h.1, few, inside),
        path_end first rest p ps a are h.0 h.2 (e ∙ ap (λ k. get_or (first ∷ rest) k a) (sym h.1)),
      )

  -- the chains of one more
  pub next_layer : (levels : List Level) (t : ℕ) (a b : Level) (chains found : List (List ℕ)) → suc t < length levels
      → a ≡ get_or levels t a → b ≡ get_or levels (suc t) b → IsListed (IsPath bits levels t) chains
      → (y : List ℕ) → IsLonger a.pointers.items b.index bits chains y ↔ IsPath bits levels (suc t) y
  next_layer [] t a b chains found inside ea eb is y = absurd (omega arith)
  next_layer (first ∷ rest) t a b chains found inside ea eb is y = (to y, from y)
    where
      to : (y : List ℕ) → IsLonger a.pointers.items b.index bits chains y → IsPath bits (first ∷ rest) (suc t) y
      to y (chain, there, q, meant, e) = subst (IsPath bits (first ∷ rest) (suc t)) e (one chain ((is.each chain).0 there) meant)
        where
          one : (chain : List ℕ) → IsPath bits (first ∷ rest) t chain → IsPointedAt a.pointers.items b.index bits (end_of chain) q → IsPath bits (first ∷ rest) (suc t) (chain ++ q ∷ [])
          one [] h meant = absurd h
          one (p ∷ ps) h meant = (
            h.0,
            length-append ps (q ∷ []) ∙ (let n : length ps + 1 ≡ suc t = omega (arith, h.1) in n),
            path_more (first ∷ rest) p ps q h.2
                (subst (λ k. StepAt bits (first ∷ rest) k (last_of p ps) q) (sym h.1) ((step_is (first ∷ rest) t a b (last_of p ps) q inside ea eb).1 meant)),
          )

      from : (y : List ℕ) → IsPath bits (first ∷ rest) (suc t) y → IsLonger a.pointers.items b.index bits chains y
      from [] h = absurd h
      from (p ∷ []) h = absurd (cc)
      from (p ∷ (z ∷ zs)) h =
          let parts = unsnoc z zs in
          let front = parts.0 in
          let u = parts.1 in
          let long : suc (length zs) ≡ suc t = h.1 in
          let short : length front ≡ t = omega (arith, parts.3, long) in
          let r = path_less (first ∷ rest) p front u (subst (IsPathFrom bits (first ∷ rest) p) parts.2 h.2) in
          let step = subst (λ k. StepAt bits (first ∷ rest) k (last_of p front) u) short r.1 in
          (p ∷ front, (is.each (p ∷ front)).1 (h.0, short, r.0), u, (step_is (first ∷ rest) t a b (last_of p front) u inside ea eb).0 step, ap (λ l. p ∷ l) (sym parts.2))

  apart : (levels : List Level) (c : List ℕ) (k l : ℕ) → k < l → IsPath bits levels k c → ¬ IsPath bits levels l c
  apart levels [] k l less a b = a
  apart [] (x ∷ xs) k l less a b = a
  apart (f ∷ rest) (x ∷ xs) k l less a b = absurd (omega (arith, less, a.1, b.1))

  -- all chains so far and those of the next layer
  pub below_more : (levels : List Level) (t : ℕ) (xs found : List (List ℕ)) → IsListed (IsPathBelow bits levels t) xs → IsListed (IsPath bits levels t) found
      → IsListed (IsPathBelow bits levels (suc t)) (xs ++ found)
  below_more levels t xs found before here =
      listed_same (λ c. IsPathBelow bits levels t c ⊎ IsPath bits levels t c) (IsPathBelow bits levels (suc t)) (xs ++ found)
      (λ c. (
        λ h. elim h [ inl w ↦ (w.0, omega (arith, w.1), w.2) | inr is ↦ (t, omega arith, is) ],
        λ w. elim (cases_lt w.0 t) [ inl less ↦ inl (w.0, less, w.2) | inr at ↦ inr (subst (λ k. IsPath bits levels k c) (let e : w.0 ≡ t = omega (arith, w.1, at) in e) w.2) ],
      ))
      (listed_append (IsPathBelow bits levels t) (IsPath bits levels t) xs found before here (λ c w is. apart levels c w.0 t w.1 w.2 is))

  -- the first layer is all of one
  pub below_one : (levels : List Level) (firsts : List (List ℕ)) → IsListed (IsPath bits levels 0) firsts → IsListed (IsPathBelow bits levels 1) firsts
  below_one levels firsts is =
      listed_same (IsPath bits levels 0) (IsPathBelow bits levels 1) firsts
      (λ c. (λ h. (0, omega arith, h), λ w. subst (λ k. IsPath bits levels k c) (let e : w.0 ≡ 0 = omega (arith, w.1) in e) w.2)) is

  pub layer_found : (levels : List Level) (t : ℕ) (a b : Level) (pointers names : List ℕ) (chains found : List (List ℕ)) → suc t < length levels
      → a ≡ get_or levels t a → b ≡ get_or levels (suc t) b → pointers ≡ a.pointers.items → names ≡ b.index
      → IsListed (IsPath bits levels t) chains → IsListed (IsLonger pointers names bits chains) found → IsListed (IsPath bits levels (suc t)) found
  layer_found levels t a b pointers names chains found inside ea eb p n is longer =
      listed_same (IsLonger a.pointers.items b.index bits chains) (IsPath bits levels (suc t)) found
      (next_layer levels t a b chains found inside ea eb is)
      (subst (λ (x : List ℕ). IsListed (IsLonger x b.index bits chains) found) p (subst (λ (y : List ℕ). IsListed (IsLonger pointers y bits chains) found) n longer))

  -- too many of the next layer are too many of all
  pub above_all : (levels : List Level) (t : ℕ) (a b : Level) (pointers names : List ℕ) (chains all : List (List ℕ)) (limit before f first : ℕ) → suc t < length levels
      → a ≡ get_or levels t a → b ≡ get_or levels (suc t) b → pointers ≡ a.pointers.items → names ≡ b.index
      → IsListed (IsPath bits levels t) chains → IsListed (IsPathBelow bits levels (suc t)) all → before + f ≡ first + length all
      → AreAbove (IsLonger pointers names bits chains) limit before
      → AreAbove (IsPathBelow bits levels (length levels)) (limit + f) first
  above_all levels t a b pointers names chains all limit before f first inside ea eb p m is below counted (xs, once, each, more) =
      let next : (y : List ℕ) → IsIn xs y → IsPath bits levels (suc t) y = λ y h.
      (next_layer levels t a b chains xs inside ea eb is y).0
      (subst (λ (x : List ℕ). IsLonger x b.index bits chains y) p (subst (λ (z : List ℕ). IsLonger pointers z bits chains y) m (each y h))) in (
        all ++ xs,
        once_append all xs below.once once (λ y h k. let w = (below.each y).0 h in apart levels y w.0 (suc t) w.1 w.2 (next y k)),
        λ y h. elim (in_append all xs y h) [
          | inl k ↦ let w = (below.each y).0 k in (w.0, omega (arith, w.1, inside), w.2)
          | inr k ↦ (suc t, inside, next y k)
        ],
        omega (arith, length-append all xs, counted, more),
      )

  -- the positions of the first level, each alone
  pub singles_are : (levels : List Level) (first : Level) → 1 ≤ length levels → first ≡ get_or levels 0 first
      → IsListed (IsPath bits levels 0) (map (λ p. p ∷ []) (range_with_len 0 (length first.pointers.items)))
  singles_are [] first some is = absurd (omega arith)
  singles_are (a ∷ rest) first some is =
      subst (λ (l : Level). IsListed (IsPath bits (a ∷ rest) 0) (map (λ p. p ∷ []) (range_with_len 0 (length l.pointers.items)))) (sym is)
      (listed_same (λ c. (p : ℕ) × (p < length a.pointers.items) × (p ∷ [] ≡ c)) (IsPath bits (a ∷ rest) 0) (map (λ p. p ∷ []) (range_with_len 0 (length a.pointers.items)))
      (λ c. (to c, from c))
      (listed_map (λ p. p < length a.pointers.items) (λ p. p ∷ []) (range_with_len 0 (length a.pointers.items)) (range_listed (length a.pointers.items)) (λ x y e. cc)))
    where
      to : (c : List ℕ) → (p : ℕ) × (p < length a.pointers.items) × (p ∷ [] ≡ c) → IsPath bits (a ∷ rest) 0 c
      to c w = subst (IsPath bits (a ∷ rest) 0) w.2 (w.1, refl, tt)

      from : (c : List ℕ) → IsPath bits (a ∷ rest) 0 c → (p : ℕ) × (p < length a.pointers.items) × (p ∷ [] ≡ c)
      from [] h = absurd h
      from (p ∷ []) h = (p, h.0, refl)
      from (p ∷ (q ∷ qs)) h = absurd (cc)

  -- too many of one are too many of all
  pub singles_above : (levels : List Level) (first : Level) (limit before n : ℕ) → 1 ≤ length levels → first ≡ get_or levels 0 first
      → n ≡ length first.pointers.items → limit < before + n → AreAbove (IsPathBelow bits levels (length levels)) limit before
  singles_above levels first limit before n some is same above =
      let number = length first.pointers.items in
      let singles = map (λ p. p ∷ []) (range_with_len 0 number) in
      let listed = singles_are levels first some is in (
        singles,
        listed.once,
        λ c h. (0, some, (listed.each c).0 h),
        omega (arith, above, same, length-map (range_with_len 0 number) (λ p. p ∷ []), length-range_with_len 0 number),
      )

-- those that were counted before are counted once
pub grown_without : {X : Type 0} (P : X → Type 0) (before now n f : ℕ) → f ≡ n → HasGrown P (before + n) (now + f) → HasGrown P before now
grown_without P before now n f same (xs, listed, e) = (xs, listed, omega (arith, e, same))

pub above_without : {X : Type 0} (P : X → Type 0) (before limit n f : ℕ) → f ≡ n → AreAbove P (limit + f) (before + n) → AreAbove P limit before
above_without P before limit n f same (xs, once, each, more) = (xs, once, each, omega (arith, more, same))

pub length-singles : {X : Type 0} (xs : List X) (f : ℕ → X) (n : ℕ) → xs ≡ map f (range_with_len 0 n) → length xs ≡ n
length-singles xs f n e = ap length e ∙ (length-map (range_with_len 0 n) f ∙ length-range_with_len 0 n)
