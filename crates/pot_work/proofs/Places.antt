-- Finished jobs at their places.
use Rattle.std.proofs.Common.{◌≡◌, ⊎_elim, ℕ, ◌<◌, List, [], ◌∷◌, ◌++◌, length, map, set, sym, refl, ap, ◌∙◌, subst, arith, append_assoc, append-nil}
use Rattle.std.specs.Prelude.{Some, None, Option, IsSome, slice_get, option_map}
use Rattle.std.proofs.lemmas.List.{length-map}
use Rattle.std.proofs.lemmas.Bool.{cases_eq}
use Rattle.std.proofs.lemmas.Option.{same_Some, slice_get_within, slice_get-map}
use Rattle.pot_work.specs.Claims.{one_at, times}
use Rattle.pot_work.specs.Works.{IsWorkOf, AreWorkOf, ArePlaced, AllPlaced, AreWorked, Each}
use Rattle.pot_work.proofs.Weights.{weigh_append, get_set_here, get_set_else, set_long, get_middle, get_front, get_last}
use Rattle.pot_work.proofs.Claiming.{one_else}

module _ {J : Type 0} (done : J → Type 0) (related : J → J → Type 0) where
  -- of these jobs the last ones are at their places
  pub record Placing (finished : List (ℕ × J)) (old : List (Option J)) (left : List (ℕ × J)) (new : List (Option J)) : Type 0 where
    pub put : List (ℕ × J)
    pub parts : finished ≡ left ++ put
    pub long : length new ≡ length old
    pub so : (jobs : List J) (taken : List ℕ) → ArePlaced done related jobs taken old → AreWorkOf done related jobs finished → ArePlaced done related jobs (taken ++ map (λ e. e.0) put) new

  pub placing_begins : (finished : List (ℕ × J)) (old : List (Option J)) → Placing finished old finished old
  placing_begins finished old = record {
    put = [];
    parts = sym (append-nil finished);
    long = refl;
    so = λ jobs taken are _. subst (λ ps. ArePlaced done related jobs ps old) (sym (append-nil taken)) are;
  }

  place_more : (jobs : List J) (taken ps : List ℕ) (x : ℕ × J) (places : List (Option J)) → ArePlaced done related jobs (taken ++ ps) places → IsWorkOf done related jobs x
      → ArePlaced done related jobs (taken ++ x.0 ∷ ps) (set places x.0 (Some x.1))
  place_more jobs taken ps x places are is = record {
    count = set_long places x.0 (Some x.1) ∙ are.count;
    each = λ p has. ⊎_elim
        (λ (here : p ≡ x.0).
        let within = slice_get_within jobs x.0 is.job is.at in (
          x.1,
          subst (λ q. slice_get (set places x.0 (Some x.1)) q ≡ Some (Some x.1)) (sym here) (get_set_here places x.0 (Some x.1) (omega (arith, within, are.count))),
          subst (λ q. IsWorkOf done related jobs (q, x.1)) (sym here) is,
        ))
        (λ other.
        let a = weigh_append (one_at p) taken (x.0 ∷ ps) in
        let b = weigh_append (one_at p) taken ps in
        let c = one_else p x.0 (λ e. other (sym e)) in
        let was = are.each p (omega (arith, has, a, b, c)) in
        (was.0, get_set_else places x.0 p (Some x.1) other ∙ was.1, was.2))
        (cases_eq p x.0);
  }

  pub placing_more : (finished : List (ℕ × J)) (old : List (Option J)) (left rest : List (ℕ × J)) (x : ℕ × J) (now new : List (Option J))
      → Placing finished old left now → left ≡ rest ++ x ∷ [] → new ≡ set now x.0 (Some x.1) → Placing finished old rest new
  placing_more finished old left rest x now new p is set_is = record {
    put = x ∷ p.put;
    parts = p.parts ∙ ap (λ l. l ++ p.put) is ∙ append_assoc rest (x ∷ []) p.put;
    long = ap length set_is ∙ set_long now x.0 (Some x.1) ∙ p.long;
    so = λ jobs taken are works.
        let at = subst (λ es. slice_get es (length rest) ≡ Some x) (sym (p.parts ∙ ap (λ l. l ++ p.put) is)) (get_front (rest ++ x ∷ []) p.put (length rest) x (get_last rest x)) in
        subst (ArePlaced done related jobs (taken ++ x.0 ∷ map (λ e. e.0) p.put)) (sym set_is)
        (place_more jobs taken (map (λ e. e.0) p.put) x now (p.so jobs taken are works) (works (length rest) x at));
  }

  pub placing_ends : (finished : List (ℕ × J)) (old new : List (Option J)) (left : List (ℕ × J)) → Placing finished old left new → left ≡ [] → (jobs : List J) (taken : List ℕ)
      → ArePlaced done related jobs taken old → AreWorkOf done related jobs finished → ArePlaced done related jobs (taken ++ map (λ e. e.0) finished) new
  placing_ends finished old new left p none jobs taken are works =
      subst (λ es. ArePlaced done related jobs (taken ++ map (λ e. e.0) es) new) (sym (p.parts ∙ ap (λ l. l ++ p.put) none)) (p.so jobs taken are works)

  -- the place of an element of those left
  pub placing_within : (finished : List (ℕ × J)) (old : List (Option J)) (left rest : List (ℕ × J)) (x : ℕ × J) (now : List (Option J))
      → Placing finished old left now → left ≡ rest ++ x ∷ [] → Each (λ e. e.0 < length old) finished → x.0 < length now
  placing_within finished old left rest x now p is within =
      let at = subst (λ es. slice_get es (length rest) ≡ Some x) (sym (p.parts ∙ ap (λ l. l ++ p.put) is)) (get_front (rest ++ x ∷ []) p.put (length rest) x (get_last rest x)) in
      let lt = within (length rest) x at in
      omega (arith, lt, p.long)

  -- jobs at places of jobs are within
  pub works_within : (jobs : List J) (finished : List (ℕ × J)) (places : List (Option J)) → AreWorkOf done related jobs finished → length places ≡ length jobs → Each (λ e. e.0 < length places) finished
  works_within jobs finished places works long k e at = let w = works k e at in let lt = slice_get_within jobs e.0 w.job w.at in omega (arith, lt, long)

  -- WHERE EACH POSITION WAS TAKEN

  pub all_placed : (jobs : List J) (taken : List ℕ) (places : List (Option J)) → ArePlaced done related jobs taken places → ((p : ℕ) → p < length jobs → times p taken ≡ 1) → AllPlaced done related jobs places
  all_placed jobs taken places are once = record { count = are.count; each = λ p lt. are.each p (let o = once p lt in omega (arith, o)) }

  pub all_full : (jobs : List J) (places : List (Option J)) → AllPlaced done related jobs places → Each IsSome places
  all_full jobs places all p o at =
      let lt = slice_get_within places p o at in
      let y = all.each p (omega (arith, lt, all.count)) in
      subst IsSome (same_Some (Some y.0) o (sym y.1 ∙ at)) refl

  pub gathered : (jobs back : List J) (places : List (Option J)) → AllPlaced done related jobs places → map Some back ≡ places → AreWorked done related jobs back
  gathered jobs back places all is = record {
    count = sym (length-map back Some) ∙ ap length is ∙ all.count;
    each = λ k x y at at'.
        let lt = slice_get_within jobs k x at in
        let z = all.each k lt in
        let there : slice_get places k ≡ Some (Some y) = ap (λ l. slice_get l k) (sym is) ∙ slice_get-map Some back k ∙ ap (λ o. option_map Some o) at' in
        let same : z.0 ≡ y = same_Some z.0 y (same_Some (Some z.0) (Some y) (sym z.1 ∙ there)) in
        let was : z.2.job ≡ x = same_Some z.2.job x (sym z.2.at ∙ at) in
        (subst done same z.2.is_done, subst (λ (w : J × J). related w.0 w.1) (λ i. (was i, same i)) z.2.left);
  }

pub no_gap : {J : Type 0} (back : List J) (items rest places : List (Option J)) (x : Option J) → map Some back ++ items ≡ places → items ≡ x ∷ rest → x ≡ None → Each IsSome places → ⊥
no_gap back items rest places x is first none full =
    let at : slice_get places (length (map Some back)) ≡ Some None = subst (λ ys. slice_get ys (length (map Some back)) ≡ Some None) (ap (λ ys. map Some back ++ ys) (sym (first ∙ ap (λ y. y ∷ rest) none)) ∙ is) (get_middle (map Some back) rest None) in
    cc (full (length (map Some back)) None at)
