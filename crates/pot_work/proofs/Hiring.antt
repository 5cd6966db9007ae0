-- Workers that are hired and dismissed.
use Rattle.std.proofs.Common.{◌≡◌, ⊎_elim, ℕ, zero, suc, ◌+◌, ◌-◌, ◌<◌, ◌≤◌, List, [], ◌∷◌, ◌++◌, length, length-append, take, drop, take_all, append-nil, sym, refl, ap, ◌∙◌, subst, arith}
use Rattle.std.specs.Global.{Global}
use Rattle.std.specs.Prelude.{Some, Option, Vec, map, slice_get, vec_capacity}
use Rattle.crossbeam_queue.specs.Passes.{view, Pass}
use Rattle.pot_work.specs.declared.claims.Hand.{Hand}
use Rattle.pot_work.specs.declared.rooms.Worker.{Worker}
use Rattle.pot_work.specs.Claims.{hand, all_parts, times}
use Rattle.pot_work.specs.Works.{AreWorkOf, ArePlaced, AreFresh, HasFinished, Each}
use Rattle.pot_work.specs.Rooms.{IsRoom, IsHired}
use Rattle.pot_work.proofs.Weights.{get_front, get_last, get_either}
use Rattle.pot_work.proofs.Places.{works_within}

module _ {X : Type 0} (P : X → Type 0) where
  pub each_front : (xs rest : List X) (x : X) → Each P xs → xs ≡ rest ++ x ∷ [] → Each P rest
  each_front xs rest x each is k y at = each k y (subst (λ ys. slice_get ys k ≡ Some y) (sym is) (get_front rest (x ∷ []) k y at))

  pub each_last : (xs rest : List X) (x : X) → Each P xs → xs ≡ rest ++ x ∷ [] → P x
  each_last xs rest x each is = each (length rest) x (subst (λ ys. slice_get ys (length rest) ≡ Some x) (sym is) (get_last rest x))

  pub each_more : (xs more : List X) (x : X) → Each P xs → P x → more ≡ xs ++ x ∷ [] → Each P more
  each_more xs more x each is_so is k y at = ⊎_elim (λ (was : slice_get xs k ≡ Some y). each k y was) (λ (same : x ≡ y). subst P same is_so)
      (get_either xs x k y (subst (λ ys. slice_get ys k ≡ Some y) is at))

  pub each_none : (xs : List X) → xs ≡ [] → Each P xs
  each_none xs none k y at = absurd (not_there k y (subst (λ ys. slice_get ys k ≡ Some y) none at))
    where
      not_there : (k : ℕ) (y : X) → slice_get [] k ≡ Some y → ⊥
      not_there k y at = cc at

module _ {J : Type 0} (done : J → Type 0) (related : J → J → Type 0) (Own : Pass (ℕ × J) (Hand J) → Type 0) (jobs : List J) where
  -- WORKERS THAT ARE HIRED

  abbrev pub IsNew : Worker J → Type 0
  IsNew w = Own w.claim × IsHired done (hand 1 jobs []) w

  -- of these rooms some have a worker each
  pub record Hiring (rooms : ℕ) (claim : Pass (ℕ × J) (Hand J)) (left : List (Vec (ℕ × J) Global)) (workers : Vec (Worker J) Global) : Type 0 where
    pub own : Own claim
    pub is : view claim ≡ hand (all_parts - length workers.items) jobs []
    pub hired : Each IsNew workers.items
    pub rooms_are : Each (IsRoom (length jobs)) left
    pub count : length workers.items + length left ≡ rooms
    pub few : rooms < all_parts
    pub room : rooms ≤ vec_capacity workers
    pub fresh : AreFresh done jobs

  pub some_parts : (rooms : ℕ) (claim : Pass (ℕ × J) (Hand J)) (left rest : List (Vec (ℕ × J) Global)) (one : Vec (ℕ × J) Global) (workers : Vec (Worker J) Global)
      → Hiring rooms claim left workers → left ≡ rest ++ one ∷ [] → 1 < (view claim).parts
  some_parts rooms claim left rest one workers h is =
      let a = ap length is in
      let b = length-append rest (one ∷ []) in
      let c = ap (λ v. v.parts) h.is in
      omega (arith, a, b, c, h.count, h.few)

  pub room_to_hire : (rooms : ℕ) (claim : Pass (ℕ × J) (Hand J)) (left rest : List (Vec (ℕ × J) Global)) (one : Vec (ℕ × J) Global) (workers : Vec (Worker J) Global)
      → Hiring rooms claim left workers → left ≡ rest ++ one ∷ [] → length workers.items < vec_capacity workers
  room_to_hire rooms claim left rest one workers h is =
      let a = ap length is in
      let b = length-append rest (one ∷ []) in
      omega (arith, a, b, h.count, h.room)

  pub hiring_more : (rooms : ℕ) (claim now : Pass (ℕ × J) (Hand J)) (left rest : List (Vec (ℕ × J) Global)) (one : Vec (ℕ × J) Global) (workers more : Vec (Worker J) Global) (w : Worker J)
      → Hiring rooms claim left workers → left ≡ rest ++ one ∷ [] → Own now → view now ≡ hand ((view claim).parts - 1) (view claim).jobs (view claim).taken
      → Own w.claim → view w.claim ≡ hand 1 (view claim).jobs [] → w.finished ≡ one → more.items ≡ workers.items ++ w ∷ [] → vec_capacity more ≡ vec_capacity workers → Hiring rooms now rest more
  hiring_more rooms claim now left rest one workers more w h is own now_is own_w w_is its items capacity =
      let a = ap length is in
      let b = length-append rest (one ∷ []) in
      let e = ap length items in
      let f = length-append workers.items (w ∷ []) in
      let js = ap (λ v. v.jobs) h.is in
      let room : IsRoom (length jobs) one = each_last (IsRoom (length jobs)) left rest one h.rooms_are is in
      record {
        own = own;
        is = now_is ∙ λ i. hand (parts_are i) (ap (λ v. v.jobs) h.is i) (ap (λ v. v.taken) h.is i);
        hired = each_more IsNew workers.items more.items w h.hired
            (own_w, record { some = omega arith; is = w_is ∙ ap (λ ls. hand 1 ls []) js; none = ap (λ (v : Vec (ℕ × J) Global). v.items) its ∙ room.0; room = subst (λ (v : Vec (ℕ × J) Global). length jobs ≤ vec_capacity v) (sym its) room.1; fresh = h.fresh }) items;
        rooms_are = each_front (IsRoom (length jobs)) left rest one h.rooms_are is;
        count = omega (arith, a, b, e, f, h.count);
        few = h.few;
        room = omega (arith, capacity, h.room);
        fresh = h.fresh;
      }
    where
      parts_are : (view claim).parts - 1 ≡ all_parts - length more.items
      parts_are =
          let e = ap length items in
          let f = length-append workers.items (w ∷ []) in
          let p = ap (λ v. v.parts) h.is in
          omega (arith, e, f, p)

  pub hiring_ends : (rooms : ℕ) (claim : Pass (ℕ × J) (Hand J)) (left : List (Vec (ℕ × J) Global)) (workers : Vec (Worker J) Global) → Hiring rooms claim left workers → left ≡ []
      → (view claim ≡ hand (all_parts - rooms) jobs []) × (length workers.items ≡ rooms)
  hiring_ends rooms claim left workers h none =
      let a = ap length none in
      let many : length workers.items ≡ rooms = omega (arith, a, h.count) in
      (h.is ∙ ap (λ n. hand (all_parts - n) jobs []) many, many)

  -- AND DISMISSED

  abbrev pub HasEnded : Worker J → Type 0
  HasEnded w = Own w.claim × HasFinished done related (hand 1 jobs []) (view w.claim) w.finished.items

  pub record Dismissing (claim : Pass (ℕ × J) (Hand J)) (left : List (Worker J)) (places : List (Option J)) : Type 0 where
    pub own : Own claim
    pub parts : (view claim).parts ≡ all_parts - length left
    pub jobs_is : (view claim).jobs ≡ jobs
    pub few : length left < all_parts
    pub worked : Each HasEnded left
    pub placed : ArePlaced done related jobs (view claim).taken places

  pub dismissing_begins : (claim : Pass (ℕ × J) (Hand J)) (workers : List (Worker J)) (places : List (Option J)) → Own claim → view claim ≡ hand (all_parts - length workers) jobs [] → length workers < all_parts
      → Each HasEnded workers → length places ≡ length jobs → Dismissing claim workers places
  dismissing_begins claim workers places own is few worked long = record {
    own = own;
    parts = ap (λ v. v.parts) is;
    jobs_is = ap (λ v. v.jobs) is;
    few = few;
    worked = worked;
    placed = record { count = long; each = λ p has. absurd (let t = ap (λ v. times p v.taken) is in omega (arith, has, t)) };
  }

  pub some_left : (claim : Pass (ℕ × J) (Hand J)) (left : List (Worker J)) (places : List (Option J)) → Dismissing claim left places → 0 < (view claim).parts
  some_left claim left places d = omega (arith, d.parts, d.few)

  pub ended_within : (claim : Pass (ℕ × J) (Hand J)) (left rest : List (Worker J)) (w : Worker J) (places : List (Option J)) → Dismissing claim left places → left ≡ rest ++ w ∷ [] → Each (λ e. e.0 < length places) w.finished.items
  ended_within claim left rest w places d is = works_within done related jobs w.finished.items places (each_last HasEnded left rest w d.worked is).1.each d.placed.count

  pub dismissing_more : (claim now : Pass (ℕ × J) (Hand J)) (left rest : List (Worker J)) (w : Worker J) (places more : List (Option J))
      → Dismissing claim left places → left ≡ rest ++ w ∷ [] → Own now → view now ≡ hand ((view claim).parts + (view w.claim).parts) (view claim).jobs ((view claim).taken ++ (view w.claim).taken)
      → ((js : List J) (taken : List ℕ) → ArePlaced done related js taken places → AreWorkOf done related js w.finished.items → ArePlaced done related js (taken ++ map (λ e. e.0) w.finished.items) more)
      → Dismissing now rest more
  dismissing_more claim now left rest w places more d is own now_is put =
      let a = ap length is in
      let b = length-append rest (w ∷ []) in
      let ended = (each_last HasEnded left rest w d.worked is).1 in
      let p = ap (λ v. v.parts) now_is in
      record {
        own = own;
        parts = omega (arith, a, b, p, d.parts, ended.parts, d.few);
        jobs_is = ap (λ v. v.jobs) now_is ∙ d.jobs_is;
        few = omega (arith, a, b, d.few);
        worked = each_front HasEnded left rest w d.worked is;
        placed = subst (λ ps. ArePlaced done related jobs ps more) (sym (ap (λ v. v.taken) now_is ∙ ap (λ ps. (view claim).taken ++ ps) ended.taken)) (put jobs (view claim).taken d.placed ended.each);
      }

  pub dismissing_ends : (claim : Pass (ℕ × J) (Hand J)) (left : List (Worker J)) (places : List (Option J)) → Dismissing claim left places → left ≡ [] → (view claim).parts ≡ all_parts
  dismissing_ends claim left places d none = let a = ap length none in omega (arith, a, d.parts)

  -- what a thread left of a worker
  pub ended_one : (old argument after x : Worker J) → view old.claim ≡ hand 1 jobs [] → argument ≡ old → after ≡ x
      → Own after.claim × HasFinished done related (view argument.claim) (view after.claim) after.finished.items → HasEnded x
  ended_one old argument after x was begun left so =
      subst (λ (y : Worker J). Own y.claim × HasFinished done related (hand 1 jobs []) (view y.claim) y.finished.items) left
      (so.0, subst (λ v. HasFinished done related v (view after.claim) after.finished.items) (ap (λ (y : Worker J). view y.claim) begun ∙ was) so.1)

none_left : {X : Type 0} (xs : List X) (n : ℕ) → length xs ≡ n → drop n xs ≡ []
none_left [] zero is = refl
none_left [] (suc n) is = absurd (omega (arith, is))
none_left (x ∷ xs) zero is = absurd (omega (arith, is))
none_left (x ∷ xs) (suc n) is = none_left xs n (omega (arith, is))

-- a list that was written back whole
pub whole : {X : Type 0} (new old : List X) (n : ℕ) → length new ≡ length old → n ≡ length old → take n (new ++ drop (length new) old) ≡ new
whole new old n same is =
    ap (λ ys. take n (new ++ ys)) (none_left old (length new) (sym same)) ∙ ap (take n) (append-nil new) ∙ take_all n new (omega (arith, same, is))
