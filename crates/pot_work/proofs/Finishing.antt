-- What a worker has finished, step by step.
use Rattle.std.proofs.Common.{◌≡◌, ⊎_elim, ℕ, ◌+◌, ◌<◌, ◌≤◌, List, [], ◌∷◌, ◌++◌, length, length-append, map, sym, refl, ap, ◌∙◌, subst, arith, append_assoc, append-nil}
use Rattle.std.proofs.lemmas.List.{length-map, map-append}
use Rattle.std.specs.Prelude.{Some, slice_get}
use Rattle.pot_work.specs.declared.claims.Hand.{Hand}
use Rattle.pot_work.specs.Claims.{hand, all_parts, TookOne}
use Rattle.pot_work.specs.Works.{IsWorkOf, HasFinished, AreFresh}
use Rattle.pot_work.proofs.Weights.{get_either}

none_there : {X : Type 0} (x : X) (k : ℕ) → slice_get [] k ≡ Some x → ⊥
none_there x k at = cc at

module _ {J : Type 0} (done : J → Type 0) (related : J → J → Type 0) where
  pub finished_none : (v w : Hand J) (finished : List (ℕ × J)) → w ≡ v → finished ≡ [] → HasFinished done related v w finished
  finished_none v w finished same none = record {
    parts = ap (λ u. u.parts) same;
    jobs = ap (λ u. u.jobs) same;
    taken = ap (λ u. u.taken) same ∙ sym (append-nil v.taken) ∙ ap (λ es. v.taken ++ map (λ e. e.0) es) (sym none);
    each = λ k e at. absurd (none_there e k (subst (λ es. slice_get es k ≡ Some e) none at));
  }

  pub finished_more : (u v w : Hand J) (x : ℕ × J) (y : J) (old new : List (ℕ × J)) → HasFinished done related u v old → TookOne v x w → done y → related x.1 y → new ≡ old ++ (x.0, y) ∷ [] → HasFinished done related u w new
  finished_more u v w x y old new sofar took is_done left is = record {
    parts = ap (λ t. t.parts) took.is ∙ sofar.parts;
    jobs = ap (λ t. t.jobs) took.is ∙ sofar.jobs;
    taken = ap (λ t. t.taken) took.is ∙ ap (λ ps. ps ++ x.0 ∷ []) sofar.taken ∙ append_assoc u.taken (map (λ e. e.0) old) (x.0 ∷ [])
        ∙ ap (λ ps. u.taken ++ ps) (sym (map-append (λ e. e.0) old ((x.0, y) ∷ [])) ∙ ap (map (λ e. e.0)) (sym is));
    each = λ k e at. ⊎_elim (λ (was : slice_get old k ≡ Some e). sofar.each k e was)
        (λ (same : (x.0, y) ≡ e). subst (IsWorkOf done related u.jobs) same (record { job = x.1; at = subst (λ js. slice_get js x.0 ≡ Some x.1) sofar.jobs took.job; is_done = is_done; left = left }))
        (get_either old (x.0, y) k e (subst (λ es. slice_get es k ≡ Some e) is at));
  }

  -- there is room for one more
  pub room_for_one : (u v : Hand J) (x : ℕ × J) (w : Hand J) (old : List (ℕ × J)) (capacity : ℕ) → HasFinished done related u v old → TookOne v x w → length u.jobs ≤ capacity → length old < capacity
  room_for_one u v x w old capacity sofar took room =
      let a = ap length sofar.taken in
      let b = length-append u.taken (map (λ e. e.0) old) in
      let c = length-map old (λ e. e.0) in
      let d = ap length sofar.jobs in
      omega (arith, a, b, c, d, took.few, room)

  pub fresh_one : (u v : Hand J) (x : ℕ × J) (w : Hand J) (old : List (ℕ × J)) → HasFinished done related u v old → TookOne v x w → AreFresh done u.jobs → ¬ (done x.1)
  fresh_one u v x w old sofar took fresh = fresh x.0 x.1 (subst (λ js. slice_get js x.0 ≡ Some x.1) sofar.jobs took.job)

-- the first of these jobs stand in line
pub record LinedUp {J : Type 0} (jobs left : List J) (v : Hand J) (position : ℕ) : Type 0 where
  pub front : List J
  pub parts : jobs ≡ front ++ left
  pub is : v ≡ hand all_parts front []
  pub at : position ≡ length front

module _ {J : Type 0} where
  pub lined_none : (jobs : List J) (v : Hand J) → v ≡ hand all_parts [] [] → LinedUp jobs jobs v 0
  lined_none jobs v is = record { front = []; parts = refl; is = is; at = refl }

  pub lined_more : (jobs left rest : List J) (job : J) (v w : Hand J) (position next : ℕ) → LinedUp jobs left v position → left ≡ job ∷ rest → w ≡ hand v.parts (v.jobs ++ job ∷ []) v.taken → next ≡ position + 1 → LinedUp jobs rest w next
  lined_more jobs left rest job v w position next l is more up = record {
    front = l.front ++ job ∷ [];
    parts = l.parts ∙ ap (λ ys. l.front ++ ys) is ∙ sym (append_assoc l.front (job ∷ []) rest);
    is = more ∙ ap (λ (u : Hand J). hand u.parts (u.jobs ++ job ∷ []) u.taken) l.is;
    at = let a = length-append l.front (job ∷ []) in omega (arith, a, up, l.at);
  }

  pub lined_all : (jobs left : List J) (v : Hand J) (position : ℕ) → LinedUp jobs left v position → left ≡ [] → v ≡ hand all_parts jobs []
  lined_all jobs left v position l none = l.is ∙ ap (λ js. hand all_parts js []) (sym (l.parts ∙ ap (λ ys. l.front ++ ys) none ∙ append-nil l.front))

  -- there is a job that is not in line yet
  pub lined_few : (jobs left rest : List J) (job : J) (v : Hand J) (position : ℕ) → LinedUp jobs left v position → left ≡ job ∷ rest → position < length jobs
  lined_few jobs left rest job v position l is =
      let a = ap length (l.parts ∙ ap (λ ys. l.front ++ ys) is) in
      let b = length-append l.front (job ∷ rest) in
      omega (arith, a, b, l.at)

  -- so the line is not full
  pub lined_room : (jobs left rest : List J) (job : J) (v : Hand J) (position : ℕ) (items : List (ℕ × J)) → LinedUp jobs left v position → left ≡ job ∷ rest → length items ≡ length jobs → length items ≤ length v.jobs → ⊥
  lined_room jobs left rest job v position items l is full few =
      let a = lined_few jobs left rest job v position l is in
      let b = ap (λ (u : Hand J). length u.jobs) l.is in
      absurd (omega (arith, a, b, full, few, l.at))
