-- Each step keeps the rule of a line.
use Rattle.std.proofs.Common.{◌≡◌, ◌≢◌, ⊎_elim, ℕ, zero, suc, ◌+◌, ◌-◌, ◌<◌, ◌≤◌, List, [], ◌∷◌, ◌++◌, length, length-append, set, sym, refl, ap, ◌∙◌, subst, arith}
use Rattle.std.specs.Prelude.{Some, slice_get, if◌then◌else◌}
use Rattle.std.proofs.lemmas.Bool.{cases_order, eq-eqb, ne_eqb}
use mathlib.Core.Option.{some, some-injective, some-ne-none}
use lib.ListN.{get_elem?}
use Rattle.crossbeam_queue.specs.Fifo.{Pushes, Pops, Forks, Merges, Learns}
use Rattle.crossbeam_queue.proofs.Lists.{at_set, at_snoc}
use Rattle.pot_work.specs.declared.claims.Hand.{Hand}
use Rattle.pot_work.specs.Claims.{hand, weigh, one_at, times, stands, all_parts, FitsJobs, Claimed, TookOne, TookAll}
use Rattle.pot_work.proofs.Weights.{weigh_append, weigh_set, least, least_two, only, get_front, get_last, get_either}

pub one_here : (p q : ℕ) → q ≡ p → one_at p q ≡ 1
one_here p q e = ap (λ b. if b then 1 else 0) (eq-eqb q p e)

pub one_else : (p q : ℕ) → (q ≡ p → ⊥) → one_at p q ≡ 0
one_else p q n = ap (λ b. if b then 1 else 0) (ne_eqb q p n)

module _ {J : Type 0} where
  abbrev Each : List J → List (Hand J) → Type 0
  Each jobs views = (by : ℕ) (v : Hand J) → get_elem? views by ≡ some v → FitsJobs jobs v

  fits_set : (jobs : List J) (views : List (Hand J)) (by : ℕ) (w : Hand J) → FitsJobs jobs w → ((j : ℕ) (u : Hand J) → j ≢ by → get_elem? views j ≡ some u → FitsJobs jobs u) → Each jobs (set views by w)
  fits_set jobs views by w mine others j u at = ⊎_elim (λ (x : (j ≡ by) × (w ≡ u)). subst (FitsJobs jobs) x.1 mine) (λ (x : (j ≢ by) × (get_elem? views j ≡ some u)). others j u x.0 x.1) (at_set views by j w u at)

  first_fits : (by : ℕ) (v : Hand J) → get_elem? (hand all_parts [] [] ∷ []) by ≡ some v → FitsJobs [] v
  first_fits zero v at = subst (FitsJobs []) (some-injective (hand all_parts [] []) v at) (record { idle = λ no. refl; held = λ _. refl })
  first_fits (suc by) v at = absurd (some-ne-none v (sym at))

  pub begins : Claimed {J = J} [] (hand all_parts [] [] ∷ [])
  begins = record {
    jobs = [];
    parts = refl;
    each = λ by v at. first_fits by v at;
    once = λ p lt. absurd (omega (arith, lt));
    none = λ p le. refl;
    count = refl;
    queued = λ k x at. absurd (cc at);
  }

  -- WHO HAS ALL PARTS PUTS A JOB IN LINE

  module _ (v : Hand J) (job : J) (all : v.parts ≡ all_parts) where
    abbrev put : Hand J
    put = hand v.parts (v.jobs ++ job ∷ []) v.taken

    module _ (items : List (ℕ × J)) (views : List (Hand J)) (by : ℕ) (h : Claimed items views) (at : get_elem? views by ≡ some v) where
      same_jobs : v.jobs ≡ h.jobs
      same_jobs = (h.each by v at).held (omega (arith, all))

      others_idle : (j : ℕ) (u : Hand J) → j ≢ by → get_elem? views j ≡ some u → FitsJobs (v.jobs ++ job ∷ []) u
      others_idle j u other at' =
          let two = least_two (λ x. x.parts) views by j v u at at' other in
          let no : u.parts ≡ 0 = omega (arith, two, h.parts, all) in
          record { idle = (h.each j u at').idle; held = λ has. absurd (omega (arith, no, has)) }

      stands_more : (p : ℕ) → stands p (items ++ (length v.jobs, job) ∷ []) (set views by put) ≡ stands p items views + one_at p (length v.jobs)
      stands_more p =
          let a = weigh_append (λ x. one_at p x.0) items ((length v.jobs, job) ∷ []) in
          let b = weigh_set (λ u. times p u.taken) views by v put at in
          omega (arith, a, b)

      put_once : (p : ℕ) → p < length (v.jobs ++ job ∷ []) → stands p (items ++ (length v.jobs, job) ∷ []) (set views by put) ≡ 1
      put_once p lt =
          let longer = length-append v.jobs (job ∷ []) in
          let more = stands_more p in
          let known = ap length same_jobs in
          ⊎_elim
          (λ (same : length v.jobs ≡ p).
          let one = one_here p (length v.jobs) same in
          let was = h.none p (omega (arith, same, known)) in omega (arith, more, one, was))
          (λ apart. ⊎_elim
          (λ (behind : length v.jobs < p). absurd (omega (arith, lt, longer, behind)))
          (λ (before : p < length v.jobs).
          let none = one_else p (length v.jobs) (λ e. absurd (omega (arith, e, before))) in
          let was = h.once p (omega (arith, before, known)) in omega (arith, more, none, was))
          apart)
          (cases_order (length v.jobs) p)

      put_none : (p : ℕ) → length (v.jobs ++ job ∷ []) ≤ p → stands p (items ++ (length v.jobs, job) ∷ []) (set views by put) ≡ 0
      put_none p le =
          let longer = length-append v.jobs (job ∷ []) in
          let more = stands_more p in
          let behind : length v.jobs < p = omega (arith, le, longer) in
          let was = h.none p (omega (arith, behind, ap length same_jobs)) in
          let none = one_else p (length v.jobs) (λ e. absurd (omega (arith, e, behind))) in
          omega (arith, more, none, was)

      put_queued : (k : ℕ) (x : ℕ × J) → slice_get (items ++ (length v.jobs, job) ∷ []) k ≡ Some x → slice_get (v.jobs ++ job ∷ []) x.0 ≡ Some x.1
      put_queued k x at' =
          ⊎_elim
          (λ (old : slice_get items k ≡ Some x). get_front v.jobs (job ∷ []) x.0 x.1 (subst (λ js. slice_get js x.0 ≡ Some x.1) (sym same_jobs) (h.queued k x old)))
          (λ (new : (length v.jobs, job) ≡ x). subst (λ (y : ℕ × J). slice_get (v.jobs ++ job ∷ []) y.0 ≡ Some y.1) new (get_last v.jobs job))
          (get_either items (length v.jobs, job) k x at')

      put_keeps : Claimed (items ++ (length v.jobs, job) ∷ []) (set views by put)
      put_keeps = record {
        jobs = v.jobs ++ job ∷ [];
        parts = let a = weigh_set (λ u. u.parts) views by v put at in omega (arith, a, h.parts);
        each = fits_set (v.jobs ++ job ∷ []) views by put (record { idle = λ no. absurd (omega (arith, no, all)); held = λ _. refl }) others_idle;
        once = put_once;
        none = put_none;
        count =
            let a = weigh_set (λ u. length u.taken) views by v put at in
            let b = length-append items ((length v.jobs, job) ∷ []) in
            let c = length-append v.jobs (job ∷ []) in
            let d = ap length same_jobs in
            omega (arith, a, b, c, d, h.count);
        queued = put_queued;
      }

    pub puts : (n by p : ℕ) → p ≡ length v.jobs → Pushes Claimed n by v (p, job) (λ w. w ≡ hand v.parts (v.jobs ++ job ∷ []) v.taken)
    puts n by p is items views room h at =
        (put, subst (λ q. Claimed (items ++ (q, job) ∷ []) (set views by put)) (sym is) (put_keeps items views by h at), refl)

  -- a line holds no more than the jobs
  pub few : (by : ℕ) (v : Hand J) → 0 < v.parts → Learns Claimed by v (λ items. length items ≤ length v.jobs)
  few by v has items views h at = let e = ap length ((h.each by v at).held has) in omega (arith, h.count, e)

  -- WHO HAS A PART TAKES THE FIRST OF THE LINE

  module _ (v : Hand J) (x : ℕ × J) (has : 0 < v.parts) where
    abbrev took : Hand J
    took = hand v.parts v.jobs (v.taken ++ x.0 ∷ [])

    module _ (items : List (ℕ × J)) (views : List (Hand J)) (by : ℕ) (h : Claimed (x ∷ items) views) (at : get_elem? views by ≡ some v) where
      stands_same : (p : ℕ) → stands p items (set views by took) ≡ stands p (x ∷ items) views
      stands_same p =
          let a = weigh_set (λ u. times p u.taken) views by v took at in
          let b = weigh_append (one_at p) v.taken (x.0 ∷ []) in
          omega (arith, a, b)

      took_keeps : Claimed items (set views by took)
      took_keeps = record {
        jobs = h.jobs;
        parts = let a = weigh_set (λ u. u.parts) views by v took at in omega (arith, a, h.parts);
        each = fits_set h.jobs views by took (record { idle = λ no. absurd (omega (arith, no, has)); held = λ _. (h.each by v at).held has }) (λ j u other at'. h.each j u at');
        once = λ p lt. stands_same p ∙ h.once p lt;
        none = λ p le. stands_same p ∙ h.none p le;
        count =
            let a = weigh_set (λ u. length u.taken) views by v took at in
            let b = length-append v.taken (x.0 ∷ []) in
            omega (arith, a, b, h.count);
        queued = λ k y at'. h.queued (suc k) y at';
      }

      is_one : TookOne v x took
      is_one = record {
        is = refl;
        job = subst (λ js. slice_get js x.0 ≡ Some x.1) (sym ((h.each by v at).held has)) (h.queued 0 x refl);
        few =
            let a = least (λ u. length u.taken) views by v at in
            let e = ap length ((h.each by v at).held has) in
            omega (arith, a, e, h.count);
      }

  pub takes : (by : ℕ) (v : Hand J) → 0 < v.parts → Pops Claimed by v (TookOne v)
  takes by v has x items views h at = (took v x has, took_keeps v x has items views by h at, is_one v x has items views by h at)

  -- who has all parts learns that each position was taken once
  pub all : (by : ℕ) (v : Hand J) → Learns Claimed by v (TookAll v)
  all by v items views h at whole empty p lt =
      let jobs = ap length ((h.each by v at).held (omega (arith, whole))) in
      let one = h.once p (omega (arith, lt, jobs)) in
      let line : weigh (λ x. one_at p x.0) items ≡ 0 = ap (weigh (λ x. one_at p x.0)) empty in
      let mine = only (λ u. u.parts) (λ u. times p u.taken) views by v at (λ j u at' no. ap (times p) ((h.each j u at').idle no)) (h.parts ∙ sym whole) in
      omega (arith, one, line, mine)

  -- PARTS THAT ARE GIVEN AND COME BACK

  pub forks : (by : ℕ) (v : Hand J) → 1 < v.parts → Forks Claimed by v (hand (v.parts - 1) v.jobs v.taken) (hand 1 v.jobs [])
  forks by v more items views h at =
      let left = hand (v.parts - 1) v.jobs v.taken in
      let right = hand 1 v.jobs [] in
      let knows = (h.each by v at).held (omega (arith, more)) in
      record {
        jobs = h.jobs;
        parts = let a = weigh_set (λ u. u.parts) views by v left at in let b = weigh_append (λ u. u.parts) (set views by left) (right ∷ []) in omega (arith, a, b, h.parts, more);
        each = λ j u at'. ⊎_elim (λ (old : get_elem? (set views by left) j ≡ some u).
            fits_set h.jobs views by left (record { idle = λ no. absurd (omega (arith, no, more)); held = λ _. knows }) (λ i t other at''. h.each i t at'') j u old)
            (λ (new : right ≡ u). subst (FitsJobs h.jobs) new (record { idle = λ no. refl; held = λ _. knows })) (at_snoc (set views by left) right u j at');
        once = λ p lt. let a = weigh_set (λ u. times p u.taken) views by v left at in let b = weigh_append (λ u. times p u.taken) (set views by left) (right ∷ []) in omega (arith, a, b, h.once p lt);
        none = λ p le. let a = weigh_set (λ u. times p u.taken) views by v left at in let b = weigh_append (λ u. times p u.taken) (set views by left) (right ∷ []) in omega (arith, a, b, h.none p le);
        count = let a = weigh_set (λ u. length u.taken) views by v left at in let b = weigh_append (λ u. length u.taken) (set views by left) (right ∷ []) in omega (arith, a, b, h.count);
        queued = h.queued;
      }

  pub merges : (by : ℕ) (v : Hand J) (other : ℕ) (w : Hand J) → 0 < v.parts → Merges Claimed by v other w (hand (v.parts + w.parts) v.jobs (v.taken ++ w.taken)) (hand 0 [] [])
  merges by v other w has items views h at two at' =
      let both = hand (v.parts + w.parts) v.jobs (v.taken ++ w.taken) in
      let spent = hand 0 [] [] in
      let knows = (h.each by v at).held has in
      let halfway = fits_set h.jobs views by both (record { idle = λ no. absurd (omega (arith, no, has)); held = λ _. knows }) (λ i t apart at''. h.each i t at'') in
      let same_stands : (p : ℕ) → weigh (λ u. times p u.taken) (set (set views by both) other spent) ≡ weigh (λ u. times p u.taken) views =
      λ p. let a = weigh_set (λ u. times p u.taken) views by v both at in
      let b = weigh_set (λ u. times p u.taken) (set views by both) other w spent at' in
      let c = weigh_append (one_at p) v.taken w.taken in omega (arith, a, b, c) in
      record {
        jobs = h.jobs;
        parts = let a = weigh_set (λ u. u.parts) views by v both at in let b = weigh_set (λ u. u.parts) (set views by both) other w spent at' in omega (arith, a, b, h.parts);
        each = fits_set h.jobs (set views by both) other spent (record { idle = λ no. refl; held = λ has'. absurd (omega (arith, has')) }) (λ i t apart at''. halfway i t at'');
        once = λ p lt. ap (λ n. weigh (λ x. one_at p x.0) items + n) (same_stands p) ∙ h.once p lt;
        none = λ p le. ap (λ n. weigh (λ x. one_at p x.0) items + n) (same_stands p) ∙ h.none p le;
        count =
            let a = weigh_set (λ u. length u.taken) views by v both at in
            let b = weigh_set (λ u. length u.taken) (set views by both) other w spent at' in
            let c = length-append v.taken w.taken in
            omega (arith, a, b, c, h.count);
        queued = h.queued;
      }
