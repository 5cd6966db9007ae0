-- The stretches of a job's key stream that blind its relays.
use Rattle.std.proofs.Common.{◌≡◌, ◌<◌, ◌≤◌, ◌+◌, ◌*◌, ◌⊎◌, ⊎_elim, inl, inr, ℕ, zero, suc, Bool, true, false, List, [], ◌∷◌, ◌++◌, length, refl, ap, sym, ◌∙◌, subst, arith, eqb-true, length-append}
use Rattle.std.specs.Prelude.{◌==◌, Option, Some, None, filter, if◌then◌else◌, slice_get}
use Rattle.std.proofs.lemmas.Bool.{cases_lt, eq-eqb}
use Rattle.std.proofs.lemmas.List.{length-map}
use Rattle.std.proofs.lemmas.Option.{same_Some, slice_get_within}
use Rattle.pot_bytes.proofs.Elements.{element_at}
use Rattle.pot_machine.specs.declared.entry.Entry.{Entry}
use Rattle.pot_machine.specs.declared.entry.Entry.TheVariants.{Begin}
use Rattle.pot_pads.specs.Pads.{Pads, bytes_from, moved, next_bytes, pads_of, stream}
use Rattle.pot_pads.proofs.PadsLemmas.{moved-moved, moved-zero, next_bytes-moved}
use Rattle.pot_group.specs.Group.{GroupView}
use Rattle.pot_shared.specs.declared.member.Logged.{Logged}
use Rattle.pot_shared.specs.Blinded.{HaveBlinds, job_blinds}
use Rattle.pot_shared.specs.Blinds.{AreDrawn, Draw, blinds_for, dropped}
use Rattle.pot_shared.specs.MendCalls.{drawn}
use Rattle.pot_shared.specs.Members.{kept_log}
use Rattle.pot_shared.specs.Works.{blind_with, blinds_in, of_job}
use Rattle.pot_shared.proofs.DrawLemmas.{drawn_on}
use Rattle.pot_shared.proofs.MemberLemmas.{entries_kept}
use Rattle.pot_promises.specs.Stretches.{BlindsOfRun, HaveStretches, StreamsApart}

-- WHICH DRAW WENT TO A RELAY

abbrev at_hit : (ℕ → ℕ) → ℕ → ℕ
at_hit rest zero = 0
at_hit rest (suc i) = suc (rest i)

-- the place of the draw that went to a relay of the group
abbrev place : ℕ → List Draw → ℕ → ℕ
place g [] i = 0
place g (None ∷ ds) i = suc (place g ds i)
place g (Some h ∷ ds) i = if h == g then at_hit (place g ds) i else suc (place g ds i)

-- how many went to the group
abbrev count : ℕ → List Draw → ℕ
count g [] = 0
count g (None ∷ ds) = count g ds
count g (Some h ∷ ds) = if h == g then suc (count g ds) else count g ds

count_at : (g h : ℕ) (pads : Pads) (ds : List Draw) → length (blinds_for g (moved pads 1024) ds) ≡ count g ds → (b : Bool)
    → length ((if b then next_bytes pads 1024 ∷ [] else []) ++ blinds_for g (moved pads 1024) ds) ≡ (if b then suc (count g ds) else count g ds)
count_at g h pads ds more true = ap suc more
count_at g h pads ds more false = more

count_is : (g : ℕ) (pads : Pads) (ds : List Draw) → length (blinds_for g pads ds) ≡ count g ds
count_is g pads [] = refl
count_is g pads (None ∷ ds) = count_is g (moved pads 1024) ds
count_is g pads (Some h ∷ ds) = count_at g h pads ds (count_is g (moved pads 1024) ds) (h == g)

-- a blind is the stretch of its place
abbrev IsAt : ℕ → Pads → List Draw → Type 0
IsAt g pads ds = (i : ℕ) (blind : List ℕ) → slice_get (blinds_for g pads ds) i ≡ Some blind → blind ≡ next_bytes (drawn pads (place g ds i)) 1024

later : (pads : Pads) (n : ℕ) → next_bytes (drawn (moved pads 1024) n) 1024 ≡ next_bytes (drawn pads (suc n)) 1024
later pads n = ap (λ p. next_bytes p 1024) (drawn_on pads n)

at_some : (g : ℕ) (pads : Pads) (ds : List Draw) → IsAt g (moved pads 1024) ds → (b : Bool) (i : ℕ) (blind : List ℕ)
    → slice_get ((if b then next_bytes pads 1024 ∷ [] else []) ++ blinds_for g (moved pads 1024) ds) i ≡ Some blind
    → blind ≡ next_bytes (drawn pads (if b then at_hit (place g ds) i else suc (place g ds i))) 1024
at_some g pads ds more true zero blind at = same_Some blind (next_bytes pads 1024) (sym at)
at_some g pads ds more true (suc i) blind at = more i blind at ∙ later pads (place g ds i)
at_some g pads ds more false i blind at = more i blind at ∙ later pads (place g ds i)

is_at : (g : ℕ) (pads : Pads) (ds : List Draw) → IsAt g pads ds
is_at g pads [] i blind at = absurd (let l = slice_get_within {A = List ℕ} [] i blind at in omega (arith, l))
is_at g pads (None ∷ ds) i blind at = is_at g (moved pads 1024) ds i blind at ∙ later pads (place g ds i)
is_at g pads (Some h ∷ ds) i blind at = at_some g pads ds (is_at g (moved pads 1024) ds) (h == g) i blind at

-- the stretches are of the job's stream
drawn_is : (seed : List ℕ) (session job n : ℕ) → drawn (pads_of seed session job) n ≡ moved (pads_of seed session job) (1024 * n)
drawn_is seed session job zero = moved-zero (pads_of seed session job) (omega arith)
drawn_is seed session job (suc n) =
    ap (λ p. moved p 1024) (drawn_is seed session job n)
    ∙ (moved-moved (pads_of seed session job) (1024 * n) 1024 ∙ ap (moved (pads_of seed session job)) (let e : 1024 * n + 1024 ≡ 1024 * suc n = omega arith in e))

stretch_is : (seed : List ℕ) (session job n : ℕ) → next_bytes (drawn (pads_of seed session job) n) 1024 ≡ bytes_from (stream seed session job) (1024 * n) 1024
stretch_is seed session job n = ap (λ p. next_bytes p 1024) (drawn_is seed session job n) ∙ next_bytes-moved seed session job (1024 * n) 1024

-- no two relays have one place
abbrev Once : List Draw → Type 0
Once ds = (g i h k : ℕ) → i < count g ds → k < count h ds → place g ds i ≡ place h ds k → (g ≡ h) × (i ≡ k)

once_some : (x : ℕ) (ds : List Draw) → Once ds → (g h : ℕ) (b c : Bool) → (x == g) ≡ b → (x == h) ≡ c → (i k : ℕ) → i < (if b then suc (count g ds) else count g ds) → k < (if c then suc (count h ds) else count h ds)
    → (if b then at_hit (place g ds) i else suc (place g ds i)) ≡ (if c then at_hit (place h ds) k else suc (place h ds k)) → (g ≡ h) × (i ≡ k)
once_some x ds more g h true true is js zero zero li lk same = (sym (eqb-true x g is) ∙ eqb-true x h js, refl)
once_some x ds more g h true true is js zero (suc k) li lk same = absurd (omega (arith, same))
once_some x ds more g h true true is js (suc i) zero li lk same = absurd (omega (arith, same))
once_some x ds more g h true true is js (suc i) (suc k) li lk same =
    (let both = more g i h k (omega (arith, li)) (omega (arith, lk)) (omega (arith, same)) in let e = both.1 in (both.0, omega (arith, e)))
once_some x ds more g h true false is js zero k li lk same = absurd (omega (arith, same))
once_some x ds more g h true false is js (suc i) k li lk same =
    (let both = more g i h k (omega (arith, li)) lk (omega (arith, same)) in
    let hit : (x == h) ≡ true = eq-eqb x h (eqb-true x g is ∙ both.0) in absurd (let no = sym hit ∙ js in cc no))
once_some x ds more g h false true is js i zero li lk same = absurd (omega (arith, same))
once_some x ds more g h false true is js i (suc k) li lk same =
    (let both = more g i h k li (omega (arith, lk)) (omega (arith, same)) in
    let hit : (x == g) ≡ true = eq-eqb x g (eqb-true x h js ∙ sym both.0) in absurd (let no = sym hit ∙ is in cc no))
once_some x ds more g h false false is js i k li lk same = more g i h k li lk (omega (arith, same))

once : (ds : List Draw) → Once ds
once [] g i h k li lk same = absurd (omega (arith, li))
once (None ∷ ds) g i h k li lk same = once ds g i h k li lk (omega (arith, same))
once (Some x ∷ ds) g i h k li lk same = once_some x ds (once ds) g h (x == g) (x == h) refl refl i k li lk same

-- HOW MANY DRAWS THERE ARE

within_some : (g : ℕ) (ds : List Draw) → ((i : ℕ) → i < count g ds → place g ds i < length ds) → (b : Bool) (i : ℕ) → i < (if b then suc (count g ds) else count g ds)
    → (if b then at_hit (place g ds) i else suc (place g ds i)) < suc (length ds)
within_some g ds more true zero lt = omega arith
within_some g ds more true (suc i) lt = (let l = more i (omega (arith, lt)) in omega (arith, l))
within_some g ds more false i lt = (let l = more i lt in omega (arith, l))

within : (g : ℕ) (ds : List Draw) (i : ℕ) → i < count g ds → place g ds i < length ds
within g [] i lt = absurd (omega (arith, lt))
within g (None ∷ ds) i lt = (let l = within g ds i lt in omega (arith, l))
within g (Some h ∷ ds) i lt = within_some g ds (within g ds) (h == g) i lt

-- those that went to the first groups
abbrev total : ℕ → List Draw → ℕ
total zero ds = 0
total (suc n) ds = count n ds + total n ds

total_none : (n : ℕ) (ds : List Draw) → total n (None ∷ ds) ≡ total n ds
total_none zero ds = refl
total_none (suc n) ds = ap (λ k. count n ds + k) (total_none n ds)

count_other : (g h : ℕ) (ds : List Draw) → (h ≡ g → ⊥) → count g (Some h ∷ ds) ≡ count g ds
count_other g h ds ne = by (h == g) refl
  where
    by : (b : Bool) → (h == g) ≡ b → (if h == g then suc (count g ds) else count g ds) ≡ count g ds
    by true is = absurd (ne (eqb-true h g is))
    by false is = rw is refl

count_here : (g : ℕ) (ds : List Draw) → count g (Some g ∷ ds) ≡ suc (count g ds)
count_here g ds = rw (eq-eqb g g refl) refl

total_past : (n h : ℕ) (ds : List Draw) → n ≤ h → total n (Some h ∷ ds) ≡ total n ds
total_past zero h ds le = refl
total_past (suc n) h ds le =
    (let a = count_other n h ds (λ e. absurd (omega (arith, e, le))) in let b = total_past n h ds (omega (arith, le)) in omega (arith, a, b))

total_some : (n h : ℕ) (ds : List Draw) → h < n → total n (Some h ∷ ds) ≡ suc (total n ds)
total_some zero h ds lt = absurd (omega (arith, lt))
total_some (suc n) h ds lt = ⊎_elim
    (λ (below : h < n). (let a = count_other n h ds (λ e. absurd (omega (arith, e, below))) in let b = total_some n h ds below in let z : count n (Some h ∷ ds) + total n (Some h ∷ ds) ≡ suc (count n ds + total n ds) = omega (arith, a, b) in z))
    (λ (at : n ≤ h). (let same : h ≡ n = omega (arith, at, lt) in
    let a : count n (Some h ∷ ds) ≡ suc (count n ds) = subst (λ m. count n (Some m ∷ ds) ≡ suc (count n ds)) (sym same) (count_here n ds) in
    let b = total_past n h ds at in let z : count n (Some h ∷ ds) + total n (Some h ∷ ds) ≡ suc (count n ds + total n ds) = omega (arith, a, b) in z))
    (cases_lt h n)

fewer : (g h : ℕ) (ds : List Draw) → count g (Some h ∷ ds) ≡ 0 → count g ds ≡ 0
fewer g h ds none = by (h == g) refl
  where
    by : (b : Bool) → (h == g) ≡ b → count g ds ≡ 0
    by true is = absurd (let some : count g (Some h ∷ ds) ≡ suc (count g ds) = rw is refl in omega (arith, some, none))
    by false is = (let same : count g (Some h ∷ ds) ≡ count g ds = rw is refl in sym same ∙ none)

-- all draws went to these groups, or to no relay
all_draws : (n : ℕ) (ds : List Draw) → ((g : ℕ) → n ≤ g → count g ds ≡ 0) → length ds ≡ dropped ds + total n ds
all_draws n [] none = (let z : 0 ≡ 0 + total n [] = no_total n in z)
  where
    no_total : (m : ℕ) → 0 ≡ 0 + total m []
    no_total zero = refl
    no_total (suc m) = (let a = no_total m in omega (arith, a))
all_draws n (None ∷ ds) none = (let a = all_draws n ds none in let b = total_none n ds in omega (arith, a, b))
all_draws n (Some h ∷ ds) none =
    (let a = all_draws n ds (λ g le. fewer g h ds (none g le)) in let b = total_some n h ds (below (cases_lt h n)) in omega (arith, a, b))
  where
    below : (h < n) ⊎ (n ≤ h) → h < n
    below (inl lt) = lt
    below (inr le) = absurd (let some = count_here h ds in let no = none h le in omega (arith, some, no))

total_few : (n : ℕ) (ds : List Draw) → ((g : ℕ) → count g ds ≤ 262144) → total n ds ≤ n * 262144
total_few zero ds few = omega arith
total_few (suc n) ds few = (let a = few n in let b = total_few n ds few in omega (arith, a, b))

-- THE LAW

drawn_stretches : (seed : List ℕ) (session job : ℕ) (its : ℕ → List (List ℕ)) → AreDrawn (pads_of seed session job) its → ((g : ℕ) → length (its g) ≤ 262144) → ((g : ℕ) → 16 ≤ g → its g ≡ [])
    → HaveStretches seed session job its
drawn_stretches seed session job its d short none = record {
  at = λ g i. place g d.draws i;
  are = λ g i blind at. is_at g pads d.draws i blind (subst (λ bs. slice_get bs i ≡ Some blind) (d.are g) at) ∙ stretch_is seed session job (place g d.draws i);
  once = λ g i h k li lk same. once d.draws g i h k (counted g i li) (counted h k lk) same;
  inside = λ g i lt. (let a = within g d.draws i (counted g i lt) in let b = long in omega (arith, a, b));
}
  where
    pads : Pads
    pads = pads_of seed session job

    counts : (g : ℕ) → length (its g) ≡ count g d.draws
    counts g = ap length (d.are g) ∙ count_is g pads d.draws

    counted : (g i : ℕ) → i < length (its g) → i < count g d.draws
    counted g i lt = (let a = counts g in omega (arith, a, lt))

    long : length d.draws ≤ 4325376
    long =
        let all = all_draws 16 d.draws (λ g le. sym (counts g) ∙ ap length (none g le)) in
        let few = d.few in
        let most = total_few 16 d.draws (λ g. (let a = counts g in let b = short g in omega (arith, a, b))) in
        omega (arith, all, few, most)

-- no more blinds than entries
blind_few : (o : Option (List ℕ)) (e : Entry) → length (blind_with o e) ≤ 1
blind_few None e = omega arith
blind_few (Some b) (Begin job s c) = omega arith
blind_few (Some b) _ = omega arith

blinds_few : (ls : List Logged) → length (blinds_in ls) ≤ length ls
blinds_few [] = omega arith
blinds_few (l ∷ ls) = (let a = blind_few l.blind l.entry in let b = blinds_few ls in let c = length-append (blind_with l.blind l.entry) (blinds_in ls) in omega (arith, a, b, c))

filter_few : (test : Logged → Bool) (ls : List Logged) → length (filter test ls) ≤ length ls
filter_few test [] = omega arith
filter_few test (l ∷ ls) = by (test l) refl (filter_few test ls)
  where
    by : (b : Bool) → test l ≡ b → length (filter test ls) ≤ length ls → length (filter test (l ∷ ls)) ≤ suc (length ls)
    by true is more = rw is (let z : suc (length (filter test ls)) ≤ suc (length ls) = omega (arith, more) in z)
    by false is more = rw is (let z : length (filter test ls) ≤ suc (length ls) = omega (arith, more) in z)

view_few : (job : ℕ) (g : GroupView) → length g.log ≤ 262144 → length (job_blinds job g) ≤ 262144
view_few job g few =
    (let a = blinds_few (filter (of_job job) (kept_log g)) in let b = filter_few (of_job job) (kept_log g) in
    let c = length-map (kept_log g) (λ l. l.entry) in let d = ap length (entries_kept g) in omega (arith, a, b, c, d, few))

pub blinds_of_run : BlindsOfRun
blinds_of_run seed careful first steps room sink desk answer image c job some =
    let its = c.blinded job some in (
      its.0,
      its.1,
      drawn_stretches seed first.session job its.0 its.2 (short its.0 its.1) (λ g le. its.1.none g (let n = image.together.tables.count in let m = image.together.rack.groups.1 in omega (arith, n, m, le))),
    )
  where
    short : (its : ℕ → List (List ℕ)) → HaveBlinds c.leaves.groups job its → (g : ℕ) → length (its g) ≤ 262144
    short its have g = ⊎_elim
        (λ (lt : g < length first.tables). (let t = element_at first.tables g lt in
        let u = element_at c.last.tables g (let n = c.leaves.groups.count in omega (arith, lt, n)) in
        let l = element_at c.last.group_logs g (let n = c.leaves.groups.count_logs in omega (arith, lt, n)) in
        let left = c.leaves.groups.each g t.0 u.0 l.0 t.1 u.1 l.1 in
        subst (λ bs. length bs ≤ 262144) (have.are g t.0 u.0 l.0 t.1 u.1 l.1) (view_few job left.view left.settled.bound)))
        (λ (le : length first.tables ≤ g). (let none = ap length (have.none g le) in let z : length (its g) ≤ 262144 = omega (arith, none) in z))
        (cases_lt g (length first.tables))

pub streams_apart : StreamsApart
streams_apart s j t k lj lk same = (let e : s ≡ t = omega (arith, lj, lk, same) in e, let e : j ≡ k = omega (arith, lj, lk, same) in e)
