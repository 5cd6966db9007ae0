-- The actor of a number, and what it is after its seat changed.
use Rattle.std.proofs.Common.{◌≡◌, ℕ, zero, suc, ◌+◌, ◌<◌, List, [], ◌∷◌, ◌++◌, Option, Some, None, Bool, true, false, length, get_or, set, refl, sym, ap, ◌∙◌, subst, arith, if◌then◌else◌}
use Rattle.std.specs.Prelude.{◌==◌, option_map}
use Rattle.std.specs.List.{position}
use Rattle.std.proofs.lemmas.Bool.Decides.{nat_tests}
use Rattle.std.proofs.lemmas.List.{get_or_read}
use Rattle.std.proofs.lemmas.List.Quantifiers.{position-Some}
use Rattle.pot_index.proofs.NameLemmas.{at_false, at_true}
use Rattle.pot_index.specs.declared.record.Record.{Record}
use Rattle.pot_world.specs.World.{Actor, Gathered, UnderWay}
use Rattle.pot_actors.specs.declared.split.OpenSplit.{OpenSplit}
use Rattle.pot_actors.specs.Splits.{under_way_of}
use Rattle.pot_actors.specs.Seats.{SeatData, SitsAt, actor_at, actor_of, no_actor}

same_number : (a b : ℕ) → (a == b) ≡ true → b ≡ a
same_number a b e = grind (arith, nat_tests)

self_number : (a b : ℕ) → b ≡ a → (a == b) ≡ true
self_number a b e = grind (arith, nat_tests)

other_number : (a b n : ℕ) → (a == b) ≡ false → (n == a) ≡ true → (n == b) ≡ false
other_number a b n e f = grind (arith, nat_tests)

sits_from : (ss : List SeatData) (a at : ℕ) (d : SeatData) → at < length ss → (a == (get_or ss at d).number) ≡ true → ((k : ℕ) → k < at → (a == (get_or ss k d).number) ≡ false) → SitsAt ss a at
unfolding SitsAt
sits_from [] a at d lt here before = absurd (omega (arith, lt))
sits_from (s ∷ ss) a zero d lt here before = same_number a s.number here
sits_from (s ∷ ss) a (suc at) d lt here before = (before 0 (omega arith), sits_from ss a at d (omega (arith, lt)) here (λ k l. before (suc k) (omega (arith, l))))

pub sits_at : (ss : List SeatData) (a at : ℕ) (d : SeatData) → position (λ s. a == s.number) ss ≡ Some at → SitsAt ss a at
sits_at ss a at d e = let h = position-Some (λ (s : SeatData). a == s.number) ss at d e in sits_from ss a at d h.0 h.1 h.2

pub sits_within : (ss : List SeatData) (a at : ℕ) → SitsAt ss a at → at < length ss
unfolding SitsAt
sits_within [] a at h = absurd h
sits_within (s ∷ ss) a zero h = omega arith
sits_within (s ∷ ss) a (suc at) h = (let l = sits_within ss a at h.1 in omega (arith, l))

pub seat_is : (ss : List SeatData) (a at : ℕ) (s : SeatData) → SitsAt ss a at → s ≡ get_or ss at s → actor_at ss a ≡ actor_of s
unfolding SitsAt actor_at
seat_is [] a at s h is = absurd h
seat_is (x ∷ ss) a zero s h is = at_true (a == x.number) (actor_of x) (actor_at ss a) (self_number a x.number h) ∙ ap actor_of (sym is)
seat_is (x ∷ ss) a (suc at) s h is = at_false (a == x.number) (actor_of x) (actor_at ss a) h.0 ∙ seat_is ss a at s h.1 is

pub seat_number : (ss : List SeatData) (a at : ℕ) (s : SeatData) → SitsAt ss a at → s ≡ get_or ss at s → s.number ≡ a
unfolding SitsAt
seat_number [] a at s h is = absurd h
seat_number (x ∷ ss) a zero s h is = ap (λ (y : SeatData). y.number) is ∙ h
seat_number (x ∷ ss) a (suc at) s h is = seat_number ss a at s h.1 is

set_at : (ss : List SeatData) (a at : ℕ) (y : SeatData) → SitsAt ss a at → y.number ≡ a → (n : ℕ) → actor_at (set ss at y) n ≡ (if n == a then actor_of y else actor_at ss n)
unfolding SitsAt actor_at
set_at [] a at y h e n = absurd h
set_at (x ∷ ss) a zero y h e n = by (n == a) refl
  where
    by : (b : Bool) → (n == a) ≡ b → (if n == y.number then actor_of y else actor_at ss n) ≡ (if b then actor_of y else (if n == x.number then actor_of x else actor_at ss n))
    by true t = at_true (n == y.number) (actor_of y) (actor_at ss n) (subst (λ m. (n == m) ≡ true) (sym e) t)
    by false t =
        at_false (n == y.number) (actor_of y) (actor_at ss n) (subst (λ m. (n == m) ≡ false) (sym e) t)
        ∙ sym (at_false (n == x.number) (actor_of x) (actor_at ss n) (subst (λ m. (n == m) ≡ false) (sym h) t))
set_at (x ∷ ss) a (suc at) y h e n =
    ap (λ (z : Actor). if n == x.number then actor_of x else z) (set_at ss a at y h.1 e n) ∙ by (n == a) refl
  where
    by : (b : Bool) → (n == a) ≡ b → (if n == x.number then actor_of x else (if b then actor_of y else actor_at ss n)) ≡ (if b then actor_of y else (if n == x.number then actor_of x else actor_at ss n))
    by true t = at_false (n == x.number) (actor_of x) (actor_of y) (other_number a x.number n h.0 t)
    by false t = refl

-- the seat of an actor was written
pub seat_set : (ss : List SeatData) (a at : ℕ) (y : SeatData) → SitsAt ss a at → y.number ≡ a → actor_at (set ss at y) ≡ (λ n. if n == a then actor_of y else actor_at ss n)
seat_set ss a at y h e i n = set_at ss a at y h e n i

-- and of the seat it still is
pub sits_still : (ss : List SeatData) (a at : ℕ) (y : SeatData) → SitsAt ss a at → y.number ≡ a → SitsAt (set ss at y) a at
unfolding SitsAt
sits_still [] a at y h e = absurd h
sits_still (x ∷ ss) a zero y h e = e
sits_still (x ∷ ss) a (suc at) y h e = (h.0, sits_still ss a at y h.1 e)

-- with what the actor had before, nothing changed
same_at : (actors : ℕ → Actor) (a : ℕ) (x : Actor) → actors a ≡ x → (n : ℕ) → (if n == a then x else actors n) ≡ actors n
same_at actors a x e n = by (n == a) refl
  where
    by : (b : Bool) → (n == a) ≡ b → (if b then x else actors n) ≡ actors n
    by true t = sym e ∙ ap actors (same_number n a t)
    by false t = refl

pub same_actor : (actors : ℕ → Actor) (a : ℕ) (x : Actor) → actors a ≡ x → ◌≡◌ {A = ℕ → Actor} (λ n. if n == a then x else actors n) actors
same_actor actors a x e i n = same_at actors a x e n i

-- A SEAT MORE

abbrev pub no_seat : SeatData
no_seat = record { number = 0; split = None; found = None; gathered = []; file = None }

more_at : (ss : List SeatData) (y : SeatData) → actor_of y ≡ no_actor → (n : ℕ) → actor_at (ss ++ y ∷ []) n ≡ actor_at ss n
unfolding actor_at
more_at [] y e n = by (n == y.number)
  where
    by : (b : Bool) → (if b then actor_of y else no_actor) ≡ no_actor
    by true = e
    by false = refl
more_at (x ∷ ss) y e n = ap (λ (z : Actor). if n == x.number then actor_of x else z) (more_at ss y e n)

pub seat_more : (ss : List SeatData) (y : SeatData) → actor_of y ≡ no_actor → actor_at (ss ++ y ∷ []) ≡ actor_at ss
seat_more ss y e i n = more_at ss y e n i

pub sits_more : (ss : List SeatData) (a : ℕ) (y : SeatData) → y.number ≡ a → ((k : ℕ) (d : SeatData) → k < length ss → (a == (get_or ss k d).number) ≡ false) → SitsAt (ss ++ y ∷ []) a (length ss)
unfolding SitsAt
sits_more [] a y e none = e
sits_more (x ∷ ss) a y e none = (none 0 x (omega arith), sits_more ss a y e (λ k d l. none (suc k) d (omega (arith, l))))

-- A SEAT WRITTEN

set_twice : (ss : List SeatData) (at : ℕ) (x y : SeatData) → set (set ss at x) at y ≡ set ss at y
set_twice [] at x y = refl
set_twice (s ∷ ss) zero x y = refl
set_twice (s ∷ ss) (suc at) x y = ap (λ (zs : List SeatData). s ∷ zs) (set_twice ss at x y)

set_here : (ss : List SeatData) (at : ℕ) (y d : SeatData) → at < length ss → get_or (set ss at y) at d ≡ y
set_here [] at y d lt = absurd (omega (arith, lt))
set_here (s ∷ ss) zero y d lt = refl
set_here (s ∷ ss) (suc at) y d lt = set_here ss at y d (omega (arith, lt))

module _ (ss : List SeatData) (a at : ℕ) (s : SeatData) (sits : SitsAt ss a at) (here : s ≡ get_or ss at s) where
  pub at_seat : actor_at ss a ≡ actor_of s
  at_seat = seat_is ss a at s sits here

  same_seat : (y : SeatData) → y.number ≡ s.number → (x : Actor) → actor_of y ≡ x → actor_at (set ss at y) ≡ (λ n. if n == a then x else actor_at ss n)
  same_seat y e x is = seat_set ss a at y sits (e ∙ seat_number ss a at s sits here) ∙ (λ i n. if n == a then is i else actor_at ss n)

  -- another split is under way, or none
  pub split_set : (y : SeatData) (o : Option OpenSplit) (v : Option UnderWay) → y ≡ record s { split = o } → option_map under_way_of o ≡ v
      → actor_at (set ss at y) ≡ (λ n. if n == a then record (actor_at ss a) { under_way = v } else actor_at ss n)
  split_set y o v e is =
      same_seat y (ap (λ (z : SeatData). z.number) e) (record (actor_at ss a) { under_way = v })
      (ap actor_of e ∙ (λ i. record { under_way = is i; found = (sym at_seat i).found; gathered = (sym at_seat i).gathered }))

  -- another record was found, or more was gathered
  pub found_set : (y : SeatData) (found : Option Record) (gathered : List Gathered) (file : Option (List ℕ)) → y ≡ record s { found = found; gathered = gathered; file = file }
      → actor_at (set ss at y) ≡ (λ n. if n == a then record (actor_at ss a) { found = found; gathered = gathered } else actor_at ss n)
  found_set y found gathered file e =
      same_seat y (ap (λ (z : SeatData). z.number) e) (record (actor_at ss a) { found = found; gathered = gathered })
      (ap actor_of e ∙ (λ i. record { under_way = (sym at_seat i).under_way; found = found; gathered = gathered }))

  -- the split was taken out, and one was put back
  pub split_back : (y s' y' : SeatData) (u : OpenSplit) (v : UnderWay) → y ≡ record s { split = None } → s' ≡ get_or (set ss at y) at s' → y' ≡ record s' { split = Some u } → under_way_of u ≡ v
      → actor_at (set (set ss at y) at y') ≡ (λ n. if n == a then record (actor_at ss a) { under_way = Some v } else actor_at ss n)
  split_back y s' y' u v e read e' is =
      let was : s' ≡ record s { split = None } = read ∙ set_here ss at y s' (sits_within ss a at sits) ∙ e in
      let now : y' ≡ record s { split = Some u } = e' ∙ ap (λ (z : SeatData). record z { split = Some u }) was in
      ap actor_at (set_twice ss at y y') ∙ split_set y' (Some u) (Some v) now (ap Some is)

  -- the very split was put back
  pub put_back : (y s' y' : SeatData) (u w : OpenSplit) → s.split ≡ Some w → y ≡ record s { split = None } → s' ≡ get_or (set ss at y) at s' → y' ≡ record s' { split = Some u } → under_way_of u ≡ under_way_of w
      → actor_at (set (set ss at y) at y') ≡ actor_at ss
  put_back y s' y' u w had e read e' is =
      split_back y s' y' u (under_way_of w) e read e' is
      ∙ same_actor (actor_at ss) a (record (actor_at ss a) { under_way = Some (under_way_of w) })
      (at_seat ∙ (λ i. record { under_way = ap (option_map under_way_of) had i; found = (sym at_seat i).found; gathered = (sym at_seat i).gathered }))

  -- nothing was there to be taken out
  pub none_taken : (y : SeatData) → s.split ≡ None → y ≡ record s { split = None } → actor_at (set ss at y) ≡ actor_at ss
  none_taken y had e =
      split_set y None None e refl
      ∙ same_actor (actor_at ss) a (record (actor_at ss a) { under_way = None })
      (at_seat ∙ (λ i. record { under_way = ap (option_map under_way_of) had i; found = (sym at_seat i).found; gathered = (sym at_seat i).gathered }))

  pub has_none : s.split ≡ None → (actor_at ss a).under_way ≡ None
  has_none e = ap (λ (x : Actor). x.under_way) at_seat ∙ ap (option_map under_way_of) e

  pub has_some : (u : OpenSplit) → s.split ≡ Some u → (actor_at ss a).under_way ≡ Some (under_way_of u)
  has_some u e = ap (λ (x : Actor). x.under_way) at_seat ∙ ap (option_map under_way_of) e

-- a seat that is read twice
pub same_read : (ss : List SeatData) (at : ℕ) (s t : SeatData) → at < length ss → s ≡ get_or ss at s → t ≡ get_or ss at t → s ≡ t
same_read ss at s t lt h k = get_or_read ss at s lt h t ∙ sym k

-- nobody has the number
pub nobody : (ss : List SeatData) (a : ℕ) → ((k : ℕ) (d : SeatData) → k < length ss → (a == (get_or ss k d).number) ≡ false) → actor_at ss a ≡ no_actor
unfolding actor_at
nobody [] a none = refl
nobody (s ∷ ss) a none = at_false (a == s.number) (actor_of s) (actor_at ss a) (none 0 s (omega arith)) ∙ nobody ss a (λ k d l. none (suc k) d (omega (arith, l)))

pub no_actors : ◌≡◌ {A = ℕ → Actor} (actor_at []) (λ n. no_actor)
unfolding actor_at
no_actors = refl
