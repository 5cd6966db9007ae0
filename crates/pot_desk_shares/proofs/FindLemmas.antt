-- Points that are found, and shares that stand at them.
use Rattle.std.proofs.Common.{◌≡◌, ◌≢◌, ◌≤◌, ◌<◌, ◌⊎◌, inl, inr, ◌+◌, ◌*◌, ◌++◌, ◌∷◌, ◌&&◌, ◌==◌, [], ℕ, zero, suc, Bool, true, false, List, Option, Some, None, MatchOption, is_some, length, take, get_or, slice_get, slice_index_or, nat_eq, refl, ap, ap₂, sym, subst, ◌∙◌, arith, length-append}
use Rattle.std.specs.List.{flat_map, All, AllByRecursion, Contains, IsDistinct}
use Rattle.std.proofs.lemmas.Bool.{cases_lt, ne_eqb}
use Rattle.std.proofs.lemmas.Bool.Decides.{Decides-eqb}
use Rattle.std.proofs.lemmas.Cmp.{nat_eq_equiv}
use Rattle.std.proofs.lemmas.Grind.{flat_map-append}
use Rattle.std.proofs.lemmas.List.{append-nil, length-map, map-append, take_more}
use Rattle.std.proofs.lemmas.List.Elements.{Contains-get_or}
use Rattle.std.proofs.lemmas.Map.Made.{is_member-Decides, length-le_from_is_member}
use Rattle.std.proofs.lemmas.Option.{get_or_from_slice_get, same_Some, slice_get-get_or, slice_get_within}
use Rattle.pot_bytes.proofs.Elements.{contains_back, contains_front, contains_later, none_contained, one_contained}
use Rattle.pot_split.proofs.ThresholdLaws.{one_row_more}
use Rattle.pot_desk_shares.specs.Finding.{AreFound, AreRows, HasHead, IsShareAt, IsComplete, IsLatest, IsNewer, IsOfComplete, IsThere}
use Rattle.pot_desk_shares.specs.Joins.{at_point, point_of, points_of, AreAtDistinctPoints, AreEnoughShares, IsShareHeld, IsNewest}
use Rattle.pot_desk_shares.specs.declared.share.DeskShare.{DeskShare}
use Rattle.pot_desk_shares.specs.declared.share.ShareHead.{ShareHead}

-- LISTS

pub contained_at : {X : Type 0} (xs : List X) (k : ℕ) (x : X) → slice_get xs k ≡ Some x → Contains xs x
contained_at xs k x e = (k, slice_get_within xs k x e, get_or_from_slice_get xs k x x e)

pub place_in : {X : Type 0} (xs : List X) (x : X) → Contains xs x → (k : ℕ) × (k < length xs) × (slice_get xs k ≡ Some x)
place_in xs x h = (h.0, h.1, slice_get-get_or xs h.0 x h.1 ∙ ap Some h.2)

-- numbers with no two equal, each of which another list contains, are at most as many as that has
pub no_longer : (xs ys : List ℕ) → IsDistinct nat_eq xs → ((x : ℕ) → Contains xs x → Contains ys x) → length xs ≤ length ys
no_longer xs ys apart within =
    length-le_from_is_member nat_eq_equiv xs ys apart
    (λ q h. (is_member-Decides Decides-eqb ys q).1 (within q ((is_member-Decides Decides-eqb xs q).0 h)))

all_with : (P : ℕ → Type 0) (xs : List ℕ) (y : ℕ) → AllByRecursion P xs → P y → AllByRecursion P (xs ++ y ∷ [])
all_with P [] y h p = (p, tt)
all_with P (x ∷ xs) y h p = (h.0, all_with P xs y h.1 p)

-- a number that is greater than all may be added
pub distinct_with : (xs : List ℕ) (y : ℕ) → IsDistinct nat_eq xs → ((x : ℕ) → Contains xs x → x < y) → IsDistinct nat_eq (xs ++ y ∷ [])
unfolding IsDistinct
distinct_with [] y apart below = (tt, tt)
distinct_with (x ∷ xs) y apart below =
    let lt : x < y = below x (0, omega arith, refl) in
    let ne : x ≢ y = omega arith in
    (all_with (λ z. nat_eq x z ≡ false) xs y apart.0 (ne_eqb x y ne), distinct_with xs y apart.1 (λ z h. below z (contains_later x z xs h)))

in_either : {X : Type 0} (xs : List X) (y z : X) → Contains (xs ++ y ∷ []) z → Contains xs z ⊎ (y ≡ z)
in_either [] y z h = inr (one_contained y z h)
in_either (x ∷ xs) y z (zero, lt, is) = inl (0, omega arith, is)
in_either (x ∷ xs) y z (suc k, lt, is) = elim (in_either xs y z (k, omega (arith, lt), is)) [
  | inl h ↦ inl (contains_later x z xs h)
  | inr e ↦ inr e
]

-- the points of shares that are held
pub point_bounds : (shares : List DeskShare) (h : ShareHead) (s : DeskShare) → IsShareHeld shares h s → (1 ≤ s.head.point) × (s.head.point < 17)
point_bounds shares h s held =
    let ok = held.whole.head in
    (ok.point_first, omega (arith, ok.point_last, ok.count))

-- THE POINTS THAT ARE FOUND

pub found_none : (shares : List DeskShare) (h : ShareHead) → AreFound shares h 1 []
unfolding IsDistinct
found_none shares h = record {
  distinct = tt;
  below = λ x c. absurd (none_contained x c);
  each = λ x c. absurd (none_contained x c);
  few = omega arith;
  all = λ less x first below there. absurd (omega (arith, first, below));
}

-- a point that is there
pub found_more : (shares : List DeskShare) (h : ShareHead) (x : ℕ) (points : List ℕ) → AreFound shares h x points
    → length points < h.need → IsThere shares h x → AreFound shares h (x + 1) (points ++ x ∷ [])
found_more shares h x points f less there = record {
  distinct = distinct_with points x f.distinct f.below;
  below = λ y c. elim (in_either points x y c) [
    | inl old ↦ omega (arith, f.below y old)
    | inr e ↦ omega (arith, e)
  ];
  each = λ y c. elim (in_either points x y c) [
    | inl old ↦ f.each y old
    | inr e ↦ subst (IsThere shares h) e there
  ];
  few = omega (arith, length-append {A = ℕ} points (x ∷ []), less);
  all = λ l y first below t. elim (cases_lt y x) [
    | inl lt ↦ contains_front points (x ∷ []) y (f.all less y first lt t)
    | inr ge ↦ (let same : x ≡ y = omega (arith, ge, below) in contains_back points (x ∷ []) y (0, omega arith, same))
  ];
}

-- a point that is not there, or not asked for
pub found_same : (shares : List DeskShare) (h : ShareHead) (x : ℕ) (points : List ℕ) → AreFound shares h x points
    → (length points < h.need → ¬ IsThere shares h x) → AreFound shares h (x + 1) points
found_same shares h x points f none = record {
  distinct = f.distinct;
  below = λ y c. omega (arith, f.below y c);
  each = f.each;
  few = f.few;
  all = λ less y first below t. elim (cases_lt y x) [
    | inl lt ↦ f.all less y first lt t
    | inr ge ↦ (let same : y ≡ x = omega (arith, ge, below) in absurd (none less (subst (IsThere shares h) same t)))
  ];
}

-- beyond point 16 none is there
pub found_end : (shares : List DeskShare) (h : ShareHead) (n : ℕ) (points : List ℕ) → AreFound shares h n points → 17 ≤ n
    → AreFound shares h 17 points
found_end shares h n points f past = record {
  distinct = f.distinct;
  below = λ x c. let at = f.each x c in omega (arith, (point_bounds shares h at.0 at.1).1, at.2);
  each = f.each;
  few = f.few;
  all = λ less x first below there. f.all less x first (omega (arith, below, past)) there;
}

pub there_of : (shares : List DeskShare) (h : ShareHead) (x : ℕ) (r : Option ℕ) → MatchOption r (¬ IsThere shares h x) (λ at. IsShareAt shares h x at)
    → true ≡ is_some r → IsThere shares h x
there_of shares h x None none e = absurd (cc)
there_of shares h x (Some at) found e = (found.0, found.2, found.3)

pub none_of : (shares : List DeskShare) (h : ShareHead) (x : ℕ) (r : Option ℕ) → MatchOption r (¬ IsThere shares h x) (λ at. IsShareAt shares h x at)
    → false ≡ is_some r → ¬ IsThere shares h x
none_of shares h x None none e = none
none_of shares h x (Some at) found e = absurd (cc)

-- SHARES AT POINTS

-- at each point a share
pub chosen_at : (shares : List DeskShare) (h : ShareHead) (points : List ℕ) → ((x : ℕ) → Contains points x → IsThere shares h x)
    → (chosen : List DeskShare) × (points_of chosen ≡ points) × ((s : DeskShare) → Contains chosen s → IsShareHeld shares h s)
chosen_at shares h [] each = ([], refl, λ s c. absurd (none_contained s c))
chosen_at shares h (x ∷ points) each =
    let first = each x (0, omega arith, refl) in
    let rest = chosen_at shares h points (λ y c. each y (contains_later x y points c)) in
    let s = first.0 in
    let held : (t : DeskShare) → Contains (s ∷ rest.0) t → IsShareHeld shares h t = held_more shares h s rest.0 first.1 rest.2 in
    (s ∷ rest.0, ap₂ (λ (a : ℕ) (b : List ℕ). a ∷ b) first.2 rest.1, held)
  where
    held_more : (shares : List DeskShare) (h : ShareHead) (s : DeskShare) (chosen : List DeskShare) → IsShareHeld shares h s
        → ((t : DeskShare) → Contains chosen t → IsShareHeld shares h t) → (t : DeskShare) → Contains (s ∷ chosen) t → IsShareHeld shares h t
    held_more shares h s chosen first each t (zero, lt, is) = subst (IsShareHeld shares h) is first
    held_more shares h s chosen first each t (suc k, lt, is) = each t (k, omega (arith, lt), is)

-- a point of some shares is that of one of them
pub of_some : (chosen : List DeskShare) (x : ℕ) → Contains (points_of chosen) x → (s : DeskShare) × Contains chosen s × (s.head.point ≡ x)
of_some [] x h = absurd (none_contained x h)
of_some (s ∷ chosen) x (zero, lt, is) = (s, (0, omega arith, refl), is)
of_some (s ∷ chosen) x (suc k, lt, is) =
    let rest = of_some chosen x (k, omega (arith, lt), is) in
    (rest.0, contains_later s rest.0 chosen rest.1, rest.2)

-- where fewer points than are needed are found, no more shares are there
pub all_found : (shares : List DeskShare) (h : ShareHead) (points : List ℕ) (chosen : List DeskShare) → AreFound shares h 17 points
    → length points < h.need → AreAtDistinctPoints shares h chosen → length chosen ≤ length points
all_found shares h points chosen f less apart =
    let within : (x : ℕ) → Contains (points_of chosen) x → Contains points x =
    λ x c.
    let at = of_some chosen x c in
    let held = apart.each at.0 at.1 in
    let bounds = point_bounds shares h at.0 held in
    f.all less x (omega (arith, bounds.0, at.2)) (omega (arith, bounds.1, at.2)) (at.0, held, at.2) in
    omega (arith, no_longer (points_of chosen) points apart.distinct within, length-map chosen point_of)

-- the shares at the points that are found
pub apart_at : (shares : List DeskShare) (h : ShareHead) (points : List ℕ) → AreFound shares h 17 points
    → (chosen : List DeskShare) × AreAtDistinctPoints shares h chosen × (length chosen ≡ length points)
apart_at shares h points f =
    let c = chosen_at shares h points f.each in (
      c.0,
      record { distinct = subst (IsDistinct nat_eq) (sym c.1) f.distinct; each = c.2 },
      sym (length-map c.0 point_of) ∙ ap length c.1,
    )

-- a set is complete exactly where as many points are found as are needed
pub complete_by_points : (shares : List DeskShare) (h : ShareHead) (points : List ℕ) → AreFound shares h 17 points → 1 ≤ h.need
    → length points ≡ h.need → IsComplete shares h
complete_by_points shares h points f some e =
    let c = apart_at shares h points f in
    (c.0, record { some = some; enough = c.2 ∙ e; apart = c.1 })

pub points_of_complete : (shares : List DeskShare) (h : ShareHead) (points : List ℕ) → AreFound shares h 17 points → IsComplete shares h
    → length points ≡ h.need
points_of_complete shares h points f complete =
    elim (cases_lt (length points) h.need) [
      | inl less ↦ absurd (omega (arith, all_found shares h points complete.0 f less complete.1.apart, complete.1.enough, less))
      | inr ge ↦ omega (arith, ge, f.few)
    ]

-- a complete set is that of one of its shares
pub one_of_complete : (shares : List DeskShare) (h : ShareHead) (chosen : List DeskShare) → AreEnoughShares shares h chosen
    → (s : DeskShare) × Contains chosen s × IsShareHeld shares h s
one_of_complete shares h [] e = absurd (omega (arith, e.some, e.enough))
one_of_complete shares h (s ∷ chosen) e = (s, (0, omega arith, refl), e.apart.each s (0, omega arith, refl))

-- the set of a share's head is the set
pub same_set : (shares : List DeskShare) (h : ShareHead) (s : DeskShare) (chosen : List DeskShare) → IsShareHeld shares h s
    → AreEnoughShares shares h chosen → AreEnoughShares shares s.head chosen
same_set shares h s chosen held e = record {
  some = omega (arith, e.some, ap (λ (z : ShareHead). z.need) held.set);
  enough = e.enough ∙ sym (ap (λ (z : ShareHead). z.need) held.set);
  apart = record {
    distinct = e.apart.distinct;
    each = λ t c. let u = e.apart.each t c in record {
      there = u.there;
      whole = u.whole;
      set = u.set ∙ sym (ap (λ (z : ShareHead). at_point z t.head.point) held.set);
    };
  };
}

-- values of some shares of one length stand row by row
pub length-values : (long : ℕ) (chosen : List DeskShare) → ((s : DeskShare) → Contains chosen s → length s.body.now ≡ long)
    → length (flat_map (λ (s : DeskShare). s.body.now) chosen) ≡ length chosen * long
length-values long [] each = omega arith
length-values long (s ∷ chosen) each =
    let rest = length-values long chosen (λ t c. each t (contains_later s t chosen c)) in
    length-append s.body.now (flat_map (λ (t : DeskShare). t.body.now) chosen)
    ∙ ap₂ (λ (a b : ℕ). a + b) (each s (0, omega arith, refl)) rest
    ∙ one_row_more long (length chosen)

-- A SEARCH

pub found_share : (shares : List DeskShare) (h : ShareHead) (x : ℕ) (r : Option ℕ)
    → MatchOption r ((at : ℕ) (s : DeskShare) → at < length shares → ¬ HasHead shares (at_point h x) at s)
    (λ at. (s : DeskShare) × HasHead shares (at_point h x) at s)
    → MatchOption r (¬ IsThere shares h x) (λ at. IsShareAt shares h x at)
found_share shares h x None none =
    λ t.
    let at = place_in shares t.0 t.1.there in
    none at.0 t.0 at.1 (record { there = at.2; whole = t.1.whole; head = t.1.set ∙ ap (at_point h) t.2 })
found_share shares h x (Some at) found =
    let s = found.0 in
    let point : s.head.point ≡ x = ap (λ (z : ShareHead). z.point) found.1.head in (
      s,
      found.1.there,
      record {
        there = contained_at shares at s found.1.there;
        whole = found.1.whole;
        set = found.1.head ∙ ap (at_point h) (sym point);
      },
      point,
    )

-- heads of which a field differs are not the same
head_test : ShareHead → ShareHead → Bool
head_test a b =
    (a.need == b.need) && ((a.count == b.count) && ((a.point == b.point) && ((a.generation == b.generation)
    && ((a.set == b.set) && (a.length == b.length)))))

test_itself : (a : ShareHead) → head_test a a ≡ true
unfolding head_test
test_itself a =
    rw (
      (Decides-eqb a.need a.need).1 refl,
      (Decides-eqb a.count a.count).1 refl,
      (Decides-eqb a.point a.point).1 refl,
      (Decides-eqb a.generation a.generation).1 refl,
      (Decides-eqb a.set a.set).1 refl,
      (Decides-eqb a.length a.length).1 refl,
    ) refl

pub heads_differ : (a b : ShareHead) → false ≡ (a.need == b.need) && ((a.count == b.count) && ((a.point == b.point)
    && ((a.generation == b.generation) && ((a.set == b.set) && (a.length == b.length))))) → ¬ (a ≡ b)
unfolding head_test
heads_differ a b e same =
    let yes : head_test a b ≡ true = ap (λ (z : ShareHead). head_test z b) same ∙ test_itself b in
    let no : false ≡ true = e ∙ yes in
    cc

-- the next share has the head that is wanted, or has it not
pub not_here : (shares : List DeskShare) (h : ShareHead) (at : ℕ)
    → ((k : ℕ) (s : DeskShare) → k < at → ¬ HasHead shares h k s)
    → ((s : DeskShare) → ¬ HasHead shares h at s)
    → (k : ℕ) (s : DeskShare) → k < at + 1 → ¬ HasHead shares h k s
not_here shares h at before here k s lt has = elim (cases_lt k at) [
  | inl less ↦ before k s less has
  | inr ge ↦ (let same : k ≡ at = omega (arith, ge, lt) in here s (subst (λ (z : ℕ). HasHead shares h z s) same has))
]

-- THE NEWEST

-- the share that a list gives where it has none
abbrev pub nobody : DeskShare
nobody = record {
  head = record { need = 0; count = 0; point = 0; generation = 0; set = 0; length = 0 };
  body = record { ref_ptr = (0, 0); now = [] };
}

same_there : (shares : List DeskShare) (k at : ℕ) (s t : DeskShare) → k ≡ at → slice_get shares at ≡ Some s → slice_get shares k ≡ Some t
    → t.head.generation ≤ s.head.generation
same_there shares k at s t same here there =
    let e : t ≡ s = same_Some t s (sym there ∙ ap (slice_get shares) same ∙ here) in
    omega (arith, ap (λ (z : DeskShare). z.head.generation) e)

-- the first shares and the next, which is newer and has P
pub latest_more : (shares : List DeskShare) (P : DeskShare → Type 0) (at : ℕ) (best : Option ShareHead) (s : DeskShare)
    → IsLatest shares P at best → slice_get shares at ≡ Some s → IsNewer s.head best → P s
    → IsLatest shares P (at + 1) (Some s.head)
latest_more shares P at None s none here newer p = (
  (s, contained_at shares at s here, p, refl),
  λ k t lt there q. elim (cases_lt k at) [
    | inl less ↦ absurd (none k t less there q)
    | inr ge ↦ (let same : k ≡ at = omega (arith, ge, lt) in same_there shares k at s t same here there)
  ],
)
latest_more shares P at (Some h) s (found, most) here newer p = (
  (s, contained_at shares at s here, p, refl),
  λ k t lt there q. elim (cases_lt k at) [
    | inl less ↦ omega (arith, most k t less there q, newer)
    | inr ge ↦ (let same : k ≡ at = omega (arith, ge, lt) in same_there shares k at s t same here there)
  ],
)

-- the first shares and the next, which is no newer or has not P
pub latest_same : (shares : List DeskShare) (P : DeskShare → Type 0) (at : ℕ) (best : Option ShareHead) (s : DeskShare)
    → IsLatest shares P at best → slice_get shares at ≡ Some s → (IsNewer s.head best → ¬ P s)
    → IsLatest shares P (at + 1) best
latest_same shares P at None s none here never =
    λ k t lt there q. elim (cases_lt k at) [
      | inl less ↦ none k t less there q
      | inr ge ↦ (
          let same : k ≡ at = omega (arith, ge, lt) in
          let e : t ≡ s = same_Some t s (sym there ∙ ap (slice_get shares) same ∙ here) in
          never tt (subst P e q)
          )
    ]
latest_same shares P at (Some h) s (found, most) here never = (
  found,
  λ k t lt there q. elim (cases_lt k at) [
    | inl less ↦ most k t less there q
    | inr ge ↦ (
        let same : k ≡ at = omega (arith, ge, lt) in
        let e : t ≡ s = same_Some t s (sym there ∙ ap (slice_get shares) same ∙ here) in
        elim (cases_lt h.generation s.head.generation) [
          | inl newer ↦ absurd (never newer (subst P e q))
          | inr old ↦ omega (arith, old, ap (λ (z : DeskShare). z.head.generation) e)
        ]
        )
  ],
)

-- the newest complete set of all is the newest of which enough shares are there
pub newest_of_latest : (shares : List DeskShare) (h : ShareHead) → IsLatest shares (IsOfComplete shares) (length shares) (Some h)
    → IsComplete shares h × IsNewest shares h
newest_of_latest shares h (found, most) = (
  subst (IsComplete shares) found.3 found.2.1,
  λ g chosen e.
      let one = one_of_complete shares g chosen e in
      let s = one.0 in
      let at = place_in shares s one.2.there in
      let le : s.head.generation ≤ h.generation =
      most at.0 s at.1 at.2 (one.2.whole, (chosen, same_set shares g s chosen one.2 e)) in
      omega (arith, le, ap (λ (z : ShareHead). z.generation) one.2.set),
)

pub none_of_latest : (shares : List DeskShare) → IsLatest shares (IsOfComplete shares) (length shares) None
    → (h : ShareHead) → ¬ IsComplete shares h
none_of_latest shares none h complete =
    let one = one_of_complete shares h complete.0 complete.1 in
    let at = place_in shares one.0 one.2.there in
    none at.0 one.0 at.1 at.2 (one.2.whole, (complete.0, same_set shares h one.0 complete.0 one.2 complete.1))

-- the shares at the next point
pub rows_more : (shares : List DeskShare) (h : ShareHead) (chosen : List DeskShare) (points values new : List ℕ) (i : ℕ) (s : DeskShare)
    → AreRows shares h chosen (take i points) values → i < length points → IsShareHeld shares h s → s.head.point ≡ get_or points i 0
    → new ≡ values ++ s.body.now → AreRows shares h (chosen ++ s ∷ []) (take (i + 1) points) new
rows_more shares h chosen points values new i s r inside held here e = record {
  stand = map-append point_of chosen (s ∷ []) ∙ ap₂ (λ (a : List ℕ) (b : ℕ). a ++ b ∷ []) r.stand here ∙ sym (take_more points i 0 inside);
  rows = flat_map-append (λ (t : DeskShare). t.body.now) chosen (s ∷ []) ∙ ap₂ (λ (a b : List ℕ). a ++ b) r.rows (append-nil s.body.now) ∙ sym e;
  each = λ t c. elim (in_either chosen s t c) [
    | inl old ↦ r.each t old
    | inr same ↦ subst (IsShareHeld shares h) same held
  ];
}

-- WHAT IS JOINED

-- the points and the values of enough shares
pub record AreReady (shares : List DeskShare) (h : ShareHead) (chosen : List DeskShare) (points values : List ℕ) : Type 0 where
  pub some : 0 < length points
  pub few : length points ≤ 16
  pub not_zero : All (λ x. 0 < x) points
  pub long : length values ≡ length points * (h.length + 32)
  pub fits : h.length ≤ 1073741824
  pub enough : AreEnoughShares shares h chosen

pub fits_of : (shares : List DeskShare) (h : ShareHead) → IsComplete shares h → h.length ≤ 1073741824
fits_of shares h complete =
    let one = one_of_complete shares h complete.0 complete.1 in
    omega (arith, one.2.whole.head.fits, ap (λ (z : ShareHead). z.length) one.2.set)

pub ready : (shares : List DeskShare) (h : ShareHead) (chosen : List DeskShare) (points values : List ℕ) → AreFound shares h 17 points
    → IsComplete shares h → AreRows shares h chosen points values → AreReady shares h chosen points values
ready shares h chosen points values f complete r =
    let one = one_of_complete shares h complete.0 complete.1 in
    let many = points_of_complete shares h points f complete in
    let need : h.need ≡ one.0.head.need = sym (ap (λ (z : ShareHead). z.need) one.2.set) in
    let count : length chosen ≡ length points = sym (length-map chosen point_of) ∙ ap length r.stand in
    let ok = one.2.whole.head in
    record {
      some = omega (arith, many, need, ok.need_first);
      few = omega (arith, many, need, ok.need_last, ok.count);
      not_zero = λ k d lt.
          let at = f.each (slice_index_or points k d) (Contains-get_or points k d lt) in
          omega (arith, (point_bounds shares h at.0 at.1).0, at.2);
      long =
          let each : (s : DeskShare) → Contains chosen s → length s.body.now ≡ h.length + 32 =
          λ s c. let u = r.each s c in u.whole.long ∙ ap (λ (z : ShareHead). z.length + 32) u.set in
          sym (ap length r.rows) ∙ length-values (h.length + 32) chosen each ∙ ap (λ (z : ℕ). z * (h.length + 32)) count;
      fits = fits_of shares h complete;
      enough = record {
        some = omega (arith, need, ok.need_first);
        enough = count ∙ many;
        apart = record { distinct = subst (IsDistinct nat_eq) (sym r.stand) f.distinct; each = r.each };
      };
    }
