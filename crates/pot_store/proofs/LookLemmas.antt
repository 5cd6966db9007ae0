-- What the visits to the blocks of a record log, group by group.
use Rattle.std.proofs.Common.{◌≡◌, ◌≢◌, ◌<◌, ◌≤◌, ◌⊎◌, inl, inr, ⊎_elim, ℕ, zero, suc, ◌+◌, Bool, true, false, List, [], ◌∷◌, ◌++◌, length, refl, ap, sym, ◌∙◌, subst, arith, append_assoc, append-nil, eq-eqb, ne_eqb, replicate}
use Rattle.std.specs.Prelude.{find, is_some, slice_set, Contains, ◌==◌, ◌&&◌, ◌||◌}
use Rattle.std.proofs.lemmas.List.Elements.{Contains-append_right}
use Rattle.std.proofs.lemmas.Bool.{cases_eq}
use Rattle.pot_bytes.specs.declared.rack.Place.{Place}
use Rattle.pot_machine.specs.declared.entry.Entry.{Entry}
use Rattle.pot_machine.specs.declared.entry.Entry.TheVariants as entry
use Rattle.pot_replies.specs.Jobs.{is_look_at, is_seen_at, is_stuck_at}
use Rattle.pot_store.specs.Visits.{Unknown, was_seen, Visit, unvisited, MayVisit, IsVisit, is_begin_at, visit_at, came_at, place_in, logged_at, logged_from}

-- VISITS BY NUMBER

pub visit_front : (vs ws : List Visit) (x : ℕ) → x < length vs → visit_at (vs ++ ws) x ≡ visit_at vs x
visit_front [] ws x lt = absurd (omega (arith, lt))
visit_front (v ∷ vs) ws zero lt = refl
visit_front (v ∷ vs) ws (suc x) lt = visit_front vs ws x (omega (arith, lt))

pub visit_back : (vs ws : List Visit) (x : ℕ) → visit_at (vs ++ ws) (length vs + x) ≡ visit_at ws x
visit_back [] ws x = ap (visit_at ws) (let e : 0 + x ≡ x = omega arith in e)
visit_back (v ∷ vs) ws x = (let e : length (v ∷ vs) + x ≡ suc (length vs + x) = omega arith in ap (visit_at (v ∷ (vs ++ ws))) e) ∙ visit_back vs ws x

-- past the last there is none
pub visit_past : (vs : List Visit) (x : ℕ) → length vs ≤ x → visit_at vs x ≡ unvisited
visit_past [] x le = refl
visit_past (v ∷ vs) zero le = absurd (omega (arith, le))
visit_past (v ∷ vs) (suc x) le = visit_past vs x (omega (arith, le))

pub visit_none : (n x : ℕ) → visit_at (replicate n unvisited) x ≡ unvisited
visit_none zero x = refl
visit_none (suc n) zero = refl
visit_none (suc n) (suc x) = visit_none n x

-- one visit in place of another
pub visit_set : (vs : List Visit) (x : ℕ) (v : Visit) → x < length vs → visit_at (slice_set vs x v) x ≡ v
visit_set [] x v lt = absurd (omega (arith, lt))
visit_set (w ∷ vs) zero v lt = refl
visit_set (w ∷ vs) (suc x) v lt = visit_set vs x v (omega (arith, lt))

pub visit_other : (vs : List Visit) (x y : ℕ) (v : Visit) → y ≢ x → visit_at (slice_set vs x v) y ≡ visit_at vs y
visit_other [] x y v ne = refl
visit_other (w ∷ vs) zero zero v ne = absurd (ne refl)
visit_other (w ∷ vs) zero (suc y) v ne = refl
visit_other (w ∷ vs) (suc x) zero v ne = refl
visit_other (w ∷ vs) (suc x) (suc y) v ne = visit_other vs x y v (λ e. ne (ap suc e))

pub set_long : (vs : List Visit) (x : ℕ) (v : Visit) → length (slice_set vs x v) ≡ length vs
set_long [] x v = refl
set_long (w ∷ vs) zero v = refl
set_long (w ∷ vs) (suc x) v = ap suc (set_long vs x v)

-- what came of them
pub came_front : (vs ws : List Visit) (x : ℕ) → x < length vs → came_at (vs ++ ws) x ≡ came_at vs x
came_front vs ws x lt = ap (λ (v : Visit). v.came) (visit_front vs ws x lt)

pub came_back : (vs ws : List Visit) (x : ℕ) → came_at (vs ++ ws) (length vs + x) ≡ came_at ws x
came_back vs ws x = ap (λ (v : Visit). v.came) (visit_back vs ws x)

pub came_past : (vs : List Visit) (x : ℕ) → length vs ≤ x → came_at vs x ≡ Unknown
came_past vs x le = ap (λ (v : Visit). v.came) (visit_past vs x le)

-- ONE VISIT

pub in_group : (p : Place) (g : ℕ) (v : Visit) → p.group ≡ g → logged_at p g v ≡ v.entries
in_group p g v e = rw (eq-eqb p.group g e) refl

pub in_other : (p : Place) (g : ℕ) (v : Visit) → p.group ≢ g → logged_at p g v ≡ []
in_other p g v ne = rw (ne_eqb p.group g ne) refl

-- a visit that was not made logs nothing anywhere
pub in_none : (p : Place) (g : ℕ) → logged_at p g unvisited ≡ []
in_none p g = ⊎_elim (λ (e : p.group ≡ g). in_group p g unvisited e) (λ (ne : p.group ≢ g). in_other p g unvisited ne) (cases_eq p.group g)

pub same_place : (p q : Place) → p.group ≡ q.group → p.stripe ≡ q.stripe → p.column ≡ q.column → p ≡ q
same_place p q g s c = λ i. record { group = g i; column = c i; stripe = s i }

-- two places of one group are the same, or a test of the one passes over the other
pub both : (a b s c : ℕ) → ((a ≡ s) × (b ≡ c)) ⊎ (((a == s) && (b == c)) ≡ false)
both a b s c = ⊎_elim
    (λ (e : a ≡ s). ⊎_elim
    (λ (f : b ≡ c). inl (e, f))
    (λ (ne : b ≢ c). inr (rw (eq-eqb a s e, ne_eqb b c ne) refl))
    (cases_eq b c))
    (λ (ne : a ≢ s). inr (rw (ne_eqb a s ne) refl))
    (cases_eq a s)

pub hit : (a b s c : ℕ) → a ≡ s → b ≡ c → ((a == s) && (b == c)) ≡ true
hit a b s c e f = rw (eq-eqb a s e, eq-eqb b c f) refl

-- no test of a place passes this entry
pub record IsElsewhere (s c : ℕ) (e : Entry) : Type 0 where
  pub look : is_look_at s c e ≡ false
  pub seen : is_seen_at s c e ≡ false
  pub stuck : is_stuck_at s c e ≡ false
  pub begin : is_begin_at s c e ≡ false

pub is_elsewhere : (job : ℕ) (q : Place) (s c : ℕ) → ((q.stripe == s) && (q.column == c)) ≡ false → (e : Entry) → MayVisit job q e → IsElsewhere s c e
is_elsewhere job q s c off (entry.Seen j t d) (a, b, f) = (let h : ((t == s) && (d == c)) ≡ false = rw (b, f) off in record { look = h; seen = h; stuck = refl; begin = refl })
is_elsewhere job q s c off (entry.Gone j t d) (a, b, f) = (let h : ((t == s) && (d == c)) ≡ false = rw (b, f) off in record { look = h; seen = refl; stuck = refl; begin = refl })
is_elsewhere job q s c off (entry.Begin j t d) (a, b, f) = (let h : ((t == s) && (d == c)) ≡ false = rw (b, f) off in record { look = refl; seen = refl; stuck = refl; begin = h })
is_elsewhere job q s c off (entry.Stuck j t d o) (a, b, f) = (let h : ((t == s) && (d == c)) ≡ false = rw (b, f) off in record { look = refl; seen = refl; stuck = h; begin = refl })
is_elsewhere job q s c off (entry.Hop j t d) may = record { look = refl; seen = refl; stuck = refl; begin = refl }
is_elsewhere job q s c off (entry.Mended j t d) may = record { look = refl; seen = refl; stuck = refl; begin = refl }
is_elsewhere job q s c off (entry.GaveUp j t d o) may = record { look = refl; seen = refl; stuck = refl; begin = refl }
is_elsewhere job q s c off (entry.Oddly j t d f) may = record { look = refl; seen = refl; stuck = refl; begin = refl }
is_elsewhere job q s c off (entry.Fault j t d) may = record { look = refl; seen = refl; stuck = refl; begin = refl }
is_elsewhere job q s c off (entry.Put j t d x p k) may = absurd may
is_elsewhere job q s c off (entry.Skip j t) may = absurd may
is_elsewhere job q s c off (entry.Broke j t d) may = absurd may
is_elsewhere job q s c off (entry.MoveBegin j d t) may = absurd may
is_elsewhere job q s c off (entry.Moved j t d k) may = absurd may
is_elsewhere job q s c off (entry.MoveEnd j d) may = absurd may
is_elsewhere job q s c off (entry.Swapped j d t) may = absurd may
is_elsewhere job q s c off (entry.Counted j) may = absurd may
is_elsewhere job q s c off (entry.Put2 j t d x p r k l) may = absurd may

-- A BLOCK THAT WAS SEEN

abbrev seen_among : ℕ → ℕ → List Entry → Bool
seen_among s c es = is_some (find (is_seen_at s c) es)

seen_append : (s c : ℕ) (xs ys : List Entry) → seen_among s c (xs ++ ys) ≡ seen_among s c xs || seen_among s c ys
seen_append s c [] ys = refl
seen_append s c (x ∷ xs) ys = go (is_seen_at s c x) refl (seen_append s c xs ys)
  where
    go : (b : Bool) → is_seen_at s c x ≡ b → seen_among s c (xs ++ ys) ≡ seen_among s c xs || seen_among s c ys
        → seen_among s c ((x ∷ xs) ++ ys) ≡ seen_among s c (x ∷ xs) || seen_among s c ys
    go true e rest = rw e refl
    go false e rest = rw e rest

-- where no entry is such a Seen, none is found
none_among : (s c : ℕ) (es : List Entry) → ((e : Entry) → Contains es e → is_seen_at s c e ≡ false) → seen_among s c es ≡ false
none_among s c [] none = refl
none_among s c (e ∷ es) none = rw (none e (zero, omega arith, refl)) (none_among s c es (λ x has. none x (Contains-append_right (e ∷ []) es x has)))

not_seen : (p q : Place) (job : ℕ) (v : Visit) → IsVisit job q v → q ≢ p → seen_among p.stripe p.column (logged_at q p.group v) ≡ false
not_seen p q job v is ne = ⊎_elim
    (λ (e : q.group ≡ p.group).
    ap (seen_among p.stripe p.column) (in_group q p.group v e)
    ∙ ⊎_elim
    (λ (same : (q.stripe ≡ p.stripe) × (q.column ≡ p.column)). absurd (ne (same_place q p e same.0 same.1)))
    (λ (off : ((q.stripe == p.stripe) && (q.column == p.column)) ≡ false).
    none_among p.stripe p.column v.entries (λ x has. (is_elsewhere job q p.stripe p.column off x (is.kinds x has)).seen))
    (both q.stripe q.column p.stripe p.column))
    (λ (other : q.group ≢ p.group). ap (seen_among p.stripe p.column) (in_other q p.group v other))
    (cases_eq q.group p.group)

-- THE VISITS TO THE BLOCKS OF A RECORD

-- no two of the first n blocks have one place
abbrev pub Apart : List Place → ℕ → Type 0
Apart places n = (a b : ℕ) → a < n → b < n → place_in places a ≡ place_in places b → a ≡ b

-- each of these is a visit of the job, from the block of a number on
abbrev pub AreVisits : ℕ → List Place → ℕ → List Visit → Type 0
AreVisits job places b vs = (x : ℕ) → x < length vs → IsVisit job (place_in places (b + x)) (visit_at vs x)

pub first_visit : (job : ℕ) (places : List Place) (b : ℕ) (v : Visit) (vs : List Visit) → AreVisits job places b (v ∷ vs) → IsVisit job (place_in places b) v
first_visit job places b v vs are = (let e : b + 0 ≡ b = omega arith in subst (λ n. IsVisit job (place_in places n) v) e (are 0 (omega arith)))

pub rest_visits : (job : ℕ) (places : List Place) (b : ℕ) (v : Visit) (vs : List Visit) → AreVisits job places b (v ∷ vs) → AreVisits job places (suc b) vs
rest_visits job places b v vs are x lt = (let e : b + suc x ≡ suc b + x = omega arith in subst (λ n. IsVisit job (place_in places n) (visit_at vs x)) e (are (suc x) (omega (arith, lt))))

module _ (places : List Place) where
  pub logged-append : (g b : ℕ) (vs ws : List Visit)
      → logged_from places g b (vs ++ ws) ≡ logged_from places g b vs ++ logged_from places g (b + length vs) ws
  logged-append g b [] ws = (let e : b ≡ b + 0 = omega arith in ap (λ n. logged_from places g n ws) e)
  logged-append g b (v ∷ vs) ws =
      let next : suc b + length vs ≡ b + length (v ∷ vs) = omega arith in
      ap (λ l. logged_at (place_in places b) g v ++ l) (logged-append g (suc b) vs ws ∙ ap (λ n. logged_from places g (suc b) vs ++ logged_from places g n ws) next)
      ∙ sym (append_assoc (logged_at (place_in places b) g v) (logged_from places g (suc b) vs) (logged_from places g (b + length (v ∷ vs)) ws))

  pub logged_none : (g b : ℕ) (k : ℕ) → logged_from places g b (replicate k unvisited) ≡ []
  logged_none g b zero = refl
  logged_none g b (suc k) = ap (λ l. l ++ logged_from places g (suc b) (replicate k unvisited)) (in_none (place_in places b) g) ∙ logged_none g (suc b) k

  -- blocks of other groups log nothing in this one
  pub logged_else : (g b : ℕ) (vs : List Visit) → ((x : ℕ) → x < length vs → (place_in places (b + x)).group ≢ g) → logged_from places g b vs ≡ []
  logged_else g b [] other = refl
  logged_else g b (v ∷ vs) other =
      let here : (place_in places b).group ≢ g = (let e : b + 0 ≡ b = omega arith in subst (λ n. (place_in places n).group ≢ g) e (other 0 (omega arith))) in
      let there : (x : ℕ) → x < length vs → (place_in places (suc b + x)).group ≢ g =
      λ x lt. (let e : b + suc x ≡ suc b + x = omega arith in subst (λ n. (place_in places n).group ≢ g) e (other (suc x) (omega (arith, lt)))) in
      ap (λ l. l ++ logged_from places g (suc b) vs) (in_other (place_in places b) g v here) ∙ logged_else g (suc b) vs there

  -- where no later block is of the group, the visit to this one is the last in it
  pub logged_last : (g b : ℕ) (vs : List Visit) (x : ℕ) → x < length vs → (place_in places (b + x)).group ≡ g
      → ((y : ℕ) → x < y → y < length vs → (place_in places (b + y)).group ≢ g)
      → (sofar : List Entry) × (logged_from places g b vs ≡ sofar ++ (visit_at vs x).entries)
  logged_last g b [] x lt is later = absurd (omega (arith, lt))
  logged_last g b (v ∷ vs) zero lt is later =
      let e : b + 0 ≡ b = omega arith in
      let none : logged_from places g (suc b) vs ≡ [] =
      logged_else g (suc b) vs (λ y less. (let f : b + suc y ≡ suc b + y = omega arith in subst (λ n. (place_in places n).group ≢ g) f (later (suc y) (omega arith) (omega (arith, less))))) in
      let here : logged_at (place_in places b) g v ≡ v.entries = in_group (place_in places b) g v (ap (λ n. (place_in places n).group) (sym e) ∙ is) in
      ([], ap (λ l. logged_at (place_in places b) g v ++ l) none ∙ (append-nil (logged_at (place_in places b) g v) ∙ here))
  logged_last g b (v ∷ vs) (suc x) lt is later =
      let e : b + suc x ≡ suc b + x = omega arith in
      let rest = logged_last g (suc b) vs x (omega (arith, lt)) (ap (λ n. (place_in places n).group) (sym e) ∙ is)
      (λ y more less. (let f : b + suc y ≡ suc b + y = omega arith in subst (λ n. (place_in places n).group ≢ g) f (later (suc y) (omega (arith, more)) (omega (arith, less))))) in (
        logged_at (place_in places b) g v ++ rest.0,
        ap (λ l. logged_at (place_in places b) g v ++ l) rest.1 ∙ sym (append_assoc (logged_at (place_in places b) g v) rest.0 (visit_at vs x).entries),
      )

  -- one visit that logs more: nothing changes in another group
  pub logged_set_else : (g b : ℕ) (vs : List Visit) (x : ℕ) (v : Visit) → (place_in places (b + x)).group ≢ g → logged_from places g b (slice_set vs x v) ≡ logged_from places g b vs
  logged_set_else g b [] x v ne = refl
  logged_set_else g b (w ∷ vs) zero v ne =
      let here : (place_in places b).group ≢ g = (let e : b + 0 ≡ b = omega arith in subst (λ n. (place_in places n).group ≢ g) e ne) in
      ap (λ l. l ++ logged_from places g (suc b) vs) (in_other (place_in places b) g v here ∙ sym (in_other (place_in places b) g w here))
  logged_set_else g b (w ∷ vs) (suc x) v ne =
      let there : (place_in places (suc b + x)).group ≢ g = (let e : b + suc x ≡ suc b + x = omega arith in subst (λ n. (place_in places n).group ≢ g) e ne) in
      ap (λ l. logged_at (place_in places b) g w ++ l) (logged_set_else g (suc b) vs x v there)

  -- and in its own, where no later block is of the group, more stands behind
  pub logged_set : (g b : ℕ) (vs : List Visit) (x : ℕ) (v : Visit) (es : List Entry) → x < length vs → (place_in places (b + x)).group ≡ g
      → ((y : ℕ) → x < y → y < length vs → (place_in places (b + y)).group ≢ g) → v.entries ≡ (visit_at vs x).entries ++ es
      → logged_from places g b (slice_set vs x v) ≡ logged_from places g b vs ++ es
  logged_set g b [] x v es lt is later more = absurd (omega (arith, lt))
  logged_set g b (w ∷ vs) zero v es lt is later more =
      let e : b + 0 ≡ b = omega arith in
      let group : (place_in places b).group ≡ g = ap (λ n. (place_in places n).group) (sym e) ∙ is in
      let none : logged_from places g (suc b) vs ≡ [] =
      logged_else g (suc b) vs (λ y less. (let f : b + suc y ≡ suc b + y = omega arith in subst (λ n. (place_in places n).group ≢ g) f (later (suc y) (omega arith) (omega (arith, less))))) in
      let before : logged_from places g b (w ∷ vs) ≡ w.entries =
      ap (λ l. logged_at (place_in places b) g w ++ l) none ∙ (append-nil (logged_at (place_in places b) g w) ∙ in_group (place_in places b) g w group) in
      ap (λ l. logged_at (place_in places b) g v ++ l) none
      ∙ (append-nil (logged_at (place_in places b) g v) ∙ (in_group (place_in places b) g v group ∙ (more ∙ ap (λ l. l ++ es) (sym before))))
  logged_set g b (w ∷ vs) (suc x) v es lt is later more =
      let e : b + suc x ≡ suc b + x = omega arith in
      let rest = logged_set g (suc b) vs x v es (omega (arith, lt)) (ap (λ n. (place_in places n).group) (sym e) ∙ is)
      (λ y past less. (let f : b + suc y ≡ suc b + y = omega arith in subst (λ n. (place_in places n).group ≢ g) f (later (suc y) (omega (arith, past)) (omega (arith, less))))) more in
      ap (λ l. logged_at (place_in places b) g w ++ l) rest ∙ sym (append_assoc (logged_at (place_in places b) g w) (logged_from places g (suc b) vs) es)

  module _ (job : ℕ) where
    -- a block that is none of these is not seen by the visits to them
    seen_none : (p : Place) (b : ℕ) (vs : List Visit) → AreVisits job places b vs → ((x : ℕ) → x < length vs → place_in places (b + x) ≢ p)
        → seen_among p.stripe p.column (logged_from places p.group b vs) ≡ false
    seen_none p b [] are apart = refl
    seen_none p b (v ∷ vs) are apart =
        let here : place_in places b ≢ p = (let e : b + 0 ≡ b = omega arith in subst (λ n. place_in places n ≢ p) e (apart 0 (omega arith))) in
        let there : (x : ℕ) → x < length vs → place_in places (suc b + x) ≢ p =
        λ x lt. (let e : b + suc x ≡ suc b + x = omega arith in subst (λ n. place_in places n ≢ p) e (apart (suc x) (omega (arith, lt)))) in
        seen_append p.stripe p.column (logged_at (place_in places b) p.group v) (logged_from places p.group (suc b) vs)
        ∙ rw (not_seen p (place_in places b) job v (first_visit job places b v vs are) here) (seen_none p (suc b) vs (rest_visits job places b v vs are) there)

    -- a block was seen just where the visit to it came to that
    pub seen_is : (n b : ℕ) (vs : List Visit) (x : ℕ) → Apart places n → AreVisits job places b vs → b + length vs ≤ n → x < length vs
        → seen_among (place_in places (b + x)).stripe (place_in places (b + x)).column (logged_from places (place_in places (b + x)).group b vs) ≡ was_seen (came_at vs x)
    seen_is n b [] x apart are fits lt = absurd (omega (arith, lt))
    seen_is n b (v ∷ vs) zero apart are fits lt =
        let e : b + 0 ≡ b = omega arith in
        subst (λ m. seen_among (place_in places m).stripe (place_in places m).column (logged_from places (place_in places m).group b (v ∷ vs)) ≡ was_seen v.came) (sym e)
        (let p : Place = place_in places b in
        let here : seen_among p.stripe p.column (logged_at p p.group v) ≡ was_seen v.came =
        ap (seen_among p.stripe p.column) (in_group p p.group v refl) ∙ (first_visit job places b v vs are).seen in
        let rest : seen_among p.stripe p.column (logged_from places p.group (suc b) vs) ≡ false =
        seen_none p (suc b) vs (rest_visits job places b v vs are)
        (λ y less same. (let twice : suc b + y ≡ b = apart (suc b + y) b (omega (arith, fits, less)) (omega (arith, fits)) same in omega (arith, twice))) in
        seen_append p.stripe p.column (logged_at p p.group v) (logged_from places p.group (suc b) vs) ∙ rw (here, rest) (or_false (was_seen v.came)))
      where
        or_false : (w : Bool) → (w || false) ≡ w
        or_false true = refl
        or_false false = refl
    seen_is n b (v ∷ vs) (suc x) apart are fits lt =
        let e : b + suc x ≡ suc b + x = omega arith in
        subst (λ m. seen_among (place_in places m).stripe (place_in places m).column (logged_from places (place_in places m).group b (v ∷ vs)) ≡ was_seen (came_at vs x)) (sym e)
        (let p : Place = place_in places (suc b + x) in
        let other : place_in places b ≢ p = λ same. (let twice : b ≡ suc b + x = apart b (suc b + x) (omega (arith, fits)) (omega (arith, fits, lt)) same in omega (arith, twice)) in
        seen_append p.stripe p.column (logged_at (place_in places b) p.group v) (logged_from places p.group (suc b) vs)
        ∙ rw (not_seen p (place_in places b) job v (first_visit job places b v vs are) other)
        (seen_is n (suc b) vs x apart (rest_visits job places b v vs are) (omega (arith, fits)) (omega (arith, lt))))

    -- a block with no visit was not seen
    pub seen_not : (n b : ℕ) (vs : List Visit) (x : ℕ) → Apart places n → AreVisits job places b vs → b + length vs ≤ n → length vs ≤ x → b + x < n
        → seen_among (place_in places (b + x)).stripe (place_in places (b + x)).column (logged_from places (place_in places (b + x)).group b vs) ≡ false
    seen_not n b vs x apart are fits past lt =
        seen_none (place_in places (b + x)) b vs are (λ y less same. (let twice : b + y ≡ b + x = apart (b + y) (b + x) (omega (arith, fits, less)) lt same in omega (arith, twice, less, past)))
