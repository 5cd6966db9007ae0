-- Beginnings of one log.
use Rattle.std.proofs.Common.{◌≡◌, ℕ, zero, suc, ◌+◌, ◌<◌, ◌≤◌, Bool, true, false, List, [], ◌∷◌, ◌++◌, length, refl, ap, sym, ◌∙◌, arith, append_assoc, append-nil, length-append, take, drop}
use Rattle.std.specs.Prelude.{if◌then◌else◌, nat_lt, slice_get, Some, filter}
use Rattle.std.proofs.lemmas.Bool.Decides.{nat_tests}
use Rattle.pot_turn.specs.Logs.{StartsWith, longer, shorter}

pub starts_self : {E : Type 0} (xs : List E) → StartsWith xs xs
starts_self xs = ([], sym (append-nil xs))

pub starts_trans : {E : Type 0} (zs ys xs : List E) → StartsWith zs ys → StartsWith ys xs → StartsWith zs xs
starts_trans zs ys xs q p = (p.0 ++ q.0, q.1 ∙ (ap (λ w. w ++ q.0) p.1 ∙ append_assoc xs p.0 q.0))

pub starts_length : {E : Type 0} (ys xs : List E) → StartsWith ys xs → length xs ≤ length ys
starts_length ys xs p = omega (arith, ap length p.1 ∙ length-append xs p.0)

-- of two beginnings of one list the shorter begins the longer
pub starts_either : {E : Type 0} (xs ys zs : List E) → StartsWith zs xs → StartsWith zs ys → length xs ≤ length ys → StartsWith ys xs
starts_either [] ys zs p q le = (ys, refl)
starts_either (x ∷ xs) [] zs p q le = absurd (omega arith)
starts_either (x ∷ xs) (y ∷ ys) [] p q le = absurd (cc (p.1))
starts_either (x ∷ xs) (y ∷ ys) (z ∷ zs) p q le =
    let heads : y ≡ x = cc (p.1, q.1) in
    let rest = starts_either xs ys zs (p.0, cc (p.1)) (q.0, cc (q.1)) (omega arith) in
    (rest.0, cc (heads, rest.1))

-- a beginning that is no shorter is the whole
pub starts_all : {E : Type 0} (ys xs : List E) → StartsWith ys xs → length ys ≤ length xs → ys ≡ xs
starts_all ys xs ([], e) le = e ∙ append-nil xs
starts_all ys xs (x ∷ rest, e) le = absurd (omega (arith, ap length e ∙ length-append xs (x ∷ rest)))

module _ {E : Type 0} (xs ys : List E) where
  abbrev Pairs : List E → Bool → Type 0
  Pairs zs b = StartsWith zs (if b then ys else xs) × StartsWith (if b then ys else xs) (if b then xs else ys)

  pairs_at : (zs : List E) → StartsWith zs xs → StartsWith zs ys → (b : Bool) → nat_lt (length xs) (length ys) ≡ b → Pairs zs b
  pairs_at zs p q true is = (q, starts_either xs ys zs p q (grind (arith, nat_tests)))
  pairs_at zs p q false is = (p, starts_either ys xs zs q p (grind (arith, nat_tests)))

  -- of two beginnings of one log the longer is one, and begins with the shorter
  pub longer_starts : (zs : List E) → StartsWith zs xs → StartsWith zs ys → StartsWith zs (longer xs ys) × StartsWith (longer xs ys) (shorter xs ys)
  longer_starts zs p q = pairs_at zs p q (nat_lt (length xs) (length ys)) refl

  abbrev Covers : Bool → Type 0
  Covers b = StartsWith (if b then ys else xs) (if b then xs else ys) → StartsWith (if b then ys else xs) xs × StartsWith (if b then ys else xs) ys

  covers_at : (b : Bool) → Covers b
  covers_at true h = (h, starts_self ys)
  covers_at false h = (starts_self xs, h)

  -- where the longer begins with the shorter, it begins with both
  pub longer_covers : StartsWith (longer xs ys) (shorter xs ys) → StartsWith (longer xs ys) xs × StartsWith (longer xs ys) ys
  longer_covers h = covers_at (nat_lt (length xs) (length ys)) h

module _ {E : Type 0} where
  pub get_front : (xs ys : List E) (i : ℕ) → i < length xs → slice_get (xs ++ ys) i ≡ slice_get xs i
  get_front [] ys i h = absurd (omega arith)
  get_front (x ∷ xs) ys zero h = refl
  get_front (x ∷ xs) ys (suc i) h = get_front xs ys i (omega arith)

  pub get_back : (xs ys : List E) (i : ℕ) → slice_get (xs ++ ys) (length xs + i) ≡ slice_get ys i
  get_back [] ys i = let e : 0 + i ≡ i = omega arith in ap (slice_get ys) e
  get_back (x ∷ xs) ys i = let e : length (x ∷ xs) + i ≡ suc (length xs + i) = omega arith in ap (slice_get (x ∷ (xs ++ ys))) e ∙ get_back xs ys i

  pub get_drop : (n : ℕ) (xs : List E) (i : ℕ) → slice_get (drop n xs) i ≡ slice_get xs (n + i)
  get_drop zero xs i = let e : i ≡ 0 + i = omega arith in ap (slice_get xs) e
  get_drop (suc n) [] i = refl
  get_drop (suc n) (x ∷ xs) i = let e : suc (n + i) ≡ suc n + i = omega arith in get_drop n xs i ∙ ap (slice_get (x ∷ xs)) e

  pub get_take : (n : ℕ) (xs : List E) (i : ℕ) (e : E) → slice_get (take n xs) i ≡ Some e → (i < n) × (slice_get xs i ≡ Some e)
  get_take zero xs i e is = absurd (cc is)
  get_take (suc n) [] i e is = absurd (cc is)
  get_take (suc n) (x ∷ xs) zero e is = (omega arith, is)
  get_take (suc n) (x ∷ xs) (suc i) e is = let rest = get_take n xs i e is in (omega (arith, rest.0), rest.1)

  -- where no entry is told, none is picked
  pub filter_none : (is_of : E → Bool) (xs : List E) → ((i : ℕ) (e : E) → slice_get xs i ≡ Some e → is_of e ≡ false) → filter is_of xs ≡ []
  filter_none is_of [] h = refl
  filter_none is_of (x ∷ xs) h = rw (h 0 x refl) (filter_none is_of xs (λ i e is. h (suc i) e is))
