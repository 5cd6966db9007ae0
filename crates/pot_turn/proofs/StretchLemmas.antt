-- Positions in stretches.
use Rattle.std.proofs.Common.{◌≡◌, ℕ, zero, suc, ◌+◌, ◌-◌, ◌<◌, ◌≤◌, List, [], ◌∷◌, ◌++◌, length, take, drop, refl, ap, sym, ◌∙◌, arith, append_assoc, append-nil, length-append, ◌⊎◌, inl, inr}
use Rattle.std.proofs.Math.Nat.{lt_of_not-le}
use Rattle.std.proofs.lemmas.Bool.Decides.{nat_tests}
use Rattle.std.proofs.lemmas.List.{take-append-le, drop-append-le}
use Rattle.std.proofs.Math.Seq.{drop-append_seam}
use Rattle.pot_turn.specs.declared.view.Stretch.{Stretch}
use Rattle.pot_turn.specs.Logs.{StartsWith}
use Rattle.pot_turn.specs.Stretches.{stretch, between, times, size_of, StretchesAscend, LieIn, entries_in}

-- a position up to c stands before b or from b on
pub between-split : (i a b c : ℕ) → a ≤ b → b ≤ c → between i a c ≡ between i a b + between i b c
between-split i a b c p q = grind (arith, nat_tests)

pub between_out : (i a b : ℕ) → b ≤ i → between i a b ≡ 0
between_out i a b p = grind (arith, nat_tests)

pub between_ahead : (i a b : ℕ) → i < a → between i a b ≡ 0
between_ahead i a b p = grind (arith, nat_tests)

pub between_in : (i a b : ℕ) → a ≤ i → i < b → between i a b ≡ 1
between_in i a b p q = grind (arith, nat_tests)

pub between_least : (i a b : ℕ) → between i a b ≡ 0 → a ≤ i → b ≤ i
between_least i a b e p = grind (arith, nat_tests)

pub between_from : (i a b : ℕ) → 0 < between i a b → a ≤ i
between_from i a b p = grind (arith, nat_tests)

-- of two numbers with a sum that is not 0, one is not 0
pub some_of : (a b : ℕ) → 0 < a + b → (0 < a) ⊎ (0 < b)
some_of zero b p = inr (omega arith)
some_of (suc a) b p = inl (omega arith)

pub between_most : (i a b : ℕ) → between i a b ≤ 1
between_most i a b = grind (arith, nat_tests)

pub between-empty : (i a : ℕ) → between i a a ≡ 0
between-empty i a = grind (arith, nat_tests)

pub times-append : (i : ℕ) (xs ys : List Stretch) → times i (xs ++ ys) ≡ times i xs + times i ys
times-append i [] ys = omega arith
times-append i (x ∷ xs) ys = let rest = times-append i xs ys in omega (arith, rest)

pub size_of-snoc : (ss : List Stretch) (a b : ℕ) → size_of (ss ++ stretch a b ∷ []) ≡ size_of ss + (b - a)
size_of-snoc [] a b = omega arith
size_of-snoc (s ∷ ss) a b = let rest = size_of-snoc ss a b in omega (arith, rest)

pub size_of-append : (xs ys : List Stretch) → size_of (xs ++ ys) ≡ size_of xs + size_of ys
size_of-append [] ys = omega arith
size_of-append (x ∷ xs) ys = let rest = size_of-append xs ys in omega (arith, rest)

pub ascends_longer : (at : ℕ) (ss : List Stretch) (a b : ℕ) → a ≤ b → StretchesAscend at ss a → StretchesAscend at ss b
ascends_longer at [] a b le h = omega (arith, le, h)
ascends_longer at (s ∷ ss) a b le h = (h.0, h.1, ascends_longer s.upto ss a b le h.2)

pub ascends_snoc : (at : ℕ) (ss : List Stretch) (a b : ℕ) → a ≤ b → StretchesAscend at ss a → StretchesAscend at (ss ++ stretch a b ∷ []) b
ascends_snoc at [] a b le h = (h, le, omega arith)
ascends_snoc at (s ∷ ss) a b le h = (h.0, h.1, ascends_snoc s.upto ss a b le h.2)

pub ascends_bounds : (at : ℕ) (ss : List Stretch) (upto : ℕ) → StretchesAscend at ss upto → at ≤ upto
ascends_bounds at [] upto h = h
ascends_bounds at (s ∷ ss) upto h = let rest = ascends_bounds s.upto ss upto h.2 in omega (arith, rest, h.0, h.1)

-- stretches that follow those before them
pub ascends_both : (at : ℕ) (xs ys : List Stretch) (b c d : ℕ) → StretchesAscend at xs b → b ≤ c → StretchesAscend c ys d → StretchesAscend at (xs ++ ys) d
ascends_both at [] [] b c d p le q = omega (arith, p, le, q)
ascends_both at [] (y ∷ ys) b c d p le q = (omega (arith, p, le, q.0), q.1, q.2)
ascends_both at (x ∷ xs) ys b c d p le q = (p.0, p.1, ascends_both x.upto xs ys b c d p.2 le q)

pub ascends_lower : (a b : ℕ) (ss : List Stretch) (upto : ℕ) → a ≤ b → StretchesAscend b ss upto → StretchesAscend a ss upto
ascends_lower a b [] upto le h = omega (arith, le, h)
ascends_lower a b (s ∷ ss) upto le h = (omega (arith, le, h.0), h.1, h.2)

pub lies_lower : (a b : ℕ) (ss : List Stretch) (upto : ℕ) → a ≤ b → LieIn b ss upto → LieIn a ss upto
lies_lower a b [] upto le h = omega (arith, le, h)
lies_lower a b (s ∷ ss) upto le h = (omega (arith, le, h.0), h.1, lies_lower a b ss upto le h.2)

pub lies_longer : (at : ℕ) (ss : List Stretch) (a b : ℕ) → a ≤ b → LieIn at ss a → LieIn at ss b
lies_longer at [] a b le h = omega (arith, le, h)
lies_longer at (s ∷ ss) a b le h = (h.0, omega (arith, le, h.1), lies_longer at ss a b le h.2)

pub lies_bounds : (at : ℕ) (ss : List Stretch) (upto : ℕ) → LieIn at ss upto → at ≤ upto
lies_bounds at [] upto h = h
lies_bounds at (s ∷ ss) upto h = lies_bounds at ss upto h.2

pub lies_append : (at : ℕ) (xs ys : List Stretch) (upto : ℕ) → LieIn at xs upto → LieIn at ys upto → LieIn at (xs ++ ys) upto
lies_append at [] ys upto p q = q
lies_append at (x ∷ xs) ys upto p q = (p.0, p.1, lies_append at xs ys upto p.2 q)

pub lies_rest : (at : ℕ) (xs ys : List Stretch) (upto : ℕ) → LieIn at (xs ++ ys) upto → LieIn at ys upto
lies_rest at [] ys upto h = h
lies_rest at (x ∷ xs) ys upto h = lies_rest at xs ys upto h.2

pub lies_front : (at : ℕ) (xs ys : List Stretch) (upto : ℕ) → LieIn at (xs ++ ys) upto → LieIn at xs upto
lies_front at [] ys upto h = lies_bounds at ys upto h
lies_front at (x ∷ xs) ys upto h = (h.0, h.1, lies_front at xs ys upto h.2)

-- stretches that ascend lie between their ends
pub ascends_lies : (at : ℕ) (ss : List Stretch) (upto : ℕ) → StretchesAscend at ss upto → LieIn at ss upto
ascends_lies at [] upto h = h
ascends_lies at (s ∷ ss) upto h =
    let least = ascends_bounds s.upto ss upto h.2 in
    let later : at ≤ s.upto = omega (arith, h.0, h.1) in
    (h.0, least, lies_lower at s.upto ss upto later (ascends_lies s.upto ss upto h.2))

pub times_behind : (at : ℕ) (ss : List Stretch) (upto i : ℕ) → LieIn at ss upto → upto ≤ i → times i ss ≡ 0
times_behind at [] upto i h le = refl
times_behind at (s ∷ ss) upto i h le =
    let here = between_out i s.from s.upto (omega (arith, le, h.1)) in
    let rest = times_behind at ss upto i h.2 le in
    omega (arith, here, rest)

pub lies_within : (at : ℕ) (ss : List Stretch) (upto i : ℕ) → LieIn at ss upto → 0 < times i ss → i < upto
lies_within at ss upto i lies some = lt_of_not-le (λ h. let none = times_behind at ss upto i lies h in omega (arith, none, some))

pub times_ahead : (at : ℕ) (ss : List Stretch) (upto i : ℕ) → LieIn at ss upto → i < at → times i ss ≡ 0
times_ahead at [] upto i h le = refl
times_ahead at (s ∷ ss) upto i h le =
    let here = between_ahead i s.from s.upto (omega (arith, le, h.0)) in
    let rest = times_ahead at ss upto i h.2 le in
    omega (arith, here, rest)

module _ {E : Type 0} where
  drop_long : (xs : List E) (n m : ℕ) → m ≤ length xs → m - n ≤ length (drop n xs)
  drop_long xs zero m le = omega (arith, le)
  drop_long [] (suc n) m le = omega (arith, le)
  drop_long (x ∷ xs) (suc n) zero le = omega arith
  drop_long (x ∷ xs) (suc n) (suc m) le = let rest = drop_long xs n m (omega (arith, le)) in omega (arith, rest)

  take_whole : (xs : List E) → take (length xs) xs ≡ xs
  take_whole [] = refl
  take_whole (x ∷ xs) = ap (λ w. x ∷ w) (take_whole xs)

  -- the entries in stretches of a beginning are those of the whole
  pub entries_in-longer : (log seen : List E) (at : ℕ) (ss : List Stretch) → StartsWith log seen → StretchesAscend at ss (length seen) → entries_in log ss ≡ entries_in seen ss
  entries_in-longer log seen at [] grown h = refl
  entries_in-longer log seen at (s ∷ ss) grown h =
      let least = ascends_bounds s.upto ss (length seen) h.2 in
      let within : s.from ≤ length seen = omega (arith, least, h.1) in
      let dropped : drop s.from log ≡ drop s.from seen ++ grown.0 = ap (drop s.from) grown.1 ∙ drop-append-le s.from seen grown.0 within in
      let long : s.upto - s.from ≤ length (drop s.from seen) = drop_long seen s.from s.upto least in
      let here : take (s.upto - s.from) (drop s.from log) ≡ take (s.upto - s.from) (drop s.from seen) =
      ap (take (s.upto - s.from)) dropped ∙ take-append-le (s.upto - s.from) (drop s.from seen) grown.0 long in
      let rest = entries_in-longer log seen s.upto ss grown h.2 in
      ap (λ w. w ++ entries_in log ss) here ∙ ap (λ w. take (s.upto - s.from) (drop s.from seen) ++ w) rest

  pub entries_in-snoc : (log : List E) (ss : List Stretch) (a b : ℕ) → entries_in log (ss ++ stretch a b ∷ []) ≡ entries_in log ss ++ take (b - a) (drop a log)
  entries_in-snoc log [] a b = append-nil (take (b - a) (drop a log))
  entries_in-snoc log (s ∷ ss) a b =
      let first = take (s.upto - s.from) (drop s.from log) in
      ap (λ w. first ++ w) (entries_in-snoc log ss a b) ∙ sym (append_assoc first (entries_in log ss) (take (b - a) (drop a log)))

  -- the stretch from the end of a beginning to the end of the log has just what came after
  pub stretch_rest : (log seen added : List E) → log ≡ seen ++ added → take (length log - length seen) (drop (length seen) log) ≡ added
  stretch_rest log seen added is =
      let rest : drop (length seen) log ≡ added = ap (drop (length seen)) is ∙ drop-append_seam seen added in
      let long : length log - length seen ≡ length added = omega (arith, ap length is ∙ length-append seen added) in
      ap (take (length log - length seen)) rest ∙ (ap (λ n. take n added) long ∙ take_whole added)
