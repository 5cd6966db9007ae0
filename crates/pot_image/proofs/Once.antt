-- Bytes are read in one way, and reading from the front finds it.
use Rattle.std.proofs.Common.{append-nil, ◌-◌, ◌≡◌, ◌⊎◌, inl, inr, ℕ, ◌+◌, ◌<◌, ◌≤◌, ◌++◌, List, [], ◌∷◌, Bool, true, false, ◌&&◌, nat_le, cond, Result, Ok, Err, length, take, drop, refl, sym, ap, ap₂, ◌∙◌, arith, append_assoc, length-append}
use Rattle.std.proofs.lemmas.List.{take-append-drop, length-take-le}
use Rattle.std.proofs.lemmas.Bool.{le-leb, leb-true, and_parts, true≢false, cases_Bool}
use Rattle.std.proofs.Math.Seq.{take-append_seam, drop-append_seam}
use Rattle.pot_image.specs.Fields.{Field, Grammar, done, wants, IsField, ReadsFields, BreaksField, joined, IsOf, LeavesAt}
use Rattle.pot_image.specs.Reading.{◌>>=◌, stands, reading}

-- what follows a result that is Ok
abbrev pub and_then : {X Y : Type 0} → Result X ℕ → (X → Result Y ℕ) → Result Y ℕ
and_then (Ok x) f = f x
and_then (Err e) f = Err e

pub reading_then : {A B : Type 0} (g : Grammar A) (next : A → Grammar B) (bytes : List ℕ)
    → reading (g >>= next) bytes ≡ and_then (reading g bytes) (λ x. reading (next x.0) x.1)
unfolding reading ◌>>=◌
reading_then (done a) next bytes = refl
reading_then {A} {B} (wants f g) next bytes = (let again = reading_then (g (take f.size bytes)) next (drop f.size bytes) in by_test (stands f bytes) again)
  where
    by_test : (b : Bool) → reading (g (take f.size bytes) >>= next) (drop f.size bytes) ≡ and_then (reading (g (take f.size bytes)) (drop f.size bytes)) (λ x. reading (next x.0) x.1)
        → cond b (reading (g (take f.size bytes) >>= next) (drop f.size bytes)) (Err (length bytes)) ≡ and_then (cond b (reading (g (take f.size bytes)) (drop f.size bytes)) (Err (length bytes))) (λ x. reading (next x.0) x.1)
    by_test true e = e
    by_test false e = refl

pub done_reads : {A : Type 0} (a : A) (bytes : List ℕ) → reading (done a) bytes ≡ Ok (a, bytes)
unfolding reading
done_reads a bytes = refl

-- reading goes on behind what was read
pub ok_then : {A B : Type 0} (g : Grammar A) (next : A → Grammar B) (bytes rest : List ℕ) (a : A) (r : Result (B × List ℕ) ℕ)
    → reading g bytes ≡ Ok (a, rest) → reading (next a) rest ≡ r → reading (g >>= next) bytes ≡ r
ok_then g next bytes rest a r e h = reading_then g next bytes ∙ ap (λ o. and_then o (λ x. reading (next x.0) x.1)) e ∙ h

-- and stops where nothing was read
pub err_then : {A B : Type 0} (g : Grammar A) (next : A → Grammar B) (bytes : List ℕ) (n : ℕ)
    → reading g bytes ≡ Err n → reading (g >>= next) bytes ≡ Err n
err_then g next bytes n e = reading_then g next bytes ∙ ap (λ o. and_then o (λ x. reading (next x.0) x.1)) e

-- EACH READING IS OF FIELDS

pub ok_is : {X : Type 0} (p q : X) (a b : Result X ℕ) → a ≡ Ok p → b ≡ Ok q → a ≡ b → p ≡ q
ok_is p q a b u v e = cc

err_is : {X : Type 0} (m n : ℕ) (a b : Result X ℕ) → a ≡ Err m → b ≡ Err n → a ≡ b → m ≡ n
err_is m n a b u v e = cc

pub not_both : {X : Type 0} (p : X) (n : ℕ) (r : Result X ℕ) → r ≡ Ok p → r ≡ Err n → ⊥
not_both p n r u v = cc

pub one_value : {A : Type 0} (a b : A) (s t : List ℕ) (r : Result (A × List ℕ) ℕ) → r ≡ Ok (a, s) → r ≡ Ok (b, t) → (a ≡ b) × (s ≡ t)
one_value a b s t r u v = (let e = ok_is (a, s) (b, t) _ _ refl refl (sym u ∙ v) in (ap (λ x. x.0) e, ap (λ x. x.1) e))

pub reads_are : {A : Type 0} (g : Grammar A) (bytes rest : List ℕ) (a : A) → reading g bytes ≡ Ok (a, rest)
    → (xs : List (List ℕ)) × (bytes ≡ joined xs ++ rest) × ReadsFields g xs a
unfolding reading
reads_are (done b) bytes rest a e = (let same = one_value b a bytes rest _ refl e in ([], same.1, same.0))
reads_are {A} (wants f next) bytes rest a e = (let again = reads_are (next (take f.size bytes)) (drop f.size bytes) rest a in by_test (cases_Bool (stands f bytes)) again)
  where
    by_test : ((stands f bytes ≡ true) ⊎ (stands f bytes ≡ false))
        → (reading (next (take f.size bytes)) (drop f.size bytes) ≡ Ok (a, rest) → (xs : List (List ℕ)) × (drop f.size bytes ≡ joined xs ++ rest) × ReadsFields (next (take f.size bytes)) xs a)
        → (xs : List (List ℕ)) × (bytes ≡ joined xs ++ rest) × ReadsFields (wants f next) xs a
    by_test (inl met) again =
        let read : reading (next (take f.size bytes)) (drop f.size bytes) ≡ Ok (a, rest) = ap (λ b. cond b (reading (next (take f.size bytes)) (drop f.size bytes)) (Err (length bytes))) (sym met) ∙ e in
        let r = again read in
        let is = and_parts (nat_le f.size (length bytes)) (f.holds (take f.size bytes)) met in
        let long : f.size ≤ length bytes = leb-true _ _ is.0 in (
          take f.size bytes ∷ r.0,
          sym (take-append-drop f.size bytes) ∙ ap (λ z. take f.size bytes ++ z) r.1 ∙ sym (append_assoc (take f.size bytes) (joined r.0) rest),
          ((length-take-le f.size bytes long, is.1), r.2),
        )
    by_test (inr no_way) again =
        absurd (not_both (a, rest) (length bytes) _ refl (sym e ∙ ap (λ b. cond b (reading (next (take f.size bytes)) (drop f.size bytes)) (Err (length bytes))) no_way))

-- where a field stands, reading goes on behind it
pub reads_on : {A : Type 0} (f : Field) (next : List ℕ → Grammar A) (x rest : List ℕ) → IsField f x → reading (wants f next) (x ++ rest) ≡ reading (next x) rest
unfolding reading
reads_on f next x rest is =
    let front : take f.size (x ++ rest) ≡ x = ap (λ n. take n (x ++ rest)) (sym is.0) ∙ take-append_seam x rest in
    let back : drop f.size (x ++ rest) ≡ rest = ap (λ n. drop n (x ++ rest)) (sym is.0) ∙ drop-append_seam x rest in
    let long : f.size ≤ length (x ++ rest) = (let h = length-append x rest in omega (arith, is.0)) in
    let met : stands f (x ++ rest) ≡ true = ap₂ (λ a b. a && b) (le-leb _ _ long) (ap f.holds front ∙ is.1) in
    ap (λ b. cond b (reading (next (take f.size (x ++ rest))) (drop f.size (x ++ rest))) (Err (length (x ++ rest)))) met ∙ ap₂ (λ y r. reading (next y) r) front back

pub is_read : {A : Type 0} (g : Grammar A) (xs : List (List ℕ)) (rest : List ℕ) (a : A) → ReadsFields g xs a → reading g (joined xs ++ rest) ≡ Ok (a, rest)
unfolding reading
is_read (done b) [] rest a h = ap (λ z. Ok (z, rest)) h
is_read (done b) (x ∷ xs) rest a h = absurd h
is_read (wants f next) [] rest a h = absurd h
is_read (wants f next) (x ∷ xs) rest a h = (ap (reading (wants f next)) (append_assoc x (joined xs) rest) ∙ reads_on f next x (joined xs ++ rest) h.0 ∙ is_read (next x) xs rest a h.1)

pub breaks_are : {A : Type 0} (g : Grammar A) (bytes : List ℕ) (n : ℕ) → reading g bytes ≡ Err n
    → (xs : List (List ℕ)) × (rest : List ℕ) × (bytes ≡ joined xs ++ rest) × BreaksField g xs rest × (n ≡ length rest)
unfolding reading
breaks_are {A} (done b) bytes n e = absurd (not_both (b, bytes) n _ refl e)
breaks_are {A} (wants f next) bytes n e = (let again = breaks_are (next (take f.size bytes)) (drop f.size bytes) n in by_test (cases_Bool (stands f bytes)) again)
  where
    by_test : ((stands f bytes ≡ true) ⊎ (stands f bytes ≡ false))
        → (reading (next (take f.size bytes)) (drop f.size bytes) ≡ Err n → (xs : List (List ℕ)) × (rest : List ℕ) × (drop f.size bytes ≡ joined xs ++ rest) × BreaksField (next (take f.size bytes)) xs rest × (n ≡ length rest))
        → (xs : List (List ℕ)) × (rest : List ℕ) × (bytes ≡ joined xs ++ rest) × BreaksField (wants f next) xs rest × (n ≡ length rest)
    by_test (inl met) again =
        let read : reading (next (take f.size bytes)) (drop f.size bytes) ≡ Err n = ap (λ b. cond b (reading (next (take f.size bytes)) (drop f.size bytes)) (Err (length bytes))) (sym met) ∙ e in
        let r = again read in
        let is = and_parts (nat_le f.size (length bytes)) (f.holds (take f.size bytes)) met in
        let long : f.size ≤ length bytes = leb-true _ _ is.0 in (
          take f.size bytes ∷ r.0,
          r.1,
          sym (take-append-drop f.size bytes) ∙ ap (λ z. take f.size bytes ++ z) r.2 ∙ sym (append_assoc (take f.size bytes) (joined r.0) r.1),
          ((length-take-le f.size bytes long, is.1), r.3),
          r.4,
        )
    by_test (inr unmet) again =
        let left : n ≡ length bytes = sym (err_is (length bytes) n _ _ refl refl (sym (ap (λ b. cond b (reading (next (take f.size bytes)) (drop f.size bytes)) (Err (length bytes))) unmet) ∙ e)) in
        ([], bytes, refl, (λ front back q is. elsewhere front back q is), left)
      where
        elsewhere : (front back : List ℕ) → bytes ≡ front ++ back → IsField f front → ⊥
        elsewhere front back q is =
            let first : take f.size bytes ≡ front = ap₂ (λ m z. take m z) (sym is.0) q ∙ take-append_seam front back in
            let long : f.size ≤ length bytes = (let h = ap length q ∙ length-append front back in omega (arith, is.0)) in
            let met : stands f bytes ≡ true = ap₂ (λ a b. a && b) (le-leb _ _ long) (ap f.holds first ∙ is.1) in
            true≢false (sym met ∙ unmet)

pub breaks_read : {A : Type 0} (g : Grammar A) (xs : List (List ℕ)) (rest : List ℕ) → BreaksField g xs rest → reading g (joined xs ++ rest) ≡ Err (length rest)
unfolding reading
breaks_read (done b) xs rest h = absurd h
breaks_read (wants f next) [] rest h = stops (cases_Bool (stands f rest))
  where
    stops : ((stands f rest ≡ true) ⊎ (stands f rest ≡ false)) → cond (stands f rest) (reading (next (take f.size rest)) (drop f.size rest)) (Err (length rest)) ≡ Err (length rest)
    stops (inr unmet) = ap (λ b. cond b (reading (next (take f.size rest)) (drop f.size rest)) (Err (length rest))) unmet
    stops (inl met) =
        let is = and_parts (nat_le f.size (length rest)) (f.holds (take f.size rest)) met in
        absurd (h (take f.size rest) (drop f.size rest) (sym (take-append-drop f.size rest)) (length-take-le f.size rest (leb-true _ _ is.0), is.1))
breaks_read {A} (wants f next) (x ∷ xs) rest h =
    ap (reading (wants f next)) (append_assoc x (joined xs) rest) ∙ reads_on f next x (joined xs ++ rest) h.0 ∙ breaks_read (next x) xs rest h.1

-- THE LAWS

pub of_read : {A : Type 0} (g : Grammar A) (bytes : List ℕ) (a : A) → reading g bytes ≡ Ok (a, []) → IsOf g bytes a
of_read g bytes a e = (let r = reads_are g bytes [] a e in record { fields = r.0; spelled = r.1 ∙ append-nil (joined r.0); reads = r.2 })

pub read_of : {A : Type 0} (g : Grammar A) (bytes : List ℕ) (a : A) → IsOf g bytes a → reading g bytes ≡ Ok (a, [])
read_of g bytes a o = ap (reading g) (o.spelled ∙ sym (append-nil (joined o.fields))) ∙ is_read g o.fields [] a o.reads

-- the place where reading stops
pub leaves_at : {A : Type 0} (g : Grammar A) (bytes : List ℕ) (n place : ℕ) → reading g bytes ≡ Err n → place + n ≡ length bytes → LeavesAt g bytes place
leaves_at g bytes n place e c = (let r = breaks_are g bytes n e in
    inl (record { fields = r.0; rest = r.1; spelled = r.2; breaks = r.3; counted = (let h : length bytes ≡ length (joined r.0) + length r.1 = ap length r.2 ∙ length-append (joined r.0) r.1 in omega (arith, h, c, r.4)) }))

-- the end of the bytes, where reading is done before it
pub leaves_left : {A : Type 0} (g : Grammar A) (bytes rest : List ℕ) (a : A) → reading g bytes ≡ Ok (a, rest) → 0 < length rest → LeavesAt g bytes (length bytes)
leaves_left g bytes rest a e l = (let r = reads_are g bytes rest a e in
    inr (record { fields = r.0; value = a; rest = rest; spelled = r.1; reads = r.2; left = l; counted = refl }))

-- no more bytes are left than there were
pub err_short : {A : Type 0} (g : Grammar A) (bytes : List ℕ) (n : ℕ) → reading g bytes ≡ Err n → n ≤ length bytes
err_short g bytes n e = (let r = breaks_are g bytes n e in let h : length bytes ≡ length (joined r.0) + length r.1 = ap length r.2 ∙ length-append (joined r.0) r.1 in omega (arith, h, r.4))

pub ok_short : {A : Type 0} (g : Grammar A) (bytes rest : List ℕ) (a : A) → reading g bytes ≡ Ok (a, rest) → length rest ≤ length bytes
ok_short g bytes rest a e = (let r = reads_are g bytes rest a e in let h : length bytes ≡ length (joined r.0) + length rest = ap length r.1 ∙ length-append (joined r.0) rest in omega (arith, h))

pub once_value : {A : Type 0} (g : Grammar A) (bytes : List ℕ) (a b : A) → IsOf g bytes a → IsOf g bytes b → a ≡ b
once_value g bytes a b p q = (one_value a b [] [] _ (read_of g bytes a p) (read_of g bytes b q)).0

-- how a text that leaves the grammar is read
pub data Left {A : Type 0} (g : Grammar A) (bytes : List ℕ) (p : ℕ) : Type 0 where
  stopped : (n : ℕ) → reading g bytes ≡ Err n → p + n ≡ length bytes → Left g bytes p
  over_long : (a : A) (rest : List ℕ) → reading g bytes ≡ Ok (a, rest) → 0 < length rest → p ≡ length bytes → Left g bytes p

left_of : {A : Type 0} (g : Grammar A) (bytes : List ℕ) (p : ℕ) → LeavesAt g bytes p → Left g bytes p
left_of g bytes p (inl b) = (
    let h : length bytes ≡ length (joined b.fields) + length b.rest = ap length b.spelled ∙ length-append (joined b.fields) b.rest in
    stopped (length b.rest) (ap (reading g) b.spelled ∙ breaks_read g b.fields b.rest b.breaks) (omega (arith, h, b.counted)))
left_of g bytes p (inr r) = over_long r.value r.rest (ap (reading g) r.spelled ∙ is_read g r.fields r.rest r.value r.reads) r.left r.counted

one_place : {A : Type 0} (g : Grammar A) (bytes : List ℕ) (p q : ℕ) → Left g bytes p → Left g bytes q → p ≡ q
one_place g bytes p q (stopped n e c) (stopped m h d) = (let same = err_is n m _ _ refl refl (sym e ∙ h) in omega (arith, c, d, same))
one_place g bytes p q (stopped n e c) (over_long a rest h l d) = absurd (not_both (a, rest) n _ h e)
one_place g bytes p q (over_long a rest e l c) (stopped m h d) = absurd (not_both (a, rest) m _ e h)
one_place g bytes p q (over_long a rest e l c) (over_long b more h k d) = c ∙ sym d

pub once_place : {A : Type 0} (g : Grammar A) (bytes : List ℕ) (p q : ℕ) → LeavesAt g bytes p → LeavesAt g bytes q → p ≡ q
once_place g bytes p q l m = one_place g bytes p q (left_of g bytes p l) (left_of g bytes q m)

never_left : {A : Type 0} (g : Grammar A) (bytes : List ℕ) (a : A) (p : ℕ) → reading g bytes ≡ Ok (a, []) → Left g bytes p → ⊥
never_left g bytes a p e (stopped n h c) = not_both (a, []) n _ e h
never_left g bytes a p e (over_long b rest h l c) = (let same = ap length (one_value a b [] rest _ e h).1 in omega (arith, l, same))

pub never_both : {A : Type 0} (g : Grammar A) (bytes : List ℕ) (a : A) (p : ℕ) → IsOf g bytes a → LeavesAt g bytes p → ⊥
never_both g bytes a p o l = never_left g bytes a p (read_of g bytes a o) (left_of g bytes p l)

pub decided : {A : Type 0} (g : Grammar A) (bytes : List ℕ) → ((a : A) × IsOf g bytes a) ⊎ ((p : ℕ) × LeavesAt g bytes p)
decided {A} g bytes = by_reading (reading g bytes) refl
  where
    by_reading : (r : Result (A × List ℕ) ℕ) → reading g bytes ≡ r → ((a : A) × IsOf g bytes a) ⊎ ((p : ℕ) × LeavesAt g bytes p)
    by_reading (Err n) e = (let short = err_short g bytes n e in inr (length bytes - n, leaves_at g bytes n (length bytes - n) e (omega arith)))
    by_reading (Ok p) e = by_rest p.0 p.1 e
      where
        by_rest : (a : A) (rest : List ℕ) → reading g bytes ≡ Ok (a, rest) → ((a : A) × IsOf g bytes a) ⊎ ((p : ℕ) × LeavesAt g bytes p)
        by_rest a [] h = inl (a, of_read g bytes a h)
        by_rest a (x ∷ rest) h = inr (length bytes, leaves_left g bytes (x ∷ rest) a h (omega arith))
