-- The pads that explain another object: as many, bytes, and back again.
use Rattle.std.proofs.Common.{◌≡◌, ◌≢◌, ◌≤◌, ◌<◌, ◌⊎◌, ◌+◌, ◌-◌, ◌*◌, ◌/◌, ◌++◌, ℕ, zero, suc, List, [], ◌∷◌, length, take, drop, inl, inr, refl, ap, ap₂, sym, ◌∙◌, arith, length-append, length-drop}
use Rattle.std.proofs.Math.Nat.{mul-div_cancel, mul-le-mul_right}
use Rattle.std.proofs.Math.Seq.{take-nil}
use Rattle.std.proofs.lemmas.List.{append-nil, drop_all, drop_at, drop-drop, drop-append-le, length-take-le, take_all, take_at, take-append-le, take-append-drop}
use Rattle.pot_bytes.specs.Lists.{AreBytes}
use Rattle.pot_bytes.proofs.ListLemmas.{AreBytes-append, AreBytes-drop, AreBytes-take, AreBytes-xor}
use Rattle.pot_bytes.specs.Sums.{xor, sum_of}
use Rattle.pot_bytes.proofs.SumLemmas.{length-xor, xor_assoc, xor_comm, xor_self, xor_replicate, sum_of-changed}
use Rattle.pot_split.specs.Secrecy.{rows_of, meaning, secrecy, changed_pads, row_at, IsRows}
use Rattle.pot_split.proofs.RowLemmas.{length-sum-rows}
use Rattle.pot_split.proofs.ExplainLemmas.{xor_undone}

-- rows of two lists that stand one behind another
rows_both : (f n size : ℕ) (a x : List ℕ) → length a ≡ f * size → rows_of (f + n) size (a ++ x) ≡ rows_of f size a ++ rows_of n size x
rows_both zero n size [] x e = let z : 0 + n ≡ n = omega arith in ap (λ (m : ℕ). rows_of m size x) z
rows_both zero n size (y ∷ a) x e = absurd (omega arith)
rows_both (suc f) n size a x e =
    let fits : size ≤ length a = grind arith in
    let rest : length (drop size a) ≡ f * size = grind (arith, length-drop) in
    let count : suc f + n ≡ suc (f + n) = omega arith in
    ap (λ (m : ℕ). rows_of m size (a ++ x)) count
    ∙ ap₂ (λ (r : List ℕ) (b : List ℕ). r ∷ rows_of (f + n) size b) (take-append-le size a x fits) (drop-append-le size a x fits)
    ∙ ap (λ (rs : List (List ℕ)). take size a ∷ rs) (rows_both f n size (drop size a) x rest)

-- pads by the row that changes
record IsCut (size count f : ℕ) (pads a r b : List ℕ) : Type 0 where
  whole : pads ≡ a ++ (r ++ b)
  front : length a ≡ f * size
  row : length r ≡ size
  back : length b ≡ (count - f - 1) * size

cut : (size count f : ℕ) (pads : List ℕ) → length pads ≡ count * size → f < count
    → IsCut size count f pads (take (f * size) pads) (take size (drop (f * size) pads)) (drop (f * size + size) pads)
cut size count f pads long inside =
    let more : f + 1 ≤ count = omega arith in
    let low : (f + 1) * size ≤ count * size = mul-le-mul_right size more in
    let step : (f + 1) * size ≡ f * size + size = grind arith in
    let split : count * size ≡ f * size + (size + (count - f - 1) * size) =
    ap (λ (z : ℕ). z * size) (let e : count ≡ f + (1 + (count - f - 1)) = omega arith in e) ∙ (grind arith) in
    let rest = drop (f * size) pads in
    record {
      whole = sym (take-append-drop (f * size) pads)
          ∙ ap (λ (z : List ℕ). take (f * size) pads ++ z) (sym (take-append-drop size rest) ∙ ap (λ (z : List ℕ). take size rest ++ z) (drop-drop size (f * size) pads));
      front = length-take-le (f * size) pads (omega (arith, long, low, step));
      row = length-take-le size rest (omega (arith, long, low, step, length-drop {A = ℕ} (f * size) pads));
      back = omega (arith, long, split, length-drop {A = ℕ} (f * size + size) pads);
    }

-- the rows of pads that are cut
rows_cut : (size count f : ℕ) (pads a r b : List ℕ) → IsCut size count f pads a r b → f < count
    → rows_of count size pads ≡ rows_of f size a ++ (r ∷ rows_of (count - f - 1) size b)
rows_cut size count f pads a r b c inside =
    let n = count - f - 1 in
    let e : count ≡ f + suc n = omega arith in
    ap₂ (λ (m : ℕ) (p : List ℕ). rows_of m size p) e c.whole
    ∙ rows_both f (suc n) size a (r ++ b) c.front
    ∙ ap₂ (λ (x y : List ℕ). rows_of f size a ++ (x ∷ rows_of n size y)) (take_at r b size c.row) (drop_at r b size c.row)

-- changed pads are cut the same way
cut_changed : (size count f : ℕ) (pads d : List ℕ) → length pads ≡ count * size → f < count → length d ≡ size
    → IsCut size count f (changed_pads size f d pads) (take (f * size) pads) (xor (take size (drop (f * size) pads)) d) (drop (f * size + size) pads)
cut_changed size count f pads d long inside wide =
    let c = cut size count f pads long inside in
    record {
      whole = refl;
      front = c.front;
      row = length-xor (take size (drop (f * size) pads)) d (c.row ∙ sym wide) ∙ c.row;
      back = c.back;
    }

length-cut : (size count f : ℕ) (pads a r b : List ℕ) → IsCut size count f pads a r b → f < count → length pads ≡ count * size
length-cut size count f pads a r b c inside =
    let split : f * size + (size + (count - f - 1) * size) ≡ count * size =
    (let g : f * size + (size + (count - f - 1) * size) ≡ (f + (1 + (count - f - 1))) * size = grind arith in g)
    ∙ ap (λ (z : ℕ). z * size) (let e : f + (1 + (count - f - 1)) ≡ count = omega arith in e) in
    ap length c.whole ∙ length-append {A = ℕ} a (r ++ b)
    ∙ omega (arith, c.front, c.row, c.back, split, length-append {A = ℕ} r b)

-- what is added twice is gone
added_twice : (r d : List ℕ) → length d ≡ length r → xor r (xor r d) ≡ d
added_twice r d e = sym (xor_assoc r r d) ∙ ap (λ (z : List ℕ). xor z d) (xor_self r) ∙ xor_replicate (length r) d (omega (arith, e))

-- the XOR of the pads changes by the difference
sum_changed : (size count f : ℕ) (pads d : List ℕ) → length pads ≡ count * size → f < count → length d ≡ size
    → sum_of size (rows_of count size (changed_pads size f d pads)) ≡ xor (sum_of size (rows_of count size pads)) d
sum_changed size count f pads d long inside wide =
    let a = take (f * size) pads in
    let r = take size (drop (f * size) pads) in
    let b = drop (f * size + size) pads in
    let c = cut size count f pads long inside in
    let before = rows_of f size a in
    let after = rows_of (count - f - 1) size b in
    let fits : length (xor r d) ≤ length r = omega (arith, length-xor r d (c.row ∙ sym wide)) in
    ap (sum_of size) (rows_cut size count f (changed_pads size f d pads) a (xor r d) b (cut_changed size count f pads d long inside wide) inside)
    ∙ sum_of-changed size before after r (xor r d) fits
    ∙ ap₂ (λ (u v : List ℕ). xor u v) (ap (sum_of size) (sym (rows_cut size count f pads a r b c inside))) (added_twice r d (wide ∙ sym c.row))

-- rows before and behind the one that changes
row_before : (size count f j : ℕ) (pads a r b : List ℕ) → IsCut size count f pads a r b → j < f → row_at size j pads ≡ row_at size j a
row_before size count f j pads a r b c before =
    let more : j + 1 ≤ f = omega arith in
    let step : (j + 1) * size ≡ j * size + size = grind arith in
    let fits : (j + 1) * size ≤ f * size = mul-le-mul_right size more in
    ap (λ (z : List ℕ). take size (drop (j * size) z)) c.whole
    ∙ ap (take size) (drop-append-le (j * size) a (r ++ b) (omega (arith, c.front, fits, step)))
    ∙ take-append-le size (drop (j * size) a) (r ++ b) (omega (arith, c.front, fits, step, length-drop {A = ℕ} (j * size) a))

row_behind : (size count f j : ℕ) (pads a r b : List ℕ) → IsCut size count f pads a r b → f < j
    → row_at size j pads ≡ row_at size (j - f - 1) b
row_behind size count f j pads a r b c behind =
    let q = j - f - 1 in
    let split : j * size ≡ f * size + (size + q * size) =
    ap (λ (z : ℕ). z * size) (let e : j ≡ f + (1 + q) = omega arith in e) ∙ (grind arith) in
    ap₂ (λ (n : ℕ) (z : List ℕ). take size (drop n z)) split c.whole
    ∙ ap (take size)
    (sym (drop-drop (size + q * size) (f * size) (a ++ (r ++ b)))
    ∙ ap (drop (size + q * size)) (drop_at a (r ++ b) (f * size) c.front)
    ∙ sym (drop-drop (q * size) size (r ++ b))
    ∙ ap (drop (q * size)) (drop_at r b size c.row))

-- without a pad of this number nothing changes
pub none_changed : (size f : ℕ) (pads d : List ℕ) → length pads ≡ f * size → changed_pads size f d pads ≡ pads
none_changed size f pads d long =
    let nothing : drop (f * size) pads ≡ [] = drop_all (f * size) pads (omega (arith, long)) in
    let behind : drop (f * size + size) pads ≡ [] = drop_all (f * size + size) pads (omega (arith, long)) in
    ap₂ (λ (u v : List ℕ). take (f * size) pads ++ (xor u d ++ v)) (ap (take size) nothing ∙ take-nil size) behind
    ∙ append-nil (take (f * size) pads) ∙ take_all (f * size) pads (omega (arith, long))

last_or : (f n : ℕ) → f ≤ n → (f < n) ⊎ (f ≡ n)
last_or f n l = grind arith

pub long_law : (object other pads : List ℕ) (f : ℕ) → length other ≡ length object → 0 < length object → IsRows (length object) pads
    → f ≤ length pads / length object → length (changed_pads (length object) f (xor object other) pads) ≡ length pads
long_law object other pads f same some rows within =
    let size = length object in
    let count = length pads / size in
    let d = xor object other in
    elim (last_or f count within) [
      | inl inside ↦
          length-cut size count f (changed_pads size f d pads) (take (f * size) pads) (xor (take size (drop (f * size) pads)) d) (drop (f * size + size) pads)
          (cut_changed size count f pads d rows inside (length-xor object other (sym same))) inside
          ∙ sym rows
      | inr last ↦ ap length (none_changed size f pads d (rows ∙ ap (λ (z : ℕ). z * size) (sym last)))
    ]

pub back_law : (object other pads : List ℕ) (f : ℕ) → length other ≡ length object → 0 < length object → IsRows (length object) pads
    → f ≤ length pads / length object
    → changed_pads (length object) f (xor other object) (changed_pads (length object) f (xor object other) pads) ≡ pads
back_law object other pads f same some rows within =
    let size = length object in
    let count = length pads / size in
    let d = xor object other in
    let wide : length d ≡ size = length-xor object other (sym same) in
    let again = ap (λ (z : List ℕ). changed_pads size f z (changed_pads size f d pads)) (xor_comm other object) in
    again ∙ elim (last_or f count within) [
      | inl inside ↦
          let a = take (f * size) pads in
          let r = take size (drop (f * size) pads) in
          let b = drop (f * size + size) pads in
          let c = cut size count f pads rows inside in
          let e = cut_changed size count f pads d rows inside wide in
          let changed = changed_pads size f d pads in
          let front : take (f * size) changed ≡ a = take_at a (xor r d ++ b) (f * size) c.front in
          let rest : drop (f * size) changed ≡ xor r d ++ b = drop_at a (xor r d ++ b) (f * size) c.front in
          let row : take size (drop (f * size) changed) ≡ xor r d = ap (take size) rest ∙ take_at (xor r d) b size e.row in
          let behind : drop (f * size + size) changed ≡ b =
          sym (drop-drop size (f * size) changed) ∙ ap (drop size) rest ∙ drop_at (xor r d) b size e.row in
          ap₂ (λ (u v : List ℕ). u ++ v) front
          (ap₂ (λ (u v : List ℕ). xor u d ++ v) row behind ∙ ap (λ (z : List ℕ). z ++ b) (xor_undone r d (c.row ∙ sym wide)))
          ∙ sym c.whole
      | inr last ↦
          let none : length pads ≡ f * size = rows ∙ ap (λ (z : ℕ). z * size) (sym last) in
          ap (changed_pads size f d) (none_changed size f pads d none) ∙ none_changed size f pads d none
    ]

-- a row of the pads stands in the fragments
row_of_pads : (size count j : ℕ) (pads last : List ℕ) → length pads ≡ count * size → j < count
    → row_at size j (pads ++ last) ≡ row_at size j pads
row_of_pads size count j pads last long inside =
    let more : j + 1 ≤ count = omega arith in
    let step : (j + 1) * size ≡ j * size + size = grind arith in
    let fits : (j + 1) * size ≤ count * size = mul-le-mul_right size more in
    ap (take size) (drop-append-le (j * size) pads last (omega (arith, long, fits, step)))
    ∙ take-append-le size (drop (j * size) pads) last (omega (arith, long, fits, step, length-drop {A = ℕ} (j * size) pads))

-- and the last fragment behind them
row_of_last : (size count j : ℕ) (pads last : List ℕ) → length pads ≡ count * size → length last ≡ size → j ≡ count
    → row_at size j (pads ++ last) ≡ last
row_of_last size count j pads last long wide here =
    ap (λ (z : ℕ). take size (drop (z * size) (pads ++ last))) here
    ∙ ap (take size) (drop_at pads last (count * size) long) ∙ take_all size last (omega (arith, wide))

-- the last fragment stays
last_same : (object other sum : List ℕ) → length object ≡ length other → xor other (xor sum (xor object other)) ≡ xor object sum
last_same object other sum e =
    xor_comm other (xor sum (xor object other)) ∙ xor_assoc sum (xor object other) other
    ∙ ap (xor sum) (xor_undone object other e) ∙ xor_comm sum object

pub side : (j f : ℕ) → j ≢ f → (j < f) ⊎ (f < j)
side j f ne = grind arith

pad_same : (size count f j : ℕ) (pads d : List ℕ) → length pads ≡ count * size → f < count → length d ≡ size → j ≢ f
    → row_at size j (changed_pads size f d pads) ≡ row_at size j pads
pad_same size count f j pads d long inside wide apart =
    let a = take (f * size) pads in
    let r = take size (drop (f * size) pads) in
    let b = drop (f * size + size) pads in
    let c = cut size count f pads long inside in
    let e = cut_changed size count f pads d long inside wide in
    let changed = changed_pads size f d pads in
    elim (side j f apart) [
      | inl before ↦ row_before size count f j changed a (xor r d) b e before ∙ sym (row_before size count f j pads a r b c before)
      | inr behind ↦ row_behind size count f j changed a (xor r d) b e behind ∙ sym (row_behind size count f j pads a r b c behind)
    ]

pub others_law : (object other pads : List ℕ) (f j : ℕ) → length other ≡ length object → 0 < length object → IsRows (length object) pads
    → f ≤ length pads / length object → j ≤ length pads / length object → j ≢ f
    → row_at (length object) j (secrecy other (changed_pads (length object) f (xor object other) pads))
    ≡ row_at (length object) j (secrecy object pads)
others_law object other pads f j same some rows within below apart =
    let size = length object in
    let count = length pads / size in
    let d = xor object other in
    let wide : length d ≡ size = length-xor object other (sym same) in
    let changed = changed_pads size f d pads in
    let long : length changed ≡ count * size = long_law object other pads f same some rows within ∙ rows in
    let sum = sum_of size (rows_of count size pads) in
    let sum_wide : length sum ≡ size = length-sum-rows count size pads rows in
    elim (last_or j count below) [
      | inl inside ↦
          row_of_pads size count j changed (xor other (meaning (length other) changed)) long inside
          ∙ elim (last_or f count within) [
            | inl less ↦ pad_same size count f j pads d rows less wide apart
            | inr last ↦ ap (row_at size j) (none_changed size f pads d (rows ∙ ap (λ (z : ℕ). z * size) (sym last)))
          ]
          ∙ sym (row_of_pads size count j pads (xor object sum) rows inside)
      | inr here ↦
          let less : f < count = grind (arith, here, within, apart) in
          let counted : length changed / length other ≡ count =
          ap₂ (λ (u v : ℕ). u / v) long same ∙ mul-div_cancel count some in
          let meant : meaning (length other) changed ≡ xor sum d =
          ap₂ (λ (n s : ℕ). sum_of s (rows_of n s changed)) counted same ∙ sum_changed size count f pads d rows less wide in
          let whole : xor other (meaning (length other) changed) ≡ xor object sum = ap (xor other) meant ∙ last_same object other sum (sym same) in
          let last_wide : length (xor object sum) ≡ size = length-xor object sum (sym sum_wide) in
          ap (λ (z : List ℕ). row_at size j (changed ++ z)) whole
          ∙ row_of_last size count j changed (xor object sum) long last_wide here
          ∙ sym (row_of_last size count j pads (xor object sum) rows last_wide here)
    ]

pub bytes_law : (object other pads : List ℕ) (f : ℕ) → AreBytes object → AreBytes other → AreBytes pads
    → AreBytes (changed_pads (length object) f (xor object other) pads)
bytes_law object other pads f a b p =
    let size = length object in
    AreBytes-append (take (f * size) pads) (xor (row_at size f pads) (xor object other) ++ drop (f * size + size) pads)
    (AreBytes-take (f * size) pads p)
    (AreBytes-append (xor (row_at size f pads) (xor object other)) (drop (f * size + size) pads)
    (AreBytes-xor (row_at size f pads) (xor object other) (AreBytes-take size (drop (f * size) pads) (AreBytes-drop (f * size) pads p)) (AreBytes-xor object other a b))
    (AreBytes-drop (f * size + size) pads p))
