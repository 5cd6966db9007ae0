-- How the random bytes are rewritten in place.
use Rattle.std.proofs.Common.{◌≡◌, ◌<◌, ◌≤◌, inr, ℕ, zero, suc, ◌+◌, ◌-◌, ◌*◌, List, ◌++◌, length, take, drop, get_or, refl, sym, ap, ap₂, ◌∙◌, arith, length-append, length-drop}
use Rattle.std.proofs.lemmas.List.{append_assoc, append-nil, drop_at, drop-drop, length-map, length-take-le, take_at, take-append-drop}
use borrow.Rule.Slice.PartMut.{put_mid}
use Rattle.pot_bytes.specs.Product.{byte_product}
use Rattle.pot_bytes.specs.Rack.{IsGeometry}
use Rattle.pot_bytes.specs.Sums.{xor}
use Rattle.pot_bytes.specs.Weighted.{scaled}
use Rattle.pot_bytes.specs.declared.rack.Geometry.{Geometry}
use Rattle.pot_bytes.proofs.SumLemmas.{length-xor}
use Rattle.pot_gf.specs.Polynomials.{IsSame}
use Rattle.pot_split.specs.Secrecy.{changed_pads, row_at, IsHidden}
use Rattle.pot_split.specs.Threshold.{changed_rows, explaining}
use Rattle.pot_split.proofs.PadLemmas.{none_changed}
use Rattle.pot_split.proofs.SplitLaws.{secrecy_laws}
use Rattle.pot_shard.specs.FileBlocks.{fragment_len, head_len, pads_in, piece_len}
use Rattle.pot_shard.proofs.BlockLemmas.{part_within}
use Rattle.pot_shard.proofs.FileLemmas.{length-pads, whole_rows}
use Rattle.pot_veil.specs.Explained.{content_at, explained, rows_len, rows_start, with_pads, with_part}
use Rattle.pot_veil.proofs.Parts.{drop-past, length-with_part, part-inside, part-nested, part-same, take-before}

-- a part that was lent and comes back
pub put_is : (a k : ℕ) (xs ys : List ℕ) → length ys ≡ k → put_mid a k xs ys ≡ with_part a ys xs
put_is a k xs ys e =
    ap (λ (z : List ℕ). take a xs ++ (ys ++ z)) (drop-drop k a xs ∙ ap (λ (n : ℕ). drop (a + n) xs) (sym e))

-- a part that stays
pub same_part : (n p : ℕ) (bytes : List ℕ) → p + n ≤ length bytes → with_part p (take n (drop p bytes)) bytes ≡ bytes
same_part n p bytes fits =
    let part : List ℕ = take n (drop p bytes) in
    let long : length part ≡ n = length-take-le n (drop p bytes) (omega (arith, length-drop {A = ℕ} p bytes)) in
    ap (λ (z : List ℕ). take p bytes ++ (part ++ z)) (ap (λ (m : ℕ). drop (p + m) bytes) long ∙ sym (drop-drop n p bytes))
    ∙ ap (λ (z : List ℕ). take p bytes ++ z) (take-append-drop n (drop p bytes)) ∙ take-append-drop p bytes

-- a part of a part
pub nested : (n p a at : ℕ) (new bytes : List ℕ) → at ≡ p + a → a + length new ≤ n → p + n ≤ length bytes
    → with_part p (with_part a new (take n (drop p bytes))) bytes ≡ with_part at new bytes
nested n p a at new bytes e inside fits =
    let le : at + length new ≤ length bytes = omega arith in
    let all : List ℕ = with_part at new bytes in
    let long : length all ≡ length bytes = length-with_part at new bytes le in
    let part : List ℕ = take n (drop p all) in
    let size : length part ≡ n = length-take-le n (drop p all) (omega (arith, length-drop {A = ℕ} p all)) in
    ap (λ (z : List ℕ). with_part p z bytes) (sym (part-inside n p a at new bytes e inside fits))
    ∙ ap₂ (λ (u w : List ℕ). u ++ (part ++ w)) (sym (take-before p at new bytes le (omega arith)))
    (ap (λ (m : ℕ). drop (p + m) bytes) size ∙ sym (drop-past (p + n) at new bytes le (omega arith)) ∙ sym (drop-drop n p all))
    ∙ ap (λ (z : List ℕ). take p all ++ z) (take-append-drop n (drop p all)) ∙ take-append-drop p all

-- PADS

fits_pad : (j k : ℕ) → j + 1 < k → j * 928 + 928 ≤ (k - 1) * 928
fits_pad j k lt = grind arith

-- pad j is written
pub pad_written : (g : Geometry) (object other random new : List ℕ) (j at k : ℕ) → length object ≡ 928 → length other ≡ 928
    → length random ≡ piece_len g → j + 1 < g.fragments → at ≡ 16 + j * 928 → k ≡ 928
    → new ≡ xor (take k (drop at random)) (xor object other) → put_mid at k random new ≡ with_pads g object other j random
pad_written g object other random new j at k long same taken inside e size is =
    let pads : List ℕ = pads_in g random in
    let d : List ℕ = xor object other in
    let wide : length d ≡ 928 = length-xor object other (long ∙ sym same) ∙ long in
    let count : length pads ≡ (g.fragments - 1) * 928 = length-pads g random taken in
    let room : j * 928 + 928 ≤ (g.fragments - 1) * 928 = fits_pad j g.fragments inside in
    let row : length (row_at 928 j pads) ≡ 928 = length-take-le 928 (drop (j * 928) pads) (omega (arith, length-drop {A = ℕ} (j * 928) pads)) in
    let there : take k (drop at random) ≡ row_at 928 j pads =
    ap₂ (λ (m n : ℕ). take m (drop n random)) size e ∙ sym (part-nested 928 (j * 928) ((g.fragments - 1) * 928) 16 random room (omega arith)) in
    let now : new ≡ xor (row_at 928 j pads) d = is ∙ ap (λ (z : List ℕ). xor z d) there in
    let full : length new ≡ 928 = ap length now ∙ length-xor (row_at 928 j pads) d (row ∙ sym wide) ∙ row in
    put_is at k random new (full ∙ sym size)
    ∙ sym (nested ((g.fragments - 1) * 928) 16 (j * 928) at new random e (omega arith) (omega arith))
    ∙ ap (λ (z : List ℕ). with_part 16 z random)
    (ap₂ (λ (u : List ℕ) (n : ℕ). take (j * 928) pads ++ (u ++ drop (j * 928 + n) pads)) now full)

-- the last fragment has no pad
pub none_written : (g : Geometry) (object other random : List ℕ) (j : ℕ) → length random ≡ piece_len g → j + 1 ≡ g.fragments
    → random ≡ with_pads g object other j random
none_written g object other random j taken last =
    let pads : List ℕ = pads_in g random in
    let count : length pads ≡ j * 928 = length-pads g random taken ∙ ap (λ (z : ℕ). z * 928) (let e : g.fragments - 1 ≡ j = omega arith in e) in
    sym (ap (λ (z : List ℕ). with_part 16 z random) (none_changed 928 j pads (xor object other) count)
    ∙ same_part ((g.fragments - 1) * 928) 16 random (omega arith))

-- what stands behind the pads is as it was
pub rows_stay : (g : Geometry) (object other random : List ℕ) (j : ℕ) → IsGeometry g → length object ≡ 928 → length other ≡ 928
    → length random ≡ piece_len g → j < g.fragments
    → (length (with_pads g object other j random) ≡ piece_len g)
    × (take (rows_len g) (drop (rows_start g j) (with_pads g object other j random)) ≡ take (rows_len g) (drop (rows_start g j) random))
rows_stay g object other random j geometry long same taken inside =
    let pads : List ℕ = pads_in g random in
    let new : List ℕ = changed_pads 928 j (xor object other) pads in
    let rows = whole_rows (g.fragments - 1) (length object) pads (omega (arith, long))
    (length-pads g random taken ∙ ap (λ (z : ℕ). (g.fragments - 1) * z) (sym long)) in
    let hidden : IsHidden object other pads j = record {
      some = omega (arith, long);
      same_length = same ∙ sym long;
      rows = rows.1;
      fragment = omega (arith, rows.0, inside);
    } in
    let size : length new ≡ (g.fragments - 1) * 928 =
    ap (λ (z : ℕ). length (changed_pads z j (xor object other) pads)) (sym long)
    ∙ secrecy_laws.as_long object other pads j hidden ∙ length-pads g random taken in
    let room : 16 + length new ≤ length random = omega arith in
    let within : rows_start g j + fragment_len g ≤ piece_len g =
    part_within (head_len g) (fragment_len g) j g.fragments (fragment_len g) (piece_len g) inside refl refl in (
      length-with_part 16 new random room ∙ taken,
      part-same (rows_len g) (rows_start g j) 16 new random room (omega arith) (inr (omega arith)),
    )

-- the coefficients are written
pub rows_written : (g : Geometry) (object other seen random changed content other_content new : List ℕ) (j start k : ℕ) → IsGeometry g
    → length object ≡ 928 → length other ≡ 928 → length random ≡ piece_len g → j < g.fragments
    → changed ≡ with_pads g object other j random
    → content ≡ content_at g object random j → other_content ≡ content_at g other changed j
    → start ≡ rows_start g j → k ≡ rows_len g → length new ≡ length (take k (drop start changed))
    → new ≡ explaining content other_content seen (take k (drop start changed))
    → put_mid start k changed new ≡ explained g object other j seen random
rows_written g object other seen random changed content other_content new j start k geometry long same taken inside is first second here size full now =
    let stay = rows_stay g object other random j geometry long same taken inside in
    let within : rows_start g j + fragment_len g ≤ piece_len g =
    part_within (head_len g) (fragment_len g) j g.fragments (fragment_len g) (piece_len g) inside refl refl in
    let whole : length changed ≡ piece_len g = ap length is ∙ stay.0 in
    let part : length (take k (drop start changed)) ≡ k =
    length-take-le k (drop start changed) (omega (arith, length-drop {A = ℕ} start changed, whole, within, here, size)) in
    let rows : take k (drop start changed) ≡ take (rows_len g) (drop (rows_start g j) random) =
    ap₂ (λ (m n : ℕ). take m (drop n changed)) size here ∙ ap (λ (z : List ℕ). take (rows_len g) (drop (rows_start g j) z)) is ∙ stay.1 in
    let contents : other_content ≡ content_at g other (with_pads g object other j random) j = second ∙ ap (λ (z : List ℕ). content_at g other z j) is in
    put_is start k changed new (full ∙ part)
    ∙ ap (λ (z : List ℕ). with_part start z changed)
    (now ∙ ap₂ (λ (u w : List ℕ). explaining u w seen (take k (drop start changed))) first contents
    ∙ ap (explaining (content_at g object random j) (content_at g other (with_pads g object other j random) j) seen) rows)
    ∙ ap₂ (λ (s : ℕ) (z : List ℕ). with_part s
    (explaining (content_at g object random j) (content_at g other (with_pads g object other j random) j) seen (take (rows_len g) (drop (rows_start g j) random))) z) here is

-- ROWS

-- a row more of the changed rows
rows_more : (d v : List ℕ) (t n : ℕ) (rows : List ℕ)
    → changed_rows d v t (suc n) rows ≡ changed_rows d v t n rows ++ xor (take (length d) (drop (n * length d) rows)) (scaled (get_or v (t + n) 0) d)
rows_more d v t zero rows =
    append-nil (xor (take (length d) rows) (scaled (get_or v t 0) d))
    ∙ ap₂ (λ (m s : ℕ). xor (take (length d) (drop m rows)) (scaled (get_or v s 0) d))
    (let e : 0 ≡ 0 * length d = omega arith in e) (let e : t ≡ t + 0 = omega arith in e)
rows_more d v t (suc n) rows =
    let size : ℕ = length d in
    let first : List ℕ = xor (take size rows) (scaled (get_or v t 0) d) in
    let next : suc t + n ≡ t + suc n = omega arith in
    let step : size + n * size ≡ suc n * size = grind arith in
    ap (λ (z : List ℕ). first ++ z) (rows_more d v (suc t) n (drop size rows))
    ∙ sym (append_assoc first (changed_rows d v (suc t) n (drop size rows)) (xor (take size (drop (n * size) (drop size rows))) (scaled (get_or v (suc t + n) 0) d)))
    ∙ ap₂ (λ (u : List ℕ) (s : ℕ). (first ++ changed_rows d v (suc t) n (drop size rows)) ++ xor (take size u) (scaled (get_or v s 0) d))
    (drop-drop (n * size) size rows ∙ ap (λ (m : ℕ). drop m rows) step) next

length_front : (d v : List ℕ) (t n : ℕ) (rows : List ℕ) → n * length d ≤ length rows → length (changed_rows d v t n rows) ≡ n * length d
length_front d v t zero rows le = omega arith
length_front d v t (suc n) rows le =
    let size : ℕ = length d in
    let step : suc n * size ≡ size + n * size = grind arith in
    let row : length (take size rows) ≡ size = length-take-le size rows (omega arith) in
    let first : length (xor (take size rows) (scaled (get_or v t 0) d)) ≡ size =
    length-xor (take size rows) (scaled (get_or v t 0) d) (row ∙ sym (length-map d (byte_product (get_or v t 0)))) ∙ row in
    let rest : length (changed_rows d v (suc t) n (drop size rows)) ≡ n * size = length_front d v (suc t) n (drop size rows) (omega (arith, length-drop {A = ℕ} size rows)) in
    length-append {A = ℕ} (xor (take size rows) (scaled (get_or v t 0) d)) (changed_rows d v (suc t) n (drop size rows)) ∙ omega arith

below : (r n size : ℕ) → r < n → r * size + size ≤ n * size
below r n size lt = grind arith

-- the next row is written
pub row_written : (d v old rows new : List ℕ) (r n size k : ℕ) → length d ≡ size → length old ≡ n * size → r < n
    → rows ≡ changed_rows d v 1 r old ++ drop (r * size) old → k ≡ size
    → new ≡ xor (take k (drop (r * size) rows)) (scaled (get_or v (r + 1) 0) d)
    → put_mid (r * size) k rows new ≡ changed_rows d v 1 (r + 1) old ++ drop ((r + 1) * size) old
row_written d v old rows new r n size k wide long lt is e here =
    let front : List ℕ = changed_rows d v 1 r old in
    let room : r * size + size ≤ n * size = below r n size lt in
    let count : r * length d ≡ r * size = ap (λ (z : ℕ). r * z) wide in
    let front_long : length front ≡ r * size = length_front d v 1 r old (omega arith) ∙ count in
    let rest : drop (r * size) rows ≡ drop (r * size) old = ap (drop (r * size)) is ∙ drop_at front (drop (r * size) old) (r * size) front_long in
    let row : new ≡ xor (take (length d) (drop (r * length d) old)) (scaled (get_or v (1 + r) 0) d) =
    here ∙ ap (λ (z : List ℕ). xor (take k z) (scaled (get_or v (r + 1) 0) d)) (rest ∙ ap (λ (m : ℕ). drop m old) (sym count))
    ∙ ap₂ (λ (m s : ℕ). xor (take m (drop (r * length d) old)) (scaled (get_or v s 0) d)) (e ∙ sym wide) (let z : r + 1 ≡ 1 + r = omega arith in z) in
    let next : suc r ≡ r + 1 = omega arith in
    let behind : r * size + k ≡ (r + 1) * size = ap (λ (z : ℕ). r * size + z) e ∙ (grind arith) in
    ap₂ (λ (u w : List ℕ). u ++ (new ++ w)) (ap (take (r * size)) is ∙ take_at front (drop (r * size) old) (r * size) front_long)
    (ap (drop k) rest ∙ drop-drop k (r * size) old ∙ ap (λ (m : ℕ). drop m old) behind)
    ∙ sym (append_assoc front new (drop ((r + 1) * size) old))
    ∙ ap (λ (z : List ℕ). z ++ drop ((r + 1) * size) old)
    (ap (λ (z : List ℕ). front ++ z) row ∙ sym (rows_more d v 1 r old) ∙ ap (λ (m : ℕ). changed_rows d v 1 m old) next)

-- factors that are the same one by one
pub same_factors : (d v w : List ℕ) (t n : ℕ) (rows : List ℕ) → IsSame v w → changed_rows d v t n rows ≡ changed_rows d w t n rows
same_factors d v w t zero rows same = refl
same_factors d v w t (suc n) rows same =
    ap₂ (λ (f : ℕ) (z : List ℕ). xor (take (length d) rows) (scaled f d) ++ z) (same t) (same_factors d v w (suc t) n (drop (length d) rows) same)
