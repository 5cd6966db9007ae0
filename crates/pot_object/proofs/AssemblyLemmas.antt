-- Objects that stand one after another, and the file that their parts make.
use Rattle.std.proofs.Common.{◌≡◌, ◌≢◌, ◌≤◌, ◌<◌, ◌+◌, ◌-◌, ◌*◌, ◌++◌, ℕ, zero, suc, List, length, take, drop, min, inl, inr, refl, ap, sym, subst, ◌∙◌, arith, length-append, length-drop}
use Rattle.std.proofs.lemmas.Bool.{cases_lt}
use Rattle.std.proofs.lemmas.List.{drop_all, drop_at, drop-append-le, drop-drop, length-take-le, take_all, take-append-drop, take-append-le}
use Rattle.pot_object.specs.Pieces.{longest, part_of, pieces_of}
use Rattle.pot_object.specs.Objects.{head_at, object, object_bytes, part_length, IsObjectHead}
use Rattle.pot_object.specs.Assembly.{count_of, joined, object_at, objects_from, objects_of, part_at, piece_at, AreObjects, BeginsWhole}
use Rattle.pot_object.specs.declared.object.ObjectHead.{ObjectHead}
use Rattle.pot_object.proofs.ReadLemmas.{head_at-object, made}

-- a number of an ascending list is as far above a bound as its place
above : (f : ℕ → ℕ) (n b p : ℕ) → ((k : ℕ) → k + 1 < n → f k < f (k + 1)) → b ≤ f p
    → (d k : ℕ) → k ≡ p + d → k < n → b + d ≤ f k
above f n b p rises base zero k e l =
    let same : p ≡ k = omega arith in
    subst (λ (z : ℕ). b + 0 ≤ f z) same (omega arith)
above f n b p rises base (suc d) k e l =
    let before : b + d ≤ f (p + d) = above f n b p rises base d (p + d) refl (omega arith) in
    let step : f (p + d) < f (p + d + 1) = rises (p + d) (omega arith) in
    let same : p + d + 1 ≡ k = omega arith in
    let next : f (p + d) < f k = subst (λ (z : ℕ). f (p + d) < f z) same step in
    omega arith

-- where the first p numbers are their places and the next is not p, none is p
pub gap : (f : ℕ → ℕ) (n p : ℕ) → ((k : ℕ) → k + 1 < n → f k < f (k + 1)) → ((k : ℕ) → k < p → (k < n) × (f k ≡ k))
    → ((p < n) × (f p ≡ p) → ⊥) → (k : ℕ) → k < n → f k ≢ p
gap f n p rises begins other k l e = elim (cases_lt k p) [
  | inl before ↦ let here : f k ≡ k = (begins k before).1 in absurd (omega arith)
  | inr behind ↦
      let least : 0 + p ≤ f p = above f n 0 0 rises (omega arith) p p (omega arith) (omega arith) in
      let apart : f p ≢ p = λ same. other (omega arith, same) in
      let high : p + 1 ≤ f p = omega arith in
      let far : p + 1 + (k - p) ≤ f k = above f n (p + 1) p rises high (k - p) k (omega arith) l in
      absurd (omega arith)
]

-- an ascending list whose numbers are below m has no more than m
pub few : (f : ℕ → ℕ) (n m : ℕ) → ((k : ℕ) → k + 1 < n → f k < f (k + 1)) → ((k : ℕ) → k < n → f k < m) → n ≤ m
few f n m rises below = elim (cases_lt m n) [
  | inl more ↦
      let high : 0 + m ≤ f m = above f n 0 0 rises (omega arith) m m (omega arith) more in
      let low : f m < m = below m more in
      absurd (omega arith)
  | inr enough ↦ enough
]

-- the length of parts one after another
length-joined : (f : ℕ → List ℕ) (whole n : ℕ) → ((k : ℕ) → k < n → length (f k) ≡ min 864 (whole - k * 864))
    → length (joined f n) ≡ min (n * 864) whole
length-joined f whole zero each = omega arith
length-joined f whole (suc n) each =
    let before : length (joined f n) ≡ min (n * 864) whole = length-joined f whole n (λ k l. each k (omega arith)) in
    let last : length (f n) ≡ min 864 (whole - n * 864) = each n (omega arith) in
    omega (arith, length-append {A = ℕ} (joined f n) (f n))

-- each part stands in its place
part_of-joined : (f : ℕ → List ℕ) (whole n k : ℕ) → k < n → ((i : ℕ) → i < n → length (f i) ≡ min 864 (whole - i * 864))
    → ((i : ℕ) → i < n → i * 864 ≤ whole) → part_of (joined f n) k ≡ f k
part_of-joined f whole zero k l each within = absurd (omega arith)
part_of-joined f whole (suc n) k l each within =
    let front = joined f n in
    let fits : n * 864 ≤ whole = within n (omega arith) in
    let long : length front ≡ n * 864 = length-joined f whole n (λ i h. each i (omega arith)) ∙ (let e : min (n * 864) whole ≡ n * 864 = omega arith in e) in
    elim (cases_lt k n) [
      | inl before ↦
          ap (take 864) (drop-append-le (k * 864) front (f n) (omega arith))
          ∙ take-append-le 864 (drop (k * 864) front) (f n) (omega (arith, length-drop {A = ℕ} (k * 864) front))
          ∙ part_of-joined f whole n k before (λ i h. each i (omega arith)) (λ i h. within i (omega arith))
      | inr behind ↦
          let same : n ≡ k = omega arith in
          let last : length (f n) ≡ min 864 (whole - n * 864) = each n (omega arith) in
          let here : part_of (front ++ f n) n ≡ f n = ap (take 864) (drop_at front (f n) (n * 864) long) ∙ take_all 864 (f n) (omega arith) in
          subst (λ (z : ℕ). part_of (front ++ f n) z ≡ f z) same here
    ]

-- objects that are those of a file one by one are those of the file
from_each : (id file objects : List ℕ) (whole n p : ℕ) → p + n ≡ whole → length objects ≡ whole * 928
    → ((k : ℕ) → k < whole → object_at objects k ≡ object id file k) → drop (p * 928) objects ≡ objects_from id file p n
from_each id file objects whole zero p e long each = drop_all (p * 928) objects (omega arith)
from_each id file objects whole (suc n) p e long each =
    let rest = drop (p * 928) objects in
    let next : p * 928 + 928 ≡ suc p * 928 = omega arith in
    sym (take-append-drop 928 rest)
    ∙ ap (λ (z : List ℕ). z ++ drop 928 rest) (each p (omega arith))
    ∙ ap (λ (z : List ℕ). object id file p ++ z)
    (drop-drop 928 (p * 928) objects ∙ ap (λ (z : ℕ). drop z objects) next
    ∙ from_each id file objects whole n (suc p) (omega arith) long each)

-- the range that an object of the row fills
pub whole_object : (objects : List ℕ) (k : ℕ) → take (k * 928 + 928 - k * 928) (drop (k * 928) objects) ≡ object_at objects k
whole_object objects k =
    let n : k * 928 + 928 - k * 928 ≡ 928 = omega arith in
    ap (λ (z : ℕ). take z (drop (k * 928) objects)) n

-- an object of the row is 928 bytes
pub length-object_at : (objects : List ℕ) (k : ℕ) → length objects ≡ count_of objects * 928 → k < count_of objects
    → length (object_at objects k) ≡ 928
length-object_at objects k long l =
    length-take-le 928 (drop (k * 928) objects) (omega (arith, length-drop {A = ℕ} (k * 928) objects))

-- the head of an object of the row
pub head-object_at : (h : ObjectHead) (objects : List ℕ) → AreObjects h objects → (k : ℕ) → k < count_of objects
    → head_at (object_at objects k) ≡ record h { piece = piece_at objects k }
head-object_at h objects a k l = head_at-object (record h { piece = piece_at objects k }) (object_at objects k) (a.each k l)

-- an object of the row that is in its place, by the head and the part that it has
in_place : (h : ObjectHead) (objects : List ℕ) → AreObjects h objects → (k : ℕ) → k < count_of objects → piece_at objects k ≡ k
    → object_at objects k ≡ object_bytes (record h { piece = k }) (part_at objects k)
in_place h objects a k l same =
    let head = head-object_at h objects a k l in
    (a.each k l).spelled
    ∙ ap (λ (z : ObjectHead). object_bytes (record h { piece = piece_at objects k }) (take (part_length z) (drop 64 (object_at objects k)))) (sym head)
    ∙ ap (λ (z : ℕ). object_bytes (record h { piece = z }) (part_at objects k)) same

-- the length of a part of the row
length-part_at : (h : ObjectHead) (objects : List ℕ) → AreObjects h objects → (k : ℕ) → k < count_of objects → piece_at objects k ≡ k
    → length (part_at objects k) ≡ min 864 (h.length - k * 864)
length-part_at h objects a k l same =
    let bytes = object_at objects k in
    let head = head-object_at h objects a k l in
    let n : part_length (head_at bytes) ≡ min 864 (h.length - k * 864) =
    ap part_length head ∙ ap (λ (z : ℕ). min 864 (h.length - z * 864)) same in
    let room : length (drop 64 bytes) ≡ 864 = omega (arith, length-drop {A = ℕ} 64 bytes, length-object_at objects k a.long l) in
    length-take-le (part_length (head_at bytes)) (drop 64 bytes) (omega (arith, n)) ∙ n

-- the head of one object is the head of some file
IsHead-row : (h : ObjectHead) (objects : List ℕ) → AreObjects h objects → (k : ℕ) → k < count_of objects → piece_at objects k ≡ k
    → IsObjectHead (record h { piece = k })
IsHead-row h objects a k l same = subst (λ (z : ℕ). IsObjectHead (record h { piece = z })) same (a.each k l).head

-- where all pieces are there, there are as many objects
pub all_there : (h : ObjectHead) (objects : List ℕ) → AreObjects h objects → 0 < h.pieces → BeginsWhole objects h.pieces
    → count_of objects ≡ h.pieces
all_there h objects a first whole =
    let most : count_of objects ≤ h.pieces =
    few (piece_at objects) (count_of objects) h.pieces a.ascending (λ k l. (a.each k l).head.exists) in
    let last : h.pieces - 1 < count_of objects = (whole (h.pieces - 1) (omega arith)).0 in
    omega arith

-- the head of an object of the row is the head of some file
pub IsHead-object_at : (h : ObjectHead) (objects : List ℕ) → AreObjects h objects → (k : ℕ) → k < count_of objects → IsObjectHead (head_at (object_at objects k))
IsHead-object_at h objects a k l = subst IsObjectHead (sym (head-object_at h objects a k l)) (a.each k l).head

-- some piece exists
pub some_piece : (h : ObjectHead) (objects : List ℕ) → AreObjects h objects → 0 < count_of objects → 0 < h.pieces
some_piece h objects a some = let e = (a.each 0 some).head.exists in omega (arith, e)

-- the parts of all pieces, one after another, are the file whose objects these are
pub objects_of-joined : (h : ObjectHead) (objects : List ℕ) → AreObjects h objects → 0 < count_of objects → BeginsWhole objects h.pieces
    → objects ≡ objects_of h.file_id (joined (part_at objects) h.pieces) × length (joined (part_at objects) h.pieces) ≡ h.length × h.length ≤ longest
unfolding object made
objects_of-joined h objects a some whole =
    let n = h.pieces in
    let file = joined (part_at objects) n in
    let first : 0 < n = some_piece h objects a some in
    let head0 = IsHead-row h objects a 0 (whole 0 first).0 (whole 0 first).1 in
    let cut : n ≡ pieces_of h.length = head0.cut in
    let count : count_of objects ≡ n = all_there h objects a first whole in
    let within : (i : ℕ) → i < n → i * 864 ≤ h.length = λ i l. omega (arith, cut) in
    let each : (i : ℕ) → i < n → length (part_at objects i) ≡ min 864 (h.length - i * 864) =
    λ i l. length-part_at h objects a i (whole i l).0 (whole i l).1 in
    let long : length file ≡ h.length = length-joined (part_at objects) h.length n each ∙ (let e : min (n * 864) h.length ≡ h.length = omega (arith, cut) in e) in
    let one : (k : ℕ) → k < n → object_at objects k ≡ object h.file_id file k =
    λ k l. in_place h objects a k (whole k l).0 (whole k l).1
    ∙ ap (λ (z : List ℕ). object_bytes (record h { piece = k }) z) (sym (part_of-joined (part_at objects) h.length n k l each within))
    ∙ ap (λ (z : ℕ). object_bytes (made h.file_id k z h.length) (part_of file k)) (cut ∙ ap pieces_of (sym long))
    ∙ ap (λ (z : ℕ). object_bytes (made h.file_id k (pieces_of (length file)) z) (part_of file k)) (sym long) in
    let all : objects ≡ objects_from h.file_id file 0 n = from_each h.file_id file objects n n 0 (omega arith) (a.long ∙ ap (λ (z : ℕ). z * 928) count) one in
    (all ∙ ap (objects_from h.file_id file 0) (cut ∙ ap pieces_of (sym long)), long, head0.fits)
