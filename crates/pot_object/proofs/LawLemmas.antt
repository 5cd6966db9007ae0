-- What is written is in the grammar, and the objects of a file are those of no other.
use Rattle.std.proofs.Common.{◌≡◌, ◌≤◌, ◌<◌, ◌+◌, ◌-◌, ◌*◌, ◌++◌, ℕ, zero, suc, List, length, take, drop, min, replicate, refl, ap, sym, subst, ◌∙◌, arith, length-append, length-drop}
use Rattle.std.proofs.Math.Seq.{take-add}
use Rattle.std.proofs.lemmas.List.{append_assoc, append-nil, drop_at, drop-drop, length-take, take_all, take_at}
use Rattle.pot_bytes.specs.Digests.{digest_bytes}
use Rattle.pot_object.specs.Pieces.{longest, part_of, pieces_of}
use Rattle.pot_object.specs.Objects.{head_at, head_bytes, head_of, object, object_bytes, part_length, IsObjectHead, IsObject}
use Rattle.pot_object.specs.Assembly.{count_of, joined, object_at, objects_from, objects_of, piece_at, AreObjectsOf, IsLeastMissing, IsSeries}
use Rattle.pot_object.specs.declared.object.ObjectHead.{ObjectHead}
use Rattle.pot_object.proofs.ObjectLemmas.{length-object, part-object}
use Rattle.pot_object.proofs.ReadLemmas.{head_at-head_bytes, head_at-object}

-- the length of a part
length-part : (id file : List ℕ) (piece : ℕ) → length (part_of file piece) ≡ part_length (head_of id file piece)
length-part id file piece = omega (arith, length-take {A = ℕ} 864 (drop (piece * 864) file), length-drop {A = ℕ} (piece * 864) file)

pub part-written : (id file : List ℕ) (piece : ℕ) → length id ≡ 16
    → take (part_length (head_of id file piece)) (drop 64 (object id file piece)) ≡ part_of file piece
part-written id file piece whole =
    ap (λ (n : ℕ). take n (drop 64 (object id file piece))) (sym (length-part id file piece)) ∙ part-object id file piece whole

IsHead-written : (id file : List ℕ) (piece : ℕ) → length id ≡ 16 → length file ≤ longest → piece < pieces_of (length file)
    → IsObjectHead (head_of id file piece)
IsHead-written id file piece whole fits exists = record { id = whole; fits = fits; cut = refl; exists = exists }

pub IsObject-written : (id file : List ℕ) (piece : ℕ) → length id ≡ 16 → length file ≤ longest → piece < pieces_of (length file)
    → IsObject (head_of id file piece) (object id file piece)
unfolding object
IsObject-written id file piece whole fits exists = record {
  head = IsHead-written id file piece whole fits exists;
  spelled = ap (object_bytes (head_of id file piece)) (sym (part-written id file piece whole));
}

pub one_head : (h g : ObjectHead) (bytes : List ℕ) → IsObject h bytes → IsObject g bytes → h ≡ g
one_head h g bytes a b = sym (head_at-object h bytes a) ∙ head_at-object g bytes b

pub one_spelling : (h : ObjectHead) (a b : List ℕ) → IsObject h a → IsObject h b
    → take (part_length h) (drop 64 a) ≡ take (part_length h) (drop 64 b) → a ≡ b
one_spelling h a b x y same = x.spelled ∙ ap (object_bytes h) same ∙ sym y.spelled

-- the objects of some pieces
length-objects_from : (id file : List ℕ) (p n : ℕ) → length id ≡ 16 → length (objects_from id file p n) ≡ n * 928
length-objects_from id file p zero whole = refl
length-objects_from id file p (suc n) whole =
    omega (arith, length-append {A = ℕ} (object id file p) (objects_from id file (suc p) n), length-object id file p whole, length-objects_from id file (suc p) n whole)

object_at-objects_from : (id file : List ℕ) (p n k : ℕ) → length id ≡ 16 → k < n
    → object_at (objects_from id file p n) k ≡ object id file (p + k)
object_at-objects_from id file p zero k whole l = absurd (omega arith)
object_at-objects_from id file p (suc n) zero whole l =
    let same : p ≡ p + 0 = omega arith in
    take_at (object id file p) (objects_from id file (suc p) n) 928 (length-object id file p whole) ∙ ap (object id file) same
object_at-objects_from id file p (suc n) (suc k) whole l =
    let rest = objects_from id file (suc p) n in
    let all = object id file p ++ rest in
    let step : suc k * 928 ≡ 928 + k * 928 = omega arith in
    let same : suc p + k ≡ p + suc k = omega arith in
    ap (λ (z : ℕ). take 928 (drop z all)) step
    ∙ ap (take 928) (sym (drop-drop (k * 928) 928 all))
    ∙ ap (λ (z : List ℕ). take 928 (drop (k * 928) z)) (drop_at (object id file p) rest 928 (length-object id file p whole))
    ∙ object_at-objects_from id file (suc p) n k whole (omega arith)
    ∙ ap (object id file) same

-- the first head of objects
head_at-object_first : (id file rest : List ℕ) (p : ℕ) → length id ≡ 16 → length file ≤ longest → p < pieces_of (length file)
    → head_at (object id file p ++ rest) ≡ head_of id file p
unfolding object object_bytes
head_at-object_first id file rest p whole fits exists =
    let h = head_of id file p in
    let part = part_of file p in
    let back : List ℕ = part ++ replicate (864 - length part) 0 in
    let digest = digest_bytes (head_bytes h ++ back) in
    ap (λ (z : List ℕ). head_at (z ++ rest)) (append_assoc (head_bytes h) digest back)
    ∙ ap head_at (append_assoc (head_bytes h) (digest ++ back) rest)
    ∙ head_at-head_bytes h ((digest ++ back) ++ rest) (IsHead-written id file p whole fits exists)

head_at-objects_from : (id file : List ℕ) (p n : ℕ) → length id ≡ 16 → length file ≤ longest → p < pieces_of (length file) → 0 < n
    → head_at (objects_from id file p n) ≡ head_of id file p
head_at-objects_from id file p zero whole fits exists some = absurd (omega arith)
head_at-objects_from id file p (suc n) whole fits exists some =
    head_at-object_first id file (objects_from id file (suc p) n) p whole fits exists

-- a file and its id
pub record IsFile (id file : List ℕ) : Type 0 where
  pub whole : length id ≡ 16
  pub fits : length file ≤ longest

count-objects_of : (id file : List ℕ) → IsFile id file → count_of (objects_of id file) ≡ pieces_of (length file)
count-objects_of id file is = omega (arith, length-objects_from id file 0 (pieces_of (length file)) is.whole)

head_at-objects_of : (id file : List ℕ) → IsFile id file → head_at (objects_of id file) ≡ head_of id file 0
head_at-objects_of id file is = head_at-objects_from id file 0 (pieces_of (length file)) is.whole is.fits (omega arith) (omega arith)

object_at-objects_of : (id file : List ℕ) → IsFile id file → (k : ℕ) → k < pieces_of (length file)
    → object_at (objects_of id file) k ≡ object id file k
object_at-objects_of id file is k l =
    let same : 0 + k ≡ k = omega arith in
    object_at-objects_from id file 0 (pieces_of (length file)) k is.whole l ∙ ap (object id file) same

piece_at-objects_of : (id file : List ℕ) → IsFile id file → (k : ℕ) → k < pieces_of (length file) → piece_at (objects_of id file) k ≡ k
piece_at-objects_of id file is k l =
    ap (λ (z : List ℕ). (head_at z).piece) (object_at-objects_of id file is k l)
    ∙ ap (λ (z : ObjectHead). z.piece) (head_at-object (head_of id file k) (object id file k) (IsObject-written id file k is.whole is.fits l))

-- the objects of all pieces are a series
pub IsSeries-objects_of : (id file : List ℕ) → IsFile id file → IsSeries (objects_of id file)
IsSeries-objects_of id file is =
    let all = objects_of id file in
    let n = pieces_of (length file) in
    let count = count-objects_of id file is in
    let head = head_at-objects_of id file is in
    record {
      some = omega (arith, count);
      objects_are = record {
        long = omega (arith, count, length-objects_from id file 0 n is.whole);
        each = λ k l.
            let inside : k < n = omega (arith, count) in
            let one = IsObject-written id file k is.whole is.fits inside in
            let placed : IsObject (record (head_of id file 0) { piece = piece_at all k }) (object_at all k) =
            subst (λ (z : ℕ). IsObject (record (head_of id file 0) { piece = z }) (object_at all k)) (sym (piece_at-objects_of id file is k inside))
            (subst (λ (z : List ℕ). IsObject (head_of id file k) z) (sym (object_at-objects_of id file is k inside)) one) in
            subst (λ (z : ObjectHead). IsObject (record z { piece = piece_at all k }) (object_at all k)) (sym head) placed;
        ascending = λ k l.
            let a : piece_at all k ≡ k = piece_at-objects_of id file is k (omega (arith, count)) in
            let b : piece_at all (k + 1) ≡ k + 1 = piece_at-objects_of id file is (k + 1) (omega (arith, count)) in
            omega (arith, a, b);
      };
    }

-- none of them is missing
pub none_missing : (id file : List ℕ) → IsFile id file → (piece : ℕ) → IsLeastMissing (objects_of id file) piece → ⊥
none_missing id file is piece m =
    let inside : piece < pieces_of (length file) =
    omega (arith, m.exists, ap (λ (z : ObjectHead). z.pieces) (head_at-objects_of id file is)) in
    m.missing piece (omega (arith, count-objects_of id file is)) (piece_at-objects_of id file is piece inside)

-- parts one after another
joined-part_of : (file : List ℕ) (n : ℕ) → joined (part_of file) n ≡ take (n * 864) file
joined-part_of file zero = refl
joined-part_of file (suc n) =
    let step : n * 864 + 864 ≡ suc n * 864 = omega arith in
    ap (λ (z : List ℕ). z ++ part_of file n) (joined-part_of file n) ∙ sym (take-add (n * 864) 864 file) ∙ ap (λ (z : ℕ). take z file) step

joined_same : (f g : ℕ → List ℕ) (n : ℕ) → ((k : ℕ) → k < n → f k ≡ g k) → joined f n ≡ joined g n
joined_same f g zero same = refl
joined_same f g (suc n) same =
    ap (λ (z : List ℕ). z ++ f n) (joined_same f g n (λ k l. same k (omega arith))) ∙ ap (λ (z : List ℕ). joined g n ++ z) (same n (omega arith))

file_of_parts : (file : List ℕ) → joined (part_of file) (pieces_of (length file)) ≡ file
file_of_parts file = joined-part_of file (pieces_of (length file)) ∙ take_all (pieces_of (length file) * 864) file (omega arith)

-- files with the same objects are the same
same_file : (id file other : List ℕ) → IsFile id file → IsFile id other → objects_of id file ≡ objects_of id other → other ≡ file
same_file id file other a b e =
    let n = pieces_of (length file) in
    let head : head_of id file 0 ≡ head_of id other 0 = sym (head_at-objects_of id file a) ∙ ap head_at e ∙ head_at-objects_of id other b in
    let long : length file ≡ length other = ap (λ (z : ObjectHead). z.length) head in
    let count : n ≡ pieces_of (length other) = ap pieces_of long in
    let parts : (k : ℕ) → k < n → part_of other k ≡ part_of file k = λ k l.
    let one : object id file k ≡ object id other k =
    sym (object_at-objects_of id file a k l) ∙ ap (λ (z : List ℕ). object_at z k) e ∙ object_at-objects_of id other b k (omega (arith, count)) in
    sym (part-written id other k b.whole)
    ∙ ap (λ (z : List ℕ). take (part_length (head_of id other k)) (drop 64 z)) (sym one)
    ∙ ap (λ (z : ℕ). take (min 864 (z - k * 864)) (drop 64 (object id file k))) (sym long)
    ∙ part-written id file k a.whole in
    sym (file_of_parts other) ∙ ap (joined (part_of other)) (sym count) ∙ joined_same (part_of other) (part_of file) n parts ∙ file_of_parts file

-- the objects of a file are those of no other
pub only_file : (id file other : List ℕ) → IsFile id file → AreObjectsOf (objects_of id file) other → other ≡ file
only_file id file other is are =
    let front : take 16 (objects_of id file) ≡ id = ap (λ (z : ObjectHead). z.file_id) (head_at-objects_of id file is) in
    same_file id file other is (record { whole = is.whole; fits = are.fits }) (are.all ∙ ap (λ (z : List ℕ). objects_of z other) front)

-- one object more
pub objects_from_more : (id file : List ℕ) (p n : ℕ) → objects_from id file p n ++ object id file (p + n) ≡ objects_from id file p (suc n)
objects_from_more id file p zero =
    let same : p + 0 ≡ p = omega arith in
    ap (object id file) same ∙ sym (append-nil (object id file p))
objects_from_more id file p (suc n) =
    let same : p + suc n ≡ suc p + n = omega arith in
    append_assoc (object id file p) (objects_from id file (suc p) n) (object id file (p + suc n))
    ∙ ap (λ (z : ℕ). object id file p ++ (objects_from id file (suc p) n ++ object id file z)) same
    ∙ ap (λ (z : List ℕ). object id file p ++ z) (objects_from_more id file (suc p) n)

-- one object is a series
IsSeries-one : (h : ObjectHead) (bytes : List ℕ) → length bytes ≡ 928 → IsObject h bytes → IsSeries bytes
IsSeries-one h bytes long is =
    let whole : object_at bytes 0 ≡ bytes = take_all 928 bytes (omega arith) in
    let first : IsObject (head_at bytes) bytes = subst (λ (z : ObjectHead). IsObject z bytes) (sym (head_at-object h bytes is)) is in
    let placed : IsObject (record (head_at bytes) { piece = piece_at bytes 0 }) (object_at bytes 0) =
    subst (λ (z : List ℕ). IsObject (record (head_at bytes) { piece = (head_at z).piece }) z) (sym whole) first in
    record {
      some = omega (arith, long);
      objects_are = record {
        long = omega (arith, long);
        each = λ k l.
            let same : 0 ≡ k = omega (arith, long) in
            subst (λ (z : ℕ). IsObject (record (head_at bytes) { piece = piece_at bytes z }) (object_at bytes z)) same placed;
        ascending = λ k l. absurd (omega (arith, long));
      };
    }

-- one object of a file is a series
pub IsSeries-alone : (id file bytes : List ℕ) (piece : ℕ) → IsFile id file → piece < pieces_of (length file)
    → bytes ≡ object id file piece → IsSeries bytes
IsSeries-alone id file bytes piece is exists same =
    subst IsSeries (sym same)
    (IsSeries-one (head_of id file piece) (object id file piece) (length-object id file piece is.whole)
    (IsObject-written id file piece is.whole is.fits exists))
