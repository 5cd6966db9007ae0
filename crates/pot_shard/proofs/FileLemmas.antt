-- Any m shards of each fragment give the file back.
use Rattle.std.proofs.Common.{◌≡◌, ◌≤◌, ◌<◌, ◌+◌, ◌-◌, ◌*◌, ◌/◌, ◌++◌, ◌∷◌, [], ℕ, zero, suc, List, length, map, take, drop, refl, ap, ap₂, sym, subst, ◌∙◌, arith, lit<, length-append, length-drop}
use Rattle.std.proofs.Math.Seq.{take-add}
use Rattle.std.proofs.lemmas.List.{length-map, length-take-le, take_all}
use Rattle.std.proofs.lemmas.List.FromFn.{length-map-range_with_len, get_or-map-range_with_len}
use Rattle.std.proofs.Math.Nat.{mul-div_cancel}
use Rattle.std.specs.List.{flat_map, range_with_len, Contains}
use Rattle.pot_bytes.specs.Lists.{AreBytes}
use Rattle.pot_bytes.proofs.ListLemmas.{AreBytes-append, AreBytes-drop, AreBytes-take, AreBytes-xor}
use Rattle.pot_bytes.specs.declared.rack.Geometry.{Geometry}
use Rattle.pot_bytes.specs.Rack.{IsGeometry}
use Rattle.pot_bytes.specs.Sums.{xor}
use Rattle.pot_bytes.proofs.SumLemmas.{length-xor}
use Rattle.pot_object.specs.Assembly.{objects_from, objects_of}
use Rattle.pot_object.specs.Contents.{content}
use Rattle.pot_object.specs.Objects.{object}
use Rattle.pot_object.specs.Pieces.{pieces_of}
use Rattle.pot_object.specs.declared.content.FragmentHead.{FragmentHead}
use Rattle.pot_object.proofs.ContentLemmas.{length-content, part-content}
use Rattle.pot_object.proofs.LawLemmas.{IsSeries-objects_of, none_missing, only_file, objects_from_more, IsFile}
use Rattle.pot_object.proofs.ObjectLemmas.{length-object}
use Rattle.pot_split.specs.Secrecy.{meaning, IsRows}
use Rattle.pot_split.specs.Threshold.{share, shares_at, IsJoin}
use Rattle.pot_split.proofs.RowLemmas.{length-sum-rows, meaning-secrecy}
use Rattle.pot_split.proofs.ThresholdLaws.{joins_law}
use Rattle.pot_shard.specs.FileBlocks.{coefficients_in, content_of, content_shards, fragment_len, fragment_shards, fragments_of, head_len, pads_in, part_at, piece_len, piece_random, shard_at_place, shard_of}
use Rattle.pot_shard.specs.FileLaws.{content_in, object_in, shards_in, xor_of, AreAssembledTo, AreEnough, FileLaws, IsJoined, IsPiece, IsRestored, IsStore}
use Rattle.pot_shard.specs.declared.shard.Shard.{Shard}
use Rattle.pot_shard.proofs.BlockLemmas.{part_within, parts_more}
use Rattle.pot_shard.proofs.ByteLemmas.{content-bytes, object-bytes, sum-bytes}

-- the pads are k - 1 rows
pub length-pads : (g : Geometry) (random : List ℕ) → length random ≡ piece_len g → length (pads_in g random) ≡ (g.fragments - 1) * 928
length-pads g random taken =
    length-take-le ((g.fragments - 1) * 928) (drop 16 random) (omega (arith, length-drop {A = ℕ} 16 random))

pub whole_rows : (n size : ℕ) (xs : List ℕ) → 0 < size → length xs ≡ n * size → (length xs / size ≡ n) × IsRows size xs
whole_rows n size xs some e =
    let count : length xs / size ≡ n = ap (λ (z : ℕ). z / size) e ∙ mul-div_cancel n some in
    (count, e ∙ ap (λ (z : ℕ). z * size) (sym count))

-- the fragments are k rows, of bytes
pub length-last : (g : Geometry) (object random : List ℕ) → IsPiece g object random
    → length (xor object (meaning (length object) (pads_in g random))) ≡ 928
length-last g object random p =
    let pads = pads_in g random in
    let rows = whole_rows (g.fragments - 1) 928 pads (omega arith) (length-pads g random p.taken) in
    let sum : length (meaning (length object) pads) ≡ 928 =
    ap (λ (z : ℕ). length (meaning z pads)) p.long ∙ length-sum-rows (length pads / 928) 928 pads rows.1 in
    length-xor object (meaning (length object) pads) (p.long ∙ sym sum) ∙ p.long

pub length-fragments : (g : Geometry) (object random : List ℕ) → IsPiece g object random → length (fragments_of g object random) ≡ g.fragments * 928
length-fragments g object random p =
    let pads = pads_in g random in
    let last = xor object (meaning (length object) pads) in
    omega (arith, length-append {A = ℕ} pads last, length-pads g random p.taken, length-last g object random p, p.geometry.fragments.0)

pub fragments-bytes : (g : Geometry) (object random : List ℕ) → IsPiece g object random → AreBytes (fragments_of g object random)
fragments-bytes g object random p =
    let pads = pads_in g random in
    let pads_bytes = AreBytes-take ((g.fragments - 1) * 928) (drop 16 random) (AreBytes-drop 16 random p.random_bytes) in
    AreBytes-append pads (xor object (meaning (length object) pads)) pads_bytes
    (AreBytes-xor object (meaning (length object) pads) p.object_bytes (sum-bytes (length pads / length object) (length object) pads pads_bytes))

-- a part of bytes
pub length-part : (head size i n : ℕ) (xs : List ℕ) → i < n → length xs ≡ head + n * size → length (part_at head size i xs) ≡ size
length-part head size i n xs inside long =
    let fits = part_within head size i n size (length xs) inside refl long in
    length-take-le size (drop (head + i * size) xs) (omega (arith, length-drop {A = ℕ} (head + i * size) xs, fits))

pub part-bytes : (head size i : ℕ) (xs : List ℕ) → AreBytes xs → AreBytes (part_at head size i xs)
part-bytes head size i xs b = AreBytes-take size (drop (head + i * size) xs) (AreBytes-drop (head + i * size) xs b)

-- the head of a content
head : Geometry → List ℕ → ℕ → FragmentHead
head g random j = record { object_id = take 16 random; number = j + 1; count = g.fragments }

pub length-id : (g : Geometry) (random : List ℕ) → length random ≡ piece_len g → length (take 16 random) ≡ 16
length-id g random taken = length-take-le 16 random (omega arith)

-- a content is 992 bytes
pub length-content_of : (g : Geometry) (object random : List ℕ) (j : ℕ) → IsPiece g object random → j < g.fragments
    → length (content_of g (fragments_of g object random) random j) ≡ 992
unfolding content_of head
length-content_of g object random j p inside =
    length-content (head g random j) (part_at 0 928 j (fragments_of g object random)) (length-id g random p.taken)
    (length-part 0 928 j g.fragments (fragments_of g object random) inside (omega (arith, length-fragments g object random p)))

pub content_of-bytes : (g : Geometry) (object random : List ℕ) (j : ℕ) → IsPiece g object random → j < g.fragments
    → AreBytes (content_of g (fragments_of g object random) random j)
unfolding content_of head
content_of-bytes g object random j p inside =
    content-bytes (head g random j) (part_at 0 928 j (fragments_of g object random)) (AreBytes-take 16 random p.random_bytes)
    (omega (arith, p.geometry.fragments.1)) (omega (arith, p.geometry.fragments.1))
    (part-bytes 0 928 j (fragments_of g object random) (fragments-bytes g object random p))

-- a shard of a content has a share of it
is_share : (g : Geometry) (content random : List ℕ) (s : Shard) → g.shards ≤ 16 → Contains (content_shards g content random) s
    → (s.share ≡ share content (coefficients_in g random) s.x) × (s.x < 256)
unfolding content_shards shard_of
is_share g content random s few h =
    let f = shard_at_place g content random in
    let k = h.0 in
    let inside : k < g.shards = omega (arith, h.1, length-map-range_with_len f 0 g.shards) in
    let same : s ≡ f k = sym h.2 ∙ get_or-map-range_with_len f 0 g.shards k k s inside (omega arith) in
    let x : s.x ≡ k + 1 = ap (λ (z : Shard). z.x) same in
    (ap (λ (z : Shard). z.share) same ∙ ap (share content (coefficients_in g random)) (sym x), omega (arith, x, inside))

shares_are : (content coefficients : List ℕ) (held : List Shard) → ((s : Shard) → Contains held s → s.share ≡ share content coefficients s.x)
    → flat_map (λ (s : Shard). s.share) held ≡ shares_at content coefficients (map (λ (s : Shard). s.x) held)
shares_are content coefficients [] each = refl
shares_are content coefficients (s ∷ held) each =
    ap₂ (λ (a b : List ℕ). a ++ b) (each s (0, omega arith, refl))
    (shares_are content coefficients held (λ t h. each t (suc h.0, omega (arith, h.1), h.2)))

points-bytes : (held : List Shard) → ((s : Shard) → Contains held s → s.x < 256) → AreBytes (map (λ (s : Shard). s.x) held)
points-bytes [] each i = lit< tt
points-bytes (s ∷ held) each zero = each s (0, omega arith, refl)
points-bytes (s ∷ held) each (suc i) = points-bytes held (λ t h. each t (suc h.0, omega (arith, h.1), h.2)) i

-- m shares of a content are joined to it
joined_content : (g : Geometry) (content random : List ℕ) (held : List Shard) (joined : List ℕ) → IsGeometry g
    → length content ≡ 992 → AreBytes content → length random ≡ fragment_len g → AreBytes random
    → AreEnough g.need (content_shards g content random) held → IsJoined held joined → joined ≡ content
joined_content g content random held joined geometry long bytes taken random_bytes enough join =
    let rows = coefficients_in g random in
    let points = map (λ (s : Shard). s.x) held in
    let count : length rows ≡ (g.need - 1) * 992 = length-take-le ((g.need - 1) * 992) random (omega arith) in
    let same : length rows ≡ (g.need - 1) * length content = count ∙ ap (λ (z : ℕ). (g.need - 1) * z) (sym long) in
    let whole = whole_rows (g.need - 1) (length content) rows (omega arith) same in
    let many : length points ≡ g.need = length-map held (λ (s : Shard). s.x) ∙ enough.enough in
    let shares = shares_are content rows held (λ s h. (is_share g content random s geometry.shards (enough.each s h)).0) in
    joins_law content rows points joined bytes (AreBytes-take ((g.need - 1) * 992) random random_bytes)
    (points-bytes held (λ s h. (is_share g content random s geometry.shards (enough.each s h)).1)) enough.distinct
    (omega arith) whole.1 (omega (arith, whole.0, many, geometry.need.0)) (join.wide ∙ sym long)
    (subst (λ (z : List ℕ). IsJoin points z joined) shares join.join)

-- lists that are the same one by one
pub same_parts : {X : Type 0} (f h : ℕ → List X) (n : ℕ) → ((i : ℕ) → i < n → f i ≡ h i)
    → flat_map f (range_with_len 0 n) ≡ flat_map h (range_with_len 0 n)
same_parts f h zero each = refl
same_parts f h (suc n) each =
    let next : suc n ≡ n + 1 = omega arith in
    ap (λ (z : ℕ). flat_map f (range_with_len 0 z)) next ∙ sym (parts_more f n)
    ∙ ap₂ (λ a b. a ++ b) (same_parts f h n (λ i l. each i (omega arith))) (each n (omega arith))
    ∙ parts_more h n ∙ ap (λ (z : ℕ). flat_map h (range_with_len 0 z)) (sym next)

-- parts one after another are the whole
joined_parts : (size n : ℕ) (xs : List ℕ) → flat_map (λ i. part_at 0 size i xs) (range_with_len 0 n) ≡ take (n * size) xs
joined_parts size zero xs = let none : 0 ≡ 0 * size = omega arith in ap (λ (z : ℕ). take z xs) none
joined_parts size (suc n) xs =
    let f : ℕ → List ℕ = λ i. part_at 0 size i xs in
    let next : suc n ≡ n + 1 = omega arith in
    let begin : 0 + n * size ≡ n * size = omega arith in
    let more : n * size + size ≡ suc n * size = grind arith in
    ap (λ (z : ℕ). flat_map f (range_with_len 0 z)) next ∙ sym (parts_more f n)
    ∙ ap₂ (λ (a b : List ℕ). a ++ b) (joined_parts size n xs) (ap (λ (z : ℕ). take size (drop z xs)) begin)
    ∙ sym (take-add (n * size) size xs) ∙ ap (λ (z : ℕ). take z xs) more

-- the fragments in the contents of an object XOR to it
xor_object : (g : Geometry) (object random : List ℕ) → IsPiece g object random
    → xor_of (content_of g (fragments_of g object random) random) g.fragments ≡ object
unfolding content_of head
xor_object g object random p =
    let fragments = fragments_of g object random in
    let pads = pads_in g random in
    let rows = whole_rows (g.fragments - 1) (length object) pads (omega (arith, p.long))
    (length-pads g random p.taken ∙ ap (λ (z : ℕ). (g.fragments - 1) * z) (sym p.long)) in
    let all : flat_map (λ j. drop 64 (content_of g fragments random j)) (range_with_len 0 g.fragments) ≡ fragments =
    same_parts (λ j. drop 64 (content_of g fragments random j)) (λ j. part_at 0 928 j fragments) g.fragments
    (λ j l. part-content (head g random j) (part_at 0 928 j fragments) (length-id g random p.taken))
    ∙ joined_parts 928 g.fragments fragments ∙ take_all (g.fragments * 928) fragments (omega (arith, length-fragments g object random p)) in
    ap (meaning 928) all ∙ ap (λ (z : ℕ). meaning z fragments) (sym p.long)
    ∙ meaning-secrecy object pads (omega (arith, p.long)) rows.1

-- a piece of a store
pub is_piece : (g : Geometry) (file random : List ℕ) (i : ℕ) → IsStore g file random → i < pieces_of (length file)
    → IsPiece g (object_in file random i) (piece_random g i random)
is_piece g file random i is inside =
    let id : length (take 16 random) ≡ 16 = length-take-le 16 random (omega (arith, is.taken)) in
    record {
      geometry = is.geometry;
      long = length-object (take 16 random) file i id;
      taken = length-part 16 (piece_len g) i (pieces_of (length file)) random inside is.taken;
      object_bytes = object-bytes (take 16 random) file i (AreBytes-take 16 random is.random_bytes) is.file_bytes;
      random_bytes = part-bytes 16 (piece_len g) i random is.random_bytes;
    }

contents_law : (g : Geometry) (file random : List ℕ) (i j : ℕ) (held : List Shard) (joined : List ℕ)
    → IsStore g file random → i < pieces_of (length file) → j < g.fragments
    → AreEnough g.need (shards_in g file random i j) held → IsJoined held joined → joined ≡ content_in g file random i j
unfolding fragment_shards
contents_law g file random i j held joined is inside within enough join =
    let p = is_piece g file random i is inside in
    let own = piece_random g i random in
    joined_content g (content_in g file random i j) (part_at (head_len g) (fragment_len g) j own) held joined is.geometry
    (length-content_of g (object_in file random i) own j p within) (content_of-bytes g (object_in file random i) own j p within)
    (length-part (head_len g) (fragment_len g) j g.fragments own within p.taken)
    (part-bytes (head_len g) (fragment_len g) j own p.random_bytes) enough join

pub objects_law : (g : Geometry) (file random : List ℕ) (i : ℕ) → IsStore g file random → i < pieces_of (length file)
    → xor_of (content_in g file random i) g.fragments ≡ object_in file random i
objects_law g file random i is inside = xor_object g (object_in file random i) (piece_random g i random) (is_piece g file random i is inside)

-- objects one by one are the objects of the file
all_objects : (id file : List ℕ) (n : ℕ) → flat_map (object id file) (range_with_len 0 n) ≡ objects_from id file 0 n
all_objects id file zero = refl
all_objects id file (suc n) =
    let f = object id file in
    let next : suc n ≡ n + 1 = omega arith in
    let begin : n ≡ 0 + n = omega arith in
    ap (λ (z : ℕ). flat_map f (range_with_len 0 z)) next ∙ sym (parts_more f n)
    ∙ ap₂ (λ (a b : List ℕ). a ++ b) (all_objects id file n) (ap f begin) ∙ objects_from_more id file 0 n

restores_law : (g : Geometry) (file random : List ℕ) (held : ℕ → ℕ → List Shard) (contents : ℕ → ℕ → List ℕ) (objects : ℕ → List ℕ)
    → IsStore g file random → IsRestored g file random held contents objects
    → AreAssembledTo file (flat_map objects (range_with_len 0 (pieces_of (length file))))
restores_law g file random held contents objects is r =
    let n = pieces_of (length file) in
    let id = take 16 random in
    let each : (i : ℕ) → i < n → objects i ≡ object id file i =
    λ i l. r.whole i l
    ∙ ap (meaning 928) (same_parts (λ j. drop 64 (contents i j)) (λ j. drop 64 (content_in g file random i j)) g.fragments
    (λ j m. ap (drop 64) (contents_law g file random i j (held i j) (contents i j) is l m (r.enough i j l m) (r.joined i j l m))))
    ∙ objects_law g file random i is l in
    let all : flat_map objects (range_with_len 0 n) ≡ objects_of id file = same_parts objects (object id file) n each ∙ all_objects id file n in
    let whole : IsFile id file = record { whole = length-take-le 16 random (omega (arith, is.taken)); fits = is.fits } in
    subst (AreAssembledTo file) (sym all) (record {
      series = IsSeries-objects_of id file whole;
      none_missing = none_missing id file whole;
      only = λ other. only_file id file other whole;
    })

pub file_laws : FileLaws
file_laws = record { contents = contents_law; objects = objects_law; restores = restores_law }
