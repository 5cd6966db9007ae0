-- The explanation of a file, piece by piece.
use Rattle.std.proofs.Common.{length-drop, ◌≡◌, ◌≢◌, ◌<◌, ◌≤◌, ◌⊎◌, inl, inr, ℕ, zero, suc, ◌+◌, ◌-◌, ◌*◌, List, length, take, drop, get_or, refl, sym, ap, ap₂, ◌∙◌, subst, arith}
use Rattle.std.proofs.lemmas.List.{length-take-le, get_or-take, get_or-drop, ext_get_or}
use Rattle.std.proofs.lemmas.Bool.{cases_eq}
use Rattle.pot_bytes.specs.Lists.{AreBytes}
use Rattle.pot_bytes.specs.declared.rack.Geometry.{Geometry}
use Rattle.pot_object.specs.Objects.{object}
use Rattle.pot_object.specs.Pieces.{pieces_of}
use Rattle.pot_shard.specs.FileBlocks.{content_of, fragment_shards, fragments_of, fragment_len, head_len, part_at, piece_len, piece_random, random_len, shard_at_place}
use Rattle.pot_shard.specs.FileLaws.{object_in, shards_in, IsPiece, IsStore}
use Rattle.pot_shard.specs.Places.{shard_in}
use Rattle.pot_shard.specs.Stretches.{piece_start}
use Rattle.pot_shard.proofs.BlockLemmas.{part_within}
use Rattle.pot_shard.proofs.FileLemmas.{is_piece}
use Rattle.pot_veil.specs.Explained.{explained, explained_file, explained_upto, with_part}
use Rattle.pot_veil.specs.PieceLaws.{IsPieceVeiled}
use Rattle.pot_veil.specs.FileLaws.{FileVeilLaws, IsVeiledFile}
use Rattle.pot_veil.proofs.Parts.{AreBytes-with_part, length-with_part, part-same, part-in, take-before}
use Rattle.pot_veil.proofs.Pieces.{piece_laws}
use Rattle.pot_veil.proofs.Rewriting.{put_is}
use borrow.Rule.Slice.PartMut.{put_mid}

module _ (g : Geometry) (file other : List ℕ) (hidden : ℕ → ℕ) (seen : ℕ → List ℕ) (random : List ℕ) (v : IsVeiledFile g file other hidden seen random) where
  abbrev pieces : ℕ
  pieces = pieces_of (length file)

  -- piece i explained
  abbrev part : ℕ → List ℕ
  part i = explained g (object_in file random i) (object_in other random i) (hidden i) (seen i) (piece_random g i random)

  abbrev upto : ℕ → List ℕ
  upto n = explained_upto g file other hidden seen random n

  pub veiled : (i : ℕ) → i < pieces → IsPieceVeiled g (object_in file random i) (object_in other random i) (hidden i) (seen i) (piece_random g i random)
  veiled i li = record {
    piece = is_piece g file random i v.store li;
    other_piece = is_piece g other random i v.other_store (subst (λ n. i < pieces_of n) (sym v.same_length) li);
    fragment = v.fragment i li;
    points = (v.points i li).points;
    bytes = (v.points i li).bytes;
    few = (v.points i li).few;
  }

  kept_part : (i : ℕ) → i < pieces → IsPiece g (object_in other random i) (part i)
  kept_part i li = piece_laws.piece g (object_in file random i) (object_in other random i) (hidden i) (seen i) (piece_random g i random) (veiled i li)

  within : (i : ℕ) → i < pieces → piece_start g i + piece_len g ≤ length random
  within i li = part_within 16 (piece_len g) i pieces (piece_len g) (length random) li refl v.store.taken

  long : (n : ℕ) → n ≤ pieces → length (upto n) ≡ length random
  unfolding explained_upto
  long zero le = refl
  long (suc n) le =
      let l : length (upto n) ≡ length random = long n (omega arith) in
      let w : piece_start g n + piece_len g ≤ length random = within n (omega arith) in
      let p : length (part n) ≡ piece_len g = (kept_part n (omega arith)).taken in
      length-with_part (piece_start g n) (part n) (upto n) (omega arith) ∙ l

  fits : (n : ℕ) → n < pieces → piece_start g n + length (part n) ≤ length (upto n)
  fits n ln = let l : length (upto n) ≡ length random = long n (omega arith) in let w : piece_start g n + piece_len g ≤ length random = within n ln in let p : length (part n) ≡ piece_len g = (kept_part n ln).taken in omega arith

  same_id : (n : ℕ) → n ≤ pieces → take 16 (upto n) ≡ take 16 random
  unfolding explained_upto
  same_id zero le = refl
  same_id (suc n) le = take-before 16 (piece_start g n) (part n) (upto n) (fits n (omega arith)) (omega arith) ∙ same_id n (omega arith)

  apart : (i n : ℕ) → i ≢ n → (piece_start g i + piece_len g ≤ piece_start g n) ⊎ (piece_start g n + piece_len g ≤ piece_start g i)
  apart i n ne = elim (order i n ne) [ inl lt ↦ inl (part_within 16 (piece_len g) i n (piece_len g) (piece_start g n) lt refl refl) | inr gt ↦ inr (part_within 16 (piece_len g) n i (piece_len g) (piece_start g i) gt refl refl) ]
    where
      order : (i j : ℕ) → i ≢ j → (i < j) ⊎ (j < i)
      order i j ne = grind arith

  -- the bytes of a piece: explained below n, and as they were from there on
  piece_now : (n i : ℕ) → n ≤ pieces → i < pieces → ((i < n) × (piece_random g i (upto n) ≡ part i)) ⊎ ((n ≤ i) × (piece_random g i (upto n) ≡ piece_random g i random))
  unfolding explained_upto
  piece_now zero i le li = inr (omega arith, refl)
  piece_now (suc n) i le li = elim (cases_eq i n) [
    | inl e ↦ inl (
      omega arith,
      subst (λ k. take (piece_len g) (drop (piece_start g k) (with_part (piece_start g n) (part n) (upto n))) ≡ part k) (sym e)
          (part-in (piece_start g n) (piece_len g) (part n) (upto n) (fits n (omega arith)) (sym (kept_part n (omega arith)).taken)),
    )
    | inr ne ↦ (let stays : piece_random g i (with_part (piece_start g n) (part n) (upto n)) ≡ piece_random g i (upto n) =
        part-same (piece_len g) (piece_start g i) (piece_start g n) (part n) (upto n) (fits n (omega arith))
        (let l : length (upto n) ≡ length random = long n (omega arith) in let w : piece_start g i + piece_len g ≤ length random = within i li in omega arith)
        (far i (apart i n ne)) in
        elim (piece_now n i (omega arith) li) [
          | inl x ↦ inl ((let l : i < n = x.0 in omega arith), stays ∙ x.1)
          | inr x ↦ inr ((let l : n ≤ i = x.0 in omega arith), stays ∙ x.1)
        ])
  ]
    where
      far : (i : ℕ) → (piece_start g i + piece_len g ≤ piece_start g n) ⊎ (piece_start g n + piece_len g ≤ piece_start g i)
          → (piece_start g i + piece_len g ≤ piece_start g n) ⊎ (piece_start g n + length (part n) ≤ piece_start g i)
      far i (inl x) = inl x
      far i (inr x) = inr (let p : length (part n) ≡ piece_len g = (kept_part n (omega arith)).taken in omega arith)

  -- the bytes of the next piece are as they were
  pub piece_yet : (n : ℕ) → n < pieces → piece_random g n (upto n) ≡ piece_random g n random
  piece_yet n ln = elim (piece_now n n (omega arith) ln) [ inl x ↦ absurd (let l : n < n = x.0 in omega arith) | inr x ↦ x.1 ]

  pub piece_own : (n from k : ℕ) (now : List ℕ) → n < pieces → now ≡ upto n → from ≡ piece_start g n → k ≡ piece_len g
      → take k (drop from now) ≡ piece_random g n random
  piece_own n from k now ln is start size = ap₂ (λ (a b : ℕ). take a (drop b now)) size start ∙ ap (piece_random g n) is ∙ piece_yet n ln

  -- and are written over
  pub piece_written : (n from k : ℕ) (id now new : List ℕ) → n < pieces → now ≡ upto n → id ≡ take 16 random → from ≡ piece_start g n → k ≡ piece_len g
      → length new ≡ length (take k (drop from now))
      → new ≡ explained g (object id file n) (object id other n) (hidden n) (seen n) (take k (drop from now))
      → put_mid from k now new ≡ upto (n + 1)
  unfolding explained_upto
  piece_written n from k id now new ln is here start size same made =
      let next : suc n ≡ n + 1 = omega arith in
      let l : length (upto n) ≡ length random = long n (omega arith) in
      let w : piece_start g n + piece_len g ≤ length random = within n ln in
      let whole : length now ≡ length random = ap length is ∙ l in
      let full : length new ≡ k = same ∙ length-take-le k (drop from now) (omega (arith, length-drop {A = ℕ} from now, whole, w, start, size)) in
      let all : new ≡ part n =
      made ∙ ap₂ (λ (a b : List ℕ). explained g (object a file n) (object a other n) (hidden n) (seen n) b) here (piece_own n from k now ln is start size) in
      put_is from k now new full
      ∙ ap₂ (λ (a : ℕ) (b : List ℕ). with_part a b now) start all
      ∙ ap (with_part (piece_start g n) (part n)) is
      ∙ ap upto next

  pub piece_is : (i : ℕ) → i < pieces → piece_random g i (upto pieces) ≡ part i
  piece_is i li = elim (piece_now pieces i (omega arith) li) [ inl x ↦ x.1 | inr x ↦ absurd (let l : pieces ≤ i = x.0 in omega arith) ]

  pub id_is : take 16 (upto pieces) ≡ take 16 random
  id_is = same_id pieces (omega arith)

  pub object_is : (content : List ℕ) (i : ℕ) → object_in content (upto pieces) i ≡ object_in content random i
  object_is content i = ap (λ id. object id content i) id_is

  bytes_upto : (n : ℕ) → n ≤ pieces → AreBytes (upto n)
  unfolding explained_upto
  bytes_upto zero le = v.store.random_bytes
  bytes_upto (suc n) le =
      AreBytes-with_part (piece_start g n) (part n) (upto n) (kept_part n (omega arith)).random_bytes (bytes_upto n (omega arith))

  pub kept_store : IsStore g other (upto pieces)
  kept_store = record {
    geometry = v.store.geometry;
    fits = v.other_store.fits;
    taken = long pieces (omega arith) ∙ v.other_store.taken;
    file_bytes = v.other_store.file_bytes;
    random_bytes = bytes_upto pieces (omega arith);
  }

  pub file_others : (i j : ℕ) → i < pieces → j < g.fragments → j ≢ hidden i → shards_in g other (upto pieces) i j ≡ shards_in g file random i j
  file_others i j li lj ne =
      ap₂ (λ o r. fragment_shards g (fragments_of g o r) r j) (object_is other i) (piece_is i li)
      ∙ piece_laws.others g (object_in file random i) (object_in other random i) (hidden i) j (seen i) (piece_random g i random) (veiled i li) lj ne

  pub file_seen : (i k place : ℕ) → i < pieces → k < length (seen i) → get_or (seen i) k 0 ≡ place + 1
      → shard_in g other (upto pieces) i (hidden i) place ≡ shard_in g file random i (hidden i) place
  file_seen i k place li lk e =
      ap₂ (λ o r. shard_at_place g (content_of g (fragments_of g o r) r (hidden i)) (part_at (head_len g) (fragment_len g) (hidden i) r) place) (object_is other i) (piece_is i li)
      ∙ piece_laws.seen g (object_in file random i) (object_in other random i) (hidden i) (seen i) (piece_random g i random) k place (veiled i li) lk e

-- Bytes are those of their head and their pieces.
low_same : (len : ℕ) (a b : List ℕ) → take 16 a ≡ take 16 b → (m : ℕ) → ((i : ℕ) → i < m → part_at 16 len i a ≡ part_at 16 len i b) → (i : ℕ) → i < 16 + m * len → get_or a i 0 ≡ get_or b i 0
low_same len a b id zero parts i l = sym (get_or-take 16 a i 0 (omega arith)) ∙ ap (λ x. get_or x i 0) id ∙ get_or-take 16 b i 0 (omega arith)
low_same len a b id (suc m) parts i l = elim (before i m len l) [
  | inl x ↦ low_same len a b id m (λ k lk. parts k (omega arith)) i x
  | inr x ↦ at a x ∙ ap (λ y. get_or y (i - (16 + m * len)) 0) (parts m (omega arith)) ∙ sym (at b x)
]
  where
    before : (i m len : ℕ) → i < 16 + suc m * len → (i < 16 + m * len) ⊎ ((16 + m * len ≤ i) × (i < 16 + m * len + len))
    before i m len l = grind arith

    at : (xs : List ℕ) → (16 + m * len ≤ i) × (i < 16 + m * len + len) → get_or xs i 0 ≡ get_or (part_at 16 len m xs) (i - (16 + m * len)) 0
    at xs x =
        let lo : 16 + m * len ≤ i = x.0 in
        let hi : i < 16 + m * len + len = x.1 in
        ap (λ k. get_or xs k 0) (let e : i ≡ 16 + m * len + (i - (16 + m * len)) = omega arith in e)
        ∙ sym (get_or-take len (drop (16 + m * len) xs) (i - (16 + m * len)) 0 (omega arith) ∙ get_or-drop (16 + m * len) xs (i - (16 + m * len)) 0)

pub same_pieces : (len n : ℕ) (a b : List ℕ) → length a ≡ 16 + n * len → length b ≡ 16 + n * len → take 16 a ≡ take 16 b
    → ((i : ℕ) → i < n → part_at 16 len i a ≡ part_at 16 len i b) → a ≡ b
same_pieces len n a b la lb id parts = ext_get_or 0 a b (la ∙ sym lb) (λ i l. low_same len a b id n parts i (omega arith))

module _ (g : Geometry) (file other : List ℕ) (hidden : ℕ → ℕ) (seen : ℕ → List ℕ) (random : List ℕ) (v : IsVeiledFile g file other hidden seen random) where
  abbrev there : List ℕ
  there = explained_file g file other hidden seen random

  stored : IsStore g other there
  stored = kept_store g file other hidden seen random v

  back : IsVeiledFile g other file hidden seen there
  back = record {
    store = stored;
    other_store = record { geometry = stored.geometry; fits = v.store.fits; taken = stored.taken ∙ ap (λ n. random_len (pieces_of n) g) v.same_length; file_bytes = v.store.file_bytes; random_bytes = stored.random_bytes };
    same_length = sym v.same_length;
    fragment = λ i li. v.fragment i (subst (λ n. i < pieces_of n) v.same_length li);
    points = λ i li. v.points i (subst (λ n. i < pieces_of n) v.same_length li);
  }

  pub file_returns : explained_file g other file hidden seen there ≡ random
  file_returns =
      same_pieces (piece_len g) (pieces_of (length other)) (explained_file g other file hidden seen there) random
      ((kept_store g other file hidden seen there back).taken ∙ ap (λ n. random_len (pieces_of n) g) (sym v.same_length)) v.other_store.taken
      (id_is g other file hidden seen there back ∙ id_is g file other hidden seen random v)
      (λ i li. (let lf : i < pieces_of (length file) = subst (λ n. i < pieces_of n) v.same_length li in
      piece_is g other file hidden seen there back i li
      ∙ ap₂ (λ a b. explained g a b (hidden i) (seen i) (piece_random g i there)) (object_is g file other hidden seen random v other i) (object_is g file other hidden seen random v file i)
      ∙ ap (explained g (object_in other random i) (object_in file random i) (hidden i) (seen i)) (piece_is g file other hidden seen random v i lf)
      ∙ piece_laws.back g (object_in file random i) (object_in other random i) (hidden i) (seen i) (piece_random g i random) (veiled g file other hidden seen random v i lf)))

pub file_laws : FileVeilLaws
file_laws = record {
  store = kept_store;
  others = λ g file other hidden seen random i j v li lj ne. file_others g file other hidden seen random v i j li lj ne;
  seen = λ g file other hidden seen random i k p v li lk e. file_seen g file other hidden seen random v i k p li lk e;
  back = file_returns;
}
