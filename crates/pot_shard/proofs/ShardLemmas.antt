-- What stands in the block of a shard is what was written.
use Rattle.std.proofs.Common.{◌≡◌, ◌≤◌, ◌-◌, ◌++◌, ◌∷◌, [], ℕ, List, length, take, drop, replicate, get_or, refl, ap, sym, ◌∙◌, arith, length-drop}
use Rattle.std.proofs.Math.Seq.{take-add}
use Rattle.std.proofs.lemmas.List.{drop_more, take_rest, take-append-drop}
use Rattle.byteorder.specs.Endian.{big_bytes, big_number}
use Rattle.byteorder.specs.Numbers.{big_from-lt, big_number-reads_back}
use Rattle.pot_bytes.specs.Lists.{AreBytes}
use Rattle.pot_bytes.proofs.ListLemmas.{AreBytes-drop}
use Rattle.pot_object.proofs.NumberLemmas.{big_bytes_8}
use Rattle.pot_shard.specs.Shards.{magic, shard_at, shard_bytes, HasWidths, HasShardFrame, IsShardBlock}
use Rattle.pot_shard.specs.declared.shard.Shard.{Shard}

unfoldable pub made : ℕ → ℕ → ℕ → ℕ → ℕ → ℕ → List ℕ → Shard
made x m n blur name pointer share =
    record { x = x; m = m; n = n; blur = blur; name = name; pointer = pointer; share = share }

-- the fields that are read from slices to the end
pub shard_at-read : (bytes share : List ℕ) (name pointer : ℕ) → name ≡ big_number 8 (take (length bytes - 8) (drop 8 bytes))
    → pointer ≡ big_number 8 (take (length bytes - 16) (drop 16 bytes)) → share ≡ take (length bytes - 32) (drop 32 bytes)
    → made (get_or bytes 4 0) (get_or bytes 5 0) (get_or bytes 6 0) (get_or bytes 7 0) name pointer share ≡ shard_at bytes
unfolding made
shard_at-read bytes share name pointer a b c =
    let f = made (get_or bytes 4 0) (get_or bytes 5 0) (get_or bytes 6 0) (get_or bytes 7 0) in
    ap (λ (z : ℕ). f z pointer share) (a ∙ ap (big_number 8) (take_rest bytes 8))
    ∙ ap (λ (z : ℕ). f (big_number 8 (drop 8 bytes)) z share) (b ∙ ap (big_number 8) (take_rest bytes 16))
    ∙ ap (λ (z : List ℕ). f (big_number 8 (drop 8 bytes)) (big_number 8 (drop 16 bytes)) z) (c ∙ take_rest bytes 32)

-- the shard that was written is read again
pub shard_at-shard_bytes : (s : Shard) → HasWidths s → shard_at (shard_bytes s) ≡ s
unfolding shard_bytes made
shard_at-shard_bytes s w =
    let back : List ℕ = replicate 8 0 ++ s.share in
    let name : big_number 8 (big_bytes 8 s.name ++ (big_bytes 8 s.pointer ++ back)) ≡ s.name =
    big_number-reads_back 8 s.name (big_bytes 8 s.pointer ++ back) w.name in
    let pointer : big_number 8 (big_bytes 8 s.pointer ++ back) ≡ s.pointer = big_number-reads_back 8 s.pointer back w.pointer in
    ap (λ (z : ℕ). made s.x s.m s.n s.blur z (big_number 8 (big_bytes 8 s.pointer ++ back)) s.share) name
    ∙ ap (λ (z : ℕ). made s.x s.m s.n s.blur s.name z s.share) pointer

pub IsFramed-shard_bytes : (s : Shard) → HasShardFrame (shard_bytes s)
unfolding shard_bytes
IsFramed-shard_bytes s = (refl, refl)

-- a block is 1,024 bytes
pub length-shard_bytes : (s : Shard) → HasWidths s → length (shard_bytes s) ≡ 1024
unfolding shard_bytes
length-shard_bytes s w = omega (arith, w.share)

-- the fields of a block, one after another
joined : (a b c d e xs : List ℕ) → a ≡ take 4 xs → b ≡ take 4 (drop 4 xs) → c ≡ take 8 (drop 8 xs)
    → d ≡ take 8 (drop 16 xs) → e ≡ take 8 (drop 24 xs) → ((((a ++ b) ++ c) ++ d) ++ e) ++ drop 32 xs ≡ xs
joined a b c d e xs ea eb ec ed ee =
    let two : a ++ b ≡ take 8 xs = ap (λ (z : List ℕ). z ++ b) ea ∙ ap (λ (z : List ℕ). take 4 xs ++ z) eb ∙ sym (take-add 4 4 xs) in
    let three : (a ++ b) ++ c ≡ take 16 xs = ap (λ (z : List ℕ). z ++ c) two ∙ ap (λ (z : List ℕ). take 8 xs ++ z) ec ∙ sym (take-add 8 8 xs) in
    let four : ((a ++ b) ++ c) ++ d ≡ take 24 xs = ap (λ (z : List ℕ). z ++ d) three ∙ ap (λ (z : List ℕ). take 16 xs ++ z) ed ∙ sym (take-add 16 8 xs) in
    let five : (((a ++ b) ++ c) ++ d) ++ e ≡ take 32 xs = ap (λ (z : List ℕ). z ++ e) four ∙ ap (λ (z : List ℕ). take 24 xs ++ z) ee ∙ sym (take-add 24 8 xs) in
    ap (λ (z : List ℕ). z ++ drop 32 xs) five ∙ take-append-drop 32 xs

-- four bytes that stand one after another
four_bytes : (xs : List ℕ) → 8 ≤ length xs
    → get_or xs 4 0 ∷ get_or xs 5 0 ∷ get_or xs 6 0 ∷ get_or xs 7 0 ∷ [] ≡ take 4 (drop 4 xs)
four_bytes xs long =
    let a : drop 4 xs ≡ get_or xs 4 0 ∷ drop 5 xs = drop_more xs 4 0 (omega arith) in
    let b : drop 5 xs ≡ get_or xs 5 0 ∷ drop 6 xs = drop_more xs 5 0 (omega arith) in
    let c : drop 6 xs ≡ get_or xs 6 0 ∷ drop 7 xs = drop_more xs 6 0 (omega arith) in
    let d : drop 7 xs ≡ get_or xs 7 0 ∷ drop 8 xs = drop_more xs 7 0 (omega arith) in
    sym (ap (take 4) (a ∙ ap (λ (z : List ℕ). get_or xs 4 0 ∷ z) (b ∙ ap (λ (z : List ℕ). get_or xs 5 0 ∷ z) (c ∙ ap (λ (z : List ℕ). get_or xs 6 0 ∷ z) d))))

-- the shard that was read is written again
pub shard_bytes-shard_at : (bytes : List ℕ) → AreBytes bytes → length bytes ≡ 1024 → HasShardFrame bytes
    → shard_bytes (shard_at bytes) ≡ bytes
unfolding shard_bytes
shard_bytes-shard_at bytes small long framed =
    joined magic (get_or bytes 4 0 ∷ get_or bytes 5 0 ∷ get_or bytes 6 0 ∷ get_or bytes 7 0 ∷ [])
    (big_bytes 8 (big_number 8 (drop 8 bytes))) (big_bytes 8 (big_number 8 (drop 16 bytes))) (replicate 8 0) bytes
    (sym framed.0)
    (four_bytes bytes (omega arith))
    (big_bytes_8 (drop 8 bytes) (AreBytes-drop 8 bytes small) (omega (arith, length-drop {A = ℕ} 8 bytes)))
    (big_bytes_8 (drop 16 bytes) (AreBytes-drop 16 bytes small) (omega (arith, length-drop {A = ℕ} 16 bytes)))
    (sym framed.1)

-- fields of a block have the widths of their types
pub HasWidths-shard_at : (bytes : List ℕ) → AreBytes bytes → length bytes ≡ 1024 → HasWidths (shard_at bytes)
HasWidths-shard_at bytes small long = record {
  name = big_from-lt 0 8 (drop 8 bytes) (AreBytes-drop 8 bytes small);
  pointer = big_from-lt 0 8 (drop 16 bytes) (AreBytes-drop 16 bytes small);
  share = omega (arith, length-drop {A = ℕ} 32 bytes);
}

-- a block has the shard that stands in it
pub shard_at-block : (s : Shard) (bytes : List ℕ) → IsShardBlock s bytes → shard_at bytes ≡ s
shard_at-block s bytes is = ap shard_at is.spelled ∙ shard_at-shard_bytes s is.widths

pub one_shard : (s t : Shard) (bytes : List ℕ) → IsShardBlock s bytes → IsShardBlock t bytes → s ≡ t
one_shard s t bytes a b = sym (shard_at-block s bytes a) ∙ shard_at-block t bytes b
