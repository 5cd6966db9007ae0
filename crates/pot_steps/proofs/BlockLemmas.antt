-- The bytes of blocks.
use Rattle.std.proofs.Common.{◌≡◌, ℕ, sym, ◌∙◌, lit<, List, get_or}
use Rattle.std.proofs.lemmas.Nat.{xor_of_8}
use Rattle.std.proofs.lemmas.List.{length-map}
use Rattle.std.proofs.lemmas.Grind.{same_number_lists}
use Rattle.pot_bytes.specs.Product.{byte_product}
use Rattle.pot_bytes.specs.Sums.{xor, zero_block}
use Rattle.pot_bytes.specs.Weighted.{scaled}
use Rattle.pot_bytes.proofs.ProductLemmas.{byte_product-below}
use Rattle.pot_bytes.proofs.SumLemmas.{length-zero_block, length-xor}
use Rattle.pot_bytes.proofs.WeightedLemmas.{get_or-xor, get_or-scaled}
use Rattle.pot_bytes.specs.Lists.{IsBlock}
use Rattle.pot_gf.proofs.Built.{zeros-below}

pub get_or-zero_block : (k : ℕ) → get_or zero_block k 0 ≡ 0
unfolding zero_block
get_or-zero_block k = zeros-below 1024 k

pub IsBlock-zero_block : IsBlock zero_block
IsBlock-zero_block = record { size = length-zero_block; bytes = λ k. rw get_or-zero_block (lit< tt) }

pub IsBlock-xor : (a b : List ℕ) → IsBlock a → IsBlock b → IsBlock (xor a b)
IsBlock-xor a b ha hb = record {
  size = length-xor a b (ha.size ∙ sym hb.size) ∙ ha.size;
  bytes = λ k. rw (get_or-xor a b k (ha.size ∙ sym hb.size)) (xor_of_8 (get_or a k 0) (get_or b k 0) (ha.bytes k) (hb.bytes k));
}

pub IsBlock-scaled : (w : ℕ) (a : List ℕ) → IsBlock a → IsBlock (scaled w a)
IsBlock-scaled w a ha = record {
  size = length-map a (byte_product w) ∙ ha.size;
  bytes = λ k. rw (get_or-scaled w a k) (byte_product-below w (get_or a k 0));
}

pub same_blocks : (a b : List ℕ) → IsBlock a → IsBlock b → ((k : ℕ) → get_or a k 0 ≡ get_or b k 0) → a ≡ b
same_blocks a b ha hb h = same_number_lists a b (ha.size ∙ sym hb.size) (λ k l. h k)
