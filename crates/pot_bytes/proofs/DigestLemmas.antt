-- The length of a digest.
use Rattle.std.proofs.Common.{◌≡◌, ℕ, List, length}
use Rattle.sha2.proofs.Facts256.{length-sha256}
use Rattle.pot_bytes.specs.Digests.{digest_bytes}

pub length-digest_bytes : (bytes : List ℕ) → length (digest_bytes bytes) ≡ 32
unfolding digest_bytes
length-digest_bytes bytes = length-sha256 bytes
