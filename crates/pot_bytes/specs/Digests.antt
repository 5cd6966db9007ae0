-- Digests.
use Rattle.std.specs.Prelude.{ℕ, List}
use Rattle.sha2.specs.Sha256.{sha256}
use Rattle.pot_bytes.specs.declared.digest.Digest.{Digest}

-- SHA-256 (FIPS 180-4). The layers above never compute a digest, so it stays shut.
unfoldable pub digest_bytes : List ℕ → List ℕ
digest_bytes bytes = sha256 bytes

-- the SHA-256 digest of a block
unfoldable pub digest_of : List ℕ → Digest
digest_of block = record { bytes = digest_bytes block }
