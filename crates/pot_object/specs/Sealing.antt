-- A head and a rest with their digest between them.
use Rattle.std.specs.Prelude.{ℕ, List, ◌++◌}
use Rattle.pot_bytes.specs.Digests.{digest_bytes}

-- the head, the SHA-256 of the head and the rest, and the rest
abbrev pub sealed : List ℕ → List ℕ → List ℕ
sealed head rest = head ++ digest_bytes (head ++ rest) ++ rest
