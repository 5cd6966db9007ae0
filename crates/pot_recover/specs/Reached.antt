-- The shards that some pointers mean.
use Rattle.std.specs.Prelude.{◌≡◌, ◌<◌, ℕ, List, Some, slice_get}
use Rattle.pot_pointer.specs.Pointers.{blur}
use Rattle.pot_pointer.specs.declared.Named.{Named}
use Rattle.pot_chains.specs.Listed.{IsIn}
use Rattle.pot_recover.specs.declared.held.Held.{Held}

abbrev pub name_of : Held → ℕ
name_of s = s.name

-- candidates that stand among so many
abbrev pub AreWithinCount : ℕ → List Named → Type 0
AreWithinCount count candidates = (e : Named) → IsIn candidates e → e.position < count

-- p is the pointer of a candidate that holds this share
abbrev pub IsHit : List Held → List ℕ → List Named → ℕ → Type 0
IsHit there share candidates p =
    (e : Named) × IsIn candidates e
    × ((t : Held) × (slice_get there e.position ≡ Some t) × (t.share.now ≡ share) × (t.pointer ≡ p))

-- p is the pointer of one that holds this share and that one of these pointers means
abbrev pub IsNextPointer : List ℕ → List Held → ℕ → List ℕ → ℕ → Type 0
IsNextPointer pointers there bits share p =
    (q : ℕ) × (t : Held) × (slice_get there q ≡ Some t) × IsIn pointers (blur t.name bits)
    × (t.share.now ≡ share) × (t.pointer ≡ p)
