-- What a name keeps is found again from its list.
use Rattle.std.specs.Prelude.{◌≡◌, ◌-◌, ◌++◌, ℕ, List, length, take, replicate, refl}
use Rattle.pot_bytes.specs.Names.{IsPadded, padded-count, padded-bytes}
use Rattle.pot_bytes.specs.declared.name.Name.TheInside.{Inside}

abbrev pub kept : ℕ → List ℕ → Inside
kept count bytes = record { count = count; bytes = bytes }

pub kept_whole : (a : Inside) → IsPadded a.count a.bytes
    → kept (length (take a.count a.bytes))
    (take a.count a.bytes ++ replicate (64 - length (take a.count a.bytes)) 0) ≡ a
kept_whole a h = rw (padded-bytes a.count a.bytes h, padded-count a.count a.bytes h) refl
