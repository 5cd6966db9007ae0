-- Desks in memory.
use Rattle.std.specs.Prelude.{◌++◌, ℕ, List, Option, option_map, map}
use Rattle.std.specs.Option.{option_to_list}
use Rattle.pot_outside.specs.Desks.{Images}
use Rattle.pot_doubles.specs.declared.calls.Calls.{Calls}
use Rattle.pot_doubles.specs.declared.desk.MemDesk.{MemDesk}

-- the image that a desk has
abbrev pub image_of : MemDesk → Option (List ℕ)
image_of d = option_map (λ v. v.items) d.image

-- and those that it ever had
abbrev pub images_of : MemDesk → Images
images_of d = record {
  now = image_of d;
  past = map (λ v. v.items) d.past.items ++ option_to_list (image_of d);
}

-- its calls so far
abbrev pub desk_calls : MemDesk → Calls
desk_calls d = d.calls
