-- The parts of a text, written one after another.
use Rattle.std.specs.Prelude.{ℕ, List, decimal}
use Rattle.hex.specs.Hex.{encode_lower}
use Rattle.pot_tree.specs.declared.parts.Part.{Part}
use Rattle.pot_tree.specs.declared.parts.Part.TheVariants.{Text, Spelled, Number, Mode, Hex, Size}
use Rattle.pot_tree.specs.declared.parts.Part.TheVariants.{Sum}
use Rattle.pot_tree.specs.Entries.{mode_digits, spelled}
use Rattle.pot_tree.specs.Packs.{size_digits, sum_digits}

-- the bytes of a part
abbrev pub part_text : Part → List ℕ
part_text (Text bytes) = bytes.now
part_text (Spelled bytes) = spelled bytes.now
part_text (Number n) = decimal n
part_text (Mode n) = mode_digits n
part_text (Hex digest) = encode_lower digest.bytes
part_text (Size n) = size_digits n
part_text (Sum n) = sum_digits n
