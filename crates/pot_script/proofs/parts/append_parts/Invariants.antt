use Rattle.std.proofs.Common.{◌≡◌, ◌≤◌, ◌++◌, take}
use Rattle.std.specs.Prelude.{flat_map, vec_capacity}
use Rattle.pot_script.specs.Parts.{part_text}
use Rattle.pot_script.proofs.parts.append_parts.Given as goal

abbrev pub invariant-loop-part : goal.invariant-loop-part
invariant-loop-part l = record {
  appended : l.out.items ≡ l.initial.out.items ++ flat_map part_text (take l.part-index l.parts);
  capacity : vec_capacity l.initial.out ≤ vec_capacity l.out;
}
