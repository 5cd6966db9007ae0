use Rattle.std.proofs.Common.{◌≡◌, ◌≤◌, ◌++◌, take}
use Rattle.std.specs.Prelude.{flat_map, vec_capacity}
use Rattle.pot_script.specs.Replies.{listed_text}
use Rattle.pot_script.proofs.printing.append_listed.Given as goal

abbrev pub invariant-loop-listed : goal.invariant-loop-listed
invariant-loop-listed l = record {
  appended : l.out.items ≡ l.initial.out.items ++ flat_map listed_text (take l.listed-index l.names);
  capacity : vec_capacity l.initial.out ≤ vec_capacity l.out;
}
