use Rattle.std.proofs.Common.{◌≡◌, ◌++◌, All, flat_map, take}
use Rattle.pot_image.specs.Rules.{IsWholeEntry}
use Rattle.pot_image.specs.Spelling.{entry_bytes, counted_bytes}
use Rattle.pot_image.proofs.image_writing.append_logs.Given as goal

abbrev pub invariant-loop-log : goal.invariant-loop-log
invariant-loop-log l = (l.out.items ≡ l.fn.out.items ++ flat_map (λ v. counted_bytes entry_bytes v.items) (take l.log-index l.logs)) × All (λ v. All IsWholeEntry v.items) (take l.log-index l.logs)
