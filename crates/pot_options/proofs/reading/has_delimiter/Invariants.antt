use Rattle.std.proofs.Common.{◌≡◌, map, drop}
use Rattle.std.specs.String.{string_bytes}
use Rattle.pot_options.specs.Options.{has_delimiter}
use Rattle.pot_options.proofs.reading.has_delimiter.Given as goal

abbrev pub invariant-loop-word : goal.invariant-loop-word
invariant-loop-word l = has_delimiter (map string_bytes (drop l.word-index l.fn.words)) ≡ has_delimiter (map string_bytes l.fn.words)
