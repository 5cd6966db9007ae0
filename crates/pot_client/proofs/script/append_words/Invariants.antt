use Rattle.std.proofs.Common.{◌≡◌, ◌++◌, take}
use Rattle.std.specs.Prelude.{flat_map}
use Rattle.pot_client.specs.ScriptWords.{spaced_word}
use Rattle.pot_client.proofs.script.append_words.Given as goal

abbrev pub invariant-loop-word : goal.invariant-loop-word
invariant-loop-word l = record {
  appended : l.out.items ≡ l.initial.out.items ++ flat_map spaced_word (take l.word-index l.words);
}
