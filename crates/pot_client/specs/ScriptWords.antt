-- The words of a line of the script as they are written.
use Rattle.std.specs.Prelude.{ℕ, List, ◌∷◌, decimal}
use Rattle.pot_client.specs.declared.script.Word.{Word}
use Rattle.pot_client.specs.declared.script.Word.TheVariants.{Text, Number}

-- the bytes of a word
abbrev pub word_text : Word → List ℕ
word_text (Text bytes) = bytes.now
word_text (Number n) = decimal n

-- a space (32) and a word
abbrev pub spaced_word : Word → List ℕ
spaced_word word = 32 ∷ word_text word
