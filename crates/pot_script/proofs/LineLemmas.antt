-- The command at the front of bytes, by its line.
use Rattle.std.proofs.Common.{◌≡◌, ◌≢◌, ◌≤◌, ℕ, true, false, List, [], ◌∷◌, ◌++◌, length, refl, sym, ap, subst, ◌∙◌, append_assoc, arith}
use Rattle.std.specs.Prelude.{codes, decimal, Option, Some, None, MatchOption}
use Rattle.std.specs.List.{join_with_byte}
use Rattle.std.proofs.lemmas.Bool.{true≢false}
use Rattle.std.proofs.lemmas.Fmt.{decimal_injective}
use Rattle.pot_bytes.specs.Names.{IsName}
use Rattle.pot_bytes.specs.declared.rack.Geometry.{Geometry}
use Rattle.pot_bytes.specs.declared.rack.Rack.{Rack}
use Rattle.pot_index.specs.Fits.{FitsGeometry}
use Rattle.pot_script.specs.declared.command.Command.{Command}
use Rattle.pot_script.specs.declared.command.Command.TheVariants as commands
use Rattle.pot_script.specs.declared.kind.Kind.{Kind}
use Rattle.pot_script.specs.declared.kind.Kind.TheVariants as kinds
use Rattle.pot_script.specs.Batches.{may_stand}
use Rattle.pot_script.specs.Commands.{IsCommand, IsGroupNumber, arguments, geometry_words, command_line, command_text, stated_bytes, most_bytes}
use Rattle.pot_script.specs.Kinds.{keyword, kind_of}
use Rattle.pot_script.specs.Lines.{Cuts, IsLineOf}
use Rattle.pot_script.specs.Scripts.{NoCommandAt}
use Rattle.pot_script.specs.Words.{words_in}
use Rattle.pot_script.proofs.WordLemmas.{Without, not_without, one_cut, some_words, join-words_in}
use Rattle.pot_script.proofs.KindLemmas.{keyword_injective, only_store, only_together}
use Rattle.pot_script.proofs.CommandLemmas.{command_line-without, words_in-command_line, first_words, text_at_line, FitsGeometry-small, IsSmall, one_geometry}

-- where a command stands, the first LF ends its line
pub record EndsLine (c : Command) (after line rest : List ℕ) : Type 0 where
  pub line_is : line ≡ command_line c
  pub rest_is : rest ≡ stated_bytes c ++ after

pub ends_line : (rack : Rack) (c : Command) (after bytes line rest : List ℕ) → IsCommand rack c → Cuts bytes 10 line rest → bytes ≡ command_text c ++ after → EndsLine c after line rest
ends_line rack c after bytes line rest is cut e =
    let parts = one_cut 10 line (command_line c) rest (stated_bytes c ++ after) cut.first (command_line-without rack c is) (sym cut.whole ∙ e ∙ text_at_line c after) in
    record { line_is = parts.0; rest_is = parts.1 }

-- without a LF no command stands there
pub no_line_end : (rack : Rack) (batch : Option ℕ) (bytes : List ℕ) → Without 10 bytes → NoCommandAt rack batch bytes
no_line_end rack batch bytes none c after is stands e = not_without 10 (command_line c) (stated_bytes c ++ after) (subst (Without 10) (e ∙ text_at_line c after) none)

pub no_word : (rack : Rack) (batch : Option ℕ) (bytes line : List ℕ) → words_in line ≡ [] → NoCommandAt rack batch bytes
no_word rack batch bytes line e = λ c after is stands f. some_words line e

-- the first words of a line, where a command stands
first_of : (rack : Rack) (bytes line rest word : List ℕ) (others : List (List ℕ)) → Cuts bytes 10 line rest → words_in line ≡ word ∷ others
    → (c : Command) (after : List ℕ) → IsCommand rack c → bytes ≡ command_text c ++ after → (word ≡ keyword (kind_of c)) × (others ≡ arguments c)
first_of rack bytes line rest word others cut words c after is e =
    first_words word (keyword (kind_of c)) others (arguments c)
    (sym words ∙ ap words_in (ends_line rack c after bytes line rest is cut e).line_is ∙ words_in-command_line rack c is)

-- no command stands where the first word is that of no kind
pub no_kind : (rack : Rack) (batch : Option ℕ) (bytes line rest word : List ℕ) (others : List (List ℕ)) → Cuts bytes 10 line rest → words_in line ≡ word ∷ others
    → ((kind : Kind) → word ≢ keyword kind) → NoCommandAt rack batch bytes
no_kind rack batch bytes line rest word others cut words none c after is stands e = none (kind_of c) (first_of rack bytes line rest word others cut words c after is e).0

-- where the first word tells a kind, a command that stands there has its line
of_kind : (rack : Rack) (bytes line rest word : List ℕ) (others : List (List ℕ)) (kind : Kind) → Cuts bytes 10 line rest → words_in line ≡ word ∷ others → word ≡ keyword kind
    → (c : Command) (after : List ℕ) → IsCommand rack c → bytes ≡ command_text c ++ after → IsLineOf rack kind others c
of_kind rack bytes line rest word others kind cut words told c after is e =
    let first = first_of rack bytes line rest word others cut words c after is e in
    record {
      kind_is = keyword_injective (kind_of c) kind (sym first.0 ∙ told);
      is = is;
      words_are = first.1;
    }

-- nor where no line of its kind may stand
pub misplaced : (rack : Rack) (batch : Option ℕ) (bytes line rest word : List ℕ) (others : List (List ℕ)) (kind : Kind) → Cuts bytes 10 line rest → words_in line ≡ word ∷ others → word ≡ keyword kind
    → may_stand batch kind ≡ false → NoCommandAt rack batch bytes
misplaced rack batch bytes line rest word others kind cut words told never c after is stands e =
    let at = of_kind rack bytes line rest word others kind cut words told c after is e in
    true≢false (sym stands ∙ ap (may_stand batch) at.kind_is ∙ never)

-- nor where no command has these words
pub no_line : (rack : Rack) (batch : Option ℕ) (bytes line rest word : List ℕ) (others : List (List ℕ)) (kind : Kind) → Cuts bytes 10 line rest → words_in line ≡ word ∷ others → word ≡ keyword kind
    → ((c : Command) → IsLineOf rack kind others c → ⊥) → NoCommandAt rack batch bytes
no_line rack batch bytes line rest word others kind cut words told none c after is stands e =
    none c (of_kind rack bytes line rest word others kind cut words told c after is e)

-- nor where it is a `store` line, and its bytes or their LF do not follow
pub no_file : (rack : Rack) (batch : Option ℕ) (bytes line rest word : List ℕ) (others : List (List ℕ)) (kind : Kind) → Cuts bytes 10 line rest → words_in line ≡ word ∷ others → word ≡ keyword kind
    → ((c : Command) (after : List ℕ) → IsLineOf rack kind others c → rest ≡ stated_bytes c ++ after → ⊥) → NoCommandAt rack batch bytes
no_file rack batch bytes line rest word others kind cut words told none c after is stands e =
    none c after (of_kind rack bytes line rest word others kind cut words told c after is e) (ends_line rack c after bytes line rest is cut e).rest_is

-- a command with this line stands there
pub record Stands (rack : Rack) (batch : Option ℕ) (bytes after : List ℕ) (c : Command) : Type 0 where
  pub is : IsCommand rack c
  pub stands : may_stand batch (kind_of c) ≡ true
  pub text : bytes ≡ command_text c ++ after

pub found : (rack : Rack) (batch : Option ℕ) (bytes line rest word after : List ℕ) (others : List (List ℕ)) (kind : Kind) (c : Command) → Cuts bytes 10 line rest → words_in line ≡ word ∷ others → word ≡ keyword kind
    → may_stand batch kind ≡ true → IsLineOf rack kind others c → rest ≡ stated_bytes c ++ after → Stands rack batch bytes after c
found rack batch bytes line rest word after others kind c cut words told may is follows = record {
  is = is.is;
  stands = ap (may_stand batch) is.kind_is ∙ may;
  text =
      let line_is : line ≡ command_line c =
      join-words_in line ∙ ap (join_with_byte 32) (words ∙ ap (λ (w : List ℕ). w ∷ others) (told ∙ ap keyword (sym is.kind_is)) ∙ ap (λ (ws : List (List ℕ)). keyword (kind_of c) ∷ ws) is.words_are) in
      cut.whole ∙ ap (λ (l : List ℕ). l ++ 10 ∷ rest) line_is ∙ ap (λ (r : List ℕ). command_line c ++ 10 ∷ r) follows ∙ sym (text_at_line c after);
}

-- a `store` line that is none, or whose bytes do not follow
pub no_store : (rack : Rack) (words : List (List ℕ)) → ((name : List ℕ) (length : ℕ) → IsName name → length ≤ most_bytes → words ≢ name ∷ decimal length ∷ [])
    → (c : Command) → IsLineOf rack kinds.Store words c → ⊥
no_store rack words none c is =
    only_store (λ d. IsLineOf rack kinds.Store words d → ⊥) (λ name file at. none name (length file) at.is.0 at.is.1 at.words_are) c is.kind_is is

pub unfinished : (rack : Rack) (words : List (List ℕ)) (name rest : List ℕ) (n : ℕ) → n ≤ most_bytes → words ≡ name ∷ decimal n ∷ []
    → ((front back : List ℕ) → length front ≡ n → rest ≢ front ++ 10 ∷ back)
    → (c : Command) (after : List ℕ) → IsLineOf rack kinds.Store words c → rest ≡ stated_bytes c ++ after → ⊥
unfinished rack words name rest n small words_are none c after is e =
    only_store (λ d. IsLineOf rack kinds.Store words d → rest ≡ stated_bytes d ++ after → ⊥) (λ other file at f.
    let same = first_words name other (decimal n ∷ []) (decimal (length file) ∷ []) (sym words_are ∙ at.words_are) in
    let len = decimal_injective n (length file) (omega arith) (omega (arith, at.is.1)) (first_words (decimal n) (decimal (length file)) [] [] same.1).0 in
    none file after (sym len) (f ∙ append_assoc file (codes "\n") after)) c is.kind_is is e

-- a number that is that of no group
pub not_a_group : (rack : Rack) (words : List (List ℕ)) (n : ℕ) → n ≤ 255 → words ≡ decimal n ∷ [] → rack.groups ≤ n → (group : ℕ) → IsGroupNumber rack group → words ≢ decimal group ∷ []
not_a_group rack words n small words_are past group is e =
    let same = decimal_injective n group (omega arith) (omega (arith, is.1)) (first_words (decimal n) (decimal group) [] [] (sym words_are ∙ e)).0 in
    omega (arith, same, is.0)

-- a batch has a job
pub no_empty_batch : (rack : Rack) (words : List (List ℕ)) (n : ℕ) → n ≡ 0 → words ≡ decimal n ∷ [] → (c : Command) → IsLineOf rack kinds.Together words c → ⊥
no_empty_batch rack words n none words_are c is =
    only_together (λ d. IsLineOf rack kinds.Together words d → ⊥) (λ count at.
    let same = decimal_injective n count (omega arith) (omega (arith, at.is.1)) (first_words (decimal n) (decimal count) [] [] (sym words_are ∙ at.words_are)).0 in
    omega (arith, same, at.is.0)) c is.kind_is is

-- the geometry of these words fits the rack, if any does
pub not_fitting : (rack : Rack) (words : List (List ℕ)) (g : Geometry) → IsSmall g → words ≡ geometry_words g → (FitsGeometry rack g → ⊥) → (h : Geometry) → FitsGeometry rack h → words ≢ geometry_words h
not_fitting rack words g small words_are none h fits e = none (subst (FitsGeometry rack) (one_geometry h g (FitsGeometry-small rack h fits) small (sym e ∙ words_are)) fits)

-- what reads a `store` line and its file tells whether a command stands there
pub with_file : {X : Type 0} (rack : Rack) (batch : Option ℕ) (bytes line rest word : List ℕ) (others : List (List ℕ)) (kind : Kind) → Cuts bytes 10 line rest → words_in line ≡ word ∷ others → word ≡ keyword kind
    → may_stand batch kind ≡ true → kind ≡ kinds.Store → (r : Option X) (command : X → Command) (after : X → List ℕ)
    → MatchOption r ((c : Command) (after : List ℕ) → IsLineOf rack kinds.Store others c → rest ≡ stated_bytes c ++ after → ⊥) (λ x. IsLineOf rack kinds.Store others (command x) × (rest ≡ stated_bytes (command x) ++ after x))
    → MatchOption r (NoCommandAt rack batch bytes) (λ x. IsCommand rack (command x) × (may_stand batch (kind_of (command x)) ≡ true) × (bytes ≡ command_text (command x) ++ after x))
with_file rack batch bytes line rest word others kind cut words told may store None command after h =
    no_file rack batch bytes line rest word others kinds.Store cut words (told ∙ ap keyword store) h
with_file rack batch bytes line rest word others kind cut words told may store (Some x) command after h =
    let s = found rack batch bytes line rest word (after x) others kinds.Store (command x) cut words (told ∙ ap keyword store) (ap (may_stand batch) (sym store) ∙ may) h.0 h.1 in
    (s.is, s.stands, s.text)

-- nothing follows another line
nothing_stated : (c : Command) → kind_of c ≢ kinds.Store → stated_bytes c ≡ []
nothing_stated (commands.Store name file) h = absurd (h refl)
nothing_stated _ h = refl

pub without_file : (rack : Rack) (batch : Option ℕ) (bytes line rest word : List ℕ) (others : List (List ℕ)) (kind : Kind) (c : Command) → Cuts bytes 10 line rest → words_in line ≡ word ∷ others → word ≡ keyword kind
    → may_stand batch kind ≡ true → kind ≢ kinds.Store → IsLineOf rack kind others c → IsCommand rack c × (may_stand batch (kind_of c) ≡ true) × (bytes ≡ command_text c ++ rest)
without_file rack batch bytes line rest word others kind c cut words told may other is =
    let s = found rack batch bytes line rest word rest others kind c cut words told may is (ap (λ (stated : List ℕ). stated ++ rest) (sym (nothing_stated c (λ e. other (sym is.kind_is ∙ e))))) in
    (s.is, s.stands, s.text)
