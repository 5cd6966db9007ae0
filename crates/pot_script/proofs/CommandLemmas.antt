-- Commands and their lines: the words of a line tell its command, but for the file of a `store`
-- line.
use Rattle.std.proofs.Common.{◌≡◌, ◌≤◌, ◌<◌, ◌^◌, ℕ, true, false, List, [], ◌∷◌, ◌++◌, length, get_or, take, drop, refl, sym, ap, ◌∙◌, append_assoc, arith, length-append}
use Rattle.std.specs.Prelude.{All, codes, decimal, nat_eq, not}
use Rattle.std.specs.List.{list_all}
use Rattle.std.proofs.lemmas.Bool.{true≢false}
use Rattle.std.proofs.lemmas.List.Sums.{AllPass-from_list_all}
use Rattle.std.proofs.lemmas.List.{get_or_default, take_at, drop_at}
use Rattle.std.proofs.lemmas.List.Elements.{All-nil, All-cons}
use Rattle.std.proofs.lemmas.Str.Parse.{digit_at}
use Rattle.std.proofs.lemmas.Fmt.{decimal_injective, length-decimal-le}
use Rattle.pot_bytes.specs.Names.{IsName, is_name_byte}
use Rattle.pot_bytes.specs.declared.rack.Geometry.{Geometry}
use Rattle.pot_bytes.specs.declared.rack.Rack.{Rack}
use Rattle.pot_index.specs.Fits.{FitsGeometry}
use Rattle.pot_script.specs.declared.command.Command.{Command}
use Rattle.pot_script.specs.declared.command.Command.TheVariants as commands
use Rattle.pot_script.specs.declared.kind.Kind.{Kind}
use Rattle.pot_script.specs.declared.kind.Kind.TheVariants as kinds
use Rattle.pot_script.specs.Commands.{IsCommand, arguments, geometry_words, command_line, command_text, stated_bytes, most_bytes}
use Rattle.pot_script.specs.Kinds.{keyword, kind_of}
use Rattle.pot_script.specs.Words.{words_in}
use Rattle.pot_script.proofs.Decimal.{IsDecimal-decimal}
use Rattle.pot_script.proofs.WordLemmas.{Without, one_cut, tails, words_in-join, join-without}
use Rattle.pot_script.proofs.KindLemmas.{keyword_injective, only_store, only_fetch, only_list, only_status, only_scrub, only_repair, only_replace, only_migrate, only_together, only_end, only_renew, only_quit}

-- the byte may separate words or lines: it stands in no name, in no number and in no first word
record IsBreak (byte : ℕ) : Type 0 where
  name : is_name_byte byte ≡ false
  low : byte < 48
  word : (kind : Kind) → list_all (λ b. not (nat_eq b byte)) (keyword kind) ≡ true
  itself : nat_eq byte byte ≡ true

tested : (byte : ℕ) (bytes : List ℕ) → nat_eq byte byte ≡ true → list_all (λ b. not (nat_eq b byte)) bytes ≡ true → Without byte bytes
tested byte bytes itself h k d lt e =
    let passes : not (nat_eq (get_or bytes k d) byte) ≡ true = AllPass-from_list_all (λ b. not (nat_eq b byte)) bytes h k d lt in
    let fails : not (nat_eq (get_or bytes k d) byte) ≡ false = ap (λ (b : ℕ). not (nat_eq b byte)) e ∙ ap not itself in
    true≢false (sym passes ∙ fails)

IsName-without : (byte : ℕ) (name : List ℕ) → IsBreak byte → IsName name → Without byte name
IsName-without byte name at is k d lt e = true≢false (sym (is.each k d lt) ∙ ap is_name_byte e ∙ at.name)

decimal-without : (byte n : ℕ) → IsBreak byte → n < 2 ^ 64 → Without byte (decimal n)
decimal-without byte n at small k d lt e =
    let range = digit_at (decimal n) k (IsDecimal-decimal n small).digits lt in
    omega (arith, range, e, at.low, get_or_default (decimal n) k d 0 lt)

one_word : (byte : ℕ) (a : List ℕ) (words : List (List ℕ)) → Without byte a → All (Without byte) words → All (Without byte) (a ∷ words)
one_word byte a words p q = All-cons (Without byte) a words p q

no_words : (byte : ℕ) → All (Without byte) []
no_words byte = All-nil (Without byte)

number : (byte n : ℕ) (words : List (List ℕ)) → IsBreak byte → n ≤ most_bytes → All (Without byte) words → All (Without byte) (decimal n ∷ words)
number byte n words at small q = one_word byte (decimal n) words (decimal-without byte n at (omega arith)) q

arguments-without : (byte : ℕ) → IsBreak byte → (rack : Rack) (c : Command) → IsCommand rack c → All (Without byte) (arguments c)
arguments-without byte at rack (commands.Store name file) is = one_word byte name (decimal (length file) ∷ []) (IsName-without byte name at is.0) (number byte (length file) [] at is.1 (no_words byte))
arguments-without byte at rack (commands.Fetch name) is = one_word byte name [] (IsName-without byte name at is) (no_words byte)
arguments-without byte at rack commands.List is = no_words byte
arguments-without byte at rack commands.Status is = no_words byte
arguments-without byte at rack (commands.Scrub group) is = number byte group [] at (omega (arith, is.1)) (no_words byte)
arguments-without byte at rack (commands.Repair group) is = number byte group [] at (omega (arith, is.1)) (no_words byte)
arguments-without byte at rack (commands.Replace from to) is = number byte from (decimal to ∷ []) at (omega (arith, is.0)) (number byte to [] at (omega (arith, is.1)) (no_words byte))
arguments-without byte at rack (commands.Migrate from to) is = number byte from (decimal to ∷ []) at (omega (arith, is.0)) (number byte to [] at (omega (arith, is.1)) (no_words byte))
arguments-without byte at rack (commands.Together count) is = number byte count [] at (omega (arith, is.1)) (no_words byte)
arguments-without byte at rack commands.End is = no_words byte
arguments-without byte at rack (commands.Renew name g) is =
    one_word byte name (geometry_words g) (IsName-without byte name at is.0)
    (number byte g.fragments (decimal g.need ∷ decimal g.shards ∷ decimal g.blur ∷ []) at (omega (arith, is.1.limits.fragments))
    (number byte g.need (decimal g.shards ∷ decimal g.blur ∷ []) at (omega (arith, is.1.limits.need, is.1.limits.shards))
    (number byte g.shards (decimal g.blur ∷ []) at (omega (arith, is.1.limits.shards))
    (number byte g.blur [] at (omega (arith, is.1.limits.blur)) (no_words byte)))))
arguments-without byte at rack commands.Quit is = no_words byte

words-without : (byte : ℕ) → IsBreak byte → (rack : Rack) (c : Command) → IsCommand rack c → All (Without byte) (keyword (kind_of c) ∷ arguments c)
words-without byte at rack c is =
    one_word byte (keyword (kind_of c)) (arguments c) (tested byte (keyword (kind_of c)) at.itself (at.word (kind_of c))) (arguments-without byte at rack c is)

space_in_no_word : (kind : Kind) → list_all (λ b. not (nat_eq b 32)) (keyword kind) ≡ true
space_in_no_word kinds.Store = refl
space_in_no_word kinds.Fetch = refl
space_in_no_word kinds.List = refl
space_in_no_word kinds.Status = refl
space_in_no_word kinds.Scrub = refl
space_in_no_word kinds.Repair = refl
space_in_no_word kinds.Replace = refl
space_in_no_word kinds.Migrate = refl
space_in_no_word kinds.Together = refl
space_in_no_word kinds.End = refl
space_in_no_word kinds.Renew = refl
space_in_no_word kinds.Quit = refl

line_end_in_no_word : (kind : Kind) → list_all (λ b. not (nat_eq b 10)) (keyword kind) ≡ true
line_end_in_no_word kinds.Store = refl
line_end_in_no_word kinds.Fetch = refl
line_end_in_no_word kinds.List = refl
line_end_in_no_word kinds.Status = refl
line_end_in_no_word kinds.Scrub = refl
line_end_in_no_word kinds.Repair = refl
line_end_in_no_word kinds.Replace = refl
line_end_in_no_word kinds.Migrate = refl
line_end_in_no_word kinds.Together = refl
line_end_in_no_word kinds.End = refl
line_end_in_no_word kinds.Renew = refl
line_end_in_no_word kinds.Quit = refl

space : IsBreak 32
space = record { name = refl; low = omega arith; word = space_in_no_word; itself = refl }

line_end : IsBreak 10
line_end = record { name = refl; low = omega arith; word = line_end_in_no_word; itself = refl }

-- a line has its words, and no LF (10) in it
pub words_in-command_line : (rack : Rack) (c : Command) → IsCommand rack c → words_in (command_line c) ≡ keyword (kind_of c) ∷ arguments c
words_in-command_line rack c is = words_in-join (keyword (kind_of c)) (arguments c) (words-without 32 space rack c is)

pub command_line-without : (rack : Rack) (c : Command) → IsCommand rack c → Without 10 (command_line c)
command_line-without rack c is = join-without 10 (keyword (kind_of c) ∷ arguments c) (omega arith) (words-without 10 line_end rack c is)

-- two lists of words are equal where their first words and the others are
pub first_words : (v w : List ℕ) (vs ws : List (List ℕ)) → v ∷ vs ≡ w ∷ ws → (v ≡ w) × (vs ≡ ws)
first_words v w vs ws e = (cc, cc)

-- lines of one text are of one kind, and have the same words after the first
pub same_lines : (rack : Rack) (c d : Command) → IsCommand rack c → IsCommand rack d → command_line c ≡ command_line d → (kind_of c ≡ kind_of d) × (arguments c ≡ arguments d)
same_lines rack c d p q e =
    let same = first_words (keyword (kind_of c)) (keyword (kind_of d)) (arguments c) (arguments d) (sym (words_in-command_line rack c p) ∙ ap words_in e ∙ words_in-command_line rack d q) in
    (keyword_injective (kind_of c) (kind_of d) same.0, same.1)

-- a number has one text
one_decimal : (m n : ℕ) → m ≤ most_bytes → n ≤ most_bytes → decimal m ≡ decimal n → m ≡ n
one_decimal m n p q e = decimal_injective m n (omega arith) (omega arith) e

geometry_of : ℕ → ℕ → ℕ → ℕ → Geometry
geometry_of fragments need shards blur = record { fragments = fragments; need = need; shards = shards; blur = blur }

geometry_is : (g : Geometry) → g ≡ geometry_of g.fragments g.need g.shards g.blur
unfolding geometry_of
geometry_is g = refl

-- its numbers are bytes
pub record IsSmall (g : Geometry) : Type 0 where
  pub fragments : g.fragments ≤ 255
  pub need : g.need ≤ 255
  pub shards : g.shards ≤ 255
  pub blur : g.blur ≤ 255

pub FitsGeometry-small : (rack : Rack) (g : Geometry) → FitsGeometry rack g → IsSmall g
FitsGeometry-small rack g fits = record {
  fragments = omega (arith, fits.limits.fragments);
  need = omega (arith, fits.limits.need, fits.limits.shards);
  shards = omega (arith, fits.limits.shards);
  blur = omega (arith, fits.limits.blur);
}

four_words : (a b c d a' b' c' d' : List ℕ) → a ∷ b ∷ c ∷ d ∷ [] ≡ a' ∷ b' ∷ c' ∷ d' ∷ [] → (a ≡ a') × (b ≡ b') × (c ≡ c') × (d ≡ d')
four_words a b c d a' b' c' d' e = (cc, cc, cc, cc)

-- a geometry has one list of words
pub one_geometry : (g h : Geometry) → IsSmall g → IsSmall h → geometry_words g ≡ geometry_words h → g ≡ h
one_geometry g h p q e =
    let four = four_words (decimal g.fragments) (decimal g.need) (decimal g.shards) (decimal g.blur) (decimal h.fragments) (decimal h.need) (decimal h.shards) (decimal h.blur) e in
    let fragments = one_decimal g.fragments h.fragments (omega (arith, p.fragments)) (omega (arith, q.fragments)) four.0 in
    let need = one_decimal g.need h.need (omega (arith, p.need)) (omega (arith, q.need)) four.1 in
    let shards = one_decimal g.shards h.shards (omega (arith, p.shards)) (omega (arith, q.shards)) four.2 in
    let blur = one_decimal g.blur h.blur (omega (arith, p.blur)) (omega (arith, q.blur)) four.3 in
    geometry_is g ∙ ap (λ n. geometry_of n g.need g.shards g.blur) fragments ∙ ap (λ n. geometry_of h.fragments n g.shards g.blur) need
    ∙ ap (λ n. geometry_of h.fragments h.need n g.blur) shards ∙ ap (λ n. geometry_of h.fragments h.need h.shards n) blur ∙ sym (geometry_is h)

-- d is the command c and what follows it is the same, if its words and what follows its line are
abbrev Same : Rack → Command → List ℕ → List ℕ → Command → Type 0
Same rack c x y d = IsCommand rack d → arguments c ≡ arguments d → stated_bytes c ++ x ≡ stated_bytes d ++ y → (c ≡ d) × (x ≡ y)

equal_parts : (a b x y : List ℕ) → length a ≡ length b → a ++ x ≡ b ++ y → (a ≡ b) × (x ≡ y)
equal_parts a b x y len e = (
  sym (take_at a x (length a) refl) ∙ ap (take (length a)) e ∙ take_at b y (length a) (sym len),
  sym (drop_at a x (length a) refl) ∙ ap (drop (length a)) e ∙ drop_at b y (length a) (sym len),
)

same_store : (rack : Rack) (name file x y : List ℕ) → IsCommand rack (commands.Store name file) → (other more : List ℕ) → Same rack (commands.Store name file) x y (commands.Store other more)
same_store rack name file x y p other more q same e =
    let words = first_words name other (decimal (length file) ∷ []) (decimal (length more) ∷ []) same in
    let len = one_decimal (length file) (length more) p.1 q.1 (first_words (decimal (length file)) (decimal (length more)) [] [] words.1).0 in
    let f : file ++ 10 ∷ x ≡ more ++ 10 ∷ y = sym (append_assoc file (codes "\n") x) ∙ e ∙ append_assoc more (codes "\n") y in
    let parts = equal_parts file more (10 ∷ x) (10 ∷ y) len f in
    (ap (λ (n : List ℕ). commands.Store n file) words.0 ∙ ap (λ (b : List ℕ). commands.Store other b) parts.0, tails 10 10 x y parts.1)

one_number : (m n : ℕ) → m ≤ most_bytes → n ≤ most_bytes → decimal m ∷ [] ≡ decimal n ∷ [] → m ≡ n
one_number m n p q e = one_decimal m n p q (first_words (decimal m) (decimal n) [] [] e).0

two_numbers : (m n m' n' : ℕ) → (m ≤ 511) × (n ≤ 511) → (m' ≤ 511) × (n' ≤ 511) → decimal m ∷ decimal n ∷ [] ≡ decimal m' ∷ decimal n' ∷ [] → (m ≡ m') × (n ≡ n')
two_numbers m n m' n' p q e =
    let words = first_words (decimal m) (decimal m') (decimal n ∷ []) (decimal n' ∷ []) e in
    (one_decimal m m' (omega (arith, p.0)) (omega (arith, q.0)) words.0, one_number n n' (omega (arith, p.1)) (omega (arith, q.1)) words.1)

pub same_command : (rack : Rack) (c d : Command) (x y : List ℕ) → kind_of c ≡ kind_of d → IsCommand rack c → Same rack c x y d
same_command rack (commands.Store name file) d x y k p = only_store (Same rack (commands.Store name file) x y) (same_store rack name file x y p) d (sym k)
same_command rack (commands.Fetch name) d x y k p =
    only_fetch (Same rack (commands.Fetch name) x y) (λ other q same e. (ap (λ (n : List ℕ). commands.Fetch n) (first_words name other [] [] same).0, e)) d (sym k)
same_command rack commands.List d x y k p = only_list (Same rack commands.List x y) (λ q same e. (refl, e)) d (sym k)
same_command rack commands.Status d x y k p = only_status (Same rack commands.Status x y) (λ q same e. (refl, e)) d (sym k)
same_command rack (commands.Scrub group) d x y k p =
    only_scrub (Same rack (commands.Scrub group) x y) (λ other q same e. (ap (λ (n : ℕ). commands.Scrub n) (one_number group other (omega (arith, p.1)) (omega (arith, q.1)) same), e)) d (sym k)
same_command rack (commands.Repair group) d x y k p =
    only_repair (Same rack (commands.Repair group) x y) (λ other q same e. (ap (λ (n : ℕ). commands.Repair n) (one_number group other (omega (arith, p.1)) (omega (arith, q.1)) same), e)) d (sym k)
same_command rack (commands.Replace from to) d x y k p =
    only_replace (Same rack (commands.Replace from to) x y) (λ a b q same e.
    let two = two_numbers from to a b p q same in
    (ap (λ (n : ℕ). commands.Replace n to) two.0 ∙ ap (λ (n : ℕ). commands.Replace a n) two.1, e)) d (sym k)
same_command rack (commands.Migrate from to) d x y k p =
    only_migrate (Same rack (commands.Migrate from to) x y) (λ a b q same e.
    let two = two_numbers from to a b p q same in
    (ap (λ (n : ℕ). commands.Migrate n to) two.0 ∙ ap (λ (n : ℕ). commands.Migrate a n) two.1, e)) d (sym k)
same_command rack (commands.Together count) d x y k p =
    only_together (Same rack (commands.Together count) x y) (λ other q same e. (ap (λ (n : ℕ). commands.Together n) (one_number count other (omega (arith, p.1)) (omega (arith, q.1)) same), e)) d (sym k)
same_command rack commands.End d x y k p = only_end (Same rack commands.End x y) (λ q same e. (refl, e)) d (sym k)
same_command rack (commands.Renew name g) d x y k p =
    only_renew (Same rack (commands.Renew name g) x y) (λ other h q same e.
    let words = first_words name other (geometry_words g) (geometry_words h) same in
    (ap (λ (n : List ℕ). commands.Renew n g) words.0 ∙ ap (λ (r : Geometry). commands.Renew other r) (one_geometry g h (FitsGeometry-small rack g p.1) (FitsGeometry-small rack h q.1) words.1), e)) d (sym k)
same_command rack commands.Quit d x y k p = only_quit (Same rack commands.Quit x y) (λ q same e. (refl, e)) d (sym k)

-- the text of a command is its line, a LF and what follows that
pub text_at_line : (c : Command) (after : List ℕ) → command_text c ++ after ≡ command_line c ++ 10 ∷ (stated_bytes c ++ after)
text_at_line c after = simp append_assoc

-- no command's text begins another's
pub one_command : (rack : Rack) (c d : Command) (x y : List ℕ) → IsCommand rack c → IsCommand rack d → command_text c ++ x ≡ command_text d ++ y → (c ≡ d) × (x ≡ y)
one_command rack c d x y p q e =
    let parts = one_cut 10 (command_line c) (command_line d) (stated_bytes c ++ x) (stated_bytes d ++ y) (command_line-without rack c p) (command_line-without rack d q) (sym (text_at_line c x) ∙ e ∙ text_at_line d y) in
    let same = same_lines rack c d p q parts.0 in
    same_command rack c d x y same.0 p q same.1 parts.1

-- The longest line is that of a renewal: a name of 64 bytes and four numbers.
short : (n : ℕ) → n ≤ most_bytes → length (decimal n) ≤ 8
short n small = length-decimal-le 8 n (omega arith) (omega arith) (omega arith)

pub length-command_line : (rack : Rack) (c : Command) → IsCommand rack c → length (command_line c) ≤ 128
length-command_line rack (commands.Store name file) is = simp length-append (omega (arith, is.0.few, short (length file) is.1))
length-command_line rack (commands.Fetch name) is = simp length-append (omega (arith, is.few))
length-command_line rack commands.List is = omega arith
length-command_line rack commands.Status is = omega arith
length-command_line rack (commands.Scrub group) is = simp length-append (omega (arith, short group (omega (arith, is.1))))
length-command_line rack (commands.Repair group) is = simp length-append (omega (arith, short group (omega (arith, is.1))))
length-command_line rack (commands.Replace from to) is = simp length-append (omega (arith, short from (omega (arith, is.0)), short to (omega (arith, is.1))))
length-command_line rack (commands.Migrate from to) is = simp length-append (omega (arith, short from (omega (arith, is.0)), short to (omega (arith, is.1))))
length-command_line rack (commands.Together count) is = simp length-append (omega (arith, short count (omega (arith, is.1))))
length-command_line rack commands.End is = omega arith
length-command_line rack (commands.Renew name g) is =
    let small = FitsGeometry-small rack g is.1 in
    simp length-append (omega (arith, is.0.few, short g.fragments (omega (arith, small.fragments)), short g.need (omega (arith, small.need)), short g.shards (omega (arith, small.shards)), short g.blur (omega (arith, small.blur))))
length-command_line rack commands.Quit is = omega arith
