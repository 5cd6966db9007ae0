-- What authors write into a book.
use Rattle.std.specs.Prelude.{◌≡◌, ℕ, zero, suc, ◌+◌, ◌-◌, ◌*◌, ◌<◌, ◌≤◌, ◌==◌, List, [], ◌∷◌, ◌++◌}
use Rattle.std.specs.Prelude.{Bool, false}
use Rattle.pot_turn.specs.declared.view.View.{View}
use Rattle.pot_turn.specs.Views.{stretches_of, took_view, left_view}
use Rattle.pot_turn.specs.Jobs.{NoneIn, Carries}
use Rattle.turn_demo.specs.declared.book.Line.{Line}

abbrev pub line : ℕ → ℕ → Line
line author number = record { author = author; number = number }

-- the author's first lines, in their order
abbrev pub lines_of : ℕ → ℕ → List Line
lines_of author zero = []
lines_of author (suc n) = lines_of author n ++ line author n ∷ []

-- the line is this author's
abbrev pub by : ℕ → Line → Bool
by author l = l.author == author

-- in one turn this line was written, after all that had been written
abbrev pub WroteLine : Line → View Line ℕ → View Line ℕ → Type 0
WroteLine new v w =
    (before : List Line)
    × (w ≡ left_view ((v.seen ++ before) ++ new ∷ []) (took_view (v.seen ++ before) v))

-- The pass knew v and knows w. In between, each of the authors from `first` on and before `upto`
-- wrote so many lines, and nobody else wrote one under this pass
pub record WroteLines (first upto count : ℕ) (v w : View Line ℕ) : Type 0 where
  pub idle : w.holds ≡ false
  pub parts : w.parts ≡ v.parts
  pub opened : w.opened ≡ v.opened
  pub made : w.made ≡ v.made + (upto - first) * count
  pub theirs : (author : ℕ) → first ≤ author → author < upto
      → Carries (by author) w (lines_of author count)
  pub before : (author : ℕ) → author < first → NoneIn (by author) w.seen (stretches_of w)
  pub after : (author : ℕ) → upto ≤ author → NoneIn (by author) w.seen (stretches_of w)
