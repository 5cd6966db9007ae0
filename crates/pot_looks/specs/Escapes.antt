-- Text as a page of HTML has it.
use Rattle.std.specs.Prelude.{◌≡◌, ◌∷◌, ◌==◌, ℕ, List, [], if◌then◌else◌, flat_map}
use Rattle.std.specs.List.{Contains}

-- `&` is written as `&amp;`, `<` as `&lt;`, `>` as `&gt;`, `"` as `&quot;`, and all else as it is
abbrev pub spelled : ℕ → List ℕ
spelled b =
    if b == 38 then 38 ∷ 97 ∷ 109 ∷ 112 ∷ 59 ∷ []
    else if b == 60 then 38 ∷ 108 ∷ 116 ∷ 59 ∷ []
    else if b == 62 then 38 ∷ 103 ∷ 116 ∷ 59 ∷ []
    else if b == 34 then 38 ∷ 113 ∷ 117 ∷ 111 ∷ 116 ∷ 59 ∷ []
    else b ∷ []

unfoldable pub escaped : List ℕ → List ℕ
escaped text = flat_map spelled text

-- What is escaped has no `<`, no `>` and no `"`, and two texts that are escaped to one are one.
pub record EscapeLaws : Type 0 where
  pub no_less : (text : List ℕ) → ¬ Contains (escaped text) 60
  pub no_greater : (text : List ℕ) → ¬ Contains (escaped text) 62
  pub no_quote : (text : List ℕ) → ¬ Contains (escaped text) 34
  pub back : (text other : List ℕ) → escaped text ≡ escaped other → text ≡ other
