-- What a recheck writes, and its exit status.
use Rattle.std.specs.Prelude.{ℕ, ◌==◌, ◌++◌, List, [], if◌then◌else◌, codes, flat_map, length}
use Rattle.std.specs.Prelude.{filter}
use Rattle.std.specs.List.{range_with_len}
use Rattle.pot_script.specs.Replies.{spaced, in_hex}
use Rattle.pot_recheck.specs.declared.listing.Unsound.{Unsound}
use Rattle.pot_recheck.specs.declared.rechecking.Rechecked.{Rechecked}
use Rattle.pot_recheck.specs.declared.rechecking.Rechecked.TheVariants as answer

-- how many of them are of a group
abbrev pub count_in : List Unsound → ℕ → ℕ
count_in found g = length (filter (λ u. u.group == g) found)

-- `recheck GROUP COUNT`, and no line for a group that has none
abbrev pub group_line : ℕ → ℕ → List ℕ
group_line g count =
    if count == 0 then []
    else codes "recheck" ++ spaced g ++ spaced count ++ codes "\n"

-- the lines of groups 0 to 15, of which an image has no more, and behind them `rechecked COUNT`
abbrev pub found_text : List Unsound → List ℕ
found_text found =
    flat_map (λ g. group_line g (count_in found g)) (range_with_len 0 16)
    ++ codes "rechecked" ++ spaced (length found) ++ codes "\n"

-- The text of a recheck. A refusal has the words of a session's.
abbrev pub recheck_text : Rechecked → List ℕ
recheck_text (answer.Found found) = found_text found.items
recheck_text answer.NoImage = codes "image refused none\n"
recheck_text answer.Cut = codes "image refused cut\n"
recheck_text (answer.Trailer kept computed) =
    codes "image refused trailer" ++ in_hex kept ++ in_hex computed ++ codes "\n"
recheck_text (answer.Form place) = codes "image refused form" ++ spaced place ++ codes "\n"
recheck_text answer.DeskFault = []
recheck_text answer.NoMemory = []

-- the exit status
abbrev pub code_of : Rechecked → ℕ
code_of (answer.Found found) = 0
code_of answer.NoImage = 7
code_of answer.Cut = 7
code_of (answer.Trailer kept computed) = 7
code_of (answer.Form place) = 7
code_of answer.DeskFault = 6
code_of answer.NoMemory = 70
