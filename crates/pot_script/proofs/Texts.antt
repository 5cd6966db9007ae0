-- What is cut off again after a refusal.
use Rattle.std.proofs.Common.{◌≡◌, ◌+◌, ◌<◌, ◌≤◌, ℕ, true, List, ◌++◌, length, take, drop, Result, Ok, Err, sym, ap, ◌∙◌, get_or, append_assoc, arith, length-append}
use Rattle.std.specs.Prelude.{OnErr, is_err, flat_map, codes}
use Rattle.pot_script.specs.declared.reply.Reply.TheVariants.{Group}
use Rattle.pot_script.specs.Replies.{reply_text, spaced}
use Rattle.std.proofs.lemmas.List.Folds.{length-flat_map-take}
use Rattle.std.proofs.lemmas.List.{take_at, take-append-drop}

pub fact_of_err : {T E P : Type 0} (r : Result T E) → is_err r ≡ true → OnErr r P → P
fact_of_err (Ok x) e h = absurd cc
fact_of_err (Err x) e h = h

-- `middle` begins with `was`, and `now` begins with `middle`
pub cut_back : (was more middle now : List ℕ) (start : ℕ) → start ≡ length was → middle ≡ was ++ more → take (length middle) now ≡ middle → take start now ≡ was
cut_back was more middle now start start-is grown begins =
    let rest = drop (length middle) now in
    let whole : now ≡ was ++ (more ++ rest) = sym (take-append-drop (length middle) now) ∙ ap (λ (t : List ℕ). t ++ rest) (begins ∙ grown) ∙ append_assoc was more rest in
    ap (take start) whole ∙ take_at was (more ++ rest) start (sym start-is)

-- what was appended and the part for which there is no room are no longer than all parts
pub no_room : {X : Type 0} (text : X → List ℕ) (was middle : List ℕ) (parts : List X) (i : ℕ) (d : X) (old now : ℕ) → i < length parts → middle ≡ was ++ flat_map text (take i parts) → old ≤ now → now < length middle + length (text (get_or parts i d))
    → old < length was + length (flat_map text parts)
no_room text was middle parts i d old now lt grown capacity full =
    omega (arith, length-flat_map-take text parts i d lt, ap length grown, length-append was (flat_map text (take i parts)))

-- the twelve parts of a group's line, one after another
grouped : (a b c d e f : List ℕ)
    → codes "group" ++ (a ++ (codes " live" ++ (b ++ (codes " lost" ++ (c ++ (codes " broken" ++ (d ++ (codes " cursor" ++ (e ++ (f ++ codes "\n"))))))))))
    ≡ codes "group" ++ a ++ codes " live" ++ b ++ codes " lost" ++ c ++ codes " broken" ++ d ++ codes " cursor" ++ e ++ f ++ codes "\n"
grouped a b c d e f = simp append_assoc

pub group_line : (g l o b s c g' l' o' b' s' c' : ℕ) → g ≡ g' → l ≡ l' → o ≡ o' → b ≡ b' → s ≡ s' → c ≡ c'
    → codes "group" ++ (spaced g ++ (codes " live" ++ (spaced l ++ (codes " lost" ++ (spaced o ++ (codes " broken" ++ (spaced b ++ (codes " cursor" ++ (spaced s ++ (spaced c ++ codes "\n"))))))))))
    ≡ reply_text (Group g' l' o' b' s' c')
group_line g l o b s c g' l' o' b' s' c' p q r t u v =
    rw (p, q, r, t, u, v) (grouped (spaced g') (spaced l') (spaced o') (spaced b') (spaced s') (spaced c'))

-- what was appended is cut off again
pub cut_off : (was more now : List ℕ) (start : ℕ) → start ≡ length was → now ≡ was ++ more → take start now ≡ was
cut_off was more now start start-is grown = ap (take start) grown ∙ take_at was more start (sym start-is)
