-- Names of options among a command's rules and among the rows of uses.
use Rattle.std.proofs.Common.{◌≡◌, ℕ, Bool, cond, true, false, refl, sym, ap, List, [], ◌∷◌, ◌++◌, map, Some, None, bytes_eq, true≢false, ◌||◌}
use Rattle.std.proofs.lemmas.Slice.Eq.{bytes_eq-Decides}
use Rattle.clap.specs.Words.{Row, Rule}
use Rattle.clap.specs.Walk.{Text, arg_by_id, arg_by_long, arg_by_short, arg_by_index, has_row, at_row}
use Rattle.clap.specs.Simple.{filled, with_index}
use Rattle.clap.proofs.WalkLemmas.{list_any-map}
use Rattle.pot_options.specs.Options.{is_among, is_used}
use Rattle.pot_options.specs.Apps.{option_rule, row_of_use}

-- an option as the command has it once it is built
abbrev pub rule : Text → Rule
rule name = with_index 1 (filled (option_rule name))

abbrev pub rules : List Text → List Rule
rules = map rule

pub long_is : (names : List Text) (n : Text) → arg_by_long (rules names) n ≡ cond (is_among names n) (Some (rule n)) None
long_is [] n = refl
long_is (m ∷ ms) n = go (bytes_eq m n) refl (long_is ms n)
  where
    go : (b : Bool) → bytes_eq m n ≡ b → arg_by_long (rules ms) n ≡ cond (is_among ms n) (Some (rule n)) None
        → cond (b || false) (Some (rule m)) (arg_by_long (rules ms) n) ≡ cond (b || is_among ms n) (Some (rule n)) None
    go true e h = ap (λ (t : Text). Some (rule t)) ((bytes_eq-Decides m n).0 e)
    go false e h = h

pub id_is : (names : List Text) (n : Text) → arg_by_id (rules names) n ≡ cond (is_among names n) (Some (rule n)) None
id_is [] n = refl
id_is (m ∷ ms) n = go (bytes_eq m n) refl (id_is ms n)
  where
    go : (b : Bool) → bytes_eq m n ≡ b → arg_by_id (rules ms) n ≡ cond (is_among ms n) (Some (rule n)) None
        → cond b (Some (rule m)) (arg_by_id (rules ms) n) ≡ cond (b || is_among ms n) (Some (rule n)) None
    go true e h = ap (λ (t : Text). Some (rule t)) ((bytes_eq-Decides m n).0 e)
    go false e h = h

pub short_is : (names : List Text) (x : ℕ) → arg_by_short (rules names) x ≡ None
short_is [] x = refl
short_is (m ∷ ms) x = short_is ms x

pub index_is : (names : List Text) (i : ℕ) → arg_by_index (rules names) i ≡ None
index_is [] i = refl
index_is (m ∷ ms) i = index_is ms i

pub row_is : (uses : List (Text × Text)) (n : Text) → has_row n (map row_of_use uses) ≡ is_used uses n
row_is uses n = sym (list_any-map (λ (r : Row). bytes_eq r.id n) row_of_use uses)

-- where an id has no row, a change at it is one at the end
pub at_end : (id : Text) (change : Row → List Row) (missing rows : List Row) → has_row id rows ≡ false → at_row id change missing rows ≡ rows ++ missing
at_end id change missing [] none = refl
at_end id change missing (r ∷ rs) none = go (bytes_eq r.id id) none (at_end id change missing rs)
  where
    go : (b : Bool) → (b || has_row id rs) ≡ false → (has_row id rs ≡ false → at_row id change missing rs ≡ rs ++ missing)
        → cond b (change r ++ rs) (r ∷ at_row id change missing rs) ≡ r ∷ (rs ++ missing)
    go true e h = absurd (true≢false e)
    go false e h = ap (λ xs. r ∷ xs) (h e)
