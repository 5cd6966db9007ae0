-- The value that uses give an option, and the value that clap finds.
use Rattle.std.proofs.Common.{◌≡◌, ◌∙◌, Bool, cond, true, false, refl, List, [], ◌∷◌, map, ap, Some, find, option_map, bytes_eq}
use Rattle.std.specs.Option.{option_and_then}
use Rattle.std.specs.Prelude.{slice_get}
use Rattle.clap.specs.Words.{Row, first_of, first_value, found_of}
use Rattle.clap.specs.declared.parser.matches.ArgMatches.{ArgMatches}
use Rattle.clap.proofs.WalkLemmas.{first_value-rows}
use Rattle.pot_options.specs.Options.{Text, given}
use Rattle.pot_options.specs.Apps.{HasUses, row_of_use}

first_is : (uses : List (Text × Text)) (name : Text) → first_of name (map row_of_use uses) ≡ given uses name
first_is [] name = refl
first_is (u ∷ others) name = go (bytes_eq u.0 name) (first_is others name)
  where
    go : (b : Bool) → first_of name (map row_of_use others) ≡ given others name
        → option_and_then (λ (r : Row). slice_get r.values 0) (cond b (Some (row_of_use u)) (find (λ (r : Row). bytes_eq r.id name) (map row_of_use others))) ≡ option_map (λ w. w.1) (cond b (Some u) (find (λ w. bytes_eq w.0 name) others))
    go true h = refl
    go false h = h

pub value_is : (m : ArgMatches) (uses : List (Text × Text)) (name : Text) → HasUses m uses → first_value (found_of m) name ≡ given uses name
value_is m uses name has = first_value-rows (found_of m) name ∙ ap (first_of name) has ∙ first_is uses name
