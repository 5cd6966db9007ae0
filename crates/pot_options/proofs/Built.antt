-- The command once it is built.
use Rattle.std.proofs.Common.{◌≡◌, ◌∙◌, ℕ, Bool, true, false, not, is_some, ◌&&◌, refl, ap, List, [], ◌∷◌, map, codes}
use Rattle.std.specs.List.{list_all, list_any, count_by}
use Rattle.std.proofs.lemmas.Bool.{and_from}
use Rattle.clap.specs.Words.{App, Rule, Shape}
use Rattle.clap.specs.Walk.{Text, is_early_multiple}
use Rattle.clap.specs.Simple.{built, filled_from, new_shape, is_buildable, is_ready, is_ready_leaf}
use Rattle.clap.specs.Faults.{is_free_app, is_simple_and_free}
use Rattle.pot_options.specs.Apps.{option_rule, options_app}
use Rattle.pot_options.proofs.Names.{rule, rules}

filled_is : (names : List Text) → filled_from 1 (map option_rule names) ≡ rules names
filled_is [] = refl
filled_is (n ∷ ns) = ap (λ rs. rule n ∷ rs) (filled_is ns)

abbrev pub shape_with : List Rule → Shape
shape_with rs = record (new_shape (codes "options")) {
  rules = rs;
  no_binary_name = true;
  disable_help_flag = true;
  disable_help_subcommand = true;
  is_built = true;
}

abbrev pub shape : List Text → Shape
shape names = shape_with (rules names)

pub built_is : (names : List Text) → built (options_app names) ≡ record { top = shape names; subs = [] }
built_is names = ap (λ (rs : List Rule). record { top = shape_with rs; subs = [] }) (filled_is names)

all_simple : (names : List Text) → list_all (λ (a : Rule). a.is_simple) (map option_rule names) ≡ true
all_simple [] = refl
all_simple (n ∷ ns) = all_simple ns

all_simple_built : (names : List Text) → list_all (λ (a : Rule). a.is_simple) (rules names) ≡ true
all_simple_built [] = refl
all_simple_built (n ∷ ns) = all_simple_built ns

all_free : (names : List Text) → list_all (λ (a : Rule). a.is_free) (rules names) ≡ true
all_free [] = refl
all_free (n ∷ ns) = all_free ns

none_early : (k : ℕ) (names : List Text) → list_any (is_early_multiple k) (rules names) ≡ false
none_early k [] = refl
none_early k (n ∷ ns) = none_early k ns

abbrev is_fit : App → Bool
is_fit b = is_ready b.top && list_all is_ready_leaf b.subs

fit : (names : List Text) → is_fit (record { top = shape names; subs = [] }) ≡ true
fit names = and_from _ _ (and_from _ _ (all_simple_built names) (ap not (none_early (count_by (λ (a : Rule). is_some a.index) (rules names)) names))) refl

free_built : (names : List Text) → is_free_app (record { top = shape names; subs = [] }) ≡ true
free_built names = and_from _ _ (all_free names) refl

pub simple_and_free : (names : List Text) → is_simple_and_free (options_app names) ≡ true
simple_and_free names =
    let buildable : is_buildable (options_app names) ≡ true = and_from _ _ (all_simple names) refl in
    and_from _ _ (and_from _ _ buildable (ap is_fit (built_is names) ∙ fit names)) (ap is_free_app (built_is names) ∙ free_built names)
