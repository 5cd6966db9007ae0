-- What a use of an option makes of the rows.
use Rattle.std.proofs.Common.{◌≡◌, ◌∙◌, Bool, cond, true, false, refl, sym, ap, List, [], ◌∷◌, ◌++◌, map, Option, Some, None, append-nil, ◌&&◌}
use Rattle.std.specs.Option.{option_map_or}
use Rattle.std.specs.Bool.{⊤}
use Rattle.std.proofs.lemmas.List.{map-append}
use Rattle.clap.specs.Words.{Row, Rule}
use Rattle.clap.specs.Walk.{Text, has_row, used, settled_rows, used_by_id, arg_by_id, without, more_values}
use Rattle.clap.specs.Kinds.{or_else}
use Rattle.clap.specs.Faults.{settle_fault, use_fault}
use Rattle.clap.specs.declared.error.kind.ErrorKind.TheVariants as kind
use Rattle.clap.specs.declared.parser.matches.ValueSource.TheVariants.{CommandLine}
use Rattle.pot_options.specs.Options.{is_among, is_used}
use Rattle.pot_options.specs.Apps.{row_of_use}
use Rattle.pot_options.proofs.Names.{rule, rules, id_is, row_is, at_end}
use Rattle.pot_options.proofs.Steps.{hold}

pub use_passes : (n v : Text) (rows : List Row) → has_row n rows ≡ false → use_fault false (rule n) (v ∷ []) rows ≡ []
use_passes n v rows none = rw none refl

pub use_is_new : (n v : Text) (rows : List Row) → use_fault false (rule n) (v ∷ []) rows ≡ [] → has_row n rows ≡ false
use_is_new n v rows passes = go (has_row n rows) passes
  where
    go : (b : Bool) → or_else (cond (b && true) (kind.ArgumentConflict ∷ []) []) [] ≡ [] → b ≡ false
    go true e = absurd (cc)
    go false e = refl

pub used_is : (u : Text × Text) (done : List (Text × Text)) → is_used done u.0 ≡ false → used (rule u.0) (u.1 ∷ []) (map row_of_use done) ≡ map row_of_use (done ++ u ∷ [])
used_is u done new =
    let none : has_row u.0 (map row_of_use done) ≡ false = row_is done u.0 ∙ new in
    let gone : without u.0 (map row_of_use done) ≡ map row_of_use done = at_end u.0 (λ _. []) [] (map row_of_use done) none ∙ append-nil (map row_of_use done) in
    ap (λ rs. Rattle.clap.specs.Walk.with_values u.0 (Rattle.clap.specs.Walk.reading_by (rule u.0)) CommandLine (u.1 ∷ []) rs) gone
    ∙ at_end u.0 (more_values CommandLine (u.1 ∷ [])) (row_of_use u ∷ []) (map row_of_use done) none ∙ sym (map-append row_of_use done (u ∷ []))

-- a use whose value was the last word
abbrev pub pending_use : Option (Text × Text) → Option (Text × List Text)
pending_use None = None
pending_use (Some u) = Some (u.0, u.1 ∷ [])

abbrev pub IsKnown : List Text → Option (Text × Text) → Type 0
IsKnown names None = ⊤
IsKnown names (Some u) = is_among names u.0 ≡ true

abbrev pub IsFresh : List (Text × Text) → Option (Text × Text) → Type 0
IsFresh done None = ⊤
IsFresh done (Some u) = is_used done u.0 ≡ false

abbrev pub after_use : List (Text × Text) → Option (Text × Text) → List (Text × Text)
after_use done None = done
after_use done (Some u) = done ++ u ∷ []

module _ (names : List Text) (done : List (Text × Text)) where
  pub look : (u : Text × Text) → is_among names u.0 ≡ true → arg_by_id (rules names) u.0 ≡ Some (rule u.0)
  look u known = id_is names u.0 ∙ ap (λ b. cond b (Some (rule u.0)) None) known

  settle_is : (u : Text × Text) → is_among names u.0 ≡ true → settle_fault (rules names) false (hold (map row_of_use done) (pending_use (Some u))) ≡ use_fault false (rule u.0) (u.1 ∷ []) (map row_of_use done)
  settle_is u known = ap (λ o. option_map_or (λ (a : Rule). use_fault false a (u.1 ∷ []) (map row_of_use done)) o []) (look u known)

  pub settles : (last : Option (Text × Text)) → IsKnown names last → IsFresh done last → settle_fault (rules names) false (hold (map row_of_use done) (pending_use last)) ≡ []
  settles None known fresh = refl
  settles (Some u) known fresh = settle_is u known ∙ use_passes u.0 u.1 (map row_of_use done) (row_is done u.0 ∙ fresh)

  pub fresh_from : (last : Option (Text × Text)) → IsKnown names last → settle_fault (rules names) false (hold (map row_of_use done) (pending_use last)) ≡ [] → IsFresh done last
  fresh_from None known passes = tt
  fresh_from (Some u) known passes = sym (row_is done u.0) ∙ use_is_new u.0 u.1 (map row_of_use done) (sym (settle_is u known) ∙ passes)

  pub settled_is : (last : Option (Text × Text)) → IsKnown names last → IsFresh done last → settled_rows (rules names) (pending_use last) (map row_of_use done) ≡ map row_of_use (after_use done last)
  settled_is None known fresh = refl
  settled_is (Some u) known fresh = ap (λ o. used_by_id o (u.1 ∷ []) (map row_of_use done)) (look u known) ∙ used_is u done fresh
