-- Clap's own words of the command against the walk.
use Rattle.std.proofs.Common.{◌≡◌, inl, inr, append-nil, ◌∙◌, Bool, true, false, not, refl, sym, ap, ap₂, subst, List, [], ◌∷◌, ◌++◌, map, Option, Some, None, bytes_eq, true≢false, ◌&&◌, fold}
use Rattle.std.specs.List.{list_any}
use Rattle.std.proofs.lemmas.Bool.{and_parts, or_from}
use Rattle.clap.specs.Words.{App, HasMatchesOf, Row, Rule, found_of, kind_of, matches_of, rows_of}
use Rattle.clap.specs.declared.error.Error.{Error}
use Rattle.clap.specs.declared.error.kind.ErrorKind.TheVariants.{OutOfMemory}
use Rattle.clap.specs.declared.parser.matches.ArgMatches.{ArgMatches}
use Rattle.clap.specs.Walk.{Text, Walk, walked, settled, with_default, has_row, finished}
use Rattle.clap.specs.Simple.{entered}
use Rattle.clap.specs.Kinds.{HasKind, Kinds, or_else}
use Rattle.clap.specs.Takes.{is_given}
use Rattle.clap.specs.Faults.{is_simple_and_free, fault_of, built_fault, entered_fault, level_fault, walk_fault, settle_fault, defaults_fault, default_fault, check_fault}
use Rattle.pot_options.specs.Options.{AreNewOptions, AreSpelled, AreUnhyphened, AreOptionNames, IsOptionName, AreOptionsRead, IsUnread, SpellUses, has_delimiter, dashed}
use Rattle.pot_options.specs.Apps.{HasUses, options_app, row_of_use, uses_of, use_of_row}
use Rattle.pot_options.proofs.Names.{rule, rules}
use Rattle.pot_options.proofs.Built.{shape, built_is, simple_and_free}
use Rattle.pot_options.proofs.Steps.{nothing_after}
use Rattle.pot_options.proofs.Walks.{fault_from, rows_from, start, forward}
use Rattle.pot_options.proofs.Takes.{backward, known_name, unhyphened_word}

abbrev built_app : List Text → App
built_app names = record { top = shape names; subs = [] }

enters_nothing : (names : List Text) (stop : Option (Text × List Text)) → (entered (built_app names) stop ≡ None) × (entered_fault (built_app names) stop ≡ [])
enters_nothing names None = (refl, refl)
enters_nothing names (Some p) = (refl, refl)

no_default : (rows : List Row) (n : Text) → (default_fault rows (rule n) ≡ []) × (with_default rows (rule n) ≡ rows)
no_default rows n = go (has_row n rows) refl
  where
    go : (b : Bool) → has_row n rows ≡ b → (default_fault rows (rule n) ≡ []) × (with_default rows (rule n) ≡ rows)
    go true e = (rw e refl, rw e refl)
    go false e = (rw e refl, rw e refl)

no_defaults : (rows : List Row) (names : List Text) → defaults_fault rows (rules names) ≡ []
unfolding defaults_fault
no_defaults rows [] = refl
no_defaults rows (n ∷ ns) = ap₂ or_else (no_default rows n).0 (ap (λ (rs : List Row). defaults_fault rs (rules ns)) (no_default rows n).1 ∙ no_defaults rows ns)

all_defaults : (rows : List Row) (names : List Text) → fold with_default rows (rules names) ≡ rows
all_defaults rows [] = refl
all_defaults rows (n ∷ ns) = ap (λ (rs : List Row). fold with_default rs (rules ns)) (no_default rows n).1 ∙ all_defaults rows ns

none_required : (rows : List Row) (names : List Text) → list_any (λ (a : Rule). a.required && not (is_given a.id rows)) (rules names) ≡ false
none_required rows [] = refl
none_required rows (n ∷ ns) = none_required rows ns

no_check : (rows : List Row) (names : List Text) → check_fault (shape names) rows false ≡ []
no_check rows names = rw (none_required rows names) refl

pub fault_is : (names : List Text) (words : List Text) → fault_of (options_app names) words ≡ fault_from names (start [] None) words
fault_is names words =
    let w : Walk = start [] None in
    let stop = (fold (walked (rules names) []) w words).stopped in
    let held = (fold (walked (rules names) []) w words).held in
    let e = enters_nothing names stop in
    ap (λ (b : App). built_fault b w.held words) (built_is names)
    ∙ ap₂ (λ (o : Option (Text × List Row)) (below : Kinds). level_fault (shape names) [] w.held words (Rattle.std.specs.Option.is_some o) below) e.0 e.1
    ∙ ap₂ (λ (d : Kinds) (k : Kinds). or_else (walk_fault (shape names) [] w words) (or_else (settle_fault (rules names) false held) (or_else d k)))
    (no_defaults (settled (rules names) held).rows names) (no_check (finished (rules names) held) names)
    ∙ ap (or_else (walk_fault (shape names) [] w words)) (nothing_after (settle_fault (rules names) false held))

pub rows_are : (names : List Text) (words : List Text) → matches_of (options_app names) words ≡ rows_from names (start [] None) words
rows_are names words =
    ap (λ (b : App). Rattle.clap.specs.Walk.rows_after b.top.rules (Rattle.clap.specs.Simple.names_of b) words) (built_is names)
    ∙ all_defaults (rows_from names (start [] None) words) names

-- the matches of words that clap takes
pub spelled_from : (names : List Text) (words : List Text) → has_delimiter words ≡ false → fault_of (options_app names) words ≡ []
    → (uses : List (Text × Text)) × AreSpelled uses words × AreNewOptions names [] uses × (matches_of (options_app names) words ≡ map row_of_use uses)
spelled_from names words bares none =
    let r = forward names words [] None tt bares (sym (fault_is names words) ∙ none) in
    (r.1, r.2, r.3, rows_are names words ∙ r.4)

-- words that spell uses are taken
pub taken_if_spelled : (names : List Text) (words : List Text) (uses : List (Text × Text)) → AreOptionNames names → AreSpelled uses words → AreUnhyphened uses → AreNewOptions names [] uses
    → (fault_of (options_app names) words ≡ []) × (matches_of (options_app names) words ≡ map row_of_use uses)
taken_if_spelled names words uses are spelled unhyphened new =
    let t = backward names are uses words spelled unhyphened [] None tt tt new in
    (fault_is names words ∙ t.0, rows_are names words ∙ t.1)

not_delimiter : (n t : Text) → IsOptionName n → bytes_eq (dashed n ++ t) (45 ∷ 45 ∷ []) ≡ false
not_delimiter [] t name = absurd name
not_delimiter (y ∷ ys) t name = refl

pub spelled_without_delimiter : (names : List Text) → AreOptionNames names → (uses : List (Text × Text)) (words : List Text) (before : List (Text × Text)) → AreSpelled uses words → AreUnhyphened uses → AreNewOptions names before uses
    → has_delimiter words ≡ false
spelled_without_delimiter names are [] words before spelled unhyphened new = ap has_delimiter spelled
spelled_without_delimiter names are (u ∷ others) words before (left, rest, inl is) unhyphened new =
    let name = known_name names u.0 are new.0 in
    ap has_delimiter is ∙ or_from _ _ (ap (λ (t : Text). bytes_eq t (45 ∷ 45 ∷ [])) (sym (append-nil (dashed u.0))) ∙ not_delimiter u.0 [] name)
    (or_from _ _ (unhyphened_word u.1 unhyphened.0).0 (spelled_without_delimiter names are others left (before ++ u ∷ []) rest unhyphened.1 new.2))
spelled_without_delimiter names are (u ∷ others) words before (left, rest, inr is) unhyphened new =
    ap has_delimiter is ∙ or_from _ _ (not_delimiter u.0 (61 ∷ u.1) (known_name names u.0 are new.0)) (spelled_without_delimiter names are others left (before ++ u ∷ []) rest unhyphened.1 new.2)

pub simple_at : (names : List Text) (a : App) → a ≡ options_app names → is_simple_and_free a ≡ true
simple_at names a is = ap is_simple_and_free is ∙ simple_and_free names

-- the uses come back from their entries
uses_back : (uses : List (Text × Text)) → map use_of_row (map row_of_use uses) ≡ uses
uses_back [] = refl
uses_back (u ∷ others) = ap (λ (us : List (Text × Text)). u ∷ us) (uses_back others)

pub uses_are : (m : ArgMatches) (uses : List (Text × Text)) → HasUses m uses → uses_of m ≡ uses
uses_are m uses has = ap (map use_of_row) has ∙ uses_back uses

pub has_own_uses : (m : ArgMatches) (uses : List (Text × Text)) → HasUses m uses → HasUses m (uses_of m)
has_own_uses m uses has = has ∙ ap (map row_of_use) (sym (uses_are m uses has))

-- what clap's clauses at `Ok` and at `Err` say
pub read_of : (names words : List Text) (a : App) (m : ArgMatches) → a ≡ options_app names → AreOptionNames names → has_delimiter words ≡ false
    → (is_simple_and_free a ≡ true → fault_of a words ≡ []) → HasMatchesOf a words m → HasUses m (uses_of m) × AreOptionsRead names words (uses_of m)
read_of names words a m is are bares passes matches =
    let free = simple_at names a is in
    let none : fault_of (options_app names) words ≡ [] = ap (λ (b : App). fault_of b words) (sym is) ∙ passes free in
    let found : rows_of (found_of m) ≡ matches_of (options_app names) words = (matches (and_parts _ _ free).0).0 ∙ ap (λ (b : App). matches_of b words) is in
    let r = spelled_from names words bares none in (
      has_own_uses m r.0 (found ∙ r.3),
      (
        subst (SpellUses names words) (sym (uses_are m r.0 (found ∙ r.3))) (r.1, r.2),
        λ uses spell unhyphened. uses_are m uses (found ∙ (taken_if_spelled names words uses are spell.0 unhyphened spell.1).1),
      ),
    )

pub unread_of : (names words : List Text) (a : App) (e : Error) → a ≡ options_app names → AreOptionNames names
    → (is_simple_and_free a ≡ true → HasKind (fault_of a words) e) → (kind_of e ≡ OutOfMemory → ⊥) → IsUnread names words
unread_of names words a e is are fails known uses spell unhyphened =
    let none : fault_of a words ≡ [] = ap (λ (b : App). fault_of b words) is ∙ (taken_if_spelled names words uses are spell.0 unhyphened spell.1).0 in
    elim (subst (λ (ks : Kinds). HasKind ks e) none (fails (simple_at names a is))) [
      | inl memory ↦ known memory
      | inr among ↦ among
    ]

pub unread_delimiter : (names words : List Text) → AreOptionNames names → has_delimiter words ≡ true → IsUnread names words
unread_delimiter names words are bare uses spell unhyphened = true≢false (sym bare ∙ spelled_without_delimiter names are uses words [] spell.0 unhyphened spell.1)
