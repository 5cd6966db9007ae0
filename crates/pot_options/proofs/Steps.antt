-- One word of clap's walk.
use Rattle.std.proofs.Common.{◌≡◌, ◌∙◌, ℕ, cond, true, false, refl, ap, List, [], ◌∷◌, Option, Some, None}
use Rattle.clap.specs.Words.{Row, Rule}
use Rattle.clap.specs.Walk.{Text, Held, Walk, Waiting, idle, option, positional, Step, arg_by_long, after_flag, after_step, long_met, walked, settled_rows, used}
use Rattle.std.specs.Option.{option_map_or}
use Rattle.clap.specs.Lexer.{name_and_value}
use Rattle.clap.specs.Kinds.{Kinds, or_else}
use Rattle.clap.specs.Faults.{turn_fault, step_fault, long_fault, settle_fault, use_fault}
use Rattle.clap.specs.declared.error.kind.ErrorKind.TheVariants as kind
use Rattle.pot_options.specs.Options.{is_among}
use Rattle.pot_options.proofs.Names.{rule, rules, id_is}
use Rattle.pot_options.proofs.Built.{shape}

pub nothing_after : (a : Kinds) → or_else a [] ≡ a
nothing_after [] = refl
nothing_after (k ∷ ks) = refl

pub both_none : (a b : Kinds) → or_else a b ≡ [] → (a ≡ []) × (b ≡ [])
both_none [] b e = (refl, e)
both_none (k ∷ ks) b e = (e, absurd (cc))

abbrev pub hold : List Row → Option (Text × List Text) → Held
hold rows p = record { rows = rows; pending = p; skip = 0 }

abbrev pub at : List Row → Option (Text × List Text) → Waiting → Walk
at rows p w = record { held = hold rows p; waiting = w; position = 1; is_trailing = false; stopped = None }

module _ (names : List Text) (rows : List Row) (p : Option (Text × List Text)) where
  -- what the walk makes of a word `--..`
  abbrev long_step : Waiting → Text → Option Rule → Option Text → Held × Step
  long_step w word r x = after_flag (rules names) w word (long_met (rules names) r x (hold rows p)).0 (long_met (rules names) r x (hold rows p)).1

  abbrev long_turn : Waiting → Text → Option Rule → Option Text → Kinds
  long_turn w word r x = or_else (long_fault (rules names) false r x (hold rows p)) (step_fault (shape names) 1 (long_step w word r x).0 (long_step w word r x).1)

  abbrev long_walk : Waiting → Text → Option Rule → Option Text → Walk
  long_walk w word r x = after_step (rules names) word (at rows p w) (long_step w word r x).0 (long_step w word r x).1

  turn_is : (w : Waiting) (y : ℕ) (ys : Text) (n : Text) (x : Option Text) (r : Option Rule) → name_and_value (y ∷ ys) ≡ (n, x) → arg_by_long (rules names) n ≡ r
      → turn_fault (shape names) [] (at rows p w) (45 ∷ 45 ∷ y ∷ ys) ≡ long_turn w (45 ∷ 45 ∷ y ∷ ys) r x
  turn_is idle y ys n x r cut look = ap (λ (q : Text × Option Text). long_turn idle (45 ∷ 45 ∷ y ∷ ys) (arg_by_long (rules names) q.0) q.1) cut ∙ ap (λ o. long_turn idle (45 ∷ 45 ∷ y ∷ ys) o x) look
  turn_is (option id) y ys n x r cut look = ap (λ (q : Text × Option Text). long_turn (option id) (45 ∷ 45 ∷ y ∷ ys) (arg_by_long (rules names) q.0) q.1) cut ∙ ap (λ o. long_turn (option id) (45 ∷ 45 ∷ y ∷ ys) o x) look
  turn_is positional y ys n x r cut look = ap (λ (q : Text × Option Text). long_turn positional (45 ∷ 45 ∷ y ∷ ys) (arg_by_long (rules names) q.0) q.1) cut ∙ ap (λ o. long_turn positional (45 ∷ 45 ∷ y ∷ ys) o x) look

  walk_is : (y : ℕ) (ys : Text) (n : Text) (x : Option Text) (r : Option Rule) → name_and_value (y ∷ ys) ≡ (n, x) → arg_by_long (rules names) n ≡ r
      → walked (rules names) [] (at rows p idle) (45 ∷ 45 ∷ y ∷ ys) ≡ long_walk idle (45 ∷ 45 ∷ y ∷ ys) r x
  unfolding walked
  walk_is y ys n x r cut look = ap (λ (q : Text × Option Text). long_walk idle (45 ∷ 45 ∷ y ∷ ys) (arg_by_long (rules names) q.0) q.1) cut ∙ ap (λ o. long_walk idle (45 ∷ 45 ∷ y ∷ ys) o x) look

  pub asks_fault : (y : ℕ) (ys n : Text) → name_and_value (y ∷ ys) ≡ (n, None) → arg_by_long (rules names) n ≡ Some (rule n) → (w : Waiting)
      → turn_fault (shape names) [] (at rows p w) (45 ∷ 45 ∷ y ∷ ys) ≡ settle_fault (rules names) false (hold rows p)
  asks_fault y ys n cut look w = turn_is w y ys n None (Some (rule n)) cut look ∙ nothing_after _

  pub asks_walk : (y : ℕ) (ys n : Text) → name_and_value (y ∷ ys) ≡ (n, None) → arg_by_long (rules names) n ≡ Some (rule n)
      → walked (rules names) [] (at rows p idle) (45 ∷ 45 ∷ y ∷ ys) ≡ at (settled_rows (rules names) p rows) (Some (n, [])) (option n)
  asks_walk y ys n cut look = walk_is y ys n None (Some (rule n)) cut look

  pub gives_fault : (y : ℕ) (ys n v : Text) → name_and_value (y ∷ ys) ≡ (n, Some v) → arg_by_long (rules names) n ≡ Some (rule n) → (w : Waiting)
      → turn_fault (shape names) [] (at rows p w) (45 ∷ 45 ∷ y ∷ ys) ≡ or_else (settle_fault (rules names) false (hold rows p)) (use_fault false (rule n) (v ∷ []) (settled_rows (rules names) p rows))
  gives_fault y ys n v cut look w = turn_is w y ys n (Some v) (Some (rule n)) cut look ∙ nothing_after _

  pub gives_walk : (y : ℕ) (ys n v : Text) → name_and_value (y ∷ ys) ≡ (n, Some v) → arg_by_long (rules names) n ≡ Some (rule n)
      → walked (rules names) [] (at rows p idle) (45 ∷ 45 ∷ y ∷ ys) ≡ at (used (rule n) (v ∷ []) (settled_rows (rules names) p rows)) None idle
  gives_walk y ys n v cut look = walk_is y ys n (Some v) (Some (rule n)) cut look

  pub unknown_fault : (y : ℕ) (ys n : Text) (x : Option Text) → name_and_value (y ∷ ys) ≡ (n, x) → arg_by_long (rules names) n ≡ None → (w : Waiting)
      → turn_fault (shape names) [] (at rows p w) (45 ∷ 45 ∷ y ∷ ys) ≡ kind.UnknownArgument ∷ []
  unknown_fault y ys n x cut look w = turn_is w y ys n x None cut look

-- an option that has no value yet does not settle
pub asked_fault : (names : List Text) (rows : List Row) (n : Text) → is_among names n ≡ true → settle_fault (rules names) false (hold rows (Some (n, []))) ≡ kind.InvalidValue ∷ []
asked_fault names rows n known = ap (λ o. option_map_or (λ (a : Rule). use_fault false a [] rows) o []) (id_is names n ∙ ap (λ b. cond b (Some (rule n)) None) known)
