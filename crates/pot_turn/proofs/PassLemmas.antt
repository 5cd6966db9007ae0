-- What is true of every pass stays true.
use Rattle.std.proofs.Common.{◌≡◌, ℕ, ◌+◌, ◌<◌, List, [], ◌∷◌, ◌++◌, length, refl, arith}
use Rattle.pot_turn.specs.declared.view.View.{View}
use Rattle.pot_turn.specs.Logs.{StartsWith, longer}
use Rattle.pot_turn.specs.Stretches.{stretch, between, times, LieIn}
use Rattle.pot_turn.specs.Views.{stretches_of, first_view, took_view, left_view, cut_view, new_view, both_views, IsPass}
use Rattle.pot_turn.proofs.LogLemmas.{starts_self, starts_trans, starts_length}
use Rattle.pot_turn.proofs.StretchLemmas.{times-append, lies_within, size_of-snoc, size_of-append, ascends_longer, ascends_snoc, ascends_lies, lies_longer, lies_append, lies_rest}

module _ {E O : Type 0} where
  pub pass_first : (log : List E) (origin : O) → IsPass (first_view log origin)
  pass_first log origin = record { some = omega arith; origin = refl; since = starts_self log; ascends = omega arith; lies = omega arith; made = omega arith }

module _ {E O : Type 0} (v : View E O) where
  -- a turn adds one stretch, of what came after the log seen
  pub left-times : (log : List E) (i : ℕ) → times i (stretches_of (left_view log v)) ≡ times i (stretches_of v) + between i (length v.seen) (length log)
  left-times log i =
      let own = times-append i v.turns (stretch (length v.seen) (length log) ∷ []) in
      let before = times-append i v.turns v.joined in
      let after = times-append i (v.turns ++ stretch (length v.seen) (length log) ∷ []) v.joined in
      omega (arith, own, before, after)

  -- a join brings the stretches of both together
  pub both-times : (w : View E O) (i : ℕ) → times i (stretches_of (both_views v w)) ≡ times i (stretches_of v) + times i (stretches_of w)
  both-times w i =
      let own = times-append i v.turns v.joined in
      let its = times-append i v.joined (stretches_of w) in
      let all = times-append i v.turns (v.joined ++ stretches_of w) in
      omega (arith, own, its, all)

module _ {E O : Type 0} (v : View E O) (is : IsPass v) where
  -- all of its stretches lie between the opening log and the log seen
  pub pass_lies : LieIn (length v.opened) (stretches_of v) (length v.seen)
  pass_lies = lies_append (length v.opened) v.turns v.joined (length v.seen) (ascends_lies (length v.opened) v.turns (length v.seen) is.ascends) is.lies

  -- no position past the log seen stands in one
  pub pass_within : (i : ℕ) → 0 < times i (stretches_of v) → i < length v.seen
  pass_within i some = lies_within (length v.opened) (stretches_of v) (length v.seen) i pass_lies some

  pub pass_took : (log : List E) → StartsWith log v.seen → IsPass (took_view log v)
  pass_took log grown =
      let more = starts_length log v.seen grown in
      record {
        some = is.some;
        origin = is.origin;
        since = starts_trans log v.seen v.opened grown is.since;
        ascends = ascends_longer (length v.opened) v.turns (length v.seen) (length log) more is.ascends;
        lies = lies_longer (length v.opened) v.joined (length v.seen) (length log) more is.lies;
        made = is.made;
      }

  pub pass_left : (log : List E) → StartsWith log v.seen → IsPass (left_view log v)
  pass_left log grown =
      let more = starts_length log v.seen grown in
      let size = size_of-snoc v.turns (length v.seen) (length log) in
      let made = is.made in
      record {
        some = is.some;
        origin = is.origin;
        since = starts_trans log v.seen v.opened grown is.since;
        ascends = ascends_snoc (length v.opened) v.turns (length v.seen) (length log) more is.ascends;
        lies = lies_longer (length v.opened) v.joined (length v.seen) (length log) more is.lies;
        made = omega (arith, size, made);
      }

  pub pass_cut : (n : ℕ) → n < v.parts → IsPass (cut_view n v)
  pass_cut n fewer = record { some = omega (arith, fewer); origin = is.origin; since = is.since; ascends = is.ascends; lies = is.lies; made = is.made }

  pub pass_new : (n : ℕ) → 0 < n → IsPass (new_view n v)
  pass_new n some =
      let since = starts_length v.seen v.opened is.since in
      record { some = some; origin = is.origin; since = is.since; ascends = since; lies = since; made = omega arith }

  pub pass_both : (w : View E O) → IsPass w → StartsWith (longer v.seen w.seen) v.seen → LieIn (length v.opened) (stretches_of (both_views v w)) (length (longer v.seen w.seen)) → IsPass (both_views v w)
  pass_both w its grown lies =
      let whole = longer v.seen w.seen in
      let more = starts_length whole v.seen grown in
      let size = size_of-append v.joined (w.turns ++ w.joined) in
      let size' = size_of-append w.turns w.joined in
      let made = is.made in
      let made' = its.made in
      let some = is.some in
      record {
        some = omega (arith, some);
        origin = is.origin;
        since = starts_trans whole v.seen v.opened grown is.since;
        ascends = ascends_longer (length v.opened) v.turns (length v.seen) (length whole) more is.ascends;
        lies = lies_rest (length v.opened) v.turns (v.joined ++ (w.turns ++ w.joined)) (length whole) lies;
        made = omega (arith, size, size', made, made');
      }
