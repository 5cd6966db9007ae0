-- The points of a fragment, one after another: how many were seen, and their shares.
use Rattle.std.proofs.Common.{◌≡◌, ◌≢◌, ◌≤◌, ℕ, ◌+◌, List, [], ◌∷◌, ◌++◌, length, ap, sym, ◌∙◌, arith, append-nil, drop, slice_index_or}
use Rattle.std.specs.Prelude.{Some, None}
use Rattle.pot_machine.specs.Table.{count}
use Rattle.pot_machine.proofs.Searches.{count_most}
use Rattle.pot_replies.specs.Joined.{Read, point_in, share_in, points_read, shares_read}
use Rattle.pot_store.specs.declared.points.Points.{Points}
use Rattle.pot_store.specs.declared.shares.Shares.{Shares}
use Rattle.pot_store.specs.declared.visiting.Point.{Point}
use Rattle.pot_store.specs.declared.visiting.Point.TheVariants as point
use Rattle.pot_store.specs.Visits.{came_of, was_seen, block_in}
use Rattle.pot_store.specs.Points.{came_in, AreGathered}
use Rattle.pot_store.proofs.NoteLemmas.{count_more, no_block, not_seen, points_count, points_more, shares_more}
use Rattle.pot_shared.proofs.Times.{one_if}

-- no more than all were seen
pub seen_most : (n : ℕ) (s : Points) → count n (λ y. was_seen (came_in s y)) ≤ n
seen_most n s = count_most n (λ y. was_seen (came_in s y))

module _ (s : Points) (x : ℕ) where
  abbrev known : Point
  known = slice_index_or s.known.items x point.Unknown

  abbrev block : List ℕ
  block = slice_index_or s.blocks.items x []

  abbrev read : Read
  read y = block_in (came_in s y)

  -- a point more that was seen, and one that was not
  pub count_seen : known ≡ point.Seen → count (x + 1) (λ y. was_seen (came_in s y)) ≡ count x (λ y. was_seen (came_in s y)) + 1
  count_seen is = count_more x (λ y. was_seen (came_in s y)) ∙ ap (λ p. count x (λ y. was_seen (came_in s y)) + one_if (was_seen (came_of p block))) is

  pub count_other : known ≢ point.Seen → count (x + 1) (λ y. was_seen (came_in s y)) ≡ count x (λ y. was_seen (came_in s y))
  count_other other =
      let more = count_more x (λ y. was_seen (came_in s y)) in
      let none = ap one_if (not_seen known block other) in
      omega (arith, more, none)

  module _ (old : Shares) (sofar : AreGathered x s old) where
    pub gathered_few : length old.points.items ≤ x
    gathered_few = (let a = ap length sofar.0 in let b = points_count (came_in s) x in let c = seen_most x s in omega (arith, a, b, c))

    pub gathered_seen : (new : Shares) → known ≡ point.Seen → new.points.items ≡ old.points.items ++ (x + 1) ∷ [] → new.rows.items ≡ old.rows.items ++ drop 32 block → AreGathered (x + 1) s new
    gathered_seen new is points rows =
        let has : read x ≡ Some block = ap (λ p. block_in (came_of p block)) is in (
          points ∙ (ap (λ l. l ++ (x + 1) ∷ []) sofar.0 ∙ (ap (λ o. points_read x read ++ point_in x o) (sym has) ∙ sym (points_more x read))),
          rows ∙ (ap (λ l. l ++ drop 32 block) sofar.1 ∙ (ap (λ o. shares_read x read ++ share_in o) (sym has) ∙ sym (shares_more x read))),
        )

    pub gathered_other : (new : Shares) → new ≡ old → known ≢ point.Seen → AreGathered (x + 1) s new
    gathered_other new same other =
        let none : read x ≡ None = no_block (came_in s x) (not_seen known block other) in (
          ap (λ (r : Shares). r.points.items) same
              ∙ (sofar.0 ∙ (sym (append-nil (points_read x read)) ∙ (ap (λ o. points_read x read ++ point_in x o) (sym none) ∙ sym (points_more x read)))),
          ap (λ (r : Shares). r.rows.items) same
              ∙ (sofar.1 ∙ (sym (append-nil (shares_read x read)) ∙ (ap (λ o. shares_read x read ++ share_in o) (sym none) ∙ sym (shares_more x read)))),
        )
