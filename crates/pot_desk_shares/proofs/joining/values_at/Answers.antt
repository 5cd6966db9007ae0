use Rattle.std.proofs.Common.{◌++◌, ◌∷◌, [], ℕ, List, ap, ◌∙◌, arith}
use Rattle.std.proofs.lemmas.Option.{get_or_from_slice_get}
use Rattle.pot_desk_shares.specs.declared.share.DeskShare.{DeskShare}
use Rattle.pot_desk_shares.proofs.FindLemmas.{nobody, rows_more}
use Rattle.pot_desk_shares.proofs.joining.values_at.Goals as goal
use Rattle.pot_desk_shares.proofs.joining.values_at.Goals.{in-Some+in_ok-extend_from_slice-in-Some, in-None}

pub loop-i-preserved : goal.loop-i-preserved
loop-i-preserved c =
    let shares = c.args.shares.now in
    elim c.match-find_share.branch [
      | in-Some+in_ok-extend_from_slice-in-Some w ↦
          let found = w.in-Some.ensures in
          let s = found.0 in
          let body = ap (λ (z : DeskShare). z.body.now) (get_or_from_slice_get shares w.in-Some.at s nobody found.1) in
          let new = ap (λ z. z.items) w.values-is ∙ w.in_ok-extend_from_slice-in-Some.ensures.items ∙ ap (λ (z : List ℕ). c.loop-i.values.items ++ z) body in (
            c.loop-i.invariant.0 ++ s ∷ [],
            rows_more shares c.args.head.now c.loop-i.invariant.0 c.args.points.now c.loop-i.values.items _ c.loop-i.i s c.loop-i.invariant.1
                (omega (arith, c.loop-i-test.true)) found.2 found.3 new,
          )
      | in-None w ↦ absurd (w.in-None.ensures (c.requires c.loop-i.i (omega (arith, c.loop-i-test.true))))
    ]
