use Rattle.std.proofs.Common.{◌≡◌, ◌+◌, Some, IsTrue, false, get_or, slice_get, refl, sym, subst, arith}
use Rattle.std.proofs.lemmas.Option.{slice_get-get_or}
use Rattle.pot_desk_shares.specs.Finding.{IsLatest, IsOfComplete}
use Rattle.pot_desk_shares.proofs.FindLemmas.{latest_more, latest_same, nobody}
use Rattle.pot_desk_shares.proofs.joining.newest_complete.Goals as goal
use Rattle.pot_desk_shares.proofs.joining.newest_complete.Goals.{then-is_newer+in_ok-is_complete+then-branch, else-is_newer, else-is_newer-via-then-is_newer+in_ok-is_complete+else-branch, else-is_newer-via-else-is_newer}

pub loop-at-preserved : goal.loop-at-preserved
loop-at-preserved c =
    let shares = c.args.shares.now in
    let at = c.loop-at.at in
    let best = c.loop-at.best in
    let s = get_or shares at nobody in
    let here : slice_get shares at ≡ Some s = slice_get-get_or shares at nobody (omega (arith, c.loop-at-test.true)) in
    elim c.if-is_newer.branch [
      | then-is_newer+in_ok-is_complete+then-branch w ↦
          subst (IsLatest shares (IsOfComplete shares) (at + 1)) (sym w.best-is)
          (latest_more shares (IsOfComplete shares) at best s c.loop-at.invariant here (w.if-is_newer.ensures.0 refl) (w.in_ok-is_complete.ensures.0 w.if-branch.true))
      | else-is_newer w ↦
          subst (IsLatest shares (IsOfComplete shares) (at + 1)) (sym w.best-is)
          (latest_same shares (IsOfComplete shares) at best s c.loop-at.invariant here
          (λ newer p. elim w.else-is_newer.branch [
            | else-is_newer-via-then-is_newer+in_ok-is_complete+else-branch w' ↦
                let yes = w'.in_ok-is_complete.ensures.1 p in
                let no = w'.if-branch.false in
                cc
            | else-is_newer-via-else-is_newer w' ↦
                let yes : IsTrue false = w'.if-is_newer.ensures.1 newer in
                cc
          ]))
    ]
