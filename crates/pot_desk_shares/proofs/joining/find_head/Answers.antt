use Rattle.std.proofs.Common.{IsTrue, false, get_or, ap, sym, subst, ◌∙◌}
use Rattle.std.proofs.lemmas.Option.{get_or_from_slice_get}
use Rattle.pot_desk_shares.specs.declared.share.DeskShare.{DeskShare}
use Rattle.pot_desk_shares.specs.Joins.{IsShareWhole}
use Rattle.pot_desk_shares.proofs.FindLemmas.{heads_differ, nobody, not_here}
use Rattle.pot_desk_shares.proofs.joining.find_head.Goals as goal
use Rattle.pot_desk_shares.proofs.joining.find_head.Goals.{else-eq-via-then-eq+else-is_whole, else-eq-via-else-eq}

pub loop-at-preserved : goal.loop-at-preserved
loop-at-preserved c =
    not_here c.args.shares.now c.args.wanted.now c.loop-at.at c.loop-at.invariant
    (λ s has. elim c.else-eq.branch [
      | else-eq-via-then-eq+else-is_whole w ↦
          let yes : IsTrue false =
          w.if-is_whole.ensures.1 (subst IsShareWhole (sym (get_or_from_slice_get c.args.shares.now c.loop-at.at s _ has.there)) has.whole) in
          cc
      | else-eq-via-else-eq w ↦
          heads_differ (get_or c.args.shares.now c.loop-at.at nobody).head c.args.wanted.now w.if-eq.ensures
          (ap (λ (z : DeskShare). z.head) (get_or_from_slice_get c.args.shares.now c.loop-at.at s nobody has.there) ∙ has.head)
    ])
