use Rattle.std.proofs.Common.{sym, subst}
use Rattle.crossbeam_queue.specs.Passes.{view}
use Rattle.pot_work.specs.Works.{ArePlaced}
use Rattle.pot_work.proofs.Places.{all_placed, works_within}
use Rattle.pot_work.proofs.working.work_what_is_left.Goals as goal

pub place_finished-requires : goal.place_finished-requires
place_finished-requires g c = record { within = works_within _ _ _ _ _ c.work_until_empty.ensures.worked.each c.requires.placed.count }

pub returns : goal.returns
returns g c =
    let worked = c.work_until_empty.ensures.worked in
    let placed = c.place_finished.ensures _ _ c.requires.placed worked.each in
    record {
      placed = all_placed _ _ _ _ _ (subst (λ ps. ArePlaced g.J.Job.done g.J.Job.related (view c.args.claim).jobs ps c.place_finished.new.places.items) (sym worked.taken) placed)
          (λ p lt. c.work_until_empty.ensures.all c.requires.all p lt);
    }
