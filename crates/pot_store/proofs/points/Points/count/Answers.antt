use Rattle.std.proofs.Common.{◌+◌, ap, sym, ◌∙◌, arith}
use Rattle.pot_machine.proofs.Searches.{count_zero}
use Rattle.pot_store.specs.Visits.{was_seen}
use Rattle.pot_store.specs.Points.{came_in}
use Rattle.pot_store.proofs.KnownLemmas.{count_other, count_seen, seen_most}
use Rattle.pot_store.proofs.points.Points.count.Goals as goal
use Rattle.pot_store.proofs.points.Points.count.Goals.{in-Seen, in_default}

pub loop-x-init : goal.loop-x-init
loop-x-init c = sym (count_zero (λ y. was_seen (came_in c.args.self.now y)))

pub overflow_add-seen : goal.overflow_add-seen
overflow_add-seen c =
    let most = seen_most c.loop-x.x c.args.self.now in
    let is = c.loop-x.invariant in
    let few = c.requires in
    let lt = c.loop-x-test.true in
    omega (arith, most, is, few, lt)

pub loop-x-preserved : goal.loop-x-preserved
loop-x-preserved c = elim c.match-known.branch [
  | in-Seen w ↦ w.seen-is ∙ (ap (λ m. m + 1) c.loop-x.invariant ∙ sym (count_seen c.args.self.now c.loop-x.x (sym c.known.ensures ∙ w.in-Seen.is)))
  | in_default w ↦ w.seen-is ∙ (c.loop-x.invariant ∙ sym (count_other c.args.self.now c.loop-x.x (λ e. w.in_default.not-Seen (c.known.ensures ∙ e))))
]
