use Rattle.std.proofs.Common.{◌≡◌, ◌<◌, ◌++◌, List, ℕ, [], length, ap, sym, ◌∙◌, arith, drop, take, slice_index_or}
use Rattle.pot_store.specs.declared.points.Points.{Points}
use Rattle.pot_store.proofs.EntryLemmas.{same_default}
use Rattle.pot_store.proofs.GatherLemmas.{behind_whole}
use Rattle.pot_store.proofs.KnownLemmas.{gathered_few, gathered_other, gathered_seen}
use Rattle.pot_store.proofs.points.Points.gather.Goals as goal
use Rattle.pot_store.proofs.points.Points.gather.Goals.{in-Seen, in_default}

pub keep-requires-clause-few : goal.keep-requires-clause-few
keep-requires-clause-few c =
    let most = gathered_few c.args.self.now c.loop-x.x c.loop-x.shares c.loop-x.invariant in
    let few = c.requires in
    let lt = c.loop-x-test.true in
    omega (arith, most, few, lt)

pub loop-x-preserved : goal.loop-x-preserved
loop-x-preserved c =
    let s : Points = c.args.self.now in
    let x : ℕ = c.loop-x.x in
    let few = c.requires in
    let lt = c.loop-x-test.true in
    let many = s.blocks_long in
    let within : x < length s.blocks.items = omega (arith, few, lt, many) in
    elim c.match-known.branch [
      | in-Seen w ↦
          let block : List ℕ = w.index.result.now in
          let is : block ≡ slice_index_or s.blocks.items x [] =
          w.index.ensures ∙ (ap (λ m. slice_index_or s.blocks.items m block) w.from.ensures ∙ same_default s.blocks.items x block [] within) in
          gathered_seen s x c.loop-x.shares c.loop-x.invariant c.match-known.shares (sym c.known.ensures ∙ w.in-Seen.is)
          (ap (λ r. r.points.items) w.shares-is ∙ w.keep.ensures.points)
          (ap (λ r. r.rows.items) w.shares-is
          ∙ (w.keep.ensures.rows
          ∙ ap (λ b. c.loop-x.shares.rows.items ++ b) (ap (λ b. take 992 (drop 32 b)) w.bytes.ensures.value ∙ (behind_whole 32 992 block w.bytes.ensures.len ∙ ap (drop 32) is))))
      | in_default w ↦ gathered_other s x c.loop-x.shares c.loop-x.invariant c.match-known.shares w.shares-is (λ e. w.in_default.not-Seen (c.known.ensures ∙ e))
    ]
