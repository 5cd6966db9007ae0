use Rattle.std.proofs.Common.{◌≡◌, ◌-◌, suc, ap, sym, ◌∙◌, arith, take}
use Rattle.pot_chains.specs.Steps.{end_of}
use Rattle.pot_chains.proofs.LongerLemmas.{end_of_front}
use Rattle.pot_chains.proofs.chain.Chain.end.Goals as goal

pub returns : goal.returns
returns c =
    let n = c.from.result - 1 in
    let count : suc n ≡ c.self.inside.count = omega (arith, c.from.ensures, c.self.invariant.first) in
    sym (end_of_front c.self.inside.positions n (omega (arith, count, c.self.invariant.last, c.self.invariant.all)))
    ∙ (ap (λ k. end_of (take k c.self.inside.positions)) count ∙ ap end_of c.self.view_is)
