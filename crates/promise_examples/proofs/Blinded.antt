-- The blinds of relays.
use Rattle.std.proofs.Common.{◌≡◌, ℕ, arith}
use Rattle.pot_promises.specs.Stretches.{BlindsOfRun, HaveStretches}
use Rattle.promise_examples.specs.Archives.{BlindsAreTwo}

pub blinds_are_two : BlindsOfRun → BlindsAreTwo
blinds_are_two law seed careful first steps room sink desk answer rules closed =
    let x = law seed careful first steps room sink desk answer rules closed 1 (omega arith) in
    let s : HaveStretches seed first.session 1 x.0 = x.2 in (x.0, x.1, record { stretches = s; two = λ one two e. zero_one (s.once 0 0 1 0 one two e).0 })
  where
    zero_one : ◌≡◌ {A = ℕ} 0 1 → ⊥
    zero_one e = omega (arith, e)
