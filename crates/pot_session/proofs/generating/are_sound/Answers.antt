use Rattle.std.proofs.Common.{arith}
use Rattle.pot_doubles.specs.Rooms.{means_in}
use Rattle.pot_session.proofs.GenerateLemmas.{sound_more}
use Rattle.pot_session.proofs.generating.are_sound.Goals as goal

pub loop-number-init : goal.loop-number-init
loop-number-init c = λ q l. absurd (omega (arith, l))

pub loop-number-preserved : goal.loop-number-preserved
loop-number-preserved c =
    let none = c.if-faults_of-gt0.false in
    let is = c.faults_of.ensures in
    sound_more (means_in c.args.room.now) c.loop-number.number c.loop-number.invariant (omega (arith, none, is))

pub returns : goal.returns
returns c = λ t n l. (let last = c.loop-number-test.false in c.loop-number.invariant n (omega (arith, l, last)))
