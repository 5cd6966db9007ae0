use Rattle.std.proofs.Common.{arith, refl}
use Rattle.pot_shared.proofs.BlindLemmas.{blinds_mends}
use Rattle.pot_mend.proofs.PlaceLemmas.{passed_fits, repairs_fails, repairs_fills, repairs_odd, repairs_stuck, repairs_whole}
use Rattle.pot_mend.proofs.repairing.repair_place.Goals as goal

pub returns-in-Whole-clause-repairs : goal.returns-in-Whole-clause-repairs
returns-in-Whole-clause-repairs g c =
    repairs_whole _ _ _ _ _ _ _ c.requires.place.0 _ _ c.requires.ready _ c.mend_place-mending.ensures.mended _ refl c.in-Whole.is refl

pub returns-in-Whole-clause-blinds : goal.returns-in-Whole-clause-blinds
returns-in-Whole-clause-blinds g c = blinds_mends c.mend_place-mending.ensures.mended

pub overflow_add-repaired : goal.overflow_add-repaired
overflow_add-repaired g c =
    let fits = passed_fits _ _ _ _ _ _ _ c.requires.place.0 _ _ c.requires.ready _ c.mend_place-mending.ensures.mended in
    omega (arith, fits)

pub returns-in-TwoGone-clause-repairs : goal.returns-in-TwoGone-clause-repairs
returns-in-TwoGone-clause-repairs g c =
    repairs_stuck _ _ _ _ _ _ _ c.requires.place.0 _ _ c.requires.ready _ c.mend_place-mending.ensures.mended _ refl _ _ c.in-TwoGone.is refl

pub returns-in-TwoGone-clause-blinds : goal.returns-in-TwoGone-clause-blinds
returns-in-TwoGone-clause-blinds g c = blinds_mends c.mend_place-mending.ensures.mended

pub overflow_add-repaired-in-Odd : goal.overflow_add-repaired-in-Odd
overflow_add-repaired-in-Odd g c =
    let fits = passed_fits _ _ _ _ _ _ _ c.requires.place.0 _ _ c.requires.ready _ c.mend_place-mending.ensures.mended in
    omega (arith, fits)

pub returns-in-Odd-clause-repairs : goal.returns-in-Odd-clause-repairs
returns-in-Odd-clause-repairs g c =
    repairs_odd _ _ _ _ _ _ _ c.requires.place.0 _ _ c.requires.ready _ c.mend_place-mending.ensures.mended _ refl _ _ c.in-Odd.is refl

pub returns-in-Odd-clause-blinds : goal.returns-in-Odd-clause-blinds
returns-in-Odd-clause-blinds g c = blinds_mends c.mend_place-mending.ensures.mended

pub returns-in-Faulted-clause-repairs : goal.returns-in-Faulted-clause-repairs
returns-in-Faulted-clause-repairs g c =
    repairs_fails _ _ _ _ _ _ _ c.requires.place.0 _ _ c.requires.ready _ c.mend_place-mending.ensures.mended _ c.in-Faulted.is

pub returns-in-Faulted-clause-blinds : goal.returns-in-Faulted-clause-blinds
returns-in-Faulted-clause-blinds g c = blinds_mends c.mend_place-mending.ensures.mended

pub returns-in-LogFull-clause-repairs : goal.returns-in-LogFull-clause-repairs
returns-in-LogFull-clause-repairs g c =
    repairs_fills _ _ _ _ _ _ _ c.requires.place.0 _ _ c.requires.ready _ c.mend_place-mending.ensures.mended c.in-LogFull.is

pub returns-in-LogFull-clause-blinds : goal.returns-in-LogFull-clause-blinds
returns-in-LogFull-clause-blinds g c = blinds_mends c.mend_place-mending.ensures.mended
