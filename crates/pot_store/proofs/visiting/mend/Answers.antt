use Rattle.std.proofs.Common.{IsTrue}
use Rattle.pot_store.specs.Visits.{came_to}
use Rattle.pot_shared.proofs.BlindLemmas.{blinds_mends}
use Rattle.pot_store.proofs.BlindLemmas.{blinds_again}
use Rattle.pot_store.proofs.MendLemmas.{mended_barred, mended_failed, mended_odd, mended_stuck, mended_whole}
use Rattle.pot_store.proofs.visiting.mend.Goals as goal

pub returns-in-Whole-clause-mends : goal.returns-in-Whole-clause-mends
returns-in-Whole-clause-mends g c =
    mended_whole (IsTrue g.A.Archive.account.tells) c.args.caller.now.vault.now.rack c.args.caller.now.vault.now.groups c.args.caller.now.job c.args.place c.args.pads.now c.mend_place.new.pads c.requires.place.0 c.mend_place.result c.args.passes.now.groups c.mend_place.new.passes.groups c.requires.ready c.mend_place.ensures.mended
    (came_to c.look_again.result c.look_again.new.block) c.look_again.new.passes.groups c.in-Whole.is c.look_again.ensures.looks

pub returns-in-TwoGone-clause-mends : goal.returns-in-TwoGone-clause-mends
returns-in-TwoGone-clause-mends g c =
    mended_stuck (IsTrue g.A.Archive.account.tells) c.args.caller.now.vault.now.rack c.args.caller.now.vault.now.groups c.args.caller.now.job c.args.place c.args.pads.now c.mend_place.new.pads c.requires.place.0 c.mend_place.result c.args.passes.now.groups c.mend_place.new.passes.groups c.requires.ready c.mend_place.ensures.mended
    c.in-TwoGone.first c.in-TwoGone.second c.in-TwoGone.is

pub returns-in-Odd-clause-mends : goal.returns-in-Odd-clause-mends
returns-in-Odd-clause-mends g c =
    mended_odd (IsTrue g.A.Archive.account.tells) c.args.caller.now.vault.now.rack c.args.caller.now.vault.now.groups c.args.caller.now.job c.args.place c.args.pads.now c.mend_place.new.pads c.requires.place.0 c.mend_place.result c.args.passes.now.groups c.mend_place.new.passes.groups c.requires.ready c.mend_place.ensures.mended
    c.in-Odd.wanted c.in-Odd.found c.in-Odd.is

pub returns-in-Faulted-clause-mends : goal.returns-in-Faulted-clause-mends
returns-in-Faulted-clause-mends g c =
    mended_failed (IsTrue g.A.Archive.account.tells) c.args.caller.now.vault.now.rack c.args.caller.now.vault.now.groups c.args.caller.now.job c.args.place c.args.pads.now c.mend_place.new.pads c.requires.place.0 c.mend_place.result c.args.passes.now.groups c.mend_place.new.passes.groups c.requires.ready c.mend_place.ensures.mended
    c.in-Faulted.column c.in-Faulted.is

pub returns-in-LogFull-clause-mends : goal.returns-in-LogFull-clause-mends
returns-in-LogFull-clause-mends g c =
    mended_barred (IsTrue g.A.Archive.account.tells) c.args.caller.now.vault.now.rack c.args.caller.now.vault.now.groups c.args.caller.now.job c.args.place c.args.pads.now c.mend_place.new.pads c.requires.place.0 c.mend_place.result c.args.passes.now.groups c.mend_place.new.passes.groups c.requires.ready c.mend_place.ensures.mended
    c.in-LogFull.is

pub returns-in-Whole-clause-blinds : goal.returns-in-Whole-clause-blinds
returns-in-Whole-clause-blinds g c = blinds_again c.mend_place.ensures.mended c.look_again.ensures.looks

pub returns-in-TwoGone-clause-blinds : goal.returns-in-TwoGone-clause-blinds
returns-in-TwoGone-clause-blinds g c = blinds_mends c.mend_place.ensures.mended

pub returns-in-Odd-clause-blinds : goal.returns-in-Odd-clause-blinds
returns-in-Odd-clause-blinds g c = blinds_mends c.mend_place.ensures.mended

pub returns-in-Faulted-clause-blinds : goal.returns-in-Faulted-clause-blinds
returns-in-Faulted-clause-blinds g c = blinds_mends c.mend_place.ensures.mended

pub returns-in-LogFull-clause-blinds : goal.returns-in-LogFull-clause-blinds
returns-in-LogFull-clause-blinds g c = blinds_mends c.mend_place.ensures.mended
