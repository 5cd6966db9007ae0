use Rattle.std.proofs.Common.{◌∙◌}
use Rattle.pot_recover.proofs.MemberLemmas.{level_is}
use Rattle.pot_recover.proofs.group.level_of.Goals as goal

pub returns-in-Ok : goal.returns-in-Ok
returns-in-Ok c = λ bits.
    level_is bits c.args.part.now _ c.in_ok-pointers.ensures (c.in-Ok.ensures ∙ (c.deref.ensures.value ∙ c.in_ok-names.ensures)) c.requires
