use Rattle.std.proofs.Common.{List, subst, sym, take}
use Rattle.pot_chains.proofs.ListedLemmas.{in_get_or}
use Rattle.pot_shard.specs.declared.shard.Shard.{Shard}
use Rattle.pot_recover.specs.Groups.{parts_of, AreLevelsOf}
use Rattle.pot_recover.proofs.MemberLemmas.{levels_more, taken_more}
use Rattle.pot_recover.proofs.group.levels_of.Goals as goal

pub level_of-requires : goal.level_of-requires
level_of-requires c = c.requires.short _ (in_get_or c.loop-part.part-index c.args.parts.now _ c.loop-part-test.true)

pub loop-part-preserved : goal.loop-part-preserved
loop-part-preserved c = λ bits.
    let parts = c.args.parts.now in
    let i = c.loop-part.part-index in
    subst (λ (l : List (List Shard)). AreLevelsOf l c.push_level.new.levels.items) (sym (taken_more bits parts i _ c.loop-part-test.true))
    (subst (AreLevelsOf _) (sym c.in_ok-push_level.ensures)
    (levels_more (parts_of bits (take i parts)) c.loop-part.levels.items _ c.in_ok-level_of.field-0 (c.loop-part.invariant bits) (c.in_ok-level_of.ensures bits)))
