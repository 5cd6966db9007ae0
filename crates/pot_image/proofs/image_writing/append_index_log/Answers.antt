use Rattle.std.proofs.Common.{◌++◌, ◌∙◌, ap, subst}
use Rattle.pot_image.specs.Spelling.{index_entry_bytes}
use Rattle.pot_image.specs.Rules.{FitsIndexEntry}
use Rattle.pot_image.proofs.WriteRules.{grown}
use Rattle.pot_image.proofs.WholeRules.{whole_more}
use Rattle.pot_image.proofs.image_writing.append_index_log.Goals as goal

pub loop-entry-preserved : goal.loop-entry-preserved
loop-entry-preserved c = (
  grown index_entry_bytes _ _ c.entry-item.result _ _ _ c.loop-entry-test.true c.loop-entry.invariant.0 (c.in_ok-append_index_entry.ensures.bytes ∙ ap (λ x. c.loop-entry.out.items ++ index_entry_bytes x) c.entry-item.is),
  whole_more FitsIndexEntry _ _ c.entry-item.result c.loop-entry-test.true c.loop-entry.invariant.1 (subst FitsIndexEntry c.entry-item.is c.in_ok-append_index_entry.ensures.whole),
)
