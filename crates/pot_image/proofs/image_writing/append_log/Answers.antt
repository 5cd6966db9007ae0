use Rattle.pot_image.specs.Rules.{IsWholeEntry}
use Rattle.pot_image.specs.Spelling.{entry_bytes}
use Rattle.pot_image.proofs.WriteRules.{grown}
use Rattle.pot_image.proofs.WholeRules.{whole_more}
use Rattle.pot_image.proofs.image_writing.append_log.Goals as goal

pub loop-entry-preserved : goal.loop-entry-preserved
loop-entry-preserved c = (
  grown entry_bytes _ _ _ _ _ _ c.loop-entry-test.true c.loop-entry.invariant.0 c.in_ok-append_entry.ensures.bytes,
  whole_more IsWholeEntry _ _ _ c.loop-entry-test.true c.loop-entry.invariant.1 c.in_ok-append_entry.ensures.whole,
)
