use Rattle.std.proofs.Common.{◌++◌, ◌∙◌, ap, subst}
use Rattle.pot_index.specs.Records.{record_bytes}
use Rattle.pot_image.specs.Rules.{IsWholeRecord}
use Rattle.pot_image.proofs.WriteRules.{grown}
use Rattle.pot_image.proofs.WholeRules.{whole_more}
use Rattle.pot_image.proofs.image_writing.append_records.Goals as goal

pub loop-record-preserved : goal.loop-record-preserved
loop-record-preserved c = (
  grown record_bytes _ _ c.record-item.result _ _ _ c.loop-record-test.true c.loop-record.invariant.0 (c.in_ok-append_record.ensures.bytes ∙ ap (λ x. c.loop-record.out.items ++ record_bytes x) c.record-item.is),
  whole_more IsWholeRecord _ _ c.record-item.result c.loop-record-test.true c.loop-record.invariant.1 (subst IsWholeRecord c.record-item.is c.append_record.ensures.whole),
)
