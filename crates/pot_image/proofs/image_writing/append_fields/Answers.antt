use Rattle.pot_image.proofs.WriteRules.{fields_written}
use Rattle.pot_image.proofs.WholeRules.{values_whole}
use Rattle.pot_image.proofs.image_writing.append_fields.Goals as goal

pub returns-clause-bytes : goal.returns-clause-bytes
returns-clause-bytes c = fields_written c.args.image.now _ _ _ _ _ _ _ _ _ _ c.in_ok-append_head.ensures.bytes c.in_ok-append_tables.ensures.bytes c.in_ok-append_records.ensures.bytes c.in_ok-append_logs.ensures.bytes c.in_ok-append_index_log.ensures.bytes c.deref.ensures.value c.deref-2.ensures.value c.deref-3.ensures.value c.deref-4.ensures.value

pub returns-clause-whole : goal.returns-clause-whole
returns-clause-whole c = values_whole c.args.image.now _ _ _ _ c.in_ok-append_head.ensures.whole c.in_ok-append_tables.ensures.whole c.in_ok-append_records.ensures.whole c.in_ok-append_logs.ensures.whole c.in_ok-append_index_log.ensures.whole c.deref.ensures.value c.deref-2.ensures.value c.deref-3.ensures.value c.deref-4.ensures.value
