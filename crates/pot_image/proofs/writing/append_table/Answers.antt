use Rattle.pot_image.proofs.WriteRules.{table_written}
use Rattle.pot_image.proofs.writing.append_table.Goals as goal

pub returns-clause-bytes : goal.returns-clause-bytes
returns-clause-bytes c = table_written _ _ _ _ _ _ _ _ c.in_ok-append_cursor.ensures c.in_ok-append_columns.ensures c.append_slots.ensures.bytes c.cursor.ensures.value c.columns.ensures.value
