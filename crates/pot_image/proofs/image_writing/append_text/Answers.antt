use Rattle.std.proofs.Common.{refl}
use Rattle.pot_image.proofs.WriteRules.{text_done}
use Rattle.pot_image.proofs.image_writing.append_text.Goals as goal

pub returns-clause-bytes : goal.returns-clause-bytes
returns-clause-bytes c = text_done c.args.image.now _ _ _ _ _ _ _ _ _ c.requires.empty c.in_ok-extend_from_slice.ensures.items c.in_ok-extend_from_slice-2.ensures.items c.in_ok-append_fields.ensures.bytes c.len.ensures refl c.deref_mut.ensures.value c.deref_mut.ensures.len c.put_length.ensures
