use Rattle.std.proofs.Common.{◌∙◌}
use Rattle.byteorder.specs.Endian.{big_bytes}
use Rattle.pot_session.proofs.ListingLemmas.{front_written}
use Rattle.pot_session.proofs.recovery.listing.put_front.Goals as goal

pub returns : goal.returns
returns c =
    front_written c.args.object.now c.copy_from_slice.new.self c.write_u32.new.buf (big_bytes 4 c.args.piece) c.copy_from_slice.ensures.after
    (c.copy_from_slice.ensures.len ∙ c.requires.out) c.write_u32.ensures
