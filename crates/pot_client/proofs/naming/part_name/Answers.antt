use Rattle.std.proofs.Common.{length, sym, subst, refl}
use Rattle.pot_bytes.specs.Names.{IsName}
use Rattle.pot_client.proofs.NameLemmas.{part_fits}
use Rattle.pot_client.proofs.naming.part_name.Goals as goal

pub returns-clause-found : goal.returns-clause-found
returns-clause-found c =
    rw (← c.bytes-bytes.ensures.value)
    (part_fits c.read.result c.bytes-bytes.result.now c.suffix_of.result c.put_suffixed.new.kept (length c.bytes-bytes.result.now) c.args.number
    (subst IsName (sym c.bytes-bytes.ensures.value) c.bytes-bytes.ensures.name) c.if-number-gt-LAST_PART.false refl c.suffix_of.ensures c.put_suffixed.ensures.front c.read.ensures)
