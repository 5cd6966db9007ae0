use Rattle.pots_racks.proofs.SectionLemmas.{section}
use Rattle.pots_racks.proofs.sections.section_of.Goals as goal

pub returns-in-OfRack : goal.returns-in-OfRack
returns-in-OfRack c =
    section c.args.lines.now c.args.rack c.in_ok-at.at c.count_files-count.result c.in-OfRack.desk _ c.in_ok-at.ensures c.in-OfRack.is c.count_files-count.ensures
