use Rattle.pot_object.proofs.LawLemmas.{none_missing, only_file, IsSeries-objects_of}
use Rattle.pot_object.proofs.assembly.assemble_laws.Goals as goal

pub returns-clause-series : goal.returns-clause-series
returns-clause-series c id file whole fits = IsSeries-objects_of id file (record { whole = whole; fits = fits })

pub returns-clause-whole : goal.returns-clause-whole
returns-clause-whole c id file piece whole fits = none_missing id file (record { whole = whole; fits = fits }) piece

pub returns-clause-file : goal.returns-clause-file
returns-clause-file c id file other whole fits = only_file id file other (record { whole = whole; fits = fits })
