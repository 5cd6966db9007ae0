use Rattle.pot_object.proofs.LawLemmas.{one_head, part-written, IsObject-written}
use Rattle.pot_object.proofs.ObjectLemmas.{length-object}
use Rattle.pot_object.proofs.object.object_laws.Goals as goal

pub returns-clause-written : goal.returns-clause-written
returns-clause-written c = IsObject-written

pub returns-clause-part : goal.returns-clause-part
returns-clause-part c = part-written

pub returns-clause-bytes : goal.returns-clause-bytes
returns-clause-bytes c = length-object

pub returns-clause-one_head : goal.returns-clause-one_head
returns-clause-one_head c = one_head
