use Rattle.pot_object.proofs.ContentLemmas.{one_head, part-content, IsContent-written}
use Rattle.pot_object.proofs.content.content_laws.Goals as goal

pub returns-clause-written : goal.returns-clause-written
returns-clause-written c = IsContent-written

pub returns-clause-part : goal.returns-clause-part
returns-clause-part c h part is = part-content h part is.id

pub returns-clause-one_head : goal.returns-clause-one_head
returns-clause-one_head c = one_head
