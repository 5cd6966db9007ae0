use Rattle.pot_recheck.proofs.ImageLemmas.{still_image}
use Rattle.pot_recheck.proofs.ListLemmas.{listed_is, is_listed}
use Rattle.pot_recheck.proofs.NoneLemmas.{none_left}
use Rattle.pot_recheck.proofs.OnceLemmas.{found_once, twice_once, all_found}
use Rattle.pot_recheck.proofs.laws.recheck_laws.Goals as goal

pub returns-clause-rules : goal.returns-clause-rules
returns-clause-rules c = still_image

pub returns-clause-lists : goal.returns-clause-lists
returns-clause-lists c = λ v u. (listed_is v u, is_listed v u)

pub returns-clause-once : goal.returns-clause-once
returns-clause-once c = found_once

pub returns-clause-twice : goal.returns-clause-twice
returns-clause-twice c = twice_once

pub returns-clause-all : goal.returns-clause-all
returns-clause-all c = all_found

pub returns-clause-left : goal.returns-clause-left
returns-clause-left c = none_left
