use Rattle.pot_looks.proofs.LookLemmas.{seen_of}
use Rattle.pot_looks.proofs.looking.see.Goals as goal

pub returns-in-Some : goal.returns-in-Some
returns-in-Some c =
    seen_of (record { table = c.args.table.now; column = c.args.column; archive = c.args.archive; bytes = c.args.bytes.now })
    c.args.stripe c.in-Some.digest c.compare.result c.in-Some.ensures c.compare.ensures

pub returns-in-None : goal.returns-in-None
returns-in-None c = λ h. c.in-None.ensures h.0 h.1
