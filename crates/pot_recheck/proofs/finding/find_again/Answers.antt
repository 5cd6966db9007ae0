use Rattle.std.proofs.Common.{refl, subst}
use Rattle.pot_recheck.specs.Finding.{AreFoundTables}
use Rattle.pot_image.specs.Images.{contents}
use Rattle.pot_recheck.proofs.ImageLemmas.{still_image}
use Rattle.pot_recheck.proofs.finding.find_again.Goals as goal

pub returns-clause-rules : goal.returns-clause-rules
returns-clause-rules c = λ image.
    still_image c.args.found.now (contents c.args.image.now) _ (record {
      rest = refl;
      tables = subst (λ ts. AreFoundTables c.args.found.now ts c.in_ok-image.field-0.items) c.deref.ensures.value c.in_ok-image.ensures;
    }) image
