use Rattle.std.proofs.Common.{◌≡◌, ◌∙◌, ◌≤◌, ◌*◌, ap, sym, subst}
use Rattle.pot_object.specs.Pieces.{pieces_of}
use Rattle.pot_store.specs.Drawing.{count_of}
use Rattle.pot_store.proofs.PlanLemmas.{few_blocks}
use Rattle.pot_store.proofs.storing.prepare.Goals as goal
use Rattle.pot_store.proofs.FitLemmas.{pieces_few}

pub returns-clause-planned : goal.returns-clause-planned
returns-clause-planned c =
    let cut = c.in-Ok.ensures.cut in
    let geometry = c.args.geometry.now in
    let shards : c.in-Ok.pieces * (c.from.result * c.from-2.result) ≡ pieces_of _ * (geometry.fragments * geometry.shards) = cc (cut.1, c.from.ensures, c.from-2.ensures) in
    let drawing = c.new.ensures ∙ c.in-Ok-start.ensures in
    record {
      short = cut.0;
      pieces_is = cut.1;
      shards_is = shards ∙ sym (ap count_of drawing);
      few = subst (λ n. n ≤ 131072) (sym shards) (few_blocks _ geometry.fragments geometry.shards (pieces_few _ cut.0) c.requires.fragments.1 c.requires.shards);
      drawing = drawing;
      none = c.in-Ok-with_capacity.ensures.items;
    }
