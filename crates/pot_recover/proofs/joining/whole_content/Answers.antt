use Rattle.std.proofs.Common.{sym, subst}
use Rattle.pot_object.specs.Contents.{IsContent}
use Rattle.pot_recover.proofs.ContentLemmas.{one_content, from_zero}
use Rattle.pot_recover.proofs.joining.whole_content.Goals as goal

pub returns-in-None : goal.returns-in-None
returns-in-None c = λ content fixed any.
    let same = one_content c.args.chain.now c.requires.points c.requires.bytes c.join_places.new.out content c.join_places.auto.out any.1.long
    (from_zero c.args.chain.now c.join_places.new.out c.join_places.auto.out c.in_ok-join_places.ensures) fixed in
    c.in-None.ensures any.0 (subst (IsContent any.0) (sym same) any.1)
