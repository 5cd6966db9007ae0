use Rattle.std.proofs.Common.{false, sym, subst}
use Rattle.std.specs.Prelude.{IsTrue}
use Rattle.pot_recover.specs.Contents.{IsTail}
use Rattle.pot_recover.proofs.ContentLemmas.{one_tail, tail_of}
use Rattle.pot_recover.proofs.joining.content_of.Goals as goal

pub returns-then-not-is_tail : goal.returns-then-not-is_tail
returns-then-not-is_tail c = λ content fixed any.
    let same = one_tail c.args.chain.now c.requires.points c.requires.bytes c.join_places.new.out content c.join_places.auto.out any.1.long
    c.in_ok-join_places.ensures fixed in
    let yes : IsTrue false = c.if-not-is_tail.ensures.1 (subst IsTail (sym same) (tail_of any.0 content any.1)) in
    cc
