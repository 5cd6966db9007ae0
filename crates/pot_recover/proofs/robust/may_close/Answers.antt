use Rattle.std.proofs.Common.{◌≡◌, refl, sym, subst, arith, length, rules}
use Rattle.std.specs.Prelude.{IsTrue}
use Rattle.pot_recover.specs.Contents.{IsTail}
use Rattle.pot_recover.proofs.ContentLemmas.{tail_of}
use Rattle.pot_recover.proofs.RobustLemmas.{none_given, robust_tail}
use Rattle.pot_recover.proofs.robust.may_close.Goals as goal

pub returns-then-not-fill_robust : goal.returns-then-not-fill_robust
returns-then-not-fill_robust c is content fixed any =
    let r = c.requires in
    none_given c.args.need c.args.ring.now r.some r.enough r.points r.few r.bytes 16 16 (omega arith) (c.if-not-fill_robust.ensures.none refl) content fixed

pub returns : goal.returns
returns c is content fixed any =
    let r = c.requires in
    let long : length c.fill_robust.new.into ≡ 16 = search rules in
    let same = robust_tail c.args.need c.args.ring.now r.some r.enough r.points r.few r.bytes c.fill_robust.new.into content long (c.if-not-fill_robust.ensures.robust refl) fixed in
    let yes : IsTrue c.is_tail.result = c.is_tail.ensures.1 (subst IsTail (sym same) (tail_of any.0 content any.1)) in
    absurd (cc)
