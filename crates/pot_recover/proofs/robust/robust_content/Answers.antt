use Rattle.std.proofs.Common.{◌≡◌, refl, sym, subst, arith, length, rules}
use Rattle.pot_object.specs.Contents.{IsContent}
use Rattle.pot_recover.proofs.RobustLemmas.{none_given, one_robust}
use Rattle.pot_recover.proofs.robust.robust_content.Goals as goal

pub returns-then-not-fill_robust-clause-none : goal.returns-then-not-fill_robust-clause-none
returns-then-not-fill_robust-clause-none c is content fixed any =
    let r = c.requires in
    none_given c.args.need c.args.ring.now r.some r.enough r.points r.few r.bytes 0 992 (omega arith) (c.if-not-fill_robust.ensures.none refl) content fixed

pub returns-in-None-clause-none : goal.returns-in-None-clause-none
returns-in-None-clause-none c is content fixed any =
    let r = c.requires in
    let long : length c.fill_robust.new.into ≡ 992 = search rules in
    let same = one_robust c.args.need c.args.ring.now r.some r.enough r.points r.few r.bytes c.fill_robust.new.into content long (c.if-not-fill_robust.ensures.robust refl) fixed in
    c.in-None.ensures any.0 (subst (IsContent any.0) (sym same) any.1)
