use Rattle.std.proofs.Common.{rules, refl, arith}
use Rattle.pot_work.proofs.Places.{placing_begins, placing_more, placing_within, placing_ends}
use Rattle.pot_work.proofs.placing.place_finished.Goals as goal

pub loop-position-init : goal.loop-position-init
loop-position-init g c = placing_begins _ _ _ _

pub index_mut-requires : goal.index_mut-requires
index_mut-requires g c =
    let within = placing_within _ _ _ _ _ _ (c.in-Some.position, c.in-Some.job) _ c.loop-position.invariant c.in-Some.ensures.items c.requires.within in
    let long = c.loop-position.places.ok.0 in
    omega (arith, within, long)

pub loop-position-preserved-in-Some : goal.loop-position-preserved-in-Some
loop-position-preserved-in-Some g c = placing_more _ _ _ _ _ _ (c.in-Some.position, c.in-Some.job) _ _ c.loop-position.invariant c.in-Some.ensures.items refl

pub loop-position-preserved : goal.loop-position-preserved
loop-position-preserved g c = placing_more _ _ _ _ _ _ (c.in-Some.position, c.in-Some.job) _ _ c.loop-position.invariant c.in-Some.ensures.items refl

pub returns : goal.returns
returns g c = placing_ends _ _ _ _ _ _ c.loop-position.invariant (search rules)
