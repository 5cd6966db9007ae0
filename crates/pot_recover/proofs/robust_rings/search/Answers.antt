use Rattle.std.proofs.Common.{◌-◌, ℕ, List, length, ap, sym, subst, arith}
use Rattle.std.proofs.lemmas.Result.{on_ok_weaker}
use Rattle.pot_chains.specs.Levels.{IsPath, IsPathBelow, AreLevels}
use Rattle.pot_chains.specs.Listed.{IsListed, AreAbove, HasGrown}
use Rattle.pot_chains.specs.declared.levels.Level.{Level}
use Rattle.pot_recover.proofs.LongLemmas.{levels_long, all_are, grown_is, above_is}
use Rattle.pot_recover.proofs.robust_rings.search.Goals as goal

pub paths-requires-clause-some : goal.paths-requires-clause-some
paths-requires-clause-some c =
    let g = c.args.group.now in
    let some = c.requires.group.some in
    let need = c.requires.group.need in
    omega (arith, ap length c.deref.ensures.value, levels_long g c.requires.group, some, need)

pub paths-requires-clause-few : goal.paths-requires-clause-few
paths-requires-clause-few c =
    let g = c.args.group.now in
    let few = c.requires.group.few in
    omega (arith, ap length c.deref.ensures.value, levels_long g c.requires.group, few)

pub paths-requires-clause-levels : goal.paths-requires-clause-levels
paths-requires-clause-levels c = subst AreLevels (sym c.deref.ensures.value) (all_are c.args.group.now c.requires.group)

pub close-requires-clause-chains : goal.close-requires-clause-chains
close-requires-clause-chains c =
    let g = c.args.group.now in
    subst (λ (l : List (List ℕ)). IsListed (IsPath g.bits g.levels.items (length g.parts.items - 1)) l) (sym c.deref-in-Ok.ensures.value)
    (subst (λ k. IsListed (IsPath g.bits g.levels.items (k - 1)) c.in-Ok.chains.items) (levels_long g c.requires.group)
    (subst (λ (l : List Level). IsListed (IsPath g.bits l (length l - 1)) c.in-Ok.chains.items) c.deref.ensures.value c.in-Ok.ensures.found))

pub returns-in-Ok-clause-counts : goal.returns-in-Ok-clause-counts
returns-in-Ok-clause-counts c =
    let g = c.args.group.now in
    let grown = grown_is g c.requires.group c.args.count.now c.paths.new.count
    (subst (λ (l : List Level). HasGrown (IsPathBelow g.bits l (length l)) c.args.count.now c.paths.new.count) c.deref.ensures.value c.in-Ok.ensures.counts) in
    on_ok_weaker c.close.result (λ found. grown) c.close.ensures.found

pub returns-in-Err-clause-wide : goal.returns-in-Err-clause-wide
returns-in-Err-clause-wide c = λ wide.
    let g = c.args.group.now in
    above_is g c.requires.group 4000000 c.args.count.now
    (subst (λ (l : List Level). AreAbove (IsPathBelow g.bits l (length l)) 4000000 c.args.count.now) c.deref.ensures.value (c.in-Err.ensures.wide wide))
