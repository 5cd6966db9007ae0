use Rattle.std.proofs.Common.{◌≡◌, ◌-◌, ◌∙◌, ℕ, List, length, take, ap, ap₂, sym, subst, arith}
use Rattle.std.proofs.lemmas.Result.{on_ok_weaker}
use Rattle.pot_chains.specs.Levels.{IsPath, IsPathBelow, AreLevels}
use Rattle.pot_chains.specs.Listed.{IsListed, AreAbove, HasGrown}
use Rattle.pot_chains.specs.declared.levels.Level.{Level}
use Rattle.pot_recover.proofs.ScopeLemmas.{levels_long, front_are, grown_is, above_is}
use Rattle.pot_recover.proofs.rings.search.Goals as goal

-- the levels of the first m points
front : (count need : ℕ) (now items : List Level) → count ≡ need → now ≡ items → take count now ≡ take need items
front count need now items e f = ap₂ (λ n (l : List Level). take n l) e f

pub slice_bounds-paths-end : goal.slice_bounds-paths-end
slice_bounds-paths-end c =
    let g = c.args.group.now in
    c.from-need.ensures ∙ (sym (levels_long g c.requires.group) ∙ ap length (sym (front c.from-need.result g.need c.deref.result.now g.levels.items c.from-need.ensures c.deref.ensures.value)))

pub paths-requires-clause-some : goal.paths-requires-clause-some
paths-requires-clause-some c =
    let g = c.args.group.now in
    let some = c.requires.group.some in
    omega (arith, ap length (front c.from-need.result g.need c.deref.result.now g.levels.items c.from-need.ensures c.deref.ensures.value), levels_long g c.requires.group, some)

pub paths-requires-clause-levels : goal.paths-requires-clause-levels
paths-requires-clause-levels c =
    let g = c.args.group.now in
    subst AreLevels (sym (front c.from-need.result g.need c.deref.result.now g.levels.items c.from-need.ensures c.deref.ensures.value)) (front_are g c.requires.group)

pub close-requires-clause-chains : goal.close-requires-clause-chains
close-requires-clause-chains c =
    let g = c.args.group.now in
    let same = front c.from-need.result g.need c.deref.result.now g.levels.items c.from-need.ensures c.deref.ensures.value in
    subst (λ (l : List (List ℕ)). IsListed (IsPath g.bits (take g.need g.levels.items) (g.need - 1)) l) (sym c.deref-in-Ok.ensures.value)
    (subst (λ k. IsListed (IsPath g.bits (take g.need g.levels.items) (k - 1)) c.in-Ok.chains.items) (levels_long g c.requires.group)
    (subst (λ (l : List Level). IsListed (IsPath g.bits l (length l - 1)) c.in-Ok.chains.items) same c.in-Ok.ensures.found))

pub returns-in-Ok-clause-counts : goal.returns-in-Ok-clause-counts
returns-in-Ok-clause-counts c =
    let g = c.args.group.now in
    let same = front c.from-need.result g.need c.deref.result.now g.levels.items c.from-need.ensures c.deref.ensures.value in
    let grown = grown_is g c.requires.group c.args.count.now c.paths.new.count
    (subst (λ (l : List Level). HasGrown (IsPathBelow g.bits l (length l)) c.args.count.now c.paths.new.count) same c.in-Ok.ensures.counts) in
    on_ok_weaker c.close.result (λ found. grown) c.close.ensures.found

pub returns-in-Err-clause-wide : goal.returns-in-Err-clause-wide
returns-in-Err-clause-wide c = λ wide.
    let g = c.args.group.now in
    let same = front c.from-need.result g.need c.deref.result.now g.levels.items c.from-need.ensures c.deref.ensures.value in
    above_is g c.requires.group 4000000 c.args.count.now
    (subst (λ (l : List Level). AreAbove (IsPathBelow g.bits l (length l)) 4000000 c.args.count.now) same (c.in-Err.ensures.wide wide))
