use Rattle.std.proofs.Common.{◌≡◌, ◌<◌, ◌+◌, ◌-◌, ◌++◌, ◌∙◌, ℕ, suc, List, length, get_or, refl, sym, ap, subst, arith, length-append}
use Rattle.pot_chains.specs.Listed.{IsListed, AreAbove}
use Rattle.pot_chains.specs.Levels.{IsPath, IsPathBelow}
use Rattle.pot_chains.specs.Steps.{IsStart, IsLonger}
use Rattle.pot_chains.specs.declared.levels.Level.{Level}
use Rattle.pot_chains.proofs.LevelLemmas.{starts, layer_found, above_all, below_more, below_one}
use Rattle.pot_chains.proofs.levels.through.Goals as goal

pub longer-requires-clause-start : goal.longer-requires-clause-start
longer-requires-clause-start c =
    let levels = c.args.levels.now in
    let t = c.loop-t.t - 1 in
    let inside : suc t < length levels = omega (arith, c.loop-t-test.true, c.loop-t.auto.t) in
    let a = c.index-levels-t.result in
    let pointers : c.deref-in-loop-t.result.now ≡ a.pointers.items =
    c.deref-in-loop-t.ensures.value ∙ ap (λ (l : Level). l.pointers.items) (sym c.index-levels-t.is) in
    subst (λ (l : List ℕ). IsStart (length l) c.deref.result.now) (sym pointers)
    (subst (λ (cs : List (List ℕ)). IsStart (length a.pointers.items) cs) (sym c.deref.ensures.value)
    (starts c.args.bits levels t a c.loop-t.chains.items c.requires.levels c.requires.few inside c.index-levels-t.is c.loop-t.invariant.0))

pub loop-t-init : goal.loop-t-init
loop-t-init c = (
  c.requires.firsts,
  (c.args.firsts.items, below_one c.args.bits c.args.levels.now c.args.firsts.items c.requires.firsts, refl),
  c.requires.counted,
)

-- the level that is searched, by the one before
next_level : (levels : List Level) (t s : ℕ) (b : Level) → s ≡ suc t → b ≡ get_or levels s b → b ≡ get_or levels (suc t) b
next_level levels t s b e is = is ∙ ap (λ k. get_or levels k b) e

pub loop-t-preserved : goal.loop-t-preserved
loop-t-preserved c =
    let bits = c.args.bits in
    let levels = c.args.levels.now in
    let t = c.loop-t.t - 1 in
    let here : c.loop-t.t ≡ suc t = omega (arith, c.loop-t.auto.t) in
    let inside : suc t < length levels = omega (arith, c.loop-t-test.true, c.loop-t.auto.t) in
    let after : c.loop-t.t + 1 - 1 ≡ suc t = omega (arith, c.loop-t.auto.t) in
    let a = c.index-levels-t.result in
    let b = c.index-levels-t-in-loop-t.result in
    let chains = c.loop-t.chains.items in
    let found = c.in-Ok.next.items in
    let all = c.loop-t.invariant.1.0 in
    let longer = subst (λ (cs : List (List ℕ)). IsListed (IsLonger c.deref-in-loop-t.result.now ((get_or c.args.levels.now c.loop-t.t c.index-levels-t-in-loop-t.result).index) bits cs) found) c.deref.ensures.value c.in-Ok.ensures.found in
    let is = layer_found bits levels t a b c.deref-in-loop-t.result.now ((get_or c.args.levels.now c.loop-t.t c.index-levels-t-in-loop-t.result).index) chains found inside c.index-levels-t.is (next_level levels t c.loop-t.t b here c.index-levels-t-in-loop-t.is)
    (c.deref-in-loop-t.ensures.value ∙ ap (λ (l : Level). l.pointers.items) (sym c.index-levels-t.is)) (ap (λ (l : Level). l.index) (sym c.index-levels-t-in-loop-t.is))
    c.loop-t.invariant.0 longer in
    let below = below_more bits levels (suc t) all found (subst (λ k. IsListed (IsPathBelow bits levels k) all) here c.loop-t.invariant.1.1) is in (
      subst (λ k. IsListed (IsPath bits levels k) found) (sym after) is,
      (
        all ++ found,
        subst (λ k. IsListed (IsPathBelow bits levels k) (all ++ found)) (let e : suc (suc t) ≡ c.loop-t.t + 1 = omega (arith, here) in e) below,
        omega (arith, length-append all found, c.in-Ok.ensures.counts, c.loop-t.invariant.1.2),
      ),
      c.in-Ok.ensures.within,
    )

pub returns-in-Err-clause-wide : goal.returns-in-Err-clause-wide
returns-in-Err-clause-wide c = λ same.
    let bits = c.args.bits in
    let levels = c.args.levels.now in
    let t = c.loop-t.t - 1 in
    let here : c.loop-t.t ≡ suc t = omega (arith, c.loop-t.auto.t) in
    let inside : suc t < length levels = omega (arith, c.loop-t-test.true, c.loop-t.auto.t) in
    let all = c.loop-t.invariant.1.0 in
    above_all bits levels t c.index-levels-t.result c.index-levels-t-in-loop-t.result c.deref-in-loop-t.result.now ((get_or c.args.levels.now c.loop-t.t c.index-levels-t-in-loop-t.result).index) c.loop-t.chains.items all c.args.limit c.loop-t.count
    (length c.args.firsts.items) c.args.count.now inside c.index-levels-t.is (next_level levels t c.loop-t.t c.index-levels-t-in-loop-t.result here c.index-levels-t-in-loop-t.is)
    (c.deref-in-loop-t.ensures.value ∙ ap (λ (l : Level). l.pointers.items) (sym c.index-levels-t.is)) (ap (λ (l : Level). l.index) (sym c.index-levels-t-in-loop-t.is))
    c.loop-t.invariant.0 (subst (λ k. IsListed (IsPathBelow bits levels k) all) here c.loop-t.invariant.1.1) c.loop-t.invariant.1.2
    (subst (λ (cs : List (List ℕ)). AreAbove (IsLonger c.deref-in-loop-t.result.now ((get_or c.args.levels.now c.loop-t.t c.index-levels-t-in-loop-t.result).index) bits cs) c.args.limit c.loop-t.count) c.deref.ensures.value (c.in-Err.ensures.wide same))

pub returns-clause-found : goal.returns-clause-found
returns-clause-found c =
    let end : c.loop-t.t ≡ length c.args.levels.now = omega (arith, c.loop-t-test.false, c.loop-t.auto.t-end, c.requires.some) in
    subst (λ k. IsListed (IsPath c.args.bits c.args.levels.now (k - 1)) c.loop-t.chains.items) end c.loop-t.invariant.0

pub returns-clause-counts : goal.returns-clause-counts
returns-clause-counts c =
    let levels = c.args.levels.now in
    let end : c.loop-t.t ≡ length levels = omega (arith, c.loop-t-test.false, c.loop-t.auto.t-end, c.requires.some) in
    let all = c.loop-t.invariant.1.0 in
    (all, subst (λ k. IsListed (IsPathBelow c.args.bits levels k) all) end c.loop-t.invariant.1.1, c.loop-t.invariant.1.2)
