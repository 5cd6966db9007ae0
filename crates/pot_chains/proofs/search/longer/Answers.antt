use Rattle.std.proofs.Common.{◌≡◌, ◌+◌, ◌++◌, map, length, sym, ap, ◌∙◌, subst, arith, length-append}
use Rattle.std.proofs.lemmas.List.{length-map}
use Rattle.pot_chains.specs.Listed.{IsListed}
use Rattle.pot_chains.proofs.ListedLemmas.{in_take}
use Rattle.pot_chains.specs.Steps.{with_candidate}
use Rattle.pot_chains.proofs.LongerLemmas.{stands, found_more, none_longer}
use Rattle.pot_chains.proofs.search.longer.Goals as goal

pub bounds-pointers-end : goal.bounds-pointers-end
bounds-pointers-end c =
    let h = stands c.args.pointers.now c.args.index.now c.args.bits c.args.chains.now c.loop-chain.chain-index c.chain-item.result (omega (arith, c.loop-chain-test.true, c.loop-chain.auto.chain-index-end)) c.chain-item.is in
    omega (arith, (c.requires.start c.chain-item.result h).1, c.end.ensures)

pub push_more-requires : goal.push_more-requires
push_more-requires c =
    (c.requires.start c.chain-item.result
    (stands c.args.pointers.now c.args.index.now c.args.bits c.args.chains.now c.loop-chain.chain-index c.chain-item.result (omega (arith, c.loop-chain-test.true, c.loop-chain.auto.chain-index-end)) c.chain-item.is)).0

pub loop-chain-init : goal.loop-chain-init
loop-chain-init c = (
  subst (IsListed _) (sym c.new-found.ensures.items) (none_longer c.args.pointers.now c.args.index.now c.args.bits c.args.chains.now),
  omega (arith, ap length c.new-found.ensures.items),
  c.requires.counted,
)

pub loop-chain-preserved : goal.loop-chain-preserved
loop-chain-preserved c =
    let chains = c.args.chains.now in
    let i = c.loop-chain.chain-index in
    let chain = c.chain-item.result in
    let found = c.candidates-candidates.result.now in
    let new = c.in_ok-push_more.ensures.ok in
    let all = found_more c.args.pointers.now c.args.index.now c.args.bits chains i chain c.end.result found c.loop-chain.found.items
    (omega (arith, c.loop-chain-test.true, c.loop-chain.auto.chain-index-end)) c.chain-item.is c.requires.once c.end.ensures
    c.candidates-candidates.ensures.exact c.candidates-candidates.ensures.order c.loop-chain.invariant.0 in
    let grown : length c.push_more.new.found.items ≡ length c.loop-chain.found.items + length found =
    ap length new ∙ (length-append c.loop-chain.found.items (map (with_candidate chain) found)
    ∙ ap (λ n. length c.loop-chain.found.items + n) (length-map found (with_candidate chain))) in
    (subst (IsListed _) (sym new) all, omega (arith, grown, c.loop-chain.invariant.1), omega (arith, c.if-candidates-limit.false, c.loop-chain.invariant.2))

pub returns-then-candidates-limit-clause-wide : goal.returns-then-candidates-limit-clause-wide
returns-then-candidates-limit-clause-wide c = λ same.
    let chains = c.args.chains.now in
    let i = c.loop-chain.chain-index in
    let chain = c.chain-item.result in
    let xs = c.loop-chain.found.items in
    let found = c.candidates-candidates.result.now in
    let all =
    found_more c.args.pointers.now c.args.index.now c.args.bits chains i chain c.end.result found xs
    (omega (arith, c.loop-chain-test.true, c.loop-chain.auto.chain-index-end)) c.chain-item.is c.requires.once c.end.ensures
    c.candidates-candidates.ensures.exact c.candidates-candidates.ensures.order c.loop-chain.invariant.0 in
    let long : length (xs ++ map (with_candidate chain) found) ≡ length xs + length found =
    length-append xs (map (with_candidate chain) found) ∙ ap (λ n. length xs + n) (length-map found (with_candidate chain)) in (
      xs ++ map (with_candidate chain) found,
      all.once,
      λ y h. let w = (all.each y).0 h in (w.0, in_take (i + 1) chains w.0 w.1, w.2, w.3, w.4),
      omega (arith, long, c.loop-chain.invariant.1, c.loop-chain.invariant.2, c.if-candidates-limit.true),
    )
