use Rattle.std.proofs.Common.{◌↔◌, ◌⊎◌, inl, inr, List, ℕ, arith, subst, sym}
use Rattle.std.proofs.lemmas.List.{take_all}
use Rattle.pot_chains.specs.Listed.{IsIn}
use Rattle.pot_chains.proofs.ListedLemmas.{in_get_or}
use Rattle.pot_recover.specs.Groups.{shards_at, parts_of}
use Rattle.pot_recover.specs.LongScopes.{IsRobustlyFoundAmong}
use Rattle.pot_recover.specs.Robust.{ClosesRobustlyAsRing}
use Rattle.pot_recover.proofs.LongLemmas.{whole_of, found_is, among_more}
use Rattle.pot_recover.proofs.robust_rings.add_rings.Goals as goal

pub add_robust-requires-clause-inside : goal.add_robust-requires-clause-inside
add_robust-requires-clause-inside c =
    let chains = c.args.chains.now in
    let there = subst (IsIn chains) (sym c.chain-item.is) (in_get_or c.loop-chain.chain-index chains c.chain-item.result c.loop-chain-test.true) in
    (whole_of c.args.group.now c.requires.group c.chain-item.result ((c.requires.chains.each c.chain-item.result).0 there)).0

pub add_robust-requires-clause-chain : goal.add_robust-requires-clause-chain
add_robust-requires-clause-chain c =
    let chains = c.args.chains.now in
    let there = subst (IsIn chains) (sym c.chain-item.is) (in_get_or c.loop-chain.chain-index chains c.chain-item.result c.loop-chain-test.true) in
    (whole_of c.args.group.now c.requires.group c.chain-item.result ((c.requires.chains.each c.chain-item.result).0 there)).1

pub loop-chain-preserved : goal.loop-chain-preserved
loop-chain-preserved c =
    let g = c.args.group.now in
    let P = parts_of g.bits g.parts.items in
    among_more P c.args.chains.now c.loop-chain.chain-index c.chain-item.result c.args.found.now.items c.loop-chain.found.items c.add_robust.new.found.items
    c.loop-chain-test.true c.loop-chain.invariant
    (subst (λ (chain : List ℕ). (x : List ℕ) → IsIn c.add_robust.new.found.items x ↔ (IsIn c.loop-chain.found.items x ⊎ ClosesRobustlyAsRing (shards_at P chain) x))
    c.chain-item.is c.in_ok-add_robust.ensures)

pub returns : goal.returns
returns c = λ x.
    let g = c.args.group.now in
    let P = parts_of g.bits g.parts.items in
    let chains = c.args.chains.now in
    let all = take_all c.loop-chain.chain-index chains (omega (arith, c.loop-chain-test.false, c.loop-chain.auto.chain-index-end)) in
    let is = subst (λ (l : List (List ℕ)). IsIn c.loop-chain.found.items x ↔ (IsIn c.args.found.now.items x ⊎ IsRobustlyFoundAmong P l x)) all (c.loop-chain.invariant x) in
    let same = found_is g c.requires.group chains c.requires.chains x in (
      λ h. elim (is.0 h) [ inl old ↦ inl old | inr new ↦ inr (same.0 new) ],
      λ w. elim w [ inl old ↦ is.1 (inl old) | inr new ↦ is.1 (inr (same.1 new)) ],
    )
