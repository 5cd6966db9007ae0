use Rattle.std.proofs.Common.{◌↔◌, ◌⊎◌, List, ℕ, arith, subst, sym}
use Rattle.std.proofs.lemmas.List.{take_all}
use Rattle.pot_chains.specs.Listed.{IsIn}
use Rattle.pot_chains.proofs.ListedLemmas.{in_get_or}
use Rattle.pot_recover.specs.Groups.{shards_at, parts_of}
use Rattle.pot_recover.specs.OpenScopes.{IsGivenAmong}
use Rattle.pot_recover.specs.Rings.{ClosesRing}
use Rattle.pot_recover.proofs.OpenLemmas.{among_more}
use Rattle.pot_recover.proofs.open_chains.add_given.Goals as goal

pub add_open-requires-clause-inside : goal.add_open-requires-clause-inside
add_open-requires-clause-inside c =
    let chains = c.args.chains.now in
    (c.requires.chains c.chain-item.result (subst (IsIn chains) (sym c.chain-item.is) (in_get_or c.loop-chain.chain-index chains c.chain-item.result c.loop-chain-test.true))).0

pub add_open-requires-clause-chain : goal.add_open-requires-clause-chain
add_open-requires-clause-chain c =
    let chains = c.args.chains.now in
    (c.requires.chains c.chain-item.result (subst (IsIn chains) (sym c.chain-item.is) (in_get_or c.loop-chain.chain-index chains c.chain-item.result c.loop-chain-test.true))).1

pub loop-chain-preserved : goal.loop-chain-preserved
loop-chain-preserved c =
    let P = parts_of c.args.window.now.bits c.args.window.now.parts.items in
    among_more P c.args.chains.now c.loop-chain.chain-index c.chain-item.result c.args.found.now.items c.loop-chain.found.items c.add_open.new.found.items
    c.loop-chain-test.true c.loop-chain.invariant
    (subst (λ (chain : List ℕ). (x : List ℕ) → IsIn c.add_open.new.found.items x ↔ (IsIn c.loop-chain.found.items x ⊎ ClosesRing (shards_at P chain) x))
    c.chain-item.is c.in_ok-add_open.ensures)

pub returns : goal.returns
returns c = λ x.
    let P = parts_of c.args.window.now.bits c.args.window.now.parts.items in
    let all = take_all c.loop-chain.chain-index c.args.chains.now (omega (arith, c.loop-chain-test.false, c.loop-chain.auto.chain-index-end)) in
    subst (λ (l : List (List ℕ)). IsIn c.loop-chain.found.items x ↔ (IsIn c.args.found.now.items x ⊎ IsGivenAmong P l x)) all (c.loop-chain.invariant x)
