use Rattle.std.proofs.Common.{◌≡◌, ◌↔◌, length, arith, ap, subst, sym, take}
use Rattle.std.specs.List.{Contains}
use Rattle.std.proofs.lemmas.List.{length-map, take_all}
use Rattle.std.proofs.lemmas.List.Filters.{dedup_is}
use Rattle.std.proofs.lemmas.List.Kept.{Contains-dedup_nat, Contains-from_dedup}
use Rattle.std.proofs.lemmas.List.Sorted.{Contains-permutation, IsPermutation-sym}
use Rattle.std.proofs.lemmas.Option.{slice_get_within}
use Rattle.pot_chains.specs.Listed.{IsIn}
use Rattle.pot_chains.proofs.ListedLemmas.{in_from_contains, contains_from_in}
use Rattle.pot_recover.specs.Reached.{name_of, IsNextPointer}
use Rattle.pot_recover.proofs.SetLemmas.{pointers_more, none_yet}
use Rattle.pot_recover.proofs.sets.next_pointers.Goals as goal

pub push_hits-requires : goal.push_hits-requires
push_hits-requires c = λ e h.
    let stands = ((c.candidates.ensures.exact e).0 (contains_from_in c.candidates.result.now e h)).0 in
    let within = slice_get_within c.args.index.now e.position e.name stands in
    omega (arith, within, ap length c.requires.indexed, length-map c.args.there.now name_of)

pub loop-pointer-init : goal.loop-pointer-init
loop-pointer-init c = λ p.
    subst (λ l. IsIn l p ↔ IsNextPointer (take 0 c.args.pointers.now) c.args.there.now c.args.bits c.args.share.now p) (sym c.new-found.ensures.items)
    (none_yet c.args.pointers.now c.args.there.now c.args.bits c.args.share.now p)

pub loop-pointer-preserved : goal.loop-pointer-preserved
loop-pointer-preserved c =
    pointers_more c.args.pointers.now c.args.there.now c.args.index.now c.args.bits c.args.share.now c.candidates.result.now c.loop-pointer.pointer-index
    c.loop-pointer.found.items c.push_hits.new.found.items c.loop-pointer-test.true c.requires.indexed c.candidates.ensures.exact
    c.loop-pointer.invariant c.in_ok-push_hits.ensures

pub returns : goal.returns
returns c = λ p.
    let found = c.loop-pointer.found.items in
    let sorted = c.sort_unstable.new.self.items in
    let left = dedup_is _ sorted c.dedup.new.self.items c.dedup.ensures.filtered in
    let all : take c.loop-pointer.pointer-index c.args.pointers.now ≡ c.args.pointers.now = take_all c.loop-pointer.pointer-index c.args.pointers.now (omega (arith, c.loop-pointer-test.false)) in
    let is = subst (λ l. IsIn found p ↔ IsNextPointer l c.args.there.now c.args.bits c.args.share.now p) all (c.loop-pointer.invariant p) in (
      λ h. is.0 (in_from_contains found p (Contains-permutation sorted found p (IsPermutation-sym found sorted c.sort_unstable.ensures.permutation)
          (Contains-from_dedup _ sorted p (subst (λ l. Contains l p) left (contains_from_in c.dedup.new.self.items p h))))),
      λ w. in_from_contains c.dedup.new.self.items p (subst (λ l. Contains l p) (sym left)
          (Contains-dedup_nat sorted p (Contains-permutation found sorted p c.sort_unstable.ensures.permutation (contains_from_in found p (is.1 w))))),
    )
