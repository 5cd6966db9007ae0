-- What the search finds is what a filter keeps of the table.
use Rattle.std.proofs.Common.{◌≡◌, ◌∙◌, Bool, subst, sym, ap, filter, IsPermutation, nat_cmp, rules}
use Rattle.std.specs.Prelude.{AllPairs}
use Rattle.std.proofs.lemmas.List.Kept.{AllPairs-filter}
use Rattle.pot_pointer.specs.declared.Named.{Named}
use Rattle.pot_pointer.specs.Pointers.{blur, named, is_meant, IsBefore}
use Rattle.pot_pointer.specs.Inside.{names_of}
use Rattle.pot_pointer.proofs.FilterLemmas.{IsPermutation-filter}
use Rattle.pot_pointer.proofs.OrderLemmas.{blurs_rise, equal_is_same}
use Rattle.pot_pointer.proofs.CandidateLemmas.{Contains-candidates}
use Rattle.pot_pointer.proofs.RegionIndex.candidates.Goals as goal

found : (c : goal.After-equal_range) → filter (is_meant c.args.pointer c.args.bits) c.self.inside.entries.items ≡ c.equal_range.result.now
found c =
    sym (c.equal_range.ensures (λ entry. nat_cmp (blur entry.name c.args.bits) c.args.pointer) (λ item o answers. search rules)
    (blurs_rise c.deref.result.now c.args.pointer c.args.bits (subst (AllPairs IsBefore) (sym c.deref.ensures.value) c.self.invariant.order))
    ∙ ap (λ (test : Named → Bool). filter test c.deref.result.now) (λ i entry. equal_is_same (blur entry.name c.args.bits) c.args.pointer i)
    ∙ ap (filter (is_meant c.args.pointer c.args.bits)) c.deref.ensures.value)

pub returns-clause-all : goal.returns-clause-all
returns-clause-all c =
    let meant = is_meant c.args.pointer c.args.bits in
    subst (λ names. IsPermutation (filter meant (named names)) c.equal_range.result.now) c.self.view_is
    (subst (IsPermutation (filter meant (named (names_of c.self.inside.entries.items)))) (found c) (IsPermutation-filter meant _ _ c.self.invariant.whole))

pub returns-clause-exact : goal.returns-clause-exact
returns-clause-exact c = Contains-candidates c.args.self.now c.args.pointer c.args.bits _ (returns-clause-all c)

pub returns-clause-order : goal.returns-clause-order
returns-clause-order c =
    subst (AllPairs IsBefore) (found c) (AllPairs-filter IsBefore (is_meant c.args.pointer c.args.bits) c.self.inside.entries.items c.self.invariant.order)
