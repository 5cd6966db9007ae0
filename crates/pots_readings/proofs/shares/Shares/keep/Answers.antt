use Rattle.std.proofs.Common.{◌≢◌, ◌<◌, ◌++◌, ◌∷◌, [], ◌∙◌, ℕ, List, refl, ap, subst, sym, arith}
use Rattle.std.specs.List.{All}
use Rattle.std.proofs.lemmas.List.Elements.{All-push}
use Rattle.pots_readings.proofs.ShareLemmas.{one_more}
use Rattle.pots_readings.proofs.shares.Shares.keep.Goals as goal

pub invariant_of-self-2-clause-distinct : goal.invariant_of-self-2-clause-distinct
invariant_of-self-2-clause-distinct c =
    let none = subst (λ (z : List ℕ). All (λ x. x ≢ c.args.point) z) c.deref.ensures.value (c.if-has.ensures refl) in
    one_more c.args.self.now.points.items c.push_reserved.new.self.items c.args.point c.args.self.now.distinct none
    (c.push_reserved.ensures.items ∙ ap (λ (z : List ℕ). z ++ c.args.point ∷ []) c.in_ok-reserve.ensures.items)

pub invariant_of-self-2-clause-not_zero : goal.invariant_of-self-2-clause-not_zero
invariant_of-self-2-clause-not_zero c =
    let items = c.push_reserved.ensures.items ∙ ap (λ (z : List ℕ). z ++ c.args.point ∷ []) c.in_ok-reserve.ensures.items in
    subst (λ (z : List ℕ). All (λ x. 0 < x) z) (sym items)
    (All-push (λ x. 0 < x) c.args.self.now.points.items c.args.point c.args.self.now.not_zero (omega (arith, c.if-point-eq0.false)))
