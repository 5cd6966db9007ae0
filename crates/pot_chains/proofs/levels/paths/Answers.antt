use Rattle.std.proofs.Common.{◌≡◌, ◌<◌, ◌+◌, [], ◌∷◌, ◌∙◌, ℕ, List, length, get_or, refl, sym, ap, subst}
use Rattle.std.proofs.lemmas.Result.{on_ok_weaker, IfErr-weaker}
use Rattle.pot_chains.specs.Listed.{IsListed, AreAbove, HasGrown}
use Rattle.pot_chains.specs.Levels.{IsPath, IsPathBelow}
use Rattle.pot_chains.proofs.LevelLemmas.{singles_are, singles_above, grown_without, above_without, length-singles}
use Rattle.pot_chains.specs.declared.levels.Level.{Level}
use Rattle.pot_chains.proofs.levels.paths.Goals as goal

-- the number of positions of the first level
number : (levels : List Level) (first : Level) (now : List ℕ) (n : ℕ) → first ≡ get_or levels 0 first → now ≡ (get_or levels 0 first).pointers.items → n ≡ length now
    → n ≡ length first.pointers.items
number levels first now n is value long = long ∙ ap length (value ∙ ap (λ (l : Level). l.pointers.items) (sym is))

pub through-requires-clause-firsts : goal.through-requires-clause-firsts
through-requires-clause-firsts c =
    subst (IsListed (IsPath c.args.bits c.args.levels.now 0)) (sym (c.in-Ok.ensures.found ∙ ap (λ n. Rattle.std.proofs.Common.map (λ (p : ℕ). p ∷ []) (Rattle.std.specs.List.range_with_len 0 n)) (number c.args.levels.now c.index-levels-0.result c.as_slice.result.now (length c.as_slice.result.now) c.index-levels-0.is c.as_slice.ensures.value refl)))
    (singles_are c.args.bits c.args.levels.now c.index-levels-0.result c.requires.some c.index-levels-0.is)

pub returns-in-Ok-clause-counts : goal.returns-in-Ok-clause-counts
returns-in-Ok-clause-counts c =
    on_ok_weaker c.through.result
    (λ grown. grown_without (IsPathBelow c.args.bits c.args.levels.now (length c.args.levels.now)) c.args.count.now c.through.new.count (length c.as_slice.result.now) (length c.in-Ok.firsts.items)
    (length-singles c.in-Ok.firsts.items (λ (p : ℕ). p ∷ []) (length c.as_slice.result.now) c.in-Ok.ensures.found)
    (subst (λ n. HasGrown (IsPathBelow c.args.bits c.args.levels.now (length c.args.levels.now)) n (c.through.new.count + length c.in-Ok.firsts.items)) c.in-Ok.ensures.counts grown))
    c.through.ensures.counts

pub returns-in-Ok-clause-wide : goal.returns-in-Ok-clause-wide
returns-in-Ok-clause-wide c =
    IfErr-weaker c.through.result _ _
    (λ e wide same. above_without (IsPathBelow c.args.bits c.args.levels.now (length c.args.levels.now)) c.args.count.now c.args.limit (length c.as_slice.result.now) (length c.in-Ok.firsts.items)
    (length-singles c.in-Ok.firsts.items (λ (p : ℕ). p ∷ []) (length c.as_slice.result.now) c.in-Ok.ensures.found)
    (subst (λ n. AreAbove (IsPathBelow c.args.bits c.args.levels.now (length c.args.levels.now)) (c.args.limit + length c.in-Ok.firsts.items) n) c.in-Ok.ensures.counts (wide same)))
    c.through.ensures.wide

pub returns-in-Err-clause-wide : goal.returns-in-Err-clause-wide
returns-in-Err-clause-wide c = λ same.
    singles_above c.args.bits c.args.levels.now c.index-levels-0.result c.args.limit c.args.count.now (length c.as_slice.result.now) c.requires.some c.index-levels-0.is
    (number c.args.levels.now c.index-levels-0.result c.as_slice.result.now (length c.as_slice.result.now) c.index-levels-0.is c.as_slice.ensures.value refl)
    (c.in-Err.ensures.wide same)
