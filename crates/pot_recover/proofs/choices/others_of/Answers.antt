use Rattle.std.proofs.Common.{◌≡◌, ◌+◌, ◌-◌, ◌++◌, [], ◌∷◌, ◌∙◌, ℕ, List, map, filter, ap, sym, arith}
use Rattle.std.specs.List.{range_with_len}
use Rattle.std.proofs.lemmas.List.{map-append}
use Rattle.std.proofs.lemmas.List.FromFn.{map-range_with_len_more}
use Rattle.pot_recover.specs.Choices.{items_of, list_of}
use Rattle.pot_recover.specs.Contents.{begins_with}
use Rattle.pot_recover.proofs.ChoiceLemmas.{count_within}
use Rattle.pot_recover.proofs.choices.others_of.Goals as goal

pub overflow_add-number-end : goal.overflow_add-number-end
overflow_add-number-end c = let w = count_within c.args.first.now c.requires.content in let eight = w.1 in omega (arith, eight)

pub loop-number-preserved : goal.loop-number-preserved
loop-number-preserved c =
    let contents = c.args.contents.now in
    let first = c.args.first.now in
    let number = c.loop-number.number in
    let two = c.loop-number.invariant.1 in
    let f = list_of contents first in
    let steps : number + 1 - 2 ≡ number - 2 + 1 = omega (arith, two) in
    let at : 2 + (number - 2) ≡ number = omega (arith, two) in (
      ap (map items_of) c.in_ok-push_part.ensures
          ∙ (map-append items_of c.loop-number.parts.items (c.part_with.result ∷ [])
          ∙ (ap (λ (l : List (List ℕ)). map items_of c.loop-number.parts.items ++ l ∷ []) (c.part_with.ensures ∙ ap (λ (head : List ℕ). filter (begins_with head) contents) c.with_number.ensures)
          ∙ (ap (λ (l : List (List (List ℕ))). l ++ f number ∷ []) c.loop-number.invariant.0
          ∙ (sym (map-range_with_len_more f 2 (number - 2) number at) ∙ ap (λ k. map f (range_with_len 2 k)) (sym steps))))),
      omega (arith, two),
    )

pub returns : goal.returns
returns c =
    let w = count_within c.args.first.now c.requires.content in
    let low = w.0 in
    let contents = c.args.contents.now in
    let first = c.args.first.now in
    c.loop-number.invariant.0
    ∙ ap (λ k. map (list_of contents first) (range_with_len 2 k))
    (omega (arith, low, c.loop-number-test.false, c.loop-number.auto.number-end))
