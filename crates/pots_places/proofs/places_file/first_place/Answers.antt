use Rattle.std.proofs.Common.{◌∙◌, sym, subst}
use Rattle.std.proofs.lemmas.Bool.{true≢false}
use Rattle.std.specs.Prelude.{codes}
use Rattle.pots_places.specs.Places.{IsPlaceName}
use Rattle.pots_places.proofs.TextLemmas.{no_name, none_without, this_name, with_front}
use Rattle.pots_places.proofs.places_file.first_place.Goals as goal

pub returns-in_err-front : goal.returns-in_err-front
returns-in_err-front c = rw c.from_residual.ensures (none_without c.args.text.now c.in_err-front.ensures)

pub returns-in_err-name : goal.returns-in_err-name
returns-in_err-name c = rw c.from_residual-in_err-name.ensures
    (no_name c.args.text.now c.in_ok-front.front.now c.in_ok-front.behind.now c.in_ok-word.word.now c.in_ok-front.ensures
    (with_front c.in_ok-front.front.now (codes "place ") c.in_ok-word.word.now c.in_ok-word.ensures.cases.0 c.in_ok-word.ensures.cases.1)
    (λ is. c.in_err-name.ensures is.name))

pub returns-then-is_place_name : goal.returns-then-is_place_name
returns-then-is_place_name c =
    this_name c.args.text.now c.in_ok-front.front.now c.in_ok-front.behind.now c.in_ok-word.word.now c.in_ok-name.name c.in_ok-front.ensures
    (with_front c.in_ok-front.front.now (codes "place ") c.in_ok-word.word.now c.in_ok-word.ensures.cases.0 c.in_ok-word.ensures.cases.1)
    c.in_ok-name.ensures.0 (c.is_place_name.ensures.0 c.if-is_place_name.true)

pub returns-else-is_place_name : goal.returns-else-is_place_name
returns-else-is_place_name c =
    no_name c.args.text.now c.in_ok-front.front.now c.in_ok-front.behind.now c.in_ok-word.word.now c.in_ok-front.ensures
    (with_front c.in_ok-front.front.now (codes "place ") c.in_ok-word.word.now c.in_ok-word.ensures.cases.0 c.in_ok-word.ensures.cases.1)
    (λ is. true≢false (sym (c.is_place_name.ensures.1 (subst IsPlaceName (sym c.in_ok-name.ensures.0) is)) ∙ c.if-is_place_name.false))
