use Rattle.std.proofs.Common.{◌≡◌, ◌∙◌, sym}
use Rattle.pots_places.specs.Places.{tail}
use Rattle.pots_places.proofs.TextLemmas.{are_same, differ, names_none, not_these}
use Rattle.pots_places.proofs.places_file.read_places.Goals.{else-eq-via-then-eq+else-are_places, else-eq-via-else-eq}
use Rattle.pots_places.proofs.places_file.read_places.Goals as goal

pub returns-else-eq : goal.returns-else-eq
returns-else-eq c =
    let text = c.args.text.now in
    let left = c.loop-name.left.now in
    let names = c.loop-name.names.items in
    elim c.else-eq.branch [
      | else-eq-via-then-eq+else-are_places w ↦
          not_these text left names w.deref.result.now w.are_places.result c.loop-name.invariant.text_is c.loop-name.invariant.each
          (are_same left c.as_slice.result.now c.eq.result c.eq.ensures w.if-eq.true ∙ c.as_slice.ensures)
          w.deref.ensures.value w.are_places.ensures.1 w.if-are_places.false
      | else-eq-via-else-eq w ↦
          names_none text left names c.loop-name.invariant.text_is c.loop-name.invariant.each
          (λ (e : left ≡ tail). differ left c.as_slice.result.now c.eq.result c.eq.ensures w.if-eq.false (e ∙ sym c.as_slice.ensures))
          c.in_default-first_place.ensures
    ]
