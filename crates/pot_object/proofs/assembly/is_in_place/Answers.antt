use Rattle.std.proofs.Common.{◌≡◌, ◌<◌, ℕ, List, arith, ap, sym, ◌∙◌}
use Rattle.std.proofs.lemmas.Bool.Decides.{Decides-eqb}
use Rattle.pot_object.specs.Objects.{head_at}
use Rattle.pot_object.specs.Assembly.{count_of, piece_at}
use Rattle.pot_object.specs.declared.object.ObjectHead.{ObjectHead}
use Rattle.pot_object.proofs.AssemblyLemmas.{whole_object}
use Rattle.pot_object.proofs.assembly.is_in_place.Goals as goal

pub returns-then-at-objects : goal.returns-then-at-objects
returns-then-at-objects c =
    let objects = c.args.objects.now in
    let piece = c.args.piece in
    let here : c.head_in.result.piece ≡ piece_at objects piece =
    ap (λ (z : ObjectHead). z.piece) c.head_in.ensures ∙ ap (λ (z : List ℕ). (head_at z).piece) (whole_object objects piece) in
    let inside : piece < count_of objects = omega (arith, c.if-at-objects.true, c.requires) in
    let decides = Decides-eqb c.head_in.result.piece piece in
    (λ yes. (inside, sym here ∙ decides.0 yes), λ place. decides.1 (here ∙ place.1))
