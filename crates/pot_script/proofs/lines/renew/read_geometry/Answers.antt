use Rattle.std.proofs.Common.{◌≡◌, [], ◌∷◌, List, ℕ, decimal, refl, sym, ◌∙◌, arith}
use Rattle.std.proofs.lemmas.Bool.{true≢false}
use Rattle.pot_bytes.specs.declared.rack.Geometry.{Geometry}
use Rattle.pot_bytes.specs.declared.rack.Rack.{Rack}
use Rattle.pot_bytes.specs.Rack.{FitsIn}
use Rattle.pot_index.specs.Fits.{FitsGeometry}
use Rattle.pot_script.specs.Commands.{geometry_words}
use Rattle.pot_script.proofs.CommandLemmas.{first_words}
use Rattle.pot_script.proofs.LineLemmas.{not_fitting}
use Rattle.pot_script.proofs.lines.renew.read_geometry.Goals as goal

pub returns-in_err-need : goal.returns-in_err-need
returns-in_err-need c = rw c.from_residual-in_err-need.ensures (λ g fits e.
    let one = (first_words _ _ _ _ (sym c.in_ok-fragments.ensures.1 ∙ e)).1 in
    c.in_err-need.ensures g.need (decimal g.shards ∷ decimal g.blur ∷ []) (omega (arith, fits.limits.need, fits.limits.shards)) one)

pub returns-in_err-shards : goal.returns-in_err-shards
returns-in_err-shards c = rw c.from_residual-in_err-shards.ensures (λ g fits e.
    let one = (first_words _ _ _ _ (sym c.in_ok-fragments.ensures.1 ∙ e)).1 in
    let two = (first_words _ _ _ _ (sym c.in_ok-need.ensures.1 ∙ one)).1 in
    c.in_err-shards.ensures g.shards (decimal g.blur ∷ []) (omega (arith, fits.limits.shards)) two)

pub returns-in_err-blur : goal.returns-in_err-blur
returns-in_err-blur c = rw c.from_residual-in_err-blur.ensures (λ g fits e.
    let one = (first_words _ _ _ _ (sym c.in_ok-fragments.ensures.1 ∙ e)).1 in
    let two = (first_words _ _ _ _ (sym c.in_ok-need.ensures.1 ∙ one)).1 in
    let three = (first_words _ _ _ _ (sym c.in_ok-shards.ensures.1 ∙ two)).1 in
    c.in_err-blur.ensures g.blur [] (omega (arith, fits.limits.blur)) three)

-- the words that were read are those of the geometry
four_words : (words one two three four : List (List ℕ)) (fragments need shards blur : ℕ) → words ≡ decimal fragments ∷ one → one ≡ decimal need ∷ two → two ≡ decimal shards ∷ three → three ≡ decimal blur ∷ four → four ≡ []
    → words ≡ geometry_words (record { fragments = fragments; need = need; shards = shards; blur = blur })
four_words words one two three four fragments need shards blur a b c d e = cc

fits_rack : (rack : Rack) (g : Geometry) → FitsIn rack.groups g → FitsGeometry rack g
fits_rack rack g f = record { limits = f.geometry; groups = f.apart }

fits_in : (rack : Rack) (g : Geometry) → FitsGeometry rack g → FitsIn rack.groups g
fits_in rack g f = record { geometry = f.limits; apart = f.groups }

pub returns-then-fits : goal.returns-then-fits
returns-then-fits c = (fits_rack _ _ (c.fits.ensures.0 c.if-fits.true), four_words _ _ _ _ _ _ _ _ _ c.in_ok-fragments.ensures.1 c.in_ok-need.ensures.1 c.in_ok-shards.ensures.1 c.in_ok-blur.ensures.1 (c.in_ok-end.ensures.0 refl))

pub returns-else-fits : goal.returns-else-fits
returns-else-fits c =
    not_fitting c.args.rack.now c.args.words _
    (record { fragments = omega (arith, c.in_ok-fragments.ensures.0); need = omega (arith, c.in_ok-need.ensures.0); shards = omega (arith, c.in_ok-shards.ensures.0); blur = omega (arith, c.in_ok-blur.ensures.0) })
    (four_words _ _ _ _ _ _ _ _ _ c.in_ok-fragments.ensures.1 c.in_ok-need.ensures.1 c.in_ok-shards.ensures.1 c.in_ok-blur.ensures.1 (c.in_ok-end.ensures.0 refl))
    (λ fits. true≢false (sym (c.fits.ensures.1 (fits_in _ _ fits)) ∙ c.if-fits.false))
