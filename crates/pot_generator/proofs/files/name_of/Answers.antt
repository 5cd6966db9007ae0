use Rattle.std.proofs.Common.{◌≡◌, ℕ, ◌∷◌, List, length, sym, ap, subst, ◌∙◌, arith}
use Rattle.std.specs.Prelude.{decimal}
use Rattle.pot_bytes.specs.Names.{IsName}
use Rattle.pot_generator.proofs.NameLemmas.{few_digits, letter_and_digits, name_is}
use Rattle.pot_generator.proofs.files.name_of.Goals as goal

pub put_digits-requires : goal.put_digits-requires
put_digits-requires c =
    let digits : c.as_bytes-digits.result.now ≡ decimal c.args.place = c.as_bytes-digits.ensures.value ∙ c.format.ensures.text in
    omega (arith, (few_digits c.args.place c.requires).1, ap (λ (l : List ℕ). length l) digits)

pub unreachable-requires : goal.unreachable-requires
unreachable-requires c =
    let digits : c.as_bytes-digits.result.now ≡ decimal c.args.place = c.as_bytes-digits.ensures.value ∙ c.format.ensures.text in
    let text = letter_and_digits c.put_digits.new.text c.as_bytes-digits.result.now _ c.put_digits.ensures ∙ ap (λ (l : List ℕ). 102 ∷ l) digits in
    c.in_default.ensures (subst IsName (sym text) (name_is c.args.place c.requires))
