use Rattle.std.proofs.Common.{◌++◌, ap, ◌∙◌}
use Rattle.std.specs.Prelude.{codes}
use Rattle.hex.specs.Hex.{encode_lower}
use Rattle.pot_script.specs.Replies.{spaced}
use Rattle.pot_session.proofs.generating.summary.Goals as goal

pub returns : goal.returns
returns c =
    let number = ap spaced c.from.ensures in
    let replies = ap spaced (c.from-2.ensures ∙ c.generator_replies.ensures c.args.number) in
    let digest = ap (λ b. codes " " ++ encode_lower b) c.digest_of.ensures in
    let word = c.in_ok-extend_from_slice.ensures.items ∙ ap (λ l. l ++ codes "generated") c.new-text.ensures.items in
    let one = c.in_ok-append_number.ensures.ok ∙ (λ i. word i ++ number i) in
    let two = c.in_ok-append_number-2.ensures.ok ∙ (λ i. one i ++ replies i) in
    let three = c.in_ok-extend_from_slice-2.ensures.items ∙ ap (λ l. l ++ codes "\ndigest") two in
    let four = c.in_ok-append_digest.ensures.ok ∙ (λ i. three i ++ digest i) in
    c.in_ok-extend_from_slice-3.ensures.items ∙ ap (λ l. l ++ codes "\n") four
