use Rattle.std.proofs.Common.{sym, ◌∙◌}
use Rattle.pot_script.proofs.CommandLemmas.{first_words}
use Rattle.pot_client.specs.ReplyTexts.{IsReplyLineOf}
use Rattle.pot_client.specs.declared.kind.ReplyKind.TheVariants as kinds
use Rattle.pot_client.proofs.KindLemmas.{only_lost}
use Rattle.pot_client.proofs.rare.read_lost.Goals as goal

pub returns-in_err-fragment : goal.returns-in_err-fragment
returns-in_err-fragment c =
    rw c.from_residual-in_err-fragment.ensures (λ r at.
    only_lost (λ d. IsReplyLineOf kinds.Lost c.args.words d → ⊥) (λ name piece fragment have need is.
    let one = (first_words _ _ _ _ (sym c.in_ok-name.ensures.1 ∙ is.words_are)).1 in
    let two = (first_words _ _ _ _ (sym c.in_ok-piece.ensures.1 ∙ one)).1 in
    c.in_err-fragment.ensures fragment _ is.is.2 two) r at.kind_is at)

pub returns-in_err-have : goal.returns-in_err-have
returns-in_err-have c =
    rw c.from_residual-in_err-have.ensures (λ r at.
    only_lost (λ d. IsReplyLineOf kinds.Lost c.args.words d → ⊥) (λ name piece fragment have need is.
    let one = (first_words _ _ _ _ (sym c.in_ok-name.ensures.1 ∙ is.words_are)).1 in
    let two = (first_words _ _ _ _ (sym c.in_ok-piece.ensures.1 ∙ one)).1 in
    let three = (first_words _ _ _ _ (sym c.in_ok-fragment.ensures.1 ∙ two)).1 in
    c.in_err-have.ensures have _ is.is.3 three) r at.kind_is at)

pub returns-in_err-need : goal.returns-in_err-need
returns-in_err-need c =
    rw c.from_residual-in_err-need.ensures (λ r at.
    only_lost (λ d. IsReplyLineOf kinds.Lost c.args.words d → ⊥) (λ name piece fragment have need is.
    let one = (first_words _ _ _ _ (sym c.in_ok-name.ensures.1 ∙ is.words_are)).1 in
    let two = (first_words _ _ _ _ (sym c.in_ok-piece.ensures.1 ∙ one)).1 in
    let three = (first_words _ _ _ _ (sym c.in_ok-fragment.ensures.1 ∙ two)).1 in
    let four = (first_words _ _ _ _ (sym c.in_ok-have.ensures.1 ∙ three)).1 in
    c.in_err-need.ensures need _ is.is.4 four) r at.kind_is at)
