use Rattle.std.proofs.Common.{◌≡◌, ◌≢◌, ℕ, List, [], ◌∷◌, ◌++◌, length, sym, ap, ◌∙◌, append_assoc}
use Rattle.std.specs.Prelude.{codes, decimal}
use Rattle.pot_script.specs.declared.reply.Reply.{Reply}
use Rattle.pot_client.specs.declared.kind.ReplyKind.TheVariants as kinds
use Rattle.pot_client.specs.ReplyTexts.{IsReplyLineOf}
use Rattle.pot_client.specs.ReplyWords.{IsReplyNumber, behind}
use Rattle.pot_client.proofs.FieldLemmas.{same_sized}
use Rattle.pot_client.proofs.KindLemmas.{only_file}
use Rattle.pot_client.proofs.replies.Replies.file.Goals as goal

-- a line of a file whose bytes, or their LF, are not next
unfinished : (words : List (List ℕ)) (name rest old : List ℕ) (n : ℕ) → IsReplyNumber n → words ≡ name ∷ decimal n ∷ [] → rest ≡ old
    → ((front back : List ℕ) → length front ≡ n → rest ≢ front ++ 10 ∷ back)
    → (r : Reply) (after : List ℕ) → IsReplyLineOf kinds.File words r → old ≢ behind r ++ after
unfinished words name rest old n small words_are same none r after at e =
    only_file (λ d. IsReplyLineOf kinds.File words d → old ≡ behind d ++ after → ⊥) (λ other file is f.
    let sized = same_sized name other n (length file) small is.is.1 (sym words_are ∙ is.words_are) in
    none file after (sym (ap (λ (t : List ℕ × ℕ). t.1) sized)) (same ∙ f ∙ append_assoc file (codes "\n") after)) r at.kind_is at e

pub returns-in_default : goal.returns-in_default
returns-in_default c = λ r after at e.
    only_file (λ d. IsReplyLineOf kinds.File c.args.words d → ⊥) (λ name bytes is. c.in_default.ensures (name, length bytes) (is.is.0, is.is.1, is.words_are)) r at.kind_is at

pub returns-in_default-cut_after : goal.returns-in_default-cut_after
returns-in_default-cut_after c =
    unfinished c.args.words _ c.self.inside.left.now c.args.self.now _ c.in-Some.ensures.0.1 c.in-Some.ensures.0.2 c.self.view_is c.in_default-cut_after.ensures
