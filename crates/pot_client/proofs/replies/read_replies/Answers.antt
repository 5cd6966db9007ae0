use Rattle.std.proofs.Common.{◌≡◌, ◌<◌, ◌++◌, ℕ, true, false, List, [], ◌∷◌, length, refl, sym, ap, ◌∙◌, append-nil, arith}
use Rattle.std.specs.Prelude.{◌==◌, flat_map}
use Rattle.std.proofs.lemmas.Bool.{eqb-true}
use Rattle.std.proofs.lemmas.Bool.Decides.{nat_tests}
use Rattle.pot_script.specs.declared.reply.Reply.{Reply}
use Rattle.pot_script.specs.Replies.{reply_text}
use Rattle.pot_client.specs.ReplyTexts.{ArePrinted, NoReplyAt}
use Rattle.pot_client.specs.ReplyWords.{IsReply}
use Rattle.pot_client.proofs.LineLemmas.{reply_text-some}
use Rattle.pot_client.proofs.ReplyLemmas.{reply_code}
use Rattle.pot_client.proofs.SequenceLemmas.{IsReadTo, one_list, stops}
use Rattle.pot_client.proofs.replies.read_replies.Goals as goal

-- where bytes are left and no reply is next, all bytes are those of no replies
no_replies : (bytes : List ℕ) (done : List Reply) (left inside : List ℕ) → IsReadTo reply_text IsReply bytes done left → NoReplyAt left → inside ≡ left → (length inside == 0) ≡ false
    → (rs : List Reply) → ArePrinted bytes rs → ⊥
no_replies bytes done left inside read none same test rs are =
    let some : 0 < length inside = grind (arith, nat_tests) in
    stops reply_text IsReply reply_code reply_text-some done rs left read.each are.0 (omega (arith, some, ap (λ (l : List ℕ). length l) same)) none
    (sym read.whole ∙ are.1 ∙ sym (append-nil (flat_map reply_text rs)))

nothing : (l : List ℕ) → length l ≡ 0 → l ≡ []
nothing [] h = refl
nothing (b ∷ l) h = absurd (omega arith)

-- where none are left, these are the replies
just_these : (bytes : List ℕ) (done : List Reply) (left inside : List ℕ) → IsReadTo reply_text IsReply bytes done left → inside ≡ left → (length inside == 0) ≡ true
    → (rs : List Reply) → ArePrinted bytes rs → done ≡ rs
just_these bytes done left inside read same test rs are =
    let none = eqb-true (length inside) 0 test in
    one_list reply_text IsReply reply_code reply_text-some done rs read.each are.0
    (ap (λ (l : List ℕ). flat_map reply_text done ++ l) (sym (sym same ∙ nothing inside none)) ∙ sym read.whole ∙ are.1 ∙ sym (append-nil (flat_map reply_text rs)))

pub returns-in-None-clause-read : goal.returns-in-None-clause-read
returns-in-None-clause-read c =
    no_replies c.args.bytes.now c.loop-text.replies.items c.loop-text.text c.text.inside.left.now c.loop-text.invariant (rw c.in-None.is at c.in_ok-reply.ensures.read).0 c.text.view_is
    (sym c.loop-text-test.ensures)

pub returns-in-None-clause-back : goal.returns-in-None-clause-back
returns-in-None-clause-back c =
    no_replies c.args.bytes.now c.loop-text.replies.items c.loop-text.text c.text.inside.left.now c.loop-text.invariant (rw c.in-None.is at c.in_ok-reply.ensures.read).0 c.text.view_is
    (sym c.loop-text-test.ensures)

pub returns-clause-back : goal.returns-clause-back
returns-clause-back c =
    just_these c.args.bytes.now c.loop-text.replies.items c.loop-text.text c.text.inside.left.now c.loop-text.invariant c.text.view_is
    (sym c.loop-text-test.ensures)
