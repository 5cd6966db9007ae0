use Rattle.std.proofs.Common.{◌≡◌, ◌≤◌, ◌+◌, ◌*◌, ℕ, List, IfOk, length, ap, ap₂, sym, subst, ◌∙◌, arith}
use Rattle.std.proofs.lemmas.List.{take_at, take_rest}
use Rattle.pot_split.specs.Secrecy.{IsRows}
use Rattle.pot_desk_shares.specs.Shares.{share_bytes, with_digest}
use Rattle.pot_desk_shares.specs.Making.{values_at}
use Rattle.pot_split.specs.Threshold.{share}
use Rattle.pot_desk_shares.proofs.SetLemmas.{head_with, length-with_digest, rows_fit}
use Rattle.pot_desk_shares.proofs.making.make_share.Goals as goal

pub share_out-requires-clause-some : goal.share_out-requires-clause-some
share_out-requires-clause-some c =
    let text = c.args.text.now in
    let secret : c.deref.result.now ≡ with_digest text =
    c.deref.ensures.value ∙ c.in_ok-secret.ensures ∙ ap with_digest c.in_ok-from_slice.ensures.items in
    omega (arith, ap length secret, length-with_digest text)

pub share_out-requires-clause-rows : goal.share_out-requires-clause-rows
share_out-requires-clause-rows c =
    let text = c.args.text.now in
    let random = c.args.random.now in
    let secret : c.deref.result.now ≡ with_digest text =
    c.deref.ensures.value ∙ c.in_ok-secret.ensures ∙ ap with_digest c.in_ok-from_slice.ensures.items in
    let long : length c.deref.result.now ≡ length text + 32 = ap length secret ∙ length-with_digest text in
    let need : c.args.terms.now.need ≤ 16 = omega (arith, c.requires.terms.need_last, c.requires.terms.count) in
    subst (IsRows (length c.deref.result.now)) (sym (take_rest random 8))
    (rows_fit c.args.terms.now.need (length text) c.deref.result.now random need long c.requires.random).0

pub share_out-requires-clause-few : goal.share_out-requires-clause-few
share_out-requires-clause-few c =
    let text = c.args.text.now in
    let random = c.args.random.now in
    let secret : c.deref.result.now ≡ with_digest text =
    c.deref.ensures.value ∙ c.in_ok-secret.ensures ∙ ap with_digest c.in_ok-from_slice.ensures.items in
    let long : length c.deref.result.now ≡ length text + 32 = ap length secret ∙ length-with_digest text in
    let need : c.args.terms.now.need ≤ 16 = omega (arith, c.requires.terms.need_last, c.requires.terms.count) in
    subst (λ (z : List ℕ). length z ≤ 15 * length c.deref.result.now) (sym (take_rest random 8))
    (rows_fit c.args.terms.now.need (length text) c.deref.result.now random need long c.requires.random).1

pub returns : goal.returns
unfolding head_with
returns c =
    let text = c.args.text.now in
    let random = c.args.random.now in
    let secret : c.deref.result.now ≡ with_digest text =
    c.deref.ensures.value ∙ c.in_ok-secret.ensures ∙ ap with_digest c.in_ok-from_slice.ensures.items in
    let written : c.deref-2.result.now ≡ c.share_out.new.out =
    c.deref-2.ensures.value ∙ take_at c.share_out.new.out _ c.in_ok-body.body.len (c.share_out.auto.out ∙ c.deref_mut.ensures.len) in
    let values : c.deref-2.result.now ≡ values_at text random c.args.point =
    written ∙ c.share_out.ensures ∙ ap₂ (λ (a b : List ℕ). share a b c.args.point) secret (take_rest random 8) in
    subst (λ (z : List ℕ). IfOk c.share_bytes.result (λ v. v.items ≡ z))
    (ap₂ (λ (n : ℕ) (b : List ℕ). share_bytes (head_with c.args.terms.now c.args.point n (length text)) b) c.read_be64.ensures values)
    c.share_bytes.ensures
