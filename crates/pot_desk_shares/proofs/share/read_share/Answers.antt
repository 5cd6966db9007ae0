use Rattle.std.proofs.Common.{◌≡◌, ◌≤◌, ◌+◌, ◌-◌, ℕ, List, length, take, drop, IsTrue, false, refl, ap, sym, subst, ◌∙◌, arith, length-drop}
use Rattle.std.proofs.lemmas.List.{length-take-le}
use Rattle.pot_bytes.specs.Lists.{AreBytes}
use Rattle.pot_desk_shares.specs.Shares.{body_of, head_at, IsShareHead, IsShare}
use Rattle.pot_desk_shares.specs.declared.share.ShareHead.{ShareHead}
use Rattle.pot_desk_shares.proofs.FormatLemmas.{body_of-share, framed-share, head_at-share, length-share_bytes, IsShare-from_parts}
use Rattle.pot_desk_shares.proofs.share.read_share.Goals as goal
use Rattle.pot_desk_shares.proofs.share.read_share.Goals.{else-is_head-via-then-is_head+then-body-head+else-is_framed, else-is_head-via-then-is_head+else-body-head, else-is_head-via-else-is_head}

pub returns-then-bytes-lt64 : goal.returns-then-bytes-lt64
returns-then-bytes-lt64 c h body is =
    omega (arith, c.if-bytes-lt64.true, ap length is.spelled, length-share_bytes h body)

-- the bytes between the head and the digest
between : (bytes : List ℕ) → take (length bytes - 32 - 32) (drop 32 bytes) ≡ body_of bytes
between bytes = let n : length bytes - 32 - 32 ≡ length bytes - 64 = omega arith in ap (λ (z : ℕ). take z (drop 32 bytes)) n

long_between : (bytes : List ℕ) → 64 ≤ length bytes → length (take (length bytes - 32 - 32) (drop 32 bytes)) ≡ length bytes - 64
long_between bytes long =
    ap length (between bytes) ∙ length-take-le (length bytes - 64) (drop 32 bytes) (omega (arith, length-drop {A = ℕ} 32 bytes))

pub returns-then-is_framed : goal.returns-then-is_framed
returns-then-is_framed c =
    let bytes = c.args.bytes.now in
    let small : AreBytes bytes = λ i. (c.type_inv.bytes i).fits in
    let long : 64 ≤ length bytes = omega (arith, c.if-bytes-lt64.false) in
    let here = c.head_in-head.ensures in
    let ok : IsShareHead (head_at bytes) = subst IsShareHead here (c.if-is_head.ensures.0 refl) in
    let whole : length (body_of bytes) ≡ (head_at bytes).length + 32 =
    omega (arith, c.if-body-head.true, ap length (between bytes), ap (λ (z : ShareHead). z.length) here, long_between bytes long) in
    subst (λ (z : ShareHead). IsShare z (take (length bytes - 32 - 32) (drop 32 bytes)) bytes) (sym here)
    (subst (λ (z : List ℕ). IsShare (head_at bytes) z bytes) (sym (between bytes))
    (IsShare-from_parts bytes small long ok whole (c.if-is_framed.ensures.0 refl)))

pub returns-else-is_head : goal.returns-else-is_head
returns-else-is_head c h body is =
    let bytes = c.args.bytes.now in
    let long : 64 ≤ length bytes = omega (arith, c.if-bytes-lt64.false) in
    let same : h ≡ c.head_in-head.result = sym (head_at-share h body bytes is) ∙ sym c.head_in-head.ensures in
    elim c.else-is_head.branch [
      | else-is_head-via-then-is_head+then-body-head+else-is_framed w ↦
          let yes : IsTrue false = w.if-is_framed.ensures.1 (framed-share h body bytes is) in
          cc
      | else-is_head-via-then-is_head+else-body-head w ↦
          let middle : length (body_of bytes) ≡ h.length + 32 = ap length (body_of-share h body bytes is) ∙ is.whole in
          absurd (omega (arith, w.if-body-head.false, middle, ap length (between bytes), long_between bytes long, ap (λ (z : ShareHead). z.length) same))
      | else-is_head-via-else-is_head w ↦
          let yes : IsTrue false = w.if-is_head.ensures.1 (subst IsShareHead same is.head) in
          cc
    ]
