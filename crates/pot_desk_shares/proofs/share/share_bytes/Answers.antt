use Rattle.std.proofs.Common.{◌≡◌, ◌++◌, ◌∷◌, [], ℕ, List, IfOk, ap, ap₂, subst, ◌∙◌}
use Rattle.byteorder.specs.Endian.{big_bytes}
use Rattle.pot_desk_shares.specs.Shares.{head_bytes, magic, share_bytes, with_digest}
use Rattle.pot_desk_shares.proofs.share.share_bytes.Goals as goal

pub returns : goal.returns
unfolding head_bytes share_bytes
returns c =
    let h = c.args.head.now in
    let three : List ℕ = h.need ∷ h.count ∷ h.point ∷ [] in
    let e1 : c.extend_from_slice.new.self.items ≡ magic =
    c.in_ok-extend_from_slice.ensures.items ∙ ap (λ (z : List ℕ). z ++ magic) c.new-bytes.ensures.items in
    let e2 : c.extend_from_slice-2.new.self.items ≡ magic ++ three =
    c.in_ok-extend_from_slice-2.ensures.items ∙ ap (λ (z : List ℕ). z ++ three) e1 in
    let e3 : c.extend_from_slice-3.new.self.items ≡ (magic ++ three) ++ big_bytes 8 h.generation =
    c.in_ok-extend_from_slice-3.ensures.items ∙ ap₂ (λ (y z : List ℕ). y ++ z) e2 c.to_be_bytes.ensures in
    let e4 : c.extend_from_slice-4.new.self.items ≡ ((magic ++ three) ++ big_bytes 8 h.generation) ++ big_bytes 8 h.set =
    c.in_ok-extend_from_slice-4.ensures.items ∙ ap₂ (λ (y z : List ℕ). y ++ z) e3 c.to_be_bytes-2.ensures in
    let e5 : c.extend_from_slice-5.new.self.items ≡ head_bytes h =
    c.in_ok-extend_from_slice-5.ensures.items ∙ ap₂ (λ (y z : List ℕ). y ++ z) e4 c.to_be_bytes-3.ensures in
    let e6 : c.extend_from_slice-6.new.self.items ≡ head_bytes h ++ c.args.body.now =
    c.in_ok-extend_from_slice-6.ensures.items ∙ ap (λ (z : List ℕ). z ++ c.args.body.now) e5 in
    subst (λ (w : List ℕ). IfOk c.append_digest.result (λ v. v.items ≡ with_digest w)) e6 c.append_digest.ensures
