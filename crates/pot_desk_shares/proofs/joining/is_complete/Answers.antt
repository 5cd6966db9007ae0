use Rattle.std.proofs.Common.{◌≡◌, length, refl, ap, sym, ◌∙◌}
use Rattle.std.proofs.lemmas.Bool.Decides.{Decides-eqb}
use Rattle.pot_desk_shares.specs.Finding.{AreFound}
use Rattle.pot_desk_shares.proofs.FindLemmas.{complete_by_points, points_of_complete}
use Rattle.pot_desk_shares.proofs.joining.is_complete.Goals as goal

pub returns : goal.returns
returns c =
    let shares = c.args.shares.now in
    let head = c.args.share.now.head in
    let points = c.in_ok-points.points.items in
    let whole = c.if-not-is_whole.ensures.0 refl in
    let same = Decides-eqb (length c.as_slice.result.now) c.from.result in
    let found : AreFound shares head 17 points = c.in_ok-points.ensures in
    let long : length c.as_slice.result.now ≡ length points = ap length c.as_slice.ensures.value in (
      λ yes. (whole, complete_by_points shares head points found whole.head.need_first (sym long ∙ same.0 yes ∙ c.from.ensures)),
      λ of. same.1 (long ∙ points_of_complete shares head points found of.1 ∙ sym c.from.ensures),
    )
