-- Where enough shares of a text stand among others, it is given back.
use Rattle.std.proofs.Common.{◌≡◌, ◌≤◌, ◌<◌, inl, inr, ◌+◌, ◌++◌, ◌∷◌, [], ℕ, zero, suc, List, Some, None, Result, Ok, Err, IfOk, IfErr, length, refl, ap, ap₂, sym, subst, ◌∙◌, arith, lit<}
use Rattle.std.specs.List.{flat_map, Contains}
use Rattle.std.proofs.lemmas.List.{length-map}
use Rattle.pot_bytes.specs.Lists.{AreBytes}
use Rattle.pot_bytes.proofs.Elements.{contains_later}
use Rattle.pot_split.specs.Threshold.{IsJoin}
use Rattle.std.proofs.lemmas.Bool.{cases_lt}
use Rattle.pot_desk_shares.specs.Finding.{AreFound, AreRows, IsComplete, IsLatest}
use Rattle.pot_desk_shares.specs.Joins.{at_point, point_of, points_of, AreSharesJoined, GivesTextBack, IsJoinFault, IsTextGiven, IsShareHeld, IsNewest, IsShareWhole, SetStandsIn}
use Rattle.pot_desk_shares.specs.Making.{head_of, values_at}
use Rattle.pot_desk_shares.specs.Shares.{with_digest}
use Rattle.pot_desk_shares.specs.declared.joining.JoinFault.{JoinFault}
use Rattle.pot_desk_shares.specs.declared.joining.JoinFault.TheVariants.{Damaged, Few, NoMemory, NoShare}
use Rattle.pot_desk_shares.specs.declared.joining.Joined.{Joined}
use Rattle.pot_desk_shares.specs.declared.making.Terms.{Terms}
use Rattle.pot_desk_shares.specs.declared.share.DeskShare.{DeskShare}
use Rattle.pot_desk_shares.specs.declared.share.ShareHead.{ShareHead}
use Rattle.pot_desk_shares.proofs.FindLemmas.{all_found, apart_at, complete_by_points, one_of_complete, place_in, point_bounds, AreReady}
use Rattle.pot_desk_shares.proofs.SetLemmas.{joins_law, length-with_digest, text-with_digest}

points-bytes : (chosen : List DeskShare) → ((s : DeskShare) → Contains chosen s → s.head.point < 256) → AreBytes (points_of chosen)
points-bytes [] each i = lit< tt
points-bytes (s ∷ chosen) each zero = each s (0, omega arith, refl)
points-bytes (s ∷ chosen) each (suc i) = points-bytes chosen (λ t h. each t (contains_later s t chosen h)) i

values_are : (text random : List ℕ) (chosen : List DeskShare)
    → ((s : DeskShare) → Contains chosen s → s.body.now ≡ values_at text random s.head.point)
    → flat_map (λ (s : DeskShare). s.body.now) chosen ≡ flat_map (values_at text random) (points_of chosen)
values_are text random [] each = refl
values_are text random (s ∷ chosen) each =
    ap₂ (λ (a b : List ℕ). a ++ b) (each s (0, omega arith, refl)) (values_are text random chosen (λ t h. each t (contains_later s t chosen h)))

-- the heads of one set, without their points
pub set_of : (h g : ShareHead) (x y : ℕ) → at_point h x ≡ at_point g y → at_point h 0 ≡ at_point g 0
set_of h g x y e = ap (λ (z : ShareHead). at_point z 0) e

-- what enough shares of the newest set are joined to is the text with its digest
pub joined_to : (shares : List DeskShare) (t : Terms) (text random : List ℕ) (h : ShareHead) (chosen : List DeskShare) (joined : List ℕ)
    → SetStandsIn shares t text random → AreSharesJoined shares h chosen joined → joined ≡ with_digest text
joined_to shares t text random h chosen joined stands j =
    let own_head = head_of t text random 0 in
    let newest : t.generation ≤ h.generation = j.newest own_head stands.enough.0 stands.enough.1 in
    let set : at_point h 0 ≡ own_head = elim (stands.newest h chosen j.enough) [
      | inl older ↦ absurd (omega (arith, older, newest))
      | inr same ↦ same
    ] in
    let need : h.need ≡ t.need = ap (λ (z : ShareHead). z.need) set in
    let long : h.length ≡ length text = ap (λ (z : ShareHead). z.length) set in
    let held : (s : DeskShare) → Contains chosen s → IsShareHeld shares own_head s =
    λ s c. let u = j.enough.apart.each s c in record {
      there = u.there;
      whole = u.whole;
      set = u.set ∙ ap (λ (z : ShareHead). at_point z s.head.point) set;
    } in
    joins_law t text random (points_of chosen) joined stands.set
    (points-bytes chosen (λ s c. omega (arith, (point_bounds shares own_head s (held s c)).1)))
    j.enough.apart.distinct
    (length-map chosen point_of ∙ j.enough.enough ∙ need)
    (j.join.wide ∙ ap (λ (z : ℕ). z + 32) long ∙ sym (length-with_digest text))
    (subst (λ (z : List ℕ). IsJoin (points_of chosen) z joined) (values_are text random chosen (λ s c. stands.own s (held s c))) j.join.join)

pub given_back : (shares : List DeskShare) (t : Terms) (text random : List ℕ) (j : Joined) → SetStandsIn shares t text random
    → IsTextGiven shares j → j.text.items ≡ text
given_back shares t text random j stands given =
    text-with_digest j.text.items text (joined_to shares t text random j.head given.0 (with_digest j.text.items) stands given.1)

pub only_memory : (shares : List DeskShare) (t : Terms) (text random : List ℕ) (e : JoinFault) → SetStandsIn shares t text random
    → IsJoinFault shares e → e ≡ NoMemory
only_memory shares t text random NoShare stands none =
    let one = one_of_complete shares (head_of t text random 0) stands.enough.0 stands.enough.1 in
    absurd (none one.0 one.2.there one.2.whole)
only_memory shares t text random (Few h have) stands few = absurd (few.0 (head_of t text random 0) stands.enough.0 stands.enough.1)
only_memory shares t text random (Damaged h) stands bad =
    absurd (bad.3 text (joined_to shares t text random h bad.0 bad.1 stands bad.2))
only_memory shares t text random NoMemory stands none = refl

pub gives : (shares : List DeskShare) (r : Result Joined JoinFault) → IfOk r (λ j. IsTextGiven shares j) → IfErr r (λ e. IsJoinFault shares e)
    → (t : Terms) (text random : List ℕ) → SetStandsIn shares t text random → GivesTextBack text r
gives shares (Ok j) given fault t text random stands = given_back shares t text random j stands given
gives shares (Err e) given fault t text random stands = only_memory shares t text random e stands fault

-- what the rows of enough shares are joined to
pub joined_of : (shares : List DeskShare) (h : ShareHead) (chosen : List DeskShare) (points values whole : List ℕ)
    → AreReady shares h chosen points values → AreRows shares h chosen points values → IsNewest shares h
    → length whole ≡ h.length + 32 → IsJoin points values whole → AreSharesJoined shares h chosen whole
joined_of shares h chosen points values whole r rows newest wide join = record {
  enough = r.enough;
  newest = newest;
  join = record {
    wide = wide;
    join = subst (λ (z : List ℕ). IsJoin z (flat_map (λ (s : DeskShare). s.body.now) chosen) whole) (sym rows.stand)
        (subst (λ (z : List ℕ). IsJoin points z whole) (sym rows.rows) join);
  };
}

-- why none is given
pub none_told : (shares : List DeskShare) → IsLatest shares IsShareWhole (length shares) None → IsJoinFault shares NoShare
none_told shares none s there whole = let at = place_in shares s there in none at.0 s at.1 at.2 whole

pub few_told : (shares : List DeskShare) (h : ShareHead) (points : List ℕ) (have : ℕ) → ((g : ShareHead) → ¬ IsComplete shares g)
    → IsLatest shares IsShareWhole (length shares) (Some h) → AreFound shares h 17 points → have ≡ length points → IsJoinFault shares (Few h have)
few_told shares h points have none latest f count =
    let found = latest.0 in
    let some : 1 ≤ h.need = omega (arith, found.2.head.need_first, ap (λ (z : ShareHead). z.need) found.3) in
    let less : length points < h.need = elim (cases_lt (length points) h.need) [
      | inl lt ↦ lt
      | inr ge ↦ (let same : length points ≡ h.need = omega (arith, ge, f.few) in absurd (none h (complete_by_points shares h points f some same)))
    ] in
    let c = apart_at shares h points f in (
      λ g chosen e. none g (chosen, e),
      λ s there whole. let at = place_in shares s there in latest.1 at.0 s at.1 at.2 whole,
      omega (arith, less, count),
      (c.0, c.1, c.2 ∙ sym count),
      λ chosen apart. omega (arith, all_found shares h points chosen f less apart, count),
    )
