-- Rings of which some shares were altered.
use Rattle.std.proofs.Common.{◌≡◌, ◌↔◌, ℕ, suc, ◌+◌, ◌<◌, ◌≤◌, Bool, true, false, cond, List, [], ◌∷◌, map, length, get_or, nat_eq, refl, sym, ap, ◌∙◌, subst, arith}
use Rattle.std.specs.Cmp.Lexicographic.{same_text}
use Rattle.std.specs.Str.{bytes_eq}
use Rattle.std.proofs.lemmas.Bool.{eq-eqb}
use Rattle.std.proofs.lemmas.List.{length-map, ext_get_or}
use Rattle.std.proofs.lemmas.Simd.{map-map}
use Rattle.pot_bytes.specs.Lists.{AreBytes}
use Rattle.pot_chains.specs.Paths.{last_of, AreLinked, AreAll}
use Rattle.pot_gf.specs.Polynomials.{PassesThrough}
use Rattle.pot_joins.specs.Joins.{IsOnOne}
use Rattle.pot_robust.specs.Robust.{agreements, borne, AreValues}
use Rattle.pot_robust.proofs.RobustLemmas.{unique_law}
use Rattle.pot_shard.specs.LinkedRings.{IsLinked}
use Rattle.pot_shard.specs.declared.shard.Shard.{Shard}
use Rattle.pot_recover.specs.Altered.{without_share, HasOtherShares, distance, altered_shares, borne_of, AlteredLaws}
use Rattle.pot_recover.specs.Held.{IsHeld}
use Rattle.pot_recover.specs.Recovered.{IsClosedIn}
use Rattle.pot_recover.specs.Rings.{IsRing, points_of, bytes_at, need_of, ClosesRing}
use Rattle.pot_recover.specs.Robust.{IsRobustAt, ClosesRobustlyAsRing, IsRobustlyClosedIn}
use Rattle.pot_recover.proofs.RingLemmas.{all_weaker, samples}

one_of : (b : Bool) (m n k : ℕ) → k ≤ m + n → suc k ≤ cond b 1 0 + m + (cond b 0 1 + n)
one_of true m n k h = omega (arith, h)
one_of false m n k h = omega (arith, h)

-- a polynomial through some values has each of the others that was not altered
agree : (p points values others : List ℕ) → PassesThrough points values p → length values ≡ length points → length others ≡ length points
    → length points ≤ agreements p points others + distance values others
agree p [] values others through lv lo = omega arith
agree p (x ∷ points) [] others through lv lo = absurd (omega (arith, lv))
agree p (x ∷ points) (v ∷ values) [] through lv lo = absurd (omega (arith, lo))
agree p (x ∷ points) (v ∷ values) (w ∷ others) through lv lo =
    subst (λ u. suc (length points) ≤ cond (nat_eq u w) 1 0 + agreements p points others + (cond (nat_eq v w) 0 1 + distance values others)) (sym (through 0 (omega arith)))
    (one_of (nat_eq v w) (agreements p points others) (distance values others) (length points)
    (agree p points values others (λ i lt. through (suc i) (omega (arith, lt))) (omega (arith, lv)) (omega (arith, lo))))

robust_at : (m : ℕ) (points values others : List ℕ) (byte : ℕ) → length values ≡ length points → length others ≡ length points
    → distance values others ≤ borne (length points) m → IsOnOne m points values byte → IsRobustAt m points others byte
robust_at m points values others byte lv lo few (p, bytes, degree, through, constant) = (
  p,
  record { bytes = bytes; degree = degree; agrees = omega (arith, agree p points values others through lv lo, few) },
  constant,
)

-- what is the same where the shares alone are others
points_same : (ring altered : List Shard) → HasOtherShares ring altered → points_of altered ≡ points_of ring
points_same ring altered e =
    sym (map-map (λ (s : Shard). s.x) without_share altered) ∙ (ap points_of e ∙ map-map (λ (s : Shard). s.x) without_share ring)

length_same : (ring altered : List Shard) → HasOtherShares ring altered → length altered ≡ length ring
length_same ring altered e = sym (length-map altered without_share) ∙ (ap length e ∙ length-map ring without_share)

need_same : (ring altered : List Shard) → HasOtherShares ring altered → need_of altered ≡ need_of ring
need_same ring altered e = sym (bare altered) ∙ (ap need_of e ∙ bare ring)
  where
    bare : (c : List Shard) → need_of (map without_share c) ≡ need_of c
    bare [] = refl
    bare (s ∷ c) = refl

-- a ring is one by all but its shares
link_bare : (s t : Shard) → IsLinked s t ↔ IsLinked (without_share s) (without_share t)
link_bare s t = (
  λ l. record { needed = l.needed; count = l.count; bits = l.bits; next = l.next; pointer = l.pointer },
  λ l. record { needed = l.needed; count = l.count; bits = l.bits; next = l.next; pointer = l.pointer },
)

links_bare : (s : Shard) (rest : List Shard) → AreLinked IsLinked s rest ↔ AreLinked IsLinked (without_share s) (map without_share rest)
links_bare s [] = (λ h. h, λ h. h)
links_bare s (t ∷ rest) =
    let here = link_bare s t in
    let more = links_bare t rest in
    (λ h. (here.0 h.0, more.0 h.1), λ h. (here.1 h.0, more.1 h.1))

last_bare : (s : Shard) (rest : List Shard) → last_of (without_share s) (map without_share rest) ≡ without_share (last_of s rest)
last_bare s [] = refl
last_bare s (t ∷ rest) = last_bare t rest

ring_bare : (c : List Shard) → IsRing c ↔ IsRing (map without_share c)
ring_bare [] = (λ h. h, λ h. h)
ring_bare (s ∷ rest) =
    let long = length-map rest without_share in
    let links = links_bare s rest in
    let turn = link_bare (last_of s rest) s in
    let last = last_bare s rest in (
      λ (first, count, linked, back).
          (first, omega (arith, count, long), links.0 linked, subst (λ (t : Shard). IsLinked t (without_share s)) (sym last) (turn.0 back)),
      λ (first, count, linked, back).
          (first, omega (arith, count, long), links.1 linked, turn.1 (subst (λ (t : Shard). IsLinked t (without_share s)) last back)),
    )

ring_same : (ring altered : List Shard) → HasOtherShares ring altered → IsRing ring → IsRing altered
ring_same ring altered e is = (ring_bare altered).1 (subst IsRing (sym e) ((ring_bare ring).0 is))

places_law : (ring altered : List Shard) (content : List ℕ) → HasOtherShares ring altered
    → ((k : ℕ) → k < 992 → distance (bytes_at k ring) (bytes_at k altered) ≤ borne_of ring)
    → IsRing ring → ClosesRing ring content → ClosesRobustlyAsRing altered content
places_law ring altered content e few is closes = (
  ring_same ring altered e is,
  record {
    places = λ k lt.
        subst (λ m. IsRobustAt m (points_of altered) (bytes_at k altered) (get_or content k 0)) (sym (need_same ring altered e))
        (subst (λ (p : List ℕ). IsRobustAt (need_of ring) p (bytes_at k altered) (get_or content k 0)) (sym (points_same ring altered e))
        (robust_at (need_of ring) (points_of ring) (bytes_at k ring) (bytes_at k altered) (get_or content k 0)
        (bytes_long k ring ∙ sym long) (bytes_long k altered ∙ (length_same ring altered e ∙ sym long))
        (subst (λ n. distance (bytes_at k ring) (bytes_at k altered) ≤ borne n (need_of ring)) (sym long) (few k lt))
        (closes.places k lt)));
    grammar = closes.grammar;
  },
)
  where
    long : length (points_of ring) ≡ length ring
    long = length-map ring (λ (s : Shard). s.x)

    bytes_long : (k : ℕ) (c : List Shard) → length (bytes_at k c) ≡ length c
    bytes_long k c = length-map c (λ (s : Shard). get_or s.share k 0)

-- no more bytes differ at a place than shares do
few_at : (k : ℕ) (ring altered : List Shard) → distance (bytes_at k ring) (bytes_at k altered) ≤ altered_shares ring altered
few_at k [] altered = omega arith
few_at k (s ∷ ss) [] = omega arith
few_at k (s ∷ ss) (t ∷ ts) = omega (arith, one (bytes_eq s.share t.share) refl, few_at k ss ts)
  where
    at_most_one : (b : Bool) → cond b 0 1 ≤ 1
    at_most_one true = omega arith
    at_most_one false = omega arith

    one : (b : Bool) → b ≡ bytes_eq s.share t.share → cond (nat_eq (get_or s.share k 0) (get_or t.share k 0)) 0 1 ≤ cond b 0 1
    one true e =
        let same = eq-eqb (get_or s.share k 0) (get_or t.share k 0) (ap (λ (l : List ℕ). get_or l k 0) (same_text s.share t.share e)) in
        subst (λ b. cond b 0 1 ≤ 0) (sym same) (omega arith)
    one false e = at_most_one (nat_eq (get_or s.share k 0) (get_or t.share k 0))

shares_law : (ring altered : List Shard) (content : List ℕ) → HasOtherShares ring altered → altered_shares ring altered ≤ borne_of ring
    → IsRing ring → ClosesRing ring content → ClosesRobustlyAsRing altered content
shares_law ring altered content e few = places_law ring altered content e (λ k lt. omega (arith, few_at k ring altered, few))

distance_self : (xs : List ℕ) → distance xs xs ≡ 0
distance_self [] = refl
distance_self (x ∷ xs) = omega (arith, ap {B = ℕ} (λ b. cond b 0 1) (eq-eqb x x refl), distance_self xs)

plain_law : (blocks : List (List ℕ)) (bits : ℕ) (content : List ℕ) → IsClosedIn blocks bits content → IsRobustlyClosedIn blocks bits content
plain_law blocks bits content (ring, held, is, closes) =
    let same = places_law ring ring content refl (λ k lt. omega (arith, distance_self (bytes_at k ring))) is closes in
    (ring, held, same.0, same.1)

only_law : (blocks : List (List ℕ)) (bits : ℕ) (ring : List Shard) (a b : List ℕ) → ((s : Shard) → IsHeld blocks bits s → AreBytes s.share)
    → AreAll (IsHeld blocks bits) ring → ClosesRobustlyAsRing ring a → ClosesRobustlyAsRing ring b → a ≡ b
only_law blocks bits [] a b bytes held ca cb = absurd ca.0
only_law blocks bits (s ∷ rest) a b bytes held ca cb =
    ext_get_or 0 a b (long a ca ∙ sym (long b cb)) (λ k lt.
    let less : k < 992 = omega (arith, lt, long a ca) in
    let ra = ca.1.places k less in
    let rb = cb.1.places k less in
    sym ra.2 ∙ (unique_law s.m (points_of ring) (bytes_at k ring) ra.0 rb.0 (values k) ra.1 rb.1 0 ∙ rb.2))
  where
    ring : List Shard
    ring = s ∷ rest

    long : (c : List ℕ) → ClosesRobustlyAsRing (s ∷ rest) c → length c ≡ 992
    long c closes = closes.1.grammar.1.long

    is : IsRing (s ∷ rest)
    is = ca.0

    values : (k : ℕ) → AreValues s.m (points_of (s ∷ rest)) (bytes_at k (s ∷ rest))
    values k =
        let shard = held.0.2.shard in
        let w = samples s rest is.0 is.2 (omega (arith, is.1)) shard.n_last (all_weaker (IsHeld blocks bits) (λ (t : Shard). AreBytes t.share) bytes (s ∷ rest) held) k in
        record {
          points_bytes = w.points_bytes;
          values_bytes = w.values_bytes;
          distinct = w.distinct;
          paired = w.paired;
          first = shard.m_first;
          last = omega (arith, length-map (s ∷ rest) (λ (t : Shard). t.x), is.1, shard.m_last);
        }

pub altered_laws : AlteredLaws
altered_laws = record { shares = shares_law; places = places_law; only = only_law; plain = plain_law }
