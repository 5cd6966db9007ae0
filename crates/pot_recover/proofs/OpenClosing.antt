-- What the shares of a chain of m mean is what they lie on one polynomial with.
use Rattle.std.proofs.Common.{◌≡◌, ◌↔◌, ℕ, ◌<◌, ◌≤◌, List, map, length, get_or, sym, ◌∙◌, subst, arith}
use Rattle.std.proofs.lemmas.List.{length-map}
use Rattle.pot_chains.proofs.ListedLemmas.{in_map}
use Rattle.pot_joins.specs.Joins.{IsOnOne, AreSamples}
use Rattle.pot_joins.proofs.JoinLemmas.{through}
use Rattle.pot_gf.proofs.Values.{value-same, value-at_zero}
use Rattle.pot_gf.proofs.Zeros.{unique_law}
use Rattle.pot_recover.specs.HeldShards.{shard_of, point_of, bytes_held, AreWhole, HaveBytes, IsFixedBy}
use Rattle.pot_recover.specs.OpenScopes.{IsJoinable}
use Rattle.pot_recover.specs.Points.{ArePoints}
use Rattle.pot_recover.specs.Rings.{points_of, bytes_at, need_of, IsAnyContent, ClosesRing}
use Rattle.pot_recover.specs.declared.held.Held.{Held}
use Rattle.pot_recover.proofs.ContentLemmas.{samples_of, one_content}
use Rattle.pot_recover.proofs.NextLemmas.{points_same, bytes_same}

module _ (bits : ℕ) (chain : List Held) (w : IsJoinable (map (shard_of bits) chain)) where
  pub open_long : length chain ≡ length (map (shard_of bits) chain)
  open_long = sym (length-map chain (shard_of bits))

  pub open_some : 0 < length chain
  open_some = let some = w.some in omega (arith, open_long, some)

  pub open_few : length chain ≤ 16
  open_few = let few = w.few in omega (arith, open_long, few)

  pub open_whole : AreWhole chain
  open_whole h there = (w.holdable (shard_of bits h) (in_map (shard_of bits) chain h there)).whole

  pub open_bytes : HaveBytes chain
  open_bytes h there = (w.holdable (shard_of bits h) (in_map (shard_of bits) chain h there)).bytes

  pub open_points : ArePoints (map point_of chain)
  open_points = subst ArePoints (sym (points_same bits chain)) w.points

  samples : (k : ℕ) → AreSamples (map point_of chain) (bytes_held k chain)
  samples k = samples_of chain open_points open_bytes k

  as_many : length (map point_of chain) ≡ need_of (map (shard_of bits) chain)
  as_many = length-map chain point_of ∙ (open_long ∙ w.whole)

  -- one polynomial through the shares, by what is held and by the shards
  on_held : (k byte : ℕ) → IsOnOne (need_of (map (shard_of bits) chain)) (points_of (map (shard_of bits) chain)) (bytes_at k (map (shard_of bits) chain)) byte
      → IsOnOne (length (map point_of chain)) (map point_of chain) (bytes_held k chain) byte
  on_held k byte h =
      subst (λ m. IsOnOne m (map point_of chain) (bytes_held k chain) byte) (sym as_many)
      (subst (λ (p : List ℕ). IsOnOne (need_of (map (shard_of bits) chain)) p (bytes_held k chain) byte) (sym (points_same bits chain))
      (subst (λ (b : List ℕ). IsOnOne (need_of (map (shard_of bits) chain)) (points_of (map (shard_of bits) chain)) b byte) (sym (bytes_same bits k chain)) h))

  on_shards : (k byte : ℕ) → IsOnOne (length (map point_of chain)) (map point_of chain) (bytes_held k chain) byte
      → IsOnOne (need_of (map (shard_of bits) chain)) (points_of (map (shard_of bits) chain)) (bytes_at k (map (shard_of bits) chain)) byte
  on_shards k byte h =
      subst (λ (b : List ℕ). IsOnOne (need_of (map (shard_of bits) chain)) (points_of (map (shard_of bits) chain)) b byte) (bytes_same bits k chain)
      (subst (λ (p : List ℕ). IsOnOne (need_of (map (shard_of bits) chain)) p (bytes_held k chain) byte) (points_same bits chain)
      (subst (λ m. IsOnOne m (map point_of chain) (bytes_held k chain) byte) as_many h))

  fixed_closes : (c : List ℕ) → IsFixedBy chain 0 c → IsAnyContent c → ClosesRing (map (shard_of bits) chain) c
  fixed_closes c fixed any = record {
    places = λ k lt.
        let r = through (map point_of chain) (bytes_held k chain) (samples k) in
        on_shards k (get_or c k 0) (r.0, r.1, r.2, r.3, sym (value-at_zero r.0 r.1) ∙ sym (fixed k lt r.0 r.1 r.2 r.3));
    grammar = any;
  }

  closes_fixed : (c : List ℕ) → ClosesRing (map (shard_of bits) chain) c → IsFixedBy chain 0 c
  closes_fixed c closes k lt q bytes below passes =
      let p = on_held k (get_or c k 0) (closes.places k lt) in
      let s = samples k in
      sym p.4 ∙ (sym (value-at_zero p.0 p.1) ∙ value-same p.0 q 0 (unique_law (map point_of chain) (bytes_held k chain) p.0 q s.points_bytes p.1 bytes s.distinct p.2 below p.3 passes))

  -- the one content that it gives
  pub gives_one : (content : List ℕ) → IsFixedBy chain 0 content → IsAnyContent content → (c : List ℕ) → (content ≡ c) ↔ ClosesRing (map (shard_of bits) chain) c
  gives_one content fixed any c = (
    λ e. subst (ClosesRing (map (shard_of bits) chain)) e (fixed_closes content fixed any),
    λ closes. one_content chain open_points open_bytes content c any.1.long closes.grammar.1.long fixed (closes_fixed c closes),
  )

  pub gives_none : ((c : List ℕ) → IsFixedBy chain 0 c → ¬ IsAnyContent c) → (c : List ℕ) → ¬ ClosesRing (map (shard_of bits) chain) c
  gives_none none c closes = none c (closes_fixed c closes) closes.grammar
