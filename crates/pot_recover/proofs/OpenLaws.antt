-- What a ring gives, an open chain of its first m shards gives too.
use Rattle.std.proofs.Common.{◌≡◌, inl, inr, ℕ, zero, suc, ◌+◌, ◌-◌, ◌<◌, Bool, true, false, List, [], ◌∷◌, ◌++◌, map, length, take, drop, nat_eq, eqb-true, eq-eqb, refl, sym, ap, ◌∙◌, subst, arith, take-append-drop}
use Rattle.std.specs.Prelude.{if◌then◌else◌}
use Rattle.std.specs.List.{Contains}
use Rattle.std.proofs.lemmas.Bool.{cases_lt, false≢true}
use Rattle.std.proofs.lemmas.List.{length-map, length-take-le}
use Rattle.std.proofs.lemmas.List.Elements.{Contains-get_or}
use Rattle.pot_bytes.specs.declared.rack.Geometry.{Geometry}
use Rattle.pot_chains.specs.Listed.{IsIn}
use Rattle.pot_chains.specs.Paths.{AreAll, AreLinked}
use Rattle.pot_gf.specs.Polynomials.{value, IsBelowDegree}
use Rattle.pot_object.specs.Pieces.{pieces_of}
use Rattle.pot_recover.specs.Held.{IsHeld}
use Rattle.pot_recover.specs.Open.{IsOpenFragmentIn}
use Rattle.pot_recover.specs.OpenStored.{HoldRun, OpenLaws, place_after, run_of}
use Rattle.pot_recover.specs.Recovered.{IsClosedIn}
use Rattle.pot_recover.proofs.RingLemmas.{all_parts, linked_parts, all_pass, passes_all, HasByte}
use Rattle.pot_recover.proofs.TopLemmas.{choice_weaker}
use Rattle.pot_recover.proofs.StoredLemmas.{closes, objects_law, ring}
use Rattle.pot_shard.specs.FileBlocks.{shard_of}
use Rattle.pot_shard.specs.FileLaws.{IsStore, content_in, shards_in}
use Rattle.pot_shard.specs.LinkedRings.{IsLinked, IsNextPoint}
use Rattle.pot_shard.specs.Places.{shard_in}
use Rattle.pot_shard.specs.Shards.{shard_bytes}
use Rattle.pot_shard.proofs.LinkLemmas.{rings_law, shards_law}
use Rattle.pot_shard.proofs.PlaceLemmas.{place_laws, shard_at}
use Rattle.pot_shard.specs.declared.shard.Shard.{Shard}

pub closed_open : (blocks : List (List ℕ)) (bits : ℕ) (content : List ℕ) → IsClosedIn blocks bits content → IsOpenFragmentIn blocks bits content
closed_open blocks bits content ([], all, ring, closes) = absurd ring
closed_open blocks bits content (s ∷ all, are_held, ring, closes) =
    let is = are_held.0.2.shard in
    let rest = take (s.m - 1) all in
    let more = drop (s.m - 1) all in
    let whole : rest ++ more ≡ all = take-append-drop (s.m - 1) all in
    let front : length rest ≡ s.m - 1 = length-take-le (s.m - 1) all (let last = is.m_last in omega (arith, ring.1, last)) in
    let long : length (s ∷ rest) ≡ s.m = let first = is.m_first in omega (arith, front, first) in
    let held_parts = all_parts (IsHeld blocks bits) (s ∷ rest) more (subst (λ l. AreAll (IsHeld blocks bits) (s ∷ l)) (sym whole) are_held) in
    let links = linked_parts IsLinked s rest more (subst (AreLinked IsLinked s) (sym whole) ring.2) in (
      s ∷ rest,
      (held_parts.0, links.0, omega (arith, long)),
      long,
      record {
        places = λ k lt.
            let one = closes.places k lt in
            let parts = all_parts (HasByte k one.0) (s ∷ rest) more (subst (λ l. AreAll (HasByte k one.0) (s ∷ l)) (sym whole) (all_pass k one.0 (s ∷ all) one.3)) in
            (one.0, one.1, one.2, passes_all k one.0 (s ∷ rest) parts.0, one.4);
        grammar = closes.grammar;
      },
    )

-- THE SHARDS THAT FOLLOW ONE ANOTHER

place_next : (n p : ℕ) → p < n → IsNextPoint n (p + 1) (place_after n p + 1)
place_next n p less = by (nat_eq (p + 1) n) refl
  where
    by : (b : Bool) → nat_eq (p + 1) n ≡ b → IsNextPoint n (p + 1) ((if b then 0 else p + 1) + 1)
    by true e = inr (eqb-true (p + 1) n e, refl)
    by false e = inl ((elim (cases_lt (p + 1) n) [ inl low ↦ low | inr high ↦ absurd (false≢true (sym e ∙ eq-eqb (p + 1) n (omega (arith, less, high)))) ]), refl)

place_within : (n p : ℕ) → p < n → place_after n p < n
place_within n p less = elim (place_next n p less) [ inl on ↦ omega (arith, on.0, on.1) | inr turned ↦ omega (arith, turned.1, less) ]

run_within : (n p k : ℕ) → p < n → (q : ℕ) → IsIn (run_of n p k) q → q < n
run_within n p zero less q there = absurd there
run_within n p (suc k) less q (inl e) = omega (arith, e, less)
run_within n p (suc k) less q (inr there) = run_within n (place_after n p) k (place_within n p less) q there

length-run : (n p k : ℕ) → length (run_of n p k) ≡ k
length-run n p zero = refl
length-run n p (suc k) = ap suc (length-run n (place_after n p) k)

all_mapped : {X Y : Type 0} (P : Y → Type 0) (f : X → Y) (xs : List X) → ((x : X) → IsIn xs x → P (f x)) → AreAll P (map f xs)
all_mapped P f [] h = tt
all_mapped P f (x ∷ xs) h = (h x (inl refl), all_mapped P f xs (λ y i. h y (inr i)))

module _ (g : Geometry) (file random : List ℕ) (i j : ℕ) (is : IsStore g file random) (exists : i < pieces_of (length file)) (within : j < g.fragments) where
  abbrev At : ℕ → Shard
  At = shard_in g file random i j

  long : length (shards_in g file random i j) ≡ g.shards
  long = (ring g file random i j is exists within).1

  stands : (p : ℕ) → p < g.shards → Contains (shards_in g file random i j) (At p)
  stands p less = subst (Contains (shards_in g file random i j)) (shard_at g file random i j p (At p) less) (Contains-get_or (shards_in g file random i j) p (At p) (omega (arith, less, long)))

  linked : (p : ℕ) → p < g.shards → IsLinked (At p) (At (place_after g.shards p))
  linked p less =
      let next = place_within g.shards p less in
      (rings_law g file random i j).linked (At p) (At (place_after g.shards p)) (stands p less) (stands (place_after g.shards p) next)
      (subst (λ x. IsNextPoint g.shards x (At (place_after g.shards p)).x) (sym (place_laws.point g file random i j p))
      (subst (λ y. IsNextPoint g.shards (p + 1) y) (sym (place_laws.point g file random i j (place_after g.shards p))) (place_next g.shards p less)))

  all_linked : (p k : ℕ) → p < g.shards → AreLinked IsLinked (At p) (map At (run_of g.shards (place_after g.shards p) k))
  all_linked p zero less = tt
  all_linked p (suc k) less = (linked p less, all_linked (place_after g.shards p) k (place_within g.shards p less))

  need_at : (p : ℕ) → (At p).m ≡ g.need
  unfolding shard_of
  need_at p = refl

  blur_at : (p : ℕ) → (At p).blur ≡ g.blur
  unfolding shard_of
  blur_at p = refl

  run_open : (blocks : List (List ℕ)) → HoldRun blocks g file random i j → IsOpenFragmentIn blocks g.blur (content_in g file random i j)
  run_open blocks hold = by g.need refl
    where
      is_held : (p : ℕ) → IsIn (run_of g.shards hold.first g.need) p → IsHeld blocks g.blur (At p)
      is_held p there =
          let inside = run_within g.shards hold.first g.need hold.exists p there in
          (shard_bytes (At p), hold.held p there, shards_law g file random i j (At p) is exists within (stands p inside), blur_at p)

      has_byte : (k : ℕ) (lt : k < 992) (p : ℕ) → IsIn (run_of g.shards hold.first g.need) p → HasByte k (place_laws.closes g file random i j k is exists within lt).0 (At p)
      has_byte k lt p there =
          let w = place_laws.closes g file random i j k is exists within lt in
          ap (value w.0) (place_laws.point g file random i j p) ∙ sym (w.4 p (run_within g.shards hold.first g.need hold.exists p there))

      by : (m : ℕ) → g.need ≡ m → IsOpenFragmentIn blocks g.blur (content_in g file random i j)
      by zero e = absurd (let need = is.geometry.need in omega (arith, need.0, e))
      by (suc k) e =
          let rest = map At (run_of g.shards (place_after g.shards hold.first) k) in
          let count : suc (length rest) ≡ suc k = ap suc (length-map (run_of g.shards (place_after g.shards hold.first) k) At ∙ length-run g.shards (place_after g.shards hold.first) k) in
          let first = need_at hold.first in
          let whole : length (At hold.first ∷ rest) ≡ (At hold.first).m = count ∙ (sym e ∙ sym first) in (
            At hold.first ∷ rest,
            (
              all_mapped (IsHeld blocks g.blur) At (run_of g.shards hold.first (suc k)) (λ p there. is_held p (subst (λ n. IsIn (run_of g.shards hold.first n) p) (sym e) there)),
              all_linked hold.first k hold.exists,
              omega (arith, whole),
            ),
            whole,
            record {
              places = λ l lt.
                  let w = place_laws.closes g file random i j l is exists within lt in (
                    w.0,
                    w.1,
                    subst (λ m. IsBelowDegree m w.0) (sym first) w.2,
                    passes_all l w.0 (At hold.first ∷ rest)
                        (all_mapped (HasByte l w.0) At (run_of g.shards hold.first (suc k)) (λ p there. has_byte l lt p (subst (λ n. IsIn (run_of g.shards hold.first n) p) (sym e) there))),
                    w.3,
                  );
              grammar = (closes g file random i j is exists within).grammar;
            },
          )

pub open_laws : OpenLaws
open_laws = record {
  closed = closed_open;
  objects = λ blocks bits object h.
      (h.0, (h.1.0, choice_weaker (IsClosedIn blocks bits) (IsOpenFragmentIn blocks bits) (closed_open blocks bits) h.1.0 h.1.1, h.1.2));
  stored = λ g file random i is exists blocks held.
      objects_law (IsOpenFragmentIn blocks g.blur) g file random i is exists (λ j within. run_open g file random i j is exists within blocks (held j within));
}
