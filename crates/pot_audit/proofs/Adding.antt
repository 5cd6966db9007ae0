-- Veils that are added one after another.
use Rattle.std.proofs.Common.{◌≡◌, ◌<◌, ◌≤◌, inl, inr, ℕ, zero, suc, ◌+◌, ◌*◌, List, [], ◌∷◌, ◌++◌, Some, length, refl, sym, ap, ◌∙◌, subst, arith, length-append}
use Rattle.std.specs.Prelude.{All, slice_get}
use Rattle.std.proofs.lemmas.Bool.{cases_lt}
use Rattle.std.proofs.lemmas.List.Elements.{All-head, All-tail}
use Rattle.std.proofs.lemmas.Option.{same_Some, slice_get_within}
use Rattle.std.proofs.Math.Nat.{mul-le-mul_right}
use Rattle.pot_bytes.specs.declared.rack.Rack.{Rack}
use Rattle.pot_object.specs.Pieces.{pieces_of}
use Rattle.pot_index.specs.declared.record.Record.{Record}
use Rattle.pot_index.specs.declared.record.Split.{Split}
use Rattle.pot_index.specs.Records.{current_of, splits_of}
use Rattle.pot_audit.specs.declared.spot.Spot.{Spot}
use Rattle.pot_audit.specs.declared.veil.Veil.{Veil}
use Rattle.pot_audit.specs.Veils.{AddsVeils, AreVeils, IsVeil}

-- elements before the end stay
pub get_before : {X : Type 0} (xs ys : List X) (b : ℕ) → b < length xs → slice_get (xs ++ ys) b ≡ slice_get xs b
get_before [] ys b lt = absurd (omega (arith, lt))
get_before (x ∷ xs) ys zero lt = refl
get_before (x ∷ xs) ys (suc b) lt = get_before xs ys b (omega (arith, lt))

-- and the one that is added stands there
pub get_end : {X : Type 0} (xs : List X) (x : X) (b : ℕ) → b ≡ length xs → slice_get (xs ++ x ∷ []) b ≡ Some x
get_end [] x zero e = refl
get_end [] x (suc b) e = absurd (omega (arith, e))
get_end (y ∷ xs) x zero e = absurd (omega (arith, e))
get_end (y ∷ xs) x (suc b) e = get_end xs x b (omega (arith, e))

-- part i of part n lies before part m
pub part_before : (n m pieces i : ℕ) → n < m → i < pieces → n * pieces + i < m * pieces
part_before n m pieces i lt li = omega (arith, li, mul-le-mul_right pieces le)
  where
    le : n + 1 ≤ m
    le = omega (arith, lt)

module _ (rack : Rack) (spots : List Spot) where
  pub none_added : (s : Split) (number : ℕ) (old : List Veil) → AddsVeils rack spots s number 0 old old
  none_added s number old = record { count = omega arith; kept = λ b lt. refl; added = λ i v lt e. absurd (omega (arith, lt)) }

  pub one_added : (s : Split) (number i : ℕ) (old new : List Veil) (v : Veil) → AddsVeils rack spots s number i old new → IsVeil rack spots s number i v
      → AddsVeils rack spots s number (i + 1) old (new ++ v ∷ [])
  one_added s number i old new v h is = record {
    count = omega (arith, h.count, length-append new (v ∷ []));
    kept = λ b lt. get_before new (v ∷ []) b (omega (arith, lt, h.count)) ∙ h.kept b lt;
    added = at;
  }
    where
      at : (j : ℕ) (u : Veil) → j < i + 1 → slice_get (new ++ v ∷ []) (length old + j) ≡ Some u → IsVeil rack spots s number j u
      at j u lt e = elim (cases_lt j i) [
        | inl before ↦ h.added j u before (sym (get_before new (v ∷ []) (length old + j) (omega (arith, before, h.count))) ∙ e)
        | inr behind ↦
            (let here : i ≡ j = omega (arith, lt, behind) in
            let same : v ≡ u = same_Some v u (sym (get_end new v (length old + j) (omega (arith, here, h.count))) ∙ e) in
            subst (λ (k : ℕ). IsVeil rack spots s number k u) here (subst (IsVeil rack spots s number i) same is))
      ]

  -- the veils of the first m of some splits
  pub record AreVeilsUpto (splits : List Split) (pieces m : ℕ) (veils : List Veil) : Type 0 where
    pub count : length veils ≡ m * pieces
    pub each : (n i : ℕ) (s : Split) (v : Veil) → n < m → slice_get splits n ≡ Some s → i < pieces → slice_get veils (n * pieces + i) ≡ Some v → IsVeil rack spots s n i v

  pub none_upto : (splits : List Split) (pieces : ℕ) → AreVeilsUpto splits pieces 0 []
  none_upto splits pieces = record { count = omega arith; each = λ n i s v lt e li ev. absurd (omega (arith, lt)) }

  pub one_more : (splits : List Split) (pieces m : ℕ) (s : Split) (old new : List Veil) → AreVeilsUpto splits pieces m old → slice_get splits m ≡ Some s
      → AddsVeils rack spots s m pieces old new → AreVeilsUpto splits pieces (m + 1) new
  one_more splits pieces m s old new h is a = record { count = omega (arith, h.count, a.count); each = at }
    where
      at : (n i : ℕ) (t : Split) (v : Veil) → n < m + 1 → slice_get splits n ≡ Some t → i < pieces → slice_get new (n * pieces + i) ≡ Some v → IsVeil rack spots t n i v
      at n i t v lt e li ev = elim (cases_lt n m) [
        | inl before ↦ h.each n i t v before e li (sym (a.kept (n * pieces + i) (omega (arith, h.count, part_before n m pieces i before li))) ∙ ev)
        | inr behind ↦
            (let here : m ≡ n = omega (arith, lt, behind) in
            let same : s ≡ t = same_Some s t (sym is ∙ ap (slice_get splits) here ∙ e) in
            let place : n * pieces + i ≡ length old + i = ap (λ (k : ℕ). k * pieces + i) (sym here) ∙ ap (λ (k : ℕ). k + i) (sym h.count) in
            subst (λ (k : ℕ). IsVeil rack spots t k i v) here
            (subst (λ (x : Split). IsVeil rack spots x m i v) same (a.added i v li (sym (ap (slice_get new) place) ∙ ev))))
      ]

-- THE SPLITS OF A RECORD

-- what holds of each element holds of that at a place
pub all_at : {X : Type 0} (P : X → Type 0) (xs : List X) (n : ℕ) (x : X) → All P xs → slice_get xs n ≡ Some x → P x
all_at P [] n x h e = absurd (cc)
all_at P (y ∷ xs) zero x h e = subst P (same_Some y x e) (All-head P y xs h)
all_at P (y ∷ xs) (suc n) x h e = all_at P xs n x (All-tail P y xs h) e

-- an older one stands at its place, and the current one behind them
pub older_at : (r : Record) (n : ℕ) (s : Split) → slice_get r.older n ≡ Some s → slice_get (splits_of r) n ≡ Some s
older_at r n s e = get_before r.older (current_of r ∷ []) n (slice_get_within r.older n s e) ∙ e

pub current_at : (r : Record) → slice_get (splits_of r) (length r.older) ≡ Some (current_of r)
current_at r = get_end r.older (current_of r) (length r.older) refl

pub all_veils : (rack : Rack) (spots : List Spot) (r : Record) (pieces : ℕ) (old new : List Veil) → pieces ≡ pieces_of r.length
    → AreVeilsUpto rack spots (splits_of r) (pieces_of r.length) (length r.older) old → AddsVeils rack spots (current_of r) (length r.older) pieces old new → AreVeils rack spots r new
all_veils rack spots r pieces old new e h a =
    let adds : AddsVeils rack spots (current_of r) (length r.older) (pieces_of r.length) old new = subst (λ (n : ℕ). AddsVeils rack spots (current_of r) (length r.older) n old new) e a in
    let whole = one_more rack spots (splits_of r) (pieces_of r.length) (length r.older) (current_of r) old new h (current_at r) adds in
    let long : length (splits_of r) ≡ length r.older + 1 = length-append r.older (current_of r ∷ []) in
    record {
      count = whole.count ∙ ap (λ (n : ℕ). n * pieces_of r.length) (sym long);
      each = λ n i s v es li ev. whole.each n i s v (omega (arith, long, slice_get_within (splits_of r) n s es)) es li ev;
    }
