-- Texts one after another, of which none begins another.
use Rattle.std.proofs.Common.{◌≡◌, ◌≢◌, ◌≤◌, ◌<◌, ℕ, List, [], ◌∷◌, ◌++◌, length, take, drop, refl, sym, ap, ◌∙◌, append_assoc, append-nil, length-append, arith}
use Rattle.std.specs.Prelude.{flat_map}
use Rattle.std.specs.List.{AllByRecursion}
use Rattle.std.proofs.lemmas.Grind.{flat_map-append}
use Rattle.std.proofs.Math.Seq.{take-append_seam, drop-append_seam}

-- lists with fronts of one length are equal in both parts
pub same_fronts : {X : Type 0} (a b x y : List X) → length a ≡ length b → a ++ x ≡ b ++ y → (a ≡ b) × (x ≡ y)
same_fronts {X} a b x y long e = (
  sym (take-append_seam a x) ∙ ap (take (length a)) e ∙ ap (λ n. take n (b ++ y)) long ∙ take-append_seam b y,
  sym (drop-append_seam a x) ∙ ap (drop (length a)) e ∙ ap (λ n. drop n (b ++ y)) long ∙ drop-append_seam b y,
)

-- the text of no element that has P begins that of another
pub record IsCode {X : Type 0} (text : X → List ℕ) (P : X → Type 0) : Type 0 where
  pub one : (a b : X) (x y : List ℕ) → P a → P b → text a ++ x ≡ text b ++ y → (a ≡ b) × (x ≡ y)

-- these elements were read, and these bytes are left
pub record IsReadTo {X : Type 0} (text : X → List ℕ) (P : X → Type 0) (bytes : List ℕ) (done : List X) (left : List ℕ) : Type 0 where
  pub each : AllByRecursion P done
  pub whole : bytes ≡ flat_map text done ++ left

module _ {X : Type 0} (text : X → List ℕ) (P : X → Type 0) where
  all_more : (done : List X) (a : X) → AllByRecursion P done → P a → AllByRecursion P (done ++ a ∷ [])
  all_more [] a p q = (q, tt)
  all_more (d ∷ done) a p q = (p.0, all_more done a p.1 q)

  pub none_read : (bytes : List ℕ) → IsReadTo text P bytes [] bytes
  none_read bytes = record { each = tt; whole = refl }

  pub one_read : (bytes left after : List ℕ) (done : List X) (a : X) → IsReadTo text P bytes done left → P a → left ≡ text a ++ after → IsReadTo text P bytes (done ++ a ∷ []) after
  one_read bytes left after done a r p e = record {
    each = all_more done a r.each p;
    whole =
        r.whole ∙ ap (λ (t : List ℕ). flat_map text done ++ t) e ∙ sym (append_assoc (flat_map text done) (text a) after)
        ∙ ap (λ (t : List ℕ). t ++ after) (ap (λ (t : List ℕ). flat_map text done ++ t) (sym (append-nil (text a))) ∙ sym (flat_map-append text done (a ∷ [])));
  }

  module _ (code : IsCode text P) where
    firsts : (a b : X) (ps qs : List X) (x y : List ℕ) → P a → P b → flat_map text (a ∷ ps) ++ x ≡ flat_map text (b ∷ qs) ++ y
        → (a ≡ b) × (flat_map text ps ++ x ≡ flat_map text qs ++ y)
    firsts a b ps qs x y p q e =
        code.one a b (flat_map text ps ++ x) (flat_map text qs ++ y) p q (sym (append_assoc (text a) (flat_map text ps) x) ∙ e ∙ append_assoc (text b) (flat_map text qs) y)

    -- ps many elements are told by their texts, and so is what stands behind them
    pub same_number_of : (ps qs : List X) (x y : List ℕ) → AllByRecursion P ps → AllByRecursion P qs → length ps ≡ length qs
        → flat_map text ps ++ x ≡ flat_map text qs ++ y → (ps ≡ qs) × (x ≡ y)
    same_number_of [] [] x y p q long e = (refl, e)
    same_number_of [] (b ∷ qs) x y p q long e = absurd (omega arith)
    same_number_of (a ∷ ps) [] x y p q long e = absurd (omega arith)
    same_number_of (a ∷ ps) (b ∷ qs) x y p q long e =
        let first = firsts a b ps qs x y p.0 q.0 e in
        let others = same_number_of ps qs x y p.1 q.1 (omega arith) first.1 in
        (ap (λ (c : X). c ∷ ps) first.0 ∙ ap (λ (cs : List X). b ∷ cs) others.0, others.1)

    -- where the text of none is next, the texts of more elements do not go on
    pub stops_short : (done whole : List X) (x y : List ℕ) → AllByRecursion P done → AllByRecursion P whole → length done < length whole
        → ((a : X) (after : List ℕ) → P a → x ≢ text a ++ after) → flat_map text done ++ x ≢ flat_map text whole ++ y
    stops_short [] [] x y p q fewer none e = omega arith
    stops_short [] (b ∷ qs) x y p q fewer none e = none b (flat_map text qs ++ y) q.0 (e ∙ append_assoc (text b) (flat_map text qs) y)
    stops_short (a ∷ ps) [] x y p q fewer none e = omega arith
    stops_short (a ∷ ps) (b ∷ qs) x y p q fewer none e = stops_short ps qs x y p.1 q.1 (omega arith) none (firsts a b ps qs x y p.0 q.0 e).1

    module _ (some : (a : X) → 1 ≤ length (text a)) where
      empty : (a : X) (ps : List X) (x : List ℕ) → [] ≢ flat_map text (a ∷ ps) ++ x
      empty a ps x e =
          omega (arith, some a, ap (λ (l : List ℕ). length l) e, length-append {A = ℕ} (flat_map text (a ∷ ps)) x, length-append {A = ℕ} (text a) (flat_map text ps))

      -- nor where bytes are left
      pub stops : (done whole : List X) (x : List ℕ) → AllByRecursion P done → AllByRecursion P whole → 0 < length x
          → ((a : X) (after : List ℕ) → P a → x ≢ text a ++ after) → flat_map text done ++ x ≢ flat_map text whole ++ []
      stops [] [] x p q left none e = omega (arith, ap (λ (l : List ℕ). length l) e)
      stops [] (b ∷ qs) x p q left none e = none b (flat_map text qs ++ []) q.0 (e ∙ append_assoc (text b) (flat_map text qs) [])
      stops (a ∷ ps) [] x p q left none e = empty a ps x (sym e)
      stops (a ∷ ps) (b ∷ qs) x p q left none e = stops ps qs x p.1 q.1 left none (firsts a b ps qs x [] p.0 q.0 e).1

      -- texts are those of one list
      pub one_list : (ps qs : List X) → AllByRecursion P ps → AllByRecursion P qs → flat_map text ps ++ [] ≡ flat_map text qs ++ [] → ps ≡ qs
      one_list [] [] p q e = refl
      one_list [] (b ∷ qs) p q e = absurd (empty b qs [] e)
      one_list (a ∷ ps) [] p q e = absurd (empty a ps [] (sym e))
      one_list (a ∷ ps) (b ∷ qs) p q e =
          let first = firsts a b ps qs [] [] p.0 q.0 e in
          ap (λ (c : X). c ∷ ps) first.0 ∙ ap (λ (cs : List X). b ∷ cs) (one_list ps qs p.1 q.1 first.1)
