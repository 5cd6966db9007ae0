-- The first shelf with a number.
use Rattle.std.proofs.Common.{◌≡◌, ◌≢◌, ◌<◌, ℕ, zero, suc, List, [], ◌∷◌, ◌++◌, length, get_or, refl, sym, ◌∙◌, arith, inl, inr}
use Rattle.std.specs.Prelude.{Some, None}
use Rattle.std.proofs.Math.ListN.{set}
use Rattle.std.proofs.lemmas.Bool.Decides.{eqb_tells}
use Rattle.pot_outside.specs.declared.archive.Shelf.{Shelf}
use Rattle.pot_doubles.specs.declared.archive.LossyArchive.{LossyArchive}
use Rattle.pot_doubles.specs.Rooms.{archive_of, IsFirst}

head_is : (s : Shelf LossyArchive) (rest : List (Shelf LossyArchive)) (n : ℕ) → s.number ≡ n → archive_of (s ∷ rest) n ≡ Some s.archive
head_is s rest n e = elim (eqb_tells s.number n) [ inl t ↦ rw t.0 refl | inr t ↦ absurd (t.1 e) ]

head_not : (s : Shelf LossyArchive) (rest : List (Shelf LossyArchive)) (n : ℕ) → s.number ≢ n → archive_of (s ∷ rest) n ≡ archive_of rest n
head_not s rest n e = elim (eqb_tells s.number n) [ inl t ↦ absurd (e t.1) | inr t ↦ rw t.0 refl ]

-- a number that no shelf has
pub archive_of-none : (shelves : List (Shelf LossyArchive)) (n : ℕ)
    → ((k : ℕ) (d : Shelf LossyArchive) → k < length shelves → (get_or shelves k d).number ≢ n) → archive_of shelves n ≡ None
archive_of-none [] n none = refl
archive_of-none (s ∷ rest) n none =
    head_not s rest n (none zero s (omega arith)) ∙ archive_of-none rest n (λ k d l. none (suc k) d (omega arith))

-- the first shelf that has the number
pub archive_of-first : (shelves : List (Shelf LossyArchive)) (n place : ℕ) (d : Shelf LossyArchive) → IsFirst shelves n place
    → archive_of shelves n ≡ Some (get_or shelves place d).archive
archive_of-first [] n place d f = absurd (omega (arith, f.within))
archive_of-first (s ∷ rest) n zero d f = head_is s rest n (f.here d)
archive_of-first (s ∷ rest) n (suc place) d f =
    head_not s rest n (f.before zero d (omega arith)) ∙ archive_of-first rest n place d (later s rest n place f)
  where
    later : (s : Shelf LossyArchive) (rest : List (Shelf LossyArchive)) (n place : ℕ) → IsFirst (s ∷ rest) n (suc place) → IsFirst rest n place
    later s rest n place f = record {
      within = omega (arith, f.within);
      here = f.here;
      before = (λ k d l. f.before (suc k) d (omega arith));
    }

-- another shelf with the number in its place
pub archive_of-set : (shelves : List (Shelf LossyArchive)) (n place : ℕ) (t : Shelf LossyArchive) → IsFirst shelves n place → t.number ≡ n
    → archive_of (set shelves place t) n ≡ Some t.archive
archive_of-set [] n place t f e = absurd (omega (arith, f.within))
archive_of-set (s ∷ rest) n zero t f e = head_is t rest n e
archive_of-set (s ∷ rest) n (suc place) t f e =
    head_not s (set rest place t) n (f.before zero t (omega arith)) ∙ archive_of-set rest n place t (later s rest n place f) e
  where
    later : (s : Shelf LossyArchive) (rest : List (Shelf LossyArchive)) (n place : ℕ) → IsFirst (s ∷ rest) n (suc place) → IsFirst rest n place
    later s rest n place f = record {
      within = omega (arith, f.within);
      here = f.here;
      before = (λ k d l. f.before (suc k) d (omega arith));
    }

-- the other numbers then mean what they meant
pub archive_of-set_other : (shelves : List (Shelf LossyArchive)) (n m place : ℕ) (t : Shelf LossyArchive)
    → ((d : Shelf LossyArchive) → (get_or shelves place d).number ≡ n) → t.number ≡ n → m ≢ n
    → archive_of (set shelves place t) m ≡ archive_of shelves m
archive_of-set_other [] n m place t here e ne = refl
archive_of-set_other (s ∷ rest) n m zero t here e ne =
    head_not t rest m (λ q. ne (sym q ∙ e)) ∙ sym (head_not s rest m (λ q. ne (sym q ∙ here s)))
archive_of-set_other (s ∷ rest) n m (suc place) t here e ne =
    same (archive_of-set_other rest n m place t here e ne)
  where
    same : archive_of (set rest place t) m ≡ archive_of rest m → archive_of (s ∷ set rest place t) m ≡ archive_of (s ∷ rest) m
    same q = elim (eqb_tells s.number m) [ inl t ↦ rw t.0 refl | inr t ↦ rw t.0 q ]

-- one more shelf at the end
pub archive_of-push : (shelves : List (Shelf LossyArchive)) (t : Shelf LossyArchive) → archive_of shelves t.number ≡ None
    → archive_of (shelves ++ t ∷ []) t.number ≡ Some t.archive
archive_of-push [] t e = head_is t [] t.number refl
archive_of-push (s ∷ rest) t e =
    elim (eqb_tells s.number t.number) [
      | inl q ↦ absurd (let h : Some s.archive ≡ None = sym (head_is s rest t.number q.1) ∙ e in cc)
      | inr q ↦ head_not s (rest ++ t ∷ []) t.number q.1 ∙ archive_of-push rest t (sym (head_not s rest t.number q.1) ∙ e)
    ]

pub archive_of-push_other : (shelves : List (Shelf LossyArchive)) (t : Shelf LossyArchive) (m : ℕ) → m ≢ t.number
    → archive_of (shelves ++ t ∷ []) m ≡ archive_of shelves m
archive_of-push_other [] t m ne = head_not t [] m (λ q. ne (sym q))
archive_of-push_other (s ∷ rest) t m ne = same (archive_of-push_other rest t m ne)
  where
    same : archive_of (rest ++ t ∷ []) m ≡ archive_of rest m → archive_of (s ∷ rest ++ t ∷ []) m ≡ archive_of (s ∷ rest) m
    same q = elim (eqb_tells s.number m) [ inl t ↦ rw t.0 refl | inr t ↦ rw t.0 q ]

-- a shelf of the number at the end, where none had it
pub archive_of-added : (before same after : List (Shelf LossyArchive)) (n : ℕ) (a b : LossyArchive) → archive_of before n ≡ None
    → same ≡ before → b ≡ a → after ≡ same ++ record { number = n; archive = b } ∷ [] → archive_of after n ≡ Some a
archive_of-added before same after n a b absent s e added =
    rw (added, s, e) (archive_of-push before (record { number = n; archive = a }) absent)

pub archive_of-added_other : (before same after : List (Shelf LossyArchive)) (n m : ℕ) (b : LossyArchive) → m ≢ n
    → same ≡ before → after ≡ same ++ record { number = n; archive = b } ∷ [] → archive_of after m ≡ archive_of before m
archive_of-added_other before same after n m b ne s added =
    rw (added, s) (archive_of-push_other before (record { number = n; archive = b }) m ne)
