-- An archive that comes to others under a number that none has.
use Rattle.std.proofs.Common.{◌≡◌, ◌≢◌, ℕ, zero, suc, ◌++◌, ◌==◌, List, [], ◌∷◌, Some, None, length, cond, inl, inr, refl, sym, subst, ap, ◌∙◌, arith}
use Rattle.std.specs.Prelude.{Contains}
use Rattle.std.proofs.lemmas.Bool.Decides.{eqb_tells}
use Rattle.std.proofs.lemmas.List.{length-map, map-append}
use Rattle.pot_outside.specs.Archives.{IsCoherent, Meaning}
use Rattle.pot_outside.specs.declared.archive.Marks.{Marks}
use Rattle.pot_outside.specs.declared.archive.Shelf.{Shelf}
use Rattle.pot_shelves.specs.Shelves.{Brings, given, numbers_of, shelf_of, mark_of, nothing, plain}

-- BY NUMBER

not_here : (x : ℕ) (xs : List ℕ) (n : ℕ) → (Contains (x ∷ xs) n → ⊥) → x ≢ n
not_here x xs n none e = none (zero, omega arith, e)

not_later : (x : ℕ) (xs : List ℕ) (n : ℕ) → (Contains (x ∷ xs) n → ⊥) → Contains xs n → ⊥
not_later x xs n none h = none (suc h.0, omega (arith, h.1), h.2)

find_other : {A : Type 0} (xs : List (Shelf A)) (s : Shelf A) (n : ℕ) → n ≢ s.number → shelf_of (xs ++ s ∷ []) n ≡ shelf_of xs n
find_other [] s n ne = elim (eqb_tells s.number n) [ inl t ↦ absurd (ne (sym t.1)) | inr t ↦ rw t.0 refl ]
find_other (x ∷ xs) s n ne = ap (λ o. cond (x.number == n) (Some x) o) (find_other xs s n ne)

find_new : {A : Type 0} (xs : List (Shelf A)) (s : Shelf A) → (Contains (numbers_of xs) s.number → ⊥) → shelf_of (xs ++ s ∷ []) s.number ≡ Some s
find_new [] s none = elim (eqb_tells s.number s.number) [ inl t ↦ rw t.0 refl | inr t ↦ absurd (t.1 refl) ]
find_new (x ∷ xs) s none = elim (eqb_tells x.number s.number) [
  | inl t ↦ absurd (not_here x.number (numbers_of xs) s.number none t.1)
  | inr t ↦ rw t.0 (find_new xs s (not_later x.number (numbers_of xs) s.number none))
]

find_none : {A : Type 0} (xs : List (Shelf A)) (n : ℕ) → (Contains (numbers_of xs) n → ⊥) → shelf_of xs n ≡ None
find_none [] n none = refl
find_none (x ∷ xs) n none = elim (eqb_tells x.number n) [
  | inl t ↦ absurd (not_here x.number (numbers_of xs) n none t.1)
  | inr t ↦ rw t.0 (find_none xs n (not_later x.number (numbers_of xs) n none))
]

mark_other : (f : Marks → ℕ) (ns : List ℕ) (ms : List Marks) (k : ℕ) (m : Marks) (n : ℕ) → length ns ≡ length ms → n ≢ k → mark_of f (ns ++ k ∷ []) (ms ++ m ∷ []) n ≡ mark_of f ns ms n
mark_other f [] [] k m n l ne = elim (eqb_tells k n) [ inl t ↦ absurd (ne (sym t.1)) | inr t ↦ rw t.0 refl ]
mark_other f [] (x ∷ ms) k m n l ne = absurd (omega (arith, l))
mark_other f (x ∷ ns) [] k m n l ne = absurd (omega (arith, l))
mark_other f (x ∷ ns) (y ∷ ms) k m n l ne = ap (λ o. cond (x == n) (f y) o) (mark_other f ns ms k m n (omega (arith, l)) ne)

mark_new : (f : Marks → ℕ) (ns : List ℕ) (ms : List Marks) (k : ℕ) (m : Marks) → length ns ≡ length ms → (Contains ns k → ⊥) → mark_of f (ns ++ k ∷ []) (ms ++ m ∷ []) k ≡ f m
mark_new f [] [] k m l none = elim (eqb_tells k k) [ inl t ↦ rw t.0 refl | inr t ↦ absurd (t.1 refl) ]
mark_new f [] (x ∷ ms) k m l none = absurd (omega (arith, l))
mark_new f (x ∷ ns) [] k m l none = absurd (omega (arith, l))
mark_new f (x ∷ ns) (y ∷ ms) k m l none = elim (eqb_tells x k) [
  | inl t ↦ absurd (not_here x ns k none t.1)
  | inr t ↦ rw t.0 (mark_new f ns ms k m (omega (arith, l)) (not_later x ns k none))
]

mark_none : (f : Marks → ℕ) (ns : List ℕ) (ms : List Marks) (k : ℕ) → (Contains ns k → ⊥) → mark_of f ns ms k ≡ 0
mark_none f [] ms k none = refl
mark_none f (x ∷ ns) [] k none = refl
mark_none f (x ∷ ns) (y ∷ ms) k none = elim (eqb_tells x k) [
  | inl t ↦ absurd (not_here x ns k none t.1)
  | inr t ↦ rw t.0 (mark_none f ns ms k (not_later x ns k none))
]

-- an archive at the end of the list, with its marks
pub brings_one : {A : Type 0} (told : Type 0) (meaning : A → Meaning) (xs : List (Shelf A)) (ms os : List Marks) (ts : List (Shelf A)) (s : Shelf A) (m : Marks)
    → length xs ≡ length ms → length xs ≡ length os → numbers_of ts ≡ numbers_of xs → (Contains (numbers_of xs) s.number → ⊥) → m.faults ≡ (meaning s.archive).faults → (told → m.losses ≡ (meaning s.archive).losses)
    → (told → IsCoherent (meaning s.archive))
    → Brings told s.number (meaning s.archive) (plain meaning (record { shelves = xs; marks = ms; opened = os; taken = ts }))
    (plain meaning (record { shelves = xs ++ s ∷ []; marks = ms ++ m ∷ []; opened = os ++ m ∷ []; taken = ts ++ s ∷ [] }))
brings_one told meaning xs ms os ts s m l k q none mf ml fits =
    let all : numbers_of (xs ++ s ∷ []) ≡ numbers_of xs ++ s.number ∷ [] = map-append (λ s. s.number) xs (s ∷ []) in
    let lens : length (numbers_of xs) ≡ length ms = length-map xs (λ s. s.number) ∙ l in
    let opened_lens : length (numbers_of xs) ≡ length os = length-map xs (λ s. s.number) ∙ k in
    record {
      numbers = all;
      blocks = (λ slot. ap (given (λ x. (meaning x).held slot) None) (find_new xs s none));
      sums = ap (given (λ x. (meaning x).heard) []) (find_new xs s none);
      history = ap (given (λ x. (meaning x).history) []) (find_new xs s none);
      taken = ap (given meaning nothing) (find_new ts s (subst (λ ns. Contains ns s.number → ⊥) (sym q) none));
      coherent = fits;
      counts = (ap (given (λ x. (meaning x).faults) 0) (find_new xs s none), ap (given (λ x. (meaning x).losses) 0) (find_new xs s none));
      marked = ap (λ ns. mark_of (λ m. m.faults) ns (ms ++ m ∷ []) s.number) all ∙ mark_new (λ m. m.faults) (numbers_of xs) ms s.number m lens none ∙ mf ∙ sym (ap (given (λ x. (meaning x).faults) 0) (find_new xs s none));
      marked_losses = (λ t. ap (λ ns. mark_of (λ m. m.losses) ns (ms ++ m ∷ []) s.number) all ∙ mark_new (λ m. m.losses) (numbers_of xs) ms s.number m lens none ∙ ml t ∙ sym (ap (given (λ x. (meaning x).losses) 0) (find_new xs s none)));
      opened = ap (λ ns. mark_of (λ m. m.faults) ns (os ++ m ∷ []) s.number) all ∙ mark_new (λ m. m.faults) (numbers_of xs) os s.number m opened_lens none ∙ mf ∙ sym (ap (given (λ x. (meaning x).faults) 0) (find_new xs s none));
      opened_losses = (λ t. ap (λ ns. mark_of (λ m. m.losses) ns (os ++ m ∷ []) s.number) all ∙ mark_new (λ m. m.losses) (numbers_of xs) os s.number m opened_lens none ∙ ml t ∙ sym (ap (given (λ x. (meaning x).losses) 0) (find_new xs s none)));
      absent = (
        ap (given (λ x. (meaning x).faults) 0) (find_none xs s.number none),
        mark_none (λ m. m.faults) (numbers_of xs) ms s.number none,
        ap (given (λ x. (meaning x).losses) 0) (find_none xs s.number none),
        mark_none (λ m. m.losses) (numbers_of xs) ms s.number none,
      );
      same_held = (λ n slot ne. ap (given (λ x. (meaning x).held slot) None) (find_other xs s n ne));
      same_heard = (λ n ne. ap (given (λ x. (meaning x).heard) []) (find_other xs s n ne));
      same_history = (λ n ne. ap (given (λ x. (meaning x).history) []) (find_other xs s n ne));
      same_taken = (λ n ne. ap (given meaning nothing) (find_other ts s n ne));
      same_faults = (λ n ne. (ap (given (λ x. (meaning x).faults) 0) (find_other xs s n ne), ap (λ ns. mark_of (λ m. m.faults) ns (ms ++ m ∷ []) n) all ∙ mark_other (λ m. m.faults) (numbers_of xs) ms s.number m n lens ne));
      same_opened = (λ n ne. (
        ap (λ ns. mark_of (λ m. m.faults) ns (os ++ m ∷ []) n) all ∙ mark_other (λ m. m.faults) (numbers_of xs) os s.number m n opened_lens ne,
        ap (λ ns. mark_of (λ m. m.losses) ns (os ++ m ∷ []) n) all ∙ mark_other (λ m. m.losses) (numbers_of xs) os s.number m n opened_lens ne,
      ));
      same_losses = (λ n ne. (ap (given (λ x. (meaning x).losses) 0) (find_other xs s n ne), ap (λ ns. mark_of (λ m. m.losses) ns (ms ++ m ∷ []) n) all ∙ mark_other (λ m. m.losses) (numbers_of xs) ms s.number m n lens ne));
    }
