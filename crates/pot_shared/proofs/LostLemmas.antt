-- Archives that were read and no more: what they mean but for losses that they counted.
use Rattle.std.proofs.Common.{◌≡◌, ◌≤◌, ◌<◌, ◌+◌, ◌-◌, ◌^◌, ◌++◌, ⊎_elim, inl, inr, ℕ, zero, suc, List, [], ◌∷◌, take, drop, sym, ap, subst, ◌∙◌, arith}
use Rattle.std.specs.Prelude.{Option, Some, None, Contains}
use Rattle.std.proofs.lemmas.Bool.Decides.{eqb_tells}
use Rattle.std.proofs.lemmas.List.{map-append, take-append-drop}
use Rattle.std.proofs.lemmas.List.Elements.{Contains-append_cases}
use Rattle.pot_bytes.proofs.Elements.{none_contained}
use Rattle.pot_outside.specs.Archives.{Meaning, IsMeant}
use Rattle.pot_outside.specs.declared.archive.Shelf.{Shelf}
use Rattle.pot_machine.specs.Table.{Table}
use Rattle.pot_group.specs.Beginning.{Begins}
use Rattle.pot_group.specs.Group.{GroupParts}
use Rattle.pot_shelves.specs.Shelves.{numbers_of, shelf_of, given}
use Rattle.pot_shared.specs.Hands.{times, AreApart, AreMeant, AreMeantButLost, IsMeantButLost}
use Rattle.pot_shared.proofs.GroupLemmas.{find_shelf}
use Rattle.pot_shared.proofs.Times.{one_if, times-append, contains_times}

-- ONE ARCHIVE

pub lost_none : (m n : Meaning) → IsMeant m n → IsMeantButLost m n
lost_none m n i = record {
  loses = record {
    later = (let e = i.lost in omega (arith, e));
    keeps = λ k b e. sym (i.blocks k) ∙ e;
    same = λ k e l. i.blocks k;
  };
  past = i.past;
  sums = i.sums;
  later = (let e = i.faulted in omega (arith, e));
}

-- it meant the same before
pub lost_since : (m n o : Meaning) → IsMeant m n → IsMeantButLost n o → IsMeantButLost m o
lost_since m n o i s = record {
  loses = record {
    later = (let e = i.lost in let l = s.loses.later in omega (arith, e, l));
    keeps = λ k b e. sym (i.blocks k) ∙ s.loses.keeps k b e;
    same = λ k e l. s.loses.same k (e ∙ sym i.lost) l ∙ i.blocks k;
  };
  past = s.past ∙ i.past;
  sums = s.sums ∙ i.sums;
  later = (let e = i.faulted in let l = s.later in omega (arith, e, l));
}

-- and another means the same after
pub lost_until : (m n o : Meaning) → IsMeantButLost m n → IsMeant o n → IsMeantButLost m o
lost_until m n o s i = record {
  loses = record {
    later = (let e = i.lost in let l = s.loses.later in omega (arith, e, l));
    keeps = λ k b e. s.loses.keeps k b (i.blocks k ∙ e);
    same = λ k e l. sym (i.blocks k) ∙ s.loses.same k (i.lost ∙ e) (subst (λ (j : ℕ). j < 2 ^ 64 - 1) (sym i.lost) l);
  };
  past = sym i.past ∙ s.past;
  sums = sym i.sums ∙ s.sums;
  later = (let e = i.faulted in let l = s.later in omega (arith, e, l));
}

-- SEVERAL

pub all_lost_none : {A : Type 0} (meaning : A → Meaning) (meant : ℕ → Meaning) (ss : List (Shelf A)) → AreMeant meaning meant ss → AreMeantButLost meaning meant ss
all_lost_none meaning meant ss are s has = lost_none (meant s.number) (meaning s.archive) (are s has)

pub lost_append : {A : Type 0} (meaning : A → Meaning) (meant : ℕ → Meaning) (xs ys : List (Shelf A)) → AreMeantButLost meaning meant xs → AreMeantButLost meaning meant ys → AreMeantButLost meaning meant (xs ++ ys)
lost_append meaning meant xs ys a b s has = ⊎_elim (λ (h : Contains xs s). a s h) (λ (h : Contains ys s). b s h) (Contains-append_cases xs ys s has)

-- how often a number stands among those at the front and those behind
parts_times : {A : Type 0} (ss : List (Shelf A)) (n k : ℕ) → times k (numbers_of ss) ≡ times k (numbers_of (take n ss)) + times k (numbers_of (drop n ss))
parts_times ss n k =
    ap (λ xs. times k (numbers_of xs)) (sym (take-append-drop n ss)) ∙ (ap (times k) (map-append (λ (x : Shelf _). x.number) (take n ss) (drop n ss)) ∙ times-append k (numbers_of (take n ss)) (numbers_of (drop n ss)))

pub apart_take : {A : Type 0} (ss : List (Shelf A)) (n : ℕ) → AreApart (numbers_of ss) → AreApart (numbers_of (take n ss))
apart_take ss n apart k = (let p = parts_times ss n k in let a = apart k in omega (arith, p, a))

pub apart_drop : {A : Type 0} (ss : List (Shelf A)) (n : ℕ) → AreApart (numbers_of ss) → AreApart (numbers_of (drop n ss))
apart_drop ss n apart k = (let p = parts_times ss n k in let a = apart k in omega (arith, p, a))

numbers_have : {A : Type 0} (ss : List (Shelf A)) (s : Shelf A) → Contains ss s → Contains (numbers_of ss) s.number
numbers_have [] s has = absurd (none_contained s has)
numbers_have (x ∷ xs) s (zero, l, e) = (0, omega arith, ap (λ y. y.number) e)
numbers_have (x ∷ xs) s (suc k, l, e) = (let r = numbers_have xs s (k, omega (arith, l), e) in (suc r.0, (let m = r.1 in omega (arith, m)), r.2))

-- an archive whose number no other has is found by it
pub apart_found : {A : Type 0} (ss : List (Shelf A)) (s : Shelf A) → AreApart (numbers_of ss) → Contains ss s → shelf_of ss s.number ≡ Some s
apart_found [] s apart has = absurd (none_contained s has)
apart_found (x ∷ xs) s apart (zero, l, e) = elim (eqb_tells x.number s.number) [
  | inl t ↦ rw t.0 (ap Some e)
  | inr t ↦ absurd (t.1 (ap (λ y. y.number) e))
]
apart_found (x ∷ xs) s apart (suc k, l, e) = elim (eqb_tells x.number s.number) [
  | inl t ↦ absurd (let one = ap one_if t.0 in let more = contains_times (numbers_of xs) s.number (numbers_have xs s (k, omega (arith, l), e)) in let a = apart s.number in omega (arith, one, more, a))
  | inr t ↦ rw t.0 (apart_found xs s (λ n. (let a = apart n in omega (arith, a))) (k, omega (arith, l), e))
]

-- A START

-- the archives of a group that was started mean what they meant, but for losses
pub lost_of : {A : Type 0} (told : Type 0) (meaning : A → Meaning) (meant : ℕ → Meaning) (number : ℕ) (t : Table) (handed : List (Shelf A)) (g : GroupParts A) → told → Begins told meaning number t handed g
    → AreApart (numbers_of handed) → AreMeant meaning meant handed → AreMeantButLost meaning meant g.shelves.shelves
lost_of {A} told meaning meant number t handed g tells b apart are s has = lost_since (meant n) (meaning was.0.archive) (meaning s.archive) is read
  where
    n : ℕ
    n = s.number

    same : g.shelves.shelves ≡ b.read.shelves
    same = ap (λ a. a.shelves) b.marked

    numbers : numbers_of b.read.shelves ≡ numbers_of handed
    numbers = b.opens.stays.keeps.numbers ∙ ap numbers_of b.shelves

    there : Contains b.read.shelves s
    there = subst (λ ss. Contains ss s) same has

    now : shelf_of b.read.shelves n ≡ Some s
    now = apart_found b.read.shelves s (subst AreApart (sym numbers) apart) there

    was : (x : Shelf A) × (shelf_of handed n ≡ Some x) × (x.number ≡ n) × Contains handed x
    was = find_shelf handed n (subst (λ ns. Contains ns n) numbers (numbers_have b.read.shelves s there))

    is : IsMeant (meant n) (meaning was.0.archive)
    is = subst (λ k. IsMeant (meant k) (meaning was.0.archive)) was.2 (are was.0 was.3)

    parts : Option (Shelf A) → Meaning
    parts o = record {
      held = λ slot. given (λ x. (meaning x).held slot) None o;
      history = given (λ x. (meaning x).history) [] o;
      heard = given (λ x. (meaning x).heard) [] o;
      faults = given (λ x. (meaning x).faults) 0 o;
      losses = given (λ x. (meaning x).losses) 0 o;
    }

    stays : IsMeantButLost (parts (shelf_of b.taken.shelves n)) (parts (shelf_of b.read.shelves n))
    stays = record { loses = b.opens.stays.loses tells n; past = b.opens.stays.history tells n; sums = b.opens.stays.heard tells n; later = b.opens.stays.keeps.later n }

    read : IsMeantButLost (meaning was.0.archive) (meaning s.archive)
    read = subst (λ o. IsMeantButLost (parts o) (meaning s.archive)) (ap (λ ss. shelf_of ss n) b.shelves ∙ was.1) (subst (λ o. IsMeantButLost (parts (shelf_of b.taken.shelves n)) (parts o)) now stays)
