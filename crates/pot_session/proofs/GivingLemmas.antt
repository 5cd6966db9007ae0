-- Archives that are given back one by one, and those that the room does not take back.
use Rattle.std.proofs.Common.{◌≡◌, ◌≢◌, ◌<◌, ◌≤◌, ◌⊎◌, inl, inr, ℕ, true, false, cond, List, [], ◌∷◌, length, refl, sym, ap, subst, arith, eqb}
use Rattle.std.specs.Prelude.{Contains, IsTrue, Some, Result, Ok, Err, IsErr, OnOk, slice_index_or}
use Rattle.std.specs.List.{remove}
use Rattle.std.proofs.lemmas.Bool.{cases_lt}
use Rattle.std.proofs.lemmas.Bool.Decides.{eqb_tells}
use Rattle.pot_bytes.proofs.Elements.{none_contained}
use Rattle.pot_outside.specs.Accounts.{Account, transition_by}
use Rattle.pot_outside.specs.Archives.{Meaning, IsMeant}
use Rattle.pot_outside.specs.Counts.{Rose, Caused}
use Rattle.pot_outside.specs.Rooms.{RoomState, StaysAt}
use Rattle.pot_outside.specs.declared.archive.Shelf.{Shelf}
use Rattle.pot_outside.specs.declared.faults.Failed.{Failed}
use Rattle.pot_shared.proofs.Times.{one_if}
use Rattle.pot_shelves.specs.Shelves.{numbers_of, shelf_of}
use Rattle.pot_shared.specs.Hands.{AreMeant, AreMeantButLost, IsMeantButLost, times}
use Rattle.pot_commands.proofs.TakingLemmas.{meant_by}
use Rattle.pot_session.specs.Giving.{AnswersFor, FailsToGive, GivesArchivesBack, IsUnlent, IsRoomUnopened}
use Rattle.pot_shared.proofs.Times.{times_contains}
use Rattle.pot_shared.proofs.GroupLemmas.{find_shelf}
use Rattle.pot_shared.proofs.LostLemmas.{lost_none, lost_until}
use Rattle.pot_session.proofs.MeantLemmas.{HeldOrGiven, given_more}

-- a number stands in a list that it heads
own_time : (n : ℕ) (ns : List ℕ) → times n (n ∷ ns) ≡ 0 → ⊥
own_time n ns e = elim (eqb_tells n n) [
  | inl t ↦ (let o : cond (eqb n n) 1 0 ≡ 1 = ap one_if t.0 in omega (arith, e, o))
  | inr t ↦ t.1 refl
]

tail_time : (n m : ℕ) (ns : List ℕ) → times n (m ∷ ns) ≡ 0 → times n ns ≡ 0
tail_time n m ns e = omega (arith, e)

-- THE ANSWER

answers_same : (missing : List ℕ) (answer given result : Result (Unit {0}) Failed) → AnswersFor missing answer → (IsErr given → ⊥)
    → (IsErr result → IsErr answer ⊎ IsErr given) → (IsErr answer → IsErr result) → AnswersFor missing result
answers_same missing (Ok u) given (Ok v) h none some first = h
answers_same missing (Ok u) given (Err e) h none some first = elim (some refl) [ inl x ↦ absurd (cc x) | inr x ↦ absurd (none x) ]
answers_same missing (Err e) given (Ok v) h none some first = absurd (cc (first refl))
answers_same missing (Err e) given (Err f) h none some first = h

answers_more : (n : ℕ) (missing : List ℕ) (result : Result (Unit {0}) Failed) → IsErr result → AnswersFor (n ∷ missing) result
answers_more n missing (Ok u) e = absurd (cc e)
answers_more n missing (Err f) e = omega arith

-- so many are missing, one call on
failed_same : (before mid now : ℕ) (missing : List ℕ) → FailsToGive before mid missing → now ≡ mid → FailsToGive before now missing
failed_same before mid now missing m e = subst (λ k. FailsToGive before k missing) (sym e) m

failed_more : (before mid now n : ℕ) (missing : List ℕ) → FailsToGive before mid missing → mid ≤ now → Rose mid now → FailsToGive before now (n ∷ missing)
failed_more before mid now n missing m le rose = record {
  later = (let a = m.later in omega (arith, a, le));
  counted = elim m.counted [
    | inl a ↦ elim rose [
      | inl r ↦ inl (omega (arith, a, r))
      | inr top ↦ inr top
    ]
    | inr top ↦ inr (omega (arith, top, le))
  ];
  still = λ e. absurd (cc e);
}

pub failed_none : (n : ℕ) → FailsToGive n n []
failed_none n = record { later = omega arith; counted = inl (omega arith); still = λ e. refl }

-- ONE BY ONE

module _ {A : Type 0} (archives : Account A Meaning) where
  -- Some of these archives are still in the hand, and the others were given back. `first` is what
  -- the room meant before any was, and `room` what it means now.
  pub record GivenSofar (all hand : List (Shelf A)) (first room : RoomState) (answer : Result (Unit {0}) Failed) : Type 0 where
    pub missing : List ℕ
    pub failed_at : FailsToGive first.failures room.failures missing
    pub answers : AnswersFor missing answer
    pub each : (s : Shelf A) → Contains all s → HeldOrGiven archives.meaning (IsTrue archives.tells × (times s.number missing ≡ 0)) room hand s

  pub none_given : (all : List (Shelf A)) (room : RoomState) → GivenSofar all all room room (Ok tt)
  none_given all room = record {
    missing = [];
    failed_at = failed_none room.failures;
    answers = refl;
    each = λ s has. inl has;
  }

  module _ (all hand : List (Shelf A)) (first room new : RoomState) (p : ℕ) (x : Shelf A) (answer result : Result (Unit {0}) Failed)
      (g : GivenSofar all hand first room answer) (l : p < length hand) (e : x ≡ slice_index_or hand p x) (was : room.out x.number ≡ true) (back : new.out x.number ≡ false)
      (others : (n : ℕ) → n ≢ x.number → StaysAt room new n) where
    pub one_given : (given : Result (Unit {0}) Failed) → OnOk given (IsTrue archives.tells → IsMeant (new.means x.number) (archives.meaning x.archive)) → Caused room.failures new.failures (IsErr given)
        → OnOk given (new.failures ≡ room.failures) → (IsErr result → IsErr answer ⊎ IsErr given) → (IsErr answer → IsErr result) → (IsErr given → IsErr result) → GivenSofar all (remove hand p) first new result
    one_given (Ok u) its cause same some first_failed second_failed = record {
      missing = g.missing;
      failed_at = failed_same first.failures room.failures new.failures g.missing g.failed_at same;
      answers = answers_same g.missing answer (Ok u) result g.answers (λ q. cc q) some first_failed;
      each = λ s has. given_more archives.meaning (IsTrue archives.tells × (times s.number g.missing ≡ 0)) (IsTrue archives.tells × (times s.number g.missing ≡ 0)) room new hand p x s l e was back (λ t. t) (λ is t. its t.0) others (g.each s has);
    }
    one_given (Err f) its cause same some first_failed second_failed = record {
      missing = x.number ∷ g.missing;
      failed_at = failed_more first.failures room.failures new.failures x.number g.missing g.failed_at cause.later (cause.rose refl);
      answers = answers_more x.number g.missing result (second_failed refl);
      each = λ s has. given_more archives.meaning (IsTrue archives.tells × (times s.number g.missing ≡ 0)) (IsTrue archives.tells × (times s.number (x.number ∷ g.missing) ≡ 0)) room new hand p x s l e was back
          (λ t. (t.0, tail_time s.number x.number g.missing t.1))
          (λ is t. absurd (own_time x.number g.missing (subst (λ (y : Shelf A). times y.number (x.number ∷ g.missing) ≡ 0) is t.1))) others (g.each s has);
    }

  -- all of them were
  pub all_given : (all hand : List (Shelf A)) (first room : RoomState) (answer : Result (Unit {0}) Failed) → GivenSofar all hand first room answer → hand ≡ [] → GivesArchivesBack archives all first room answer
  all_given all hand first room answer g none = record {
    missing = g.missing;
    failed_at = g.failed_at;
    answers = g.answers;
    back = λ t s has there. elim (g.each s has) [
      | inl h ↦ absurd (none_contained s (subst (λ ss. Contains ss s) none h))
      | inr h ↦ h.1 (t, there)
    ];
  }

-- where the giving back failed, the room did
pub missed : {A : Type 0} {archives : Account A Meaning} {hand : List (Shelf A)} {old new : RoomState} (answer : Result (Unit {0}) Failed)
    → GivesArchivesBack archives hand old new answer → IsErr answer → Rose old.failures new.failures
missed (Ok u) g e = absurd (cc e)
missed (Err f) g e = (let some : 0 < length g.missing = g.answers in elim g.failed_at.counted [ inl a ↦ inl (omega (arith, a, some)) | inr top ↦ inr top ])

-- what means the same lost nothing
unchanged : (m : Meaning) → IsMeantButLost m m
unchanged m = lost_none m m (record { blocks = λ k. refl; past = refl; sums = refl; faulted = refl; lost = refl })

-- the room failed itself, and the archives that it had given were given back
pub is_unlent : {A : Type 0} (archives : Account A Meaning) (hand : List (Shelf A)) (first worked last : RoomState) (answer : Result (Unit {0}) Failed) → Rose first.failures worked.failures
    → GivesArchivesBack archives hand worked last answer → (IsTrue archives.tells → AreMeant archives.meaning first.means hand) → ((n : ℕ) → times n (numbers_of hand) ≡ 0 → last.means n ≡ first.means n)
    → IsUnlent (transition_by archives.tells first last)
is_unlent {A} archives hand first worked last answer rose g are stay = record {
  worked = worked.failures;
  rose = rose;
  missing = g.missing;
  failed_at = g.failed_at;
  others = λ t n none. elim (cases_lt 0 (times n (numbers_of hand))) [
    | inl some ↦ there t n none (find_shelf hand n (times_contains (numbers_of hand) n some))
    | inr le ↦ subst (λ m. IsMeant (first.means n) m) (sym (stay n (omega (arith, le)))) (same (first.means n))
  ];
}
  where
    same : (m : Meaning) → IsMeant m m
    same m = record { blocks = λ k. refl; past = refl; sums = refl; faulted = refl; lost = refl }

    there : IsTrue archives.tells → (n : ℕ) → times n g.missing ≡ 0 → (s : Shelf A) × (shelf_of hand n ≡ Some s) × (s.number ≡ n) × Contains hand s → IsMeant (first.means n) (last.means n)
    there t n none (s, is, number, has) =
        meant_by (first.means n) (last.means n) (archives.meaning s.archive) (subst (λ k. IsMeant (first.means k) (archives.meaning s.archive)) number (are t s has))
        (subst (λ k. IsMeant (last.means k) (archives.meaning s.archive)) number (g.back t s has (subst (λ k. times k g.missing ≡ 0) (sym number) none)))

-- memory ran out, and the archives that the room had given were given back
pub is_unopened : {A : Type 0} (archives : Account A Meaning) (hand : List (Shelf A)) (first worked last : RoomState) (answer : Result (Unit {0}) Failed) → worked.failures ≡ first.failures
    → GivesArchivesBack archives hand worked last answer → (IsTrue archives.tells → AreMeantButLost archives.meaning first.means hand) → ((n : ℕ) → times n (numbers_of hand) ≡ 0 → last.means n ≡ first.means n)
    → IsRoomUnopened (transition_by archives.tells first last)
is_unopened {A} archives hand first worked last answer same g are stay = record {
  missing = g.missing;
  failed_at = subst (λ k. FailsToGive k last.failures g.missing) same g.failed_at;
  others = λ t n none. elim (cases_lt 0 (times n (numbers_of hand))) [
    | inl some ↦ there t n none (find_shelf hand n (times_contains (numbers_of hand) n some))
    | inr le ↦ subst (λ m. IsMeantButLost (first.means n) m) (sym (stay n (omega (arith, le)))) (unchanged (first.means n))
  ];
}
  where
    there : IsTrue archives.tells → (n : ℕ) → times n g.missing ≡ 0 → (s : Shelf A) × (shelf_of hand n ≡ Some s) × (s.number ≡ n) × Contains hand s → IsMeantButLost (first.means n) (last.means n)
    there t n none (s, is, number, has) =
        lost_until (first.means n) (archives.meaning s.archive) (last.means n) (subst (λ k. IsMeantButLost (first.means k) (archives.meaning s.archive)) number (are t s has))
        (subst (λ k. IsMeant (last.means k) (archives.meaning s.archive)) number (g.back t s has (subst (λ k. times k g.missing ≡ 0) (sym number) none)))
