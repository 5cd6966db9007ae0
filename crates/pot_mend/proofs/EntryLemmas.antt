-- Entries of a list.
use Rattle.std.proofs.Common.{◌≡◌, ⊎_elim, zero, ◌+◌, Bool, List, [], ◌∷◌, ◌++◌, length, refl, ap, ◌∙◌, arith, length-append}
use Rattle.std.specs.Prelude.{Contains, filter}
use Rattle.std.proofs.lemmas.List.Elements.{Contains-append_cases, filter-append}
use Rattle.pot_machine.specs.declared.entry.Entry.{Entry}
use Rattle.pot_replies.specs.Jobs.{EachIs}

pub one_in : (x : Entry) → Contains (x ∷ []) x
one_in x = (zero, omega arith, refl)

pub each_more : (test : Entry → Bool) (xs ys : List Entry) → EachIs test xs → EachIs test ys → EachIs test (xs ++ ys)
each_more test xs ys a b e has = ⊎_elim (λ (front : Contains xs e). a e front) (λ (back : Contains ys e). b e back) (Contains-append_cases xs ys e has)

pub count_both : (test : Entry → Bool) (xs ys : List Entry) → length (filter test (xs ++ ys)) ≡ length (filter test xs) + length (filter test ys)
count_both test xs ys = ap length (filter-append test xs ys) ∙ length-append (filter test xs) (filter test ys)

pub count_one : (test : Entry → Bool) (xs : List Entry) (e : Entry) → length (filter test (xs ++ e ∷ [])) ≡ length (filter test xs) + length (filter test (e ∷ []))
count_one test xs e = count_both test xs (e ∷ [])
