-- What was read is spelled by its value: parts, one after another, and numbers of bytes.
use Rattle.std.proofs.Common.{◌≡◌, ℕ, zero, suc, ◌+◌, ◌*◌, ◌≤◌, ◌^◌, ◌==◌, nat_le, List, [], ◌∷◌, ◌++◌, Bool, true, length, replicate, flat_map, Ok, ap, ap₂, sym, subst, ◌∙◌, refl, arith, append_assoc, append-nil, take_all}
use Rattle.std.proofs.Math.Seq.{take-append_seam, drop-append_seam}
use Rattle.std.proofs.Math.Nat.{le-mul_of_pos_right, one-le-pow}
use Rattle.std.proofs.lemmas.Bool.{eqb-true, leb-true}
use Rattle.std.proofs.lemmas.Grind.{flat_map-append}
use Rattle.byteorder.specs.Endian.{big_bytes, big_number, big_from}
use Rattle.byteorder.specs.Numbers.{big_from-cons}
use Rattle.pot_bytes.specs.Lists.{AreBytes}
use Rattle.pot_bytes.proofs.ListLemmas.{AreBytes-take, AreBytes-drop}
use Rattle.pot_object.proofs.NumberLemmas.{big_bytes_4, big_bytes_8}
use Rattle.pot_image.specs.Fields.{Field, Grammar, done, wants, IsField, ReadsFields, joined}
use Rattle.pot_image.specs.Reading.{◌>>=◌, over, several, reading}
use Rattle.pot_image.specs.Numbers.{natural, text, any, zeros, flag, digest}
use Rattle.pot_image.specs.Spelling.{flag_bytes, counted_bytes}
use Rattle.pot_image.proofs.Once.{reads_are}
use Rattle.pot_image.proofs.Inverse.{parts, done_is, several_keep}
use Rattle.pot_image.proofs.RecordRules.{one_longer}

front_bytes : (x y : List ℕ) → AreBytes (x ++ y) → AreBytes x
front_bytes x y h = subst (λ z. AreBytes z) (take-append_seam x y) (AreBytes-take (length x) (x ++ y) h)

back_bytes : (x y : List ℕ) → AreBytes (x ++ y) → AreBytes y
back_bytes x y h = subst (λ z. AreBytes z) (drop-append_seam x y) (AreBytes-drop (length x) (x ++ y) h)

rest_bytes : {A : Type 0} (g : Grammar A) (bytes rest : List ℕ) (a : A) → AreBytes bytes → reading g bytes ≡ Ok (a, rest) → AreBytes rest
rest_bytes g bytes rest a small e = (let r = reads_are g bytes rest a e in back_bytes (joined r.0) rest (subst (λ z. AreBytes z) r.1 small))

-- bytes that are read as a value are those that `write` gives it, and the value has a property
pub record Spelled {A : Type 0} (g : Grammar A) (write : A → List ℕ) (Has : A → Type 0) : Type 0 where
  pub spells : (bytes rest : List ℕ) (a : A) → AreBytes bytes → reading g bytes ≡ Ok (a, rest) → bytes ≡ write a ++ rest
  pub has : (bytes rest : List ℕ) (a : A) → reading g bytes ≡ Ok (a, rest) → Has a

abbrev pub NoMore : {A : Type 0} → A → Type 0
NoMore a = Unit {0}

-- and these, with others in front of them, are those that `write` gives the value
pub record Behind {A : Type 0} (front : List ℕ) (g : Grammar A) (write : A → List ℕ) : Type 0 where
  pub spells : (bytes rest : List ℕ) (a : A) → AreBytes bytes → reading g bytes ≡ Ok (a, rest) → front ++ bytes ≡ write a ++ rest

pub behind_done : {A : Type 0} (front : List ℕ) (a : A) (write : A → List ℕ) → front ≡ write a → Behind front (done a) write
behind_done front a write e = record { spells = λ bytes rest b small r. (let same = done_is a b bytes rest r in ap₂ (λ x y. x ++ y) (e ∙ ap write same.0) same.1) }

pub behind_then : {A B : Type 0} (front : List ℕ) (g : Grammar A) (next : A → Grammar B) (write : A → List ℕ) (Has : A → Type 0) (whole : B → List ℕ)
    → Spelled g write Has → ((a : A) → Has a → Behind (front ++ write a) (next a) whole) → Behind front (g >>= next) whole
behind_then front g next write Has whole first second = record {
  spells = λ bytes rest b small r. (
      let p = parts g next bytes b rest r in
      let here : bytes ≡ write p.value ++ p.behind = first.spells bytes p.behind p.value small p.first in
      let left = rest_bytes g bytes p.behind p.value small p.first in
      ap (λ z. front ++ z) here ∙ sym (append_assoc front (write p.value) p.behind) ∙ (second p.value (first.has bytes p.behind p.value p.first)).spells p.behind rest b left p.second);
}

-- the last part
pub behind_last : {A : Type 0} (front : List ℕ) (g : Grammar A) (write : A → List ℕ) (Has : A → Type 0) (whole : A → List ℕ)
    → Spelled g write Has → ((a : A) → Has a → front ++ write a ≡ whole a) → Behind front g whole
behind_last front g write Has whole last same = record {
  spells = λ bytes rest a small r.
      ap (λ z. front ++ z) (last.spells bytes rest a small r) ∙ sym (append_assoc front (write a) rest) ∙ ap (λ z. z ++ rest) (same a (last.has bytes rest a r));
}

pub spelled : {A : Type 0} (g : Grammar A) (write : A → List ℕ) → Behind [] g write → Spelled g write NoMore
spelled g write h = record { spells = h.spells; has = λ bytes rest a r. tt }

-- FIELDS

leaf : {A : Type 0} (f : Field) (view : List ℕ → A) (bytes rest : List ℕ) (a : A) → reading (wants f (λ x. done (view x))) bytes ≡ Ok (a, rest)
    → (x : List ℕ) × (bytes ≡ x ++ rest) × IsField f x × (view x ≡ a)
leaf {A} f view bytes rest a e = (let r = reads_are (wants f (λ x. done (view x))) bytes rest a e in by_fields r.0 r.1 r.2)
  where
    by_fields : (xs : List (List ℕ)) → bytes ≡ joined xs ++ rest → ReadsFields (wants f (λ x. done (view x))) xs a → (x : List ℕ) × (bytes ≡ x ++ rest) × IsField f x × (view x ≡ a)
    by_fields [] q h = absurd h
    by_fields (x ∷ []) q h = (x, q ∙ ap (λ z. z ++ rest) (append-nil x), h.0, h.1)
    by_fields (x ∷ y ∷ xs) q h = absurd h.1

spelled_field : {A : Type 0} (f : Field) (view : List ℕ → A) (write : A → List ℕ) (Has : A → Type 0)
    → ((x : List ℕ) → AreBytes x → IsField f x → write (view x) ≡ x) → ((x : List ℕ) → IsField f x → Has (view x)) → Spelled (wants f (λ x. done (view x))) write Has
spelled_field f view write Has same has = record {
  spells = λ bytes rest a small r. (let l = leaf f view bytes rest a r in
      l.1 ∙ ap (λ z. z ++ rest) (sym (same l.0 (front_bytes l.0 rest (subst (λ z. AreBytes z) l.1 small)) l.2) ∙ ap write l.3));
  has = λ bytes rest a r. (let l = leaf f view bytes rest a r in subst Has l.3 (has l.0 l.2));
}

-- a byte
pub spelled_byte : (rule : ℕ → Bool) → Spelled (natural 1 rule) (λ n. n ∷ []) (λ n. rule n ≡ true)
unfolding natural
spelled_byte rule = spelled_field (record { size = 1; holds = λ x. rule (big_number 1 x) }) (big_number 1) (λ n. n ∷ []) (λ n. rule n ≡ true) (λ x small is. one x is.0) (λ x is. is.1)
  where
    one : (x : List ℕ) → length x ≡ 1 → big_number 1 x ∷ [] ≡ x
    one [] l = absurd (omega (arith, l))
    one (b ∷ []) l = (let e : big_number 1 (b ∷ []) ≡ b = omega arith in ap (λ z. z ∷ []) e)
    one (b ∷ c ∷ x) l = absurd (omega (arith, l))

-- numbers of four and of eight bytes
pub spelled_4 : (rule : ℕ → Bool) → Spelled (natural 4 rule) (big_bytes 4) (λ n. rule n ≡ true)
unfolding natural
spelled_4 rule = spelled_field (record { size = 4; holds = λ x. rule (big_number 4 x) }) (big_number 4) (big_bytes 4) (λ n. rule n ≡ true)
    (λ x small is. (let l = is.0 in big_bytes_4 x small (omega (arith, l)) ∙ take_all 4 x (omega (arith, l)))) (λ x is. is.1)

pub spelled_8 : (rule : ℕ → Bool) → Spelled (natural 8 rule) (big_bytes 8) (λ n. rule n ≡ true)
unfolding natural
spelled_8 rule = spelled_field (record { size = 8; holds = λ x. rule (big_number 8 x) }) (big_number 8) (big_bytes 8) (λ n. rule n ≡ true)
    (λ x small is. (let l = is.0 in big_bytes_8 x small (omega (arith, l)) ∙ take_all 8 x (omega (arith, l)))) (λ x is. is.1)

-- zeros
all_zero : (n : ℕ) (x : List ℕ) → length x ≡ n → big_number n x ≡ 0 → replicate n 0 ≡ x
all_zero zero [] l e = refl
all_zero zero (b ∷ x) l e = absurd (omega (arith, l))
all_zero (suc n) [] l e = absurd (omega (arith, l))
all_zero (suc n) (b ∷ x) l e =
    (let moved : big_from 1 n (b ∷ x) ≡ big_number n x = big_from-cons 0 n b x in
    let sum : b * 256 ^ n + big_from 1 n (b ∷ x) ≡ 0 = e in
    let few : b ≤ b * 256 ^ n = le-mul_of_pos_right b (one-le-pow n 256 (omega arith)) in
    let first : 0 ≡ b = omega (arith, sum, few) in
    ap₂ (λ c y. c ∷ y) first (all_zero n x (omega (arith, l)) (omega (arith, sum, moved))))

pub spelled_zeros : (size : ℕ) → Spelled (zeros size) (λ n. replicate size 0) NoMore
unfolding natural
spelled_zeros size = spelled_field (record { size = size; holds = λ x. big_number size x == 0 }) (big_number size) (λ n. replicate size 0) NoMore (λ x small is. all_zero size x is.0 (eqb-true _ _ is.1)) (λ x is. tt)

pub spelled_text : (size : ℕ) (rule : List ℕ → Bool) → Spelled (text size rule) (λ x. x) (λ x. length x ≡ size)
unfolding text
spelled_text size rule = spelled_field (record { size = size; holds = rule }) (λ x. x) (λ x. x) (λ x. length x ≡ size) (λ x small is. refl) (λ x is. is.0)

pub spelled_flag : Spelled flag flag_bytes NoMore
unfolding flag
spelled_flag = spelled_field (record { size = 1; holds = λ x. nat_le (big_number 1 x) 1 }) (λ x. big_number 1 x == 1) flag_bytes NoMore (λ x small is. one x is.0 is.1) (λ x is. tt)
  where
    bit : (n : ℕ) → nat_le n 1 ≡ true → flag_bytes (n == 1) ≡ n ∷ []
    bit zero e = refl
    bit (suc zero) e = refl
    bit (suc (suc n)) e = (let l = leb-true (suc (suc n)) 1 e in absurd (omega (arith, l)))

    one : (x : List ℕ) → length x ≡ 1 → nat_le (big_number 1 x) 1 ≡ true → flag_bytes (big_number 1 x == 1) ≡ x
    one [] l e = absurd (omega (arith, l))
    one (b ∷ []) l e = (let same : big_number 1 (b ∷ []) ≡ b = omega arith in bit (big_number 1 (b ∷ [])) e ∙ ap (λ z. z ∷ []) same)
    one (b ∷ c ∷ x) l e = absurd (omega (arith, l))

pub spelled_digest : Spelled digest (λ d. d.bytes) NoMore
unfolding digest
spelled_digest = spelled_field (record { size = 32; holds = any }) (λ x. record { bytes = x }) (λ d. d.bytes) NoMore (λ x small is. refl) (λ x is. tt)

-- ONE AFTER ANOTHER

pub behind_several : {A : Type 0} (each : ℕ → List A → Grammar A) (write : A → List ℕ) → ((i : ℕ) (before : List A) → Spelled (each i before) write NoMore)
    → (n i : ℕ) (before : List A) → Behind (flat_map write before) (several i n each before) (flat_map write)
unfolding several
behind_several each write h zero i before = behind_done (flat_map write before) before (flat_map write) refl
behind_several each write h (suc n) i before =
    behind_then (flat_map write before) (each i before) (λ x. several (i + 1) n each (before ++ x ∷ [])) write NoMore (flat_map write) (h i before)
    (λ x t. (let one : flat_map write (before ++ x ∷ []) ≡ flat_map write before ++ write x = flat_map-append write before (x ∷ []) ∙ ap (λ z. flat_map write before ++ z) (append-nil (write x)) in
    subst (λ z. Behind z (several (i + 1) n each (before ++ x ∷ [])) (flat_map write)) one (behind_several each write h n (i + 1) (before ++ x ∷ []))))

-- a list of so many values
pub spelled_several : {A : Type 0} (each : ℕ → List A → Grammar A) (write : A → List ℕ) (n : ℕ) → ((i : ℕ) (before : List A) → Spelled (each i before) write NoMore)
    → Spelled (several 0 n each []) (flat_map write) (λ xs. length xs ≡ n)
spelled_several each write n h = record {
  spells = (behind_several each write h n 0 []).spells;
  has = λ bytes rest xs r. several_keep (λ i before. length before ≡ i) each n (λ i before x b s l p e. one_longer before x i p) n 0 [] xs bytes rest (omega arith) refl r;
}

-- their number, and the values
pub spelled_counted : {A : Type 0} (rule : ℕ → Bool) (each : ℕ → List A → Grammar A) (write : A → List ℕ) → ((i : ℕ) (before : List A) → Spelled (each i before) write NoMore)
    → Spelled (natural 4 rule >>= λ n. several 0 n each []) (counted_bytes write) NoMore
spelled_counted rule each write h = spelled _ _
    (behind_then [] (natural 4 rule) (λ n. several 0 n each []) (big_bytes 4) _ (counted_bytes write) (spelled_4 rule) (λ n t.
    behind_last (big_bytes 4 n) (several 0 n each []) (flat_map write) _ (counted_bytes write) (spelled_several each write n h) (λ xs l. ap (λ k. big_bytes 4 k ++ flat_map write xs) (sym l))))

-- values in a row of states
pub behind_over : {A : Type 0} (each : ℕ → A → Grammar A) (write : A → List ℕ) → ((i : ℕ) (a : A) → Behind (write a) (each i a) write)
    → (n i : ℕ) (a : A) → Behind (write a) (over i n each a) write
unfolding over
behind_over each write h zero i a = behind_done (write a) a write refl
behind_over each write h (suc n) i a = record {
  spells = λ bytes rest b small r. (
      let p = parts (each i a) (over (i + 1) n each) bytes b rest r in
      (h i a).spells bytes p.behind p.value small p.first ∙ (behind_over each write h n (i + 1) p.value).spells p.behind rest b (rest_bytes (each i a) bytes p.behind p.value small p.first) p.second);
}
