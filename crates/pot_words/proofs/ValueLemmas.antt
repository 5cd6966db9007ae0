-- Values in form begin with no hyphen, so that each task's words are read.
use Rattle.std.proofs.Common.{◌≡◌, ◌∙◌, ◌<◌, ◌^◌, ◌==◌, ◌||◌, ℕ, Bool, cond, true, false, refl, sym, ap, subst, List, [], ◌∷◌, ◌++◌, Option, Some, None, bytes_eq, true≢false, inl, inr, arith, length, decimal}
use Rattle.std.specs.Bool.{⊤}
use Rattle.std.specs.Char.{digit_value}
use Rattle.std.specs.Prelude.{codes, nat_eq, Ok, Err, ◌%◌, ◌/◌}
use Rattle.std.specs.Str.Parse.{AllDigits}
use Rattle.std.proofs.lemmas.Bool.Decides.{nat_tests}
use Rattle.std.proofs.lemmas.Slice.Eq.{bytes_eq-Decides}
use Rattle.std.proofs.lemmas.Fmt.{digits_decimal}
use Rattle.std.proofs.lemmas.Str.Parse.{numerals_by_value, tells_digits}
use Rattle.hex.specs.Hex.{decode_sized, decode_pairs}
use Rattle.hex.specs.declared.error.FromHexError.TheVariants.{InvalidStringLength, OddLength}
use Rattle.pot_options.specs.Options.{Text, AreNewOptions, AreUnhyphened, AreOptionsRead, IsUnhyphened, IsUnread, given, is_among, is_used}
use Rattle.pot_words.specs.Answers.{IsOnly}
use Rattle.pot_words.specs.Tasks.{SpellOptions}
use Rattle.pot_words.specs.Values.{HasNumber, HasNumberOr, HasSeed, HasYes}
use Rattle.pot_words.proofs.NumberLemmas.{one_text}

not_used : (before : List (Text × Text)) (u : Text × Text) (n : Text) → is_used (before ++ u ∷ []) n ≡ false → (is_used before n ≡ false) × (bytes_eq u.0 n ≡ false)
not_used [] u n none = go (bytes_eq u.0 n) none
  where
    go : (b : Bool) → (b || false) ≡ false → (false ≡ false) × (b ≡ false)
    go true e = absurd (true≢false e)
    go false e = (refl, refl)
not_used (w ∷ before) u n none = go (bytes_eq w.0 n) none (not_used before u n)
  where
    go : (b : Bool) → (b || is_used (before ++ u ∷ []) n) ≡ false → (is_used (before ++ u ∷ []) n ≡ false → (is_used before n ≡ false) × (bytes_eq u.0 n ≡ false))
        → ((b || is_used before n) ≡ false) × (bytes_eq u.0 n ≡ false)
    go true e h = absurd (true≢false e)
    go false e h = h e

unhyphened_from : (names : List Text) (before uses : List (Text × Text)) → AreNewOptions names before uses
    → ((n v : Text) → is_among names n ≡ true → is_used before n ≡ false → given uses n ≡ Some v → IsUnhyphened v) → AreUnhyphened uses
unhyphened_from names before [] new tells = tt
unhyphened_from names before (u ∷ others) new tells =
    let same : bytes_eq u.0 u.0 ≡ true = (bytes_eq-Decides u.0 u.0).1 refl in
    let here : given (u ∷ others) u.0 ≡ Some u.1 = rw same refl in (
      tells u.0 u.1 new.0 new.1 here,
      unhyphened_from names (before ++ u ∷ []) others new.2
          (λ n v among none is. let parts = not_used before u n none in let past : given (u ∷ others) n ≡ given others n = rw parts.1 refl in tells n v among parts.0 (past ∙ is)),
    )

-- the value of the option, if it has one, begins with no hyphen
abbrev pub IsUnhyphenedAt : (Text → Option Text) → Text → Type 0
IsUnhyphenedAt value name = (v : Text) → value name ≡ Some v → IsUnhyphened v

-- the same for each of the names
abbrev pub AreUnhyphenedAt : (Text → Option Text) → List Text → Type 0
AreUnhyphenedAt value [] = ⊤
AreUnhyphenedAt value (name ∷ others) = IsUnhyphenedAt value name × AreUnhyphenedAt value others

at_name : (value : Text → Option Text) (names : List Text) → AreUnhyphenedAt value names → (n v : Text) → is_among names n ≡ true → value n ≡ Some v → IsUnhyphened v
at_name value [] unhyphened n v among is = absurd (true≢false (sym among))
at_name value (name ∷ others) unhyphened n v among is = go (bytes_eq name n) refl among (at_name value others unhyphened.1 n v)
  where
    go : (b : Bool) → bytes_eq name n ≡ b → (b || is_among others n) ≡ true → (is_among others n ≡ true → value n ≡ Some v → IsUnhyphened v) → IsUnhyphened v
    go true e a h = unhyphened.0 v (ap value ((bytes_eq-Decides name n).0 e) ∙ is)
    go false e a h = h a is

unhyphened_uses : (names : List Text) (uses : List (Text × Text)) → AreNewOptions names [] uses → AreUnhyphenedAt (given uses) names → AreUnhyphened uses
unhyphened_uses names uses new unhyphened = unhyphened_from names [] uses new (λ n v among none is. at_name (given uses) names unhyphened n v among is)

module _ {T : Type 0} (names : List Text) (Has : T → (Text → Option Text) → Type 0) (unhyphened : (t : T) (value : Text → Option Text) → Has t value → AreUnhyphenedAt value names) where
  same_uses : (words : List Text) (read : List (Text × Text)) → AreOptionsRead names words read → (t : T) (spelled : SpellOptions names (Has t) words) → Has t (given read)
  same_uses words read is t spelled =
      let uses : List (Text × Text) = spelled.0 in
      let same : read ≡ uses = is.1 uses spelled.1 (unhyphened_uses names uses spelled.1.1 (unhyphened t (given uses) spelled.2)) in
      subst (λ (us : List (Text × Text)). Has t (given us)) (sym same) spelled.2

  -- the answer on the uses that were read is the answer on the words
  pub answered : (listed words : List Text) (read : List (Text × Text)) (r : Option T) → listed ≡ names → AreOptionsRead listed words read
      → IsOnly (λ (t : T). Has t (given read)) r → IsOnly (λ (t : T). SpellOptions names (Has t) words) r
  answered listed words read None same is none = λ t spelled. none t (same_uses words read (subst (λ (ns : List Text). AreOptionsRead ns words read) same is) t spelled)
  answered listed words read (Some t) same is only =
      let of_names = subst (λ (ns : List Text). AreOptionsRead ns words read) same is in
      ((read, of_names.0, only.0), λ s spelled. only.1 s (same_uses words read of_names s spelled))

  pub unanswered : (listed words : List Text) → listed ≡ names → IsUnread listed words → IsOnly (λ (t : T). SpellOptions names (Has t) words) None
  unanswered listed words same unread = λ t spelled.
      subst (λ (ns : List Text). IsUnread ns words) same unread spelled.0 spelled.1 (unhyphened_uses names spelled.0 spelled.1.1 (unhyphened t (given spelled.0) spelled.2))

unhyphened_digits : (ds : List ℕ) → AllDigits 10 ds → IsUnhyphened ds
unhyphened_digits [] digits = tt
unhyphened_digits (d ∷ ds) digits = go (nat_eq d 45) refl digits.0
  where
    go : (b : Bool) → nat_eq d 45 ≡ b → digit_value d < 10 → nat_eq d 45 ≡ false
    go false e small = e
    go true e small =
        let is : d ≡ 45 = grind (arith, nat_tests) in
        let bad : digit_value 45 < 10 = subst (λ (k : ℕ). digit_value k < 10) is small in
        absurd (omega (arith, bad))

pub unhyphened_decimal : (n : ℕ) → n < 2 ^ 64 → IsUnhyphened (decimal n)
unhyphened_decimal n small = unhyphened_digits (decimal n) (digits_decimal (numerals_by_value _ tells_digits) n small)

hyphen_pairs : (ds : List ℕ) (x : List ℕ) → decode_pairs 0 (45 ∷ ds) ≡ Ok x → ⊥
unfolding decode_pairs
hyphen_pairs [] x is = cc
hyphen_pairs (d ∷ ds) x is = cc

hyphen_sized : (ds : List ℕ) (n : ℕ) (x : List ℕ) → decode_sized (45 ∷ ds) n ≡ Ok x → ⊥
hyphen_sized ds n x is = go (length (45 ∷ ds) % 2 == 1) (length (45 ∷ ds) / 2 == n) is
  where
    go : (a b : Bool) → cond a (Err OddLength) (cond b (decode_pairs 0 (45 ∷ ds)) (Err InvalidStringLength)) ≡ Ok x → ⊥
    go true b e = cc
    go false true e = hyphen_pairs ds x e
    go false false e = cc

-- a seed's text begins with a digit
unhyphened_hex : (text : Text) (n : ℕ) (seed : List ℕ) → decode_sized text n ≡ Ok seed → IsUnhyphened text
unhyphened_hex [] n seed is = tt
unhyphened_hex (d ∷ ds) n seed is = go (nat_eq d 45) refl
  where
    go : (b : Bool) → nat_eq d 45 ≡ b → nat_eq d 45 ≡ false
    go false e = e
    go true e =
        let hyphen : d ≡ 45 = grind (arith, nat_tests) in
        absurd (hyphen_sized ds n seed (subst (λ (k : ℕ). decode_sized (k ∷ ds) n ≡ Ok seed) hyphen is))

module _ (value : Text → Option Text) (name : Text) where
  pub unhyphened_number : (least most n : ℕ) → most < 2 ^ 64 → HasNumber value name least most n → IsUnhyphenedAt value name
  unhyphened_number least most n bound has v is =
      subst IsUnhyphened (one_text (value name) (decimal n) v has.2 is) (unhyphened_decimal n (omega (arith, has.1)))

  pub unhyphened_number_or : (least most other n : ℕ) → most < 2 ^ 64 → HasNumberOr value name least most other n → IsUnhyphenedAt value name
  unhyphened_number_or least most other n bound (inl left_out) v is = let bad : None ≡ Some v = sym left_out.0 ∙ is in absurd (cc)
  unhyphened_number_or least most other n bound (inr has) v is = unhyphened_number least most n bound has v is

  pub unhyphened_seed : (seed : Option (List ℕ)) → HasSeed value name seed → IsUnhyphenedAt value name
  unhyphened_seed None left_out v is = let bad : None ≡ Some v = sym left_out ∙ is in absurd (cc)
  unhyphened_seed (Some seed) has v is = subst IsUnhyphened (one_text (value name) has.0 v has.1 is) (unhyphened_hex has.0 32 seed has.2)

  pub unhyphened_yes : (yes : Bool) → HasYes value name yes → IsUnhyphenedAt value name
  unhyphened_yes true has v is = subst IsUnhyphened (one_text (value name) (codes "yes") v has is) refl
  unhyphened_yes false (inl left_out) v is = let bad : None ≡ Some v = sym left_out ∙ is in absurd (cc)
  unhyphened_yes false (inr has) v is = subst IsUnhyphened (one_text (value name) (codes "no") v has is) refl
