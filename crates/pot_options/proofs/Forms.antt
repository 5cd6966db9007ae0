-- Words that are no `--name`, in clap's walk.
use Rattle.std.proofs.Common.{◌≡◌, ◌⊎◌, inl, inr, ◌∙◌, ℕ, Bool, cond, true, false, refl, ap, ap₂, subst, List, [], ◌∷◌, Option, Some, None, bytes_eq, ◌==◌, if◌then◌else◌, arith, slice_get, chars}
use Rattle.std.proofs.lemmas.Bool.Decides.{nat_tests}
use Rattle.std.proofs.lemmas.Slice.Eq.{bytes_eq-Decides}
use Rattle.std.specs.Option.{option_map_or}
use Rattle.clap.specs.Words.{Row}
use Rattle.clap.specs.Walk.{Text, Held, Waiting, idle, option, Step, next, trailing, value, plain, after_step, walked, bundle, bundle_met, long_or_other, short_or_plain, plain_word, arg_by_id}
use Rattle.clap.specs.Lexer.{long_of, short_of}
use Rattle.clap.specs.Kinds.{Kinds, or_else}
use Rattle.clap.specs.Faults.{turn_fault, step_fault, flag_word_fault, bundle_fault, flags_fault}
use Rattle.clap.specs.declared.error.kind.ErrorKind.TheVariants as kind
use Rattle.pot_options.specs.Options.{is_among}
use Rattle.pot_options.proofs.Names.{rule, rules, id_is, short_is, index_is}
use Rattle.pot_options.proofs.Built.{shape}
use Rattle.pot_options.proofs.Steps.{hold, at}

abbrev pub bare : Text
bare = 45 ∷ 45 ∷ []

pub data Form (word : Text) : Type 0 where
  Bare : bytes_eq word bare ≡ true → Form word
  Long : (y : ℕ) (ys : Text) → word ≡ 45 ∷ 45 ∷ y ∷ ys → Form word
  Short : (y : ℕ) (ys : Text) → bytes_eq word bare ≡ false → long_of word ≡ None → short_of word ≡ Some (y ∷ ys) → Form word
  Plain : bytes_eq word bare ≡ false → long_of word ≡ None → short_of word ≡ None → Form word

after_two : (zs : Text) → Form (45 ∷ 45 ∷ zs)
after_two [] = Bare refl
after_two (z ∷ zs) = Long z zs refl

after_one : (xs : Text) → Form (45 ∷ xs)
after_one [] = Plain refl refl refl
after_one (y ∷ ys) = go (y == 45) refl
  where
    go : (b : Bool) → (y == 45) ≡ b → Form (45 ∷ y ∷ ys)
    go true e =
        let is : 45 ≡ y = grind (arith, nat_tests) in
        subst (λ (k : ℕ). Form (45 ∷ k ∷ ys)) is (after_two ys)
    go false e = Short y ys (rw e refl) (rw e refl) (rw e refl)

pub unhyphened_form : (x : ℕ) (xs : Text) → (x == 45) ≡ false → (bytes_eq (x ∷ xs) bare ≡ false) × (long_of (x ∷ xs) ≡ None) × (short_of (x ∷ xs) ≡ None)
unhyphened_form x xs e = (rw e refl, rw e refl, rw e refl)

pub form_of : (word : Text) → Form word
form_of [] = Plain refl refl refl
form_of (x ∷ xs) = go (x == 45) refl
  where
    go : (b : Bool) → (x == 45) ≡ b → Form (x ∷ xs)
    go true e =
        let is : 45 ≡ x = grind (arith, nat_tests) in
        subst (λ (k : ℕ). Form (k ∷ xs)) is (after_one xs)
    go false e = let t = unhyphened_form x xs e in Plain t.0 t.1 t.2

module _ (names : List Text) (rows : List Row) (p : Option (Text × List Text)) (word : Text) where
  abbrev met : Waiting → Bool → Option (Text × Option Text) → Held × Step
  met w b l = if b then (hold rows p, trailing 1) else long_or_other (rules names) w word l (hold rows p)

  abbrev turn : Waiting → Bool → Option (Text × Option Text) → Kinds
  turn w b l = or_else (if b then [] else flag_word_fault (rules names) false l word (hold rows p)) (step_fault (shape names) 1 (met w b l).0 (met w b l).1)

  -- the same once the word is no `--name`
  abbrev pub other_turn : Waiting → Option Text → Kinds
  other_turn w f = or_else (option_map_or (λ flags. bundle_fault (rules names) false flags (hold rows p)) f [])
      (step_fault (shape names) 1 (short_or_plain (rules names) w word f (hold rows p)).0 (short_or_plain (rules names) w word f (hold rows p)).1)

  pub idle_turn : (f : Option Text) → bytes_eq word bare ≡ false → long_of word ≡ None → short_of word ≡ f → turn_fault (shape names) [] (at rows p idle) word ≡ other_turn idle f
  idle_turn f b l s = ap₂ (turn idle) b l ∙ ap (other_turn idle) s

  pub asked_turn : (n : Text) (f : Option Text) → bytes_eq word bare ≡ false → long_of word ≡ None → short_of word ≡ f
      → turn_fault (shape names) [] (at rows p (option n)) word ≡ other_turn (option n) f
  asked_turn n f b l s = ap₂ (turn (option n)) b l ∙ ap (other_turn (option n)) s

  pub asked_walk : (n : Text) (f : Option Text) → bytes_eq word bare ≡ false → long_of word ≡ None → short_of word ≡ f
      → walked (rules names) [] (at rows p (option n)) word ≡ after_step (rules names) word (at rows p (option n)) (short_or_plain (rules names) (option n) word f (hold rows p)).0 (short_or_plain (rules names) (option n) word f (hold rows p)).1
  unfolding walked
  asked_walk n f b l s = ap₂ (λ (b' : Bool) (l' : Option (Text × Option Text)). after_step (rules names) word (at rows p (option n)) (met (option n) b' l').0 (met (option n) b' l').1) b l
      ∙ ap (λ (f' : Option Text). after_step (rules names) word (at rows p (option n)) (short_or_plain (rules names) (option n) word f' (hold rows p)).0 (short_or_plain (rules names) (option n) word f' (hold rows p)).1) s

  -- a word that starts with one hyphen is an unknown flag, or (where it is no text) a plain word
  pub bundle_is : (y : ℕ) (ys : Text) → (bundle_fault (rules names) false (y ∷ ys) (hold rows p) ≡ kind.UnknownArgument ∷ [])
      ⊎ ((bundle_fault (rules names) false (y ∷ ys) (hold rows p) ≡ []) × (bundle (rules names) (y ∷ ys) (hold rows p) ≡ (hold rows p, plain)))
  unfolding flags_fault bundle_met
  bundle_is y ys = go (slice_get (chars (y ∷ ys)) 0) refl
    where
      go : (o : Option ℕ) → slice_get (chars (y ∷ ys)) 0 ≡ o → (bundle_fault (rules names) false (y ∷ ys) (hold rows p) ≡ kind.UnknownArgument ∷ [])
          ⊎ ((bundle_fault (rules names) false (y ∷ ys) (hold rows p) ≡ []) × (bundle (rules names) (y ∷ ys) (hold rows p) ≡ (hold rows p, plain)))
      go None e = inr (rw e refl, rw e refl)
      go (Some x) e = inl (rw (e, short_is names x) refl)

-- no positional takes a word
pub stray : (names : List Text) (h : Held) → step_fault (shape names) 1 h value ≡ kind.UnknownArgument ∷ []
stray names h = rw (index_is names 1) refl

-- a plain word is the value of the option that waits
pub value_taken : (names : List Text) (rows : List Row) (n v : Text) → is_among names n ≡ true
    → plain_word (rules names) (option n) v (hold rows (Some (n, []))) ≡ (hold rows (Some (n, v ∷ [])), next idle)
value_taken names rows n v known =
    let look : arg_by_id (rules names) n ≡ Some (rule n) = id_is names n ∙ ap (λ b. cond b (Some (rule n)) None) known in
    let same : bytes_eq n n ≡ true = (bytes_eq-Decides n n).1 refl in
    rw (look, same) refl
