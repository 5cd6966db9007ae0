-- How what a reader answers follows from what the readers of its parts answer.
use Rattle.std.proofs.Common.{length-append, ◌≡◌, ℕ, List, length, take, drop, Bool, true, false, cond, ◌&&◌, nat_le, suc, arith, ◌+◌, ◌-◌, ◌<◌, ◌≤◌, if◌then◌else◌, Result, Ok, Err, IsErrAnd, ap, ap₂, append_assoc, append-nil, flat_map, ◌++◌, [], ◌∷◌, ◌∙◌, sym, subst, refl}
use Rattle.byteorder.specs.Endian.{big_number}
use Rattle.std.proofs.lemmas.Grind.{flat_map-append}
use Rattle.std.proofs.lemmas.Bool.{leb-true, and_parts, and_from, false≢true, and_right}
use Rattle.pot_image.specs.declared.fault.Fault.{Fault}
use Rattle.pot_image.specs.declared.fault.Fault.TheVariants.{Form, Memory}
use Rattle.pot_image.specs.Fields.{Grammar, done}
use Rattle.pot_image.specs.Reading.{◌>>=◌, over, several, reading}
use Rattle.pot_image.specs.Numbers.{natural, text, any, between}
use Rattle.pot_image.specs.Following.{Fails, Gives}
use Rattle.pot_image.proofs.Once.{ok_then, err_then, done_reads, ok_is, not_both}

-- the first part fails
pub fails_then : {A B : Type 0} (g : Grammar A) (next : A → Grammar B) (bytes : List ℕ) (e : Fault) → Fails e (reading g bytes) → Fails e (reading (g >>= next) bytes)
fails_then g next bytes (Form left) h = err_then g next bytes left h
fails_then g next bytes Memory h = tt

-- the first part is read, and what follows it fails
pub fails_on : {A B : Type 0} (g : Grammar A) (next : A → Grammar B) (bytes rest : List ℕ) (a : A) (e : Fault)
    → reading g bytes ≡ Ok (a, rest) → Fails e (reading (next a) rest) → Fails e (reading (g >>= next) bytes)
fails_on g next bytes rest a (Form left) h i = ok_then g next bytes rest a (Err left) h i
fails_on g next bytes rest a Memory h i = tt

-- what the exit of a `?` answers
pub exits : {X Y : Type 0} (view : X → Y) (r : Result X Fault) (e : Fault) (read : Result Y ℕ) → IsErrAnd r (λ f. f ≡ e) → Fails e read → Gives view r read
exits view (Ok x) e read h k = absurd h
exits view (Err f) e read h k = subst (λ z. Fails z read) (sym h) k

-- where memory was not found
pub no_memory : {X Y : Type 0} (view : X → Y) (r : Result X Fault) (read : Result Y ℕ) → IsErrAnd r (λ f. f ≡ Memory) → Gives view r read
no_memory view (Ok x) read h = absurd h
no_memory view (Err f) read h = subst (λ z. Fails z read) (sym h) tt

-- the field at the front does not stand
pub fails_at : {Y : Type 0} (e : Fault) (bytes : List ℕ) (read : Result Y ℕ) → e ≡ Form (length bytes) → read ≡ Err (length bytes) → Fails e read
fails_at e bytes read h k = subst (λ z. Fails z read) (sym h) k

-- what one reading does, an equal one does
pub fails_as : {Y : Type 0} (e : Fault) (read other : Result Y ℕ) → read ≡ other → Fails e read → Fails e other
fails_as e read other h k = subst (λ z. Fails e z) h k

-- A NUMBER WITH A RULE IS A NUMBER WITH A WEAKER RULE THAT KEEPS IT

-- what a number field comes to
abbrev pub number_read : Bool → ℕ → List ℕ → ℕ → Result (ℕ × List ℕ) ℕ
number_read b n rest left = if b then Ok (n, rest) else Err left

met_number : (fits base rule : Bool) (n m left : ℕ) (rest back : List ℕ) → number_read (fits && base) n rest left ≡ Ok (m, back) → rule ≡ true → number_read (fits && rule) n rest left ≡ Ok (m, back)
met_number true true true n m left rest back e k = e
met_number true true false n m left rest back e k = absurd ((cc))
met_number true false rule n m left rest back e k = absurd (not_both (m, back) left _ e refl)
met_number false base rule n m left rest back e k = absurd (not_both (m, back) left _ e refl)

unmet_number : (fits rule : Bool) (n left : ℕ) (rest : List ℕ) → rule ≡ false → number_read (fits && rule) n rest left ≡ Err left
unmet_number true false n left rest k = refl
unmet_number true true n left rest k = absurd ((cc))
unmet_number false rule n left rest k = refl

short_number : (fits base rule : Bool) (n left some : ℕ) (rest : List ℕ) → number_read (fits && base) n rest left ≡ Err some → (rule ≡ true → base ≡ true) → number_read (fits && rule) n rest left ≡ Err some
short_number true true rule n left some rest e k = absurd (not_both (n, rest) some _ refl e)
short_number true false true n left some rest e k = absurd (false≢true (k refl))
short_number true false false n left some rest e k = e
short_number false base rule n left some rest e k = e

pub kept : (size : ℕ) (base rule : ℕ → Bool) (bytes rest : List ℕ) (n : ℕ) → reading (natural size base) bytes ≡ Ok (n, rest) → rule n ≡ true → reading (natural size rule) bytes ≡ Ok (n, rest)
unfolding reading natural
kept size base rule bytes rest n e k =
    (let same : big_number size (take size bytes) ≡ n = value (nat_le size (length bytes) && base (big_number size (take size bytes))) e in
    met_number (nat_le size (length bytes)) (base (big_number size (take size bytes))) (rule (big_number size (take size bytes))) (big_number size (take size bytes)) n (length bytes) (drop size bytes) rest e (ap rule same ∙ k))
  where
    value : (b : Bool) → number_read b (big_number size (take size bytes)) (drop size bytes) (length bytes) ≡ Ok (n, rest) → big_number size (take size bytes) ≡ n
    value true h = ap (λ x. x.0) (ok_is (big_number size (take size bytes), drop size bytes) (n, rest) _ _ refl refl h)
    value false h = absurd (not_both (n, rest) (length bytes) _ h refl)

pub refused : (size : ℕ) (base rule : ℕ → Bool) (bytes rest : List ℕ) (n : ℕ) → reading (natural size base) bytes ≡ Ok (n, rest) → rule n ≡ false → reading (natural size rule) bytes ≡ Err (length bytes)
unfolding reading natural
refused size base rule bytes rest n e k =
    (let same : big_number size (take size bytes) ≡ n = value (nat_le size (length bytes) && base (big_number size (take size bytes))) e in
    unmet_number (nat_le size (length bytes)) (rule (big_number size (take size bytes))) (big_number size (take size bytes)) (length bytes) (drop size bytes) (ap rule same ∙ k))
  where
    value : (b : Bool) → number_read b (big_number size (take size bytes)) (drop size bytes) (length bytes) ≡ Ok (n, rest) → big_number size (take size bytes) ≡ n
    value true h = ap (λ x. x.0) (ok_is (big_number size (take size bytes), drop size bytes) (n, rest) _ _ refl refl h)
    value false h = absurd (not_both (n, rest) (length bytes) _ h refl)

pub short : (size : ℕ) (base rule : ℕ → Bool) (bytes : List ℕ) (e : Fault) → Fails e (reading (natural size base) bytes) → ((n : ℕ) → rule n ≡ true → base n ≡ true) → Fails e (reading (natural size rule) bytes)
unfolding reading natural
short size base rule bytes Memory h k = tt
short size base rule bytes (Form left) h k = short_number (nat_le size (length bytes)) (base (big_number size (take size bytes))) (rule (big_number size (take size bytes))) (big_number size (take size bytes)) (length bytes) left (drop size bytes) h (k (big_number size (take size bytes)))

-- a number that is read keeps its rule
pub holds_of : (size : ℕ) (rule : ℕ → Bool) (bytes rest : List ℕ) (n : ℕ) → reading (natural size rule) bytes ≡ Ok (n, rest) → rule n ≡ true
unfolding reading natural
holds_of size rule bytes rest n e = (held (nat_le size (length bytes)) (rule (big_number size (take size bytes))) refl e)
  where
    held : (fits keeps : Bool) → rule (big_number size (take size bytes)) ≡ keeps → number_read (fits && keeps) (big_number size (take size bytes)) (drop size bytes) (length bytes) ≡ Ok (n, rest) → rule n ≡ true
    held true true k h = ap rule (sym (ap (λ x. x.0) (ok_is (big_number size (take size bytes), drop size bytes) (n, rest) _ _ refl refl h))) ∙ k
    held true false k h = absurd (not_both (n, rest) (length bytes) _ h refl)
    held false keeps k h = absurd (not_both (n, rest) (length bytes) _ h refl)

pub between_of : (size least most : ℕ) (bytes rest : List ℕ) (n : ℕ) → reading (natural size (between least most)) bytes ≡ Ok (n, rest) → (least ≤ n) × (n ≤ most)
between_of size least most bytes rest n e =
    let rules = and_parts (nat_le least n) (nat_le n most) (holds_of size (between least most) bytes rest n e) in
    (leb-true _ _ rules.0, leb-true _ _ rules.1)

-- THE SAME WHERE ONE RULE STANDS BESIDE ANOTHER

pub narrowed : (size : ℕ) (base rule : ℕ → Bool) (bytes rest : List ℕ) (n : ℕ) → reading (natural size base) bytes ≡ Ok (n, rest) → rule n ≡ true → reading (natural size (λ m. base m && rule m)) bytes ≡ Ok (n, rest)
narrowed size base rule bytes rest n e k = kept size base (λ m. base m && rule m) bytes rest n e (and_from (base n) (rule n) (holds_of size base bytes rest n e) k)

pub barred : (size : ℕ) (base rule : ℕ → Bool) (bytes rest : List ℕ) (n : ℕ) → reading (natural size base) bytes ≡ Ok (n, rest) → rule n ≡ false → reading (natural size (λ m. base m && rule m)) bytes ≡ Err (length bytes)
barred size base rule bytes rest n e k = refused size base (λ m. base m && rule m) bytes rest n e (and_right (base n) (rule n) k)

pub cut_short : (size : ℕ) (base rule : ℕ → Bool) (bytes : List ℕ) (e : Fault) → Fails e (reading (natural size base) bytes) → Fails e (reading (natural size (λ m. base m && rule m)) bytes)
cut_short size base rule bytes e h = short size base (λ m. base m && rule m) bytes e h (λ m k. (and_parts (base m) (rule m) k).0)

-- THE SAME FOR BYTES THAT KEEP A RULE

abbrev pub text_read : Bool → List ℕ → List ℕ → ℕ → Result (List ℕ × List ℕ) ℕ
text_read b x rest left = if b then Ok (x, rest) else Err left

met_text : (fits base rule : Bool) (x y rest back : List ℕ) (left : ℕ) → text_read (fits && base) x rest left ≡ Ok (y, back) → rule ≡ true → text_read (fits && (base && rule)) x rest left ≡ Ok (y, back)
met_text true true true x y rest back left e k = e
met_text true true false x y rest back left e k = absurd ((cc))
met_text true false rule x y rest back left e k = absurd (not_both (y, back) left _ e refl)
met_text false base rule x y rest back left e k = absurd (not_both (y, back) left _ e refl)

unmet_text : (fits base rule : Bool) (x rest : List ℕ) (left : ℕ) → rule ≡ false → text_read (fits && (base && rule)) x rest left ≡ Err left
unmet_text true true false x rest left k = refl
unmet_text true true true x rest left k = absurd ((cc))
unmet_text true false rule x rest left k = refl
unmet_text false base rule x rest left k = refl

short_text : (fits base rule : Bool) (x rest : List ℕ) (left some : ℕ) → text_read (fits && base) x rest left ≡ Err some → text_read (fits && (base && rule)) x rest left ≡ Err some
short_text true true rule x rest left some e = absurd (not_both (x, rest) some _ refl e)
short_text true false rule x rest left some e = e
short_text false base rule x rest left some e = e

text_value : (b : Bool) (x y rest back : List ℕ) (left : ℕ) → text_read b x rest left ≡ Ok (y, back) → x ≡ y
text_value true x y rest back left h = ap (λ p. p.0) (ok_is (x, rest) (y, back) _ _ refl refl h)
text_value false x y rest back left h = absurd (not_both (y, back) left _ h refl)

and_true : (a : Bool) → a ≡ a && true
and_true true = refl
and_true false = refl

pub text_any : (size : ℕ) (base : List ℕ → Bool) (bytes : List ℕ) → reading (text size base) bytes ≡ reading (text size (λ y. base y && any y)) bytes
unfolding reading text
text_any size base bytes = ap (λ b. text_read (nat_le size (length bytes) && b) (take size bytes) (drop size bytes) (length bytes)) (and_true (base (take size bytes)))

pub text_narrowed : (size : ℕ) (base rule : List ℕ → Bool) (bytes rest x : List ℕ) → reading (text size base) bytes ≡ Ok (x, rest) → rule x ≡ true → reading (text size (λ y. base y && rule y)) bytes ≡ Ok (x, rest)
unfolding reading text
text_narrowed size base rule bytes rest x e k =
    (let same = text_value (nat_le size (length bytes) && base (take size bytes)) (take size bytes) x (drop size bytes) rest (length bytes) e in
    met_text (nat_le size (length bytes)) (base (take size bytes)) (rule (take size bytes)) (take size bytes) x (drop size bytes) rest (length bytes) e (ap rule same ∙ k))

pub text_barred : (size : ℕ) (base rule : List ℕ → Bool) (bytes rest x : List ℕ) → reading (text size base) bytes ≡ Ok (x, rest) → rule x ≡ false → reading (text size (λ y. base y && rule y)) bytes ≡ Err (length bytes)
unfolding reading text
text_barred size base rule bytes rest x e k =
    (let same = text_value (nat_le size (length bytes) && base (take size bytes)) (take size bytes) x (drop size bytes) rest (length bytes) e in
    unmet_text (nat_le size (length bytes)) (base (take size bytes)) (rule (take size bytes)) (take size bytes) (drop size bytes) (length bytes) (ap rule same ∙ k))

pub text_short : (size : ℕ) (base rule : List ℕ → Bool) (bytes : List ℕ) (e : Fault) → Fails e (reading (text size base) bytes) → Fails e (reading (text size (λ y. base y && rule y)) bytes)
unfolding reading text
text_short size base rule bytes Memory h = tt
text_short size base rule bytes (Form left) h = short_text (nat_le size (length bytes)) (base (take size bytes)) (rule (take size bytes)) (take size bytes) (drop size bytes) (length bytes) left h

-- ONE AFTER ANOTHER, IN A LOOP

-- a loop begins with all of them ahead
pub over_begins : {A : Type 0} (each : ℕ → A → Grammar A) (n : ℕ) (a b : A) (bytes : List ℕ) → a ≡ b → reading (over 0 (n - 0) each a) bytes ≡ reading (over 0 n each b) bytes
over_begins each n a b bytes e = (let all : n - 0 ≡ n = omega arith in ap₂ (λ m z. reading (over 0 m each z) bytes) all e)

pub over_on : {A : Type 0} (each : ℕ → A → Grammar A) (i n : ℕ) (a b : A) (bytes rest : List ℕ) → i < n → reading (each i a) bytes ≡ Ok (b, rest)
    → reading (over i (n - i) each a) bytes ≡ reading (over (i + 1) (n - (i + 1)) each b) rest
unfolding over
over_on each i n a b bytes rest l e =
    (let more : n - i ≡ suc (n - (i + 1)) = omega (arith, l) in
    ap (λ m. reading (over i m each a) bytes) more ∙ ok_then (each i a) (over (i + 1) (n - (i + 1)) each) bytes rest b _ e refl)

pub over_fails : {A : Type 0} (each : ℕ → A → Grammar A) (i n : ℕ) (a : A) (bytes : List ℕ) (e : Fault) → i < n → Fails e (reading (each i a) bytes) → Fails e (reading (over i (n - i) each a) bytes)
unfolding over
over_fails each i n a bytes e l h =
    (let more : suc (n - (i + 1)) ≡ n - i = omega (arith, l) in
    fails_as e _ _ (ap (λ m. reading (over i m each a) bytes) more) (fails_then (each i a) (over (i + 1) (n - (i + 1)) each) bytes e h))

pub over_done : {A : Type 0} (each : ℕ → A → Grammar A) (i n : ℕ) (a : A) (bytes : List ℕ) → n ≤ i → reading (over i (n - i) each a) bytes ≡ Ok (a, bytes)
unfolding over
over_done each i n a bytes l = (let none : n - i ≡ 0 = omega (arith, l) in ap (λ m. reading (over i m each a) bytes) none ∙ done_reads a bytes)

pub several_begins : {A : Type 0} (each : ℕ → List A → Grammar A) (n : ℕ) (a b : List A) (bytes : List ℕ) → a ≡ b → reading (several 0 (n - 0) each a) bytes ≡ reading (several 0 n each b) bytes
several_begins each n a b bytes e = (let all : n - 0 ≡ n = omega arith in ap₂ (λ m z. reading (several 0 m each z) bytes) all e)

pub several_on : {A : Type 0} (each : ℕ → List A → Grammar A) (i n : ℕ) (before after : List A) (x : A) (bytes rest : List ℕ) → i < n
    → reading (each i before) bytes ≡ Ok (x, rest) → after ≡ before ++ x ∷ []
    → reading (several i (n - i) each before) bytes ≡ reading (several (i + 1) (n - (i + 1)) each after) rest
unfolding several
several_on each i n before after x bytes rest l e q =
    (let more : n - i ≡ suc (n - (i + 1)) = omega (arith, l) in
    ap (λ m. reading (several i m each before) bytes) more
    ∙ ok_then (each i before) (λ y. several (i + 1) (n - (i + 1)) each (before ++ y ∷ [])) bytes rest x _ e refl
    ∙ ap (λ z. reading (several (i + 1) (n - (i + 1)) each z) rest) (sym q))

pub several_fails : {A : Type 0} (each : ℕ → List A → Grammar A) (i n : ℕ) (before : List A) (bytes : List ℕ) (e : Fault) → i < n
    → Fails e (reading (each i before) bytes) → Fails e (reading (several i (n - i) each before) bytes)
unfolding several
several_fails each i n before bytes e l h =
    (let more : suc (n - (i + 1)) ≡ n - i = omega (arith, l) in
    fails_as e _ _ (ap (λ m. reading (several i m each before) bytes) more) (fails_then (each i before) (λ y. several (i + 1) (n - (i + 1)) each (before ++ y ∷ [])) bytes e h))

pub several_done : {A : Type 0} (each : ℕ → List A → Grammar A) (i n : ℕ) (before : List A) (bytes : List ℕ) → n ≤ i → reading (several i (n - i) each before) bytes ≡ Ok (before, bytes)
unfolding several
several_done each i n before bytes l = (let none : n - i ≡ 0 = omega (arith, l) in ap (λ m. reading (several i m each before) bytes) none ∙ done_reads before bytes)

-- THE LAST PART, AND CHOICES

pub gives_as : {X Y : Type 0} (view : X → Y) (r : Result X Fault) (read other : Result Y ℕ) → read ≡ other → Gives view r read → Gives view r other
gives_as view r read other h k = subst (λ z. Gives view r z) h k

pub gives_on : {X A B : Type 0} (view : X → B × List ℕ) (r : Result X Fault) (g : Grammar A) (next : A → Grammar B) (bytes rest : List ℕ) (a : A)
    → reading g bytes ≡ Ok (a, rest) → Gives view r (reading (next a) rest) → Gives view r (reading (g >>= next) bytes)
gives_on view r g next bytes rest a h k = gives_as view r _ _ (sym (ok_then g next bytes rest a _ h refl)) k

pub chosen : {A : Type 0} (b : Bool) (g h : Grammar A) (bytes : List ℕ) → b ≡ true → reading g bytes ≡ reading (if b then g else h) bytes
chosen b g h bytes e = sym (ap (λ v. reading (cond v g h) bytes) e)

pub not_chosen : {A : Type 0} (b : Bool) (g h : Grammar A) (bytes : List ℕ) → b ≡ false → reading h bytes ≡ reading (if b then g else h) bytes
not_chosen b g h bytes e = sym (ap (λ v. reading (cond v g h) bytes) e)

-- what a list that grows by one value comes to
pub collected : {X Y : Type 0} (f : X → List Y) (start now new : List Y) (before after : List X) (x : X)
    → new ≡ now ++ f x → now ≡ start ++ flat_map f before → after ≡ before ++ x ∷ [] → new ≡ start ++ flat_map f after
collected f start now new before after x e h q =
    e ∙ ap (λ z. z ++ f x) h ∙ append_assoc start (flat_map f before) (f x) ∙ ap (λ z. start ++ z) (sym (ap (flat_map f) q ∙ flat_map-append f before (x ∷ []) ∙ ap (λ z. flat_map f before ++ z) (append-nil (f x))))

pub done_as : {A : Type 0} (a b : A) (bytes : List ℕ) → a ≡ b → reading (done a) bytes ≡ Ok (b, bytes)
done_as {A} a b bytes e = done_reads a bytes ∙ ap (λ z. read_as z) e
  where
    read_as : A → Result (A × List ℕ) ℕ
    read_as z = Ok (z, bytes)

pub counted_more : {A : Type 0} (before after : List A) (x : A) (m n : ℕ) → after ≡ before ++ x ∷ [] → length before ≡ m + n → length after ≡ m + (n + 1)
counted_more before after x m n q e = (let h : length after ≡ length before + 1 = ap length q ∙ length-append before (x ∷ []) in omega (arith, h, e))
