-- Bytes that are appended or hashed one part after another.
use Rattle.std.proofs.Common.{◌≡◌, ◌+◌, ◌<◌, ◌≤◌, ℕ, List, [], ◌∷◌, ◌++◌, length, take, drop, get_or, Result, Ok, Err, Vec, refl, sym, ap, subst, ◌∙◌, append_assoc, append-nil, arith, length-append}
use Rattle.std.specs.Prelude.{IsErr}
use Rattle.std.specs.List.{flat_map}
use Rattle.std.specs.Global.{Global}
use Rattle.std.specs.declared.alloc.AllocError.{AllocError}
use Rattle.std.proofs.lemmas.List.{take_more, take_all, take_at, take-append-drop}
use Rattle.std.proofs.lemmas.List.Concat.{flat_map-append}
use Rattle.sha2.specs.declared.Sha256.{Sha256}
use Rattle.sha2.specs.Hashers.{Holds256}
use Rattle.pot_index.specs.declared.record.Record.{Record}
use Rattle.pot_index.specs.Records.{current_of, head_bytes, split_bytes, record_bytes}
use Rattle.pot_index.specs.Writing.{Appends, Hashes}

-- PARTS OF A LIST

pub parts_more : {X : Type 0} (f : X → List ℕ) (xs : List X) (i : ℕ) (d : X) → i < length xs
    → flat_map f (take i xs) ++ f (get_or xs i d) ≡ flat_map f (take (i + 1) xs)
parts_more f xs i d lt =
    sym (ap (flat_map f) (take_more xs i d lt) ∙ flat_map-append f (take i xs) (get_or xs i d ∷ []) ∙ ap (λ ys. flat_map f (take i xs) ++ ys) (append-nil (f (get_or xs i d))))

pub parts_all : {X : Type 0} (f : X → List ℕ) (xs : List X) (i : ℕ) → length xs ≤ i → flat_map f (take i xs) ≡ flat_map f xs
parts_all f xs i le = ap (flat_map f) (take_all i xs le)

pub parts_split : {X : Type 0} (f : X → List ℕ) (xs : List X) (i : ℕ) (d : X) → i < length xs
    → (flat_map f (take i xs) ++ f (get_or xs i d)) ++ flat_map f (drop (i + 1) xs) ≡ flat_map f xs
parts_split f xs i d lt =
    ap (λ ys. ys ++ flat_map f (drop (i + 1) xs)) (parts_more f xs i d lt)
    ∙ sym (flat_map-append f (take (i + 1) xs) (drop (i + 1) xs))
    ∙ ap (flat_map f) (take-append-drop (i + 1) xs)

-- HASHING

pub hashed_both : (s t u : Sha256) (xs ys : List ℕ) → Hashes s t xs → Hashes t u ys → Hashes s u (xs ++ ys)
hashed_both s t u xs ys h k m was = subst (Holds256 u) (append_assoc m xs ys) (k (m ++ xs) (h m was))

pub hashed_as : (s t : Sha256) (xs ys : List ℕ) → xs ≡ ys → Hashes s t xs → Hashes s t ys
hashed_as s t xs ys e h = subst (Hashes s t) e h

-- APPENDING

-- the bytes that stood at the end of a front are a front of what stands now
still_begins : (was xs now middle : List ℕ) → middle ≡ was ++ xs → take (length middle) now ≡ middle → take (length was) now ≡ was
still_begins was xs now middle grown begins =
    let rest = drop (length middle) now in
    let whole : now ≡ was ++ (xs ++ rest) = sym (take-append-drop (length middle) now) ∙ ap (λ (t : List ℕ). t ++ rest) (begins ∙ grown) ∙ append_assoc was xs rest in
    ap (take (length was)) whole ∙ take_at was (xs ++ rest) (length was) refl

module _ (old middle new : Vec ℕ Global) (xs ys : List ℕ) where
  -- the first part stands, and the second was appended or not
  pub appended_both : (r : Result (Unit {0}) AllocError) → Appends old middle (Ok tt) xs → Appends middle new r ys → Appends old new r (xs ++ ys)
  appended_both (Ok u) a b = record {
    ok = b.ok ∙ ap (λ (t : List ℕ). t ++ ys) a.ok ∙ append_assoc old.items xs ys;
    begins = tt;
    full = tt;
    capacity = omega (arith, a.capacity, b.capacity);
  }
  appended_both (Err e) a b = record {
    ok = tt;
    begins = still_begins old.items xs new.items middle.items a.ok b.begins;
    full = omega (arith, a.capacity, b.full, ap length a.ok, length-append old.items xs, length-append xs ys);
    capacity = omega (arith, a.capacity, b.capacity);
  }

-- what stood in the way of a front stands in the way of the whole
pub stopped : (old new : Vec ℕ Global) (e : AllocError) (r : Result (Unit {0}) AllocError) (xs ys : List ℕ) → IsErr r → Appends old new (Err e) xs → Appends old new r (xs ++ ys)
stopped old new e (Ok u) xs ys h a = absurd (cc)
stopped old new e (Err f) xs ys h a = record { ok = tt; begins = a.begins; full = omega (arith, a.full, length-append xs ys); capacity = a.capacity }

pub appended_as : (old new : Vec ℕ Global) (r : Result (Unit {0}) AllocError) (xs ys : List ℕ) → xs ≡ ys → Appends old new r xs → Appends old new r ys
appended_as old new r xs ys e a = subst (Appends old new r) e a

pub appended_none : (v : Vec ℕ Global) → Appends v v (Ok tt) []
appended_none v = record { ok = sym (append-nil v.items); begins = tt; full = tt; capacity = omega arith }

-- A RECORD

pub record_parts : (r : Record) → (head_bytes r ++ flat_map split_bytes r.older) ++ split_bytes (current_of r) ≡ record_bytes r
unfolding record_bytes
record_parts r =
    append_assoc (head_bytes r) (flat_map split_bytes r.older) (split_bytes (current_of r))
    ∙ ap (λ (t : List ℕ). head_bytes r ++ t) (ap (λ (t : List ℕ). flat_map split_bytes r.older ++ t) (sym (append-nil (split_bytes (current_of r)))) ∙ sym (flat_map-append split_bytes r.older (current_of r ∷ [])))

pub record_rest : (r : Record) → head_bytes r ++ (flat_map split_bytes r.older ++ split_bytes (current_of r)) ≡ record_bytes r
record_rest r = sym (append_assoc (head_bytes r) (flat_map split_bytes r.older) (split_bytes (current_of r))) ∙ record_parts r

-- a loop over parts stops at one for which there is no room
pub stopped_in : {X : Type 0} (f : X → List ℕ) (old middle new : Vec ℕ Global) (e : AllocError) (r : Result (Unit {0}) AllocError) (head this : List ℕ) (xs : List X) (i : ℕ) (d : X) → i < length xs → IsErr r → this ≡ f (get_or xs i d)
    → Appends old middle (Ok tt) (head ++ flat_map f (take i xs)) → Appends middle new (Err e) this → Appends old new r (head ++ flat_map f xs)
stopped_in f old middle new e r head this xs i d lt failed is a b =
    let done = head ++ flat_map f (take i xs) in
    let rest = flat_map f (drop (i + 1) xs) in
    let whole : (done ++ this) ++ rest ≡ head ++ flat_map f xs =
    ap (λ (t : List ℕ). t ++ rest) (append_assoc head (flat_map f (take i xs)) this)
    ∙ append_assoc head (flat_map f (take i xs) ++ this) rest
    ∙ ap (λ (t : List ℕ). head ++ ((flat_map f (take i xs) ++ t) ++ rest)) is
    ∙ ap (λ (t : List ℕ). head ++ t) (parts_split f xs i d lt) in
    appended_as old new r ((done ++ this) ++ rest) (head ++ flat_map f xs) whole
    (stopped old new e r (done ++ this) rest failed (appended_both old middle new done this (Err e) a b))
