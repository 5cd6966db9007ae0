-- A grammar of fields, one after another. What stands next depends on what was read: a grammar is
-- done with a value, or wants a field of some size that keeps a rule, and goes on by the bytes of
-- that field.
use Rattle.std.specs.Prelude.{◌≡◌, ◌⊎◌, ◌<◌, ◌++◌, ℕ, List, [], ◌∷◌, Bool, true, length}

-- a field: its size, and the rule that its bytes keep
pub record Field : Type 0 where
  pub size : ℕ
  pub holds : List ℕ → Bool

pub data Grammar (A : Type 0) : Type 0 where
  done : A → Grammar A
  wants : Field → (List ℕ → Grammar A) → Grammar A

-- these bytes are the field
abbrev pub IsField : Field → List ℕ → Type 0
IsField f bytes = (length bytes ≡ f.size) × (f.holds bytes ≡ true)

-- no field of this size that keeps its rule stands at the front of these bytes
abbrev pub NoField : Field → List ℕ → Type 0
NoField f bytes = (front back : List ℕ) → bytes ≡ front ++ back → IsField f front → ⊥

-- these fields are those that the grammar wants in turn, and it is done with this value behind the
-- last
abbrev pub ReadsFields : {A : Type 0} → Grammar A → List (List ℕ) → A → Type 0
ReadsFields (done b) [] a = b ≡ a
ReadsFields (done b) (x ∷ xs) a = ⊥
ReadsFields (wants f next) [] a = ⊥
ReadsFields (wants f next) (x ∷ xs) a = IsField f x × ReadsFields (next x) xs a

-- These fields are those that the grammar wants in turn. Behind the last it wants another, which
-- does not stand at the front of the rest.
abbrev pub BreaksField : {A : Type 0} → Grammar A → List (List ℕ) → List ℕ → Type 0
BreaksField (done b) xs rest = ⊥
BreaksField (wants f next) [] rest = NoField f rest
BreaksField (wants f next) (x ∷ xs) rest = IsField f x × BreaksField (next x) xs rest

abbrev pub joined : List (List ℕ) → List ℕ
joined [] = []
joined (x ∷ xs) = x ++ joined xs

-- the bytes are of the grammar, and this is their value
pub record IsOf {A : Type 0} (g : Grammar A) (bytes : List ℕ) (value : A) : Type 0 where
  pub fields : List (List ℕ)
  pub spelled : bytes ≡ joined fields
  pub reads : ReadsFields g fields value

-- at this place stands the first field that breaks its rule or does not end
pub record BreaksAt {A : Type 0} (g : Grammar A) (bytes : List ℕ) (place : ℕ) : Type 0 where
  pub fields : List (List ℕ)
  pub rest : List ℕ
  pub spelled : bytes ≡ joined fields ++ rest
  pub breaks : BreaksField g fields rest
  pub counted : place ≡ length (joined fields)

-- the grammar is done, and bytes are left, the last of them before this place
pub record RunsOnTo {A : Type 0} (g : Grammar A) (bytes : List ℕ) (place : ℕ) : Type 0 where
  pub fields : List (List ℕ)
  pub value : A
  pub rest : List ℕ
  pub spelled : bytes ≡ joined fields ++ rest
  pub reads : ReadsFields g fields value
  pub left : 0 < length rest
  pub counted : place ≡ length bytes

-- The bytes leave the grammar at this place: that of the first field that breaks its rule or does
-- not end, or the end of the bytes, where some are left behind the last field.
abbrev pub LeavesAt : {A : Type 0} → Grammar A → List ℕ → ℕ → Type 0
LeavesAt g bytes place = BreaksAt g bytes place ⊎ RunsOnTo g bytes place
