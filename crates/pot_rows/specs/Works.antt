-- What a job did with a row of passes: at each place what it did there with the pass of one turn.
use Rattle.std.specs.Prelude.{◌≡◌, ◌≢◌, ◌<◌, ℕ, Bool, false, List, [], ◌∷◌, length, map, filter}
use Rattle.pot_turn.specs.declared.view.View.{View}
use Rattle.pot_worked.specs.WroteOnlyFor.{added, WroteOnlyFor, OnlyWriterOf, IsTurn}
use Rattle.pot_worked.specs.Laws.{AllOf}
use Rattle.pot_worked.specs.Batches.{Carried, Joins}
use Rattle.pot_worked.specs.OnlyWriter.{Extends, OnlyWriter, IsTurnWhole}
use Rattle.pot_rows.specs.Rows.{PassRow, view_at, with_view}
use Rattle.pot_rows.specs.Ties.{RowTied}
use Rattle.pot_rows.specs.Parts.{RowJoined}

module _ {E O : Type 0} where
  -- no pass of the row has its value, at any place
  abbrev pub AllIdle : PassRow E O → Type 0
  AllIdle row = (at : ℕ) → (view_at row at).holds ≡ false

  -- the row went on, and alone logged what its logs gained
  abbrev pub RowExtends : PassRow E O → PassRow E O → Type 0
  RowExtends old new = (at : ℕ) → Extends (view_at old at) (view_at new at)

  abbrev pub RowOnlyWriter : PassRow E O → PassRow E O → Type 0
  RowOnlyWriter old new = (at : ℕ) → OnlyWriter (view_at old at) (view_at new at)

  -- one locked call at a place, and nothing at any other
  pub record TurnAt (others entries : List E) (old : PassRow E O) (at : ℕ)
      (new : PassRow E O) : Type 0 where
    pub pass : View E O
    pub is : new ≡ with_view old at pass
    pub turn : IsTurn others entries (view_at old at) pass

module _ {E O : Type 0} (is_of : E → Bool) where
  -- the row worked for a job, and for no other; and nobody else logged an entry of it
  abbrev pub RowWroteOnlyFor : PassRow E O → PassRow E O → Type 0
  RowWroteOnlyFor old new = (at : ℕ) → WroteOnlyFor is_of (view_at old at) (view_at new at)

  abbrev pub RowOnlyWriterOf : PassRow E O → PassRow E O → Type 0
  RowOnlyWriterOf old new = (at : ℕ) → OnlyWriterOf is_of (view_at old at) (view_at new at)

-- LAWS

-- a locked call whose entries are all the job's is work of the whole row
abbrev pub TurnIsWork : (E O : Type 0) → Type 0
TurnIsWork E O =
    (is_of : E → Bool) (others entries : List E) (old new : PassRow E O) (at : ℕ)
    → at < length old.views → AllIdle old → TurnAt others entries old at new → AllOf is_of entries
    → RowWroteOnlyFor is_of old new

-- where the job was alone, its entries are those of the call at that place, and none at any other
abbrev pub OwnInTurnAt : (E O : Type 0) → Type 0
OwnInTurnAt E O =
    (is_of : E → Bool) (others entries : List E) (old new : PassRow E O) (at : ℕ)
    → at < length old.views → TurnAt others entries old at new → AllOf is_of entries
    → RowOnlyWriterOf is_of old new
    → (filter is_of (added (view_at old at) (view_at new at)) ≡ entries)
    × ((i : ℕ) → at ≢ i → filter is_of (added (view_at old i) (view_at new i)) ≡ [])

-- part after part
abbrev pub RowWorkInParts : (E O : Type 0) → Type 0
RowWorkInParts E O =
    (is_of : E → Bool) (u v w : PassRow E O) → RowWroteOnlyFor is_of u v → RowWroteOnlyFor is_of v w
    → RowWroteOnlyFor is_of u w

abbrev pub RowOnlyWriterOfInParts : (E O : Type 0) → Type 0
RowOnlyWriterOfInParts E O =
    (is_of : E → Bool) (u v w : PassRow E O) → RowWroteOnlyFor is_of u v → RowWroteOnlyFor is_of v w
    → RowOnlyWriterOf is_of u w → RowOnlyWriterOf is_of u v × RowOnlyWriterOf is_of v w

-- a tie is work of any job, and where that was alone, what is seen has no entry of it
abbrev pub TieIsWork : (E O : Type 0) → Type 0
TieIsWork E O =
    (is_of : E → Bool) (mine others mine' others' : PassRow E O) → RowTied mine others mine' others'
    → AllIdle mine → RowWroteOnlyFor is_of mine mine'

abbrev pub TieHasNone : (E O : Type 0) → Type 0
TieHasNone E O =
    (is_of : E → Bool) (mine others mine' others' : PassRow E O) → RowTied mine others mine' others'
    → RowOnlyWriterOf is_of mine mine'
    → (at : ℕ) → filter is_of (added (view_at mine at) (view_at mine' at)) ≡ []

-- commands in a row
abbrev pub RowWorkExtends : (E O : Type 0) → Type 0
RowWorkExtends E O = (is_of : E → Bool) (v w : PassRow E O) → RowWroteOnlyFor is_of v w → RowExtends v w

abbrev pub RowExtendsInParts : (E O : Type 0) → Type 0
RowExtendsInParts E O = (u v w : PassRow E O) → RowExtends u v → RowExtends v w → RowExtends u w

abbrev pub RowOnlyWriterInParts : (E O : Type 0) → Type 0
RowOnlyWriterInParts E O =
    (u v w : PassRow E O) → RowExtends u v → RowExtends v w → RowOnlyWriter u w → RowOnlyWriter u v × RowOnlyWriter v w

abbrev pub RowOnlyWriterOfAny : (E O : Type 0) → Type 0
RowOnlyWriterOfAny E O =
    (is_of : E → Bool) (v w : PassRow E O) → RowWroteOnlyFor is_of v w → RowOnlyWriter v w → RowOnlyWriterOf is_of v w

abbrev pub RowOnlyWriterAtClose : (E O : Type 0) → Type 0
RowOnlyWriterAtClose E O =
    (u x : PassRow E O) → RowExtends u x → ((at : ℕ) → IsTurnWhole (view_at u at) (view_at x at))
    → RowOnlyWriter u x

-- A BATCH

-- a job of a batch: its number, the row that it was given, and that row when it was done
pub record CarriedRow (E O : Type 0) : Type 0 where
  pub job : ℕ
  pub given : PassRow E O
  pub done : PassRow E O

module _ {E O : Type 0} where
  -- what the job had at a place
  abbrev pub carried_at : ℕ → CarriedRow E O → Carried E O
  carried_at at c = record { job = c.job; given = view_at c.given at; done = view_at c.done at }

  -- the rows of the jobs are joined into one, in order
  abbrev pub RowJoins : PassRow E O → List (CarriedRow E O) → PassRow E O → Type 0
  RowJoins v [] x = x ≡ v
  RowJoins v (c ∷ cs) x = (y : PassRow E O) × RowJoined v c.done y × RowJoins y cs x

-- and so are their passes, at each place: what is said of a batch of passes is said there
abbrev pub JoinsAtPlaces : (E O : Type 0) → Type 0
JoinsAtPlaces E O =
    (v x : PassRow E O) (cs : List (CarriedRow E O)) → RowJoins v cs x → (at : ℕ)
    → Joins (view_at v at) (map (carried_at at) cs) (view_at x at)
