-- What the laws of groups say of any group that keeps its rules, after a step or two.
use Rattle.std.specs.Prelude.{◌≡◌, ◌≤◌, ◌<◌, ℕ, Bool, true, false, None, Some, List}
use Rattle.pot_bytes.specs.Lists.{IsBlock}
use Rattle.pot_machine.specs.Machine.{TakesArchive}
use Rattle.pot_machine.specs.Table.{column_at, next_column, width}
use Rattle.pot_steps.specs.declared.flight.Flight.{Flight}
use Rattle.pot_steps.specs.Flight.{FlightLaw, partial_of}
use Rattle.pot_steps.specs.Flights.{flight_in}
use Rattle.pot_steps.specs.Holdings.{StripesConsistent, stripe_of}
use Rattle.pot_steps.specs.Law.{Rebuildable}
use Rattle.pot_steps.specs.Mending.{mends_needed}
use Rattle.pot_world.specs.Acts.{with_use}
use Rattle.pot_world.specs.Coalition.{Agrees, Hears, IsServed, Served, other_blind}
use Rattle.pot_world.specs.Group.{WorldGroup, finish, finish_by, look, lose, mend, put, sound_block}
use Rattle.pot_world.specs.Kept.{IsKept}
use Rattle.pot_world.specs.Moves.{move_begin, swap}
use Rattle.pot_world.specs.Reached.{IsGood}
use Rattle.pot_world.specs.Stocked.{IsStocked}
use Rattle.law_examples.specs.Stored.{mended}

-- A PLACE

-- A place has this block after a loss, after a look, after a put and after a mend.
pub record KeepsBlock (h : WorldGroup) (s c : ℕ) (x b blind : List ℕ) : Type 0 where
  pub now : h.written s c ≡ x
  pub lost : (n k : ℕ) → (lose n k h).written s c ≡ x
  pub looked : (look 2 s c h).written s c ≡ x
  pub put_again : IsKept h → (put 1 b h).group.written s c ≡ x
  pub mends : (mend 2 s c blind h).written s c ≡ x

-- So it is with the place that a put came to.
abbrev pub PutKeepsBlock : Type 0
PutKeepsBlock =
    (x b blind : List ℕ) (g : WorldGroup) (s c : ℕ) → IsKept g → IsBlock x → IsBlock b
    → (put 1 x g).place ≡ Some (s, c) → KeepsBlock (put 1 x g).group s c x b blind

-- A MOVE

-- An archive without a use came in the place of another, by a move or at once: the stripes keep
-- their law, and the archive has a use from then on and holds nothing.
pub record MovesWell (used : ℕ → Bool) (g : WorldGroup) (c to : ℕ) : Type 0 where
  pub begun : StripesConsistent (move_begin 1 c to g).state.table (move_begin 1 c to g).state.held
  pub swapped : StripesConsistent (swap 1 c to g).state.table (swap 1 c to g).state.held
  pub stocked : IsStocked (with_use used to) (move_begin 1 c to g)

abbrev pub MoveGoesWell : Type 0
MoveGoesWell =
    (used : ℕ → Bool) (g : WorldGroup) (c to : ℕ) → IsGood used g
    → TakesArchive g.state.table c to → (column_at g.state.table c).moving ≡ None
    → used to ≡ false → MovesWell used g c to

-- A RELAY

-- A relay has come to its end: what it brings is the block that was written, and it ends so.
pub record RelayWentWell (g : WorldGroup) (s : ℕ) (f : Flight) : Type 0 where
  pub law : FlightLaw g.state.table.data_columns g.state.table.parity
      (stripe_of g.state.table g.state.held s) f.relay (partial_of f)
  pub partial : partial_of f ≡ g.written f.relay.stripe f.relay.target
  pub ends : finish 2 f g ≡ finish_by true 2 f g

abbrev pub RelayEndsWell : Type 0
RelayEndsWell =
    (g : WorldGroup) (s : ℕ) (f : Flight) → IsKept g → s < g.state.table.stripes
    → flight_in g.state.flights s ≡ Some f → next_column g.state.table f.relay ≡ None
    → RelayWentWell g s f

-- The first place is sound again after so many mends at most.
abbrev pub MendsBack : Type 0
MendsBack =
    (blind : List ℕ) (g : WorldGroup) → IsBlock blind → IsKept g → 0 < g.state.table.stripes
    → Rebuildable g.state.table.data_columns g.state.table.parity
    (stripe_of g.state.table g.state.held 0) 0
    → (n : ℕ) × (n ≤ mends_needed g.state.table.data_columns g.state.table.parity)
    × (sound_block (mended n blind (look 2 0 0 g)) 0 0
    ≡ Some ((mended n blind (look 2 0 0 g)).written 0 0))

-- A COLUMN THAT IS SEEN

-- Two groups agree on column k, and another block is put into each, at another column. Then the
-- archives of column k hold and have heard the same, and each has served no other column.
pub record StaysAlike (k : ℕ) (g h : WorldGroup) : Type 0 where
  pub held : (n slot : ℕ) → Served g k n → h.state.held n slot ≡ g.state.held n slot
  pub heard : (n : ℕ) → Served g k n → h.state.heard n ≡ g.state.heard n
  pub apart : (j n : ℕ) → k < width g.state.table → j < width g.state.table → Served g k n
      → Served g j n → k ≡ j

abbrev pub OtherPutSeenAlike : Type 0
OtherPutSeenAlike =
    (used : ℕ → Bool) (k : ℕ) (x y : List ℕ) (g h : WorldGroup) → k < g.state.table.data_columns
    → IsGood used g → IsGood used h → IsServed used g → Agrees k g h → Hears k g h → IsBlock x
    → ((s : ℕ) → (put 1 x g).place ≡ Some (s, k) → ⊥)
    → StaysAlike k (put 1 x g).group (put 1 y h).group

-- BLINDS

-- A blind that is exchanged twice is what it was, and another blind changes no table.
pub record BlindsAre (k s c : ℕ) (blind other : List ℕ) (g h : WorldGroup) : Type 0 where
  pub block : IsBlock (other_blind k g h s c blind)
  pub twice : other_blind k g h s c (other_blind k g h s c blind) ≡ blind
  pub table : (mend 2 s c other g).state.table ≡ (mend 2 s c blind g).state.table
  pub fixed : other_blind k (mend 2 s c other g) h s c blind
      ≡ other_blind k (mend 2 s c blind g) h s c blind

abbrev pub BlindsAreHidden : Type 0
BlindsAreHidden =
    (used : ℕ → Bool) (k s c : ℕ) (blind other : List ℕ) (g h : WorldGroup) → IsGood used g
    → IsBlock blind → BlindsAre k s c blind other g h
