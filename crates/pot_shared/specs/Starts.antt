-- The groups of a vault that are started at once: what is given to each start, and what it leaves.
use Rattle.std.specs.Prelude.{◌≡◌, ◌<◌, ◌≤◌, ◌+◌, ◌++◌, ℕ, List, [], Some, Contains}
use Rattle.std.specs.Prelude.{length, slice_get, flat_map}
use Rattle.std.specs.Vec.{vec_capacity}
use Rattle.pot_outside.specs.Archives.{Meaning}
use Rattle.pot_outside.specs.declared.archive.Shelf.{Shelf}
use Rattle.pot_machine.specs.Table.{Table, archives_in}
use Rattle.pot_shelves.specs.Shelves.{numbers_of}
use Rattle.pot_group.specs.Group.{view_of}
use Rattle.pot_shared.specs.declared.member.Member.{Member}
use Rattle.pot_shared.specs.declared.group_start.GroupStart.{GroupStart}
use Rattle.pot_shared.specs.Groups.{IsStarted, IsTakenFrom, had_by}
use Rattle.pot_shared.specs.Hands.{AreApart, AreMeant, AreMeantButLost, AreSame}

-- A group can be started over this table: a group can begin with it, its archives are in the hand,
-- and no group is started yet, for which there is room.
pub record CanStart {A : Type 0} (t : Table) (s : GroupStart A) : Type 0 where
  pub is_table : s.table ≡ Some t
  pub relays : t.relays ≡ []
  pub archives : numbers_of s.hand.items ≡ archives_in t
  pub space : length s.hand.items ≤ vec_capacity s.hand
  pub none : s.started.items ≡ []
  pub room : 0 < vec_capacity s.started

-- Each of these groups can be started, over the table at its place and with the number of its
-- place.
pub record CanAllStart {A : Type 0} (tables : List Table) (starts : List (GroupStart A))
    : Type 0 where
  pub count : length starts ≡ length tables
  pub each : (n : ℕ) (s : GroupStart A) (t : Table) → slice_get starts n ≡ Some s
      → slice_get tables n ≡ Some t → CanStart t s
  pub number : (n : ℕ) (s : GroupStart A) → slice_get starts n ≡ Some s → s.number ≡ n

-- The archives that were in the hand were given out to the first of these tables, and those of the
-- others are in the hand still.
pub record AreGivenOut {A : Type 0} (tables others : List Table) (before : List (Shelf A))
    (starts : List (GroupStart A)) (now : List (Shelf A)) : Type 0 where
  pub first : List Table
  pub parts : tables ≡ first ++ others
  pub can : CanAllStart first starts
  pub shelves : before ≡ flat_map (λ s. s.hand.items) starts ++ now
  pub left : numbers_of now ≡ flat_map archives_in others

-- What the start of a group over this table left. The group was started or its archives are in the
-- hand, and either has just those that were given to it; they are as they were, but for losses. A
-- group that was started has the start's number and this table, and its opening logged what it did
-- over archives as they were meant.
pub record StartLeft {A : Type 0} (told : Type 0) (meaning : A → Meaning) (t : Table)
    (old new : GroupStart A) : Type 0 where
  pub few : length new.started.items ≤ 1
  pub same : AreSame
      (numbers_of new.hand.items
      ++ flat_map (λ m. had_by (view_of meaning m.group)) new.started.items)
      (archives_in t)
  pub long : length new.hand.items
      + length (flat_map (λ m. had_by (view_of meaning m.group)) new.started.items)
      ≡ length (archives_in t)
  pub started : (m : Member A) → Contains new.started.items m
      → IsStarted old.number t (view_of meaning m.group)
  pub taken : (meant : ℕ → Meaning) → told → AreMeant meaning meant old.hand.items
      → (m : Member A) → Contains new.started.items m
      → IsTakenFrom meant (view_of meaning m.group)
  pub lost : (meant : ℕ → Meaning) → told → AreApart (numbers_of old.hand.items)
      → AreMeant meaning meant old.hand.items
      → AreMeantButLost meaning meant
      (new.hand.items ++ flat_map (λ m. m.group.shelves.shelves) new.started.items)

-- and what each of several left
pub record StartsLeft {A : Type 0} (told : Type 0) (meaning : A → Meaning) (tables : List Table)
    (old new : List (GroupStart A)) : Type 0 where
  pub count : length new ≡ length old
  pub each : (n : ℕ) (s r : GroupStart A) (t : Table) → slice_get old n ≡ Some s
      → slice_get new n ≡ Some r → slice_get tables n ≡ Some t → StartLeft told meaning t s r
