-- What is seen after the first of two sessions.
use Rattle.std.proofs.Common.{◌≡◌, ℕ, Bool, false, List, [], ◌∷◌, sym, subst}
use Rattle.std.specs.Prelude.{Contains, length}
use Rattle.pot_machine.specs.declared.entry.Entry.{Entry}
use Rattle.pot_machine.specs.Table.{Table}
use Rattle.pot_world.specs.Audit.{Sight, Whole, sight_of}
use Rattle.pot_world.specs.Later.{OtherSessions, Sessions}
use Rattle.pot_world.specs.Reached.{Move, Site, first_site}
use Rattle.pot_theorem.specs.Hard.{TheHardProperty}
use Rattle.pot_theorem.specs.Sessions.{ClosedSession}
use Rattle.pot_theorem.specs.Veil.{SeesAfterEach, SeesAllInRoom, SeesInRoom}
use Rattle.pot_theorem.specs.Worlds.{AllAsLeft, AreAsLeft, IsGroupOf, had_with}
use Rattle.run_examples.specs.Throughout.{SeenThen, SeenThroughout}

-- one session is the last one
pub left_last : (c : ClosedSession) (x : Site) (sessions : List (List Move)) (z : Site) (run : Sessions x sessions z) → length sessions ≡ 1 → AllAsLeft (c ∷ []) x sessions z run → AreAsLeft c z
left_last c x [] z run many left = absurd left
left_last c x (moves ∷ []) z run many left = subst (λ (s : Site). AreAsLeft c s) (sym run.2) left.0
left_last c x (moves ∷ more ∷ rest) z run many left = absurd (cc many)

pub sees_last : (exchanges : Bool) (sights : ℕ → Sight) (bytes : ℕ → ℕ → List ℕ) (c : ClosedSession) (x y : Site) (sessions : List (List Move)) (z : Site) (run : Sessions x sessions z) (w : Site)
    (other : OtherSessions exchanges sights bytes x y sessions z run w) → length sessions ≡ 1 → SeesAfterEach exchanges sights bytes (c ∷ []) x y sessions z run w other → SeesAllInRoom exchanges sights c z w
sees_last exchanges sights bytes c x y [] z run w other many sees = absurd sees
sees_last exchanges sights bytes c x y (moves ∷ []) z run w other many sees =
    subst (λ (s : Site). SeesAllInRoom exchanges sights c s w) (sym run.2) (subst (λ (s : Site). SeesAllInRoom exchanges sights c run.0 s) (sym other.2) sees.0)
sees_last exchanges sights bytes c x y (moves ∷ more ∷ rest) z run w other many sees = absurd (cc many)

-- what is seen after the first of some sessions
module _ (c : ClosedSession) (more : List ClosedSession) (read written : Table) (log : List Entry) (of : IsGroupOf c 0 read written log) (n : ℕ) (had : Contains (had_with read log) n) (sights : ℕ → Sight)
    (whole : sights 0 ≡ Whole) where
  at_first : (bytes : ℕ → ℕ → List ℕ) (x y : Site) (sessions : List (List Move)) (z : Site) (run : Sessions x sessions z) (w : Site) (other : OtherSessions false sights bytes x y sessions z run w)
      → AllAsLeft (c ∷ more) x sessions z run → SeesAfterEach false sights bytes (c ∷ more) x y sessions z run w other → SeenThen c n
  at_first bytes x y [] z run w other left sees = absurd left
  at_first bytes x y (moves ∷ rest) z run w other left sees = record {
    site = run.0;
    left = left.0;
    other = other.0;
    seen = λ a b ea eb. ((subst (λ v. SeesInRoom false v c read log a b) whole (sees.0 0 read written log a b of ea eb)) n had).0;
  }

pub seen_throughout : TheHardProperty → SeenThroughout
seen_throughout law c d row read written log of n had coalition whole =
    let holds = law c (d ∷ []) row in (
      holds,
      λ bytes blocks fits.
          let v = holds.veil false coalition bytes blocks fits in
          at_first c (d ∷ []) read written log of n had (sight_of c.first.rack coalition) whole bytes (first_site c.first.rack) (first_site c.first.rack) holds.world.sessions holds.world.site holds.world.run v.0 v.1
          holds.world.as_left v.2,
    )
