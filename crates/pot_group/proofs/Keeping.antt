-- The archives of a group, with the marks of their taking, stay through a put.
use Rattle.std.proofs.Common.{ℕ, List, inl, inr}
use Rattle.std.specs.Prelude.{Result, Ok, Err}
use Rattle.pot_bytes.specs.declared.rack.Place.{Place}
use Rattle.pot_group.specs.declared.answers.PutFault.{PutFault}
use Rattle.pot_group.specs.declared.answers.PutFault.TheVariants as fault
use Rattle.pot_group.specs.declared.putting.Stop.{Stop}
use Rattle.pot_group.specs.declared.putting.Stop.TheVariants as stop
use Rattle.pot_shelves.specs.Shelves.{Keeps}
use Rattle.pot_group.specs.Group.{GroupView}
use Rattle.pot_group.specs.Putting.{FindsStripe, BlockMeans}
use Rattle.pot_shelves.proofs.ShelfLemmas.{keeps_then}

pub block_keeps : (told : Type 0) (job : ℕ) (block p q : List ℕ) (result : Result Place PutFault) (old new : GroupView)
    → BlockMeans told job block p q result old new → Keeps old.shelves new.shelves
block_keeps told job block p q (Ok place) old new m = m.3.writes.keeps
block_keeps told job block p q (Err (fault.Faulted column)) old new (inl m) = m.0.keeps
block_keeps told job block p q (Err (fault.Faulted column)) old new (inr m) = m.2.writes.keeps
block_keeps told job block p q (Err fault.Full) old new m = absurd m
block_keeps told job block p q (Err fault.LogFull) old new m = absurd m

pub find_keeps : (told : Type 0) (job : ℕ) (p q : List ℕ) (s : Stop) (old new : GroupView) → FindsStripe told job p q s old new → Keeps old.shelves new.shelves
find_keeps told job p q s old new f = keeps_then old.shelves f.now.shelves new.shelves f.passes.stays.keeps f.stays.keeps

pub here_keeps : (told : Type 0) (job : ℕ) (p q block : List ℕ) (old mid new : GroupView) → FindsStripe told job p q stop.Here old mid
    → (result : Result Place PutFault) → BlockMeans told job block p q result mid new → Keeps old.shelves new.shelves
here_keeps told job p q block old mid new f result m =
    keeps_then old.shelves mid.shelves new.shelves (find_keeps told job p q stop.Here old mid f) (block_keeps told job block p q result mid new m)
