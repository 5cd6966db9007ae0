-- A group that keeps its rules, after a step or two.
use Rattle.std.proofs.Common.{◌≡◌, ℕ, Some, refl, ◌∙◌}
use Rattle.pot_steps.specs.Mending.{mends_needed}
use Rattle.pot_world.specs.Acts.{Mend, PutNext}
use Rattle.pot_world.specs.Bounds.{MendsInTime}
use Rattle.pot_world.specs.Coalition.{BlindsExchange, BlindsHidden, ExchangeFixed, SameBut, StepsAgree, StepsHear, StepsServed}
use Rattle.pot_world.specs.Group.{WorldGroup, look, mend, put}
use Rattle.pot_world.specs.Laws.{KeptFlies, KeptHolds, NoneOdd}
use Rattle.pot_world.specs.Moves.{MovesKeep, move_begin, swap}
use Rattle.pot_world.specs.Places.{HasPlaced, KeepsPlaces}
use Rattle.pot_world.specs.Stocked.{MovesStocked}
use Rattle.law_examples.specs.Steps.{BlindsAreHidden, MendsBack, MoveGoesWell, OtherPutSeenAlike, PutKeepsBlock, RelayEndsWell}
use Rattle.law_examples.proofs.Storing.{fixed_after}

pub keeps_block : KeepsPlaces → PutKeepsBlock
keeps_block law x b blind g s c kept ix ib at =
    let p : HasPlaced (put 1 x g).group s c x = law.placing 1 x g s c kept ix at in
    let h = (put 1 x g).group in record {
      now = p.written;
      lost = λ n k. (law.losing n k h s c p.stripe p.column p.used).0 ∙ p.written;
      looked = (law.looking 2 s c h s c p.stripe p.column p.used).0 ∙ p.written;
      put_again = λ again. (law.putting 1 b h again ib s c p.stripe p.column p.used).0 ∙ p.written;
      mends = (law.mending 2 s c blind h s c p.stripe p.column p.used).0 ∙ p.written;
    }

pub goes_well : MovesKeep → MovesStocked → KeptHolds → MoveGoesWell
goes_well keeps stocked holds used g c to good takes none unused =
    let begins = keeps.begins 1 c to g good.0 takes none in
    let swaps = keeps.swaps 1 c to g good.0 takes (good.1.empty to unused) in
    record { begun = holds (move_begin 1 c to g) begins; swapped = holds (swap 1 c to g) swaps; stocked = stocked.begins used 1 c to g good.0 takes none unused good.1 }

pub ends_well : KeptFlies → NoneOdd → RelayEndsWell
ends_well flies odd g s f kept lt is ends =
    let x = odd g 2 s f kept is ends in
    record { law = flies g s f kept lt is; partial = x.0; ends = x.1 }

pub mends_back : MendsInTime → MendsBack
mends_back law blind g is kept lt may =
    fixed_after (mends_needed g.state.table.data_columns g.state.table.parity) blind (look 2 0 0 g) is (law 2 0 0 g kept lt may)

pub seen_alike : StepsServed → StepsAgree → StepsHear → OtherPutSeenAlike
seen_alike served agrees hears used k x y g h lt good other is_served agree hear ix away =
    let fits : (s : ℕ) → (put 1 x g).place ≡ Some (s, k) → y ≡ x = λ s e. absurd (away s e) in
    let s = served used (PutNext 1 x) g good ix is_served in
    let a = agrees used k y (PutNext 1 x) g h lt good other is_served agree ix fits in
    let e = hears used k y (PutNext 1 x) g h lt good other is_served agree hear ix fits tt in
    record { held = a.held; heard = e.heard; apart = λ j n lk lj. s.apart k j n lk lj }

same_self : (g : WorldGroup) → SameBut g g
same_self g = record { first = refl; table = refl; log = refl; held = λ n slot. refl; written = λ s c. refl }

pub blinds_hidden : BlindsExchange → BlindsHidden → ExchangeFixed → BlindsAreHidden
blinds_hidden exchange hidden fixed used k s c blind other g h good is =
    let x = exchange k s c blind g h is in
    let same : SameBut (mend 2 s c blind g) (mend 2 s c other g) = hidden used other (Mend 2 s c blind) g g good good (same_self g) in
    record { block = x.0; twice = x.1; table = same.table; fixed = fixed k s c blind (mend 2 s c blind g) h (mend 2 s c other g) h same (same_self h) }
