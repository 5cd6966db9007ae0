-- How a group begins, and what it hands out.
use Rattle.std.specs.Prelude.{◌≡◌, ◌<◌, ℕ, true, List, []}
use Rattle.pot_outside.specs.Archives.{Meaning}
use Rattle.pot_outside.specs.declared.archive.Shelf.{Shelf}
use Rattle.pot_machine.specs.Table.{Table, width, serving_at}
use Rattle.pot_steps.specs.GroupStep.{StartStep}
use Rattle.pot_steps.specs.Stripe.{Sound}
use Rattle.pot_steps.specs.Holdings.{stripe_of}
use Rattle.pot_shelves.specs.Shelves.{Shelved, IsOpenedNow, IsTaken, plain}
use Rattle.pot_shelves.specs.Opening.{Opens}
use Rattle.pot_group.specs.Group.{GroupParts, RoseInOpening, view_of, state_of}

-- a group before its opening
abbrev pub unopened : {A : Type 0} → ℕ → Table → Shelved A → GroupParts A
unopened number t a =
    record {
      number = number;
      first = t;
      table = t;
      log = [];
      flights = [];
      blinds = [];
      tried = [];
      shelves = a;
    }

-- A group begins with a table and archives, whose marks are taken then, and every stripe is opened,
-- after which the counts are marked again. Where the archives tell what they hold, that is the
-- opening as a step of a group, and a slot is Gone that was sound before it only where a count of
-- its archive rose in it. What the step finds gone is what the opening found gone.
pub record Begins {A : Type 0} (told : Type 0) (meaning : A → Meaning) (number : ℕ) (t : Table)
    (handed : List (Shelf A)) (g : GroupParts A) : Type 0 where
  pub taken : Shelved A
  pub shelves : taken.shelves ≡ handed
  pub marks : IsTaken told (plain meaning taken)
  pub is_number : g.number ≡ number
  pub first : g.first ≡ t
  pub blinds : g.blinds ≡ []
  pub tried : g.tried ≡ []
  pub read : Shelved A
  pub opens : Opens told t.stripes t g.table g.log (plain meaning taken) (plain meaning read)
  pub marked : g.shelves ≡ record read { opened = g.shelves.opened }
  pub opened : IsOpenedNow told (plain meaning g.shelves)
  pub rose : told → (s c : ℕ) → s < t.stripes → c < width t → opens.gone s c ≡ true
      → Sound (stripe_of t (plain meaning taken).held s) c
      → RoseInOpening (plain meaning g.shelves) (serving_at t s c)
  pub step : told
      → StartStep (state_of (view_of meaning (unopened number t taken)))
      (state_of (view_of meaning g))
  pub same_gone : (tells : told) → (step tells).gone ≡ opens.gone
