-- Two sessions, as who has one column sees them.
use Rattle.std.proofs.Common.{◌≡◌, ℕ, ◌<◌, ◌≤◌, List, [], ◌∷◌, Option, Some, None, true, false, refl, arith, ap, Bool, ◌∙◌, ◌&&◌, nat_eq, if◌then◌else◌}
use Rattle.std.specs.Prelude.{slice_index_or}
use Rattle.pot_bytes.specs.Lists.{IsBlock}
use Rattle.pot_bytes.specs.Product.{byte_product, coefficient, polynomial_product, remainder}
use Rattle.pot_bytes.specs.Rack.{IsRack}
use Rattle.pot_bytes.specs.Totals.{total}
use Rattle.pot_gf.specs.Field.{power}
use Rattle.pot_machine.specs.Table.{count, least}
use Rattle.pot_steps.specs.Equations.{p_weight, q_weight}
use Rattle.pot_steps.specs.Flight.{left_out, p_times, q_times, weight}
use Rattle.pot_world.specs.Group.{WorldGroup, put_within}
use Rattle.pot_world.specs.Audit.{AllFits, AllSame, RunsSeenSame, SeesSame, Sight, SightsFit, One, Whole, group_in, other_moves, sight_of}
use Rattle.pot_world.specs.Later.{Sessions, SessionsFit, SessionsSeenSame}
use Rattle.pot_world.specs.Acts.{PutNext}
use Rattle.pot_world.specs.Reached.{IsAllowedAt, Makes, Reaches, Site, at_group, first_groups, first_site, moved}
use Rattle.pot_world.specs.World.{no_group}
use Rattle.pot_world.specs.Remains.{HasPlacedAt, PlacesRemain, PutAnswersPlace}
use Rattle.law_examples.specs.Sessions.{BlockRemains, ColumnSeesTheSame, ParitySeesTheSame, has, has_parity, mends, rack, stores, two_stores, uses}

pub is_rack : IsRack rack
is_rack = record {
  geometry = record { fragments = (omega arith, omega arith); need = (omega arith, omega arith); shards = omega arith; blur = omega arith };
  groups = (omega arith, omega arith);
  columns = (omega arith, omega arith);
  parity = (omega arith, omega arith);
  stripes = (omega arith, omega arith);
}

pub one : 0 < 1
one = omega arith

pub two : 0 < 2
two = omega arith

three : 2 < 3
three = omega arith

-- the first session, and the next
the_run : (x b blind : List ℕ) → IsBlock x → IsBlock b → IsBlock blind
    → (z : Site) × Sessions (first_site rack) (stores x b ∷ mends blind blind blind ∷ []) z
unfolding Reaches IsAllowedAt at_group first_groups put_within least count
the_run x b blind ix ib il =
    (_, (_, (ix, (ib, (ix, (tt, refl)))), (_, ((two, three), ((two, three, il), ((two, three, il), ((two, three, il), refl)))), refl)))

sight : sight_of rack has 0 ≡ One 1
unfolding least count
sight = refl

-- the bytes of the other run
abbrev other_bytes : List ℕ → List ℕ → ℕ → ℕ → List ℕ
other_bytes y b n m = if nat_eq n 0 && nat_eq m 1 then b else y

are_blocks : (y b : List ℕ) → IsBlock y → IsBlock b → (n m : ℕ) → IsBlock (other_bytes y b n m)
are_blocks y b iy ib n m = by (nat_eq n 0 && nat_eq m 1)
  where
    by : (t : Bool) → IsBlock (if t then b else y)
    by true = ib
    by false = iy

-- the second of two numbers
second : Option (ℕ × ℕ) → ℕ
second None = 0
second (Some p) = p.1

fit : (x y b blind : List ℕ) (ix : IsBlock x) (ib : IsBlock b) (il : IsBlock blind)
    → SessionsFit (sight_of rack has) (other_bytes y b) (first_site rack) (stores x b ∷ mends blind blind blind ∷ []) (the_run x b blind ix ib il).0 (the_run x b blind ix ib il).1
unfolding AllFits Reaches IsAllowedAt at_group first_groups put_within least count the_run second
fit x y b blind ix ib il =
    ((λ s e. absurd (apart s e), ((λ s e. refl), (tt, (tt, tt)))), ((tt, (tt, (tt, (tt, tt)))), tt))
  where
    apart : (s : ℕ) → ◌≡◌ {A = Option (ℕ × ℕ)} (Some (0, 0)) (Some (s, 1)) → ⊥
    apart s e = let z : 0 ≡ 1 = ap second e in omega (arith, z)

-- what is seen of the first group
pub of_first : (e : Bool) (sights : ℕ → Sight) (g : WorldGroup) (gs hs : List WorldGroup) → AllSame e sights (g ∷ gs) hs → SeesSame e (sights 0) g (slice_index_or hs 0 no_group)
unfolding AllSame
of_first e sights g gs [] s = absurd s
of_first e sights g gs (h ∷ hs) s = s.0

pub seen : SightsFit → SessionsSeenSame → ColumnSeesTheSame
unfolding other_moves Reaches IsAllowedAt at_group first_groups put_within least count weight left_out p_times q_times p_weight q_weight byte_product coefficient polynomial_product remainder total power the_run
seen fits same x y b blind ix iy ib il =
    let run = the_run x b blind ix ib il in
    let t = same rack true (sight_of rack has) (other_bytes y b) (stores x b ∷ mends blind blind blind ∷ []) run.0 is_rack (fits rack has) (are_blocks y b iy ib) run.1 (fit x y b blind ix ib il) in
    let a : SeesSame true (One 1) (group_in run.0 0) (group_in t.0 0) = of_first true (sight_of rack has) (group_in run.0 0) (group_in run.0 1 ∷ []) t.0.groups t.3 in
    (_, _, _, t.0, (t.1.0, t.1.1, (t.1.2.0, t.1.2.1, t.1.2.2)), record { held = a.0.held 1 0 (0, one, refl) ∙ refl; heard = (a.1 refl).heard 1 (0, one, refl) ∙ refl })

-- A PARITY COLUMN

abbrev pair_bytes : List ℕ → List ℕ → ℕ → List ℕ
pair_bytes x y n = if nat_eq n 0 then x else y

two_run : (x z : List ℕ) → IsBlock x → IsBlock z → (v : Site) × Reaches (first_site rack) (two_stores x z) v
unfolding Reaches IsAllowedAt at_group first_groups
two_run x z ix iz = (_, (ix, (iz, (tt, refl))))

two_fit : (x y z : List ℕ) → AllFits (sight_of rack has_parity) (pair_bytes x y) (two_stores x z) (first_site rack)
unfolding AllFits at_group first_groups put_within least count
two_fit x y z = ((λ s c e. refl), (tt, (tt, tt)))

pair_blocks : (x y : List ℕ) → IsBlock x → IsBlock y → (n : ℕ) → IsBlock (pair_bytes x y n)
pair_blocks x y ix iy n = by (nat_eq n 0)
  where
    by : (t : Bool) → IsBlock (if t then x else y)
    by true = ix
    by false = iy

pub parity_seen : SightsFit → RunsSeenSame → ParitySeesTheSame
unfolding other_moves Reaches IsAllowedAt at_group first_groups put_within least count two_run
parity_seen fits same x y z ix iy iz =
    let run = two_run x z ix iz in
    let t = same rack true (sight_of rack has_parity) (pair_bytes x y) (two_stores x z) run.0 is_rack (fits rack has_parity) (pair_blocks x y ix iy) run.1 (two_fit x y z) in
    let a : SeesSame true Whole (group_in run.0 0) (group_in t.0 0) = of_first true (sight_of rack has_parity) (group_in run.0 0) (group_in run.0 1 ∷ []) t.0.groups t.3 in
    (t.0, t.1, ap (λ (g : WorldGroup). g.state.held 0 0) a ∙ refl)

-- A BLOCK THAT STAYS

use_run : (x b blind : List ℕ) → IsBlock x → IsBlock b → IsBlock blind → (w : Site) × Reaches (moved (Makes 0 (PutNext 1 x)) (first_site rack)) (uses b blind) w
unfolding Reaches IsAllowedAt at_group first_groups put_within least count
use_run x b blind ix ib il = (_, (ib, (tt, ((two, two_width), ((two, two_width, il), refl)))))
  where
    two_width : 0 < 3
    two_width = omega arith

pub remains : PlacesRemain → BlockRemains
unfolding HasPlacedAt PutAnswersPlace Reaches IsAllowedAt at_group first_groups put_within least count use_run
remains law x b blind ix ib il =
    let run = use_run x b blind ix ib il in
    let a = law rack [] (uses b blind) (first_site rack) run.0 0 1 0 0 x is_rack refl ix refl run.1 in
    (run.0, (ix, run.1), a.written)
