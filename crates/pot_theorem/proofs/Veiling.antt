-- What a coalition of columns sees of what sessions left.
use Rattle.std.proofs.Common.{◌≡◌, ℕ, zero, suc, ◌<◌, List, [], ◌∷◌, Bool, false, Some, IsTrue, refl, sym, ap, ◌∙◌, subst}
use Rattle.std.specs.Prelude.{slice_get}
use Rattle.std.proofs.lemmas.Option.{same_Some}
use Rattle.pot_bytes.specs.declared.rack.Rack.{Rack}
use Rattle.pot_bytes.specs.Lists.{IsBlock}
use Rattle.pot_bytes.specs.Rack.{IsRack}
use Rattle.pot_bytes.specs.Sums.{zero_block}
use Rattle.pot_machine.specs.declared.entry.Entry.{Entry}
use Rattle.pot_machine.specs.Column.{names}
use Rattle.pot_machine.specs.Table.{Table, column_at, width}
use Rattle.pot_world.specs.Audit.{AllFits, AllSame, Blind, One, SeesSame, Sight, Whole, sight_of}
use Rattle.pot_world.specs.Group.{WorldGroup}
use Rattle.pot_world.specs.Later.{Both, SeesNoParity, KnownOfGroup, OtherSessions, Sessions, SessionsFit, reopened_site}
use Rattle.pot_world.specs.Reached.{EachGroup, Loses, Makes, Move, Site, first_site, moved}
use Rattle.pot_steps.proofs.BlockLemmas.{IsBlock-zero_block}
use Rattle.pot_world.proofs.Auditing.{first_both, sights_fit}
use Rattle.pot_world.proofs.Later.{reopened_both, runs_seen_on}
use Rattle.pot_theorem.specs.Hard.{HomesServe}
use Rattle.pot_theorem.specs.Veil.{IsCoalitionVeiled, SeesAfterEach, SeesInRoom}
use Rattle.pot_theorem.specs.Sessions.{ClosedSession, last_session}
use Rattle.pot_theorem.specs.Worlds.{AllAsLeft, IsInWorld, IsAsLeft}
use Rattle.pot_theorem.proofs.Reaching.{IsReached, as_left}
use Rattle.pot_theorem.proofs.Standing.{of_named}

-- SESSIONS WITH OTHER BYTES

pub both_on : (rack : Rack) (exchanges : Bool) (sights : ℕ → Sight) (sessions : List (List Move)) (bytes : ℕ → ℕ → List ℕ) (x y z : Site) → SeesNoParity rack sights → ((n m : ℕ) → IsBlock (bytes n m))
    → Both rack exchanges sights x y → (run : Sessions x sessions z) → SessionsFit sights bytes x sessions z run
    → (w : Site) × OtherSessions exchanges sights bytes x y sessions z run w × Both rack exchanges sights z w
both_on rack exchanges sights [] bytes x y z low blocks b run fits = (y, refl, subst (λ (s : Site). Both rack exchanges sights s y) (sym run) b)
both_on rack exchanges sights (moves ∷ more) bytes x y z low blocks b run fits =
    let one = runs_seen_on rack exchanges sights (bytes 0) moves (reopened_site x) (reopened_site y) run.0 low (blocks 0) (reopened_both rack exchanges sights x y low b) run.1 fits.0 in
    let rest = both_on rack exchanges sights more (λ n. bytes (suc n)) run.0 one.0 z low (λ n. blocks (suc n)) one.2 run.2 fits.1 in
    (rest.0, (one.0, one.1, rest.1), rest.2)

-- what is seen of one group
same_at : (exchanges : Bool) (sights : ℕ → Sight) (gs hs : List WorldGroup) (g : ℕ) (a b : WorldGroup) → AllSame exchanges sights gs hs → slice_get gs g ≡ Some a → slice_get hs g ≡ Some b
    → SeesSame exchanges (sights g) a b
unfolding AllSame
same_at exchanges sights [] hs g a b same ea eb = absurd (cc)
same_at exchanges sights (x ∷ gs) [] g a b same ea eb = absurd same
same_at exchanges sights (x ∷ gs) (y ∷ hs) zero a b same ea eb =
    subst (λ u. SeesSame exchanges (sights 0) u b) (same_Some x a ea) (subst (λ v. SeesSame exchanges (sights 0) x v) (same_Some y b eb) same.0)
same_at exchanges sights (x ∷ gs) (y ∷ hs) (suc g) a b same ea eb = same_at exchanges (λ n. sights (suc n)) gs hs g a b same.1 ea eb

in_room : (exchanges : Bool) (sight : Sight) (c : ClosedSession) (read written : Table) (log : List Entry) (a b : WorldGroup) → IsAsLeft c read written log a → SeesSame exchanges sight a b
    → SeesInRoom exchanges sight c read log a b
in_room exchanges Whole c read written log a b s same = λ n has. (
  λ slot. ap (λ (y : WorldGroup). y.state.held n slot) same ∙ s.held n slot has,
  ap (λ (y : WorldGroup). y.state.heard n) same ∙ s.heard n has,
)
in_room exchanges (One k) c read written log a b s same = λ n has served. (
  λ slot. same.0.held n slot served ∙ s.held n slot has,
  λ e. (same.1 e).heard n served ∙ s.heard n has,
)
in_room exchanges Blind c read written log a b s same = tt

-- session by session, while the groups are what the sessions left
veiled_on : (rack : Rack) (exchanges : Bool) (sights : ℕ → Sight) (cs : List ClosedSession) (sessions : List (List Move)) (bytes : ℕ → ℕ → List ℕ) (x y z : Site) → SeesNoParity rack sights
    → ((n m : ℕ) → IsBlock (bytes n m)) → Both rack exchanges sights x y → (run : Sessions x sessions z) → SessionsFit sights bytes x sessions z run → AllAsLeft cs x sessions z run
    → (w : Site) × (other : OtherSessions exchanges sights bytes x y sessions z run w) × SeesAfterEach exchanges sights bytes cs x y sessions z run w other
veiled_on rack exchanges sights [] sessions bytes x y z low blocks b run fits left =
    let r = both_on rack exchanges sights sessions bytes x y z low blocks b run fits in (r.0, r.1, tt)
veiled_on rack exchanges sights (c ∷ cs) [] bytes x y z low blocks b run fits left = absurd left
veiled_on rack exchanges sights (c ∷ cs) (moves ∷ more) bytes x y z low blocks b run fits left =
    let one = runs_seen_on rack exchanges sights (bytes 0) moves (reopened_site x) (reopened_site y) run.0 low (blocks 0) (reopened_both rack exchanges sights x y low b) run.1 fits.0 in
    let rest = veiled_on rack exchanges sights cs more (λ n. bytes (suc n)) run.0 one.0 z low (λ n. blocks (suc n)) one.2 run.2 fits.1 left.1 in (
      rest.0,
      (one.0, one.1, rest.1),
      (
        λ g read written log a b of ea eb.
            in_room exchanges (sights g) c read written log a b (left.0.each g read written log a of ea) (same_at exchanges sights run.0.groups one.0.groups g a b one.2.same ea eb),
        rest.2,
      ),
    )

pub stays_veiled : (c : ClosedSession) (more : List ClosedSession) (w : IsInWorld c more) → IsCoalitionVeiled c more w
stays_veiled c more w exchanges coalition bytes blocks fits =
    let rack = c.first.rack in
    let sights = sight_of rack coalition in
    let low : SeesNoParity rack sights = sights_fit rack coalition in
    veiled_on rack exchanges sights (c ∷ more) w.sessions bytes (first_site rack) (first_site rack) w.site low blocks (first_both rack exchanges sights c.fits.rack) w.run fits w.as_left

-- WHAT SERVES

-- nothing is seen
abbrev none_seen : ℕ → Sight
none_seen n = Blind

all_fit : (bytes : ℕ → List ℕ) (moves : List Move) (x : Site) → AllFits none_seen bytes moves x
unfolding AllFits
all_fit bytes [] x = tt
all_fit bytes (Loses number slot ∷ moves) x = (tt, all_fit (λ n. bytes (suc n)) moves (moved (Loses number slot) x))
all_fit bytes (Makes n a ∷ moves) x = (tt, all_fit (λ n. bytes (suc n)) moves (moved (Makes n a) x))

sessions_fit : (sessions : List (List Move)) (bytes : ℕ → ℕ → List ℕ) (x z : Site) (run : Sessions x sessions z) → SessionsFit none_seen bytes x sessions z run
sessions_fit [] bytes x z run = tt
sessions_fit (moves ∷ more) bytes x z run = (all_fit (bytes 0) moves (reopened_site x), sessions_fit more (λ n. bytes (suc n)) run.0 z run.2)

known_at : (P : WorldGroup → Type 0) (gs : List WorldGroup) (g : ℕ) (h : WorldGroup) → EachGroup P gs → slice_get gs g ≡ Some h → P h
unfolding EachGroup
known_at P [] g h each e = absurd (cc)
known_at P (x ∷ gs) zero h each e = subst P (same_Some x h e) each.0
known_at P (x ∷ gs) (suc g) h each e = known_at P gs g h each.1 e

known : (rack : Rack) (sessions : List (List Move)) (z : Site) → IsRack rack → Sessions (first_site rack) sessions z → EachGroup (KnownOfGroup rack z.used) z.groups
known rack sessions z fits run =
    let low : SeesNoParity rack none_seen = λ n k e. absurd (cc e) in
    let r = both_on rack false none_seen sessions (λ n m. zero_block) (first_site rack) (first_site rack) z low (λ n m. IsBlock-zero_block) (first_both rack false none_seen fits) run
    (sessions_fit sessions (λ n m. zero_block) (first_site rack) z run) in
    r.2.known

pub homes_serve : (c : ClosedSession) (more : List ClosedSession) (w : IsInWorld c more) (earlier : List ℕ) → IsReached c.first.rack earlier (last_session c more) w.site → HomesServe (last_session c more) w.site
homes_serve c more w earlier r g read written log h k n of there lt named =
    let rack = c.first.rack in
    let l = last_session c more in
    let is = (as_left rack earlier l w.site r g read written log h of there).is in
    let lt' : k < width h.state.table = subst (λ (t : Table). k < width t) is lt in
    let named' : IsTrue (names (column_at h.state.table k) n) = subst (λ (t : Table). IsTrue (names (column_at t k) n)) is named in
    let x : KnownOfGroup rack w.site.used h = known_at (KnownOfGroup rack w.site.used) w.site.groups g h (known rack w.sessions w.site c.fits.rack w.run) there in
    (x.served.names k n lt' named', of_named rack earlier l w.site r g read written log h of there n k lt' named')
