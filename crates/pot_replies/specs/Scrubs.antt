-- The replies to `scrub` and `repair`, each as the job's own entries give it.
use Rattle.std.specs.Prelude.{◌≡◌, ◌<◌, ◌⊎◌, ℕ, Bool, true, IsTrue, List, [], ◌∷◌, ◌++◌, length}
use Rattle.std.specs.Prelude.{filter, map, Contains}
use Rattle.pot_bytes.specs.declared.digest.Digest.{Digest}
use Rattle.pot_bytes.specs.Rack.{log_bound}
use Rattle.pot_machine.specs.declared.entry.Entry.{Entry}
use Rattle.pot_machine.specs.declared.entry.Entry.TheVariants.{Seen, Gone, Fault, Stuck, Oddly}
use Rattle.pot_machine.specs.Slot.{is_live, is_unsound}
use Rattle.pot_machine.specs.declared.slot.SlotState.{SlotState}
use Rattle.pot_machine.specs.Table.{Table, width, slot_at}
use Rattle.pot_machine.specs.Logs.{is_of, own, replayed}
use Rattle.pot_replies.specs.Jobs.{is_seen, is_gone, is_look, is_relay, is_mended, is_left}
use Rattle.pot_replies.specs.Jobs.{place_in, EachIs, Ascend}
use Rattle.pot_replies.specs.Sections.{Section, mine, LogPoint, IsOnlyIn, AlwaysAt}
use Rattle.pot_replies.specs.Settings.{Setting}
use Rattle.pot_replies.specs.Fetches.{MendsOnce}

-- at some point of these entries, which come behind those before, the slot passes the test
abbrev pub PassesOnce : (SlotState → Bool) → Table → List Entry → List Entry → ℕ → ℕ → Type 0
PassesOnce test first before added n c =
    (x : List Entry) × (y : List Entry) × (added ≡ x ++ y)
    × IsTrue (test (slot_at (replayed first (before ++ x)) n c))

-- at some point of the section the slot passes the test
abbrev pub WasAt : Setting → ℕ → Section → (SlotState → Bool) → ℕ → ℕ → Type 0
WasAt s g w test n c = PassesOnce test (s.first g) (w.before g) (w.added g) n c

-- Each entry of the job is of a slot that was Live at some point before the entry, once the
-- section had begun.
abbrev pub WereLive : ℕ → Table → List Entry → List Entry → Type 0
WereLive job first before added =
    (x y : List Entry) (e : Entry) → added ≡ x ++ e ∷ y → is_of job e ≡ true
    → PassesOnce is_live first before x (place_in e).0 (place_in e).1

-- the entries of a scrub: looks of one group, their places ascending strictly
pub record AreLooks (looks : List Entry) : Type 0 where
  pub kinds : EachIs is_look looks
  pub ascends : Ascend (map place_in looks)

-- `scrubbed`: so many blocks were seen and so many are missing. Each place that was Live all the
-- time is among them, and each that is among them was Live before it was looked at.
pub record IsScrubbed (s : Setting) (job g seen gone : ℕ) (w : Section) : Type 0 where
  pub looks : AreLooks (own job (w.added g))
  pub only : IsOnlyIn g (mine job w)
  pub seen_is : seen ≡ length (filter is_seen (own job (w.added g)))
  pub gone_is : gone ≡ length (filter is_gone (own job (w.added g)))
  pub all : (n c : ℕ) → n < (s.first g).stripes → c < width (s.first g)
      → AlwaysAt is_live (replayed (s.first g) (w.before g)) (w.added g) n c
      → Contains (own job (w.added g)) (Seen job n c)
      ⊎ Contains (own job (w.added g)) (Gone job n c)
  pub live : WereLive job (s.first g) (w.before g) (w.added g)

-- the entries of a repair: those of relays alone
pub record AreRelays (job : ℕ) (added : List Entry) : Type 0 where
  pub kinds : EachIs is_relay (own job added)
  pub mends : MendsOnce job added

-- `repaired`: so many places were mended and so many left, and each place that was unsound all the
-- time was left
pub record IsRepaired (s : Setting) (job g mended left : ℕ) (w : Section) : Type 0 where
  pub relays : AreRelays job (w.added g)
  pub only : IsOnlyIn g (mine job w)
  pub mended_is : mended ≡ length (filter is_mended (own job (w.added g)))
  pub left_is : left ≡ length (filter is_left (own job (w.added g)))
  pub all : (n c : ℕ) → n < (s.first g).stripes → c < width (s.first g)
      → AlwaysAt is_unsound (replayed (s.first g) (w.before g)) (w.added g) n c
      → ((o : ℕ) × Contains (own job (w.added g)) (Stuck job n c o))
      ⊎ ((f : Digest) × Contains (own job (w.added g)) (Oddly job n c f))

-- `fault g c` of a scrub: looks, and then a Fault at a place behind them, each of a slot that was
-- Live
pub record IsScrubFault (s : Setting) (job g column : ℕ) (w : Section) : Type 0 where
  pub looks : List Entry
  pub stripe : ℕ
  pub own_is : own job (w.added g) ≡ looks ++ Fault job stripe column ∷ []
  pub kinds : EachIs is_look looks
  pub ascends : Ascend (map place_in looks ++ (stripe, column) ∷ [])
  pub only : IsOnlyIn g (mine job w)
  pub live : WereLive job (s.first g) (w.before g) (w.added g)

-- `fault g c` of a repair: relays, and then a Fault
pub record IsRepairFault (job g column : ℕ) (w : Section) : Type 0 where
  pub sofar : List Entry
  pub stripe : ℕ
  pub own_is : own job (w.added g) ≡ sofar ++ Fault job stripe column ∷ []
  pub kinds : EachIs is_relay sofar
  pub mends : MendsOnce job (w.added g)
  pub only : IsOnlyIn g (mine job w)

-- `logfull g`: the log was at its bound, and some place was to be done yet, behind all looks of a
-- scrub
pub record IsScrubLogFull (s : Setting) (job g : ℕ) (w : Section) : Type 0 where
  pub looks : AreLooks (own job (w.added g))
  pub only : IsOnlyIn g (mine job w)
  pub log : List Entry
  pub moment : LogPoint job (w.before g) (w.added g) log
  pub full : length log ≡ log_bound
  pub stripe : ℕ
  pub column : ℕ
  pub in_stripes : stripe < (s.first g).stripes
  pub in_columns : column < width (s.first g)
  pub behind : Ascend (map place_in (own job (w.added g)) ++ (stripe, column) ∷ [])
  pub was : WasAt s g w is_live stripe column
  pub live : WereLive job (s.first g) (w.before g) (w.added g)

-- `logfull g` of a repair: the log was at its bound, and some place was to be done
pub record IsRepairLogFull (s : Setting) (job g : ℕ) (w : Section) : Type 0 where
  pub relays : AreRelays job (w.added g)
  pub only : IsOnlyIn g (mine job w)
  pub log : List Entry
  pub moment : LogPoint job (w.before g) (w.added g) log
  pub full : length log ≡ log_bound
  pub stripe : ℕ
  pub column : ℕ
  pub in_stripes : stripe < (s.first g).stripes
  pub in_columns : column < width (s.first g)
  pub was : WasAt s g w is_unsound stripe column
