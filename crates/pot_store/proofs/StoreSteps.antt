-- The calls of a store one after another, each in the session that the one before it left.
use Rattle.std.proofs.Common.{◌≡◌, ◌*◌, ◌∙◌, ℕ, List, length, refl, ap, sym, subst}
use Rattle.std.specs.Prelude.{◌≤◌, Result, Ok, Err}
use Rattle.pot_bytes.specs.Lists.{AreBytes}
use Rattle.pot_bytes.specs.declared.rack.Geometry.{Geometry}
use Rattle.pot_bytes.specs.declared.rack.Place.{Place}
use Rattle.pot_object.specs.Pieces.{longest, pieces_of}
use Rattle.pot_pads.specs.Pads.{Pads}
use Rattle.pot_group.specs.declared.answers.PutFault.{PutFault}
use Rattle.pot_index.specs.declared.fault.ReserveFault.{ReserveFault}
use Rattle.pot_index.specs.declared.fault.ReserveFault.TheVariants as reserve_fault
use Rattle.pot_index.specs.declared.record.Record.{Record}
use Rattle.pot_index.specs.Fits.{FitsRack}
use Rattle.pot_rows.specs.Works.{RowWroteOnlyFor, RowOnlyWriterOf}
use Rattle.pot_replies.specs.Settings.{Setting}
use Rattle.pot_shared.specs.declared.catalog.ReservationLost.{ReservationLost}
use Rattle.pot_shared.specs.declared.connection.Connection.{Connection}
use Rattle.pot_shared.specs.Ready.{GroupPasses}
use Rattle.pot_shared.specs.Seen.{SeesFile}
use Rattle.pot_shared.specs.IndexCalls.{IndexCall, HasReserved, ReservesName, Abandons, PublishesRecord}
use Rattle.pot_shared.specs.Connections.{Bound, InGroups, InIndex, InTied, WroteForItsJob, bound, job_of, knows, names_of, rack_of}
use Rattle.pot_shared.specs.Works.{of_job, known, JobWroteOnly, JobOnlyWriter, section_of, IsSettingOf}
use Rattle.pot_shared.proofs.ConnectionLemmas.{groups_at, index_at, pass_at, ready_at, tied_at}
use Rattle.pot_store.specs.Drawing.{Drawn, all_blocks, blocks_from, count_of}
use Rattle.pot_store.specs.Puts.{ArePut, PutsEnd}
use Rattle.pot_store.specs.Stores.{DrawsFrom, IsPlan, StoreRow, fault_of, record_of}
use Rattle.pot_store.specs.declared.storing.StoreFault.{StoreFault}
use Rattle.pot_store.specs.declared.storing.StoreFault.TheVariants as fault
use Rattle.pot_store.proofs.StoreLemmas.{reserve_job, log_full, taken, no_memory}
use Rattle.pot_store.proofs.PublishLemmas.{fits, sees}
use Rattle.pot_store.proofs.ExitLemmas.{has_reserved, published_work, published_row, published_not, abandoned_work, abandoned_row, abandoned_not}

-- what is answered where a name is refused
abbrev pub of_reserve : ReserveFault → StoreFault
of_reserve reserve_fault.LogFull = fault.IndexLogFull
of_reserve reserve_fault.Exists = fault.Exists
of_reserve reserve_fault.NoMemory = fault.NoMemory

-- THE NAME WAS REFUSED

module _ {A X : Type 0} (name file : List ℕ) (s0 s1 : Connection A X) where
  pub unreserved_work : (e : ReserveFault) → InIndex (λ b. IndexCall (ReservesName b.job name (Err e))) s0 s1 → WroteForItsJob s0 s1
  unreserved_work e call = record {
    same = call.same;
    worked = subst (λ (x : GroupPasses). JobWroteOnly (job_of s0) (knows s0) (known x (knows s1).index)) (sym call.groups)
        (reserve_job (job_of s0) name (rack_of s0) (names_of s0) (bound s0).vault.index (knows s0).groups (knows s0).index (knows s1).index (Err e) s0.ready.idle s0.index_ready call.is);
  }

  module _ (short : length file ≤ longest) (s : Setting) (set : IsSettingOf s (rack_of s0) (knows s0)) where
    unreserved_at : (e : ReserveFault) → IndexCall (ReservesName (job_of s0) name (Err e)) (knows s0).index (knows s1).index
        → JobOnlyWriter (job_of s0) (knows s0) (known (knows s0).groups (knows s1).index)
        → StoreRow s (job_of s0) name file (Err (of_reserve e)) (section_of (knows s0) (known (knows s0).groups (knows s1).index))
    unreserved_at reserve_fault.LogFull = log_full (job_of s0) name file (rack_of s0) (names_of s0) (bound s0).vault.index s (knows s0).groups (knows s0).index (knows s1).index short s0.ready.idle s0.index_ready set
    unreserved_at reserve_fault.Exists = taken (job_of s0) name file (rack_of s0) (names_of s0) (bound s0).vault.index s (knows s0).groups (knows s0).index (knows s1).index short s0.ready.idle s0.index_ready set
    unreserved_at reserve_fault.NoMemory = no_memory (job_of s0) name file (rack_of s0) (names_of s0) (bound s0).vault.index s (knows s0).groups (knows s0).index (knows s1).index short s0.ready.idle s0.index_ready set

    pub unreserved_row : (e : ReserveFault) → InIndex (λ b. IndexCall (ReservesName b.job name (Err e))) s0 s1 → JobOnlyWriter (job_of s0) (knows s0) (knows s1)
        → StoreRow s (job_of s0) name file (Err (of_reserve e)) (section_of (knows s0) (knows s1))
    unreserved_row e call =
        subst (λ (x : GroupPasses). JobOnlyWriter (job_of s0) (knows s0) (known x (knows s1).index) → StoreRow s (job_of s0) name file (Err (of_reserve e)) (section_of (knows s0) (known x (knows s1).index)))
        (sym call.groups) (unreserved_at e call.is)

-- THE NAME WAS RESERVED, AND PUTS CAME

module _ {A X : Type 0} (name file : List ℕ) (s0 s1 s2 : Connection A X) (u : Unit {0}) (reserve : InIndex (λ b. IndexCall (ReservesName b.job name (Ok u))) s0 s1)
    (puts : InGroups (λ b. RowWroteOnlyFor (of_job b.job)) s1 s2) where
  same2 : bound s2 ≡ bound s0
  same2 = puts.same ∙ reserve.same

  abbrev g0 : GroupPasses
  g0 = (knows s0).groups

  abbrev g1 : GroupPasses
  g1 = (knows s1).groups

  abbrev g2 : GroupPasses
  g2 = (knows s2).groups

  worked : RowWroteOnlyFor (of_job (job_of s0)) g1 g2
  worked = groups_at reserve.same puts

  pub reserved : HasReserved (job_of s2) name (knows s2).index
  reserved =
      subst (λ (b : Bound). HasReserved b.job name (knows s2).index) (sym same2)
      (has_reserved (job_of s0) name file (rack_of s0) (names_of s0) (bound s0).vault.index g0 g1 g2 (knows s0).index (knows s1).index (knows s2).index u s0.ready s0.index_ready reserve.groups reserve.is (index_at s1 reserve.same) puts.index worked)

  -- the record was published, or not
  module _ (r : Record) (result : Result (Unit {0}) ReservationLost) (s3 : Connection A X) (named : r.name ≡ name) (call : InTied (λ b row. IndexCall (PublishesRecord b.job r result)) s2 s3) where
    pub published_worked : WroteForItsJob s0 s3
    published_worked = record {
      same = call.same ∙ same2;
      worked = published_work (job_of s0) name file (rack_of s0) (names_of s0) (bound s0).vault.index g0 g1 g2 (knows s0).index (knows s1).index (knows s2).index u s0.ready s0.index_ready reserve.groups reserve.is (index_at s1 reserve.same) puts.index worked
          r result (knows s3).groups (knows s3).index named (ready_at s2 same2) call.groups (tied_at same2 call);
    }

  pub not_published : (r : Record) (e : ReservationLost) (s3 : Connection A X) → r.name ≡ name → InTied (λ b row. IndexCall (PublishesRecord b.job r (Err e))) s2 s3
      → JobOnlyWriter (job_of s0) (knows s0) (knows s3) → ⊥
  not_published r e s3 named call =
      published_not (job_of s0) name file (rack_of s0) (names_of s0) (bound s0).vault.index g0 g1 g2 (knows s0).index (knows s1).index (knows s2).index u s0.ready s0.index_ready reserve.groups reserve.is (index_at s1 reserve.same) puts.index worked
      r e (knows s3).groups (knows s3).index named (tied_at same2 call)

  -- the name was given up, or not
  module _ (result : Result (Unit {0}) ReservationLost) (s3 : Connection A X) (call : InIndex (λ b. IndexCall (Abandons b.job name result)) s2 s3) where
    pub abandoned_worked : WroteForItsJob s0 s3
    abandoned_worked = record {
      same = call.same ∙ same2;
      worked = abandoned_work (job_of s0) name file (rack_of s0) (names_of s0) (bound s0).vault.index g0 g1 g2 (knows s0).index (knows s1).index (knows s2).index u s0.ready s0.index_ready reserve.groups reserve.is (index_at s1 reserve.same) puts.index worked
          result (knows s3).groups (knows s3).index call.groups (pass_at same2 call);
    }

  pub not_abandoned : (e : ReservationLost) (s3 : Connection A X) → InIndex (λ b. IndexCall (Abandons b.job name (Err e))) s2 s3 → JobOnlyWriter (job_of s0) (knows s0) (knows s3) → ⊥
  not_abandoned e s3 call =
      abandoned_not (job_of s0) name file (rack_of s0) (names_of s0) (bound s0).vault.index g0 g1 g2 (knows s0).index (knows s1).index (knows s2).index u s0.ready s0.index_ready reserve.groups reserve.is (index_at s1 reserve.same) puts.index worked
      e (knows s3).groups (knows s3).index (pass_at same2 call)

  -- by the plan of the split
  module _ (pads : Pads) (pieces shards : ℕ) (geometry : Geometry) (d : Drawn) (room : List Place) (is : geometry ≡ (rack_of s0).geometry) (plan : IsPlan geometry file pads pieces shards d room) where
    abbrev its : Geometry
    its = (rack_of s0).geometry

    drawn : d ≡ record { geometry = its; file = file; start = pads; next = 0 }
    drawn = subst (λ (x : Geometry). d ≡ record { geometry = x; file = file; start = pads; next = 0 }) is plan.drawing

    module _ (places : List Place) (put : (length places ≡ shards) × ArePut (rack_of s1) geometry (job_of s1) (all_blocks d) places g1 g2) where
      are_put : ArePut (rack_of s0) its (job_of s0) (blocks_from its file pads) places g1 g2
      are_put =
          subst (λ (x : Drawn). ArePut (rack_of s0) its (job_of s0) (all_blocks x) places g1 g2) drawn
          (subst (λ (x : Geometry). ArePut (rack_of s0) x (job_of s0) (all_blocks d) places g1 g2) is
          (subst (λ (b : Bound). ArePut b.vault.rack geometry b.job (all_blocks d) places g1 g2) reserve.same put.1))

      many : shards ≡ pieces_of (length file) * (its.fragments * its.shards)
      many = plan.shards_is ∙ ap count_of drawn

      pub fits_there : FitsRack (rack_of s2) (record_of name file its places)
      fits_there = subst (λ (b : Bound). FitsRack b.vault.rack (record_of name file its places)) (sym same2)
          (fits (rack_of s0) (job_of s0) name file pads (blocks_from its file pads) places g1 g2 s0.is_rack plan.short (put.0 ∙ many) are_put)

      pub sees_there : AreBytes file → SeesFile g2 (record_of name file its places)
      sees_there bytes = sees (rack_of s0) (job_of s0) name file pads (blocks_from its file pads) places g1 g2 s0.is_rack plan.short (put.0 ∙ many) are_put bytes refl

      pub stored : AreBytes file → (v : Unit {0}) (s3 : Connection A X) → InTied (λ b row. IndexCall (PublishesRecord b.job (record_of name file its places) (Ok v))) s2 s3
          → JobOnlyWriter (job_of s0) (knows s0) (knows s3) → (s : Setting) → IsSettingOf s (rack_of s0) (knows s0) → DrawsFrom s pads (job_of s0) file
          → StoreRow s (job_of s0) name file (Ok (record { pieces = pieces; shards = shards })) (section_of (knows s0) (knows s3))
      stored bytes v s3 call =
          published_row (job_of s0) name file (rack_of s0) (names_of s0) (bound s0).vault.index g0 g1 g2 (knows s0).index (knows s1).index (knows s2).index u s0.ready s0.index_ready reserve.groups reserve.is (index_at s1 reserve.same) puts.index worked
          pads places pieces shards v (knows s3).groups (knows s3).index (ready_at s2 same2) call.groups (tied_at same2 call) are_put bytes plan.short plan.pieces_is many put.0

    pub given_up : (group : ℕ) (cause : PutFault) → (RowOnlyWriterOf (of_job (job_of s1)) g1 g2 → PutsEnd (rack_of s1) geometry (job_of s1) (all_blocks d) group cause g1 g2)
        → (v : Unit {0}) (s3 : Connection A X) → InIndex (λ b. IndexCall (Abandons b.job name (Ok v))) s2 s3
        → JobOnlyWriter (job_of s0) (knows s0) (knows s3) → (s : Setting) → IsSettingOf s (rack_of s0) (knows s0) → DrawsFrom s pads (job_of s0) file
        → StoreRow s (job_of s0) name file (Err (fault_of group cause)) (section_of (knows s0) (knows s3))
    given_up group cause ends v s3 call =
        abandoned_row (job_of s0) name file (rack_of s0) (names_of s0) (bound s0).vault.index g0 g1 g2 (knows s0).index (knows s1).index (knows s2).index u s0.ready s0.index_ready reserve.groups reserve.is (index_at s1 reserve.same) puts.index worked
        pads group cause v (knows s3).groups (knows s3).index call.groups (pass_at same2 call) plan.short
        (subst (λ (x : Drawn). RowOnlyWriterOf (of_job (job_of s0)) g1 g2 → PutsEnd (rack_of s0) its (job_of s0) (all_blocks x) group cause g1 g2) drawn
        (subst (λ (x : Geometry). RowOnlyWriterOf (of_job (job_of s0)) g1 g2 → PutsEnd (rack_of s0) x (job_of s0) (all_blocks d) group cause g1 g2) is
        (subst (λ (b : Bound). RowOnlyWriterOf (of_job b.job) g1 g2 → PutsEnd b.vault.rack geometry b.job (all_blocks d) group cause g1 g2) reserve.same ends)))
