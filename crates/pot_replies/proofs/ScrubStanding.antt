-- The replies to `scrub`, `repair` and `migrate` stand when other jobs log more.
use Rattle.std.proofs.Common.{ℕ, ◌⊎◌, ◌∷◌, [], ◌++◌, length, ap, sym, ◌∙◌, subst, append_assoc}
use Rattle.std.specs.Prelude.{filter, Contains, map, IsTrue, Bool}
use Rattle.std.proofs.lemmas.List.Elements.{Contains-append_left}
use Rattle.pot_bytes.specs.declared.digest.Digest.{Digest}
use Rattle.pot_machine.specs.declared.entry.Entry.TheVariants.{Seen, Gone, Stuck, Oddly, MoveEnd}
use Rattle.pot_machine.specs.declared.slot.SlotState.{SlotState}
use Rattle.pot_machine.specs.Slot.{is_live, is_unsound}
use Rattle.pot_machine.specs.Table.{slot_at}
use Rattle.pot_machine.specs.Logs.{own, replayed}
use Rattle.pot_replies.specs.Jobs.{is_seen, is_gone, is_mended, is_left, is_relay, is_move_of, is_copied, place_in, EachIs, Ascend}
use Rattle.pot_replies.specs.Sections.{Section, JobEntries, mine, Widens, IsOnlyIn, AlwaysAt}
use Rattle.pot_replies.specs.Settings.{Setting}
use Rattle.pot_replies.specs.Scrubs.{AreLooks, AreRelays, PassesOnce, WasAt, WereLive}
use Rattle.pot_replies.specs.Laws.{ScrubbedStands, ScrubFaultStands, ScrubLogFullStands, RepairedStands, RepairFaultStands, RepairLogFullStands, MigratedStands, StepLogFullStands}
use Rattle.pot_replies.proofs.Standing.{ahead, same_own, mine_stays, moment_stands, mends_stand}

module _ (job : ℕ) (w w' : Section) (wide : Widens job w w') where
  only_stands : (g : ℕ) → IsOnlyIn g (mine job w) → IsOnlyIn g (mine job w')
  only_stands g is = subst (λ (m : JobEntries). IsOnlyIn g m) (sym (mine_stays job w w' wide)) is

  -- what was so all the time in the wider section was so in this one
  always_in : (s : Setting) (test : SlotState → Bool) (g n c : ℕ) → AlwaysAt test (replayed (s.first g) (w'.before g)) (w'.added g) n c → AlwaysAt test (replayed (s.first g) (w.before g)) (w.added g) n c
  always_in s test g n c is x y at =
      subst (λ l. IsTrue (test (slot_at (replayed (replayed (s.first g) l) x) n c))) (wide.before g)
      (is x (y ++ wide.more g) (wide.added g ∙ (ap (λ l. l ++ wide.more g) at ∙ append_assoc x y (wide.more g))))

  was_stands : (s : Setting) (g : ℕ) (test : SlotState → Bool) (n c : ℕ) → WasAt s g w test n c → WasAt s g w' test n c
  was_stands s g test n c (x, y, at, is) = (
    x,
    y ++ wide.more g,
    wide.added g ∙ (ap (λ l. l ++ wide.more g) at ∙ append_assoc x y (wide.more g)),
    subst (λ l. IsTrue (test (slot_at (replayed (s.first g) (l ++ x)) n c))) (sym (wide.before g)) is,
  )

  live_stands : (s : Setting) (g : ℕ) → WereLive job (s.first g) (w.before g) (w.added g) → WereLive job (s.first g) (w'.before g) (w'.added g)
  live_stands s g live x y e at its =
      let front = ahead job (w.added g) (wide.more g) x e y (wide.others g) its (sym (wide.added g) ∙ at) in
      subst (λ l. PassesOnce is_live (s.first g) l x (place_in e).0 (place_in e).1) (sym (wide.before g)) (live x front.0 e front.1 its)

  looks_stand : (g : ℕ) → AreLooks (own job (w.added g)) → AreLooks (own job (w'.added g))
  looks_stand g is = subst AreLooks (sym (same_own job w w' wide g)) is

  relays_stand : (g : ℕ) → AreRelays job (w.added g) → AreRelays job (w'.added g)
  relays_stand g is = record { kinds = subst (EachIs is_relay) (sym (same_own job w w' wide g)) is.kinds; mends = mends_stand job w w' wide g is.mends }

pub scrubbed_stands : ScrubbedStands
scrubbed_stands s job g seen gone w w' wide is =
    let same = sym (same_own job w w' wide g) in record {
      looks = looks_stand job w w' wide g is.looks;
      only = only_stands job w w' wide g is.only;
      seen_is = is.seen_is ∙ ap (λ es. length (filter is_seen es)) same;
      gone_is = is.gone_is ∙ ap (λ es. length (filter is_gone es)) same;
      all = λ n c lt lt2 always.
          subst (λ es. Contains es (Seen job n c) ⊎ Contains es (Gone job n c)) same (is.all n c lt lt2 (always_in job w w' wide s is_live g n c always));
      live = live_stands job w w' wide s g is.live;
    }

pub scrub_fault_stands : ScrubFaultStands
scrub_fault_stands s job g column w w' wide is = record {
  looks = is.looks;
  stripe = is.stripe;
  own_is = same_own job w w' wide g ∙ is.own_is;
  kinds = is.kinds;
  ascends = is.ascends;
  only = only_stands job w w' wide g is.only;
  live = live_stands job w w' wide s g is.live;
}

pub scrub_log_full_stands : ScrubLogFullStands
scrub_log_full_stands s job g w w' wide is = record {
  looks = looks_stand job w w' wide g is.looks;
  only = only_stands job w w' wide g is.only;
  log = is.log;
  moment = moment_stands job w w' wide g is.log is.moment;
  full = is.full;
  stripe = is.stripe;
  column = is.column;
  in_stripes = is.in_stripes;
  in_columns = is.in_columns;
  behind = subst (λ es. Ascend (map place_in es ++ (is.stripe, is.column) ∷ [])) (sym (same_own job w w' wide g)) is.behind;
  was = was_stands job w w' wide s g is_live is.stripe is.column is.was;
  live = live_stands job w w' wide s g is.live;
}

pub repaired_stands : RepairedStands
repaired_stands s job g mended left w w' wide is =
    let same = sym (same_own job w w' wide g) in record {
      relays = relays_stand job w w' wide g is.relays;
      only = only_stands job w w' wide g is.only;
      mended_is = is.mended_is ∙ ap (λ es. length (filter is_mended es)) same;
      left_is = is.left_is ∙ ap (λ es. length (filter is_left es)) same;
      all = λ n c lt lt2 always.
          subst (λ es. ((o : ℕ) × Contains es (Stuck job n c o)) ⊎ ((f : Digest) × Contains es (Oddly job n c f))) same
          (is.all n c lt lt2 (always_in job w w' wide s is_unsound g n c always));
    }

pub repair_fault_stands : RepairFaultStands
repair_fault_stands job g column w w' wide is = record {
  sofar = is.sofar;
  stripe = is.stripe;
  own_is = same_own job w w' wide g ∙ is.own_is;
  kinds = is.kinds;
  mends = mends_stand job w w' wide g is.mends;
  only = only_stands job w w' wide g is.only;
}

pub repair_log_full_stands : RepairLogFullStands
repair_log_full_stands s job g w w' wide is = record {
  relays = relays_stand job w w' wide g is.relays;
  only = only_stands job w w' wide g is.only;
  log = is.log;
  moment = moment_stands job w w' wide g is.log is.moment;
  full = is.full;
  stripe = is.stripe;
  column = is.column;
  in_stripes = is.in_stripes;
  in_columns = is.in_columns;
  was = was_stands job w w' wide s g is_unsound is.stripe is.column is.was;
}

pub migrated_stands : MigratedStands
migrated_stands s before begun job from to slots w w' wide is =
    let same = sym (same_own job w w' wide is.group) in record {
      group = is.group;
      column = is.column;
      begins = is.begins;
      elsewhere = is.elsewhere;
      only = only_stands job w w' wide is.group is.only;
      moves = subst (EachIs (is_move_of is.column)) same is.moves;
      slots_is = is.slots_is ∙ ap (λ es. length (filter is_copied es)) same;
      ends = (is.ends.0, subst (λ es. Contains es (MoveEnd is.ends.0 is.column)) (sym (wide.added is.group)) (Contains-append_left (w.added is.group) (wide.more is.group) (MoveEnd is.ends.0 is.column) is.ends.1));
    }

pub step_log_full_stands : StepLogFullStands
step_log_full_stands s before begun job from to g w w' wide is =
    let same = sym (same_own job w w' wide g) in record {
      column = is.column;
      begins = is.begins;
      elsewhere = is.elsewhere;
      only = only_stands job w w' wide g is.only;
      moves = subst (EachIs (is_move_of is.column)) same is.moves;
      unended = λ has. is.unended (subst (λ es. Contains es (MoveEnd job is.column)) (same_own job w w' wide g) has);
      log = is.log;
      moment = moment_stands job w w' wide g is.log is.moment;
      full = is.full;
    }
