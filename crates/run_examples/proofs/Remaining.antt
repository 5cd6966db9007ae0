-- What a session that logged nothing does to a block.
use Rattle.std.proofs.Common.{◌≡◌, ◌⊎◌, inl, inr, ℕ, List, [], ◌∷◌, Some, refl, sym, ap, subst, arith, ◌∙◌}
use Rattle.std.specs.Prelude.{Contains, slice_get}
use Rattle.std.proofs.lemmas.List.Elements.{All-nil, All-cons}
use Rattle.std.proofs.lemmas.Option.{same_Some}
use Rattle.pot_bytes.specs.Digests.{digest_of}
use Rattle.pot_bytes.specs.Lists.{IsBlock}
use Rattle.pot_bytes.proofs.Elements.{none_contained}
use Rattle.pot_outside.specs.Counts.{Rose}
use Rattle.pot_machine.specs.declared.entry.Entry.{Entry}
use Rattle.pot_machine.specs.Rules.{IsTable}
use Rattle.pot_machine.specs.Table.{Table, archives_in}
use Rattle.pot_group.specs.Arrivals.{arrivals}
use Rattle.pot_group.specs.Remaining.{HasServed, MendFailed}
use Rattle.pot_group.proofs.Remains.{serving_has}
use Rattle.pot_image.specs.Images.{Contents}
use Rattle.pot_image.specs.Rules.{FitsTable, FitsTogether, IsRecordOver}
use Rattle.pot_shared.specs.Hands.{times}
use Rattle.pot_session.specs.Serving.{came_by}
use Rattle.pot_promises.specs.Chains.{BeginsAfter, Never}
use Rattle.pot_promises.specs.Remaining.{BlocksRemainInRoom, Brought, Elsewhere, Failed, HoldsOf, HoldsStill, Lost, NotBack, OlderDeskFinds, OneTakes, PastSession, ServedRemain}
use Rattle.run_examples.specs.Quiet.{small}
use Rattle.run_examples.specs.Remaining.{IsStillThere, LogsNothing, OlderFinds, StillThere, full, left_by}
use Rattle.run_examples.proofs.OnePut.{stood}
use Rattle.run_examples.proofs.Quiet.{fits, is_rack}

module _ (block : List ℕ) (is_block : IsBlock block) where
  is_full : IsTable (full block)
  is_full = (stood block is_block).table

  fits_left : FitsTogether (left_by block)
  fits_left = record {
    rack = is_rack;
    tables = record {
      count = refl;
      fits = All-cons (FitsTable small) (full block) [] (record { rules = is_full; data_columns = refl; parity = refl; stripes = refl; relays = refl }) (All-nil (FitsTable small));
      archives = fits.tables.archives;
    };
    records = record { read = fits.records.read; each = All-nil (IsRecordOver (full block ∷ [])) };
    logs = refl;
  }

  served : HasServed (full block) 0 0 (digest_of block) 0
  served = serving_has (full block) 0 0 (digest_of block) is_full (omega arith) refl

  module _ (x : PastSession) (quiet : LogsNothing block x) (held : (x.room.before.means 0).held 0 ≡ Some block) where
    held_before : HoldsOf (x.room.before.means 0) 0 (digest_of block)
    held_before = (block, held, refl)

    there : slice_get x.first.tables 0 ≡ Some (full block)
    there = ap (λ (c : Contents). slice_get c.tables 0) quiet.first

    log_is : slice_get x.last.group_logs 0 ≡ Some []
    log_is = ap (λ (ls : List (List Entry)). slice_get ls 0) quiet.logs

    back : (n : ℕ) → times n x.missing ≡ 0
    back n = ap (times n) quiet.back

    holds : HoldsStill (full block) [] 0 0 (digest_of block) (x.room.before.means 0) (x.room.after.means 0) → HoldsOf (x.room.after.means 0) 0 (digest_of block)
    holds still = by (still held_before)
      where
        by : HoldsOf (x.room.after.means 0) 0 (digest_of block) ⊎ (MendFailed (full block) [] 0 0 ⊎ Rose (x.room.before.means 0).losses (x.room.after.means 0).losses) → HoldsOf (x.room.after.means 0) 0 (digest_of block)
        by (inl h) = h
        by (inr (inl failed)) = absurd failed
        by (inr (inr rose)) = absurd (quiet.lost rose)

    not_brought : Contains (arrivals []) 0 → ⊥
    not_brought h = none_contained 0 h

    remain : BlocksRemainInRoom → HoldsOf (x.room.after.means 0) 0 (digest_of block)
    remain law =
        holds (law x.first x.last x.room x.missing x.story quiet.closed.fits quiet.closed.told quiet.closed.leaves 0 (full block) [] there log_is 0 0 (digest_of block) (omega arith) (omega arith) refl (back 0) not_brought)

    still_served : ServedRemain → (written : Table) → slice_get x.last.tables 0 ≡ Some written → IsStillThere block x written
    still_served law written is =
        let y = law x.first x.last x.room x.missing x.story quiet.closed.fits quiet.closed.told quiet.closed.leaves 0 (full block) written [] there is log_is 0 0 (digest_of block) 0 (omega arith) (omega arith) served not_brought in
        record { holds = holds (y.1 (0, omega arith, refl) (back 0)); served = y.0 }

    not_taken : OneTakes (x ∷ []) 0 0 0 0 → ⊥
    not_taken (inl (NotBack h)) = h (back 0)
    not_taken (inl (Brought h)) = h (ap (λ (ls : List (List Entry)). times 0 (came_by ls)) quiet.logs)
    not_taken (inl (Elsewhere read is none some)) = one_zero (subst (λ (t : Table). times 0 (archives_in t) ≡ 0) (same_Some _ _ (sym is ∙ there)) none)
      where
        one_zero : times 0 (archives_in (full block)) ≡ 0 → ⊥
        one_zero e = omega (arith, e)
    not_taken (inl (Failed read log is is_log failed)) = subst (λ (l : List Entry). MendFailed read l 0 0) (same_Some _ _ (sym is_log ∙ log_is)) failed
    not_taken (inl (Lost rose)) = quiet.lost rose
    not_taken (inr none) = none

    begins : BeginsAfter (left_by block) x.first
    begins = subst (λ (c : Contents). BeginsAfter (left_by block) c) (sym quiet.first) (left_by block, Never, record { rack = refl; tables = refl; records = refl })

    older : OlderDeskFinds → HoldsOf (x.room.after.means 0) 0 (digest_of block)
    older law = by (law (left_by block) x.room.before.means x.room.after.means (x ∷ []) fits_left (begins, quiet.closed, refl, refl) 0 (full block) refl 0 0 (digest_of block) (omega arith) (omega arith) refl held_before)
      where
        by : HoldsOf (x.room.after.means 0) 0 (digest_of block) ⊎ OneTakes (x ∷ []) 0 0 0 0 → HoldsOf (x.room.after.means 0) 0 (digest_of block)
        by (inl h) = h
        by (inr takes) = absurd (not_taken takes)

pub still_there : BlocksRemainInRoom → ServedRemain → StillThere
still_there one other block is_block x quiet held = (remain block is_block x quiet held one, still_served block is_block x quiet held other)

pub older_finds : OlderDeskFinds → OlderFinds
older_finds law block is_block x quiet held = older block is_block x quiet held law
