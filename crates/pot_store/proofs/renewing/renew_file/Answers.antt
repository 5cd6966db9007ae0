use Rattle.std.proofs.Common.{◌≡◌, ◌<◌, ◌∙◌, ℕ, List, true, inl, length, refl, ap, sym, subst, arith}
use Rattle.std.specs.Prelude.{Ok, Err}
use Rattle.pot_replies.specs.Settings.{Setting}
use Rattle.pot_shared.specs.Catalogs.{IndexPasses}
use Rattle.pot_shared.specs.IndexCalls.{IndexCall, MayRenewBy, RenewsSplit}
use Rattle.pot_shared.specs.Connections.{Bound, bound, knows}
use Rattle.pot_shared.specs.Works.{known, section_of, JobWroteOnly, JobOnlyWriter, IsSettingOf}
use Rattle.pot_shared.proofs.BlindLemmas.{blinds_quiet, none_known, none_more, quiet_then, then_quiet}
use Rattle.pot_shared.proofs.ConnectionLemmas.{groups_at, index_at, ready_at, tied_at}
use Rattle.pot_store.specs.Fetches.{AreFilled}
use Rattle.pot_store.specs.Renewals.{PutsSplit, RenewsFrom, RenewRow}
use Rattle.pot_store.specs.declared.renewing.RenewFileFault.{RenewFileFault}
use Rattle.pot_store.proofs.BlindLemmas.{none_split}
use Rattle.pot_store.proofs.FetchLemmas.{all_work, record_row}
use Rattle.pot_store.proofs.SearchLemmas.{lone_work}
use Rattle.pot_store.proofs.RenewLemmas.{made_split, fetch_is, may_renew, renewed_work, renewed_row, unrenewed_row, often_now, often_work, split_work, refused_row, unfound_row}
use Rattle.pot_store.proofs.renewing.renew_file.Goals as goal

pub returns-in-Err-clause-worked : goal.returns-in-Err-clause-worked
returns-in-Err-clause-worked g c =
    let s0 = c.args.connection.now in
    let b = bound s0 in
    let g0 = (knows s0).groups in
    let g1 = (knows c.find.new.self).groups in
    record {
      same = c.find.ensures.same;
      worked = lone_work b.job c.args.name.now b.vault.rack b.vault.groups b.vault.index g0 g1 (knows s0).index (knows c.find.new.self).index
          c.in-Err.fault s0.ready s0.index_ready c.find.ensures.groups c.in-Err.ensures.is;
    }

pub returns-in-Err-clause-says : goal.returns-in-Err-clause-says
returns-in-Err-clause-says g c = λ alone s set mends filled draws.
    let s0 = c.args.connection.now in
    let b = bound s0 in
    let g0 = (knows s0).groups in
    let g1 = (knows c.find.new.self).groups in
    subst (λ (e : RenewFileFault). RenewRow s b.job c.args.name.now c.args.geometry.now (Err e) (section_of (knows s0) (knows c.find.new.self))) (sym c.of_find.ensures)
    (unfound_row b.job c.args.name.now b.vault.rack b.vault.groups b.vault.index g0 g1 (knows s0).index (knows c.find.new.self).index
    c.in-Err.fault s0.ready s0.index_ready c.find.ensures.groups c.in-Err.ensures.is c.args.geometry.now alone s set)

pub returns-then-as_slice-eq-MOST_OLDER-clause-worked : goal.returns-then-as_slice-eq-MOST_OLDER-clause-worked
returns-then-as_slice-eq-MOST_OLDER-clause-worked g c =
    let s0 = c.args.connection.now in
    let b = bound s0 in
    let g0 = (knows s0).groups in
    let g1 = (knows c.find.new.self).groups in
    record { same = c.find.ensures.same; worked = often_work b.job c.args.name.now b.vault.rack b.vault.groups b.vault.index g0 g1 (knows s0).index (knows c.find.new.self).index c.in-Ok.kept s0.ready (ready_at c.find.new.self c.find.ensures.same) s0.whole s0.index_ready c.find.ensures.groups c.in-Ok.ensures.is }

pub returns-then-as_slice-eq-MOST_OLDER-clause-says : goal.returns-then-as_slice-eq-MOST_OLDER-clause-says
returns-then-as_slice-eq-MOST_OLDER-clause-says g c = λ alone s set mends filled draws.
    let s0 = c.args.connection.now in
    let b = bound s0 in
    let g0 = (knows s0).groups in
    let g1 = (knows c.find.new.self).groups in
    let many : length c.in-Ok.kept.older ≡ 15 = (let x = ap length c.as_slice.ensures.value in let y = c.if-as_slice-eq-MOST_OLDER.true in omega (arith, x, y)) in
    inl (often_now b.job c.args.name.now b.vault.rack b.vault.groups b.vault.index g0 g1 (knows s0).index (knows c.find.new.self).index c.in-Ok.kept s0.ready (ready_at c.find.new.self c.find.ensures.same) s0.whole s0.index_ready c.find.ensures.groups c.in-Ok.ensures.is
    many alone s set mends filled)

pub returns-in-Err-read_kept-clause-worked : goal.returns-in-Err-read_kept-clause-worked
returns-in-Err-read_kept-clause-worked g c =
    let s0 = c.args.connection.now in
    let b = bound s0 in
    let g0 = (knows s0).groups in
    let g1 = (knows c.find.new.self).groups in
    let read = groups_at c.find.ensures.same c.in-Err-read_kept.ensures.read in
    let g2 = (knows c.read_kept.new.connection).groups in
    record {
      same = c.read_kept.ensures.read.same ∙ c.find.ensures.same;
      worked = subst (λ (i : IndexPasses). JobWroteOnly b.job (knows s0) (known g2 i)) (sym c.read_kept.ensures.read.index)
          (all_work b.job c.args.name.now b.vault.rack b.vault.groups b.vault.index g0 g1 g2 (knows s0).index (knows c.find.new.self).index
          c.in-Ok.kept s0.ready s0.whole s0.index_ready c.find.ensures.groups c.in-Ok.ensures.is read.visits read.reads);
    }

pub returns-in-Err-read_kept-clause-says : goal.returns-in-Err-read_kept-clause-says
returns-in-Err-read_kept-clause-says g c =
    let s0 = c.args.connection.now in
    let b = bound s0 in
    let g0 = (knows s0).groups in
    let g1 = (knows c.find.new.self).groups in
    let read = groups_at c.find.ensures.same c.in-Err-read_kept.ensures.read in
    let g2 = (knows c.read_kept.new.connection).groups in
    subst (λ (i : IndexPasses). JobOnlyWriter b.job (knows s0) (known g2 i) → (s : Setting) → IsSettingOf s b.vault.rack (knows s0) → s.mends ≡ true → AreFilled s
    → RenewsFrom s c.args.pads c.args.geometry.now b.job → RenewRow s b.job c.args.name.now c.args.geometry.now (Err c.of_fetch.result) (section_of (knows s0) (known g2 i))) (sym c.read_kept.ensures.read.index)
    (λ alone s set mends filled draws.
    subst (λ (e : RenewFileFault). RenewRow s b.job c.args.name.now c.args.geometry.now (Err e) (section_of (knows s0) (known g2 (knows c.find.new.self).index))) (sym c.of_fetch.ensures)
    (fetch_is s b.job c.args.name.now c.args.geometry.now (section_of (knows s0) (known g2 (knows c.find.new.self).index)) c.in-Err-read_kept.fault
    (record_row b.job c.args.name.now b.vault.rack b.vault.groups b.vault.index g0 g1 g2 (knows s0).index (knows c.find.new.self).index
    c.in-Ok.kept s0.ready s0.whole s0.index_ready c.find.ensures.groups c.in-Ok.ensures.is read.visits read.reads
    alone s set mends filled (Err c.in-Err-read_kept.fault) read.ends)))

pub returns-in-Err-put_split-clause-worked : goal.returns-in-Err-put_split-clause-worked
returns-in-Err-put_split-clause-worked g c =
    let s0 = c.args.connection.now in
    let b = bound s0 in
    let g0 = (knows s0).groups in
    let g1 = (knows c.find.new.self).groups in
    let read = groups_at c.find.ensures.same c.in-Ok-read_kept.ensures.read in
    let g2 = (knows c.read_kept.new.connection).groups in
    let same2 = c.read_kept.ensures.read.same ∙ c.find.ensures.same in
    let g3 = (knows c.put_split.new.connection).groups in
    let index = c.put_split.ensures.worked.index ∙ c.read_kept.ensures.read.index in
    record {
      same = c.put_split.ensures.worked.same ∙ same2;
      worked = subst (λ (i : IndexPasses). JobWroteOnly b.job (knows s0) (known g3 i)) (sym index)
          (split_work b.job c.args.name.now b.vault.rack b.vault.groups b.vault.index g0 g1 g2 (knows s0).index (knows c.find.new.self).index
          c.in-Ok.kept s0.ready s0.whole s0.index_ready c.find.ensures.groups c.in-Ok.ensures.is read.visits read.reads
          (ready_at c.read_kept.new.connection same2) g3 (groups_at same2 c.put_split.ensures.worked) (index_at c.find.new.self c.find.ensures.same));
    }

pub returns-in-Err-put_split-clause-says : goal.returns-in-Err-put_split-clause-says
returns-in-Err-put_split-clause-says g c =
    let s0 = c.args.connection.now in
    let b = bound s0 in
    let g0 = (knows s0).groups in
    let g1 = (knows c.find.new.self).groups in
    let read = groups_at c.find.ensures.same c.in-Ok-read_kept.ensures.read in
    let g2 = (knows c.read_kept.new.connection).groups in
    let same2 = c.read_kept.ensures.read.same ∙ c.find.ensures.same in
    let g3 = (knows c.put_split.new.connection).groups in
    let index = c.put_split.ensures.worked.index ∙ c.read_kept.ensures.read.index in
    let few : length c.in-Ok.kept.older < 15 = (let x = ap length c.as_slice.ensures.value in let y = c.if-as_slice-eq-MOST_OLDER.false in let most = c.as_slice.ensures.few in omega (arith, x, y, most)) in
    subst (λ (i : IndexPasses). JobOnlyWriter b.job (knows s0) (known g3 i) → (s : Setting) → IsSettingOf s b.vault.rack (knows s0) → s.mends ≡ true → AreFilled s
    → RenewsFrom s c.args.pads c.args.geometry.now b.job → RenewRow s b.job c.args.name.now c.args.geometry.now (Err c.in-Err-put_split.fault) (section_of (knows s0) (known g3 i))) (sym index)
    (λ alone s set mends filled draws.
    refused_row b.job c.args.name.now b.vault.rack b.vault.groups b.vault.index g0 g1 g2 (knows s0).index (knows c.find.new.self).index
    c.in-Ok.kept s0.ready s0.whole s0.index_ready c.find.ensures.groups c.in-Ok.ensures.is read.visits read.reads
    (ready_at c.read_kept.new.connection same2) g3 (groups_at same2 c.put_split.ensures.worked) (index_at c.find.new.self c.find.ensures.same)
    alone s set mends filled c.in-Ok-read_kept.file read.ends few c.args.geometry.now c.args.pads draws c.in-Err-put_split.fault
    (subst (λ (f : List ℕ). PutsSplit b.vault.rack c.args.geometry.now b.job f c.args.pads (Err c.in-Err-put_split.fault) g2 g3) c.deref.ensures.value
    (subst (λ (x : Bound). PutsSplit x.vault.rack c.args.geometry.now x.job c.deref.result.now c.args.pads (Err c.in-Err-put_split.fault) g2 g3) same2 c.in-Err-put_split.ensures.puts)))

pub renew-requires : goal.renew-requires
renew-requires g c =
    let s0 = c.args.connection.now in
    let b = bound s0 in
    let g0 = (knows s0).groups in
    let g1 = (knows c.find.new.self).groups in
    let read = groups_at c.find.ensures.same c.in-Ok-read_kept.ensures.read in
    let g2 = (knows c.read_kept.new.connection).groups in
    let same2 = c.read_kept.ensures.read.same ∙ c.find.ensures.same in
    let g3 = (knows c.put_split.new.connection).groups in
    let index = c.put_split.ensures.worked.index ∙ c.read_kept.ensures.read.index in
    let same3 = c.put_split.ensures.worked.same ∙ same2 in
    let file = read.ends in
    let put = (made_split b.vault.rack c.args.geometry.now b.job c.in-Ok-read_kept.file.items c.args.pads c.in-Ok-put_split.put g2 g3
    (subst (λ (f : List ℕ). PutsSplit b.vault.rack c.args.geometry.now b.job f c.args.pads (Ok c.in-Ok-put_split.put) g2 g3) c.deref.ensures.value
    (subst (λ (x : Bound). PutsSplit x.vault.rack c.args.geometry.now x.job c.deref.result.now c.args.pads (Ok c.in-Ok-put_split.put) g2 g3) same2 c.in-Ok-put_split.ensures.puts))) in
    subst (λ (x : Bound). MayRenewBy x.vault.rack c.args.name.now c.in-Ok-put_split.put.1 g3 (knows c.put_split.new.connection).index) (sym same3)
    (subst (λ (i : IndexPasses). MayRenewBy b.vault.rack c.args.name.now c.in-Ok-put_split.put.1 g3 i) (sym index)
    (may_renew b.job c.args.name.now b.vault.rack b.vault.groups b.vault.index (knows s0).index (knows c.find.new.self).index g1 c.in-Ok.kept s0.index_ready c.in-Ok.ensures.is
    c.in-Ok-read_kept.file.items c.in-Ok-put_split.put.1 g3 file.1.long file.2 put.fits put.sees))

pub returns-in-Ok-renew-clause-worked : goal.returns-in-Ok-renew-clause-worked
returns-in-Ok-renew-clause-worked g c =
    let s0 = c.args.connection.now in
    let b = bound s0 in
    let g0 = (knows s0).groups in
    let g1 = (knows c.find.new.self).groups in
    let read = groups_at c.find.ensures.same c.in-Ok-read_kept.ensures.read in
    let g2 = (knows c.read_kept.new.connection).groups in
    let same2 = c.read_kept.ensures.read.same ∙ c.find.ensures.same in
    let g3 = (knows c.put_split.new.connection).groups in
    let index = c.put_split.ensures.worked.index ∙ c.read_kept.ensures.read.index in
    let same3 = c.put_split.ensures.worked.same ∙ same2 in
    record {
      same = c.renew.ensures.same ∙ same3;
      worked = renewed_work b.job c.args.name.now b.vault.rack b.vault.groups b.vault.index g0 g1 g2 (knows s0).index (knows c.find.new.self).index
          c.in-Ok.kept s0.ready s0.whole s0.index_ready c.find.ensures.groups c.in-Ok.ensures.is read.visits read.reads
          (ready_at c.read_kept.new.connection same2) g3 (ready_at c.put_split.new.connection same3) (groups_at same2 c.put_split.ensures.worked) (index_at c.find.new.self c.find.ensures.same)
          c.in-Ok-put_split.put.1 (Ok c.in-Ok-renew.field-0) (knows c.renew.new.self).groups (knows c.renew.new.self).index c.renew.ensures.groups
          (subst (λ (i : IndexPasses). IndexCall (RenewsSplit b.job c.args.name.now c.in-Ok-put_split.put.1 (Ok c.in-Ok-renew.field-0)) i (knows c.renew.new.self).index) index (tied_at same3 c.in-Ok-renew.ensures));
    }

pub returns-in-Ok-renew-clause-says : goal.returns-in-Ok-renew-clause-says
returns-in-Ok-renew-clause-says g c = λ alone s set mends filled draws.
    let s0 = c.args.connection.now in
    let b = bound s0 in
    let g0 = (knows s0).groups in
    let g1 = (knows c.find.new.self).groups in
    let read = groups_at c.find.ensures.same c.in-Ok-read_kept.ensures.read in
    let g2 = (knows c.read_kept.new.connection).groups in
    let same2 = c.read_kept.ensures.read.same ∙ c.find.ensures.same in
    let g3 = (knows c.put_split.new.connection).groups in
    let index = c.put_split.ensures.worked.index ∙ c.read_kept.ensures.read.index in
    let same3 = c.put_split.ensures.worked.same ∙ same2 in
    let few : length c.in-Ok.kept.older < 15 = (let x = ap length c.as_slice.ensures.value in let y = c.if-as_slice-eq-MOST_OLDER.false in let most = c.as_slice.ensures.few in omega (arith, x, y, most)) in
    renewed_row b.job c.args.name.now b.vault.rack b.vault.groups b.vault.index g0 g1 g2 (knows s0).index (knows c.find.new.self).index
    c.in-Ok.kept s0.ready s0.whole s0.index_ready c.find.ensures.groups c.in-Ok.ensures.is read.visits read.reads
    (ready_at c.read_kept.new.connection same2) g3 (ready_at c.put_split.new.connection same3) (groups_at same2 c.put_split.ensures.worked) (index_at c.find.new.self c.find.ensures.same)
    c.in-Ok-put_split.put.1 (Ok c.in-Ok-renew.field-0) (knows c.renew.new.self).groups (knows c.renew.new.self).index c.renew.ensures.groups
    (subst (λ (i : IndexPasses). IndexCall (RenewsSplit b.job c.args.name.now c.in-Ok-put_split.put.1 (Ok c.in-Ok-renew.field-0)) i (knows c.renew.new.self).index) index (tied_at same3 c.in-Ok-renew.ensures))
    alone s set mends filled c.in-Ok-read_kept.file read.ends few c.args.geometry.now c.args.pads draws c.in-Ok-put_split.put.0
    (made_split b.vault.rack c.args.geometry.now b.job c.in-Ok-read_kept.file.items c.args.pads c.in-Ok-put_split.put g2 g3
    (subst (λ (f : List ℕ). PutsSplit b.vault.rack c.args.geometry.now b.job f c.args.pads (Ok c.in-Ok-put_split.put) g2 g3) c.deref.ensures.value
    (subst (λ (x : Bound). PutsSplit x.vault.rack c.args.geometry.now x.job c.deref.result.now c.args.pads (Ok c.in-Ok-put_split.put) g2 g3) same2 c.in-Ok-put_split.ensures.puts)))
    c.in-Ok-renew.field-0 refl

pub returns-in-Ok-renew-clause-blinds : goal.returns-in-Ok-renew-clause-blinds
returns-in-Ok-renew-clause-blinds g c =
    let s0 = c.args.connection.now in
    let b = bound s0 in
    let g0 = (knows s0).groups in
    let g1 = (knows c.find.new.self).groups in
    let read = groups_at c.find.ensures.same c.in-Ok-read_kept.ensures.read in
    let g2 = (knows c.read_kept.new.connection).groups in
    let same2 = c.read_kept.ensures.read.same ∙ c.find.ensures.same in
    let g3 = (knows c.put_split.new.connection).groups in
    let index = c.put_split.ensures.worked.index ∙ c.read_kept.ensures.read.index in
    let same3 = c.put_split.ensures.worked.same ∙ same2 in
    quiet_then (none_known b.job b.vault.rack b.vault.groups g0 g1 s0.ready c.find.ensures.groups)
    (then_quiet (groups_at c.find.ensures.same c.read_kept.ensures.blinds)
    (none_more b.job g2 g3 (knows c.renew.new.self).groups (none_split b.vault.rack c.args.geometry.now b.job c.deref.result.now c.args.pads g2 g3 (groups_at same2 c.put_split.ensures.worked) c.put_split.result
    (subst (λ (x : Bound). PutsSplit x.vault.rack c.args.geometry.now x.job c.deref.result.now c.args.pads c.put_split.result g2 g3) same2 c.put_split.ensures.puts))
    (none_known b.job b.vault.rack b.vault.groups g3 (knows c.renew.new.self).groups (ready_at c.put_split.new.connection same3) c.renew.ensures.groups)))

pub returns-clause-worked : goal.returns-clause-worked
returns-clause-worked g c =
    let s0 = c.args.connection.now in
    let b = bound s0 in
    let g0 = (knows s0).groups in
    let g1 = (knows c.find.new.self).groups in
    let read = groups_at c.find.ensures.same c.in-Ok-read_kept.ensures.read in
    let g2 = (knows c.read_kept.new.connection).groups in
    let same2 = c.read_kept.ensures.read.same ∙ c.find.ensures.same in
    let g3 = (knows c.put_split.new.connection).groups in
    let index = c.put_split.ensures.worked.index ∙ c.read_kept.ensures.read.index in
    let same3 = c.put_split.ensures.worked.same ∙ same2 in
    record {
      same = c.renew.ensures.same ∙ same3;
      worked = renewed_work b.job c.args.name.now b.vault.rack b.vault.groups b.vault.index g0 g1 g2 (knows s0).index (knows c.find.new.self).index
          c.in-Ok.kept s0.ready s0.whole s0.index_ready c.find.ensures.groups c.in-Ok.ensures.is read.visits read.reads
          (ready_at c.read_kept.new.connection same2) g3 (ready_at c.put_split.new.connection same3) (groups_at same2 c.put_split.ensures.worked) (index_at c.find.new.self c.find.ensures.same)
          c.in-Ok-put_split.put.1 (Err c.in-Err-renew.fault) (knows c.renew.new.self).groups (knows c.renew.new.self).index c.renew.ensures.groups
          (subst (λ (i : IndexPasses). IndexCall (RenewsSplit b.job c.args.name.now c.in-Ok-put_split.put.1 (Err c.in-Err-renew.fault)) i (knows c.renew.new.self).index) index (tied_at same3 c.in-Err-renew.ensures));
    }

pub returns-clause-says : goal.returns-clause-says
returns-clause-says g c = λ alone s set mends filled draws.
    let s0 = c.args.connection.now in
    let b = bound s0 in
    let g0 = (knows s0).groups in
    let g1 = (knows c.find.new.self).groups in
    let read = groups_at c.find.ensures.same c.in-Ok-read_kept.ensures.read in
    let g2 = (knows c.read_kept.new.connection).groups in
    let same2 = c.read_kept.ensures.read.same ∙ c.find.ensures.same in
    let g3 = (knows c.put_split.new.connection).groups in
    let index = c.put_split.ensures.worked.index ∙ c.read_kept.ensures.read.index in
    let same3 = c.put_split.ensures.worked.same ∙ same2 in
    let few : length c.in-Ok.kept.older < 15 = (let x = ap length c.as_slice.ensures.value in let y = c.if-as_slice-eq-MOST_OLDER.false in let most = c.as_slice.ensures.few in omega (arith, x, y, most)) in
    subst (λ (e : RenewFileFault). RenewRow s b.job c.args.name.now c.args.geometry.now (Err e) (section_of (knows s0) (knows c.renew.new.self))) (sym c.of_renew.ensures)
    (unrenewed_row b.job c.args.name.now b.vault.rack b.vault.groups b.vault.index g0 g1 g2 (knows s0).index (knows c.find.new.self).index
    c.in-Ok.kept s0.ready s0.whole s0.index_ready c.find.ensures.groups c.in-Ok.ensures.is read.visits read.reads
    (ready_at c.read_kept.new.connection same2) g3 (ready_at c.put_split.new.connection same3) (groups_at same2 c.put_split.ensures.worked) (index_at c.find.new.self c.find.ensures.same)
    c.in-Ok-put_split.put.1 (Err c.in-Err-renew.fault) (knows c.renew.new.self).groups (knows c.renew.new.self).index c.renew.ensures.groups
    (subst (λ (i : IndexPasses). IndexCall (RenewsSplit b.job c.args.name.now c.in-Ok-put_split.put.1 (Err c.in-Err-renew.fault)) i (knows c.renew.new.self).index) index (tied_at same3 c.in-Err-renew.ensures))
    alone s set mends filled c.in-Ok-read_kept.file read.ends few c.args.geometry.now c.args.pads draws c.in-Ok-put_split.put.0
    (made_split b.vault.rack c.args.geometry.now b.job c.in-Ok-read_kept.file.items c.args.pads c.in-Ok-put_split.put g2 g3
    (subst (λ (f : List ℕ). PutsSplit b.vault.rack c.args.geometry.now b.job f c.args.pads (Ok c.in-Ok-put_split.put) g2 g3) c.deref.ensures.value
    (subst (λ (x : Bound). PutsSplit x.vault.rack c.args.geometry.now x.job c.deref.result.now c.args.pads (Ok c.in-Ok-put_split.put) g2 g3) same2 c.in-Ok-put_split.ensures.puts)))
    c.in-Err-renew.fault refl)

pub returns-clause-blinds : goal.returns-clause-blinds
returns-clause-blinds g c =
    let s0 = c.args.connection.now in
    let b = bound s0 in
    let g0 = (knows s0).groups in
    let g1 = (knows c.find.new.self).groups in
    let read = groups_at c.find.ensures.same c.in-Ok-read_kept.ensures.read in
    let g2 = (knows c.read_kept.new.connection).groups in
    let same2 = c.read_kept.ensures.read.same ∙ c.find.ensures.same in
    let g3 = (knows c.put_split.new.connection).groups in
    let index = c.put_split.ensures.worked.index ∙ c.read_kept.ensures.read.index in
    let same3 = c.put_split.ensures.worked.same ∙ same2 in
    quiet_then (none_known b.job b.vault.rack b.vault.groups g0 g1 s0.ready c.find.ensures.groups)
    (then_quiet (groups_at c.find.ensures.same c.read_kept.ensures.blinds)
    (none_more b.job g2 g3 (knows c.renew.new.self).groups (none_split b.vault.rack c.args.geometry.now b.job c.deref.result.now c.args.pads g2 g3 (groups_at same2 c.put_split.ensures.worked) c.put_split.result
    (subst (λ (x : Bound). PutsSplit x.vault.rack c.args.geometry.now x.job c.deref.result.now c.args.pads c.put_split.result g2 g3) same2 c.put_split.ensures.puts))
    (none_known b.job b.vault.rack b.vault.groups g3 (knows c.renew.new.self).groups (ready_at c.put_split.new.connection same3) c.renew.ensures.groups)))

pub returns-in-Err-clause-blinds : goal.returns-in-Err-clause-blinds
returns-in-Err-clause-blinds g c =
    let s0 = c.args.connection.now in
    let b = bound s0 in
    let g0 = (knows s0).groups in
    let g1 = (knows c.find.new.self).groups in
    blinds_quiet (none_known b.job b.vault.rack b.vault.groups g0 g1 s0.ready c.find.ensures.groups)

pub returns-then-as_slice-eq-MOST_OLDER-clause-blinds : goal.returns-then-as_slice-eq-MOST_OLDER-clause-blinds
returns-then-as_slice-eq-MOST_OLDER-clause-blinds g c =
    let s0 = c.args.connection.now in
    let b = bound s0 in
    let g0 = (knows s0).groups in
    let g1 = (knows c.find.new.self).groups in
    blinds_quiet (none_known b.job b.vault.rack b.vault.groups g0 g1 s0.ready c.find.ensures.groups)

pub returns-in-Err-read_kept-clause-blinds : goal.returns-in-Err-read_kept-clause-blinds
returns-in-Err-read_kept-clause-blinds g c =
    let s0 = c.args.connection.now in
    let b = bound s0 in
    let g0 = (knows s0).groups in
    let g1 = (knows c.find.new.self).groups in
    quiet_then (none_known b.job b.vault.rack b.vault.groups g0 g1 s0.ready c.find.ensures.groups) (groups_at c.find.ensures.same c.read_kept.ensures.blinds)

pub returns-in-Err-put_split-clause-blinds : goal.returns-in-Err-put_split-clause-blinds
returns-in-Err-put_split-clause-blinds g c =
    let s0 = c.args.connection.now in
    let b = bound s0 in
    let g0 = (knows s0).groups in
    let g1 = (knows c.find.new.self).groups in
    let read = groups_at c.find.ensures.same c.in-Ok-read_kept.ensures.read in
    let g2 = (knows c.read_kept.new.connection).groups in
    let same2 = c.read_kept.ensures.read.same ∙ c.find.ensures.same in
    let g3 = (knows c.put_split.new.connection).groups in
    let index = c.put_split.ensures.worked.index ∙ c.read_kept.ensures.read.index in
    quiet_then (none_known b.job b.vault.rack b.vault.groups g0 g1 s0.ready c.find.ensures.groups)
    (then_quiet (groups_at c.find.ensures.same c.read_kept.ensures.blinds)
    (none_split b.vault.rack c.args.geometry.now b.job c.deref.result.now c.args.pads g2 g3 (groups_at same2 c.put_split.ensures.worked) c.put_split.result
    (subst (λ (x : Bound). PutsSplit x.vault.rack c.args.geometry.now x.job c.deref.result.now c.args.pads c.put_split.result g2 g3) same2 c.put_split.ensures.puts)))
