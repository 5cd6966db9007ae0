use Rattle.std.proofs.Common.{◌≡◌, ◌∙◌, true, sym, subst}
use Rattle.pot_replies.specs.Settings.{Setting}
use Rattle.pot_shared.specs.Connections.{bound, knows}
use Rattle.pot_shared.specs.Works.{known, section_of, JobWroteOnly, JobOnlyWriter, IsSettingOf}
use Rattle.pot_shared.proofs.BlindLemmas.{blinds_quiet, none_known, quiet_then}
use Rattle.pot_shared.proofs.ConnectionLemmas.{groups_at}
use Rattle.pot_store.specs.Fetches.{AreFilled, FetchRow}
use Rattle.pot_store.proofs.SearchLemmas.{lone_work, absent_row, silent_row, index_full_row}
use Rattle.pot_store.proofs.FetchLemmas.{all_work, record_row}
use Rattle.pot_store.proofs.fetching.fetch_file.Goals as goal

pub returns-in-Ok-clause-worked : goal.returns-in-Ok-clause-worked
returns-in-Ok-clause-worked g c =
    let s0 = c.args.connection.now in
    let b = bound s0 in
    let read = groups_at c.find.ensures.same c.read_kept.ensures.read in
    let new = knows c.read_kept.new.connection in
    record {
      same = c.read_kept.ensures.read.same ∙ c.find.ensures.same;
      worked = subst (λ i. JobWroteOnly b.job (knows s0) (known new.groups i)) (sym c.read_kept.ensures.read.index)
          (all_work b.job c.args.name.now b.vault.rack b.vault.groups b.vault.index (knows s0).groups (knows c.find.new.self).groups new.groups (knows s0).index (knows c.find.new.self).index
          c.in-Ok.kept s0.ready s0.whole s0.index_ready c.find.ensures.groups c.in-Ok.ensures.is read.visits read.reads);
    }

pub returns-in-Ok-clause-says : goal.returns-in-Ok-clause-says
returns-in-Ok-clause-says g c =
    let s0 = c.args.connection.now in
    let b = bound s0 in
    let read = groups_at c.find.ensures.same c.read_kept.ensures.read in
    let new = knows c.read_kept.new.connection in
    subst (λ i. JobOnlyWriter b.job (knows s0) (known new.groups i) → (s : Setting) → IsSettingOf s b.vault.rack (knows s0) → s.mends ≡ true → AreFilled s
    → FetchRow s b.job c.args.name.now c.read_kept.result (section_of (knows s0) (known new.groups i))) (sym c.read_kept.ensures.read.index)
    (λ alone s set mends filled. record_row b.job c.args.name.now b.vault.rack b.vault.groups b.vault.index (knows s0).groups (knows c.find.new.self).groups new.groups (knows s0).index (knows c.find.new.self).index
    c.in-Ok.kept s0.ready s0.whole s0.index_ready c.find.ensures.groups c.in-Ok.ensures.is read.visits read.reads
    alone s set mends filled c.read_kept.result read.ends)

pub returns-in-Err-LogFull-clause-worked : goal.returns-in-Err-LogFull-clause-worked
returns-in-Err-LogFull-clause-worked g c =
    let s0 = c.args.connection.now in
    let b = bound s0 in
    record {
      same = c.find.ensures.same;
      worked = lone_work b.job c.args.name.now b.vault.rack b.vault.groups b.vault.index (knows s0).groups (knows c.find.new.self).groups (knows s0).index (knows c.find.new.self).index c.in-Err-LogFull.field-0 s0.ready s0.index_ready c.find.ensures.groups c.in-Err-LogFull.ensures.is;
    }

pub returns-in-Err-LogFull-clause-says : goal.returns-in-Err-LogFull-clause-says
returns-in-Err-LogFull-clause-says g c = λ alone s set mends filled.
    let s0 = c.args.connection.now in
    let b = bound s0 in
    index_full_row b.job c.args.name.now b.vault.rack b.vault.groups b.vault.index (knows s0).groups (knows c.find.new.self).groups (knows s0).index (knows c.find.new.self).index c.in-Err-LogFull.field-0 s0.ready s0.index_ready c.find.ensures.groups c.in-Err-LogFull.ensures.is
    alone c.in-Err-LogFull.field-0-is s set

pub returns-in-Err-LogFull-clause-blinds : goal.returns-in-Err-LogFull-clause-blinds
returns-in-Err-LogFull-clause-blinds g c =
    let s0 = c.args.connection.now in
    let b = bound s0 in
    blinds_quiet (none_known b.job b.vault.rack b.vault.groups (knows s0).groups (knows c.find.new.self).groups s0.ready c.find.ensures.groups)

pub returns-in-Err-Absent-clause-worked : goal.returns-in-Err-Absent-clause-worked
returns-in-Err-Absent-clause-worked g c =
    let s0 = c.args.connection.now in
    let b = bound s0 in
    record {
      same = c.find.ensures.same;
      worked = lone_work b.job c.args.name.now b.vault.rack b.vault.groups b.vault.index (knows s0).groups (knows c.find.new.self).groups (knows s0).index (knows c.find.new.self).index c.in-Err-Absent.field-0 s0.ready s0.index_ready c.find.ensures.groups c.in-Err-Absent.ensures.is;
    }

pub returns-in-Err-Absent-clause-says : goal.returns-in-Err-Absent-clause-says
returns-in-Err-Absent-clause-says g c = λ alone s set mends filled.
    let s0 = c.args.connection.now in
    let b = bound s0 in
    absent_row b.job c.args.name.now b.vault.rack b.vault.groups b.vault.index (knows s0).groups (knows c.find.new.self).groups (knows s0).index (knows c.find.new.self).index c.in-Err-Absent.field-0 s0.ready s0.index_ready c.find.ensures.groups c.in-Err-Absent.ensures.is
    alone c.in-Err-Absent.field-0-is

pub returns-in-Err-Absent-clause-blinds : goal.returns-in-Err-Absent-clause-blinds
returns-in-Err-Absent-clause-blinds g c =
    let s0 = c.args.connection.now in
    let b = bound s0 in
    blinds_quiet (none_known b.job b.vault.rack b.vault.groups (knows s0).groups (knows c.find.new.self).groups s0.ready c.find.ensures.groups)

pub returns-in-Err-NoMemory-clause-worked : goal.returns-in-Err-NoMemory-clause-worked
returns-in-Err-NoMemory-clause-worked g c =
    let s0 = c.args.connection.now in
    let b = bound s0 in
    record {
      same = c.find.ensures.same;
      worked = lone_work b.job c.args.name.now b.vault.rack b.vault.groups b.vault.index (knows s0).groups (knows c.find.new.self).groups (knows s0).index (knows c.find.new.self).index c.in-Err-NoMemory.field-0 s0.ready s0.index_ready c.find.ensures.groups c.in-Err-NoMemory.ensures.is;
    }

pub returns-in-Err-NoMemory-clause-says : goal.returns-in-Err-NoMemory-clause-says
returns-in-Err-NoMemory-clause-says g c = λ alone s set mends filled.
    let s0 = c.args.connection.now in
    let b = bound s0 in
    silent_row b.job c.args.name.now b.vault.rack b.vault.groups b.vault.index (knows s0).groups (knows c.find.new.self).groups (knows s0).index (knows c.find.new.self).index c.in-Err-NoMemory.field-0 s0.ready s0.index_ready c.find.ensures.groups c.in-Err-NoMemory.ensures.is
    alone c.in-Err-NoMemory.field-0-is s

pub returns-in-Err-NoMemory-clause-blinds : goal.returns-in-Err-NoMemory-clause-blinds
returns-in-Err-NoMemory-clause-blinds g c =
    let s0 = c.args.connection.now in
    let b = bound s0 in
    blinds_quiet (none_known b.job b.vault.rack b.vault.groups (knows s0).groups (knows c.find.new.self).groups s0.ready c.find.ensures.groups)

pub returns-in-Ok-clause-blinds : goal.returns-in-Ok-clause-blinds
returns-in-Ok-clause-blinds g c =
    let s0 = c.args.connection.now in
    let b = bound s0 in
    quiet_then (none_known b.job b.vault.rack b.vault.groups (knows s0).groups (knows c.find.new.self).groups s0.ready c.find.ensures.groups)
    (groups_at c.find.ensures.same c.read_kept.ensures.blinds)
