use Rattle.std.proofs.Common.{sym, subst}
use Rattle.std.specs.Prelude.{Ok, Err}
use Rattle.pot_index.specs.declared.fault.ListFault.{ListFault}
use Rattle.pot_index.specs.declared.fault.ListFault.TheVariants as list_fault
use Rattle.pot_replies.specs.Listings.{AreNamesListed}
use Rattle.pot_shared.specs.IndexCalls.{IndexCall, ListsIndex}
use Rattle.pot_shared.specs.Connections.{bound, knows}
use Rattle.pot_shared.specs.Works.{section_of}
use Rattle.pot_commands.proofs.ListLemmas.{list_worked, list_says}
use Rattle.pot_commands.proofs.listing.list_names.Goals as goal

pub returns-in-Ok-clause-worked : goal.returns-in-Ok-clause-worked
returns-in-Ok-clause-worked g c =
    let s0 = c.args.connection.now in
    let s1 = c.names.new.self in
    let b = bound s0 in
    record { same = c.names.ensures.same; worked = list_worked b.vault.rack b.vault.groups b.vault.index b.job (knows s0).groups (knows s1).groups (knows s0).index (knows s1).index s0.ready s0.index_ready c.names.ensures.groups c.names.result c.names.ensures.is }

pub returns-in-Ok-clause-says : goal.returns-in-Ok-clause-says
returns-in-Ok-clause-says g c = λ alone s setting.
    let s0 = c.args.connection.now in
    let s1 = c.names.new.self in
    let b = bound s0 in
    subst (λ ns. AreNamesListed s b.job ns (section_of (knows s0) (knows s1))) (sym c.from_vec.ensures)
    (list_says b.vault.rack b.vault.groups b.vault.index b.job (knows s0).groups (knows s1).groups (knows s0).index (knows s1).index s0.ready s0.index_ready c.names.ensures.groups (Ok c.in-Ok.names) c.in-Ok.ensures.is alone s setting)

pub returns-in-Err-LogFull-clause-worked : goal.returns-in-Err-LogFull-clause-worked
returns-in-Err-LogFull-clause-worked g c =
    let s0 = c.args.connection.now in
    let s1 = c.names.new.self in
    let b = bound s0 in
    record { same = c.names.ensures.same; worked = list_worked b.vault.rack b.vault.groups b.vault.index b.job (knows s0).groups (knows s1).groups (knows s0).index (knows s1).index s0.ready s0.index_ready c.names.ensures.groups c.names.result c.names.ensures.is }

pub returns-in-Err-LogFull-clause-says : goal.returns-in-Err-LogFull-clause-says
returns-in-Err-LogFull-clause-says g c = λ alone s setting.
    let s0 = c.args.connection.now in
    let s1 = c.names.new.self in
    let b = bound s0 in
    list_says b.vault.rack b.vault.groups b.vault.index b.job (knows s0).groups (knows s1).groups (knows s0).index (knows s1).index s0.ready s0.index_ready c.names.ensures.groups (Err list_fault.LogFull)
    (subst (λ (e : ListFault). IndexCall (ListsIndex b.job (Err e)) (knows s0).index (knows s1).index) c.in-Err-LogFull.field-0-is c.in-Err-LogFull.ensures.is) alone s setting

pub returns-in-Err-NoMemory-clause-worked : goal.returns-in-Err-NoMemory-clause-worked
returns-in-Err-NoMemory-clause-worked g c =
    let s0 = c.args.connection.now in
    let s1 = c.names.new.self in
    let b = bound s0 in
    record { same = c.names.ensures.same; worked = list_worked b.vault.rack b.vault.groups b.vault.index b.job (knows s0).groups (knows s1).groups (knows s0).index (knows s1).index s0.ready s0.index_ready c.names.ensures.groups c.names.result c.names.ensures.is }

pub returns-in-Err-NoMemory-clause-says : goal.returns-in-Err-NoMemory-clause-says
returns-in-Err-NoMemory-clause-says g c = λ alone s setting.
    let s0 = c.args.connection.now in
    let s1 = c.names.new.self in
    let b = bound s0 in
    list_says b.vault.rack b.vault.groups b.vault.index b.job (knows s0).groups (knows s1).groups (knows s0).index (knows s1).index s0.ready s0.index_ready c.names.ensures.groups (Err list_fault.NoMemory)
    (subst (λ (e : ListFault). IndexCall (ListsIndex b.job (Err e)) (knows s0).index (knows s1).index) c.in-Err-NoMemory.field-0-is c.in-Err-NoMemory.ensures.is) alone s setting
