use Rattle.std.proofs.Common.{◌∙◌, ap, sym, subst}
use Rattle.std.specs.Prelude.{Ok, Err}
use Rattle.pot_bytes.specs.declared.rack.Rack.{Rack}
use Rattle.pot_index.specs.declared.fault.ReserveFault.{ReserveFault}
use Rattle.pot_index.specs.declared.fault.ReserveFault.TheVariants as reserve_fault
use Rattle.pot_index.specs.declared.record.Record.{Record}
use Rattle.pot_index.specs.Fits.{FitsRack}
use Rattle.pot_shared.specs.IndexCalls.{IndexCall, HasReserved, ReservesName, PublishesRecord}
use Rattle.pot_shared.specs.Seen.{SeesFile}
use Rattle.pot_shared.specs.Connections.{InIndex, InTied, job_of, knows, rack_of}
use Rattle.pot_shared.specs.Works.{section_of}
use Rattle.pot_store.specs.Stores.{StoreRow, record_of}
use Rattle.pot_store.proofs.StoreSteps.{unreserved_work, unreserved_row, reserved, published_worked, not_published, abandoned_worked, not_abandoned, fits_there, sees_there, stored, given_up}
use Rattle.pot_store.proofs.storing.store_file.Goals as goal

pub returns-in-Err-LogFull-clause-worked : goal.returns-in-Err-LogFull-clause-worked
returns-in-Err-LogFull-clause-worked g c = unreserved_work c.args.name.now c.args.file.now c.args.connection.now c.reserve.new.self c.in-Err-LogFull.field-0 c.in-Err-LogFull.ensures

pub returns-in-Err-LogFull-clause-says : goal.returns-in-Err-LogFull-clause-says
returns-in-Err-LogFull-clause-says g c = λ alone s set draws.
    unreserved_row c.args.name.now c.args.file.now c.args.connection.now c.reserve.new.self c.in_ok-pieces.ensures.planned.short s set reserve_fault.LogFull
    (subst (λ (e : ReserveFault). InIndex (λ b. IndexCall (ReservesName b.job c.args.name.now (Err e))) c.args.connection.now c.reserve.new.self) c.in-Err-LogFull.field-0-is c.in-Err-LogFull.ensures) alone

pub returns-in-Err-Exists-clause-worked : goal.returns-in-Err-Exists-clause-worked
returns-in-Err-Exists-clause-worked g c = unreserved_work c.args.name.now c.args.file.now c.args.connection.now c.reserve.new.self c.in-Err-Exists.field-0 c.in-Err-Exists.ensures

pub returns-in-Err-Exists-clause-says : goal.returns-in-Err-Exists-clause-says
returns-in-Err-Exists-clause-says g c = λ alone s set draws.
    unreserved_row c.args.name.now c.args.file.now c.args.connection.now c.reserve.new.self c.in_ok-pieces.ensures.planned.short s set reserve_fault.Exists
    (subst (λ (e : ReserveFault). InIndex (λ b. IndexCall (ReservesName b.job c.args.name.now (Err e))) c.args.connection.now c.reserve.new.self) c.in-Err-Exists.field-0-is c.in-Err-Exists.ensures) alone

pub returns-in-Err-NoMemory-clause-worked : goal.returns-in-Err-NoMemory-clause-worked
returns-in-Err-NoMemory-clause-worked g c = unreserved_work c.args.name.now c.args.file.now c.args.connection.now c.reserve.new.self c.in-Err-NoMemory.field-0 c.in-Err-NoMemory.ensures

pub returns-in-Err-NoMemory-clause-says : goal.returns-in-Err-NoMemory-clause-says
returns-in-Err-NoMemory-clause-says g c = λ alone s set draws.
    unreserved_row c.args.name.now c.args.file.now c.args.connection.now c.reserve.new.self c.in_ok-pieces.ensures.planned.short s set reserve_fault.NoMemory
    (subst (λ (e : ReserveFault). InIndex (λ b. IndexCall (ReservesName b.job c.args.name.now (Err e))) c.args.connection.now c.reserve.new.self) c.in-Err-NoMemory.field-0-is c.in-Err-NoMemory.ensures) alone

pub publish-requires-clause-reserved : goal.publish-requires-clause-reserved
publish-requires-clause-reserved g c =
    subst (λ (r : Record). HasReserved (job_of c.put_all.new.connection) r.name (knows c.put_all.new.connection).index) (sym c.record_of-kept.ensures) (reserved c.args.name.now c.args.file.now c.args.connection.now c.reserve.new.self c.put_all.new.connection c.in-Ok.field-0 c.in-Ok.ensures c.put_all.ensures.worked)

pub publish-requires-clause-fits : goal.publish-requires-clause-fits
publish-requires-clause-fits g c =
    subst (λ (r : Record). FitsRack (rack_of c.put_all.new.connection) r) (sym (c.record_of-kept.ensures ∙ ap (λ (r : Rack). record_of c.args.name.now c.args.file.now r.geometry c.put_all.new.places.items) c.rack-rack.ensures))
    (fits_there c.args.name.now c.args.file.now c.args.connection.now c.reserve.new.self c.put_all.new.connection c.in-Ok.field-0 c.in-Ok.ensures c.put_all.ensures.worked
    c.args.pads c.in_ok-pieces.field-0.pieces c.in_ok-pieces.field-0.shards c.rack-rack.result.now.geometry c.in_ok-pieces.field-0.drawing c.in_ok-pieces.field-0.places.items (ap (λ (r : Rack). r.geometry) c.rack-rack.ensures) c.in_ok-pieces.ensures.planned c.put_all.new.places.items c.in-Ok-put_all.ensures.put)

pub publish-requires-clause-seen : goal.publish-requires-clause-seen
publish-requires-clause-seen g c =
    subst (λ (r : Record). SeesFile (knows c.put_all.new.connection).groups r) (sym (c.record_of-kept.ensures ∙ ap (λ (r : Rack). record_of c.args.name.now c.args.file.now r.geometry c.put_all.new.places.items) c.rack-rack.ensures))
    (sees_there c.args.name.now c.args.file.now c.args.connection.now c.reserve.new.self c.put_all.new.connection c.in-Ok.field-0 c.in-Ok.ensures c.put_all.ensures.worked
    c.args.pads c.in_ok-pieces.field-0.pieces c.in_ok-pieces.field-0.shards c.rack-rack.result.now.geometry c.in_ok-pieces.field-0.drawing c.in_ok-pieces.field-0.places.items (ap (λ (r : Rack). r.geometry) c.rack-rack.ensures) c.in_ok-pieces.ensures.planned c.put_all.new.places.items c.in-Ok-put_all.ensures.put (λ i. (c.type_inv.file i).fits))

pub publish-requires-clause-once : goal.publish-requires-clause-once
publish-requires-clause-once g c = ap (λ (r : Record). r.older) c.record_of-kept.ensures

pub returns-in-Ok-publish-clause-worked : goal.returns-in-Ok-publish-clause-worked
returns-in-Ok-publish-clause-worked g c =
    published_worked c.args.name.now c.args.file.now c.args.connection.now c.reserve.new.self c.put_all.new.connection c.in-Ok.field-0 c.in-Ok.ensures c.put_all.ensures.worked
    c.record_of-kept.result (Ok c.in-Ok-publish.field-0) c.publish.new.self (ap (λ (r : Record). r.name) c.record_of-kept.ensures) c.in-Ok-publish.ensures

pub returns-in-Ok-publish-clause-says : goal.returns-in-Ok-publish-clause-says
returns-in-Ok-publish-clause-says g c =
    stored c.args.name.now c.args.file.now c.args.connection.now c.reserve.new.self c.put_all.new.connection c.in-Ok.field-0 c.in-Ok.ensures c.put_all.ensures.worked
    c.args.pads c.in_ok-pieces.field-0.pieces c.in_ok-pieces.field-0.shards c.rack-rack.result.now.geometry c.in_ok-pieces.field-0.drawing c.in_ok-pieces.field-0.places.items (ap (λ (r : Rack). r.geometry) c.rack-rack.ensures) c.in_ok-pieces.ensures.planned c.put_all.new.places.items c.in-Ok-put_all.ensures.put (λ i. (c.type_inv.file i).fits)
    c.in-Ok-publish.field-0 c.publish.new.self
    (subst (λ (r : Record). InTied (λ b row. IndexCall (PublishesRecord b.job r (Ok c.in-Ok-publish.field-0))) c.put_all.new.connection c.publish.new.self) (c.record_of-kept.ensures ∙ ap (λ (r : Rack). record_of c.args.name.now c.args.file.now r.geometry c.put_all.new.places.items) c.rack-rack.ensures) c.in-Ok-publish.ensures)

pub returns-in-Ok-put_all-clause-worked : goal.returns-in-Ok-put_all-clause-worked
returns-in-Ok-put_all-clause-worked g c =
    published_worked c.args.name.now c.args.file.now c.args.connection.now c.reserve.new.self c.put_all.new.connection c.in-Ok.field-0 c.in-Ok.ensures c.put_all.ensures.worked
    c.record_of-kept.result (Err c.in-Err-publish.field-0) c.publish.new.self (ap (λ (r : Record). r.name) c.record_of-kept.ensures) c.in-Err-publish.ensures

pub returns-in-Ok-put_all-clause-says : goal.returns-in-Ok-put_all-clause-says
returns-in-Ok-put_all-clause-says g c = λ alone s set draws.
    not_published c.args.name.now c.args.file.now c.args.connection.now c.reserve.new.self c.put_all.new.connection c.in-Ok.field-0 c.in-Ok.ensures c.put_all.ensures.worked
    c.record_of-kept.result c.in-Err-publish.field-0 c.publish.new.self (ap (λ (r : Record). r.name) c.record_of-kept.ensures) c.in-Err-publish.ensures alone

pub abandon-requires : goal.abandon-requires
abandon-requires g c = reserved c.args.name.now c.args.file.now c.args.connection.now c.reserve.new.self c.put_all.new.connection c.in-Ok.field-0 c.in-Ok.ensures c.put_all.ensures.worked

pub returns-in-Ok-abandon-clause-worked : goal.returns-in-Ok-abandon-clause-worked
returns-in-Ok-abandon-clause-worked g c =
    abandoned_worked c.args.name.now c.args.file.now c.args.connection.now c.reserve.new.self c.put_all.new.connection c.in-Ok.field-0 c.in-Ok.ensures c.put_all.ensures.worked (Ok c.in-Ok-abandon.field-0) c.abandon.new.self c.in-Ok-abandon.ensures

pub returns-in-Ok-abandon-clause-says : goal.returns-in-Ok-abandon-clause-says
returns-in-Ok-abandon-clause-says g c = λ alone s set draws.
    subst (λ e. StoreRow s (job_of c.args.connection.now) c.args.name.now c.args.file.now (Err e) (section_of (knows c.args.connection.now) (knows c.abandon.new.self))) (sym c.fault_of.ensures)
    (given_up c.args.name.now c.args.file.now c.args.connection.now c.reserve.new.self c.put_all.new.connection c.in-Ok.field-0 c.in-Ok.ensures c.put_all.ensures.worked
    c.args.pads c.in_ok-pieces.field-0.pieces c.in_ok-pieces.field-0.shards c.rack-rack.result.now.geometry c.in_ok-pieces.field-0.drawing c.in_ok-pieces.field-0.places.items (ap (λ (r : Rack). r.geometry) c.rack-rack.ensures) c.in_ok-pieces.ensures.planned c.in-Err.stopped.group c.in-Err.stopped.cause c.in-Err.ensures.ends
    c.in-Ok-abandon.field-0 c.abandon.new.self c.in-Ok-abandon.ensures alone s set draws)

pub returns-clause-worked : goal.returns-clause-worked
returns-clause-worked g c =
    abandoned_worked c.args.name.now c.args.file.now c.args.connection.now c.reserve.new.self c.put_all.new.connection c.in-Ok.field-0 c.in-Ok.ensures c.put_all.ensures.worked (Err c.in-Err-abandon.field-0) c.abandon.new.self c.in-Err-abandon.ensures

pub returns-clause-says : goal.returns-clause-says
returns-clause-says g c = λ alone s set draws.
    not_abandoned c.args.name.now c.args.file.now c.args.connection.now c.reserve.new.self c.put_all.new.connection c.in-Ok.field-0 c.in-Ok.ensures c.put_all.ensures.worked c.in-Err-abandon.field-0 c.abandon.new.self c.in-Err-abandon.ensures alone
