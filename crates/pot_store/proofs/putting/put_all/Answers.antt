use Rattle.std.proofs.Common.{rules, ◌≡◌, ◌<◌, ◌+◌, IsTrue, [], refl, ap, sym, ◌∙◌, subst, arith, length, slice_index_or}
use Rattle.std.specs.Prelude.{Some, slice_get}
use Rattle.pot_bytes.specs.declared.rack.Rack.{Rack}
use Rattle.pot_index.specs.Fits.{group_of}
use Rattle.pot_shard.proofs.PlaceLemmas.{place_laws}
use Rattle.pot_shared.specs.Connections.{bound, knows}
use Rattle.pot_shared.proofs.ConnectionLemmas.{group_in, groups_at, ready_at}
use Rattle.pot_store.specs.Drawing.{Drawn, all_blocks, count_of, random_from}
use Rattle.pot_store.specs.Puts.{ArePut}
use Rattle.pot_store.proofs.PublishLemmas.{get_some}
use Rattle.pot_store.proofs.StepLemmas.{put_one, puts_none}
use Rattle.pot_store.proofs.SawLemmas.{puts_seen}
use Rattle.pot_store.proofs.EndLemmas.{refused_work, puts_end}
use Rattle.pot_store.proofs.putting.put_all.Goals as goal

pub loop-number-init : goal.loop-number-init
loop-number-init g c = (
  let s = c.args.connection.now in record {
    same = refl;
    index = refl;
    is = subst (λ ps. ArePut (bound s).vault.rack c.args.geometry.now (bound s).job (all_blocks c.args.drawing.now) ps (knows s).groups (knows s).groups) (sym c.requires.room.0)
        (puts_none (bound s).vault.rack c.args.geometry.now (bound s).job (all_blocks c.args.drawing.now) (knows s).groups s.ready.idle);
  },
  ap length c.requires.room.0,
  ap (λ n. record c.args.drawing.now { next = n }) c.requires.first,
  c.requires.room.1,
)

pub returns-in-Err-clause-worked : goal.returns-in-Err-clause-worked
returns-in-Err-clause-worked g c =
    let b = bound c.args.connection.now in
    let sofar = c.loop-number.invariant in
    let saw = c.look_ahead.ensures.saw in
    let same = saw.same ∙ sofar.0.same in
    let ready = ready_at c.look_ahead.new.connection same in
    let lt = group_in c.args.connection.now refl c.rack-rack.result.now c.rack-rack.ensures c.group_of-group.result c.group_of-group.ensures.within in
    let puts = puts_seen (ready_at c.loop-number.connection sofar.0.same) ready saw.is sofar.0.is in
    record {
      same = c.put.ensures.same ∙ same;
      index = c.put.ensures.index ∙ (saw.index ∙ sofar.0.index);
      is = refused_work b.vault.rack b.vault.groups (IsTrue g.A.Archive.account.tells) b.job (knows c.args.connection.now).groups (knows c.look_ahead.new.connection).groups (knows c.put.new.self).groups c.group_of-group.result c.next-next.result.block.block
          c.in-Err.cause ready lt (groups_at same c.in-Err.ensures) puts.worked;
    }

pub returns-in-Err-clause-ends : goal.returns-in-Err-clause-ends
returns-in-Err-clause-ends g c =
    let b = bound c.args.connection.now in
    let sofar = c.loop-number.invariant in
    let saw = c.look_ahead.ensures.saw in
    let same = saw.same ∙ sofar.0.same in
    let ready = ready_at c.look_ahead.new.connection same in
    let lt = group_in c.args.connection.now refl c.rack-rack.result.now c.rack-rack.ensures c.group_of-group.result c.group_of-group.ensures.within in
    let puts = puts_seen (ready_at c.loop-number.connection sofar.0.same) ready saw.is sofar.0.is in
    let less : c.loop-number.number < c.args.count = search rules in
    let all : length (all_blocks c.args.drawing.now) ≡ count_of c.args.drawing.now = place_laws.count c.args.drawing.now.geometry c.args.drawing.now.file (random_from c.args.drawing.now.geometry c.args.drawing.now.file c.args.drawing.now.start) in
    let block : c.next-next.result.block.block ≡ slice_index_or (all_blocks c.args.drawing.now) c.loop-number.number [] =
    c.next-next.ensures.block ∙ (ap (λ (d : Drawn). slice_index_or (all_blocks d) d.next []) (c.look_ahead.ensures.drawing ∙ sofar.2)) in
    let is : slice_get (all_blocks c.args.drawing.now) (length c.loop-number.places.items) ≡ Some c.next-next.result.block.block =
    get_some (all_blocks c.args.drawing.now) (length c.loop-number.places.items) c.next-next.result.block.block []
    (let n = sofar.1 in let k = c.requires.count in omega (arith, less, all, n, k)) (block ∙ ap (λ n. slice_index_or (all_blocks c.args.drawing.now) n []) (sym sofar.1)) in
    let at : c.group_of-group.result ≡ group_of b.vault.rack c.args.geometry.now (length c.loop-number.places.items) =
    c.group_of-group.ensures.value ∙ ap (λ (r : Rack). group_of r c.args.geometry.now c.loop-number.number) c.rack-rack.ensures ∙ ap (λ n. group_of b.vault.rack c.args.geometry.now n) (sym sofar.1) in
    puts_end b.vault.rack c.args.geometry.now b.vault.groups (IsTrue g.A.Archive.account.tells) b.job (knows c.args.connection.now).groups (knows c.look_ahead.new.connection).groups (knows c.put.new.self).groups c.group_of-group.result c.next-next.result.block.block
    c.in-Err.cause ready lt (groups_at same c.in-Err.ensures) (all_blocks c.args.drawing.now) c.loop-number.places.items puts is at c.args.connection.now.ready.of.0

pub loop-number-preserved : goal.loop-number-preserved
loop-number-preserved g c =
    let b = bound c.args.connection.now in
    let sofar = c.loop-number.invariant in
    let saw = c.look_ahead.ensures.saw in
    let same = saw.same ∙ sofar.0.same in
    let ready = ready_at c.look_ahead.new.connection same in
    let lt = group_in c.args.connection.now refl c.rack-rack.result.now c.rack-rack.ensures c.group_of-group.result c.group_of-group.ensures.within in
    let puts = puts_seen (ready_at c.loop-number.connection sofar.0.same) ready saw.is sofar.0.is in
    let less : c.loop-number.number < c.args.count = search rules in
    let all : length (all_blocks c.args.drawing.now) ≡ count_of c.args.drawing.now = place_laws.count c.args.drawing.now.geometry c.args.drawing.now.file (random_from c.args.drawing.now.geometry c.args.drawing.now.file c.args.drawing.now.start) in
    let block : c.next-next.result.block.block ≡ slice_index_or (all_blocks c.args.drawing.now) c.loop-number.number [] =
    c.next-next.ensures.block ∙ (ap (λ (d : Drawn). slice_index_or (all_blocks d) d.next []) (c.look_ahead.ensures.drawing ∙ sofar.2)) in
    let is : slice_get (all_blocks c.args.drawing.now) (length c.loop-number.places.items) ≡ Some c.next-next.result.block.block =
    get_some (all_blocks c.args.drawing.now) (length c.loop-number.places.items) c.next-next.result.block.block []
    (let n = sofar.1 in let k = c.requires.count in omega (arith, less, all, n, k)) (block ∙ ap (λ n. slice_index_or (all_blocks c.args.drawing.now) n []) (sym sofar.1)) in
    let at : c.group_of-group.result ≡ group_of b.vault.rack c.args.geometry.now (length c.loop-number.places.items) =
    c.group_of-group.ensures.value ∙ ap (λ (r : Rack). group_of r c.args.geometry.now c.loop-number.number) c.rack-rack.ensures ∙ ap (λ n. group_of b.vault.rack c.args.geometry.now n) (sym sofar.1) in
    let more = put_one b.vault.rack c.args.geometry.now b.vault.groups (IsTrue g.A.Archive.account.tells) b.job (knows c.look_ahead.new.connection).groups (knows c.put.new.self).groups c.group_of-group.result c.next-next.result.block.block
    c.in-Ok.place ready lt (groups_at same c.in-Ok.ensures) (all_blocks c.args.drawing.now) c.loop-number.places.items (knows c.args.connection.now).groups puts is at in (
      record {
        same = c.put.ensures.same ∙ same;
        index = c.put.ensures.index ∙ (saw.index ∙ sofar.0.index);
        is = subst (λ ps. ArePut b.vault.rack c.args.geometry.now b.job (all_blocks c.args.drawing.now) ps (knows c.args.connection.now).groups (knows c.put.new.self).groups) (sym c.push_reserved.ensures.items) more;
      },
      search rules,
      c.note.ensures ∙ c.next-next.ensures.next ∙ ap (λ (d : Drawn). record d { next = d.next + 1 }) (c.look_ahead.ensures.drawing ∙ sofar.2),
      search rules,
    )
