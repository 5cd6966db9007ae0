use Rattle.std.proofs.Common.{◌≡◌, ◌++◌, length, subst}
use Rattle.std.specs.Prelude.{IfOk, flat_map}
use Rattle.pot_outside.specs.Accounts.{transition}
use Rattle.pot_session.specs.Listing.{count_line, object_line, places_in, text_at}
use Rattle.pot_session.proofs.ListingLemmas.{begun_behind, begun_longer, puts_behind, written_behind}
use Rattle.pot_session.proofs.recovery.listing.put_listing.Goals as goal

pub returns-in-Err-clause-puts : goal.returns-in-Err-clause-puts
returns-in-Err-clause-puts g c = λ told.
    let found = c.args.found.now in
    begun_longer _ _ (count_line (length found) ++ flat_map object_line found) (flat_map (text_at found) (places_in found))
    (begun_longer _ _ (count_line (length found)) (flat_map object_line found)
    (c.in-Err.ensures.puts (count_line (length found)) (subst (λ n. IfOk c.count_line.result (λ v. v.items ≡ count_line n)) c.len.ensures c.count_line.ensures) told))

pub returns-in-Ok-put_objects-clause-puts : goal.returns-in-Ok-put_objects-clause-puts
returns-in-Ok-put_objects-clause-puts g c =
    let found = c.args.found.now in
    puts_behind (transition g.K.Sink.account c.args.sink.now c.put_files.new.sink) (g.K.Sink.account.meaning c.put_objects.new.sink).held
    (count_line (length found) ++ flat_map object_line found) (flat_map (text_at found) (places_in found)) c.put_files.result
    (λ told. written_behind _ _ _ (count_line (length found)) (flat_map object_line found)
    (c.in-Ok.ensures.puts (count_line (length found)) (subst (λ n. IfOk c.count_line.result (λ v. v.items ≡ count_line n)) c.len.ensures c.count_line.ensures) told)
    (c.in-Ok-put_objects.ensures.puts told))
    c.put_files.ensures.puts

pub returns-in-Err-put_objects-clause-puts : goal.returns-in-Err-put_objects-clause-puts
returns-in-Err-put_objects-clause-puts g c = λ told.
    let found = c.args.found.now in
    begun_longer _ _ (count_line (length found) ++ flat_map object_line found) (flat_map (text_at found) (places_in found))
    (begun_behind _ _ _ (count_line (length found)) (flat_map object_line found)
    (c.in-Ok.ensures.puts (count_line (length found)) (subst (λ n. IfOk c.count_line.result (λ v. v.items ≡ count_line n)) c.len.ensures c.count_line.ensures) told)
    (c.in-Err-put_objects.ensures.puts told))
