use Rattle.std.proofs.Common.{◌++◌}
use Rattle.std.specs.Prelude.{codes}
use Rattle.pot_outside.specs.Accounts.{transition}
use Rattle.pot_session.specs.Listing.{file_line, parts_of}
use Rattle.pot_session.proofs.ListingLemmas.{begun_behind, begun_longer, puts_behind, written_behind}
use Rattle.pot_session.proofs.recovery.listing.put_whole.Goals as goal

pub returns-in-Err-clause-puts : goal.returns-in-Err-clause-puts
returns-in-Err-clause-puts g c = λ told.
    begun_longer _ _ (file_line c.args.object.now ++ parts_of c.args.found.now c.args.object.now) (codes "\n")
    (begun_longer _ _ (file_line c.args.object.now) (parts_of c.args.found.now c.args.object.now) (c.in-Err.ensures.puts (file_line c.args.object.now) c.file_line.ensures told))

pub returns-in-Ok-put_parts-clause-puts : goal.returns-in-Ok-put_parts-clause-puts
returns-in-Ok-put_parts-clause-puts g c =
    puts_behind (transition g.K.Sink.account c.args.sink.now c.put.new.sink) (g.K.Sink.account.meaning c.put_parts.new.sink).held
    (file_line c.args.object.now ++ parts_of c.args.found.now c.args.object.now) (codes "\n") c.put.result
    (λ told. written_behind _ _ _ (file_line c.args.object.now) (parts_of c.args.found.now c.args.object.now)
    (c.in-Ok.ensures.puts (file_line c.args.object.now) c.file_line.ensures told) (c.in-Ok-put_parts.ensures.puts told))
    c.put.ensures.puts

pub returns-in-Err-put_parts-clause-puts : goal.returns-in-Err-put_parts-clause-puts
returns-in-Err-put_parts-clause-puts g c = λ told.
    begun_longer _ _ (file_line c.args.object.now ++ parts_of c.args.found.now c.args.object.now) (codes "\n")
    (begun_behind _ _ _ (file_line c.args.object.now) (parts_of c.args.found.now c.args.object.now)
    (c.in-Ok.ensures.puts (file_line c.args.object.now) c.file_line.ensures told) (c.in-Err-put_parts.ensures.puts told))
