use Rattle.std.proofs.Common.{◌∙◌, ◌++◌, length, ap, sym}
use Rattle.std.specs.Vec.Iter.{into_iter_items, into_iter_len}
use Rattle.pot_bytes.specs.declared.rack.Rack.{Rack}
use Rattle.pot_script.proofs.StepLemmas.{enough, takes_batch}
use Rattle.pot_script.proofs.grouping.next_step.Goals as goal

pub take_lines-requires : goal.take_lines-requires
take_lines-requires c = enough c.requires.whole.0 c.args.command c.in-Together.count _ c.in-Together.is c.requires.whole.1 c.requires.whole.2

pub returns-in_ok-lines-in-Together : goal.returns-in_ok-lines-in-Together
returns-in_ok-lines-in-Together c =
    let lines = c.in_ok-lines-in-Together.ensures in
    let takes = λ (rack : Rack).
    takes_batch rack c.args.command c.in-Together.count (into_iter_items c.args.behind.now) c.from_vec.result (into_iter_items c.take_lines.new.commands) (into_iter_items c.next-end.new.self)
    c.next-end.result (into_iter_len c.take_lines.new.commands) c.in-Together.is (ap length c.from_vec.ensures ∙ lines.count)
    (lines.taken ∙ ap (λ l. l ++ into_iter_items c.take_lines.new.commands) (sym c.from_vec.ensures)) c.take_lines.new.commands.rest.ok.0 c.next-end.ensures.variant c.next-end.ensures.items in
    let here = takes c.requires.whole.0 c.requires.whole.1 c.requires.whole.2 in
    record {
      spelled = here.spelled;
      closed = here.closed;
      whole = λ rack are. (let there = takes rack are c.requires.whole.2 in (there.whole, there.others));
    }
