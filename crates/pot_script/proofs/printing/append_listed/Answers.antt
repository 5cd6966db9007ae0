use Rattle.std.proofs.Common.{sym, ◌∙◌, arith}
use Rattle.std.proofs.lemmas.Grind.{common_steps}
use Rattle.std.specs.Prelude.{vec_capacity}
use Rattle.pot_script.specs.Replies.{listed_text}
use Rattle.pot_script.proofs.Texts.{fact_of_err, cut_off, no_room}
use Rattle.pot_script.proofs.printing.append_listed.Goals as goal

pub returns-then-is_err : goal.returns-then-is_err
returns-then-is_err c =
    let failed = sym c.is_err.ensures.value ∙ c.if-is_err.true in
    let same = fact_of_err c.print_listed.result failed c.print_listed.ensures.err in
    let full = fact_of_err c.print_listed.result failed c.print_listed.ensures.full in
    record {
      ok = tt;
      err = rw c.truncate.ensures.items (cut_off c.args.out.now.items _ c.print_listed.new.out.items c.len-start.result (grind (arith, common_steps)) (same ∙ c.loop-listed.invariant.appended));
      full = no_room listed_text c.args.out.now.items c.loop-listed.out.items c.args.names.now c.loop-listed.listed-index c.listed-item.result (vec_capacity c.args.out.now) (vec_capacity c.loop-listed.out) c.loop-listed-test.true c.loop-listed.invariant.appended c.loop-listed.invariant.capacity (rw (sym c.listed-item.is) full);
      capacity = rw c.truncate.ensures.capacity (omega (arith, c.print_listed.ensures.capacity, c.loop-listed.invariant.capacity));
    }
