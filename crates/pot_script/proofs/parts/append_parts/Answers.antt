use Rattle.std.proofs.Common.{sym, ◌∙◌, arith}
use Rattle.std.proofs.lemmas.Grind.{common_steps}
use Rattle.std.specs.Prelude.{vec_capacity}
use Rattle.pot_script.specs.Parts.{part_text}
use Rattle.pot_script.proofs.Texts.{fact_of_err, cut_back, no_room}
use Rattle.pot_script.proofs.parts.append_parts.Goals as goal

pub returns-then-is_err : goal.returns-then-is_err
returns-then-is_err c =
    let failed = sym c.is_err.ensures.value ∙ c.if-is_err.true in
    let begins = fact_of_err c.append_part.result failed c.append_part.ensures.err in
    let full = fact_of_err c.append_part.result failed c.append_part.ensures.full in
    record {
      ok = tt;
      err = rw c.truncate.ensures.items (cut_back c.args.out.now.items _ c.loop-part.out.items c.append_part.new.out.items c.len-start.result (grind (arith, common_steps)) c.loop-part.invariant.appended begins);
      full = no_room part_text c.args.out.now.items c.loop-part.out.items c.args.parts.now c.loop-part.part-index _ (vec_capacity c.args.out.now) (vec_capacity c.loop-part.out) c.loop-part-test.true c.loop-part.invariant.appended c.loop-part.invariant.capacity full;
      capacity = rw c.truncate.ensures.capacity (omega (arith, c.append_part.ensures.capacity, c.loop-part.invariant.capacity));
    }
