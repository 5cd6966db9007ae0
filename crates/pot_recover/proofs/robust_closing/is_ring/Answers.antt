use Rattle.std.proofs.Common.{◌-◌, ◌∙◌, length, get_or, sym, arith}
use Rattle.std.proofs.lemmas.Bool.{eqb-true, eq-eqb}
use Rattle.std.proofs.lemmas.List.{get_or_default}
use Rattle.pot_recover.proofs.ClosingLemmas.{nobody}
use Rattle.pot_recover.proofs.LongClosing.{is_ring, long_some}
use Rattle.pot_recover.proofs.robust_closing.is_ring.Goals as goal

pub returns : goal.returns
returns c =
    let w = c.requires.chain in
    let chain = c.args.chain.now in
    let some = long_some w.0 c.args.need w.1 c.args.bits chain w.2 in
    let first = get_or chain 0 nobody in
    let last = get_or chain (length chain - 1) nobody in
    let same = is_ring w.0 c.args.need w.1 c.args.bits chain w.2 first last (get_or_default chain 0 nobody first some) (get_or_default chain (length chain - 1) nobody last (omega (arith, some))) in (
      λ h. same.0 (sym c.blur.ensures.value ∙ eqb-true c.blur.result last.pointer h),
      λ ring. eq-eqb c.blur.result last.pointer (c.blur.ensures.value ∙ same.1 ring),
    )
