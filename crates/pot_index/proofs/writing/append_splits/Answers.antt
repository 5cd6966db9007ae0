use Rattle.std.proofs.Common.{[], ap, ◌∙◌, List}
use Rattle.pot_bytes.specs.declared.rack.Place.{Place}
use Rattle.pot_index.specs.Records.{split_bytes}
use Rattle.pot_index.proofs.Writes.{stopped_in}
use Rattle.pot_index.proofs.writing.append_splits.Goals as goal

pub returns-in_err-append_split : goal.returns-in_err-append_split
returns-in_err-append_split c =
    let split = c.split-item.result in
    stopped_in split_bytes c.args.out.now c.loop-split.out c.append_split.new.out _ c.from_residual.result [] _ c.args.splits.now c.loop-split.split-index split c.loop-split-test.true c.from_residual.ensures.0
    (ap (λ (p : List Place). split_bytes (record { geometry = split.geometry; places = p })) c.as_slice.ensures ∙ ap split_bytes c.split-item.is) c.loop-split.invariant c.in_err-append_split.ensures
