use Rattle.std.proofs.Common.{◌++◌, ap, ◌∙◌, List}
use Rattle.std.specs.List.{flat_map}
use Rattle.pot_bytes.specs.declared.rack.Place.{Place}
use Rattle.pot_index.specs.declared.record.Split.{Split}
use Rattle.pot_index.specs.Records.{head_bytes, split_bytes, current_of, record_bytes}
use Rattle.pot_index.proofs.Writes.{appended_both, appended_as, stopped, record_parts, record_rest}
use Rattle.pot_index.proofs.writing.append_record.Goals as goal

pub returns-in_err-append_head : goal.returns-in_err-append_head
returns-in_err-append_head c =
    let kept = c.args.kept.now in
    appended_as _ _ _ _ (record_bytes kept) (record_rest kept)
    (stopped c.args.out.now c.append_head.new.out _ c.from_residual.result (head_bytes kept) (flat_map split_bytes kept.older ++ split_bytes (current_of kept)) c.from_residual.ensures.0 c.in_err-append_head.ensures)

pub returns-in_err-append_splits : goal.returns-in_err-append_splits
returns-in_err-append_splits c =
    let kept = c.args.kept.now in
    let older = c.as_slice.result.now in
    appended_as _ _ _ _ (record_bytes kept) (ap (λ (ss : List Split). (head_bytes kept ++ flat_map split_bytes ss) ++ split_bytes (current_of kept)) c.as_slice.ensures.value ∙ record_parts kept)
    (stopped c.args.out.now c.append_splits.new.out _ c.from_residual-in_err-append_splits.result (head_bytes kept ++ flat_map split_bytes older) (split_bytes (current_of kept)) c.from_residual-in_err-append_splits.ensures.0
    (appended_both c.args.out.now c.append_head.new.out c.append_splits.new.out (head_bytes kept) (flat_map split_bytes older) _ c.in_ok-append_head.ensures c.in_err-append_splits.ensures))

pub returns : goal.returns
returns c =
    let kept = c.args.kept.now in
    let older = c.as_slice.result.now in
    let places = c.as_slice-2.result.now in
    appended_as _ _ _ _ (record_bytes kept)
    (ap (λ (ps : List Place). (head_bytes kept ++ flat_map split_bytes older) ++ split_bytes (record { geometry = kept.geometry; places = ps })) c.as_slice-2.ensures
    ∙ ap (λ (ss : List Split). (head_bytes kept ++ flat_map split_bytes ss) ++ split_bytes (current_of kept)) c.as_slice.ensures.value ∙ record_parts kept)
    (appended_both c.args.out.now c.append_splits.new.out c.append_split.new.out (head_bytes kept ++ flat_map split_bytes older) (split_bytes (record { geometry = kept.geometry; places = places })) c.append_split.result
    (appended_both c.args.out.now c.append_head.new.out c.append_splits.new.out (head_bytes kept) (flat_map split_bytes older) _ c.in_ok-append_head.ensures c.in_ok-append_splits.ensures) c.append_split.ensures)
