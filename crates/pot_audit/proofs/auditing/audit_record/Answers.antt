use Rattle.std.proofs.Common.{◌≡◌, ◌*◌, ℕ, List, Some, length, refl, sym, ap, ◌∙◌, subst, arith}
use Rattle.std.specs.Prelude.{slice_get}
use Rattle.std.proofs.lemmas.Option.{slice_get_read}
use Rattle.pot_bytes.specs.declared.rack.Place.{Place}
use Rattle.pot_object.specs.Pieces.{pieces_of}
use Rattle.pot_index.specs.declared.record.Split.{Split}
use Rattle.pot_index.specs.Fits.{FitsSplit}
use Rattle.pot_index.specs.Records.{current_of, splits_of}
use Rattle.pot_audit.specs.Veils.{AddsVeils, AreVeils}
use Rattle.pot_audit.proofs.Adding.{AreVeilsUpto, all_at, all_veils, current_at, older_at, one_more}
use Rattle.pot_audit.proofs.auditing.audit_record.Goals as goal

pub loop-number-preserved : goal.loop-number-preserved
loop-number-preserved c =
    let s : Split = c.index-older-number.result in
    let here : slice_get c.args.kept.now.older c.loop-number.number ≡ Some s =
    subst (λ l. slice_get l c.loop-number.number ≡ Some s) c.as_slice-older.ensures.value
    (slice_get_read c.as_slice-older.result.now (length c.as_slice-older.result.now) c.loop-number.number s refl c.loop-number-test.true c.index-older-number.is) in
    let adds : AddsVeils c.args.rack.now c.args.coalition.now s c.loop-number.number (pieces_of c.args.kept.now.length) c.loop-number.veils.items c.audit_split.new.veils.items =
    subst (λ (n : ℕ). AddsVeils c.args.rack.now c.args.coalition.now s c.loop-number.number n c.loop-number.veils.items c.audit_split.new.veils.items) c.count_pieces-pieces.ensures.value
    (subst (λ (l : List Place). AddsVeils c.args.rack.now c.args.coalition.now (record { geometry = s.geometry; places = l }) c.loop-number.number c.count_pieces-pieces.result c.loop-number.veils.items c.audit_split.new.veils.items)
    c.as_slice-places.ensures c.in_ok-audit_split.ensures) in
    one_more c.args.rack.now c.args.coalition.now (splits_of c.args.kept.now) (pieces_of c.args.kept.now.length) c.loop-number.number s c.loop-number.veils.items c.audit_split.new.veils.items
    c.loop-number.invariant (older_at c.args.kept.now c.loop-number.number s here) adds

pub audit_split-requires-2-clause-geometry : goal.audit_split-requires-2-clause-geometry
audit_split-requires-2-clause-geometry c =
    (all_at (FitsSplit c.args.rack.now (pieces_of c.args.kept.now.length)) (splits_of c.args.kept.now) (length c.args.kept.now.older) (current_of c.args.kept.now) c.requires.fits.splits (current_at c.args.kept.now)).geometry.limits

pub audit_split-requires-2-clause-count : goal.audit_split-requires-2-clause-count
audit_split-requires-2-clause-count c =
    ap (length {A = Place}) c.as_slice-places-2.ensures
    ∙ (all_at (FitsSplit c.args.rack.now (pieces_of c.args.kept.now.length)) (splits_of c.args.kept.now) (length c.args.kept.now.older) (current_of c.args.kept.now) c.requires.fits.splits (current_at c.args.kept.now)).count
    ∙ ap (λ (n : ℕ). n * c.args.kept.now.geometry.fragments * c.args.kept.now.geometry.shards) (sym c.count_pieces-pieces.ensures.value)

pub returns : goal.returns
returns c =
    let r = c.args.kept.now in
    let older : c.as_slice-older.result.now ≡ r.older = c.as_slice-older.ensures.value in
    let ended : c.loop-number.number ≡ length r.older = omega (arith, c.loop-number-test.false, c.loop-number.auto.number-end, ap (length {A = Split}) older) in
    let upto : AreVeilsUpto c.args.rack.now c.args.coalition.now (splits_of r) (pieces_of r.length) (length r.older) c.loop-number.veils.items =
    subst (λ (n : ℕ). AreVeilsUpto c.args.rack.now c.args.coalition.now (splits_of r) (pieces_of r.length) n c.loop-number.veils.items) ended c.loop-number.invariant in
    let adds : AddsVeils c.args.rack.now c.args.coalition.now (current_of r) (length r.older) c.count_pieces-pieces.result c.loop-number.veils.items c.audit_split-2.new.veils.items =
    subst (λ (l : List Split). AddsVeils c.args.rack.now c.args.coalition.now (current_of r) (length l) c.count_pieces-pieces.result c.loop-number.veils.items c.audit_split-2.new.veils.items) older
    (subst (λ (l : List Place). AddsVeils c.args.rack.now c.args.coalition.now (record { geometry = r.geometry; places = l }) (length c.as_slice-older.result.now) c.count_pieces-pieces.result c.loop-number.veils.items c.audit_split-2.new.veils.items)
    c.as_slice-places-2.ensures c.in_ok-audit_split-2.ensures) in
    subst (AreVeils c.args.rack.now c.args.coalition.now r) (sym c.from_vec.ensures)
    (all_veils c.args.rack.now c.args.coalition.now r c.count_pieces-pieces.result c.loop-number.veils.items c.audit_split-2.new.veils.items c.count_pieces-pieces.ensures.value upto adds)
