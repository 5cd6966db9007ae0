use Rattle.std.proofs.Common.{◌≡◌, ◌+◌, ◌*◌, ℕ, Bool, List, sym, ap, ◌∙◌, arith, slice_index_or}
use Rattle.pot_bytes.specs.declared.rack.Place.{Place}
use Rattle.pot_bytes.specs.declared.rack.Rack.{Rack}
use Rattle.pot_bytes.specs.Rack.{no_place}
use Rattle.pot_index.specs.declared.record.Split.{Split}
use Rattle.pot_machine.proofs.Searches.{count_zero, count_hit, count_miss}
use Rattle.pot_audit.specs.declared.spot.Spot.{Spot}
use Rattle.pot_audit.specs.Exposure.{is_exposed, is_exposed_at}
use Rattle.pot_audit.proofs.coalition.Coalition.exposed_points.Goals as goal
use Rattle.pot_audit.proofs.coalition.Coalition.exposed_points.Goals.{then-is_exposed, else-is_exposed}

-- the block at a position is exposed
abbrev at : Rack → List Spot → List Place → ℕ → Bool
at rack spots places k = is_exposed rack spots (slice_index_or places k no_place).group (slice_index_or places k no_place).column

same_place : (i a b d e fragments j shards p : ℕ) → a ≡ fragments → b ≡ j → d ≡ shards → e ≡ p → (i * a + b) * d + e ≡ (i * fragments + j) * shards + p
same_place i a b d e fragments j shards p ea eb ed ee = cc

pub loop-point-init : goal.loop-point-init
loop-point-init c = record { is = sym (count_zero _); few = omega arith }

pub loop-point-preserved : goal.loop-point-preserved
loop-point-preserved c =
    let g = c.args.geometry.now in
    let place : (c.args.piece * c.from.result + c.from-2.result) * c.from-3.result + c.from-in-loop-point.result ≡ (c.args.piece * g.fragments + c.args.fragment) * g.shards + c.loop-point.point =
    same_place c.args.piece c.from.result c.from-2.result c.from-3.result c.from-in-loop-point.result g.fragments c.args.fragment g.shards c.loop-point.point c.from.ensures c.from-2.ensures c.from-3.ensures c.from-in-loop-point.ensures in
    let s : Split = record { geometry = g; places = c.args.places.now } in
    let test : ℕ → Bool = is_exposed_at c.args.self.now.rack.now c.args.self.now.spots.now s c.args.piece c.args.fragment in
    let here : c.is_exposed.result ≡ test c.loop-point.point = c.is_exposed.ensures ∙ ap (at c.args.self.now.rack.now c.args.self.now.spots.now c.args.places.now) place in
    elim c.if-is_exposed.branch [
      | then-is_exposed w ↦ record {
        is = w.count-is ∙ ap (λ (n : ℕ). n + 1) c.loop-point.invariant.is ∙ sym (count_hit c.loop-point.point test (sym here ∙ w.if-is_exposed.true));
        few = omega (arith, w.count-is, c.loop-point.invariant.few);
      }
      | else-is_exposed w ↦ record {
        is = w.count-is ∙ c.loop-point.invariant.is ∙ sym (count_miss c.loop-point.point test (sym here ∙ w.if-is_exposed.false));
        few = omega (arith, w.count-is, c.loop-point.invariant.few);
      }
    ]
