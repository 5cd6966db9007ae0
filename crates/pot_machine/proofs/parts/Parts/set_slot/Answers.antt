use Rattle.std.proofs.Common.{◌≡◌, ◌+◌, ◌*◌, length, ap, ap₂, ◌∙◌, mul_comm, arith}
use Rattle.std.proofs.lemmas.Nat.{mul-add-lt}
use Rattle.pot_machine.specs.Table.{width}
use Rattle.pot_machine.proofs.parts.Parts.set_slot.Goals as goal

pub index_mut-requires : goal.index_mut-requires
index_mut-requires c =
    let stripes : c.self.inside.stripes ≡ c.args.self.now.stripes = ap (λ t. t.stripes) c.self.view_is in
    let data_columns : c.self.inside.data_columns + c.self.inside.parity ≡ width c.args.self.now = ap width c.self.view_is in
    let below = mul-add-lt c.args.stripe (width c.args.self.now) c.args.column c.args.self.now.stripes c.requires.0 c.requires.1 in
    let slots : length c.self.inside.slots.items ≡ c.self.inside.stripes * (c.self.inside.data_columns + c.self.inside.parity) = c.self.invariant.0.slots in
    let all : length c.self.inside.slots.items ≡ width c.args.self.now * c.args.self.now.stripes = slots ∙ ap₂ ◌*◌ stripes data_columns ∙ mul_comm _ _ in
    omega (arith, below, all, c.place-place.ensures, ap (λ w. c.args.stripe * w) c.width.ensures.value, c.self.inside.slots.ok.0)
