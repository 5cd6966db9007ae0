use Rattle.std.proofs.Common.{◌*◌, length, ap, ◌∙◌, arith}
use Rattle.std.proofs.lemmas.List.FromFn.{length-map-range_with_len}
use Rattle.pot_machine.specs.Making.{column_home}
use Rattle.pot_machine.proofs.parts.Parts.empty.Goals as goal

pub invariant_of-result : goal.invariant_of-result
invariant_of-result c = (
  record {
    data_columns = c.requires.rack.columns;
    parity = c.requires.rack.parity;
    stripes = c.requires.rack.stripes;
    columns = ap length c.in_ok-columns_from.ensures ∙ length-map-range_with_len column_home _ _;
    slots = omega (arith, c.in_ok-from_elem.field-0.ok.0, c.in_ok-from_elem.ensures.len, ap (λ w. c.args.rack.now.stripes * w) c.from.ensures);
    relays = omega (arith, ap length c.in_ok-with_capacity.ensures.items);
  },
  c.in_ok-with_capacity.ensures.capacity,
)
