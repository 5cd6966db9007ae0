use Rattle.pot_recheck.proofs.Rows.{four_parts}
use Rattle.pot_recheck.proofs.telling.append_found.Goals as goal

pub returns : goal.returns
returns c = four_parts _ _ _ _ _ _ _ _ _ c.in_ok-append_groups.ensures c.in_ok-extend_from_slice.ensures.items c.in_ok-append_number.ensures.ok c.in_ok-extend_from_slice-2.ensures.items
