use Rattle.std.proofs.Common.{◌++◌, ◌≡◌, ◌≤◌, length, ap, sym, ◌∙◌, append-nil, arith, ℕ, false, nat_lt}
use Rattle.std.proofs.lemmas.Bool.Decides.{nat_tests}
use Rattle.std.proofs.lemmas.Option.{slice_get_past}
use Rattle.pots_rescue.specs.Parity.{in_group}
use Rattle.pots_rescue.proofs.parity.append_group.Goals as goal

not_below : (k n : ℕ) → false ≡ nat_lt k n → n ≤ k
not_below k n e = grind (arith, nat_tests)

pub returns-in-None : goal.returns-in-None
returns-in-None c =
    sym (ap (λ o. c.args.list.now.items ++ in_group c.args.group o)
    (slice_get_past c.args.image.now.tables.items c.args.group
    (let l = not_below c.from.result (length c.deref.result.now) c.in-None.ensures.lookup.0 in let e = ap length c.deref.ensures.value in omega (arith, l, e, c.from.ensures)))
    ∙ append-nil c.args.list.now.items)
