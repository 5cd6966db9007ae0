use Rattle.std.proofs.Common.{◌≡◌, ◌++◌, take, length, ap, ◌∙◌, arith, length-drop}
use Rattle.std.proofs.Math.Seq.{take-length}
use Rattle.pot_shared.proofs.hand.put_back.Goals as goal

pub move_front-requires-clause-count : goal.move_front-requires-clause-count
move_front-requires-clause-count g c = omega (arith, c.len-count.ensures, c.args.back.ok.0)

pub move_front-requires-clause-space : goal.move_front-requires-clause-space
move_front-requires-clause-space g c = omega (arith, c.len-count.ensures, c.args.back.ok.0, c.requires)

pub destroy_empty-requires : goal.destroy_empty-requires
destroy_empty-requires g c =
    let n = ap length c.move_front.ensures.from in let d = length-drop c.len-count.result c.args.back.items in
    omega (arith, c.move_front.new.from.ok.0, n, d, c.len-count.ensures, c.args.back.ok.0)

pub returns-clause-items : goal.returns-clause-items
returns-clause-items g c =
    let long : c.len-count.result ≡ length c.args.back.items = omega (arith, c.len-count.ensures, c.args.back.ok.0) in
    c.move_front.ensures.into ∙ ap (λ l. c.args.into.now.items ++ l) (ap (λ n. take n c.args.back.items) long ∙ take-length c.args.back.items)
