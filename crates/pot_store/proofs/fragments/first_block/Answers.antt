use Rattle.std.proofs.Common.{◌≡◌, ◌<◌, ◌+◌, ◌*◌, ap, arith, ◌∙◌}
use Rattle.std.proofs.lemmas.Nat.{mul-add-lt}
use Rattle.pot_store.proofs.fragments.first_block.Goals as goal

pub overflow_mul-result : goal.overflow_mul-result
overflow_mul-result c =
    let k = c.args.kept.now.geometry.fragments in
    let h : c.args.at.piece * k + c.args.at.fragment < k * 1024 = mul-add-lt c.args.at.piece k c.args.at.fragment 1024 c.requires.piece c.requires.fragment in
    let few = c.requires.geometry.fragments.1 in
    let e : c.args.at.piece * c.from.result ≡ c.args.at.piece * k = ap (λ m. c.args.at.piece * m) c.from.ensures in
    omega (arith, h, few, e)

pub overflow_add-result : goal.overflow_add-result
overflow_add-result c =
    let k = c.args.kept.now.geometry.fragments in
    let h : c.args.at.piece * k + c.args.at.fragment < k * 1024 = mul-add-lt c.args.at.piece k c.args.at.fragment 1024 c.requires.piece c.requires.fragment in
    let few = c.requires.geometry.fragments.1 in
    let e : c.args.at.piece * c.from.result ≡ c.args.at.piece * k = ap (λ m. c.args.at.piece * m) c.from.ensures in
    let f = c.from-2.ensures in
    omega (arith, h, few, e, f)

pub overflow_mul-result-2 : goal.overflow_mul-result-2
overflow_mul-result-2 c =
    let k = c.args.kept.now.geometry.fragments in
    let n = c.args.kept.now.geometry.shards in
    let h : c.args.at.piece * k + c.args.at.fragment < k * 1024 = mul-add-lt c.args.at.piece k c.args.at.fragment 1024 c.requires.piece c.requires.fragment in
    let few = c.requires.geometry.fragments.1 in
    let some : 0 < n = (let a = c.requires.geometry.need.0 in let b = c.requires.geometry.need.1 in omega (arith, a, b)) in
    let low : c.args.at.piece * k + c.args.at.fragment < 8192 = omega (arith, h, few) in
    let g : (c.args.at.piece * k + c.args.at.fragment) * n + 0 < n * 8192 = mul-add-lt (c.args.at.piece * k + c.args.at.fragment) n 0 8192 low some in
    let most = c.requires.geometry.shards in
    let e : (c.args.at.piece * c.from.result + c.from-2.result) * c.from-3.result ≡ (c.args.at.piece * k + c.args.at.fragment) * n =
    ap (λ m. (c.args.at.piece * m + c.from-2.result) * c.from-3.result) c.from.ensures
    ∙ (ap (λ m. (c.args.at.piece * k + m) * c.from-3.result) c.from-2.ensures ∙ ap (λ m. (c.args.at.piece * k + c.args.at.fragment) * m) c.from-3.ensures) in
    omega (arith, g, most, e)
