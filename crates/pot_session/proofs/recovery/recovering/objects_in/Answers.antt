use Rattle.std.proofs.Common.{ℕ, length, Result, Ok, Err, IfOk, OnOk, subst, sym}
use Rattle.pot_recover.specs.Wide.{IsWithin}
use Rattle.pot_recover.specs.Robust.{IsRobustlyWithin}
use Rattle.pot_recover.specs.Open.{IsOpenlyWithin}
use Rattle.pot_session.specs.Recovering.{GiveObjects, most_chains}
use Rattle.pot_session.proofs.recovery.recovering.objects_in.Goals as goal

-- what is said of each answer, and what is said where there is one, give what follows from both
ok_by : {X E : Type 0} {P R : X → Type 0} {Q : Type 0} → ((x : X) → P x → Q → R x)
    → (r : Result X E) → IfOk r P → OnOk r Q → IfOk r R
ok_by both (Ok x) p q = both x p q
ok_by both (Err e) p q = tt

pub returns-in-Rings-clause-found : goal.returns-in-Rings-clause-found
returns-in-Rings-clause-found c =
    let count : ℕ = length c.args.blocks.now in
    let most : ℕ = most_chains c.args.task.now count in
    ok_by
    (λ objects are within.
    subst (λ way. GiveObjects most way c.args.blocks.now c.args.task.now.blur objects) (sym c.in-Rings.is)
    (are, subst (λ m. IsWithin m c.args.blocks.now c.args.task.now.blur) c.most_chains-most.ensures.bound within))
    c.recover.result c.recover.ensures.objects c.recover.ensures.within

pub returns-in-Robust-clause-found : goal.returns-in-Robust-clause-found
returns-in-Robust-clause-found c =
    let count : ℕ = length c.args.blocks.now in
    let most : ℕ = most_chains c.args.task.now count in
    ok_by
    (λ objects are within.
    subst (λ way. GiveObjects most way c.args.blocks.now c.args.task.now.blur objects) (sym c.in-Robust.is)
    (are, subst (λ m. IsRobustlyWithin m c.args.blocks.now c.args.task.now.blur) c.most_chains-most.ensures.bound within))
    c.recover_robust.result c.recover_robust.ensures.objects c.recover_robust.ensures.within

pub returns-in-Chains-clause-found : goal.returns-in-Chains-clause-found
returns-in-Chains-clause-found c =
    let count : ℕ = length c.args.blocks.now in
    let most : ℕ = most_chains c.args.task.now count in
    ok_by
    (λ objects are within.
    subst (λ way. GiveObjects most way c.args.blocks.now c.args.task.now.blur objects) (sym c.in-Chains.is)
    (are, subst (λ m. IsOpenlyWithin m c.args.blocks.now c.args.task.now.blur) c.most_chains-most.ensures.bound within))
    c.recover_open.result c.recover_open.ensures.objects c.recover_open.ensures.within
