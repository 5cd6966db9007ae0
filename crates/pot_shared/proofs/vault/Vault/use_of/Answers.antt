use Rattle.std.proofs.Common.{◌<◌, ◌≡◌, IsTrue, length, subst, ◌∙◌}
use Rattle.pot_shared.proofs.UseLemmas.{found_there, none_there}
use Rattle.pot_shared.proofs.vault.Vault.use_of.Goals as goal

pub returns-in-Some-clause-finds : goal.returns-in-Some-clause-finds
returns-in-Some-clause-finds g c =
    let long : c.len-at-end.result ≡ length c.args.self.now.groups = rw (← c.self.view_is) c.len-at-end.ensures in
    let within = subst (λ n. c.asked.at < n) long c.asked-test.true in
    found_there (IsTrue g.A.Archive.account.tells) c.args.number c.args.self.now.groups c.args.passes.now.groups c.asked.passes.groups c.use_at.new.passes.groups c.asked.at
    c.asked.invariant.0.of within c.asked.invariant.2 c.in-Some.found c.in-Some.ensures.call

pub asked-preserved : goal.asked-preserved
asked-preserved g c =
    let long : c.len-at-end.result ≡ length c.args.self.now.groups = rw (← c.self.view_is) c.len-at-end.ensures in
    let within = subst (λ n. c.asked.at < n) long c.asked-test.true in (
      c.in_default.ensures.ready,
      c.in_default.ensures.index ∙ c.asked.invariant.1,
      none_there (IsTrue g.A.Archive.account.tells) c.args.number c.args.self.now.groups c.args.passes.now.groups c.asked.passes.groups c.use_at.new.passes.groups c.asked.at
          c.asked.invariant.0.of within c.asked.invariant.2 c.in_default.ensures.call,
    )
