use Rattle.std.proofs.Common.{◌<◌, ◌≡◌, Bool, IsTrue, length, refl, ap, subst, sym, ◌∙◌}
use Rattle.std.specs.Prelude.{◌||◌}
use Rattle.pot_shared.proofs.UseLemmas.{traced_more, traced_none}
use Rattle.pot_shared.proofs.vault.Vault.trace.Goals as goal
use Rattle.pot_shared.proofs.vault.Vault.trace.Goals.{then-taken, else-taken}

pub traced-init : goal.traced-init
traced-init g c = (c.requires.ready, refl, traced_none (IsTrue g.A.Archive.account.tells) c.args.from c.args.to c.args.passes.now.groups)

pub traced-preserved : goal.traced-preserved
traced-preserved g c =
    let long : c.len-at-end.result ≡ length c.args.self.now.groups = rw (← c.self.view_is) c.len-at-end.ensures in
    let within = subst (λ n. c.traced.at < n) long c.traced-test.true in
    let either : c.if-taken.taken ≡ (c.traced.taken || c.trace_at-answer.result.taken) = elim c.if-taken.branch [
      | then-taken w ↦ w.taken-is ∙ (w.if-taken.true ∙ sym (ap (λ (b : Bool). b || c.trace_at-answer.result.taken) w.if-taken.true))
      | else-taken w ↦ w.taken-is ∙ sym (ap (λ (b : Bool). b || c.trace_at-answer.result.taken) w.if-taken.false)
    ] in (
      c.trace_at-answer.ensures.ready,
      c.trace_at-answer.ensures.index ∙ c.traced.invariant.1,
      traced_more (IsTrue g.A.Archive.account.tells) c.args.from c.args.to c.traced.at c.traced.home c.or-home.result c.traced.taken c.if-taken.taken c.args.self.now.groups
          c.args.passes.now.groups c.traced.passes.groups c.trace_at-answer.new.passes.groups c.trace_at-answer.result c.traced.invariant.0.of within c.traced.invariant.2
          c.trace_at-answer.ensures.call c.or-home.ensures either,
    )
