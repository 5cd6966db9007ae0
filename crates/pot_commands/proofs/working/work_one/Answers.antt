use Rattle.std.proofs.Common.{◌++◌, ap, refl, ◌∙◌}
use Rattle.pot_shared.specs.Works.{known}
use Rattle.pot_commands.specs.Ends.{any_refusal, texts_of}
use Rattle.pot_commands.specs.Steps.{step_of}
use Rattle.pot_commands.proofs.StepLemmas.{gives_left}
use Rattle.pot_commands.proofs.working.work_one.Goals as goal

pub returns-in-Err-clause-ends : goal.returns-in-Err-clause-ends
returns-in-Err-clause-ends g c = (
  gives_left c.args.crew.now.shared.vault.now.rack c.args.crew.now.shared.seed.now c.args.crew.now.shared.session c.args.job (step_of c.args.step.now) (known c.args.passes.now.groups c.args.passes.now.index)
      (known c.answer_step-answered.new.passes.groups c.answer_step-answered.new.passes.index) c.in-Ok.replies.items c.in-Ok.ensures.says,
  λ told. refl,
)

pub returns-in-Ok-write_out-clause-ends : goal.returns-in-Ok-write_out-clause-ends
returns-in-Ok-write_out-clause-ends g c = (
  c.in-Ok.replies.items,
  c.in-Ok.ensures.says,
  c.has_refusal.ensures ∙ ap any_refusal c.deref-in-Ok-write_out.ensures.value,
  λ told. c.in-Ok-write_out.ensures.told told
      ∙ ap (λ l. (g.K.Sink.account.meaning c.args.sink.now).held ++ l) (c.deref-2.ensures.value ∙ (c.in-Ok-print_replies.ensures ∙ ap texts_of c.deref.ensures.value)),
)
