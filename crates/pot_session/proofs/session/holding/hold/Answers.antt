use Rattle.std.proofs.Common.{◌≤◌, ◌+◌, ◌^◌, List, length, refl, ap, sym, subst}
use Rattle.std.specs.List.{AllByRecursion}
use Rattle.pot_bytes.specs.Rack.{log_bound}
use Rattle.pot_bytes.specs.declared.rack.Rack.{Rack}
use Rattle.pot_index.specs.declared.record.Record.{Record}
use Rattle.pot_image.specs.Images.{Contents}
use Rattle.pot_commands.specs.Ends.{next_job}
use Rattle.pot_script.specs.Steps.{IsWholeStep}
use Rattle.pot_session.specs.Runs.{Stopped}
use Rattle.pot_session.proofs.ScriptLemmas.{jobs_numbered}
use Rattle.pot_session.proofs.TopLemmas.{served}
use Rattle.pot_session.proofs.session.holding.hold.Goals as goal

pub returns-in-Ok-clause-holds : goal.returns-in-Ok-clause-holds
returns-in-Ok-clause-holds g c =
    served _ _ _ _ _ _ _ (g.D.Desk.account.meaning c.prepare.new.desk) c.in-Ok.ensures.prepared c.in-Ok.ensures.read c.deref.ensures.value c.serve.ensures.serves c.serve.ensures.which c.serve.ensures.untouched c.prepare.ensures.desk.later

pub returns-in-Err-clause-holds : goal.returns-in-Err-clause-holds
returns-in-Err-clause-holds g c = Stopped c.in-Err.stop c.in-Err.ensures.stops c.refuse.ensures.told (λ n. refl)

pub serve-requires-clause-worked : goal.serve-requires-clause-worked
serve-requires-clause-worked g c = λ bounds within.
    let p = c.in-Ok.ensures.prepared in
    subst (AllByRecursion (IsWholeStep c.in-Ok.field-0.image.rack)) (sym c.deref.ensures.value)
    (subst (λ (r : Rack). AllByRecursion (IsWholeStep r) c.in-Ok.field-0.steps.items) (sym (ap (λ (v : Contents). v.rack) p.is)) p.of.script.goes_on)

pub serve-requires-clause-few : goal.serve-requires-clause-few
serve-requires-clause-few g c = λ bounds within.
    subst (λ ss. next_job ss ≤ 2 ^ 31) (sym c.deref.ensures.value) (jobs_numbered c.in-Ok.field-0.steps.items c.in-Ok.ensures.prepared.of.script.few)

pub serve-requires-clause-together : goal.serve-requires-clause-together
serve-requires-clause-together g c = λ bounds within. c.in-Ok.ensures.prepared.rules.together

pub serve-requires-clause-space : goal.serve-requires-clause-space
serve-requires-clause-space g c = λ bounds within.
    let p = c.in-Ok.ensures.prepared in
    subst (λ (rs : List Record). length rs + log_bound ≤ 4000000000) (sym (ap (λ (v : Contents). v.records) p.is)) p.of.goes_on.1

pub serve-requires-clause-kept : goal.serve-requires-clause-kept
serve-requires-clause-kept g c = λ bounds within told. (c.in-Ok.ensures.prepared.kept told, c.in-Ok.ensures.prepared.had told)
