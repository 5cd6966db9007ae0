use Rattle.std.proofs.Common.{◌≡◌, ◌-◌, length, take, arith, sym, ap, ◌∙◌}
use Rattle.std.specs.Prelude.{vec_len}
use Rattle.pot_outside.specs.Accounts.{transition}
use Rattle.pot_session.proofs.ScriptLemmas.{before_quit, steps_closed, steps_each, is_read}
use Rattle.pot_session.proofs.StreamLemmas.{whole_source}
use Rattle.pot_session.proofs.session.scripting.read_steps.Goals as goal

pub group_steps-requires : goal.group_steps-requires
group_steps-requires g c =
    let script = c.in-Ok-read_script.ensures.ok in
    let cs = c.in-Ok-read_script.commands in
    let long : vec_len cs ≡ length cs.items = omega (arith, cs.ok.0) in
    let same = before_quit c.args.rack.now c.deref.result.now cs.items c.pop-quit.new.self.items script (c.pop-quit.ensures.rest ∙ ap (λ n. take (n - 1) cs.items) long) in
    record { whole = (c.args.rack.now, steps_each c.args.rack.now _ c.pop-quit.new.self.items _ script same, steps_closed c.args.rack.now _ c.pop-quit.new.self.items _ script same) }

pub returns-in-Ok-group_steps-clause-script : goal.returns-in-Ok-group_steps-clause-script
returns-in-Ok-group_steps-clause-script g c =
    let script = c.in-Ok-read_script.ensures.ok in
    let cs = c.in-Ok-read_script.commands in
    let long : vec_len cs ≡ length cs.items = omega (arith, cs.ok.0) in
    let same = before_quit c.args.rack.now c.deref.result.now cs.items c.pop-quit.new.self.items script (c.pop-quit.ensures.rest ∙ ap (λ n. take (n - 1) cs.items) long) in
    is_read c.args.rack.now (transition g.S.Source.account c.args.source.now c.read_out.new.source) c.deref.result.now cs.items c.in-Ok-group_steps.steps.items
    (λ t. whole_source _ c.in-Ok.bytes.items 67108864 (c.in-Ok.ensures.told t) (omega (arith, script.short, ap length c.deref.ensures.value)) ∙ sym c.deref.ensures.value)
    script
    (c.in-Ok-group_steps.ensures.spelled ∙ same)
    (c.in-Ok-group_steps.ensures.whole c.args.rack.now (steps_each c.args.rack.now _ c.pop-quit.new.self.items _ script same))

pub returns-in-Ok-group_steps-clause-read : goal.returns-in-Ok-group_steps-clause-read
returns-in-Ok-group_steps-clause-read g c = λ t. (c.in-Ok.ensures.told t).all (let script = c.in-Ok-read_script.ensures.ok in omega (arith, script.short, ap length c.deref.ensures.value))
