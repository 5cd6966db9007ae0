use Rattle.std.proofs.Common.{ap, ◌∙◌}
use Rattle.std.specs.List.{list_any}
use Rattle.pot_session.specs.Audits.{is_bare, veil_lines}
use Rattle.pot_session.proofs.auditing.audit_text.Goals as goal

pub returns : goal.returns
returns c = (
  c.in_ok-veils.veils,
  c.in_ok-veils.ensures,
  c.in_ok-text.ensures ∙ ap (veil_lines c.args.kept.now.name) c.as_slice.ensures,
  c.has_bare-refused.ensures ∙ ap (list_any is_bare) c.as_slice-2.ensures,
)
