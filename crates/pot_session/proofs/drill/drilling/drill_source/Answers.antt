use Rattle.std.proofs.Common.{refl, subst}
use Rattle.pot_outside.specs.Accounts.{transition}
use Rattle.pot_session.specs.Drills.{ArePair, IsNoPair}
use Rattle.pot_session.proofs.PairLemmas.{nothing_left, source_pair, source_none}
use Rattle.pot_session.proofs.drill.drilling.drill_source.Goals as goal

pub returns-in_default-clause-drilled : goal.returns-in_default-clause-drilled
returns-in_default-clause-drilled g c = (
  refl,
  λ t. source_none (transition g.S.Source.account c.args.source.now c.read_out.new.source) c.in-Ok.bytes.items (c.in-Ok.ensures.told t)
      (subst IsNoPair c.deref.ensures.value c.in_default.ensures),
)

pub returns-in-Ok-drill_pair-clause-drilled : goal.returns-in-Ok-drill_pair-clause-drilled
returns-in-Ok-drill_pair-clause-drilled g c = (
  c.in-Some.file.now,
  c.in-Some.other.now,
  λ t. source_pair (transition g.S.Source.account c.args.source.now c.read_out.new.source) c.in-Ok.bytes.items c.in-Some.file.now c.in-Some.other.now (c.in-Ok.ensures.told t)
      (subst (λ bytes. ArePair bytes c.in-Some.file.now c.in-Some.other.now) c.deref.ensures.value c.in-Some.ensures),
  c.in-Ok-drill_pair.ensures,
)

pub returns-in-Ok-drill_pair-clause-whole : goal.returns-in-Ok-drill_pair-clause-whole
returns-in-Ok-drill_pair-clause-whole g c = λ t.
    nothing_left (transition g.S.Source.account c.args.source.now c.read_out.new.source) c.in-Ok.bytes.items c.in-Some.file.now c.in-Some.other.now (c.in-Ok.ensures.told t)
    (subst (λ bytes. ArePair bytes c.in-Some.file.now c.in-Some.other.now) c.deref.ensures.value c.in-Some.ensures)
