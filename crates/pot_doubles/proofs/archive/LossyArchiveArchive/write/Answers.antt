use Rattle.std.proofs.Common.{◌≡◌, true, inl, refl, arith, rules}
use Rattle.std.specs.Result.{is_ok}
use Rattle.std.proofs.lemmas.Grind.{common_steps}
use Rattle.pot_doubles.specs.Archives.{held_in}
use Rattle.pot_doubles.proofs.LossLemmas.{loses_at_same, kept_written, low_written}
use Rattle.pot_doubles.proofs.archive.LossyArchiveArchive.write.Goals as goal

pub returns-then-begin-clause-writes : goal.returns-then-begin-clause-writes
returns-then-begin-clause-writes c = record {
  tells = (λ t. (_, inl refl, loses_at_same (held_in c.args.self.now) (held_in c.begin.new.self) c.args.slot _ _ c.begin.ensures.loses));
  past = (λ t. inl c.begin.ensures.listed.past);
  hears = (λ t. c.begin.ensures.heard);
  cause = record { later = c.begin.ensures.cause.later; rose = (λ e. c.begin.ensures.cause.rose c.if-begin.true) };
}

pub returns-then-is_err-clause-writes : goal.returns-then-is_err-clause-writes
returns-then-is_err-clause-writes c = record {
  tells = (λ t. (_, inl refl, loses_at_same (held_in c.args.self.now) (held_in c.begin.new.self) c.args.slot _ _ c.begin.ensures.loses));
  past = (λ t. search rules);
  hears = (λ t. search rules);
  cause = search rules;
}

pub invariant_of-self-in-Ok-clause-kept : goal.invariant_of-self-in-Ok-clause-kept
invariant_of-self-in-Ok-clause-kept c =
    let stored : is_ok c.push.result ≡ true = grind (arith, common_steps, c.is_err.ensures.value, c.is_err.ensures.negation) in
    rw (c.push.ensures.items, stored) (kept_written c.begin.new.self.blocks c.insert.new.self c.begin.new.self.past.items _ c.args.block.now c.begin.new.self.kept c.in-Ok.ensures.updates.0)

pub invariant_of-self-in-Ok-clause-low : goal.invariant_of-self-in-Ok-clause-low
invariant_of-self-in-Ok-clause-low c =
    low_written c.begin.new.self.blocks c.insert.new.self c.args.slot c.args.block.now (omega arith) c.begin.new.self.low c.in-Ok.ensures.updates.0
