use Rattle.pot_image.specs.Reading.{reading}
use Rattle.std.proofs.Common.{ap, ◌∙◌, arith}
use Rattle.pot_image.proofs.Once.{done_reads}
use Rattle.pot_image.specs.Logs.{behind_name}
use Rattle.pot_image.proofs.EntryKinds.{often_reads}
use Rattle.pot_image.proofs.index_entries.read_behind_name.Goals as goal

pub returns-in-1 : goal.returns-in-1
unfolding behind_name
returns-in-1 c = ap (λ k. reading (behind_name c.args.job k c.args.name) c.args.bytes.now) c.in-1.is ∙ done_reads _ _

pub returns-in-2 : goal.returns-in-2
unfolding behind_name
returns-in-2 c = ap (λ k. reading (behind_name c.args.job k c.args.name) c.args.bytes.now) c.in-2.is ∙ done_reads _ _

pub returns-in-4 : goal.returns-in-4
unfolding behind_name
returns-in-4 c = ap (λ k. reading (behind_name c.args.job k c.args.name) c.args.bytes.now) c.in-4.is ∙ done_reads _ _

pub returns-in_default : goal.returns-in_default
returns-in_default c = often_reads _ _ _ _ (λ e. omega (arith, e)) (λ e. omega (arith, e)) (λ e. omega (arith, e)) (λ e. omega (arith, e)) (λ e. omega (arith, e)) (λ e. omega (arith, e))
