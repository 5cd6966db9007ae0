use Rattle.pot_image.specs.Reading.{reading}
use Rattle.std.proofs.Common.{eq-eqb, ap, sym, ◌∙◌, refl}
use Rattle.pot_image.proofs.Once.{ok_then, done_reads}
use Rattle.pot_image.proofs.Steps.{fails_then, fails_on, fails_as, exits, between_of, gives_as, gives_on, chosen, not_chosen}
use Rattle.std.proofs.Common.{drop}
use Rattle.std.proofs.lemmas.Bool.{ne_eqb}
use Rattle.pot_image.specs.Logs.{index_entry_of, behind_name}
use Rattle.pot_image.specs.Records.{name}
use Rattle.pot_image.proofs.Steps.{text_narrowed, text_short}
use Rattle.pot_image.proofs.index_entries.read_index_entry_of.Goals as goal

pub returns-then-kind-eq6 : goal.returns-then-kind-eq6
unfolding index_entry_of
returns-then-kind-eq6 c = sym (chosen _ _ _ _ (eq-eqb _ _ c.if-kind-eq6.true)) ∙ done_reads _ _

pub returns-in_err-count : goal.returns-in_err-count
unfolding index_entry_of name
returns-in_err-count c = exits _ _ _ _ c.from_residual.ensures.1 (fails_as _ _ _ (not_chosen _ _ _ _ (ne_eqb _ _ c.if-kind-eq6.false)) (fails_then _ _ _ _ (fails_then _ _ _ _ c.in_err-count.ensures)))

pub returns-in_err-name : goal.returns-in_err-name
unfolding index_entry_of name
returns-in_err-name c = exits _ _ _ _ c.from_residual-in_err-name.ensures.1 (fails_as _ _ _ (not_chosen _ _ _ _ (ne_eqb _ _ c.if-kind-eq6.false)) (fails_then _ _ _ _ (fails_on _ _ _ _ _ _ c.in_ok-count.ensures (text_short _ _ _ _ _ c.in_err-name.ensures.reads))))

pub read_name-requires-clause-some : goal.read_name-requires-clause-some
read_name-requires-clause-some c = (between_of _ _ _ _ _ _ c.in_ok-count.ensures).0

pub read_name-requires-clause-few : goal.read_name-requires-clause-few
read_name-requires-clause-few c = (between_of _ _ _ _ _ _ c.in_ok-count.ensures).1

pub returns : goal.returns
unfolding index_entry_of name
returns c = gives_as _ _ _ _ (not_chosen _ _ _ _ (ne_eqb _ _ c.if-kind-eq6.false)) (gives_on _ _ _ _ _ _ _ (ok_then _ _ _ _ _ _ c.in_ok-count.ensures (text_narrowed _ _ _ _ _ _ c.in_ok-name.ensures.reads refl)) (gives_as _ _ _ _ (ap (reading (behind_name c.args.job c.args.kind c.in_ok-name.name)) (c.split_at.ensures.back ∙ ap (λ n. drop n c.in_ok-count.after_count.now) c.from.ensures)) c.read_behind_name.ensures))
