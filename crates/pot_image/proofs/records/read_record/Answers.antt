use Rattle.pot_image.specs.Reading.{reading}
use Rattle.std.proofs.Common.{ap, sym, ◌∙◌}
use Rattle.pot_image.proofs.Once.{ok_then, done_reads}
use Rattle.pot_image.proofs.Steps.{fails_then, fails_on, fails_as, exits, holds_of, between_of}
use Rattle.pot_image.specs.Records.{splits, record_behind}
use Rattle.std.proofs.Common.{drop}
use Rattle.pot_object.specs.Pieces.{longest}
use Rattle.std.proofs.lemmas.Bool.{leb-true}
use Rattle.pot_image.specs.Numbers.{natural, at_most}
use Rattle.pot_image.specs.Records.{name}
use Rattle.pot_image.proofs.records.read_record.Goals as goal

pub read_name_above-requires-clause-some : goal.read_name_above-requires-clause-some
read_name_above-requires-clause-some c = (between_of _ _ _ _ _ _ c.in_ok-count.ensures).0

pub read_name_above-requires-clause-few : goal.read_name_above-requires-clause-few
read_name_above-requires-clause-few c = (between_of _ _ _ _ _ _ c.in_ok-count.ensures).1

pub count_pieces-pieces-requires : goal.count_pieces-pieces-requires
count_pieces-pieces-requires c = record { fits = leb-true _ _ (holds_of _ _ _ _ _ c.in_ok-length.ensures) }

pub returns-in_err-count-clause-reads : goal.returns-in_err-count-clause-reads
unfolding record_behind name
returns-in_err-count-clause-reads c = λ number. exits _ _ _ _ c.from_residual.ensures.1 (fails_then _ _ _ _ (fails_then _ _ _ _ c.in_err-count.ensures))

pub returns-in_err-name-clause-reads : goal.returns-in_err-name-clause-reads
unfolding record_behind name
returns-in_err-name-clause-reads c = λ number. exits _ _ _ _ c.from_residual-in_err-name.ensures.1 (fails_then _ _ _ _ (fails_on _ _ _ _ _ _ c.in_ok-count.ensures c.in_err-name.ensures.reads))

pub returns-in_err-length-clause-reads : goal.returns-in_err-length-clause-reads
unfolding record_behind name
returns-in_err-length-clause-reads c = λ number. exits _ _ _ _ c.from_residual-in_err-length.ensures.1 (fails_on _ _ _ _ _ _ (ok_then _ _ _ _ _ _ c.in_ok-count.ensures c.in_ok-name.ensures.reads) (fails_then _ _ _ _ (fails_as _ _ _ (ap (reading (natural 8 (at_most longest))) (c.split_at.ensures.back ∙ ap (λ n. drop n c.in_ok-count.after_count.now) c.from.ensures)) c.in_err-length.ensures)))

pub returns-in_err-digest-clause-reads : goal.returns-in_err-digest-clause-reads
unfolding record_behind name
returns-in_err-digest-clause-reads c = λ number. exits _ _ _ _ c.from_residual-in_err-digest.ensures.1 (fails_on _ _ _ _ _ _ (ok_then _ _ _ _ _ _ c.in_ok-count.ensures c.in_ok-name.ensures.reads) (fails_on _ _ _ _ _ _ (ap (reading (natural 8 (at_most longest))) (sym (c.split_at.ensures.back ∙ ap (λ n. drop n c.in_ok-count.after_count.now) c.from.ensures)) ∙ c.in_ok-length.ensures) (fails_then _ _ _ _ c.in_err-digest.ensures)))

pub returns-in_err-splits-clause-reads : goal.returns-in_err-splits-clause-reads
unfolding record_behind name
returns-in_err-splits-clause-reads c = λ number. exits _ _ _ _ c.from_residual-in_err-splits.ensures.1 (fails_on _ _ _ _ _ _ (ok_then _ _ _ _ _ _ c.in_ok-count.ensures c.in_ok-name.ensures.reads) (fails_on _ _ _ _ _ _ (ap (reading (natural 8 (at_most longest))) (sym (c.split_at.ensures.back ∙ ap (λ n. drop n c.in_ok-count.after_count.now) c.from.ensures)) ∙ c.in_ok-length.ensures) (fails_on _ _ _ _ _ _ c.in_ok-digest.ensures (fails_then _ _ _ _ (fails_as _ _ _ (ap (λ p. reading (splits c.args.format c.args.rack.now c.args.tables.now p) c.in_ok-digest.after_digest.now) c.count_pieces-pieces.ensures.value) c.in_err-splits.ensures.reads)))))

pub returns-clause-reads : goal.returns-clause-reads
unfolding record_behind name
returns-clause-reads c = λ number. ok_then _ _ _ _ _ _ (ok_then _ _ _ _ _ _ c.in_ok-count.ensures c.in_ok-name.ensures.reads) (ok_then _ _ _ _ _ _ (ap (reading (natural 8 (at_most longest))) (sym (c.split_at.ensures.back ∙ ap (λ n. drop n c.in_ok-count.after_count.now) c.from.ensures)) ∙ c.in_ok-length.ensures) (ok_then _ _ _ _ _ _ c.in_ok-digest.ensures (ok_then _ _ _ _ _ _ (sym (ap (λ p. reading (splits c.args.format c.args.rack.now c.args.tables.now p) c.in_ok-digest.after_digest.now) c.count_pieces-pieces.ensures.value) ∙ c.in_ok-splits.ensures.reads) (done_reads _ _))))
