use Rattle.std.proofs.Common.{ap, ◌∙◌}
use Rattle.pot_bytes.specs.Digests.{digest_bytes}
use Rattle.pot_steps.proofs.CallLemmas.{is_digest}
use Rattle.pot_store.proofs.RecordLemmas.{digests_same, digests_differ, record_odd, record_file}
use Rattle.pot_store.proofs.fetching.read_record.Goals as goal

pub returns-then-ne-clause-read : goal.returns-then-ne-clause-read
returns-then-ne-clause-read g c =
    let bytes = c.read_pieces.new.bytes.items in
    let found = c.digest_of-found.result in
    record_odd c.args.caller.now.job c.args.kept.now c.args.passes.now.groups c.read_pieces.new.passes.groups bytes found c.in_ok-read_pieces.ensures.read
    (is_digest found bytes (c.digest_of-found.ensures ∙ ap digest_bytes c.deref.ensures.value)) (digests_differ found c.args.kept.now.digest c.if-ne.ensures)

pub returns-clause-read : goal.returns-clause-read
returns-clause-read g c =
    let bytes = c.read_pieces.new.bytes in
    let found = c.digest_of-found.result in
    record_file c.args.caller.now.job c.args.kept.now c.args.passes.now.groups c.read_pieces.new.passes.groups bytes found c.in_ok-read_pieces.ensures.read
    (is_digest found bytes.items (c.digest_of-found.ensures ∙ ap digest_bytes c.deref.ensures.value)) (digests_same found c.args.kept.now.digest c.if-ne.ensures)
