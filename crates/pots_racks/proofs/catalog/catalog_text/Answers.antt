use Rattle.std.proofs.Common.{◌≡◌, length, ap, ◌∙◌, arith}
use Rattle.pot_bytes.specs.Digests.{digest_bytes}
use Rattle.pots_racks.proofs.CatalogLemmas.{made}
use Rattle.pots_racks.proofs.catalog.catalog_text.Goals as goal

pub returns : goal.returns
returns c =
    let end : c.loop-line.line-index ≡ length c.args.lines.now = omega (arith, c.loop-line-test.false, c.loop-line.auto.line-index-end) in
    made c.args.lines.now c.loop-line.line-index c.loop-line.text.items c.digest_of-digest.result.bytes c.append_sum.new.text.items end c.loop-line.invariant
    (c.digest_of-digest.ensures ∙ ap digest_bytes c.deref.ensures.value) c.in_ok-append_sum.ensures
