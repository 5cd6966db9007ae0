use Rattle.std.proofs.Common.{rules, ◌≡◌, ◌≤◌, length, arith, sym, subst, ◌∙◌}
use Rattle.pot_object.specs.Assembly.{objects_of, IsSeries}
use Rattle.pot_object.specs.Pieces.{longest}
use Rattle.pot_object.proofs.LawLemmas.{IsSeries-objects_of}
use Rattle.pot_shard.proofs.corner_tests.assert_assembled.Goals as goal

pub assemble-requires : goal.assemble-requires
assemble-requires g c =
    let id = c.args.id.now in
    let file = c.args.file.now in
    let fits : length file ≤ longest = omega (arith, c.told-file) in
    let same : c.args.objects.now ≡ c.as_slice.result.now = search rules in
    let written : c.expect-written.result.items ≡ objects_of id file = search rules in
    subst IsSeries (sym (same ∙ c.as_slice.ensures.value ∙ written)) (IsSeries-objects_of id file (record { whole = c.told-id; fits = fits }))
