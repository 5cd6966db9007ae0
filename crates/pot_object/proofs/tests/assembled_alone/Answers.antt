use Rattle.std.proofs.Common.{◌≤◌, ◌<◌, length, arith, refl}
use Rattle.pot_object.specs.Pieces.{longest, pieces_of}
use Rattle.pot_object.proofs.LawLemmas.{IsSeries-alone}
use Rattle.pot_object.proofs.tests.assembled_alone.Goals as goal

pub assemble-requires : goal.assemble-requires
assemble-requires c =
    let file = c.args.file.now in
    let fits : length file ≤ longest = omega (arith, c.told-file) in
    let exists : c.args.piece < pieces_of (length file) = omega (arith, c.told-file, c.requires) in
    IsSeries-alone _ file c.write_object.new.out c.args.piece (record { whole = refl; fits = fits }) exists c.write_object.ensures
