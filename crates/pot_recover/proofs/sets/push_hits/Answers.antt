use Rattle.std.proofs.lemmas.Option.{slice_get-get_or}
use Rattle.pot_pointer.specs.declared.Named.{Named}
use Rattle.pot_chains.proofs.ListedLemmas.{in_get_or}
use Rattle.pot_recover.proofs.SetLemmas.{hits_more}
use Rattle.pot_recover.proofs.sets.push_hits.Goals as goal

abbrev nowhere : Named
nowhere = record { name = 0; position = 0 }

pub bounds-there-candidate : goal.bounds-there-candidate
bounds-there-candidate c =
    c.requires _ (in_get_or c.loop-candidate.candidate-index c.args.candidates.now nowhere c.loop-candidate-test.true)

pub loop-candidate-preserved : goal.loop-candidate-preserved
loop-candidate-preserved c =
    let i = c.loop-candidate.candidate-index in
    let cands = c.args.candidates.now in
    hits_more c.args.there.now c.args.share.now cands i nowhere _ c.args.found.now.items c.loop-candidate.found.items c.push_hit.new.found.items
    c.loop-candidate-test.true
    (slice_get-get_or c.args.there.now _ _ (c.requires _ (in_get_or i cands nowhere c.loop-candidate-test.true)))
    c.loop-candidate.invariant c.in_ok-push_hit.ensures
