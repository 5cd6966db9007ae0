use Rattle.std.proofs.Common.{refl, ◌∙◌, arith}
use Rattle.std.proofs.lemmas.Result.{err_from_is_err_and}
use Rattle.pot_shared.proofs.BlindLemmas.{blinds_fewer, blinds_none, blinds_then}
use Rattle.pot_store.proofs.FitLemmas.{current_fits}
use Rattle.pot_store.proofs.PieceLemmas.{piece_begin, piece_step, piece_stop}
use Rattle.pot_store.proofs.fragments.read_piece.Goals as goal

pub loop-fragment-init : goal.loop-fragment-init
loop-fragment-init g c = (
  c.requires.ready,
  refl,
  piece_begin c.args.caller.now.job c.args.kept.now c.args.piece c.clear.new.self.items c.args.passes.now.groups c.requires.ready.idle c.clear.ensures.items,
  c.clear.ensures.len,
  blinds_none c.requires.ready.idle,
)

pub returns-in_err-read_fragment-clause-read : goal.returns-in_err-read_fragment-clause-read
returns-in_err-read_fragment-clause-read g c =
    let p = err_from_is_err_and c.from_residual.result c.from_residual.ensures.1 in
    rw (p.1, p.2)
    (piece_stop c.args.caller.now.job c.args.kept.now c.args.piece c.loop-fragment.fragment c.loop-fragment.rooms.fragments.items c.args.passes.now.groups c.loop-fragment.passes.groups
    c.read_fragment.new.passes.groups c.loop-fragment.invariant.2 c.read_fragment.new.rooms.fragments.items c.in_err-read_fragment.field-0.0 c.requires.piece
    c.loop-fragment-test.true c.in_err-read_fragment.ensures.read)

pub loop-fragment-preserved : goal.loop-fragment-preserved
loop-fragment-preserved g c =
    let long = c.loop-fragment.invariant.3 in
    let next = c.in_ok-read_fragment.ensures.long in (
      c.read_fragment.ensures.ready,
      c.read_fragment.ensures.index ∙ c.loop-fragment.invariant.1,
      piece_step c.args.caller.now.job c.args.kept.now c.args.piece c.loop-fragment.fragment c.loop-fragment.rooms.fragments.items c.args.passes.now.groups c.loop-fragment.passes.groups
          c.read_fragment.new.passes.groups c.loop-fragment.invariant.2 c.read_fragment.new.rooms.fragments.items c.in_ok-read_fragment.ensures.read,
      omega (arith, long, next),
      blinds_then c.loop-fragment.invariant.4 c.read_fragment.ensures.blinds (omega arith),
    )

pub returns-in_err-read_fragment-clause-blinds : goal.returns-in_err-read_fragment-clause-blinds
returns-in_err-read_fragment-clause-blinds g c =
    let lt = c.loop-fragment-test.true in
    let few = (current_fits c.args.caller.now.vault.now.rack c.args.kept.now c.requires.fits).geometry.limits.fragments.1 in
    blinds_then c.loop-fragment.invariant.4 c.read_fragment.ensures.blinds (omega (arith, lt, few))

pub returns-clause-blinds : goal.returns-clause-blinds
returns-clause-blinds g c =
    let bound = c.loop-fragment.auto.fragment-end in
    let few = (current_fits c.args.caller.now.vault.now.rack c.args.kept.now c.requires.fits).geometry.limits.fragments.1 in
    blinds_fewer c.loop-fragment.invariant.4 (omega (arith, bound, few))
