use Rattle.std.proofs.Common.{◌≡◌, ◌≤◌, ◌+◌, ◌++◌, List, ℕ, length, refl, ap, sym, ◌∙◌, subst, arith, drop, length-append, length-drop}
use Rattle.std.proofs.lemmas.Result.{err_from_is_err_and}
use Rattle.pot_object.specs.Pieces.{pieces_of}
use Rattle.pot_shared.proofs.BlindLemmas.{blinds_fewer, blinds_none, blinds_then}
use Rattle.pot_store.proofs.FitLemmas.{pieces_few, pieces_hold}
use Rattle.pot_store.proofs.GatherLemmas.{behind_whole, take_long}
use Rattle.pot_store.proofs.PieceLemmas.{FileSofar, file_begin, file_step, file_stop, file_end}
use Rattle.pot_store.proofs.fetching.read_pieces.Goals as goal

pub loop-piece-init : goal.loop-piece-init
loop-piece-init g c = (
  c.requires.ready,
  refl,
  file_begin c.args.caller.now.job c.args.kept.now c.args.bytes.now.items c.args.passes.now.groups c.requires.ready.idle c.requires.none,
  c.requires.file_room,
  let none = ap length c.requires.none in let long = c.args.bytes.now.ok.0 in omega (arith, none, long),
  blinds_none c.requires.ready.idle,
)

pub returns-in_err-object-clause-read : goal.returns-in_err-object-clause-read
returns-in_err-object-clause-read g c =
    let p = err_from_is_err_and c.from_residual.result c.from_residual.ensures.1 in
    rw (p.1, p.2)
    (file_stop c.args.caller.now.job c.args.kept.now c.loop-piece.piece c.loop-piece.bytes.items c.args.passes.now.groups c.loop-piece.passes.groups c.read_piece.new.passes.groups
    c.loop-piece.invariant.2 c.loop-piece.bytes.items c.in_err-object.field-0.0 c.in_err-object.ensures.read)

pub loop-piece-preserved : goal.loop-piece-preserved
loop-piece-preserved g c =
    let object : List ℕ = c.in_ok-object.object in
    let old : List ℕ = c.loop-piece.bytes.items in
    let wide : length object ≡ 928 = c.in_ok-object.ensures.long in
    let items : c.append.new.into.items ≡ old ++ drop 64 object = c.append.ensures.items ∙ ap (λ l. old ++ l) (behind_whole 64 864 object wide) in
    let long : length c.append.new.into.items ≡ length old + 864 =
    ap length items ∙ (length-append old (drop 64 object) ∙ ap (λ n. length old + n) (let d = length-drop 64 object in omega (arith, d, wide))) in
    let room = c.append.ensures.room in
    let file_room = c.loop-piece.invariant.3 in
    let before = c.loop-piece.invariant.4 in
    let was = c.loop-piece.bytes.ok.0 in
    let now = c.append.new.into.ok.0 in (
      c.read_piece.ensures.ready,
      c.read_piece.ensures.index ∙ c.loop-piece.invariant.1,
      subst (λ b. FileSofar c.args.caller.now.job c.args.kept.now (c.loop-piece.piece + 1) b c.args.passes.now.groups c.read_piece.new.passes.groups) (sym items)
          (file_step c.args.caller.now.job c.args.kept.now c.loop-piece.piece old c.args.passes.now.groups c.loop-piece.passes.groups c.read_piece.new.passes.groups c.loop-piece.invariant.2
          object c.in_ok-object.ensures.read),
      omega (arith, room, file_room),
      omega (arith, long, before, was, now),
      blinds_then c.loop-piece.invariant.5 c.read_piece.ensures.blinds (omega arith),
    )

pub returns-clause-read : goal.returns-clause-read
returns-clause-read g c =
    let kept = c.args.kept.now in
    let test = c.loop-piece-test.false in
    let bound = c.loop-piece.auto.piece-end in
    let count = c.count_pieces-piece-end.ensures.value in
    let all : c.loop-piece.piece ≡ pieces_of kept.length = omega (arith, test, bound, count) in
    let was = c.loop-piece.bytes.ok.0 in
    let before = c.loop-piece.invariant.4 in
    let hold = pieces_hold kept.length in
    let enough : kept.length ≤ length c.loop-piece.bytes.items = omega (arith, all, was, before, hold) in
    file_end c.args.caller.now.job kept c.loop-piece.piece c.loop-piece.bytes.items c.args.passes.now.groups c.loop-piece.passes.groups c.loop-piece.passes.groups c.loop-piece.invariant.2
    c.truncate.new.self.items all c.truncate.ensures.items (ap length c.truncate.ensures.items ∙ take_long c.loop-piece.bytes.items kept.length enough)

pub returns-in_err-object-clause-blinds : goal.returns-in_err-object-clause-blinds
returns-in_err-object-clause-blinds g c =
    let lt = c.loop-piece-test.true in
    let count = c.count_pieces-piece-end.ensures.value in
    let few = pieces_few c.args.kept.now.length c.requires.fits.long in
    blinds_then c.loop-piece.invariant.5 c.read_piece.ensures.blinds (omega (arith, lt, count, few))

pub returns-clause-blinds : goal.returns-clause-blinds
returns-clause-blinds g c =
    let bound = c.loop-piece.auto.piece-end in
    let count = c.count_pieces-piece-end.ensures.value in
    let few = pieces_few c.args.kept.now.length c.requires.fits.long in
    blinds_fewer c.loop-piece.invariant.5 (omega (arith, bound, count, few))
