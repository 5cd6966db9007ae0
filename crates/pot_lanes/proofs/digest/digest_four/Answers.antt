use Rattle.std.proofs.Common.{◌≡◌, ◌+◌, ◌-◌, ◌*◌, ◌/◌, ◌%◌, length, arith, refl}
use Rattle.sha2.specs.Sha256.{digest_bytes, sha256}
use Rattle.pot_lanes.proofs.Whole.{whole}
use Rattle.pot_lanes.proofs.digest.digest_four.Goals as goal
use Rattle.pot_lanes.proofs.digest.digest_four.Goals.{then-total-lt56, else-total-lt56}

pub returns : goal.returns
returns c =
    let n = length c.args.a.now in
    let last : 64 * c.if-total-lt56.last ≡ n % 64 + (9 + (119 - n % 64) % 64) =
    elim c.if-total-lt56.branch [
      | then-total-lt56 w ↦ omega (arith, w.last-is, w.if-total-lt56.true)
      | else-total-lt56 w ↦ omega (arith, w.last-is, w.if-total-lt56.false)
    ] in
    let one : digest_bytes c.words_of.result 8 ≡ sha256 c.args.a.now =
    rw c.words_of.ensures
    (whole c.args.a.now _ c.last_blocks.result _ _ _ n (n / 64) c.if-total-lt56.last refl refl refl c.last_blocks.ensures last
    (c.start-state.ensures 0 (omega arith)) (c.absorb.ensures 0 (omega arith)) (c.absorb-2.ensures 0 (omega arith))) in
    let two : digest_bytes c.words_of-2.result 8 ≡ sha256 c.args.b.now =
    rw c.words_of-2.ensures
    (whole c.args.b.now _ c.last_blocks-2.result _ _ _ n (n / 64) c.if-total-lt56.last c.requires.second refl refl c.last_blocks-2.ensures last
    (c.start-state.ensures 1 (omega arith)) (c.absorb.ensures 1 (omega arith)) (c.absorb-2.ensures 1 (omega arith))) in
    let three : digest_bytes c.words_of-3.result 8 ≡ sha256 c.args.c.now =
    rw c.words_of-3.ensures
    (whole c.args.c.now _ c.last_blocks-3.result _ _ _ n (n / 64) c.if-total-lt56.last c.requires.third refl refl c.last_blocks-3.ensures last
    (c.start-state.ensures 2 (omega arith)) (c.absorb.ensures 2 (omega arith)) (c.absorb-2.ensures 2 (omega arith))) in
    let four : digest_bytes c.words_of-4.result 8 ≡ sha256 c.args.d.now =
    rw c.words_of-4.ensures
    (whole c.args.d.now _ c.last_blocks-4.result _ _ _ n (n / 64) c.if-total-lt56.last c.requires.fourth refl refl c.last_blocks-4.ensures last
    (c.start-state.ensures 3 (omega arith)) (c.absorb.ensures 3 (omega arith)) (c.absorb-2.ensures 3 (omega arith))) in
    rw (c.digest_bytes.ensures, c.digest_bytes-2.ensures, c.digest_bytes-3.ensures, c.digest_bytes-4.ensures, one, two, three, four) refl
