-- Where no block is left another piece is drawn; then the block at hand is the next one.
use Rattle.std.proofs.Common.{◌<◌, ◌+◌, ◌-◌, ◌*◌, [], ℕ, List, length, get_or, refl, ap, ap₂, sym, subst, ◌∙◌, arith}
use Rattle.pot_bytes.specs.declared.rack.Geometry.{Geometry}
use Rattle.pot_object.specs.Pieces.{pieces_of}
use Rattle.pot_pads.specs.Pads.{Pads}
use Rattle.pot_store.specs.Drawing.{blocks_from, count_of, Drawn}
use Rattle.pot_store.proofs.DrawingLemmas.{drawn_is, drawn_more, next_block, next_more, one_less, piece_left, same_next, some_blocks, IsReady}
use Rattle.pot_store.proofs.drawing.Drawing.next.Goals as goal
use Rattle.pot_store.proofs.drawing.Drawing.next.Goals.{then-self-eq0, else-self-eq0}

ready : (c : goal.After-self-2-1) → IsReady c.args.self.now c.if-self-eq0.self-inside
ready c =
    let d = c.args.self.now in
    let old = c.self.inside in
    let v = c.self.view_is in
    let at = ap (λ (z : Drawn). z.next) v in
    elim c.if-self-eq0.branch [
      | then-self-eq0 w ↦
          let none = w.if-self-eq0.true in
          let size = old.geometry.fragments * old.geometry.shards in
          let pieces = pieces_of (length old.file.now) in
          let exists : old.piece < pieces =
          piece_left old.piece pieces size old.left (old.piece * size - old.left) none refl (subst (λ (z : Drawn). z.next < count_of z) (sym v) c.requires) in
          let left = w.len-self-inside.ensures ∙ w.draw.new.last.blocks.ok.0 ∙ w.draw.ensures.many in
          subst (IsReady d) (sym w.self-inside-is) (record {
            geometry = ap (λ (z : Drawn). z.geometry) v;
            file = ap (λ (z : Drawn). z.file) v;
            start = ap (λ (z : Drawn). z.start) v;
            holds =
                drawn_more old.geometry old.file.now old.start.value old.pads w.draw.new.pads old.id old.last.random.items
                w.draw.new.last.random.items old.last.blocks.items w.draw.new.last.blocks.items
                old.piece old.left w.len-self-inside.result c.self.invariant exists w.draw.ensures.place
                w.draw.ensures.random w.draw.ensures.blocks w.draw.ensures.many left;
            some = omega (arith, left, c.self.invariant.block_room, some_blocks old.geometry c.self.invariant.geometry);
            next = same_next old.piece size old.left w.len-self-inside.result (old.piece * size - old.left) none (left ∙ c.self.invariant.block_room) refl ∙ at;
          })
      | else-self-eq0 w ↦ subst (IsReady d) (sym w.self-inside-is) (record {
        geometry = ap (λ (z : Drawn). z.geometry) v;
        file = ap (λ (z : Drawn). z.file) v;
        start = ap (λ (z : Drawn). z.start) v;
        holds = c.self.invariant;
        some = omega (arith, w.if-self-eq0.false);
        next = at;
      })
    ]

pub invariant_of-self : goal.invariant_of-self
invariant_of-self c =
    let r = ready c in
    let a = c.if-self-eq0.self-inside in
    one_less a.geometry a.file.now a.start.value a.pads a.id a.last.random.items a.last.blocks.items a.piece a.left r.holds r.some

pub returns-clause-block : goal.returns-clause-block
returns-clause-block c =
    let r = ready c in
    let d = c.args.self.now in
    let a = c.if-self-eq0.self-inside in
    next_block a.geometry a.file.now a.start.value a.pads a.id a.last.random.items a.last.blocks.items a.piece a.left c.len.result c.index-block.result.now
    r.holds r.some (c.len.ensures ∙ a.last.blocks.ok.0) c.index-block.ensures
    ∙ ap (λ (k : ℕ). get_or (blocks_from a.geometry a.file.now a.start.value) k []) r.next
    ∙ ap (λ (g : Geometry). get_or (blocks_from g a.file.now a.start.value) d.next []) r.geometry
    ∙ ap₂ (λ (file : List ℕ) (start : Pads). get_or (blocks_from d.geometry file start) d.next []) r.file r.start

pub returns-clause-next : goal.returns-clause-next
returns-clause-next c =
    let r = ready c in
    let d = c.args.self.now in
    let a = c.if-self-eq0.self-inside in
    drawn_is a.geometry d.geometry a.file.now d.file a.start.value d.start
    (a.piece * (a.geometry.fragments * a.geometry.shards) - (a.left - 1)) (d.next + 1) r.geometry r.file r.start
    (next_more a.piece (a.geometry.fragments * a.geometry.shards) a.left d.next r.some r.holds.few (r.holds.drawn r.some).0 r.next)
