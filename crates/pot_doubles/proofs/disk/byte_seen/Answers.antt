use Rattle.std.proofs.Common.{◌+◌, map, drop, ◌∙◌, sym}
use Rattle.pot_doubles.specs.Disks.{call_of}
use Rattle.pot_doubles.proofs.DiskLemmas.{seen_from, seen_end}
use Rattle.pot_doubles.proofs.disk.byte_seen.Goals as goal

pub returns-in-Some : goal.returns-in-Some
returns-in-Some c =
    let i = c.loop-note.note-index in
    c.in-Some.ensures (map call_of (drop (i + 1) c.args.notes.now))
    ∙ (sym (seen_from c.args.notes.now i c.note-item.result (c.args.at + c.args.k) c.loop-note-test.true c.note-item.is) ∙ c.loop-note.invariant)

pub loop-note-preserved : goal.loop-note-preserved
loop-note-preserved c =
    let i = c.loop-note.note-index in
    c.in_default.ensures (map call_of (drop (i + 1) c.args.notes.now))
    ∙ (sym (seen_from c.args.notes.now i c.note-item.result (c.args.at + c.args.k) c.loop-note-test.true c.note-item.is) ∙ c.loop-note.invariant)

pub returns : goal.returns
returns c = sym (seen_end c.args.notes.now c.loop-note.note-index (c.args.at + c.args.k) c.loop-note-test.false) ∙ c.loop-note.invariant
