use Rattle.std.proofs.Common.{IsTrue, sym, ◌∙◌}
use Rattle.std.proofs.lemmas.Bool.{false≢true}
use Rattle.pot_shelves.proofs.SlotReads.{opens_void, opens_lost, opens_broken, opens_sound, opens_gone}
use Rattle.pot_shelves.proofs.opening.open_slot.Goals as goal

pub returns-in-Void-clause-opens : goal.returns-in-Void-clause-opens
returns-in-Void-clause-opens c = λ tells a b x.
    opens_void (IsTrue tells) c.args.stripe c.args.column c.args.table.now c.args.reading.now c.args.log.now.items a b x (sym c.slot.ensures ∙ c.in-Void.is)

pub returns-in-Lost-clause-opens : goal.returns-in-Lost-clause-opens
returns-in-Lost-clause-opens c = λ tells a b x.
    opens_lost (IsTrue tells) c.args.stripe c.args.column c.args.table.now c.args.reading.now c.args.log.now.items a b x c.in-Lost.digest (sym c.slot.ensures ∙ c.in-Lost.is)

pub returns-in-Broken-clause-opens : goal.returns-in-Broken-clause-opens
returns-in-Broken-clause-opens c = λ tells a b x.
    opens_broken (IsTrue tells) c.args.stripe c.args.column c.args.table.now c.args.reading.now c.args.log.now.items a b x _ (sym c.slot.ensures ∙ c.in-Broken.is)

pub returns-then-is_sound-clause-opens : goal.returns-then-is_sound-clause-opens
returns-then-is_sound-clause-opens c = λ tells a b x.
    let sound = c.is_sound.ensures.0 c.if-is_sound.true in
    opens_sound (IsTrue tells) c.args.stripe c.args.column c.args.table.now c.args.reading.now c.args.log.now.items a b x c.in-Live.digest (sym c.slot.ensures ∙ c.in-Live.is) sound.0 sound.1 c.block_law.ensures

pub returns-clause-opens : goal.returns-clause-opens
returns-clause-opens c = λ tells a b x.
    opens_gone (IsTrue tells) c.args.stripe c.args.column c.args.table.now c.args.reading.now c.args.log.now.items a b x c.in-Live.digest c.note.new.table c.note.new.log.items (sym c.slot.ensures ∙ c.in-Live.is)
    (λ h q. false≢true (sym c.if-is_sound.false ∙ c.is_sound.ensures.1 (h, q))) c.requires.range c.note.ensures.table c.note.ensures.log
