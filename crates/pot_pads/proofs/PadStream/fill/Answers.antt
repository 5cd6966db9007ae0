use Rattle.std.proofs.Common.{arith}
use Rattle.pot_pads.proofs.PadsLemmas.{three_cuts}
use Rattle.pot_pads.proofs.PadStream.fill.Goals as goal

pub returns-clause-bytes : goal.returns-clause-bytes
returns-clause-bytes c =
    let head = c.split_at_mut-head.ensures in
    let words = c.split_at_mut-words.ensures in
    three_cuts c.args.self.now c.fill_bytewise.new.self c.fill_words.new.self _ _ _ _ _ _ _ c.fill_bytewise.ensures.bytes c.fill_bytewise.ensures.place
    c.fill_words.ensures.bytes c.fill_words.ensures.place c.fill_bytewise-2.ensures.bytes
    (omega (arith, head.front_len, head.back_len, words.front_len, words.back_len))
