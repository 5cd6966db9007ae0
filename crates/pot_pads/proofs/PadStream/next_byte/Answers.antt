-- The byte is one that is left of the last word, be it new or not.
use Rattle.std.proofs.Common.{◌≡◌, ◌∙◌, ◌<◌, ◌≤◌, ◌+◌, ◌-◌, ◌*◌, ◌^◌, get_or, [], ◌∷◌, arith, ap}
use Rattle.std.specs.Int.{w32, to_le_bytes}
use Rattle.pot_pads.specs.Pads.{bytes_from, next_bytes}
use Rattle.pot_pads.specs.Inside.{place_of}
use Rattle.pot_pads.proofs.PlaceLemmas.{key_stream-at, held_byte}
use Rattle.pot_pads.proofs.PadStream.next_byte.Goals as goal
use Rattle.pot_pads.proofs.PadStream.next_byte.Goals.{then-self-eq0, else-self-eq0}

pub returns-clause-byte : goal.returns-clause-byte
unfolding bytes_from
returns-clause-byte c =
    let key = c.self.inside.generator.key in
    let number = c.self.inside.generator.stream in
    let next = c.self.inside.generator.word_pos in
    let in_stream : next < 2 ^ 68 = c.self.invariant.in_stream in
    let here = ap (λ v. next_bytes v 1) c.self.view_is in
    elim c.if-self-eq0.branch [
      | then-self-eq0 w ↦
          let at : place_of next c.self.inside.left ≡ 4 * next + 0 = omega (arith, w.if-self-eq0.true) in
          let word = w.to_le_bytes-self-inside.ensures ∙ ap (λ n. to_le_bytes w32 n) (ap (λ p. p.0) w.next_word.ensures) in
          rw w.self-inside-is
          (ap (λ l. get_or l 0 0 ∷ []) word
          ∙ ap (λ b. b ∷ []) (key_stream-at key number next 0 (place_of next c.self.inside.left) in_stream (omega arith) at)
          ∙ here)
      | else-self-eq0 w ↦
          let some : 0 < c.self.inside.left = omega arith in
          let few : c.self.inside.left ≤ 4 = omega (arith, c.self.invariant.in_word) in
          rw w.self-inside-is
          (ap (λ l. get_or l (4 - c.self.inside.left) 0 ∷ []) (c.self.invariant.last_word some)
          ∙ ap (λ b. b ∷ []) (held_byte key number next c.self.inside.left in_stream some few)
          ∙ here)
    ]
