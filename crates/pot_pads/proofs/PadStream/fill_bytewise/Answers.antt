-- Each step writes the bytes that follow those written so far.
use Rattle.std.proofs.Common.{◌∙◌, ◌++◌, [], ◌∷◌, refl, arith, ap, sym, length-set}
use Rattle.std.proofs.lemmas.List.{take_more_set}
use Rattle.pot_pads.specs.Pads.{bytes_from, next_bytes, moved}
use Rattle.pot_pads.proofs.PadsLemmas.{next_bytes-append, moved-moved, moved-zero}
use Rattle.pot_pads.proofs.PadStream.fill_bytewise.Goals as goal

pub bytes-init : goal.bytes-init
unfolding bytes_from
bytes-init c =
    let place = ap (λ v. v.place) c.self.view_is in
    record { in_range = omega arith; written = refl; place = moved-zero c.args.self.now (omega (arith, place)) }

pub bytes-preserved : goal.bytes-preserved
bytes-preserved c =
    let before = c.args.self.now in
    let at = c.bytes.at in
    record {
      in_range = omega (arith, length-set c.bytes.out at c.next_byte.result);
      written =
          take_more_set c.bytes.out at c.next_byte.result c.bytes-test.true
          ∙ ap (λ l. l ++ c.next_byte.result ∷ []) c.bytes.invariant.written
          ∙ ap (λ l. next_bytes before at ++ l) (c.next_byte.ensures.byte ∙ ap (λ v. next_bytes v 1) c.bytes.invariant.place)
          ∙ sym (next_bytes-append before at 1);
      place = c.next_byte.ensures.place ∙ ap (λ v. moved v 1) c.bytes.invariant.place ∙ moved-moved before at 1;
    }
