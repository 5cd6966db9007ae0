use Rattle.std.proofs.Common.{Result, Ok, Err, IfOk}
use Rattle.pot_recheck.proofs.LiveLemmas.{found_countable, found_image, on_ok}
use Rattle.pots_rescue.proofs.finding.write_found.Goals as goal

-- what follows of the value of an answer
on_value : {T E : Type 0} (r : Result T E) {P Q : T → Type 0} → ((x : T) → P x → Q x) → IfOk r P → IfOk r Q
on_value (Ok x) f h = f x h
on_value (Err e) f h = tt

pub write_image-requires : goal.write_image-requires
write_image-requires c = found_countable c.args.found.now c.args.image _ c.requires.read c.requires.fits c.in_ok-find_again.ensures.found

pub returns-clause-bytes : goal.returns-clause-bytes
returns-clause-bytes c =
    on_value c.write_image.result
    (λ v e. (c.find_again.new.image, c.in_ok-find_again.ensures.found, e)) c.write_image.ensures.bytes

pub returns-clause-rules : goal.returns-clause-rules
returns-clause-rules c =
    on_ok c.write_image.result
    (λ whole. (
      c.find_again.new.image,
      c.in_ok-find_again.ensures.found,
      found_image c.args.found.now c.args.image c.find_again.new.image c.requires.read c.requires.fits c.in_ok-find_again.ensures.found whole,
    )) c.write_image.ensures.whole
