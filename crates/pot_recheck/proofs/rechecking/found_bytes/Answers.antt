use Rattle.std.proofs.Common.{◌≡◌, IfOk, ap, subst}
use Rattle.pot_image.specs.Images.{contents}
use Rattle.pot_image.specs.Rules.{IsImage}
use Rattle.pot_image.specs.Spelling.{image_bytes}
use Rattle.pot_recheck.specs.Finding.{IsFound}
use Rattle.pot_recheck.proofs.LiveLemmas.{found_countable, found_image, on_ok}
use Rattle.pot_recheck.proofs.OnceLemmas.{all_found}
use Rattle.pot_recheck.proofs.rechecking.found_bytes.Goals as goal

pub write_image-requires : goal.write_image-requires
write_image-requires c = found_countable c.args.found.now c.args.image _ c.requires.read c.requires.fits c.in_ok-find_again.ensures.found

pub returns-clause-bytes : goal.returns-clause-bytes
returns-clause-bytes c =
    let v = contents c.args.image in let w = contents c.find_again.new.image in
    subst (λ x. IfOk c.write_image.result (λ bytes. bytes.items ≡ x)) (ap image_bytes (all_found v w c.requires.fits (subst (λ f. IsFound f v w) c.requires.all c.in_ok-find_again.ensures.found))) c.write_image.ensures.bytes

pub returns-clause-rules : goal.returns-clause-rules
returns-clause-rules c =
    let v = contents c.args.image in let w = contents c.find_again.new.image in
    on_ok c.write_image.result
    (λ whole. subst IsImage (all_found v w c.requires.fits (subst (λ f. IsFound f v w) c.requires.all c.in_ok-find_again.ensures.found))
    (found_image c.args.found.now c.args.image c.find_again.new.image c.requires.read c.requires.fits c.in_ok-find_again.ensures.found whole)) c.write_image.ensures.whole
