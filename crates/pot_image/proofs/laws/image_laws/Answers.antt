use Rattle.pot_image.proofs.ImageBack.{fields_back, answers_back, written_apart, countable}
use Rattle.pot_image.proofs.ImageSpelled.{one_spelling, as_written, one_whole, whole_as_written}
use Rattle.pot_image.proofs.Smallest.{is_image}
use Rattle.pot_image.proofs.laws.image_laws.Goals as goal

pub returns : goal.returns
returns c = record { fields = fields_back; back = λ v r is a. answers_back v is r a; apart = written_apart; countable = countable; some = is_image; one = one_spelling; written = as_written; one_image = one_whole; image_written = whole_as_written }
