use Rattle.std.proofs.Common.{ℕ, ◌%◌, List, get_or, ap, ◌∙◌}
use Rattle.pot_client.proofs.NameLemmas.{low_digits}
use Rattle.pot_client.proofs.naming.read_digits.Goals as goal

pub returns-in_err-back : goal.returns-in_err-back
returns-in_err-back c =
    rw c.from_residual-in_err-back.ensures (λ n small e.
    let low = low_digits n in
    c.in_err-back.ensures (n % 100) low.0 (ap (λ (l : List ℕ). get_or l 2 0) e ∙ low.1) (ap (λ (l : List ℕ). get_or l 3 0) e ∙ low.2))
