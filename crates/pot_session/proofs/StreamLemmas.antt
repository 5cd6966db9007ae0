-- A source that was read out.
use Rattle.std.proofs.Common.{◌≡◌, ◌≤◌, ◌+◌, ◌++◌, ℕ, List, length, take, drop, ap, sym, ◌∙◌, append-nil, arith, length-append, length-take}
use Rattle.std.proofs.Math.Seq.{drop-append_seam}
use Rattle.std.proofs.lemmas.List.{append_assoc}
use Rattle.pot_outside.specs.Accounts.{Transition}
use Rattle.pot_session.specs.Streams.{IsReadOut, ReadsAtMost}

-- a source that is not longer than the limit was read whole
pub whole_source : (source : Transition (List ℕ)) (bytes : List ℕ) (limit : ℕ) → IsReadOut source bytes limit → length bytes ≤ limit → source.before ≡ bytes
whole_source source bytes limit read short = read.first ∙ ap (λ rest. bytes ++ rest) (read.all short) ∙ append-nil bytes

-- what was read stands before what is left
pub behind : (source : Transition (List ℕ)) (bytes : List ℕ) (most : ℕ) → source.before ≡ bytes ++ source.after → length bytes ≤ most → ReadsAtMost most source
behind source bytes most e few = (length bytes, few, sym (ap (drop (length bytes)) e ∙ drop-append_seam bytes source.after))

-- and so do the next bytes
pub read_on : (source : Transition (List ℕ)) (middle bytes into : List ℕ) (count most : ℕ) → source.before ≡ bytes ++ middle → middle ≡ take count into ++ source.after
    → length bytes + count ≤ most → ReadsAtMost most source
read_on source middle bytes into count most e f fits =
    behind source (bytes ++ take count into) most (e ∙ ap (λ rest. bytes ++ rest) f ∙ sym (append_assoc bytes (take count into) source.after))
    (omega (arith, length-append bytes (take count into), length-take count into, fits))
