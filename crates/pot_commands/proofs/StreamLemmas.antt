-- A text that is written piece by piece.
use Rattle.std.proofs.Common.{◌≡◌, ◌≤◌, ◌+◌, ◌++◌, ℕ, List, [], length, take, drop, refl, ap, sym, ◌∙◌, arith, Result, Ok, Err, IsErr, append_assoc, append-nil, length-append}
use Rattle.std.proofs.lemmas.List.{take-append-drop}
use Rattle.std.proofs.Math.Seq.{take-append-add}
use Rattle.pot_commands.specs.Streams.{WritesText, WroteSome}
use Rattle.pot_outside.specs.Accounts.{Transition}
use Rattle.pot_outside.specs.declared.faults.Failed.{Failed}

-- a first part of the text was written, and this is the rest
pub record IsPartWritten (before now text rest : List ℕ) : Type 0 where
  pub done : List ℕ
  pub parts : text ≡ done ++ rest
  pub written : now ≡ before ++ done

pub nothing_written : (before text : List ℕ) → IsPartWritten before before text text
nothing_written before text = record { done = []; parts = refl; written = sym (append-nil before) }

pub more_written : (before now text rest : List ℕ) (count : ℕ) (new : List ℕ) → IsPartWritten before now text rest
    → new ≡ now ++ take count rest → IsPartWritten before new text (drop count rest)
more_written before now text rest count new p e = record {
  done = p.done ++ take count rest;
  parts = p.parts ∙ ap (λ r. p.done ++ r) (sym (take-append-drop count rest)) ∙ sym (append_assoc p.done (take count rest) (drop count rest));
  written = e ∙ ap (λ r. r ++ take count rest) p.written ∙ append_assoc before p.done (take count rest);
}

pub all_written : (before now text rest : List ℕ) → IsPartWritten before now text rest → rest ≡ [] → now ≡ before ++ text
all_written before now text rest p e =
    p.written ∙ ap (λ r. before ++ r) (sym (append-nil p.done) ∙ ap (λ r. p.done ++ r) (sym e) ∙ sym p.parts)

pub cut_off : (before now text rest : List ℕ) (count : ℕ) (new : List ℕ) → IsPartWritten before now text rest
    → count ≤ length rest → new ≡ now ++ take count rest
    → (k : ℕ) × (k ≤ length text) × (new ≡ before ++ take k text)
cut_off before now text rest count new p h e = (
  length p.done + count,
  omega (arith, ap (λ t. length t) p.parts, length-append p.done rest),
  e ∙ ap (λ r. r ++ take count rest) p.written ∙ append_assoc before p.done (take count rest)
      ∙ ap (λ r. before ++ r) (sym (take-append-add p.done rest count) ∙ ap (λ t. take (length p.done + count) t) (sym p.parts)),
)

pub is_cut_off : (sink : Transition (List ℕ)) (text : List ℕ) (r : Result (Unit {0}) Failed) → IsErr r → WroteSome sink text → WritesText sink text r
is_cut_off sink text (Ok u) h p = absurd (cc)
is_cut_off sink text (Err e) h p = p
