-- The parts of a file joined, and the names of parts.
use Rattle.std.proofs.Common.{◌≡◌, ◌≤◌, ◌+◌, ◌*◌, ℕ, List, ◌++◌, length, take, drop, sym, ap, ◌∙◌, suc, zero, arith}
use Rattle.std.specs.Prelude.{flat_map}
use Rattle.std.specs.List.{range_with_len}
use Rattle.std.proofs.lemmas.List.{take-append-drop, drop-drop, drop_all}
use Rattle.pot_client.specs.Parts.{part_count, part_of}

-- the parts from number a on are what stands from there on
parts_from : (file : List ℕ) (n a : ℕ) → length file ≤ a * 884736 + n * 884736 → flat_map (part_of file) (range_with_len a n) ≡ drop (a * 884736) file
parts_from file zero a all = sym (drop_all (a * 884736) file (omega (arith, all)))
parts_from file (suc n) a all =
    ap (λ (t : List ℕ). take 884736 (drop (a * 884736) file) ++ t) (parts_from file n (a + 1) (omega (arith, all)) ∙ ap (λ (i : ℕ). drop i file) (omega arith) ∙ sym (drop-drop 884736 (a * 884736) file))
    ∙ take-append-drop 884736 (drop (a * 884736) file)

pub parts_join : (file : List ℕ) → flat_map (part_of file) (range_with_len 0 (part_count (length file))) ≡ file
parts_join file = parts_from file (part_count (length file)) 0 (omega arith)
