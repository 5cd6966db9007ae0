-- What a disk in memory reads.
use Rattle.std.proofs.Common.{◌≡◌, ◌+◌, ◌-◌, ◌<◌, ◌≤◌, ℕ, Bool, true, false, List, [], ◌∷◌, length, map, drop, get_or, inl, inr, refl, sym, ◌∙◌, ap, arith}
use Rattle.std.proofs.lemmas.Bool.{cases_lt}
use Rattle.std.proofs.lemmas.Bool.Decides.{nat_tests}
use Rattle.std.proofs.lemmas.List.{at_drop_more, at_drop_all, get_or-replicate, get_or_past, length-replicate}
use Rattle.std.proofs.lemmas.List.FromFn.{length-map-range_with_len, get_or-map-range_with_len}
use Rattle.std.proofs.lemmas.Grind.{same_number_lists}
use Rattle.std.specs.Prelude.{nat_lt, if◌then◌else◌, replicate, not, ◌&&◌, ◌⊎◌}
use Rattle.pot_outside.specs.Disks.{DiskCall, Wrote, Synced, seen, bytes_at, IsPending, IsCrashImage}
use Rattle.pot_doubles.specs.declared.disk.Note.{Note}
use Rattle.pot_doubles.specs.Disks.{call_of, is_write, with_ones, filled, left_by}

pub seen_nothing : (place : ℕ) → seen [] place ≡ 0
unfolding seen
seen_nothing place = refl

pub seen_write : (at : ℕ) (bytes : List ℕ) (older : List DiskCall) (place : ℕ) → seen (Wrote at bytes ∷ older) place ≡ (if nat_lt place at then seen older place else get_or bytes (place - at) (seen older place))
unfolding seen
seen_write at bytes older place = refl

pub seen_sync : (older : List DiskCall) (place : ℕ) → seen (Synced ∷ older) place ≡ seen older place
unfolding seen
seen_sync older place = refl

-- the notes from one on, and what that one adds
pub seen_from : (notes : List Note) (i : ℕ) (note : Note) (place : ℕ) → i < length notes → note ≡ get_or notes i note
    → seen (map call_of (drop i notes)) place ≡ seen (call_of note ∷ map call_of (drop (i + 1) notes)) place
seen_from notes i note place lt is =
    at_drop_more (λ (l : List Note). seen (map call_of l) place) notes i note lt
    ∙ ap (λ (n : Note). seen (call_of n ∷ map call_of (drop (i + 1) notes)) place) (sym is)

pub seen_end : (notes : List Note) (i place : ℕ) → length notes ≤ i → seen (map call_of (drop i notes)) place ≡ 0
seen_end notes i place le = at_drop_all (λ (l : List Note). seen (map call_of l) place) notes i le ∙ seen_nothing place

-- a list that has what a function gives at each place from one on
pub is_bytes_at : (f : ℕ → ℕ) (xs : List ℕ) (at n : ℕ) → length xs ≡ n → ((j : ℕ) → j < n → get_or xs j 0 ≡ f (at + j)) → xs ≡ bytes_at f at n
is_bytes_at f xs at n size each =
    same_number_lists xs (bytes_at f at n) (size ∙ sym (length-map-range_with_len f at n)) (λ j lt.
    let within : j < n = omega (arith, lt, size) in
    each j within ∙ sym (get_or-map-range_with_len f at n j (at + j) 0 within refl))

pub left_by_write : (from : ℕ) (bytes shown : List ℕ) (place b : ℕ) (older : List DiskCall) → shown ≡ bytes
    → b ≡ (if nat_lt place from then seen older place else get_or shown (place - from) (seen older place)) → b ≡ seen (Wrote from bytes ∷ older) place
left_by_write from bytes shown place b older same is =
    is ∙ (ap (λ (l : List ℕ). if nat_lt place from then seen older place else get_or l (place - from) (seen older place)) same ∙ sym (seen_write from bytes older place))

-- CRASHES

ones : (n k d : ℕ) → k < n → get_or (replicate n 1) k d ≡ 1
ones n k d lt = get_or-replicate n k 1 d lt

filled_at : (calls : List DiskCall) (place : ℕ) → (seen (filled calls) place ≡ seen calls place) ⊎ (IsPending calls place × (seen (filled calls) place < 256))
unfolding seen IsPending
filled_at [] place = inl refl
filled_at (Synced ∷ older) place = inl refl
filled_at (Wrote at bytes ∷ older) place = elim (cases_lt place at) [
  | inl lt ↦
      let test : nat_lt place at ≡ true = grind (arith, nat_tests) in
      elim (filled_at older place) [
        | inl same ↦ inl (rw test same)
        | inr (pending, small) ↦ inr (inr pending, rw test small)
      ]
  | inr le ↦
      let test : nat_lt place at ≡ false = grind (arith, nat_tests) in
      elim (cases_lt (place - at) (length bytes)) [
        | inl within ↦
            let one = ones (length bytes) (place - at) (seen (filled older) place) within in
            inr (inl (le, omega arith), rw (test, one) (omega arith))
        | inr past ↦
            let gone = get_or_past bytes (place - at) (seen older place) past in
            let long : length (replicate (length bytes) 1) ≤ place - at = omega (arith, past, length-replicate {A = ℕ} (length bytes) 1) in
            let gone1 = get_or_past (replicate (length bytes) 1) (place - at) (seen (filled older) place) long in
            elim (filled_at older place) [
              | inl same ↦ inl (rw test (gone1 ∙ (same ∙ sym gone)))
              | inr (pending, small) ↦ inr (inr pending, rw (test, gone1) small)
            ]
      ]
]

pub crash_image : (keep : Bool) (calls left : List DiskCall) → left ≡ Synced ∷ left_by keep calls → IsCrashImage calls (seen left)
crash_image true calls left is place = inl (ap (λ (l : List DiskCall). seen l place) is ∙ seen_sync calls place)
crash_image false calls left is place =
    let same : seen left place ≡ seen (filled calls) place = ap (λ (l : List DiskCall). seen l place) is ∙ seen_sync (filled calls) place in
    elim (filled_at calls place) [
      | inl e ↦ inl (same ∙ e)
      | inr (pending, small) ↦ inr (pending, omega (arith, same, small))
    ]

-- one note more
pub left_more : (filling : Bool) (call : DiskCall) (older : List DiskCall)
    → left_by (not filling) (call ∷ older) ≡ (if filling && is_write call then with_ones call else call) ∷ left_by (not (filling && is_write call)) older
left_more false call older = refl
left_more true (Wrote at bytes) older = refl
left_more true Synced older = refl
