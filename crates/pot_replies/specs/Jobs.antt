-- Of what kind an entry in the log of a group is.
use Rattle.std.specs.Prelude.{◌≡◌, ◌<◌, ◌⊎◌, ℕ, ◌==◌, ◌&&◌, Bool, true, false, List, [], ◌∷◌}
use Rattle.std.specs.Prelude.{Contains}
use Rattle.pot_machine.specs.declared.entry.Entry.{Entry}
use Rattle.pot_machine.specs.declared.entry.Entry.TheVariants.{Seen, Gone, Fault, Begin, Hop}
use Rattle.pot_machine.specs.declared.entry.Entry.TheVariants.{Mended, GaveUp, Oddly, Stuck}
use Rattle.pot_machine.specs.declared.entry.Entry.TheVariants.{MoveBegin, Moved, MoveEnd}

abbrev pub is_seen : Entry → Bool
is_seen (Seen job s c) = true
is_seen _ = false

abbrev pub is_gone : Entry → Bool
is_gone (Gone job s c) = true
is_gone _ = false

-- a look of any place
abbrev pub is_look : Entry → Bool
is_look (Seen job s c) = true
is_look (Gone job s c) = true
is_look _ = false

abbrev pub is_seen_at : ℕ → ℕ → Entry → Bool
is_seen_at s c (Seen job stripe column) = (stripe == s) && (column == c)
is_seen_at s c _ = false

abbrev pub is_look_at : ℕ → ℕ → Entry → Bool
is_look_at s c (Seen job stripe column) = (stripe == s) && (column == c)
is_look_at s c (Gone job stripe column) = (stripe == s) && (column == c)
is_look_at s c _ = false

abbrev pub is_stuck_at : ℕ → ℕ → Entry → Bool
is_stuck_at s c (Stuck job stripe column other) = (stripe == s) && (column == c)
is_stuck_at s c _ = false

abbrev pub is_mended : Entry → Bool
is_mended (Mended job s c) = true
is_mended _ = false

-- a place that was left unmended
abbrev pub is_left : Entry → Bool
is_left (Stuck job s c o) = true
is_left (Oddly job s c f) = true
is_left _ = false

-- what a repair logs
abbrev pub is_relay : Entry → Bool
is_relay (Begin job s c) = true
is_relay (Hop job s c) = true
is_relay (Mended job s c) = true
is_relay (GaveUp job s c o) = true
is_relay (Oddly job s c f) = true
is_relay (Stuck job s c o) = true
is_relay _ = false

-- the end of the relay of a stripe
abbrev pub ends_relay : ℕ → Entry → Bool
ends_relay s (Mended job stripe c) = stripe == s
ends_relay s (GaveUp job stripe c o) = stripe == s
ends_relay s (Oddly job stripe c f) = stripe == s
ends_relay s _ = false

abbrev pub is_move_begin : Entry → Bool
is_move_begin (MoveBegin job c to) = true
is_move_begin _ = false

-- a step or the end of a move of a column
abbrev pub is_move_of : ℕ → Entry → Bool
is_move_of c (Moved job s column k) = column == c
is_move_of c (MoveEnd job column) = column == c
is_move_of c _ = false

-- a step that copied a block
abbrev pub is_copied : Entry → Bool
is_copied (Moved job s c k) = k
is_copied _ = false

-- each of the entries is of this kind
abbrev pub EachIs : (Entry → Bool) → List Entry → Type 0
EachIs test entries = (e : Entry) → Contains entries e → test e ≡ true

-- the places of looks, and of what failed
abbrev pub place_in : Entry → ℕ × ℕ
place_in (Seen job s c) = (s, c)
place_in (Gone job s c) = (s, c)
place_in (Fault job s c) = (s, c)
place_in _ = (0, 0)

-- a place comes before another, by stripe and then by column
abbrev pub Precedes : ℕ × ℕ → ℕ × ℕ → Type 0
Precedes p q = (p.0 < q.0) ⊎ ((p.0 ≡ q.0) × (p.1 < q.1))

abbrev pub PlacesAscendFrom : ℕ × ℕ → List (ℕ × ℕ) → Type 0
PlacesAscendFrom p [] = Unit {0}
PlacesAscendFrom p (q ∷ qs) = Precedes p q × PlacesAscendFrom q qs

-- each place comes before the next
abbrev pub Ascend : List (ℕ × ℕ) → Type 0
Ascend [] = Unit {0}
Ascend (p ∷ ps) = PlacesAscendFrom p ps
