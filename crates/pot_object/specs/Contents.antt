-- The bytes of a content.
use Rattle.std.specs.Prelude.{◌≡◌, ◌≤◌, ℕ, List, ◌++◌, ◌∷◌, length, take, drop, replicate}
use Rattle.std.specs.Prelude.{slice_index}
use Rattle.pot_object.specs.Pieces.{content_size}
use Rattle.pot_object.specs.Sealing.{sealed}
use Rattle.pot_object.specs.declared.content.FragmentHead.{FragmentHead}

-- the object id, the fragment's number, the number of fragments, and zeros up to 32 bytes
unfoldable pub fragment_head_bytes : FragmentHead → List ℕ
fragment_head_bytes h = h.object_id ++ h.number ∷ h.count ∷ replicate 14 0

-- the content that carries a fragment under this head
unfoldable pub content_bytes : FragmentHead → List ℕ → List ℕ
content_bytes h part = sealed (fragment_head_bytes h) part

-- the content of fragment `number` of `count` of an object
abbrev pub content : List ℕ → ℕ → ℕ → List ℕ → List ℕ
content id number count part =
    content_bytes (record { object_id = id; number = number; count = count }) part

-- a head that some fragment has
pub record IsFragmentHead (h : FragmentHead) : Type 0 where
  pub id : length h.object_id ≡ 16
  pub two : 2 ≤ h.count
  pub eight : h.count ≤ 8
  pub first : 1 ≤ h.number
  pub last : h.number ≤ h.count

-- these bytes are the content of this head and of the fragment that stands from byte 64 on
pub record IsContent (h : FragmentHead) (bytes : List ℕ) : Type 0 where
  pub long : length bytes ≡ content_size
  pub head : IsFragmentHead h
  pub spelled : bytes ≡ content_bytes h (drop 64 bytes)

-- the fields where a head has them
abbrev pub fragment_head_at : List ℕ → FragmentHead
fragment_head_at bytes =
    record {
      object_id = take 16 bytes;
      number = slice_index bytes 16;
      count = slice_index bytes
          17;
    }
