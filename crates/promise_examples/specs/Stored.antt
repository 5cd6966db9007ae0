-- What laws say of a file that a session stored, and that it or a later one fetched.
use Rattle.std.specs.Prelude.{◌≡◌, ◌++◌, ℕ, false, true, List, [], ◌∷◌, Some, length, slice_get}
use Rattle.pot_bytes.specs.declared.digest.Digest.{Digest}
use Rattle.pot_bytes.specs.Digests.{digest_of}
use Rattle.pot_bytes.specs.Lists.{AreBytes}
use Rattle.pot_bytes.specs.Rack.{log_bound}
use Rattle.pot_outside.specs.Accounts.{Transition}
use Rattle.pot_outside.specs.Rooms.{RoomState}
use Rattle.pot_machine.specs.declared.entry.Entry.{Entry}
use Rattle.pot_script.specs.declared.reply.Reply.{Reply}
use Rattle.pot_script.specs.declared.reply.Reply.TheVariants as replies
use Rattle.pot_script.specs.Steps.{IsWholeStep}
use Rattle.std.specs.List.{AllByRecursion}
use Rattle.pot_shard.specs.FileBlocks.{file_blocks}
use Rattle.pot_shard.specs.Places.{place_at}
use Rattle.pot_veil.specs.Veiled.{Spot, is_seen}
use Rattle.pot_image.specs.Images.{Contents}
use Rattle.pot_image.specs.Rules.{FitsTogether}
use Rattle.pot_replies.specs.Digests.{NoTwoAlike}
use Rattle.pot_replies.specs.Sections.{Section, FollowsSection}
use Rattle.pot_replies.specs.Sessions.{Replied}
use Rattle.pot_replies.specs.Stores.{Placed, place_of}
use Rattle.pot_commands.specs.Rows.{Row}
use Rattle.pot_commands.specs.Steps.{steps_of}
use Rattle.pot_session.specs.Serving as serving
use Rattle.pot_session.specs.Serving.{setting_of}
use Rattle.pot_promises.specs.Chains.{BeginsFrom, IsSession, LeavesImage}
use Rattle.pot_promises.specs.Odds.{WasOdd}
use Rattle.pot_promises.specs.Renewed.{WasRenewed, split_blocks}
use Rattle.pot_promises.specs.Veils.{HasStored, stream_blocks}
use Rattle.promise_examples.specs.Scripts.{batch, fetches, file, geometry, name, renewed, renews}
use Rattle.promise_examples.specs.Scripts.{said, script, stored, stores}

-- GIVEN BACK

-- A session that answers the script gives the file, if no other text has its digest.
abbrev pub GivenBack : Type 0
GivenBack =
    (seed : List ℕ) (first last : Contents) (listed : Reply) (bytes : List ℕ)
    → IsSession seed first last script (said listed (replies.File name bytes))
    → NoTwoAlike (file ∷ bytes ∷ []) → bytes ≡ file

-- One session stores it, another one closes, and a third one fetches it.
abbrev pub GivenBackByTheThird : Type 0
GivenBackByTheThird =
    (seed : List ℕ) (first last : Contents)
    → IsSession seed first last stores (stored ∷ [])
    → (begun left : Contents) → BeginsFrom last begun → LeavesImage begun left
    → (other : List ℕ) (third end : Contents) → BeginsFrom left third
    → (listed : Reply) (bytes : List ℕ)
    → IsSession other third end fetches (listed ∷ replies.File name bytes ∷ [])
    → NoTwoAlike (file ∷ bytes ∷ []) → bytes ≡ file

-- WHAT A FETCH SAYS

-- A fetch of the stored file says none of what it may not say: not `absent`, not other bytes, not
-- `logfull` of a log that has room, not `odd` of another digest.
pub record SaysSo (last : Contents) (r : Reply) : Type 0 where
  pub absent : (given : List ℕ) → r ≡ replies.Absent given → ⊥
  pub bytes : (given bytes : List ℕ) → r ≡ replies.File given bytes
      → NoTwoAlike (file ∷ bytes ∷ []) → bytes ≡ file
  pub full : (group : ℕ) (log : List Entry) → r ≡ replies.LogFull group
      → slice_get last.group_logs group ≡ Some log → length log ≡ log_bound
  pub odd : (given : List ℕ) (wanted got : Digest) → r ≡ replies.Odd given wanted got
      → wanted ≡ digest_of file

abbrev pub FetchSaysSo : Type 0
FetchSaysSo =
    (seed : List ℕ) (first last : Contents) (room : Transition RoomState) (missing : List ℕ)
    (story : Section)
    → FitsTogether first → serving.Leaves room missing first last story
    → (done later : Section) → FollowsSection done later story → (listed r : Reply)
    → Replied (Row (setting_of seed first)) 1 (steps_of script) (said listed r) done
    → AllByRecursion (IsWholeStep first.rack) script → SaysSo last r

-- So it is where the file was stored in the session before.
abbrev pub NextFetchSaysSo : Type 0
NextFetchSaysSo =
    (before : List ℕ) (begun left : Contents) → IsSession before begun left stores (stored ∷ [])
    → (seed : List ℕ) (first last : Contents) (room : Transition RoomState) (missing : List ℕ)
    (story : Section) → BeginsFrom left first
    → FitsTogether first → serving.Leaves room missing first last story
    → (done later : Section) → FollowsSection done later story → (listed r : Reply)
    → Replied (Row (setting_of seed first)) 1 (steps_of fetches) (listed ∷ r ∷ []) done
    → AllByRecursion (IsWholeStep first.rack) fetches → SaysSo last r

-- ODD

-- Where the fetch is odd, two different ones of the blocks that it read and of those that the first
-- job of the session put have one digest.
abbrev pub OddHasCause : Type 0
OddHasCause =
    (seed : List ℕ) (first last : Contents) (listed : Reply) (wanted got : Digest)
    → (session : IsSession seed first last script (said listed (replies.Odd name wanted got)))
    → (read : List (List ℕ))
    × WasOdd read seed first script session.replied.ones 1 1 name wanted got
    × (NoTwoAlike (stream_blocks seed first 1 file ++ read) → ⊥)

-- So it is in the session after the one that stored the file, of the record that this one left.
abbrev pub NextOddHasCause : Type 0
NextOddHasCause =
    (before : List ℕ) (begun left : Contents) → IsSession before begun left stores (stored ∷ [])
    → (seed : List ℕ) (first last : Contents) (listed : Reply) (wanted got : Digest)
    → BeginsFrom left first
    → (session : IsSession seed first last fetches (listed ∷ replies.Odd name wanted got ∷ []))
    → (read : List (List ℕ))
    × (was : WasOdd read seed first fetches session.replied.ones 0 1 name wanted got)
    × (was.odd.kept.older ≡ [] → NoTwoAlike (stream_blocks before begun 1 file ++ read) → ⊥)

-- So it is of the split of the store where the fetch is a line of its batch.
abbrev pub BatchOddHasCause : Type 0
BatchOddHasCause =
    (seed : List ℕ) (first last : Contents) (wanted got : Digest)
    → (session : IsSession seed first last batch (stored ∷ replies.Odd name wanted got ∷ []))
    → (read : List (List ℕ))
    × (was : WasOdd read seed first batch session.replied.ones 0 1 name wanted got)
    × (was.odd.kept.older ≡ [] → NoTwoAlike (stream_blocks seed first 1 file ++ read) → ⊥)

-- Where a line of a batch renewed the file, and the fetch in it found the new split: two different
-- ones of the blocks that it read and of those that the renewal put have one digest, unless another
-- text than the file was renewed, which has its digest.
abbrev pub RenewedOddHasCause : Type 0
RenewedOddHasCause =
    (seed : List ℕ) (first last : Contents) (wanted got : Digest)
    → (session : IsSession seed first last renews
    (stored ∷ renewed ∷ replies.Odd name wanted got ∷ []))
    → (read : List (List ℕ))
    × (was : WasOdd read seed first renews session.replied.ones 1 1 name wanted got)
    × (it : WasRenewed seed first renews session.replied.ones 1 0 name geometry 1 2)
    × (length was.odd.kept.older ≡ length it.renewed.now.older
    → NoTwoAlike (file ∷ it.renewed.all.file ∷ [])
    → NoTwoAlike (split_blocks seed first 2 geometry file ++ read) → ⊥)

-- So it is in the session after the one that renewed it.
abbrev pub NextRenewedOddHasCause : Type 0
NextRenewedOddHasCause =
    (before : List ℕ) (begun left : Contents) (r : Reply)
    → (one : IsSession before begun left renews (stored ∷ renewed ∷ r ∷ []))
    → (seed : List ℕ) (first last : Contents) (listed : Reply) (wanted got : Digest)
    → BeginsFrom left first
    → (session : IsSession seed first last fetches (listed ∷ replies.Odd name wanted got ∷ []))
    → (read : List (List ℕ))
    × (was : WasOdd read seed first fetches session.replied.ones 0 1 name wanted got)
    × (it : WasRenewed before begun renews one.replied.ones 1 0 name geometry 1 2)
    × (length was.odd.kept.older ≡ length it.renewed.now.older
    → NoTwoAlike (file ∷ it.renewed.all.file ∷ [])
    → NoTwoAlike (split_blocks before begun 2 geometry file ++ read) → ⊥)

-- THE VEIL

-- With some random bytes the second block of the other file has the digest that was put.
pub record LooksTheSame (first : Contents) (other : List ℕ) (digest : Digest) : Type 0 where
  pub random : List ℕ
  pub block : List ℕ
  pub its : slice_get (file_blocks first.rack.geometry other random) 1 ≡ Some block
  pub digest_is : digest ≡ digest_of block

-- Who has the place of the second block, and not that of the first one, sees of every other file of
-- one byte the digest that the store put there.
abbrev pub StoredIsVeiled : Type 0
StoredIsVeiled =
    (seed : List ℕ) (first last : Contents) → first.rack.geometry ≡ geometry
    → (session : IsSession seed first last stores (stored ∷ []))
    → (its : HasStored seed first 1 name file 1 2 session.done)
    × ((coalition : List Spot)
    → is_seen coalition (place_at first.rack.geometry its.kept.places 0 0 0) ≡ false
    → (x : Placed) → slice_get its.placed 1 ≡ Some x → is_seen coalition (place_of x) ≡ true
    → (other : List ℕ) → AreBytes other → length other ≡ 1 → LooksTheSame first other x.digest)
