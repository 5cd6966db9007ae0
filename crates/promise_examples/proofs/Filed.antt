-- A file that one step stored, and that the next one or a later session fetched.
use Rattle.std.proofs.Common.{◌≡◌, ℕ, zero, suc, ◌<◌, ◌≤◌, List, [], ◌∷◌, Some, None, false, refl, sym, subst, arith, length, ◌∙◌}
use Rattle.std.specs.Prelude.{slice_get}
use Rattle.pot_bytes.specs.declared.digest.Digest.{Digest}
use Rattle.pot_bytes.specs.declared.rack.Geometry.{Geometry}
use Rattle.pot_bytes.specs.declared.rack.Place.{Place}
use Rattle.pot_bytes.specs.declared.rack.Rack.{Rack}
use Rattle.pot_bytes.specs.Rack.{log_bound}
use Rattle.pot_outside.specs.Accounts.{Transition}
use Rattle.pot_outside.specs.Rooms.{RoomState}
use Rattle.pot_machine.specs.declared.entry.Entry.{Entry}
use Rattle.pot_script.specs.declared.command.Command.{Command}
use Rattle.pot_script.specs.declared.command.Command.TheVariants as commands
use Rattle.pot_script.specs.declared.grouping.Step.{Step}
use Rattle.pot_script.specs.declared.grouping.Step.TheVariants as steps
use Rattle.pot_script.specs.declared.reply.Reply.{Reply}
use Rattle.pot_script.specs.declared.reply.Reply.TheVariants as replies
use Rattle.pot_shard.specs.FileBlocks.{file_blocks}
use Rattle.pot_shard.specs.Places.{place_at}
use Rattle.pot_veil.specs.Veiled.{IsVeiledSplit, Split, Spot, is_seen, seen_points}
use Rattle.pot_image.specs.Images.{Contents}
use Rattle.pot_index.specs.Records.{current_of}
use Rattle.pot_audit.specs.Hiding.{places_of}
use Rattle.pot_replies.specs.Sections.{Section}
use Rattle.pot_promises.specs.Answers.{IsAnswered, CommandStandsAt}
use Rattle.pot_promises.specs.Chains.{Same, More}
use Rattle.pot_promises.specs.Fetched.{Before, FetchAnswers, Here, SaysOf, WasStored, blocks_put}
use Rattle.pot_promises.specs.Odds.{NeverOdd, NeverOddLater, NoneRenewed, OddReads}
use Rattle.pot_promises.specs.Renewed.{NeverOddRenewed, NeverOddRenewedLater, NeverOddTogether, RenewedShows}
use Rattle.pot_promises.specs.Promises.{GivesBack, GivesBackLater}
use Rattle.pot_promises.specs.Veils.{IsSameBlock, StaysVeiled}
use Rattle.promise_examples.specs.Scripts.{batch, fetches, file, geometry, name, renewed, renews, said, script, stored, stores}
use Rattle.promise_examples.specs.Stored.{BatchOddHasCause, FetchSaysSo, GivenBack, GivenBackByTheThird, LooksTheSame, NextFetchSaysSo, NextOddHasCause, NextRenewedOddHasCause, OddHasCause, RenewedOddHasCause, SaysSo, StoredIsVeiled}

-- THE REPLIES

-- the store is answered `stored`, alone and with the batch behind
store_alone : (rack : Rack) → IsAnswered rack stores (stored ∷ []) 0 0 (commands.Store name file) stored
store_alone rack = record { step = steps.One (commands.Store name file); there = refl; command = (refl, refl); reply = refl }

store_first : (rack : Rack) (listed r : Reply) → IsAnswered rack script (said listed r) 0 0 (commands.Store name file) stored
store_first rack listed r = record { step = steps.One (commands.Store name file); there = refl; command = (refl, refl); reply = refl }

-- the second line of the batch has the second reply
fetch_behind : (rack : Rack) (listed r : Reply) → IsAnswered rack script (said listed r) 1 1 (commands.Fetch name) r
fetch_behind rack listed r = record { step = steps.Together (commands.List ∷ commands.Fetch name ∷ []); there = refl; command = refl; reply = refl }

fetch_alone : (rack : Rack) (listed r : Reply) → IsAnswered rack fetches (listed ∷ r ∷ []) 0 1 (commands.Fetch name) r
fetch_alone rack listed r = record { step = steps.Together (commands.List ∷ commands.Fetch name ∷ []); there = refl; command = refl; reply = refl }

-- GIVEN BACK

pub given_back : GivesBack → GivenBack
given_back law seed first last listed bytes session alike =
    law seed first last script (said listed (replies.File name bytes)) session 0 0 1 1 (omega arith) name file name 1 2 (store_first first.rack listed (replies.File name bytes)) name bytes (fetch_behind first.rack listed (replies.File name bytes)) alike

pub given_back_later : GivesBackLater → GivenBackByTheThird
given_back_later law seed first last session begun left begins closed other third end begins_third listed bytes fetched alike =
    law seed first last stores (stored ∷ []) session 0 0 name file name 1 2 (store_alone first.rack) left (More Same begins closed) other third end fetches (listed ∷ replies.File name bytes ∷ []) begins_third fetched 0 1 name bytes (fetch_alone third.rack listed (replies.File name bytes)) alike

-- WHAT A FETCH SAYS

says_so : (seed : List ℕ) (first last : Contents) (room : Transition RoomState) (missing : List ℕ) (ss : List Step) (ones : List Section) (q j : ℕ) (put : List (List ℕ)) (w : Section) (r : Reply)
    → SaysOf seed first last room missing ss ones q j name file put w r → SaysSo last r
says_so seed first last room missing ss ones q j put w r says = record {
  absent = λ given e. subst (λ (x : Reply). SaysOf seed first last room missing ss ones q j name file put w x) e says;
  bytes = λ given bytes e. subst (λ (x : Reply). SaysOf seed first last room missing ss ones q j name file put w x) e says;
  full = λ group log e is. whole group log is (subst (λ (x : Reply). SaysOf seed first last room missing ss ones q j name file put w x) e says);
  odd = λ given wanted got e. (subst (λ (x : Reply). SaysOf seed first last room missing ss ones q j name file put w x) e says).0;
}
  where
    whole : (group : ℕ) (log : List Entry) → slice_get last.group_logs group ≡ Some log
        → (l : List Entry) × (slice_get last.group_logs group ≡ Some l) × (length l ≡ log_bound) → length log ≡ log_bound
    whole group log is (l, there, full) = subst (λ (x : List Entry). length x ≡ log_bound) (one l log (sym there ∙ is)) full
      where
        one : (l m : List Entry) → ◌≡◌ {A = _} (Some l) (Some m) → l ≡ m
        one l m e = cc

pub fetch_says_so : FetchAnswers → FetchSaysSo
fetch_says_so law seed first last room missing story fits leaves done later follows listed r replied whole =
    let was : WasStored name file first script (said listed r) 1 = Here 0 0 name 1 2 (omega arith) (store_first first.rack listed r) in
    let x = law seed first last room missing story fits leaves script (said listed r) done later follows replied whole 1 1 name file was r (fetch_behind first.rack listed r) in
    says_so seed first last room missing script replied.ones 1 1 (blocks_put seed name file first script (said listed r) 1 was) x.0 r x.2

pub next_fetch_says_so : FetchAnswers → NextFetchSaysSo
next_fetch_says_so law before begun left session seed first last room missing story begins fits leaves done later follows listed r replied whole =
    let was : WasStored name file first fetches (listed ∷ r ∷ []) 0 = Before before begun left left stores (stored ∷ []) session 0 0 name 1 2 (store_alone begun.rack) Same begins in
    let x = law seed first last room missing story fits leaves fetches (listed ∷ r ∷ []) done later follows replied whole 0 1 name file was r (fetch_alone first.rack listed r) in
    says_so seed first last room missing fetches replied.ones 0 1 (blocks_put seed name file first fetches (listed ∷ r ∷ []) 0 was) x.0 r x.2

-- ODD

none_renewed : (rack : Rack) (listed r : Reply) → NoneRenewed rack script (said listed r) 1 name
none_renewed rack listed r k i geometry given pieces shards le answered = by k le answered.step answered.there answered.command
  where
    alone : (x : Step) (i : ℕ) → ◌≡◌ {A = _} (Some (steps.One (commands.Store name file))) (Some x) → CommandStandsAt x i (commands.Renew name geometry) → ⊥
    alone (steps.One d) i e at = not_store (store_is d e ∙ at.1)
      where
        store_is : (d : Command) → ◌≡◌ {A = _} (Some (steps.One (commands.Store name file))) (Some (steps.One d)) → commands.Store name file ≡ d
        store_is d e = cc

        not_store : commands.Store name file ≡ commands.Renew name geometry → ⊥
        not_store e = cc
    alone (steps.Together lines) i e at = none lines e
      where
        none : (lines : List Command) → ◌≡◌ {A = _} (Some (steps.One (commands.Store name file))) (Some (steps.Together lines)) → ⊥
        none lines e = cc

    line : (i : ℕ) → slice_get (commands.List ∷ commands.Fetch name ∷ []) i ≡ Some (commands.Renew name geometry) → ⊥
    line zero e = cc
    line (suc zero) e = cc
    line (suc (suc i)) e = none e
      where
        none : ◌≡◌ {A = _} None (Some (commands.Renew name geometry)) → ⊥
        none e = cc

    behind : (x : Step) (i : ℕ) → ◌≡◌ {A = _} (Some (steps.Together (commands.List ∷ commands.Fetch name ∷ []))) (Some x) → CommandStandsAt x i (commands.Renew name geometry) → ⊥
    behind x i e at = line i (subst (λ (y : Step). CommandStandsAt y i (commands.Renew name geometry)) (is x e) at)
      where
        is : (x : Step) → ◌≡◌ {A = _} (Some (steps.Together (commands.List ∷ commands.Fetch name ∷ []))) (Some x) → x ≡ steps.Together (commands.List ∷ commands.Fetch name ∷ [])
        is x e = cc

    by : (k : ℕ) → k ≤ 1 → (x : Step) → slice_get script k ≡ Some x → CommandStandsAt x i (commands.Renew name geometry) → ⊥
    by zero le x e at = alone x i e at
    by (suc zero) le x e at = behind x i e at
    by (suc (suc k)) le x e at = absurd (omega (arith, le))

pub odd_has_cause : OddReads → NeverOdd → OddHasCause
odd_has_cause reads law seed first last listed wanted got session =
    let r = replies.Odd name wanted got in
    let x = reads seed first last script (said listed r) session 1 1 name name wanted got (fetch_behind first.rack listed r) in (
      x.0,
      x.1,
      law seed first last script (said listed r) session 0 0 1 1 (omega arith) name file name 1 2 (store_first first.rack listed r) (none_renewed first.rack listed r) x.0 wanted got x.1,
    )

pub next_odd_has_cause : OddReads → NeverOddLater → NextOddHasCause
next_odd_has_cause reads law before begun left stored_it seed first last listed wanted got begins session =
    let r = replies.Odd name wanted got in
    let x = reads seed first last fetches (listed ∷ r ∷ []) session 0 1 name name wanted got (fetch_alone first.rack listed r) in (
      x.0,
      x.1,
      law before begun left stores (stored ∷ []) stored_it 0 0 name file name 1 2 (store_alone begun.rack) left Same seed first last fetches (listed ∷ r ∷ []) begins session 0 1 x.0 wanted got x.1,
    )

pub batch_odd_has_cause : OddReads → NeverOddTogether → BatchOddHasCause
batch_odd_has_cause reads law seed first last wanted got session =
    let r = replies.Odd name wanted got in
    let lines : Step = steps.Together (commands.Store name file ∷ commands.Fetch name ∷ []) in
    let x = reads seed first last batch (stored ∷ r ∷ []) session 0 1 name name wanted got (record { step = lines; there = refl; command = refl; reply = refl }) in (
      x.0,
      x.1,
      law seed first last batch (stored ∷ r ∷ []) session 0 0 0 1 name file name 1 2 (record { step = lines; there = refl; command = refl; reply = refl }) x.0 wanted got x.1,
    )

-- the lines of the batch that renews
renews_first : (rack : Rack) (r : Reply) → IsAnswered rack renews (stored ∷ renewed ∷ r ∷ []) 0 0 (commands.Store name file) stored
renews_first rack r = record { step = steps.One (commands.Store name file); there = refl; command = (refl, refl); reply = refl }

renews_line : (rack : Rack) (r : Reply) → IsAnswered rack renews (stored ∷ renewed ∷ r ∷ []) 1 0 (commands.Renew name geometry) renewed
renews_line rack r = record { step = steps.Together (commands.Renew name geometry ∷ commands.Fetch name ∷ []); there = refl; command = refl; reply = refl }

fetch_beside : (rack : Rack) (r : Reply) → IsAnswered rack renews (stored ∷ renewed ∷ r ∷ []) 1 1 (commands.Fetch name) r
fetch_beside rack r = record { step = steps.Together (commands.Renew name geometry ∷ commands.Fetch name ∷ []); there = refl; command = refl; reply = refl }

pub renewed_odd_has_cause : OddReads → RenewedShows → NeverOddRenewed → RenewedOddHasCause
renewed_odd_has_cause reads shows law seed first last wanted got session =
    let r = replies.Odd name wanted got in
    let all : List Reply = stored ∷ renewed ∷ r ∷ [] in
    let x = reads seed first last renews all session 1 1 name name wanted got (fetch_beside first.rack r) in
    let it = shows seed first last renews all session 1 0 name name geometry 1 2 (renews_line first.rack r) in
    let was : WasStored name file first renews all 1 = Here 0 0 name 1 2 (omega arith) (renews_first first.rack r) in (
      x.0,
      x.1,
      it,
      λ long alike. law seed first last renews all session 1 0 1 1 1 name file geometry 1 2 was it alike x.0 wanted got x.1 long,
    )

pub next_renewed_odd_has_cause : OddReads → RenewedShows → NeverOddRenewedLater → NextRenewedOddHasCause
next_renewed_odd_has_cause reads shows law before begun left r one seed first last listed wanted got begins session =
    let odd = replies.Odd name wanted got in
    let all : List Reply = stored ∷ renewed ∷ r ∷ [] in
    let x = reads seed first last fetches (listed ∷ odd ∷ []) session 0 1 name name wanted got (fetch_alone first.rack listed odd) in
    let it = shows before begun left renews all one 1 0 name name geometry 1 2 (renews_line begun.rack r) in
    let was : WasStored name file begun renews all 1 = Here 0 0 name 1 2 (omega arith) (renews_first begun.rack r) in (
      x.0,
      x.1,
      it,
      λ long alike. law before begun left renews all one 1 0 1 name file geometry 1 2 was it alike left Same seed first last fetches (listed ∷ odd ∷ []) begins session 0 1 x.0 wanted got x.1 long,
    )

-- THE VEIL

-- of a fragment of one shard whose point is not seen none is seen
none_seen : (coalition : List Spot) (s : Split) → s.geometry ≡ geometry → is_seen coalition (place_at s.geometry s.places 0 0 0) ≡ false → IsVeiledSplit coalition s 1 (λ i. 0)
none_seen coalition s is hidden zero lt =
    record { fragment = subst (λ (g : Geometry). 0 < g.fragments) (sym is) (omega arith); few = few; least = λ l lt. absurd (omega (arith, lt)) }
  where
    points : (g : Geometry) (places : List Place) → g ≡ geometry → is_seen coalition (place_at g places 0 0 0) ≡ false → length (seen_points coalition (record { geometry = g; places = places }) 0 0) < g.need
    points g places e f =
        subst (λ (g : Geometry). is_seen coalition (place_at g places 0 0 0) ≡ false → length (seen_points coalition (record { geometry = g; places = places }) 0 0) < g.need) (sym e) (λ f. one places f) f
      where
        one : (places : List Place) → is_seen coalition (place_at geometry places 0 0 0) ≡ false → length (seen_points coalition (record { geometry = geometry; places = places }) 0 0) < 1
        one places f = grind arith

    few : length (seen_points coalition s 0 0) < s.geometry.need
    few = points s.geometry s.places is hidden
none_seen coalition s is hidden (suc i) lt = absurd (omega (arith, lt))

looks_same : (first : Contents) (s : Split) (random other explained : List ℕ) (d : Digest) → s.geometry ≡ first.rack.geometry → IsSameBlock s file random other explained 1 d → LooksTheSame first other d
looks_same first s random other explained d is same =
    record { random = explained; block = same.block; its = subst (λ (g : Geometry). slice_get (file_blocks g other explained) 1 ≡ Some same.block) is same.others; digest_is = same.digest_is }

pub stored_is_veiled : StaysVeiled → StoredIsVeiled
stored_is_veiled law seed first last is session =
    let x = law seed first last stores (stored ∷ []) session 0 0 name file name 1 2 (store_alone first.rack) in
    let its = x.0 in
    let here : its.kept.geometry ≡ geometry = its.is_record.geometry ∙ is in (
      its,
      λ coalition hidden p there seen other bytes long.
          let veiled : IsVeiledSplit coalition (places_of (current_of its.kept)) 1 (λ i. 0) =
          none_seen coalition (places_of (current_of its.kept)) here (subst (λ (g : Geometry). is_seen coalition (place_at g its.kept.places 0 0 0) ≡ false) (sym its.is_record.geometry) hidden) in
          let fits = x.1 coalition (λ i. 0) other veiled bytes long in
          looks_same first (places_of (current_of its.kept)) _ other _ p.digest its.is_record.geometry (fits.blocks 1 p there seen),
    )
