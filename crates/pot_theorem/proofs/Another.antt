-- The bytes of another file fit where a coalition sees, and its blocks stand at the places of the
-- record.
use Rattle.std.proofs.Common.{◌≡◌, ◌⊎◌, inl, inr, ℕ, zero, suc, List, [], ◌∷◌, Option, Some, None, Bool, refl, sym, ap, ◌∙◌, subst}
use Rattle.std.specs.Prelude.{slice_get, slice_index_or}
use Rattle.std.proofs.lemmas.Option.{get_or_from_slice_get}
use Rattle.pot_bytes.specs.declared.rack.Place.{Place}
use Rattle.pot_bytes.specs.declared.rack.Rack.{Rack}
use Rattle.pot_bytes.specs.Lists.{IsBlock}
use Rattle.pot_steps.proofs.BlockLemmas.{IsBlock-zero_block}
use Rattle.pot_world.specs.Acts.{Lose, Look, Mend, MoveBegin, MoveOne, PutNext, Swap}
use Rattle.pot_world.specs.Audit.{AllFits, Blind, FitsMove, FitsSight, One, Sight, Whole, group_in, other_move, other_moves}
use Rattle.pot_world.specs.Explains.{Sees}
use Rattle.pot_world.specs.Group.{WorldGroup, put}
use Rattle.pot_world.specs.Later.{Both, SeesNoParity, KnownOfGroup, OtherSessions, Sessions, SessionsFit, reopened_site}
use Rattle.pot_world.specs.Reached.{AllGood, EachGroup, IsGood, Loses, Makes, Move, Reaches, Site, may, moved}
use Rattle.pot_world.specs.Remains.{HasPlacedAt, PutAnswersPlace}
use Rattle.pot_world.proofs.Auditing.{step_both}
use Rattle.pot_world.proofs.Later.{reopened_both}
use Rattle.pot_world.proofs.Reaching.{moves_keep}
use Rattle.pot_world.proofs.Remaining.{move_still, puts_there}
use Rattle.pot_theorem.specs.Another.{block_or, bytes_of, number_of, other_put, other_puts, put_for}
use Rattle.pot_theorem.proofs.Placed.{allowed_block, before_reopened, good_on, moved_or, put_of, puts_alike, puts_now, reopened_good, reopened_there, stays_on, stays_through}

-- an index beyond a list gives the default
index_beyond : {X : Type 0} (xs : List X) (b : ℕ) (d : X) → slice_get xs b ≡ None → slice_index_or xs b d ≡ d
index_beyond [] b d e = refl
index_beyond (x ∷ xs) zero d e = absurd (cc)
index_beyond (x ∷ xs) (suc b) d e = index_beyond xs b d e

each_known : (rack : Rack) (used : ℕ → Bool) (gs : List WorldGroup) → EachGroup (KnownOfGroup rack used) gs → EachGroup (IsGood used) gs
unfolding EachGroup
each_known rack used [] known = tt
each_known rack used (g ∷ gs) known = (known.0.good, each_known rack used gs known.1)

-- groups of which more is known keep their rules
all_good : (rack : Rack) (x : Site) → EachGroup (KnownOfGroup rack x.used) x.groups → AllGood x
all_good rack x known = each_known rack x.used x.groups known

module _ (places : List Place) (blocks : List (List ℕ)) where
  -- WHAT IS PUT ARE BLOCKS

  module _ (are : (b : ℕ) (block : List ℕ) → slice_get blocks b ≡ Some block → IsBlock block) where
    block_of : (o : Option ℕ) (block : List ℕ) → IsBlock block → IsBlock (block_or blocks o block)
    block_of None block is = is
    block_of (Some b) block is = by (slice_get blocks b) refl
      where
        by : (o : Option (List ℕ)) → slice_get blocks b ≡ o → IsBlock (slice_index_or blocks b block)
        by (Some x) e = subst IsBlock (sym (get_or_from_slice_get blocks b x block e)) (are b x e)
        by None e = subst IsBlock (sym (index_beyond blocks b block e)) is

    put_block : (g : ℕ) (block : List ℕ) (at : Option (ℕ × ℕ)) → IsBlock block → IsBlock (put_for places blocks g block at)
    put_block g block None is = is
    put_block g block (Some at) is = block_of (number_of places g at.0 at.1) block is

    one_block : (m : Move) (x : Site) → may m x → IsBlock (other_put places blocks m x)
    one_block (Loses number slot) x is = IsBlock-zero_block
    one_block (Makes g (Lose number slot)) x is = IsBlock-zero_block
    one_block (Makes g (Look job s c)) x is = IsBlock-zero_block
    one_block (Makes g (PutNext job block)) x is = put_block g block (put job block (group_in x g)).place (allowed_block x.used g job block x.groups is)
    one_block (Makes g (Mend job s c blind)) x is = IsBlock-zero_block
    one_block (Makes g (MoveBegin job c to)) x is = IsBlock-zero_block
    one_block (Makes g (MoveOne job c)) x is = IsBlock-zero_block
    one_block (Makes g (Swap job c to)) x is = IsBlock-zero_block

    all_blocks : (moves : List Move) (x y : Site) → Reaches x moves y → (n : ℕ) → IsBlock (other_puts places blocks moves x n)
    unfolding Reaches other_puts
    all_blocks [] x y r n = IsBlock-zero_block
    all_blocks (m ∷ moves) x y r zero = one_block m x r.0
    all_blocks (m ∷ moves) x y r (suc n) = all_blocks moves (moved m x) y r.1 n

    pub bytes_blocks : (x : Site) (sessions : List (List Move)) (z : Site) (run : Sessions x sessions z) (n m : ℕ) → IsBlock (bytes_of places blocks x sessions z run n m)
    unfolding bytes_of
    bytes_blocks x [] z run n m = IsBlock-zero_block
    bytes_blocks x (moves ∷ more) z run zero m = all_blocks moves (reopened_site x) run.0 run.1 m
    bytes_blocks x (moves ∷ more) z run (suc n) m = bytes_blocks run.0 more z run.2 n m

  -- WHERE THE COALITION SEES

  module _ (sights : ℕ → Sight) where
    -- a block that stands at a place that is seen is what is put there in its place
    abbrev pub SeesAsPut : Site → Type 0
    SeesAsPut z = (g s c : ℕ) (block : List ℕ) → Sees (sights g) c → HasPlacedAt g s c block z.groups → block_or blocks (number_of places g s c) block ≡ block

    -- a step that puts nothing fits
    fits_lose : (v : Sight) (bytes : List ℕ) (number slot : ℕ) (g : WorldGroup) → FitsSight v bytes (Lose number slot) g
    fits_lose Whole bytes number slot g = tt
    fits_lose (One k) bytes number slot g = tt
    fits_lose Blind bytes number slot g = tt

    fits_look : (v : Sight) (bytes : List ℕ) (job s c : ℕ) (g : WorldGroup) → FitsSight v bytes (Look job s c) g
    fits_look Whole bytes job s c g = tt
    fits_look (One k) bytes job s c g = tt
    fits_look Blind bytes job s c g = tt

    fits_mend : (v : Sight) (bytes : List ℕ) (job s c : ℕ) (blind : List ℕ) (g : WorldGroup) → FitsSight v bytes (Mend job s c blind) g
    fits_mend Whole bytes job s c blind g = tt
    fits_mend (One k) bytes job s c blind g = tt
    fits_mend Blind bytes job s c blind g = tt

    fits_begin : (v : Sight) (bytes : List ℕ) (job c to : ℕ) (g : WorldGroup) → FitsSight v bytes (MoveBegin job c to) g
    fits_begin Whole bytes job c to g = tt
    fits_begin (One k) bytes job c to g = tt
    fits_begin Blind bytes job c to g = tt

    fits_one : (v : Sight) (bytes : List ℕ) (job c : ℕ) (g : WorldGroup) → FitsSight v bytes (MoveOne job c) g
    fits_one Whole bytes job c g = tt
    fits_one (One k) bytes job c g = tt
    fits_one Blind bytes job c g = tt

    fits_swap : (v : Sight) (bytes : List ℕ) (job c to : ℕ) (g : WorldGroup) → FitsSight v bytes (Swap job c to) g
    fits_swap Whole bytes job c to g = tt
    fits_swap (One k) bytes job c to g = tt
    fits_swap Blind bytes job c to g = tt

    -- a put fits where what is put in its place is the block itself
    fits_put : (v : Sight) (n job : ℕ) (block : List ℕ) (g : WorldGroup) → ((s c : ℕ) → Sees v c → (put job block g).place ≡ Some (s, c) → block_or blocks (number_of places n s c) block ≡ block)
        → FitsSight v (put_for places blocks n block (put job block g).place) (PutNext job block) g
    fits_put Whole n job block g same = λ s c at. ap (put_for places blocks n block) at ∙ same s c tt at
    fits_put (One k) n job block g same = λ s at. ap (put_for places blocks n block) at ∙ same s k refl at
    fits_put Blind n job block g same = tt

    fits_move : (m : Move) (x z : Site) → AllGood x → may m x → SeesAsPut z → ((g s c : ℕ) (block : List ℕ) → HasPlacedAt g s c block (moved m x).groups → HasPlacedAt g s c block z.groups)
        → FitsMove sights (other_put places blocks m x) m x
    fits_move (Loses number slot) x z good is sees stays = tt
    fits_move (Makes n (Lose number slot)) x z good is sees stays = fits_lose (sights n) _ number slot (group_in x n)
    fits_move (Makes n (Look job s c)) x z good is sees stays = fits_look (sights n) _ job s c (group_in x n)
    fits_move (Makes n (PutNext job block)) x z good is sees stays =
        fits_put (sights n) n job block (group_in x n) (λ s c v at. sees n s c block v (stays n s c block (puts_now x n job s c block good is at)))
    fits_move (Makes n (Mend job s c blind)) x z good is sees stays = fits_mend (sights n) _ job s c blind (group_in x n)
    fits_move (Makes n (MoveBegin job c to)) x z good is sees stays = fits_begin (sights n) _ job c to (group_in x n)
    fits_move (Makes n (MoveOne job c)) x z good is sees stays = fits_one (sights n) _ job c (group_in x n)
    fits_move (Makes n (Swap job c to)) x z good is sees stays = fits_swap (sights n) _ job c to (group_in x n)

    fits_moves : (moves : List Move) (x y z : Site) → AllGood x → Reaches x moves y → SeesAsPut z → ((g s c : ℕ) (block : List ℕ) → HasPlacedAt g s c block y.groups → HasPlacedAt g s c block z.groups)
        → AllFits sights (other_puts places blocks moves x) moves x
    unfolding Reaches other_puts AllFits
    fits_moves [] x y z good r sees stays = tt
    fits_moves (m ∷ moves) x y z good r sees stays =
        let next = moves_keep m x r.0 good in (
          fits_move m x z good r.0 sees (λ g s c block h. stays g s c block (stays_on g s c block moves (moved m x) y next r.1 h)),
          fits_moves moves (moved m x) y z next r.1 sees stays,
        )

    pub fits_sessions : (x : Site) (sessions : List (List Move)) (z : Site) (run : Sessions x sessions z) → AllGood x → SeesAsPut z → SessionsFit sights (bytes_of places blocks x sessions z run) x sessions z run
    unfolding bytes_of
    fits_sessions x [] z run good sees = tt
    fits_sessions x (moves ∷ more) z run good sees =
        let again = reopened_good x good in
        let then = good_on moves (reopened_site x) run.0 again run.1 in (
          fits_moves moves (reopened_site x) run.0 z again run.1 sees (λ g s c block h. stays_through g s c block run.0 more z run.2 then h),
          fits_sessions run.0 more z run.2 then sees,
        )

    -- WHAT STANDS AT THE PLACES

    -- in the other groups stands what is put in place of each block
    abbrev pub StandsFor : Site → Site → Type 0
    StandsFor x y = (n s c : ℕ) (block : List ℕ) → HasPlacedAt n s c block x.groups → HasPlacedAt n s c (block_or blocks (number_of places n s c) block) y.groups

    module _ (rack : Rack) (exchanges : Bool) (low : SeesNoParity rack sights) where
      -- a put of the other bytes
      puts_for : (x y : Site) (n job s c : ℕ) (block : List ℕ) → IsBlock (put_for places blocks n block (put job block (group_in x n)).place) → Both rack exchanges sights x y → PutAnswersPlace n job block s c x.groups
          → HasPlacedAt n s c (block_or blocks (number_of places n s c) block) (moved (Makes n (PutNext job (put_for places blocks n block (put job block (group_in x n)).place))) y).groups
      puts_for x y n job s c block is b here =
          let at = put_of n job block s c x.groups here in
          let bytes : List ℕ = put_for places blocks n block (put job block (group_in x n)).place in
          let same : bytes ≡ block_or blocks (number_of places n s c) block = ap (put_for places blocks n block) at in
          subst (λ w. HasPlacedAt n s c w (moved (Makes n (PutNext job bytes)) y).groups) same
          (puts_there s c bytes y.used n job y.groups b.good is (puts_alike exchanges sights n job block bytes s c x.groups y.groups b.same here))

      stands_move : (m : Move) (x y : Site) → IsBlock (other_put places blocks m x) → Both rack exchanges sights x y → may m x → may (other_move exchanges sights (other_put places blocks m x) m x y) y → StandsFor x y
          → StandsFor (moved m x) (moved (other_move exchanges sights (other_put places blocks m x) m x y) y)
      stands_move m x y is b ok ok' stands n s c block h = by (moved_or s c block n m x (goods x b) h)
        where
          goods : (x : Site) → Both rack exchanges sights x y → AllGood x
          goods x b = all_good rack x b.known

          other : Move
          other = other_move exchanges sights (other_put places blocks m x) m x y

          now : (job : ℕ) → m ≡ Makes n (PutNext job block) → PutAnswersPlace n job block s c x.groups → HasPlacedAt n s c (block_or blocks (number_of places n s c) block) (moved (other_move exchanges sights (other_put places blocks m x) m x y) y).groups
          now job e here =
              subst (λ q. HasPlacedAt n s c (block_or blocks (number_of places n s c) block) (moved (other_move exchanges sights (other_put places blocks q x) q x y) y).groups) (sym e)
              (puts_for x y n job s c block (subst (λ q. IsBlock (other_put places blocks q x)) e is) b here)

          by : HasPlacedAt n s c block x.groups ⊎ ((job : ℕ) × (m ≡ Makes n (PutNext job block)) × PutAnswersPlace n job block s c x.groups)
              → HasPlacedAt n s c (block_or blocks (number_of places n s c) block) (moved (other_move exchanges sights (other_put places blocks m x) m x y) y).groups
          by (inl before) = move_still s c (block_or blocks (number_of places n s c) block) n other y b.good ok' (stands n s c block before)
          by (inr x) = now x.0 x.1 x.2

      stands_moves : (moves : List Move) (x y z w : Site) → ((b : ℕ) (block : List ℕ) → slice_get blocks b ≡ Some block → IsBlock block) → Both rack exchanges sights x y → Reaches x moves z → AllFits sights (other_puts places blocks moves x) moves x
          → Reaches y (other_moves exchanges sights (other_puts places blocks moves x) moves x y) w → StandsFor x y → StandsFor z w × Both rack exchanges sights z w
      unfolding Reaches other_puts other_moves AllFits
      stands_moves [] x y z w are b r fits r' stands =
          subst (λ (s : Site). StandsFor s w × Both rack exchanges sights s w) (sym r) (subst (λ (s : Site). StandsFor x s × Both rack exchanges sights x s) (sym r') (stands, b))
      stands_moves (m ∷ moves) x y z w are b r fits r' stands =
          let is = one_block are m x r.0 in
          let step = step_both rack exchanges sights (other_put places blocks m x) m x y is low b r.0 fits.0 in
          stands_moves moves (moved m x) (moved (other_move exchanges sights (other_put places blocks m x) m x y) y) z w are step.1 r.1 fits.1 r'.1 (stands_move m x y is b r.0 step.0 stands)

      stands_reopened : (x y : Site) → StandsFor x y → StandsFor (reopened_site x) (reopened_site y)
      stands_reopened x y stands n s c block h = reopened_there s c (block_or blocks (number_of places n s c) block) n y.groups (stands n s c block (before_reopened s c block n x.groups h))

      pub stands_sessions : (x y : Site) (sessions : List (List Move)) (z w : Site) → ((b : ℕ) (block : List ℕ) → slice_get blocks b ≡ Some block → IsBlock block) → Both rack exchanges sights x y → (run : Sessions x sessions z)
          → SessionsFit sights (bytes_of places blocks x sessions z run) x sessions z run → OtherSessions exchanges sights (bytes_of places blocks x sessions z run) x y sessions z run w → StandsFor x y → StandsFor z w
      unfolding bytes_of
      stands_sessions x y [] z w are b run fits other stands =
          subst (λ (s : Site). StandsFor s w) (sym run) (subst (λ (s : Site). StandsFor x s) (sym other) stands)
      stands_sessions x y (moves ∷ more) z w are b run fits other stands =
          let one = stands_moves moves (reopened_site x) (reopened_site y) run.0 other.0 are (reopened_both rack exchanges sights x y low b) run.1 fits.0 other.1 (stands_reopened x y stands) in
          stands_sessions run.0 other.0 more z w are one.1 run.2 fits.1 other.2 one.0
