-- A stored file, as who has one of its two fragments sees it.
use Rattle.std.proofs.Common.{◌≡◌, ℕ, zero, suc, ◌<◌, ◌≤◌, List, [], ◌∷◌, ◌++◌, ◌+◌, ◌*◌, Option, Some, true, false, refl, sym, ap, subst, arith, Bool, ◌∙◌}
use Rattle.std.specs.Prelude.{slice_get, slice_index_or, IsSomeAnd, All}
use Rattle.std.proofs.lemmas.Option.{none-some, same_Some}
use Rattle.std.proofs.lemmas.List.Elements.{All-cons, All-contains, All-nil}
use Rattle.pot_bytes.specs.Lists.{AreBytes}
use Rattle.pot_machine.specs.Table.{count, least}
use Rattle.pot_shard.specs.FileLaws.{IsStore}
use Rattle.pot_shard.specs.Places.{PlaceLaws}
use Rattle.pot_index.specs.declared.record.Split.{Split}
use Rattle.pot_index.specs.Fits.{FitsRack}
use Rattle.pot_world.specs.declared.step.Step.{Step}
use Rattle.pot_world.specs.declared.step.Step.TheVariants as step
use Rattle.pot_world.specs.Audit.{AllSame, SeesSame, Sight, One, seen_steps, sight_of}
use Rattle.pot_world.specs.Explains.{AllEndWell}
use Rattle.pot_world.specs.Forward.{will_publish}
use Rattle.pot_world.specs.Group.{WorldGroup, put_within}
use Rattle.pot_world.specs.Reached.{at_group, first_groups}
use Rattle.pot_world.specs.World.{UnderWay, World, Runs, first_world, group_at, next_block, no_group, put_block, put_step, record_made}
use Rattle.pot_world.specs.Worlds.{RunReplays}
use Rattle.pot_audit.specs.declared.veil.Veil.{Veil}
use Rattle.pot_audit.specs.Exposure.{has_column}
use Rattle.pot_audit.specs.Hiding.{AreHidden, AuditsHide, BytesReturn}
use Rattle.pot_audit.specs.Veils.{AreVeils, IsVeil}
use Rattle.law_examples.specs.Sessions.{rack}
use Rattle.law_examples.specs.Stored.{file, geometry, name, stores}
use Rattle.law_examples.specs.Audited.{BytesComeBack, HolderSeesTheSame, other_file, split, spots}
use Rattle.law_examples.proofs.Seeing.{is_rack, one, two}
use Rattle.law_examples.proofs.Storing.{begun_world, block, block_0, block_1, first_way, half_way, half_world, second_way, store_goes, stored_world, under_way, whole}

-- WHAT THE HOLDER HAS

abbrev the_veil : Veil
the_veil = record { split = 0; piece = 0; fragment = 1; have = 0; need = 1 }

is_veil : IsVeil rack spots split 0 0 the_veil
unfolding count
is_veil = record {
  split = refl;
  piece = refl;
  least = record { number = (omega arith, omega arith); is = refl; fewest = λ j l. omega arith; first = λ j l. absurd (omega (arith, l)) };
  need = refl;
}

are_veils : (random : List ℕ) → AreVeils rack spots (record_made (whole random)) (the_veil ∷ [])
are_veils random = record { count = refl; each = each }
  where
    each : (n i : ℕ) (s : Split) (v : Veil) → slice_get (split ∷ []) n ≡ Some s → i < 1 → slice_get (the_veil ∷ []) (n * 1 + i) ≡ Some v → IsVeil rack spots s n i v
    each zero zero s v e l f = subst (λ (s : Split). IsVeil rack spots s 0 0 v) (same_Some _ _ e) (subst (λ (v : Veil). IsVeil rack spots split 0 0 v) (same_Some _ _ f) is_veil)
    each zero (suc i) s v e l f = absurd (omega (arith, l))
    each (suc n) i s v e l f = absurd (none-some s e)

are_hidden : AreHidden (the_veil ∷ [])
are_hidden = All-cons (λ (v : Veil). v.have < v.need) the_veil [] one (All-nil (λ (v : Veil). v.have < v.need))

pub other_bytes : AreBytes other_file
other_bytes zero = omega arith
other_bytes (suc k) = omega arith

-- THE RUN

put_ends : (u : UnderWay) (b : List ℕ) (rest : List Step) (w : World) → (w.actors 1).under_way ≡ Some u → next_block u ≡ Some b → u.renews ≡ false → AllEndWell name rest (put_block 1 u (Some b) w) → AllEndWell name (step.PutNext 1 ∷ rest) w
unfolding AllEndWell
put_ends u b rest w e f new r = (
  subst (λ (o : Option UnderWay). IsSomeAnd o (λ u. u.name ≡ name → u.renews ≡ true → will_publish 1 rest ≡ true)) (sym e) (λ n renews. absurd (no (sym new ∙ renews))),
  subst (λ (x : World). AllEndWell name rest x) (sym (ap (λ (o : Option UnderWay). put_step 1 o w) e ∙ ap (λ (o : Option (List ℕ)). put_block 1 u o w) f)) r,
)
  where
    no : false ≡ true → ⊥
    no e = cc

ends_well : PlaceLaws → (random : List ℕ) → AllEndWell name (stores random) (first_world rack)
unfolding AllEndWell put_within least count at_group first_groups
ends_well laws random = (
  tt,
  put_ends (under_way random) (block random 0) (step.PutNext 1 ∷ step.Publish 1 ∷ []) (begun_world random) (first_way random) (block_0 laws random) refl
      (put_ends (half_way random) (block random 1) (step.Publish 1 ∷ []) (half_world random) (second_way random) (block_1 laws random) refl (tt, tt)),
)

store_run : PlaceLaws → (random : List ℕ) → IsStore geometry file random → Runs (stores random) (first_world rack) (stored_world random)
unfolding Runs
store_run laws random is = store_goes laws random is [] (stored_world random) refl

-- WHAT IS SEEN

-- what is seen of the second group
of_second : (e : Bool) (sights : ℕ → Sight) (g h : WorldGroup) (hs : List WorldGroup) → AllSame e sights (g ∷ h ∷ []) hs → SeesSame e (sights 1) h (slice_index_or hs 1 no_group)
unfolding AllSame
of_second e sights g h [] s = absurd s
of_second e sights g h (x ∷ []) s = absurd s.1
of_second e sights g h (x ∷ (y ∷ hs)) s = s.1.0

pub hides : PlaceLaws → AuditsHide → HolderSeesTheSame
unfolding seen_steps put_within least count at_group first_groups
hides laws law random is =
    let x = law rack spots true (stores random) (stored_world random) (record_made (whole random)) (the_veil ∷ []) other_file is_rack (store_run laws random is) (ends_well laws random) (0, one, refl) (are_veils random) are_hidden other_bytes refl in
    let a : SeesSame true (One 0) (group_at (stored_world random) 1) (group_at x.world 1) = of_second true (sight_of rack (has_column spots)) (group_at (stored_world random) 0) (group_at (stored_world random) 1) x.world.site.groups x.same in
    (x.other 0, x.world, x.runs, record { other = (x.others.1 0 random refl).0; held = a.0.held 3 0 (0, one, refl) ∙ refl })

pub comes_back : PlaceLaws → RunReplays → BytesReturn → BytesComeBack
unfolding put_within least count at_group first_groups
comes_back laws replays law random is =
    let names = (replays rack (stores random) (stored_world random) is_rack (store_run laws random is)).1 in
    let fits : FitsRack rack (record_made (whole random)) = All-contains (FitsRack rack) (record_made (whole random) ∷ []) (record_made (whole random)) names.fits (0, one, refl) in
    law rack spots (record_made (whole random)) (the_veil ∷ []) 0 split file other_file random is_rack fits (are_veils random) are_hidden refl refl refl other_bytes is
