-- Passes that take in those of the jobs of a batch.
use Rattle.std.proofs.Common.{◌≡◌, Bool, true, false, List, [], ◌∷◌, ◌++◌, refl, ap, sym, ◌∙◌, subst, append-nil, append_assoc}
use Rattle.std.specs.Prelude.{Option, Some, None, Result, Ok, Err, ◌&&◌}
use Rattle.std.specs.List.{AllByRecursion}
use Rattle.pot_bytes.specs.declared.memory.NoMemory.{NoMemory}
use Rattle.pot_rows.specs.Parts.{RowJoined}
use Rattle.pot_script.specs.declared.reply.Reply.{Reply}
use Rattle.pot_shared.specs.Works.{Known}
use Rattle.pot_shared.specs.Callers.{CanCall}
use Rattle.pot_shared.specs.Vaults.{VaultView}
use Rattle.pot_commands.specs.Jobs.{JobView, HasPasses, AllJoined, reply_in, has_reply, replies_in, all_replied}

-- the jobs so far were taken back, and these are left
pub record IsTaking (v : VaultView) (old : Known) (js : List JobView) (before : List Reply) (left : List JobView) (now : Known) (replies : List Reply) (whole : Bool) : Type 0 where
  pub can : CanCall v now
  pub each : AllByRecursion (HasPasses v) left
  pub joins : (new : Known) → AllJoined now left new → AllJoined old js new
  pub adds : replies ++ replies_in left ≡ before ++ replies_in js
  pub tells : (whole && all_replied left) ≡ all_replied js

pub begins_taking : (v : VaultView) (old : Known) (js : List JobView) (before : List Reply) → CanCall v old → AllByRecursion (HasPasses v) js → IsTaking v old js before js old before true
begins_taking v old js before can each = record { can = can; each = each; joins = λ new h. h; adds = refl; tells = refl }

and_nested : (a b c : Bool) → ((a && b) && c) ≡ (a && (b && c))
and_nested true b c = refl
and_nested false b c = refl

module _ (v : VaultView) (old : Known) (js : List JobView) (before : List Reply) (j : JobView) (left rest : List JobView) (now : Known) (replies : List Reply) (whole : Bool)
    (is : IsTaking v old js before left now replies whole) (next : left ≡ j ∷ rest) where
  here : AllByRecursion (HasPasses v) (j ∷ rest)
  here = subst (AllByRecursion (HasPasses v)) next is.each

  -- the next job is of the vault, and its passes can call
  pub next_vault : j.common.vault ≡ v
  next_vault = here.0.0

  pub next_can : CanCall j.common.vault now
  next_can = subst (λ w. CanCall w now) (sym here.0.0) is.can

  pub next_its : CanCall j.common.vault j.passes
  next_its = subst (λ w. CanCall w j.passes) (sym here.0.0) here.0.1

  pub goes_taking : (new : Known) (replies' : List Reply) (whole' : Bool) → CanCall j.common.vault new → RowJoined now.groups j.passes.groups new.groups → RowJoined now.index j.passes.index new.index
      → replies' ≡ replies ++ reply_in j.answer → whole' ≡ (whole && has_reply j.answer) → IsTaking v old js before rest new replies' whole'
  goes_taking new replies' whole' can joined joined_index adds tells = record {
    can = subst (λ w. CanCall w new) here.0.0 can;
    each = here.1;
    joins = λ last more. is.joins last (subst (λ ks. AllJoined now ks last) (sym next) (new, joined, joined_index, more));
    adds = ap (λ rs. rs ++ replies_in rest) adds ∙ (append_assoc replies (reply_in j.answer) (replies_in rest) ∙ (ap (λ ks. replies ++ replies_in ks) (sym next) ∙ is.adds));
    tells = ap (λ b. b && all_replied rest) tells ∙ (and_nested whole (has_reply j.answer) (all_replied rest) ∙ (ap (λ ks. whole && all_replied ks) (sym next) ∙ is.tells));
  }

-- a reply is added, or there is none
pub adds_reply : (answer : Option (Result Reply NoMemory)) (r : Reply) (replies replies' : List Reply) → answer ≡ Some (Ok r) → replies' ≡ replies ++ r ∷ [] → replies' ≡ replies ++ reply_in answer
adds_reply answer r replies replies' is added = added ∙ ap (λ a. replies ++ reply_in a) (sym is)

and_true : (b : Bool) → b ≡ (b && true)
and_true true = refl
and_true false = refl

and_false : (b : Bool) → false ≡ (b && false)
and_false true = refl
and_false false = refl

pub tells_reply : (answer : Option (Result Reply NoMemory)) (r : Reply) (whole : Bool) → answer ≡ Some (Ok r) → whole ≡ (whole && has_reply answer)
tells_reply answer r whole is = and_true whole ∙ ap (λ a. whole && has_reply a) (sym is)

pub adds_none : (answer : Option (Result Reply NoMemory)) (replies : List Reply) → ((r : Reply) → answer ≡ Some (Ok r) → ⊥) → replies ≡ replies ++ reply_in answer
adds_none None replies other = sym (append-nil replies)
adds_none (Some (Ok r)) replies other = absurd (other r refl)
adds_none (Some (Err e)) replies other = sym (append-nil replies)

pub tells_none : (answer : Option (Result Reply NoMemory)) (whole : Bool) → ((r : Reply) → answer ≡ Some (Ok r) → ⊥) → false ≡ (whole && has_reply answer)
tells_none None whole other = and_false whole
tells_none (Some (Ok r)) whole other = absurd (other r refl)
tells_none (Some (Err e)) whole other = and_false whole

-- all jobs were taken back
module _ (v : VaultView) (old : Known) (js : List JobView) (before : List Reply) (left : List JobView) (now : Known) (replies : List Reply) (whole : Bool)
    (is : IsTaking v old js before left now replies whole) (none : left ≡ []) where
  pub all_joined : AllJoined old js now
  all_joined = is.joins now (subst (λ ks. AllJoined now ks now) (sym none) refl)

  pub all_added : replies ≡ before ++ replies_in js
  all_added = sym (append-nil replies) ∙ (ap (λ ks. replies ++ replies_in ks) (sym none) ∙ is.adds)

  pub all_told : whole ≡ all_replied js
  all_told = and_true whole ∙ (ap (λ ks. whole && all_replied ks) (sym none) ∙ is.tells)
