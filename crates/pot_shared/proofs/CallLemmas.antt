-- One locked call, step by step.
use Rattle.std.proofs.Common.{◌≡◌, ◌<◌, ◌+◌, inl, inr, ℕ, zero, suc, false, List, [], ◌∷◌, ◌++◌, length, refl, ap, sym, ◌∙◌, subst, arith, set}
use Rattle.std.specs.Prelude.{Option, Some}
use Rattle.std.proofs.lemmas.Bool.{cases_eq}
use Rattle.pot_bytes.specs.declared.rack.Rack.{Rack}
use Rattle.pot_machine.specs.declared.entry.Entry.{Entry}
use Rattle.pot_machine.specs.Table.{width}
use Rattle.pot_machine.specs.Rules.{IsTable}
use Rattle.pot_group.specs.Arrivals.{HasArrived}
use Rattle.pot_group.specs.Group.{GroupView, IsSettled}
use Rattle.pot_group.specs.Calls.{Grows, Made}
use Rattle.pot_turn.specs.declared.name.TurnName.{TurnName}
use Rattle.pot_turn.specs.Logs.{StartsWith}
use Rattle.pot_turn.specs.Views.{took_view, left_view}
use Rattle.pot_rows.specs.Rows.{AreOf, view_at, with_view}
use Rattle.pot_rows.proofs.RowLemmas.{at_set, at_other, still_of}
use Rattle.pot_shared.specs.Members.{kept_log, origin_of, all_logged}
use Rattle.pot_shared.specs.declared.member.GroupOrigin.{GroupOrigin}
use Rattle.pot_shared.specs.Ready.{GroupPass, GroupPasses, AreReady, IsOrigin, IsTableOf}
use Rattle.pot_shared.specs.Calls.{CallAt}
use Rattle.pot_shared.proofs.MemberLemmas.{GrowsBy, MoreBlinds, grows_by}

pub set_twice : {X : Type 0} (xs : List X) (i : ℕ) (x y : X) → set (set xs i x) i y ≡ set xs i y
set_twice [] i x y = refl
set_twice (z ∷ xs) zero x y = refl
set_twice (z ∷ xs) (suc i) x y = ap (λ w. z ∷ w) (set_twice xs i x y)

-- THE CALL

module _ {rack : Rack} {names : List TurnName} {row : GroupPasses} {at : ℕ} (ready : AreReady rack names row) (within : at < length names) where
  -- what the pass knows that was put there
  put_at : {row1 : GroupPasses} (v : GroupPass) → row1 ≡ with_view row at v → view_at row1 at ≡ v
  put_at v is = ap (λ (r : GroupPasses). view_at r at) is ∙ at_set row at v (let l = ready.of.1 in omega (arith, within, l))

  module _ {row1 : GroupPasses} {old new : GroupView} (took : row1 ≡ with_view row at (took_view (kept_log old) (view_at row at)))
      (arrived : HasArrived old.first old.log old.shelves.numbers) {told : Type 0} (settled_old : IsSettled told old) (begun : MoreBlinds old new) where
    by : {entries : List Entry} → Grows old new entries → GrowsBy old new begun.0 entries
    by {entries} grows = grows_by old new begun.0 entries arrived settled_old.blinds begun.1 grows

    -- what is given back begins with what was taken
    pub grown : {entries : List Entry} → Grows old new entries → StartsWith (kept_log new) (view_at row1 at).seen
    grown {entries} grows =
        subst (λ (v : GroupPass). StartsWith (kept_log new) v.seen) (sym (put_at (took_view (kept_log old) (view_at row at)) took))
        (all_logged new.shelves begun.0 entries, (by grows).kept)

    pub same_origin : {entries : List Entry} → Grows old new entries → Some (origin_of old) ≡ (view_at row at).origin → Some (origin_of new) ≡ (view_at row1 at).origin
    same_origin {entries} grows origin =
        ap (λ o. Some o) (by grows).origin ∙ (origin ∙ sym (ap (λ (v : GroupPass). v.origin) (put_at (took_view (kept_log old) (view_at row at)) took)))

    pub called : {row2 : GroupPasses} {R : GroupView → GroupView → List Entry → Type 0} → StartsWith (kept_log old) (view_at row at).seen
        → Some (origin_of old) ≡ (view_at row at).origin → IsTable old.first → Made R old new → IsSettled told new
        → row2 ≡ with_view row1 at (left_view (kept_log new) (view_at row1 at)) → CallAt told R at row row2
    called {row2} {R} begins origin read made settled left =
        let v = view_at row at in
        let entries = made.0 in
        let grows = by made.1 in
        let its = all_logged new.shelves begun.0 entries in
        let transition = v.seen ++ begins.0 in
        let one : kept_log new ≡ transition ++ its = grows.kept ∙ ap (λ w. w ++ its) begins.1 in
        let pass : GroupPass = left_view (kept_log new) (took_view (kept_log old) v) in
        let here : row2 ≡ with_view row1 at pass = left ∙ ap (λ (u : GroupPass). with_view row1 at (left_view (kept_log new) u)) (put_at (took_view (kept_log old) v) took) in
        let there : with_view row1 at pass ≡ with_view (with_view row at (took_view (kept_log old) v)) at pass = ap (λ (r : GroupPasses). with_view r at pass) took in
        let twice : with_view (with_view row at (took_view (kept_log old) v)) at pass ≡ with_view row at pass = ap (λ vs. record row { views = vs }) (set_twice row.views at (took_view (kept_log old) v) pass) in
        record {
          pass = pass;
          is = here ∙ (there ∙ twice);
          turn = record {
            old = old;
            new = new;
            others = begins.0;
            entries = entries;
            transition = begins.1;
            origin = origin;
            settled_old = settled_old;
            read = read;
            settled = settled;
            first = grows.first;
            log = grows.log;
            more = begun.0;
            blinds = begun.1;
            turn = ap (λ l. left_view l (took_view (kept_log old) v)) one ∙ ap (λ l. left_view (transition ++ its) (took_view l v)) begins.1;
            call = made.2;
          };
        }

-- READY AGAIN

-- after a call the passes are ready for another
pub ready_again : {rack : Rack} {names : List TurnName} {told : Type 0} {R : GroupView → GroupView → List Entry → Type 0} {at : ℕ} {row new : GroupPasses}
    → AreReady rack names row → at < length names → CallAt told R at row new → AreReady rack names new
ready_again {rack} {names} {told} {R} {at} {row} {new} ready within call =
    let here = put_at ready within call.pass call.is ∙ call.turn.turn in
    record {
      of = subst (λ (r : GroupPasses). AreOf names r) (sym call.is) (still_of names row at call.pass ready.of);
      idle = (λ g. elim (cases_eq at g) [
        | inl e ↦ subst (λ n. (view_at new n).holds ≡ false) e (ap (λ (v : GroupPass). v.holds) here)
        | inr ne ↦ subst (λ (r : GroupPasses). (view_at r g).holds ≡ false) (sym call.is) (ap (λ (v : GroupPass). v.holds) (at_other row at g call.pass ne) ∙ ready.idle g)
      ]);
      origins = (λ g lt. elim (cases_eq at g) [
        | inl e ↦ subst (λ n. IsOrigin rack n (view_at new n).origin) e (subst (λ o. IsOrigin rack at o) (sym (ap (λ (v : GroupPass). v.origin) here)) (ready.origins at within))
        | inr ne ↦ subst (λ (r : GroupPasses). IsOrigin rack g (view_at r g).origin) (sym call.is)
            (subst (λ o. IsOrigin rack g o) (sym (ap (λ (v : GroupPass). v.origin) (at_other row at g call.pass ne))) (ready.origins g lt))
      ]);
    }

-- WHAT THE ORIGIN SAYS OF THE GROUP THAT IS MET

pub is_origin : (rack : Rack) (at : ℕ) (o : Option GroupOrigin) (old : GroupView) → Some (origin_of old) ≡ o → IsOrigin rack at o → (old.number ≡ at) × IsTableOf rack old.first
is_origin rack at o old same is = subst (λ x. IsOrigin rack at x) (sym same) is

-- its table now has the rack's sizes
pub is_table : (rack : Rack) (told : Type 0) (at : ℕ) (o : Option GroupOrigin) (old : GroupView) → Some (origin_of old) ≡ o → IsOrigin rack at o → IsSettled told old
    → IsTableOf rack old.table
is_table rack told at o old same is settled =
    let t = (is_origin rack at o old same is).1 in
    (settled.sizes.0 ∙ t.0, settled.sizes.1 ∙ t.1, settled.sizes.2 ∙ t.2)

-- and a column of the rack is one of it
module _ {rack : Rack} {names : List TurnName} {told : Type 0} {row : GroupPasses} {at c : ℕ} {old : GroupView} (ready : AreReady rack names row) (within : at < length names) where
  pub is_column : Some (origin_of old) ≡ (view_at row at).origin → IsSettled told old → c < rack.columns + rack.parity → c < width old.table
  is_column same settled lt =
      let t = is_table rack told at (view_at row at).origin old same (ready.origins at within) settled in let a = t.0 in let b = t.1 in omega (arith, lt, a, b)
