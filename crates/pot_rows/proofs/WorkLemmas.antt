-- What a job did with a row of passes, place by place.
use Rattle.std.proofs.Common.{◌≡◌, ◌≢◌, ◌⊎◌, ℕ, ◌<◌, List, [], ◌∷◌, length, ap, sym, ◌∙◌, subst, ⊎_elim}
use Rattle.std.specs.Prelude.{filter}
use Rattle.std.proofs.lemmas.Bool.{cases_eq}
use Rattle.pot_turn.specs.declared.view.View.{View}
use Rattle.pot_worked.specs.WroteOnlyFor.{added, WroteOnlyFor, OnlyWriterOf, IsTurn}
use Rattle.pot_worked.proofs.WroteOnlyForLemmas.{work_goes_on, work_in_parts, alone_in_parts, own_in_turn, more_is_work, more_has_none}
use Rattle.pot_worked.proofs.OnlyWriterLemmas.{work_went, went_in_parts, sole_in_parts, sole_is_alone, sole_at_close}
use Rattle.pot_rows.specs.Rows.{PassRow, view_at}
use Rattle.pot_rows.specs.Works.{TurnAt, TurnIsWork, OwnInTurnAt, RowWorkInParts, RowOnlyWriterOfInParts, TieIsWork, TieHasNone, RowWorkExtends, RowExtendsInParts, RowOnlyWriterInParts, RowOnlyWriterOfAny, RowOnlyWriterAtClose, JoinsAtPlaces}
use Rattle.pot_rows.proofs.RowLemmas.{at_set, at_other}
use Rattle.pot_rows.proofs.TieLemmas.{knows_same}

module _ {E O : Type 0} (others entries : List E) (old new : PassRow E O) (at : ℕ) (within : at < length old.views) (step : TurnAt others entries old at new) where
  turn_here : view_at new at ≡ step.pass
  turn_here = ap (λ (r : PassRow E O). view_at r at) step.is ∙ at_set old at step.pass within

  turn_else : (i : ℕ) → at ≢ i → view_at new i ≡ view_at old i
  turn_else i ne = ap (λ (r : PassRow E O). view_at r i) step.is ∙ at_other old at i step.pass ne

  its_turn : IsTurn others entries (view_at old at) (view_at new at)
  its_turn = subst (λ v. IsTurn others entries (view_at old at) v) (sym turn_here) step.turn

pub turn_is_work : {E O : Type 0} → TurnIsWork E O
turn_is_work is_of others entries old new at within idle step all i = ⊎_elim
    (λ (e : at ≡ i). subst (λ k. WroteOnlyFor is_of (view_at old k) (view_at new k)) e
    (work_goes_on is_of (view_at old at) (view_at new at) others entries (its_turn others entries old new at within step) all))
    (λ (ne : at ≢ i). subst (λ v. WroteOnlyFor is_of (view_at old i) v) (sym (turn_else others entries old new at within step i ne))
    (more_is_work is_of (view_at old i) (view_at old i) (knows_same (view_at old i)) (idle i)))
    (cases_eq at i)

pub own_in_turn_at : {E O : Type 0} → OwnInTurnAt E O
own_in_turn_at {E} {O} is_of others entries old new at within step all alone = (
  own_in_turn is_of (view_at old at) (view_at new at) others entries (its_turn others entries old new at within step) all (alone at),
  λ i ne.
      let same : view_at new i ≡ view_at old i = turn_else others entries old new at within step i ne in
      subst (λ (v : View E O). filter is_of (added (view_at old i) v) ≡ []) (sym same)
      (more_has_none is_of (view_at old i) (view_at old i) (knows_same (view_at old i)) (subst (λ (v : View E O). OnlyWriterOf is_of (view_at old i) v) same (alone i))),
)

pub row_work_in_parts : {E O : Type 0} → RowWorkInParts E O
row_work_in_parts is_of u v w p q at = work_in_parts is_of (view_at u at) (view_at v at) (view_at w at) (p at) (q at)

pub row_alone_in_parts : {E O : Type 0} → RowOnlyWriterOfInParts E O
row_alone_in_parts is_of u v w p q alone = (
  λ at. (alone_in_parts is_of (view_at u at) (view_at v at) (view_at w at) (p at) (q at) (alone at)).0,
  λ at. (alone_in_parts is_of (view_at u at) (view_at v at) (view_at w at) (p at) (q at) (alone at)).1,
)

pub tie_is_work : {E O : Type 0} → TieIsWork E O
tie_is_work is_of mine others mine' others' tied idle at = more_is_work is_of (view_at mine at) (view_at mine' at) (tied at).mine (idle at)

pub tie_has_none : {E O : Type 0} → TieHasNone E O
tie_has_none is_of mine others mine' others' tied alone at = more_has_none is_of (view_at mine at) (view_at mine' at) (tied at).mine (alone at)

pub row_work_went : {E O : Type 0} → RowWorkExtends E O
row_work_went is_of v w is at = work_went is_of (view_at v at) (view_at w at) (is at)

pub row_went_in_parts : {E O : Type 0} → RowExtendsInParts E O
row_went_in_parts u v w p q at = went_in_parts (view_at u at) (view_at v at) (view_at w at) (p at) (q at)

pub row_sole_in_parts : {E O : Type 0} → RowOnlyWriterInParts E O
row_sole_in_parts u v w p q sole = (
  λ at. (sole_in_parts (view_at u at) (view_at v at) (view_at w at) (p at) (q at) (sole at)).0,
  λ at. (sole_in_parts (view_at u at) (view_at v at) (view_at w at) (p at) (q at) (sole at)).1,
)

pub row_sole_alone : {E O : Type 0} → RowOnlyWriterOfAny E O
row_sole_alone is_of v w is sole at = sole_is_alone is_of (view_at v at) (view_at w at) (is at) (sole at)

pub row_sole_at_close : {E O : Type 0} → RowOnlyWriterAtClose E O
row_sole_at_close u x went whole at = sole_at_close (view_at u at) (view_at x at) (went at) (whole at)

pub joins_at_places : {E O : Type 0} → JoinsAtPlaces E O
joins_at_places {E} {O} v x [] is at = ap (λ (r : PassRow E O). view_at r at) is
joins_at_places {E} {O} v x (c ∷ cs) (y, joined, more) at =
    let here = joined at in
    (view_at y at, here.both, here.begins, here.its_begins, joins_at_places y x cs more at)
