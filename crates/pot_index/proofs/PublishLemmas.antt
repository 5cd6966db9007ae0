-- The lists of an index after a record was published or renewed.
use Rattle.std.proofs.Common.{◌≡◌, ◌<◌, ℕ, List, [], ◌∷◌, ◌++◌, length, get_or, refl, sym, ap, subst, ◌∙◌}
use Rattle.std.specs.Prelude.{HoldsAt, filter, insert, slice_set}
use Rattle.std.proofs.lemmas.List.{get_or_read}
use Rattle.pot_bytes.specs.declared.digest.Digest.{Digest}
use Rattle.pot_bytes.specs.declared.rack.Rack.{Rack}
use Rattle.pot_index.specs.declared.entry.IndexEntry.{IndexEntry}
use Rattle.pot_index.specs.declared.entry.IndexEntry.TheVariants.{Publish, Renew}
use Rattle.pot_index.specs.declared.record.Record.{Record}
use Rattle.pot_index.specs.declared.reservation.Reservation.{Reservation}
use Rattle.pot_index.specs.Entries.{brings, bringing}
use Rattle.pot_index.specs.declared.record.Split.{Split}
use Rattle.pot_index.specs.Records.{mark_of, renewed}
use Rattle.pot_index.specs.Index.{IndexView, NamesAscend, without, logged}
use Rattle.pot_index.specs.Searches.{RecordStandsAt, BelongsAt}
use Rattle.pot_index.proofs.ListLemmas.{plain_view, went_on_with}
use Rattle.pot_index.proofs.RecordLemmas.{insert_is, set_is}

module _ (v : IndexView) (rack : Rack) (read records records' : List Record) (reserved reserved' : List Reservation) (es es' : List IndexEntry) (rs rs' : List Record)
    (job : ℕ) (r : Record) (mark : Digest) (at : ℕ) (is : plain_view rack read records reserved es rs ≡ v) (few : length rs ≡ length (filter brings es)) (marked : mark ≡ mark_of r) (brought : rs' ≡ rs ++ r ∷ []) where
  pub published_view : BelongsAt v.now.published r.name at → records' ≡ insert records at r → reserved' ≡ without r.name reserved → es' ≡ es ++ Publish job r.name mark ∷ []
      → plain_view rack read records' reserved' es' rs' ≡ logged v (bringing (Publish job r.name (mark_of r)) r)
  published_view place records_is reserved_is entries_is =
      let belongs : BelongsAt records r.name at = subst (λ (w : IndexView). BelongsAt w.now.published r.name at) (sym is) place in
      let entries_are : es' ≡ es ++ Publish job r.name (mark_of r) ∷ [] = entries_is ∙ ap (λ (m : Digest). es ++ Publish job r.name m ∷ []) marked in
      (λ i. plain_view rack read records' reserved' (entries_are i) (brought i))
      ∙ went_on_with v rack read records records' reserved reserved' es rs (Publish job r.name (mark_of r)) r is refl few
      (λ i. record { published = (records_is ∙ insert_is r records at belongs) i; reserved = reserved_is i })

  pub renewed_view : NamesAscend v.now.published → RecordStandsAt v.now.published r.name at → records' ≡ slice_set records at r → reserved' ≡ reserved → es' ≡ es ++ Renew job r.name mark ∷ []
      → plain_view rack read records' reserved' es' rs' ≡ logged v (bringing (Renew job r.name (mark_of r)) r)
  renewed_view up place records_is reserved_is entries_is =
      let ascends : NamesAscend records = subst (λ (w : IndexView). NamesAscend w.now.published) (sym is) up in
      let stands : RecordStandsAt records r.name at = subst (λ (w : IndexView). RecordStandsAt w.now.published r.name at) (sym is) place in
      let entries_are : es' ≡ es ++ Renew job r.name (mark_of r) ∷ [] = entries_is ∙ ap (λ (m : Digest). es ++ Renew job r.name m ∷ []) marked in
      (λ i. plain_view rack read records' reserved' (entries_are i) (brought i))
      ∙ went_on_with v rack read records records' reserved reserved' es rs (Renew job r.name (mark_of r)) r is refl few
      (λ i. record { published = (records_is ∙ set_is r records at ascends stands) i; reserved = reserved_is i })

-- The record at a place, which is `x`, was renewed to `r`.
pub renewed_at : (v : IndexView) (rack : Rack) (read records records' : List Record) (reserved : List Reservation) (es es' : List IndexEntry) (rs rs' : List Record) (job : ℕ) (split : Split) (x r : Record) (mark : Digest) (at : ℕ)
    → plain_view rack read records reserved es rs ≡ v → length rs ≡ length (filter brings es) → NamesAscend v.now.published → at < length v.now.published → x ≡ get_or records at x → r ≡ renewed x split → mark ≡ mark_of r → rs' ≡ rs ++ r ∷ []
    → records' ≡ slice_set records at r → es' ≡ es ++ Renew job r.name mark ∷ []
    → HoldsAt (λ o. plain_view rack read records' reserved es' rs' ≡ logged v (bringing (Renew job o.name (mark_of (renewed o split))) (renewed o split))) v.now.published at
renewed_at v rack read records records' reserved es es' rs rs' job split x r mark at is few up lt x_is r_is marked brought records_is entries_is d =
    let within : at < length records = subst (λ (w : IndexView). at < length w.now.published) (sym is) lt in
    let here : (e : Record) → x ≡ get_or v.now.published at e = λ e. get_or_read records at x within x_is e ∙ ap (λ (w : IndexView). get_or w.now.published at e) is in
    let now_is : plain_view rack read records' reserved es' rs' ≡ logged v (bringing (Renew job r.name (mark_of r)) r) =
    renewed_view v rack read records records' reserved reserved es es' rs rs' job r mark at is few marked brought up
    (lt, λ e. ap (λ (w : Record). w.name) (sym (here e)) ∙ sym (ap (λ (w : Record). w.name) r_is)) records_is refl entries_is in
    subst (λ o. plain_view rack read records' reserved es' rs' ≡ logged v (bringing (Renew job o.name (mark_of (renewed o split))) (renewed o split))) (here d)
    (subst (λ w. plain_view rack read records' reserved es' rs' ≡ logged v (bringing (Renew job w.name (mark_of w)) w)) r_is now_is)
