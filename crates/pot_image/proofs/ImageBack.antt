-- An image that was written is read back.
use Rattle.std.proofs.Common.{◌≡◌, inl, inr, ◌+◌, ◌-◌, ◌<◌, ◌≤◌, ◌^◌, [], ◌++◌, Result, Ok, Err, MatchResult, length, get_or, map, take, drop, flat_map, ap, sym, subst, ◌∙◌, refl, arith, append-nil, length-append}
use Rattle.std.proofs.Math.Seq.{take-append_seam, drop-append_seam}
use Rattle.std.proofs.lemmas.List.{get_or-map, length-map}
use Rattle.byteorder.specs.Endian.{big_bytes}
use Rattle.byteorder.specs.Numbers.{big_number-reads_back}
use Rattle.pot_bytes.specs.Digests.{digest_bytes}
use Rattle.pot_bytes.proofs.DigestLemmas.{length-digest_bytes}
use Rattle.pot_object.proofs.ReadLemmas.{spread}
use Rattle.pot_index.specs.Records.{record_bytes}
use Rattle.pot_image.specs.declared.format.Format.TheVariants.{Second}
use Rattle.pot_image.specs.declared.image.Image.{Image}
use Rattle.pot_image.specs.declared.fault.ImageFault.{ImageFault}
use Rattle.pot_image.specs.declared.fault.ImageFault.TheVariants as faults
use Rattle.pot_image.specs.Fields.{IsOf}
use Rattle.pot_image.specs.Reading.{reading}
use Rattle.pot_image.specs.Heads.{head}
use Rattle.pot_image.specs.Tables.{tables}
use Rattle.pot_image.specs.Records.{records}
use Rattle.pot_image.specs.Logs.{group_logs, index_log}
use Rattle.pot_image.specs.Images.{Contents, contents, image, magic, format_number, stated_length, before_trailer, trailer, AnsweredFields, Trailed, Measured, Numbered, Marked, AnswersImage}
use Rattle.pot_image.specs.Spelling.{IsCountable, head_bytes, table_bytes, entry_bytes, index_entry_bytes, counted_bytes, field_bytes, text_bytes, image_bytes}
use Rattle.pot_image.specs.Rules.{IsImage}
use Rattle.pot_image.proofs.Once.{of_read, once_value, never_both}
use Rattle.pot_image.proofs.HeadBack.{head_back}
use Rattle.pot_image.proofs.TableBack.{tables_back}
use Rattle.pot_image.proofs.RecordBack.{records_back}
use Rattle.pot_image.proofs.LogBack.{logs_back, index_log_back}
use Rattle.pot_image.proofs.ReadBack.{Back, back_then, back_end, back_as}

image_back : (v : Contents) → IsImage v → Back (image Second) (field_bytes v) v
unfolding image field_bytes
image_back v is =
    (back_as _ (head_bytes v.session v.rack ++ (flat_map table_bytes v.tables ++ (counted_bytes record_bytes v.records ++ (flat_map (counted_bytes entry_bytes) v.group_logs ++ counted_bytes index_entry_bytes v.index_log)))) _ v
    (sym (spread (head_bytes v.session v.rack) (flat_map table_bytes v.tables) (counted_bytes record_bytes v.records) (flat_map (counted_bytes entry_bytes) v.group_logs) (counted_bytes index_entry_bytes v.index_log)))
    (back_then (head Second) _ (head_bytes v.session v.rack) _ (record { session = v.session; rack = v.rack }) v (head_back v.session v.rack is.session is.together.rack)
    (back_then (tables v.rack) _ (flat_map table_bytes v.tables) _ v.tables v (tables_back v.rack v.tables is.together.rack is.together.tables is.digests)
    (back_then (records Second v.rack v.tables) _ (counted_bytes record_bytes v.records) _ v.records v (records_back v.rack v.tables v.records is.together.rack is.together.records)
    (back_then (group_logs Second v.rack) _ (flat_map (counted_bytes entry_bytes) v.group_logs) _ v.group_logs v (logs_back v.rack is.together.rack v.group_logs is.together.logs is.group_logs)
    (back_end (index_log Second) (λ x. record { session = v.session; rack = v.rack; tables = v.tables; records = v.records; group_logs = v.group_logs; index_log = x }) (counted_bytes index_entry_bytes v.index_log) v.index_log (index_log_back v.index_log is.index_log)))))))

pub fields_back : (v : Contents) → IsImage v → IsOf (image Second) (field_bytes v) v
fields_back v is = of_read (image Second) (field_bytes v) v (ap (reading (image Second)) (sym (append-nil (field_bytes v))) ∙ (image_back v is).read [])

module _ (v : Contents) where
  text_long : length (text_bytes v) ≡ 16 + length (field_bytes v)
  unfolding text_bytes
  text_long = length-append (magic ++ big_bytes 4 2 ++ big_bytes 8 (48 + length (field_bytes v))) (field_bytes v)

  pub image_long : length (image_bytes v) ≡ 48 + length (field_bytes v)
  unfolding image_bytes
  image_long = (let a = length-append (text_bytes v) (digest_bytes (text_bytes v)) in let b = length-digest_bytes (text_bytes v) in let c = text_long in omega (arith, a, b, c))

  front : take 4 (image_bytes v) ≡ magic
  unfolding image_bytes text_bytes
  front = refl

  number : format_number (image_bytes v) ≡ 2
  unfolding image_bytes text_bytes
  number = big_number-reads_back 4 2 (big_bytes 8 (48 + length (field_bytes v)) ++ (field_bytes v ++ digest_bytes (text_bytes v))) (omega arith)

  stated : length (image_bytes v) < 2 ^ 64 → stated_length (image_bytes v) ≡ 48 + length (field_bytes v)
  unfolding image_bytes text_bytes
  stated short = (let n = image_long in big_number-reads_back 8 (48 + length (field_bytes v)) (field_bytes v ++ digest_bytes (text_bytes v)) (omega (arith, n, short)))

  size : length (image_bytes v) - 32 ≡ length (text_bytes v)
  size = (let a = image_long in let b = text_long in omega (arith, a, b))

  text_is : before_trailer (image_bytes v) ≡ text_bytes v
  unfolding image_bytes
  text_is = ap (λ n. take n (image_bytes v)) size ∙ take-append_seam (text_bytes v) (digest_bytes (text_bytes v))

  trailer_is : trailer (image_bytes v) ≡ digest_bytes (text_bytes v)
  unfolding image_bytes
  trailer_is = ap (λ n. drop n (image_bytes v)) size ∙ drop-append_seam (text_bytes v) (digest_bytes (text_bytes v))

  behind_front : drop 16 (text_bytes v) ≡ field_bytes v
  unfolding text_bytes
  behind_front = refl

  body_is : drop 16 (before_trailer (image_bytes v)) ≡ field_bytes v
  body_is = ap (λ z. drop 16 z) text_is ∙ behind_front

abbrev IsBack : Contents → Result Image ImageFault → Type 0
IsBack v r = MatchResult r (λ i. contents i ≡ v) (λ e. e ≡ faults.NoMemory)

module _ (v : Contents) (is : IsImage v) where
  by_fault : (e : ImageFault) → AnsweredFields Second (field_bytes v) (Err e) → e ≡ faults.NoMemory
  by_fault (faults.Form place) a = absurd (never_both (image Second) (field_bytes v) v a.0 (fields_back v is) a.2)
  by_fault faults.NoMemory a = refl
  by_fault faults.Cut a = absurd a
  by_fault (faults.Trailer kept computed) a = absurd a

  by_fields : (r : Result Image ImageFault) → AnsweredFields Second (field_bytes v) r → IsBack v r
  by_fields (Ok i) a = once_value (image Second) (field_bytes v) (contents i) v a (fields_back v is)
  by_fields (Err e) a = by_fault e a

  by_trailer : (r : Result Image ImageFault) → Trailed Second (image_bytes v) r → IsBack v r
  by_trailer r (inl other) = absurd (other.0 (trailer_is v ∙ ap digest_bytes (sym (text_is v))))
  by_trailer r (inr same) = by_fields r (subst (λ b. AnsweredFields Second b r) (body_is v) same.1)

  by_length : (r : Result Image ImageFault) → Measured Second (image_bytes v) r → IsBack v r
  by_length r (inl less) = (let a = image_long v in let b = stated v is.short in let c = less.0 in absurd (omega (arith, a, b, c)))
  by_length r (inr (inl more)) = (let a = image_long v in let b = stated v is.short in let c = more.0 in absurd (omega (arith, a, b, c)))
  by_length r (inr (inr same)) = by_trailer r same.1

  by_number : (r : Result Image ImageFault) → Numbered (image_bytes v) r → IsBack v r
  by_number r (inl none) = absurd (none.1 (number v))
  by_number r (inr (inl first)) = (let a = number v in let b = first.0 in absurd (omega (arith, a, b)))
  by_number r (inr (inr second)) = by_length r second.1

  by_front : (r : Result Image ImageFault) → Marked (image_bytes v) r → IsBack v r
  by_front r (inl other) = absurd (other.0 (front v))
  by_front r (inr marked) = by_number r marked.1

  pub answers_back : (r : Result Image ImageFault) → AnswersImage (image_bytes v) r → IsBack v r
  answers_back r (inl cut) = (let a = image_long v in let b = cut.0 in absurd (omega (arith, a, b)))
  answers_back r (inr long) = by_front r long.1

pub written_apart : (v w : Contents) → IsImage v → IsImage w → image_bytes v ≡ image_bytes w → v ≡ w
written_apart v w p q e =
    let same : field_bytes w ≡ field_bytes v = sym (body_is w) ∙ ap (λ b. drop 16 (before_trailer b)) (sym e) ∙ body_is v in
    once_value (image Second) (field_bytes v) v w (fields_back v p) (subst (λ b. IsOf (image Second) b w) same (fields_back w q))

pub countable : (i : Image) → IsImage (contents i) → IsCountable i
countable i is = record {
  records = (let n = is.together.records.read.few in omega (arith, n));
  logs = λ k d l. (let size : length (map (λ v. v.items) i.group_logs.items) ≡ length i.group_logs.items = length-map i.group_logs.items (λ v. v.items) in
      let below : k < length (map (λ v. v.items) i.group_logs.items) = omega (arith, size, l) in
      let n : length (get_or (map (λ v. v.items) i.group_logs.items) k []) ≤ 262144 = (is.group_logs k [] below).count in
      let same : length (get_or (map (λ v. v.items) i.group_logs.items) k []) ≡ length (get_or i.group_logs.items k d).items = ap length (get_or-map (λ v. v.items) i.group_logs.items k d [] l) in
      omega (arith, n, same));
  index_log = (let n = is.index_log.count in omega (arith, n));
}
