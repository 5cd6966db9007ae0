-- An image that was read is spelled by its value, and by the format.
use Rattle.std.proofs.Common.{◌≡◌, inl, inr, ℕ, ◌+◌, ◌-◌, ◌≤◌, List, [], ◌++◌, length, take, drop, flat_map, Ok, Err, ap, ap₂, sym, ◌∙◌, refl, arith, append-nil}
use Rattle.std.proofs.lemmas.List.{take-append-drop, take-take, drop-drop, length-drop, length-take-le}
use Rattle.std.proofs.Math.Seq.{take-add}
use Rattle.byteorder.specs.Endian.{big_bytes}
use Rattle.pot_bytes.specs.Lists.{AreBytes}
use Rattle.pot_bytes.specs.Digests.{digest_bytes}
use Rattle.pot_bytes.proofs.ListLemmas.{AreBytes-take, AreBytes-drop}
use Rattle.pot_object.proofs.NumberLemmas.{big_bytes_4, big_bytes_8}
use Rattle.pot_image.specs.declared.format.Format.{Format}
use Rattle.pot_image.specs.declared.format.Format.TheVariants.{First, Second}
use Rattle.pot_image.specs.declared.image.Image.{Image}
use Rattle.pot_image.specs.declared.fault.ImageFault.{ImageFault}
use Rattle.pot_image.specs.Fields.{IsOf}
use Rattle.pot_image.specs.Images.{Contents, contents, image, magic, format_number, stated_length, before_trailer, trailer, Measured, AnswersImage}
use Rattle.pot_image.specs.Spelling.{table_bytes, entry_bytes, index_entry_bytes, counted_bytes, field_bytes, text_bytes, image_bytes}
use Rattle.pot_image.proofs.Once.{read_of}
use Rattle.pot_image.proofs.HeadSpelled.{head_text, head_spelled}
use Rattle.pot_image.proofs.TableSpelled.{tables_spelled}
use Rattle.pot_image.proofs.RecordSpelled.{record_text, records_spelled}
use Rattle.pot_image.proofs.LogSpelled.{logs_spelled, index_log_spelled}
use Rattle.pot_image.proofs.Spelled.{Spelled, NoMore, spelled, behind_done, behind_then}

-- the fields of an image in a format
abbrev field_text : Format → Contents → List ℕ
field_text format v =
    head_text format v.session v.rack ++ flat_map table_bytes v.tables ++ counted_bytes (record_text format) v.records
    ++ flat_map (counted_bytes entry_bytes) v.group_logs ++ counted_bytes index_entry_bytes v.index_log

image_spelled : (format : Format) → Spelled (image format) (field_text format) NoMore
unfolding image
image_spelled format = spelled _ _
    (behind_then [] _ _ _ _ _ (head_spelled format) (λ h a.
    behind_then _ _ _ _ _ _ (tables_spelled h.rack) (λ tables b.
    behind_then _ _ _ _ _ _ (records_spelled format h.rack tables) (λ records c.
    behind_then _ _ _ _ _ _ (logs_spelled h.rack format) (λ logs d.
    behind_then _ _ _ _ _ _ (index_log_spelled format) (λ index e.
    behind_done _ _ _ refl))))))

fields_spelled : (format : Format) (bytes : List ℕ) (v : Contents) → AreBytes bytes → IsOf (image format) bytes v → bytes ≡ field_text format v
fields_spelled format bytes v small is = (image_spelled format).spells bytes [] v small (read_of (image format) bytes v is) ∙ append-nil (field_text format v)

pub one_spelling : (format : Format) (x y : List ℕ) (v : Contents) → AreBytes x → AreBytes y → IsOf (image format) x v → IsOf (image format) y v → x ≡ y
one_spelling format x y v small low is at = fields_spelled format x v small is ∙ sym (fields_spelled format y v low at)

pub as_written : (bytes : List ℕ) (v : Contents) → AreBytes bytes → IsOf (image Second) bytes v → bytes ≡ field_bytes v
unfolding field_bytes
as_written bytes v small is = fields_spelled Second bytes v small is

-- WHOLE IMAGES

not_err : (i : Image) (e : ImageFault) → Ok i ≡ Err e → ⊥
not_err i e h = cc

-- what stands before the fields, and the fields
abbrev framed : ℕ → List ℕ → List ℕ
framed number body = magic ++ big_bytes 4 number ++ big_bytes 8 (48 + length body) ++ body

abbrev sealed : ℕ → List ℕ → List ℕ
sealed number body = framed number body ++ digest_bytes (framed number body)

module _ (x : List ℕ) (small : AreBytes x) (long : 48 ≤ length x) (mark : take 4 x ≡ magic) (stated : stated_length x ≡ length x) where
  number_is : take 4 (drop 4 x) ≡ big_bytes 4 (format_number x)
  number_is = (let n = length-drop 4 x in sym (big_bytes_4 (drop 4 x) (AreBytes-drop 4 x small) (omega (arith, n, long))))

  length_is : take 8 (drop 8 x) ≡ big_bytes 8 (length x)
  length_is = (let n = length-drop 8 x in sym (big_bytes_8 (drop 8 x) (AreBytes-drop 8 x small) (omega (arith, n, long))) ∙ ap (big_bytes 8) stated)

  front_is : take 16 x ≡ magic ++ (big_bytes 4 (format_number x) ++ big_bytes 8 (length x))
  front_is = take-add 4 12 x ∙ ap₂ (λ a b. a ++ b) mark (take-add 4 8 (drop 4 x) ∙ ap₂ (λ a b. a ++ b) number_is (ap (λ z. take 8 z) (drop-drop 4 4 x) ∙ length_is))

  -- all before the trailer
  parts_are : before_trailer x ≡ take 16 x ++ drop 16 (before_trailer x)
  parts_are = sym (take-append-drop 16 (before_trailer x)) ∙ ap (λ z. z ++ drop 16 (before_trailer x)) (take-take 16 (length x - 32) x (omega (arith, long)))

  before_is : before_trailer x ≡ framed (format_number x) (drop 16 (before_trailer x))
  before_is =
      (let a = length-take-le (length x - 32) x (omega (arith, long)) in
      let b = length-drop 16 (before_trailer x) in
      let n : length x ≡ 48 + length (drop 16 (before_trailer x)) = omega (arith, a, b, long) in
      parts_are ∙ ap (λ z. z ++ drop 16 (before_trailer x)) (front_is ∙ ap (λ k. magic ++ (big_bytes 4 (format_number x) ++ big_bytes 8 k)) n))

  sealed_is : trailer x ≡ digest_bytes (before_trailer x) → x ≡ sealed (format_number x) (drop 16 (before_trailer x))
  sealed_is e = sym (take-append-drop (length x - 32) x) ∙ ap (λ z. before_trailer x ++ z) e ∙ ap (λ z. z ++ digest_bytes z) before_is

abbrev number_of : Format → ℕ
number_of First = 1
number_of Second = 2

-- bytes that are answered by an image, in some format
record IsWhole (x : List ℕ) (v : Contents) : Type 0 where
  format : Format
  number : format_number x ≡ number_of format
  bytes : x ≡ sealed (number_of format) (field_text format v)

module _ (x : List ℕ) (i : Image) (small : AreBytes x) where
  by_fields : (format : Format) → 48 ≤ length x → take 4 x ≡ magic → format_number x ≡ number_of format → Measured format x (Ok i) → IsWhole x (contents i)
  by_fields format long mark number (inl less) = absurd (not_err i _ less.1)
  by_fields format long mark number (inr (inl more)) = absurd (not_err i _ more.1)
  by_fields format long mark number (inr (inr (stated, inl other))) = absurd (not_err i _ other.1)
  by_fields format long mark number (inr (inr (stated, inr same))) =
      (let body = AreBytes-drop 16 (before_trailer x) (AreBytes-take (length x - 32) x small) in
      record {
        format = format;
        number = number;
        bytes = sealed_is x small long mark stated same.0 ∙ ap₂ (λ n b. sealed n b) number (fields_spelled format (drop 16 (before_trailer x)) (contents i) body same.1);
      })

  whole_of : AnswersImage x (Ok i) → IsWhole x (contents i)
  whole_of (inl cut) = absurd (not_err i _ cut.1)
  whole_of (inr (long, inl other)) = absurd (not_err i _ other.1)
  whole_of (inr (long, inr (mark, inl none))) = absurd (not_err i _ none.2)
  whole_of (inr (long, inr (mark, inr (inl (number, first))))) = by_fields First long mark number first
  whole_of (inr (long, inr (mark, inr (inr (number, second))))) = by_fields Second long mark number second

same_format : (f g : Format) → number_of f ≡ number_of g → f ≡ g
same_format First First e = refl
same_format Second Second e = refl
same_format First Second e = absurd (omega (arith, e))
same_format Second First e = absurd (omega (arith, e))

pub one_whole : (x y : List ℕ) (i j : Image) → AreBytes x → AreBytes y → AnswersImage x (Ok i) → AnswersImage y (Ok j) → format_number x ≡ format_number y → contents i ≡ contents j → x ≡ y
one_whole x y i j small low read other e same =
    let a = whole_of x i small read in
    let b = whole_of y j low other in
    let format : a.format ≡ b.format = same_format a.format b.format (sym a.number ∙ e ∙ b.number) in
    a.bytes ∙ ap₂ (λ f v. sealed (number_of f) (field_text f v)) format same ∙ sym b.bytes

pub whole_as_written : (x : List ℕ) (i : Image) → AreBytes x → AnswersImage x (Ok i) → format_number x ≡ 2 → x ≡ image_bytes (contents i)
unfolding image_bytes text_bytes field_bytes
whole_as_written x i small read e =
    let a = whole_of x i small read in
    let format : a.format ≡ Second = same_format a.format Second (sym a.number ∙ e) in
    a.bytes ∙ ap (λ f. sealed (number_of f) (field_text f (contents i))) format
