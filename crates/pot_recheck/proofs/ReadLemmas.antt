-- The logs of an image that was read are those of its rack.
use Rattle.std.proofs.Common.{◌≡◌, ◌<◌, ◌≤◌, ◌+◌, ◌-◌, inl, inr, ℕ, ◌==◌, nat_le, Bool, true, false, List, [], Result, Ok, Err, length, refl, sym, ap, subst, arith, All, if◌then◌else◌}
use Rattle.std.proofs.lemmas.Bool.{leb-true}
use Rattle.std.proofs.lemmas.List.Elements.{All-nil, All-push}
use Rattle.pot_bytes.specs.declared.digest.Digest.{Digest}
use Rattle.pot_bytes.specs.declared.rack.Rack.{Rack}
use Rattle.pot_bytes.specs.Rack.{IsRack, log_bound}
use Rattle.pot_machine.specs.declared.entry.Entry.{Entry}
use Rattle.pot_machine.specs.declared.entry.Entry.TheVariants.{Put, Skip, Seen, Gone, Broke, Fault, Begin, Hop, Mended, GaveUp, Oddly, Stuck, MoveBegin, Moved, MoveEnd, Swapped, Counted, Put2}
use Rattle.pot_image.specs.declared.image.Image.{Image}
use Rattle.pot_image.specs.declared.fault.ImageFault.{ImageFault}
use Rattle.pot_image.specs.Fields.{Grammar, done}
use Rattle.pot_image.specs.Reading.{◌>>=◌, reading, several}
use Rattle.pot_image.specs.Numbers.{natural, any, at_most, between, flag, digest}
use Rattle.pot_image.specs.Heads.{head}
use Rattle.pot_image.specs.Tables.{tables}
use Rattle.pot_image.specs.Records.{records}
use Rattle.pot_image.specs.Logs as logs
use Rattle.pot_image.specs.Images.{Contents, contents, image, AnsweredFields, Trailed, Measured, Numbered, Marked, AnswersImage}
use Rattle.pot_image.specs.Rules.{IsSpotOf, IsMove, FitsEntry, FitsTogether, IsWholeEntry}
use Rattle.pot_image.proofs.Once.{read_of}
use Rattle.pot_image.proofs.Steps.{holds_of, between_of}
use Rattle.pot_image.proofs.Inverse.{parts, done_is, several_keep}
use Rattle.pot_image.proofs.RecordRules.{one_longer}

-- what an entry of a group's log names, the rack has
abbrev pub InRack : Rack → Entry → Type 0
InRack rack (Put job s c d p kept) = IsSpotOf rack s c
InRack rack (Skip job s) = s < rack.stripes
InRack rack (Seen job s c) = IsSpotOf rack s c
InRack rack (Gone job s c) = IsSpotOf rack s c
InRack rack (Broke job s c) = IsSpotOf rack s c
InRack rack (Fault job s c) = IsSpotOf rack s c
InRack rack (Begin job s c) = IsSpotOf rack s c
InRack rack (Hop job s c) = IsSpotOf rack s c
InRack rack (Mended job s c) = IsSpotOf rack s c
InRack rack (GaveUp job s c other) = IsSpotOf rack s c × (other < rack.columns + rack.parity)
InRack rack (Oddly job s c found) = IsSpotOf rack s c
InRack rack (Stuck job s c other) = IsSpotOf rack s c × (other < rack.columns + rack.parity)
InRack rack (MoveBegin job c to) = IsMove rack c to
InRack rack (Moved job s c copied) = IsSpotOf rack s c
InRack rack (MoveEnd job c) = c < rack.columns + rack.parity
InRack rack (Swapped job c to) = IsMove rack c to
InRack rack (Counted job) = Unit {0}
InRack rack (Put2 job s c d p q kept kept2) = IsSpotOf rack s c

-- with a job and digests that are whole it fits
pub fits_of : (rack : Rack) (e : Entry) → IsWholeEntry e → InRack rack e → FitsEntry rack e
fits_of rack (Put job s c d p kept) w h = (w.0, (h, w.1))
fits_of rack (Skip job s) w h = (w, h)
fits_of rack (Seen job s c) w h = (w, h)
fits_of rack (Gone job s c) w h = (w, h)
fits_of rack (Broke job s c) w h = (w, h)
fits_of rack (Fault job s c) w h = (w, h)
fits_of rack (Begin job s c) w h = (w, h)
fits_of rack (Hop job s c) w h = (w, h)
fits_of rack (Mended job s c) w h = (w, h)
fits_of rack (GaveUp job s c other) w h = (w, (h.0, h.1))
fits_of rack (Oddly job s c found) w h = (w.0, (h, w.1))
fits_of rack (Stuck job s c other) w h = (w, (h.0, h.1))
fits_of rack (MoveBegin job c to) w h = (w, h)
fits_of rack (Moved job s c copied) w h = (w, h)
fits_of rack (MoveEnd job c) w h = (w, h)
fits_of rack (Swapped job c to) w h = (w, h)
fits_of rack (Counted job) w h = w
fits_of rack (Put2 job s c d p q kept kept2) w h = (w.0, (h, w.1))

-- A CHOICE

both : (P : Entry → Type 0) (t : Bool) (a b : Entry) → P a → P b → P (if t then a else b)
both P true a b p q = p
both P false a b p q = q

six : (P : Entry → Type 0) (a b c d e f : Bool) (p q r s t u v : Entry) → P p → P q → P r → P s → P t → P u → P v
    → P (if a then p else if b then q else if c then r else if d then s else if e then t else if f then u else v)
six P a b c d e f p q r s t u v hp hq hr hs ht hu hv = both P a p _ hp (both P b q _ hq (both P c r _ hr (both P d s _ hs (both P e t _ ht (both P f u v hu hv)))))

-- AN ENTRY

module _ (rack : Rack) (rules : IsRack rack) where
  stripe_in : (bytes rest : List ℕ) (s : ℕ) → reading (logs.stripe rack) bytes ≡ Ok (s, rest) → s < rack.stripes
  stripe_in bytes rest s e = (let l = leb-true _ _ (holds_of 4 (at_most (rack.stripes - 1)) bytes rest s e) in let m = rules.stripes.0 in omega (arith, l, m))

  column_in : (bytes rest : List ℕ) (c : ℕ) → reading (logs.column rack) bytes ≡ Ok (c, rest) → c < rack.columns + rack.parity
  column_in bytes rest c e = (let l = (between_of 1 0 (rack.columns + rack.parity - 1) bytes rest c e).1 in let m = rules.columns.0 in omega (arith, l, m))

  archive_in : (bytes rest : List ℕ) (n : ℕ) → reading logs.archive bytes ≡ Ok (n, rest) → n ≤ 511
  archive_in bytes rest n e = leb-true _ _ (holds_of 4 (at_most 511) bytes rest n e)

  place_in : (bytes rest : List ℕ) (p : ℕ × ℕ) → reading (logs.place rack) bytes ≡ Ok (p, rest) → IsSpotOf rack p.0 p.1
  place_in bytes rest p e =
      let a = parts (logs.stripe rack) (λ s. logs.column rack >>= λ c. done (s, c)) bytes p rest e in
      let b = parts (logs.column rack) (λ c. done (a.value, c)) a.behind p rest a.second in
      let same = done_is (a.value, b.value) p b.behind rest b.second in
      subst (λ (q : ℕ × ℕ). IsSpotOf rack q.0 q.1) same.0 (stripe_in bytes a.behind a.value a.first, column_in a.behind b.behind b.value b.first)

  module _ (x : Entry) (bytes rest : List ℕ) where
    of_put_in : (make : ℕ → ℕ → Digest → Digest → Bool → Entry) → ((s c : ℕ) (d p : Digest) (kept : Bool) → IsSpotOf rack s c → InRack rack (make s c d p kept)) → reading (logs.of_put rack make) bytes ≡ Ok (x, rest) → InRack rack x
    of_put_in make is e =
        let a = parts (logs.place rack) (λ at. digest >>= λ d. digest >>= λ p. flag >>= λ kept. done (make at.0 at.1 d p kept)) bytes x rest e in
        let b = parts digest (λ d. digest >>= λ p. flag >>= λ kept. done (make a.value.0 a.value.1 d p kept)) a.behind x rest a.second in
        let c = parts digest (λ p. flag >>= λ kept. done (make a.value.0 a.value.1 b.value p kept)) b.behind x rest b.second in
        let d = parts flag (λ kept. done (make a.value.0 a.value.1 b.value c.value kept)) c.behind x rest c.second in
        subst (InRack rack) (done_is _ x d.behind rest d.second).0 (is a.value.0 a.value.1 b.value c.value d.value (place_in bytes a.behind a.value a.first))

    of_two_puts_in : (make : ℕ → ℕ → Digest → Digest → Digest → Bool → Bool → Entry) → ((s c : ℕ) (d p q : Digest) (kept kept2 : Bool) → IsSpotOf rack s c → InRack rack (make s c d p q kept kept2)) → reading (logs.of_two_puts rack make) bytes ≡ Ok (x, rest) → InRack rack x
    of_two_puts_in make is e =
        let a = parts (logs.place rack) (λ at. digest >>= λ d. digest >>= λ p. digest >>= λ q. flag >>= λ kept. flag >>= λ kept2. done (make at.0 at.1 d p q kept kept2)) bytes x rest e in
        let b = parts digest (λ d. digest >>= λ p. digest >>= λ q. flag >>= λ kept. flag >>= λ kept2. done (make a.value.0 a.value.1 d p q kept kept2)) a.behind x rest a.second in
        let c = parts digest (λ p. digest >>= λ q. flag >>= λ kept. flag >>= λ kept2. done (make a.value.0 a.value.1 b.value p q kept kept2)) b.behind x rest b.second in
        let d = parts digest (λ q. flag >>= λ kept. flag >>= λ kept2. done (make a.value.0 a.value.1 b.value c.value q kept kept2)) c.behind x rest c.second in
        let f = parts flag (λ kept. flag >>= λ kept2. done (make a.value.0 a.value.1 b.value c.value d.value kept kept2)) d.behind x rest d.second in
        let g = parts flag (λ kept2. done (make a.value.0 a.value.1 b.value c.value d.value f.value kept2)) f.behind x rest f.second in
        subst (InRack rack) (done_is _ x g.behind rest g.second).0 (is a.value.0 a.value.1 b.value c.value d.value f.value g.value (place_in bytes a.behind a.value a.first))

    of_stripe_in : (make : ℕ → Entry) → ((s : ℕ) → s < rack.stripes → InRack rack (make s)) → reading (logs.of_stripe rack make) bytes ≡ Ok (x, rest) → InRack rack x
    of_stripe_in make is e =
        let a = parts (logs.stripe rack) (λ s. done (make s)) bytes x rest e in
        subst (InRack rack) (done_is _ x a.behind rest a.second).0 (is a.value (stripe_in bytes a.behind a.value a.first))

    of_column_in : (make : ℕ → Entry) → ((c : ℕ) → c < rack.columns + rack.parity → InRack rack (make c)) → reading (logs.of_column rack make) bytes ≡ Ok (x, rest) → InRack rack x
    of_column_in make is e =
        let a = parts (logs.column rack) (λ c. done (make c)) bytes x rest e in
        subst (InRack rack) (done_is _ x a.behind rest a.second).0 (is a.value (column_in bytes a.behind a.value a.first))

    of_place_in : (make : ℕ → ℕ → Entry) → ((s c : ℕ) → IsSpotOf rack s c → InRack rack (make s c)) → reading (logs.of_place rack make) bytes ≡ Ok (x, rest) → InRack rack x
    of_place_in make is e =
        let a = parts (logs.place rack) (λ p. done (make p.0 p.1)) bytes x rest e in
        subst (InRack rack) (done_is _ x a.behind rest a.second).0 (is a.value.0 a.value.1 (place_in bytes a.behind a.value a.first))

    of_two_columns_in : (make : ℕ → ℕ → ℕ → Entry) → ((s c other : ℕ) → IsSpotOf rack s c → other < rack.columns + rack.parity → InRack rack (make s c other)) → reading (logs.of_two_columns rack make) bytes ≡ Ok (x, rest) → InRack rack x
    of_two_columns_in make is e =
        let a = parts (logs.place rack) (λ p. logs.column rack >>= λ other. done (make p.0 p.1 other)) bytes x rest e in
        let b = parts (logs.column rack) (λ other. done (make a.value.0 a.value.1 other)) a.behind x rest a.second in
        subst (InRack rack) (done_is _ x b.behind rest b.second).0 (is a.value.0 a.value.1 b.value (place_in bytes a.behind a.value a.first) (column_in a.behind b.behind b.value b.first))

    of_digest_in : (make : ℕ → ℕ → Digest → Entry) → ((s c : ℕ) (d : Digest) → IsSpotOf rack s c → InRack rack (make s c d)) → reading (logs.of_digest rack make) bytes ≡ Ok (x, rest) → InRack rack x
    of_digest_in make is e =
        let a = parts (logs.place rack) (λ p. digest >>= λ d. done (make p.0 p.1 d)) bytes x rest e in
        let b = parts digest (λ d. done (make a.value.0 a.value.1 d)) a.behind x rest a.second in
        subst (InRack rack) (done_is _ x b.behind rest b.second).0 (is a.value.0 a.value.1 b.value (place_in bytes a.behind a.value a.first))

    of_flag_in : (make : ℕ → ℕ → Bool → Entry) → ((s c : ℕ) (b : Bool) → IsSpotOf rack s c → InRack rack (make s c b)) → reading (logs.of_flag rack make) bytes ≡ Ok (x, rest) → InRack rack x
    of_flag_in make is e =
        let a = parts (logs.place rack) (λ p. flag >>= λ b. done (make p.0 p.1 b)) bytes x rest e in
        let b = parts flag (λ b. done (make a.value.0 a.value.1 b)) a.behind x rest a.second in
        subst (InRack rack) (done_is _ x b.behind rest b.second).0 (is a.value.0 a.value.1 b.value (place_in bytes a.behind a.value a.first))

    of_archive_in : (make : ℕ → ℕ → Entry) → ((c to : ℕ) → IsMove rack c to → InRack rack (make c to)) → reading (logs.of_archive rack make) bytes ≡ Ok (x, rest) → InRack rack x
    of_archive_in make is e =
        let a = parts (logs.column rack) (λ c. logs.archive >>= λ to. done (make c to)) bytes x rest e in
        let b = parts logs.archive (λ to. done (make a.value to)) a.behind x rest a.second in
        subst (InRack rack) (done_is _ x b.behind rest b.second).0 (is a.value b.value (column_in bytes a.behind a.value a.first, archive_in a.behind b.behind b.value b.first))

    placed_in : (job kind s c : ℕ) → IsSpotOf rack s c → InRack rack (logs.placed kind job s c)
    placed_in job kind s c at =
        six (InRack rack) (kind == 3) (kind == 4) (kind == 5) (kind == 6) (kind == 7) (kind == 8) (Seen job s c) (Gone job s c) (Broke job s c) (Fault job s c) (Begin job s c) (Hop job s c) (Mended job s c)
        at at at at at at at

    by : (t : Bool) (g h : Grammar Entry) → (reading g bytes ≡ Ok (x, rest) → InRack rack x) → (reading h bytes ≡ Ok (x, rest) → InRack rack x) → reading (if t then g else h) bytes ≡ Ok (x, rest) → InRack rack x
    by true g h p q e = p e
    by false g h p q e = q e

    entry_of_in : (job kind : ℕ) → reading (logs.entry_of rack job kind) bytes ≡ Ok (x, rest) → InRack rack x
    unfolding logs.entry_of
    entry_of_in job kind =
        by (kind == 1) (logs.of_put rack (Put job)) _ (of_put_in (Put job) (λ s c d p kept at. at))
        (by (kind == 2) (logs.of_stripe rack (Skip job)) _ (of_stripe_in (Skip job) (λ s l. l))
        (by (nat_le kind 9) (logs.of_place rack (logs.placed kind job)) _ (of_place_in (logs.placed kind job) (placed_in job kind))
        (by (kind == 10) (logs.of_two_columns rack (GaveUp job)) _ (of_two_columns_in (GaveUp job) (λ s c other at l. (at, l)))
        (by (kind == 11) (logs.of_digest rack (Oddly job)) _ (of_digest_in (Oddly job) (λ s c d at. at))
        (by (kind == 12) (logs.of_two_columns rack (Stuck job)) _ (of_two_columns_in (Stuck job) (λ s c other at l. (at, l)))
        (by (kind == 13) (logs.of_archive rack (MoveBegin job)) _ (of_archive_in (MoveBegin job) (λ c to m. m))
        (by (kind == 14) (logs.of_flag rack (Moved job)) _ (of_flag_in (Moved job) (λ s c b at. at))
        (by (kind == 15) (logs.of_column rack (MoveEnd job)) _ (of_column_in (MoveEnd job) (λ c l. l))
        (by (kind == 16) (logs.of_archive rack (Swapped job)) _ (of_archive_in (Swapped job) (λ c to m. m))
        (by (kind == 17) (done (Counted job)) (logs.of_two_puts rack (Put2 job)) (λ e. subst (InRack rack) (done_is (Counted job) x bytes rest e).0 tt)
        (of_two_puts_in (Put2 job) (λ s c d p q kept kept2 at. at))))))))))))

  entry_in : (format : _) (bytes rest : List ℕ) (x : Entry) → reading (logs.entry format rack) bytes ≡ Ok (x, rest) → InRack rack x
  unfolding logs.entry
  entry_in format bytes rest x e =
      let a = parts (natural 1 (between 1 (logs.kinds format))) (λ kind. natural 4 any >>= λ job. logs.entry_of rack job kind) bytes x rest e in
      let b = parts (natural 4 any) (λ job. logs.entry_of rack job a.value) a.behind x rest a.second in
      entry_of_in x b.behind rest b.value a.value b.second

  -- THE LOGS

  abbrev IsReadLog : List Entry → Type 0
  IsReadLog l = (length l ≤ log_bound) × All (InRack rack) l

  log_in : (format : _) (bytes rest : List ℕ) (l : List Entry) → reading (logs.group_log format rack) bytes ≡ Ok (l, rest) → IsReadLog l
  unfolding logs.group_log
  log_in format bytes rest l e =
      let a = parts (natural 4 (at_most log_bound)) (λ n. several 0 n (logs.entry_behind format rack) []) bytes l rest e in
      let low = leb-true _ _ (holds_of 4 (at_most log_bound) bytes a.behind a.value a.first) in
      let k = several_keep (λ i before. (length before ≡ i) × All (InRack rack) before) (logs.entry_behind format rack) a.value
      (λ i before x bs rs m p h. (one_longer before x i p.0, All-push (InRack rack) before x p.1 (entry_in format bs rs x h))) a.value 0 [] l a.behind rest (omega arith) (refl, All-nil (InRack rack)) a.second in
      ((let n = k.0 in omega (arith, n, low)), k.1)

  logs_in : (format : _) (bytes rest : List ℕ) (ls : List (List Entry)) → reading (logs.group_logs format rack) bytes ≡ Ok (ls, rest) → All IsReadLog ls
  unfolding logs.group_logs
  logs_in format bytes rest ls e =
      several_keep (λ i before. All IsReadLog before) (logs.group_log_behind format rack) rack.groups (λ i before x bs rs m p h. All-push IsReadLog before x p (log_in format bs rs x h)) rack.groups 0 [] ls bytes rest
      (omega arith) (All-nil IsReadLog) e

index_in : (format : _) (bytes rest : List ℕ) (l : _) → reading (logs.index_log format) bytes ≡ Ok (l, rest) → length l ≤ log_bound
unfolding logs.index_log
index_in format bytes rest l e =
    let a = parts (natural 4 (at_most log_bound)) (λ n. several 0 n (logs.index_entry_behind format) []) bytes l rest e in
    let low = leb-true _ _ (holds_of 4 (at_most log_bound) bytes a.behind a.value a.first) in
    let k = several_keep (λ i before. length before ≡ i) (logs.index_entry_behind format) a.value (λ i before x bs rs m p h. one_longer before x i p) a.value 0 [] l a.behind rest (omega arith) refl a.second in
    (let n = k in omega (arith, n, low))

-- THE IMAGE

pub record HasReadLogs (v : Contents) : Type 0 where
  pub group_logs : All (λ l. (length l ≤ log_bound) × All (InRack v.rack) l) v.group_logs
  pub index_log : length v.index_log ≤ log_bound

fields_in : (format : _) (bytes rest : List ℕ) (v : Contents) → IsRack v.rack → reading (image format) bytes ≡ Ok (v, rest) → HasReadLogs v
unfolding image
fields_in format bytes rest v rules e =
    (let a = parts (head format) (λ h. tables h.rack >>= λ ts. records format h.rack ts >>= λ rs. logs.group_logs format h.rack >>= λ ls. logs.index_log format >>= λ xs. done (record { session = h.session; rack = h.rack; tables = ts; records = rs; group_logs = ls; index_log = xs })) bytes v rest e in
    let b = parts (tables a.value.rack) (λ ts. records format a.value.rack ts >>= λ rs. logs.group_logs format a.value.rack >>= λ ls. logs.index_log format >>= λ xs. done (record { session = a.value.session; rack = a.value.rack; tables = ts; records = rs; group_logs = ls; index_log = xs })) a.behind v rest a.second in
    let c = parts (records format a.value.rack b.value) (λ rs. logs.group_logs format a.value.rack >>= λ ls. logs.index_log format >>= λ xs. done (record { session = a.value.session; rack = a.value.rack; tables = b.value; records = rs; group_logs = ls; index_log = xs })) b.behind v rest b.second in
    let d = parts (logs.group_logs format a.value.rack) (λ ls. logs.index_log format >>= λ xs. done (record { session = a.value.session; rack = a.value.rack; tables = b.value; records = c.value; group_logs = ls; index_log = xs })) c.behind v rest c.second in
    let f = parts (logs.index_log format) (λ xs. done (record { session = a.value.session; rack = a.value.rack; tables = b.value; records = c.value; group_logs = d.value; index_log = xs })) d.behind v rest d.second in
    let same = done_is (record { session = a.value.session; rack = a.value.rack; tables = b.value; records = c.value; group_logs = d.value; index_log = f.value }) v f.behind rest f.second in
    subst HasReadLogs same.0 (record {
      group_logs = logs_in a.value.rack (subst IsRack (sym (ap (λ (x : Contents). x.rack) same.0)) rules) format c.behind d.behind d.value d.first;
      index_log = index_in format d.behind f.behind f.value f.first;
    }))

abbrev IsIn : Result Image ImageFault → Type 0
IsIn (Ok i) = FitsTogether (contents i) → HasReadLogs (contents i)
IsIn (Err e) = Unit {0}

refused : (r : Result Image ImageFault) (e : ImageFault) → r ≡ Err e → IsIn r
refused r e q = subst IsIn (sym q) tt

by_fields : (format : _) (body : List ℕ) (r : Result Image ImageFault) → AnsweredFields format body r → IsIn r
by_fields format body (Ok i) a = λ fits. fields_in format body [] (contents i) fits.rack (read_of (image format) body (contents i) a)
by_fields format body (Err e) a = tt

by_trailer : (format : _) (bytes : List ℕ) (r : Result Image ImageFault) → Trailed format bytes r → IsIn r
by_trailer format bytes r (inl other) = refused r _ other.1
by_trailer format bytes r (inr same) = by_fields format _ r same.1

by_length : (format : _) (bytes : List ℕ) (r : Result Image ImageFault) → Measured format bytes r → IsIn r
by_length format bytes r (inl less) = refused r _ less.1
by_length format bytes r (inr (inl more)) = refused r _ more.1
by_length format bytes r (inr (inr same)) = by_trailer format bytes r same.1

by_number : (bytes : List ℕ) (r : Result Image ImageFault) → Numbered bytes r → IsIn r
by_number bytes r (inl none) = refused r _ none.2
by_number bytes r (inr (inl first)) = by_length _ bytes r first.1
by_number bytes r (inr (inr second)) = by_length _ bytes r second.1

by_front : (bytes : List ℕ) (r : Result Image ImageFault) → Marked bytes r → IsIn r
by_front bytes r (inl other) = refused r _ other.1
by_front bytes r (inr marked) = by_number bytes r marked.1

by_answer : (bytes : List ℕ) (r : Result Image ImageFault) → AnswersImage bytes r → IsIn r
by_answer bytes r (inl cut) = refused r _ cut.1
by_answer bytes r (inr long) = by_front bytes r long.1

pub read_logs : (bytes : List ℕ) (i : Image) → AnswersImage bytes (Ok i) → FitsTogether (contents i) → HasReadLogs (contents i)
read_logs bytes i a fits = by_answer bytes (Ok i) a fits
