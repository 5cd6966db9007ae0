-- Where the blinds of a job's relays come from, part after part.
use Rattle.std.proofs.Common.{◌≡◌, ◌≢◌, ⊎_elim, inl, inr, ℕ, false, List, [], ◌∷◌, ◌++◌, refl, ap, sym, ◌∙◌, subst}
use Rattle.std.specs.Prelude.{Option, Some, None, Result, Ok, Err, filter}
use Rattle.std.proofs.lemmas.Bool.{cases_eq}
use lib.Seq.{drop-length}
use Rattle.pot_bytes.specs.declared.digest.Digest.{Digest}
use Rattle.pot_bytes.specs.declared.rack.Geometry.{Geometry}
use Rattle.pot_bytes.specs.declared.rack.Place.{Place}
use Rattle.pot_bytes.specs.declared.rack.Rack.{Rack}
use Rattle.pot_machine.specs.declared.entry.Entry.{Entry}
use Rattle.pot_machine.specs.declared.entry.Entry.TheVariants as entry
use Rattle.pot_machine.specs.Logs.{IsKeptPut, own}
use Rattle.pot_machine.specs.Table.{Table}
use Rattle.pot_steps.specs.GroupStep.{Passed, gone_entries, skips}
use Rattle.pot_bytes.specs.Digests.{digest_of}
use Rattle.pot_group.specs.declared.answers.PutFault.{PutFault}
use Rattle.pot_group.specs.declared.answers.PutFault.TheVariants as fault
use Rattle.pot_index.specs.declared.record.Split.{Split}
use Rattle.pot_pads.specs.Pads.{Pads}
use Rattle.pot_replies.specs.Stores.{IsUnkept, Placed, Puts, in_group}
use Rattle.pot_rows.specs.Rows.{view_at}
use Rattle.pot_rows.specs.Works.{RowWroteOnlyFor}
use Rattle.pot_shared.specs.declared.mending.Mending.{Mending}
use Rattle.pot_shared.specs.MendCalls.{MendsPlace}
use Rattle.pot_shared.specs.Members.{entries_of}
use Rattle.pot_shared.specs.Ready.{GroupPass, GroupPasses}
use Rattle.pot_shared.specs.Blinds.{BeganNone, Blinds, is_begin}
use Rattle.pot_store.specs.declared.renewing.RenewFileFault.{RenewFileFault}
use Rattle.pot_store.specs.declared.renewing.RenewFileFault.TheVariants as renew
use Rattle.pot_store.specs.declared.storing.Stored.{Stored}
use Rattle.pot_store.specs.Drawing.{blocks_from}
use Rattle.pot_store.specs.Puts.{ArePut, EndsPut, PutsEnd}
use Rattle.pot_store.specs.Renewals.{PutsSplit, StopsAtPut}
use Rattle.pot_store.specs.Visits.{Came, LooksAgain, LooksOnce, look_logs}
use Rattle.pot_store.specs.Visits as came
use Rattle.pot_shared.specs.Works.{gained, of_job}
use Rattle.pot_shared.proofs.BlindLemmas.{blinds_mends, none_adds, none_of_two, then_quiet}

-- NO RELAY BEGAN

look_begins : (job : ℕ) (p : Place) (c : Came) → filter is_begin (look_logs job p c) ≡ []
look_begins job p came.Unknown = refl
look_begins job p (came.Seen block) = refl
look_begins job p came.Gone = refl
look_begins job p came.Lost = refl
look_begins job p (came.Failed column) = refl
look_begins job p came.Barred = refl

-- one look
pub none_look : (job : ℕ) (p : Place) (c : Came) (old new : GroupPasses) → LooksOnce job p c old new → BeganNone job old new
none_look job p c old new look = none_adds job p.group (look_logs job p c) old new (look_begins job p c) look.visits.adds

-- PUTS

pub gone_begins : (job s : ℕ) (gone : Option ℕ) → filter is_begin (gone_entries job s gone) ≡ []
gone_begins job s None = refl
gone_begins job s (Some c) = refl

pub skips_begin : (job : ℕ) (passed : List Passed) → filter is_begin (skips job passed) ≡ []
skips_begin job [] = refl
skips_begin job (x ∷ xs) = none_of_two (gone_entries job x.stripe x.gone) (entry.Skip job x.stripe ∷ skips job xs) (gone_begins job x.stripe x.gone) (skips_begin job xs)

pub one_begins : (e : Entry) → is_begin e ≡ false → filter is_begin (e ∷ []) ≡ []
one_begins e is = rw is refl

kept_begins : (job s c : ℕ) (d : Digest) (e : Entry) → IsKeptPut job s c d e → is_begin e ≡ false
kept_begins job s c d e (inl (p, is)) = ap is_begin is
kept_begins job s c d e (inr (p, q, is)) = ap is_begin is

pub unkept_begins : (columns job : ℕ) (d : Digest) (column : ℕ) (e : Entry) → IsUnkept columns job d column e → is_begin e ≡ false
unkept_begins columns job d column e (inl (s, c, p, is, at)) = ap is_begin is
unkept_begins columns job d column e (inr (inl (s, c, p, q, k, is, at))) = ap is_begin is
unkept_begins columns job d column e (inr (inr (s, c, p, q, is, at))) = ap is_begin is

pub puts_begin : (job : ℕ) (placed : List Placed) (entries : List Entry) → Puts job placed entries → filter is_begin entries ≡ []
puts_begin job [] entries is = ap (λ es. filter is_begin es) is
puts_begin job (x ∷ xs) entries (passed, e, rest, kept, are, more) =
    ap (λ es. filter is_begin es) are
    ∙ none_of_two (skips job passed ++ e ∷ []) rest
    (none_of_two (skips job passed) (e ∷ []) (skips_begin job passed) (one_begins e (kept_begins job x.stripe x.column x.digest e kept)))
    (puts_begin job xs rest more)

ends_begin : (rack : Rack) (first : Table) (job : ℕ) (block : List ℕ) (cause : PutFault) (entries before gain : List Entry) (w : GroupPass) → EndsPut rack first job block cause entries before gain w
    → filter is_begin entries ≡ []
ends_begin rack first job block fault.Full entries before gain w (passed, are, full) = ap (λ es. filter is_begin es) are ∙ skips_begin job passed
ends_begin rack first job block fault.LogFull entries before gain w (passed, s, gone, are, full) =
    ap (λ es. filter is_begin es) are ∙ none_of_two (skips job passed) (gone_entries job s gone) (skips_begin job passed) (gone_begins job s gone)
ends_begin rack first job block (fault.Faulted column) entries before gain w (passed, last, are, inl (s, is, why)) =
    ap (λ es. filter is_begin es) are ∙ none_of_two (skips job passed) (last ∷ []) (skips_begin job passed) (one_begins last (ap is_begin is))
ends_begin rack first job block (fault.Faulted column) entries before gain w (passed, last, are, inr unkept) =
    ap (λ es. filter is_begin es) are
    ∙ none_of_two (skips job passed) (last ∷ []) (skips_begin job passed) (one_begins last (unkept_begins rack.columns job (digest_of block) column last unkept))

module _ (rack : Rack) (geometry : Geometry) (job : ℕ) where
  -- the blocks of a split were put
  none_put : (blocks : List (List ℕ)) (places : List Place) (old new : GroupPasses) → ArePut rack geometry job blocks places old new → BeganNone job old new
  none_put blocks places old new put = record {
    worked = put.worked;
    none = λ alone g. puts_begin job (in_group g put.placed) (own job (gained old new g)) (put.puts alone g);
  }

  -- and up to the put that was refused
  none_end : (blocks : List (List ℕ)) (group : ℕ) (cause : PutFault) (old new : GroupPasses) → PutsEnd rack geometry job blocks group cause old new → (g : ℕ)
      → filter is_begin (own job (gained old new g)) ≡ []
  none_end blocks group cause old new end g = ⊎_elim
      (λ (e : group ≡ g). subst (λ n. filter is_begin (own job (gained old new n)) ≡ []) e
      (ap (λ es. filter is_begin es) end.here
      ∙ none_of_two end.sofar end.last (puts_begin job (in_group group end.placed) end.sofar end.puts_here)
      (ends_begin rack end.origin.first job end.next cause end.last (entries_of (view_at old group).seen) (gained old new group) (view_at new group) end.ends)))
      (λ (ne : group ≢ g). puts_begin job (in_group g end.placed) (own job (gained old new g)) (end.puts g ne))
      (cases_eq group g)

  module _ (file : List ℕ) (pads : Pads) (old new : GroupPasses) (worked : RowWroteOnlyFor (of_job job) old new) where
    none_stop : (e : RenewFileFault) → StopsAtPut rack geometry job file pads e old new → BeganNone job old new
    none_stop e stop = record { worked = worked; none = λ alone g. none_end (blocks_from geometry file pads) stop.group stop.cause old new (stop.ends alone) g }

    -- the puts of a new split begin no relay
    pub none_split : (result : Result (Stored × Split) RenewFileFault) → PutsSplit rack geometry job file pads result old new → BeganNone job old new
    none_split (Ok (x, split)) puts = none_put (blocks_from geometry file pads) split.places old new puts.puts
    none_split (Err renew.NoMemory) same = record {
      worked = worked;
      none = λ alone g. subst (λ (w : GroupPasses). filter is_begin (own job (gained old w g)) ≡ []) (sym same)
          (ap (λ ls. filter is_begin (own job (entries_of ls))) (drop-length (view_at old g).seen));
    }
    none_split (Err renew.IndexLogFull) stop = none_stop renew.IndexLogFull stop
    none_split (Err renew.Absent) stop = none_stop renew.Absent stop
    none_split (Err renew.TooOften) stop = none_stop renew.TooOften stop
    none_split (Err (renew.Faulted group column)) stop = none_stop (renew.Faulted group column) stop
    none_split (Err (renew.Lost piece fragment have need)) stop = none_stop (renew.Lost piece fragment have need) stop
    none_split (Err (renew.LogFull group)) stop = none_stop (renew.LogFull group) stop
    none_split (Err (renew.Odd wanted found)) stop = none_stop (renew.Odd wanted found) stop
    none_split (Err (renew.Full group)) stop = none_stop (renew.Full group) stop

-- a place was mended, and looked at once more
module _ {told : Type 0} {job : ℕ} where
  pub blinds_again : {p : Place} {c : Came} {pads after : Pads} {result : Mending} {old mid new : GroupPasses} → MendsPlace told job p pads after result old mid → LooksAgain job p c mid new
      → Blinds job 1 pads after old new
  blinds_again {p} {c} {pads} {after} {result} {old} {mid} {new} mends again =
      then_quiet (blinds_mends mends) (none_look job p again.first mid new again.looks)
