-- The replies to `fetch` stand when other jobs log more.
use Rattle.std.proofs.Common.{◌≡◌, ℕ, inl, inr, ⊎_elim, [], sym, subst}
use Rattle.std.specs.Prelude.{IsTrue, false}
use Rattle.pot_bytes.specs.declared.rack.Place.{Place}
use Rattle.pot_shard.specs.Places.{place_at}
use Rattle.pot_bytes.specs.Digests.{digest_of}
use Rattle.pot_replies.specs.Sections.{JobEntries, mine}
use Rattle.pot_replies.specs.Fetches.{SeesAll, FirstShort, IsUnseen, FailsAt, IsHopeless, has_seen}
use Rattle.pot_replies.specs.Laws.{FileStands, OddStands, LostStands, FetchFaultStands, FetchLogFullStands}
use Rattle.pot_replies.proofs.Standing.{mine_stays, moment_stands, found_stands, entries_stand, seen_as_stands, hopeless_stands}

pub file_stands : FileStands
file_stands s job name bytes w w' wide is = record {
  kept = is.kept;
  found = found_stands job w w' wide [] s name is.kept is.found;
  entries = entries_stand job w w' wide is.kept is.entries;
  sees = subst (λ (m : JobEntries). SeesAll m.own is.kept) (sym (mine_stays job w w' wide)) is.sees;
  long = is.long;
  digest = is.digest;
}

pub odd_stands : OddStands
odd_stands held s job name wanted got w w' wide is =
    let same = mine_stays job w w' wide in record {
      kept = is.kept;
      found = found_stands job w w' wide [] s name is.kept is.found;
      entries = entries_stand job w w' wide is.kept is.entries;
      sees = subst (λ (m : JobEntries). SeesAll m.own is.kept) (sym same) is.sees;
      block = is.block;
      seen = λ i j x in_pieces in_fragments in_shards has.
          let p : Place = place_at is.kept.geometry is.kept.places i j x in
          let it = is.seen i j x in_pieces in_fragments in_shards (subst (λ (m : JobEntries). IsTrue (has_seen m.own p)) same has) in
          (it.0, it.1, (it.2.0, seen_as_stands job w w' wide (s.first p.group) p.group p.stripe p.column (digest_of it.0) it.2.1));
      unseen = λ i j x none. is.unseen i j x (subst (λ (m : JobEntries). has_seen m.own (place_at is.kept.geometry is.kept.places i j x) ≡ false) same none);
      wanted_is = is.wanted_is;
      bytes = is.bytes;
      joined = is.joined;
      got_is = is.got_is;
      differs = is.differs;
    }

pub lost_stands : LostStands
lost_stands s job name piece fragment have need w w' wide is =
    let same = mine_stays job w w' wide in record {
      kept = is.kept;
      found = found_stands job w w' wide [] s name is.kept is.found;
      entries = entries_stand job w w' wide is.kept is.entries;
      short = subst (λ (m : JobEntries). FirstShort is.kept piece fragment have m) (sym same) is.short;
      need_is = is.need_is;
      hopeless = λ x unseen. hopeless_stands job w w' wide s (place_at is.kept.geometry is.kept.places piece fragment x) (is.hopeless x (subst (λ (m : JobEntries). IsUnseen is.kept piece fragment m x) same unseen));
    }

pub fetch_fault_stands : FetchFaultStands
fetch_fault_stands s job name group column w w' wide is =
    let same = mine_stays job w w' wide in
    let back : (x : ℕ) → IsUnseen is.kept is.piece is.fragment (mine job w') x → IsUnseen is.kept is.piece is.fragment (mine job w) x =
    λ x unseen. subst (λ (m : JobEntries). IsUnseen is.kept is.piece is.fragment m x) same unseen in
    record {
      kept = is.kept;
      found = found_stands job w w' wide [] s name is.kept is.found;
      entries = entries_stand job w w' wide is.kept is.entries;
      piece = is.piece;
      fragment = is.fragment;
      have = is.have;
      short = subst (λ (m : JobEntries). FirstShort is.kept is.piece is.fragment is.have m) (sym same) is.short;
      point = is.point;
      unseen = subst (λ (m : JobEntries). IsUnseen is.kept is.piece is.fragment m is.point) (sym same) is.unseen;
      group_is = is.group_is;
      fails = subst (λ (m : JobEntries). FailsAt job m (place_at is.kept.geometry is.kept.places is.piece is.fragment is.point) column) (sym same) is.fails;
      least = λ x lt unseen. hopeless_stands job w w' wide s (place_at is.kept.geometry is.kept.places is.piece is.fragment x) (is.least x lt (back x unseen));
      others = λ x unseen. ⊎_elim
          (λ (h : IsHopeless s job w (place_at is.kept.geometry is.kept.places is.piece is.fragment x)). inl (hopeless_stands job w w' wide s (place_at is.kept.geometry is.kept.places is.piece is.fragment x) h))
          (λ (f : (k : ℕ) × FailsAt job (mine job w) (place_at is.kept.geometry is.kept.places is.piece is.fragment x) k).
          inr (f.0, subst (λ (m : JobEntries). FailsAt job m (place_at is.kept.geometry is.kept.places is.piece is.fragment x) f.0) (sym same) f.1))
          (is.others x (back x unseen));
    }

pub fetch_log_full_stands : FetchLogFullStands
fetch_log_full_stands s job name group w w' wide is =
    let same = mine_stays job w w' wide in record {
      kept = is.kept;
      found = found_stands job w w' wide [] s name is.kept is.found;
      entries = entries_stand job w w' wide is.kept is.entries;
      piece = is.piece;
      fragment = is.fragment;
      have = is.have;
      short = subst (λ (m : JobEntries). FirstShort is.kept is.piece is.fragment is.have m) (sym same) is.short;
      point = is.point;
      unseen = subst (λ (m : JobEntries). IsUnseen is.kept is.piece is.fragment m is.point) (sym same) is.unseen;
      group_is = is.group_is;
      log = is.log;
      moment = moment_stands job w w' wide group is.log is.moment;
      full = is.full;
    }
