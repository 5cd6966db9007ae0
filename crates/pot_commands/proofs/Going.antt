-- Passes that went on: what of them stays, and the sections that they make.
use Rattle.std.proofs.Common.{◌≡◌, ℕ, List, length, refl, ap, sym, ◌∙◌, subst, arith}
use Rattle.std.specs.Prelude.{IfSome}
use Rattle.pot_bytes.specs.declared.rack.Rack.{Rack}
use Rattle.pot_index.specs.Entries as index
use Rattle.pot_worked.specs.WroteOnlyFor.{added}
use Rattle.pot_worked.proofs.OnlyWriterLemmas.{gain_in_parts}
use Rattle.pot_rows.specs.Rows.{view_at}
use Rattle.pot_rows.proofs.WorkLemmas.{row_work_went, row_went_in_parts, row_sole_in_parts, row_sole_alone}
use Rattle.pot_replies.specs.Settings.{Setting}
use Rattle.pot_replies.specs.Sections.{FollowsSection}
use Rattle.pot_shared.specs.declared.member.GroupOrigin.{GroupOrigin}
use Rattle.pot_shared.specs.declared.catalog.CatalogOrigin.{CatalogOrigin}
use Rattle.pot_shared.specs.Members.{entries_of}
use Rattle.pot_shared.proofs.MemberLemmas.{entries_append}
use Rattle.pot_shared.specs.Works.{of_job, Known, JobWroteOnly, JobOnlyWriter, IsSettingOf, section_of}
use Rattle.pot_commands.specs.Rows.{HasFilled, IsSessionSetting}
use Rattle.pot_shared.specs.Going.{AllExtend, AllOnlyWriters, AllStay}

pub work_all_went : (job : ℕ) (old new : Known) → JobWroteOnly job old new → AllExtend old new
work_all_went job old new worked = record { groups = row_work_went (of_job job) old.groups new.groups worked.groups; index = row_work_went (index.is_of job) old.index new.index worked.index }

pub went_more : (old mid new : Known) → AllExtend old mid → AllExtend mid new → AllExtend old new
went_more old mid new first then = record {
  groups = row_went_in_parts old.groups mid.groups new.groups first.groups then.groups;
  index = row_went_in_parts old.index mid.index new.index first.index then.index;
}

pub sole_parts : (old mid new : Known) → AllExtend old mid → AllExtend mid new → AllOnlyWriters old new → AllOnlyWriters old mid × AllOnlyWriters mid new
sole_parts old mid new first then sole =
    let g = row_sole_in_parts old.groups mid.groups new.groups first.groups then.groups sole.groups in
    let i = row_sole_in_parts old.index mid.index new.index first.index then.index sole.index in
    (record { groups = g.0; index = i.0 }, record { groups = g.1; index = i.1 })

pub sole_alone : (job : ℕ) (old new : Known) → JobWroteOnly job old new → AllOnlyWriters old new → JobOnlyWriter job old new
sole_alone job old new worked sole = record {
  groups = row_sole_alone (of_job job) old.groups new.groups worked.groups sole.groups;
  index = row_sole_alone (index.is_of job) old.index new.index worked.index sole.index;
}

pub known_follows : (old mid new : Known) → AllExtend old mid → AllExtend mid new → FollowsSection (section_of old mid) (section_of mid new) (section_of old new)
known_follows old mid new first then = record {
  begins = λ g. refl;
  is_added = λ g.
      ap entries_of (gain_in_parts (view_at old.groups g) (view_at mid.groups g) (view_at new.groups g) (first.groups g) (then.groups g))
      ∙ entries_append (added (view_at old.groups g) (view_at mid.groups g)) (added (view_at mid.groups g) (view_at new.groups g));
  goes_on = λ g. ap entries_of (first.groups g).seen ∙ entries_append (view_at old.groups g).seen (added (view_at old.groups g) (view_at mid.groups g));
  index_begins = refl;
  index_is_added = gain_in_parts (view_at old.index 0) (view_at mid.index 0) (view_at new.index 0) (first.index 0) (then.index 0);
  index_goes_on = (first.index 0).seen;
}

pub stays_more : (old mid new : Known) → AllStay old mid → AllStay mid new → AllStay old new
stays_more old mid new p q = record {
  groups = record {
    names = q.groups.names ∙ p.groups.names;
    origin = λ at. q.groups.origin at ∙ p.groups.origin at;
    opened = λ at. q.groups.opened at ∙ p.groups.opened at;
    parts = λ at. q.groups.parts at ∙ p.groups.parts at;
  };
  index = record {
    names = q.index.names ∙ p.index.names;
    origin = λ at. q.index.origin at ∙ p.index.origin at;
    opened = λ at. q.index.opened at ∙ p.index.opened at;
    parts = λ at. q.index.parts at ∙ p.index.parts at;
  };
}

-- a setting of what passes know is one of what they know then
pub setting_of_stays : (s : Setting) (rack : Rack) (old new : Known) → new.groups.names ≡ old.groups.names → ((at : ℕ) → (view_at new.groups at).origin ≡ (view_at old.groups at).origin)
    → ((at : ℕ) → (view_at new.index at).origin ≡ (view_at old.index at).origin) → IsSettingOf s rack old → IsSettingOf s rack new
setting_of_stays s rack old new names groups index is = record {
  rack_is = is.rack_is;
  first = λ g lt. subst (λ o. IfSome o (λ (x : GroupOrigin). s.first g ≡ x.first)) (sym (groups g)) (is.first g (let n = ap length names in omega (arith, lt, n)));
  read = subst (λ o. IfSome o (λ (x : CatalogOrigin). s.read ≡ x.read)) (sym (index 0)) is.read;
}

pub setting_stays : (s : Setting) (rack : Rack) (seed : List ℕ) (session : ℕ) (old new : Known) → AllStay old new → IsSessionSetting s rack seed session old → IsSessionSetting s rack seed session new
setting_stays s rack seed session old new stays is = record {
  setting = setting_of_stays s rack old new stays.groups.names stays.groups.origin stays.index.origin is.setting;
  drawn = is.drawn;
  mends = is.mends;
  filled = is.filled;
}

-- what passes know later gives the settings that it gave before
pub filled_stays : (rack : Rack) (old new : Known) → AllStay old new → HasFilled rack old → HasFilled rack new
filled_stays rack old new stays filled s is =
    filled s (setting_of_stays s rack new old (sym stays.groups.names) (λ at. sym (stays.groups.origin at)) (λ at. sym (stays.index.origin at)) is)
