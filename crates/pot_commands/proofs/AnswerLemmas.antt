-- One command, and what it gives.
use Rattle.std.proofs.Common.{◌≡◌, inl, ℕ, List, [], ◌∷◌, refl, ap, sym, ◌∙◌, subst}
use Rattle.std.specs.Prelude.{map}
use Rattle.pot_bytes.specs.declared.rack.Geometry.{Geometry}
use Rattle.pot_bytes.specs.declared.rack.Rack.{Rack}
use Rattle.pot_index.specs.Entries as index
use Rattle.pot_pads.specs.Pads.{Pads, pads_of}
use Rattle.pot_turn.specs.declared.name.TurnName.{TurnName}
use Rattle.pot_script.specs.declared.command.Command.{Command}
use Rattle.pot_script.specs.declared.command.Command.TheVariants as commands
use Rattle.pot_bytes.specs.Digests.{digest_of}
use Rattle.pot_replies.specs.Settings.{Setting}
use Rattle.pot_replies.specs.Sections.{Section, mine, IsSilent}
use Rattle.pot_shared.specs.Ready.{GroupPasses, AreReady}
use Rattle.pot_shared.specs.Catalogs.{IndexPasses, IsIndexReady}
use Rattle.pot_shared.specs.Works.{of_job, Known, known, JobWroteOnly}
use Rattle.pot_replies.specs.Renewals.{renewing}
use Rattle.pot_store.specs.Drawing.{blocks_from}
use Rattle.pot_store.specs.Renewals.{RenewsFrom}
use Rattle.pot_store.specs.Stores.{DrawsFrom, drawn_blocks}
use Rattle.pot_shared.proofs.WorkLemmas.{row_stays, index_idle}
use Rattle.pot_script.specs.declared.reply.Reply.{Reply}
use Rattle.pot_commands.specs.Rows.{AreReplies, IsSessionSetting, IsIdleCommand, IsPlain, IsSingle, IsWorked}
use Rattle.pot_commands.specs.Taking.{asks}

-- passes that did nothing worked for any job
pub stayed_worked : (rack : Rack) (names turn : List TurnName) (job : ℕ) (row : GroupPasses) (i : IndexPasses) → AreReady rack names row → IsIndexReady rack names turn i
    → JobWroteOnly job (known row i) (known row i)
stayed_worked rack names turn job row i ready index_ready = record {
  groups = row_stays (of_job job) row ready.idle;
  index = row_stays (index.is_of job) i (index_idle rack names turn i index_ready);
}

pub idle_silent : (s : Setting) (job : ℕ) (c : Command) (w : Section) → IsSilent (mine job w) → IsIdleCommand s job c w
idle_silent s job (commands.Fetch name) w h = inl h
idle_silent s job (commands.Renew name geometry) w h = inl (inl h)
idle_silent s job _ w h = h

-- the stream of a job draws what its session means
pub draws : (s : Setting) (rack : Rack) (seed : List ℕ) (session job : ℕ) (k : Known) (pads : Pads) (file : List ℕ) → IsSessionSetting s rack seed session k → pads ≡ pads_of seed session job
    → DrawsFrom s pads job file
draws s rack seed session job k pads file is same = is.drawn s.rack.geometry job file ∙ ap (λ p. map digest_of (drawn_blocks s p file)) (sym same)

-- and so does the stream of a new split
pub renews : (s : Setting) (rack : Rack) (seed : List ℕ) (session job : ℕ) (k : Known) (pads : Pads) (geometry : Geometry) → IsSessionSetting s rack seed session k → pads ≡ pads_of seed session (renewing job)
    → RenewsFrom s pads geometry job
renews s rack seed session job k pads geometry is same file = is.drawn geometry (renewing job) file ∙ ap (λ p. map digest_of (blocks_from geometry file p)) (sym same)

-- a command that is worked and is no `status` has one reply
pub single : (groups : ℕ) (c : Command) → IsPlain groups c → (c ≡ commands.Status → ⊥) → IsSingle groups c
single groups commands.Status w ne = absurd (ne refl)
single groups (commands.Store name file) w ne = w
single groups (commands.Fetch name) w ne = w
single groups (commands.Renew name geometry) w ne = w
single groups commands.List w ne = w
single groups (commands.Scrub group) w ne = w
single groups (commands.Repair group) w ne = w
single groups _ w ne = w

-- a command that is worked and is neither `replace` nor `migrate` asks for no archive
pub plain : (groups : ℕ) (c : Command) → IsWorked groups c → ((from to : ℕ) → c ≡ commands.Replace from to → ⊥) → ((from to : ℕ) → c ≡ commands.Migrate from to → ⊥) → IsPlain groups c
plain groups (commands.Replace from to) w ne nm = absurd (ne from to refl)
plain groups (commands.Migrate from to) w ne nm = absurd (nm from to refl)
plain groups commands.Status w ne nm = w
plain groups (commands.Store name file) w ne nm = w
plain groups (commands.Fetch name) w ne nm = w
plain groups (commands.Renew name geometry) w ne nm = w
plain groups commands.List w ne nm = w
plain groups (commands.Scrub group) w ne nm = w
plain groups (commands.Repair group) w ne nm = w
plain groups _ w ne nm = w

pub asks_none : (c : Command) → ((from to : ℕ) → c ≡ commands.Replace from to → ⊥) → ((from to : ℕ) → c ≡ commands.Migrate from to → ⊥) → asks c ≡ []
asks_none (commands.Replace from to) ne nm = absurd (ne from to refl)
asks_none (commands.Migrate from to) ne nm = absurd (nm from to refl)
asks_none _ ne nm = refl

-- the one reply of a `migrate`
pub migrate_replies : (s : Setting) (job : ℕ) (c : Command) (from to : ℕ) (r : Reply) (rs : List Reply) (w : Section) → c ≡ commands.Migrate from to → rs ≡ r ∷ [] → AreReplies s job (commands.Migrate from to) (r ∷ []) w → AreReplies s job c rs w
migrate_replies s job c from to r rs w is one row = subst (λ d. AreReplies s job d rs w) (sym is) (subst (λ l. AreReplies s job (commands.Migrate from to) l w) (sym one) row)
