-- The archives that a session left as they were.
use Rattle.std.proofs.Common.{◌≡◌, ◌++◌, ℕ, List, [], length, ap, ◌∙◌, arith}
use Rattle.std.specs.Prelude.{Some, slice_get}
use Rattle.std.proofs.lemmas.Option.{slice_get_within}
use Rattle.pot_machine.specs.declared.entry.Entry.{Entry}
use Rattle.pot_group.specs.Arrivals.{arrivals}
use Rattle.pot_group.proofs.Arriving.{arrivals-append}
use Rattle.pot_rows.specs.Rows.{view_at}
use Rattle.pot_shared.specs.Members.{entries_of}
use Rattle.pot_shared.specs.Ready.{GroupPass}
use Rattle.pot_shared.specs.Works.{Known, gained, section_of}
use Rattle.pot_shared.specs.Hands.{times}
use Rattle.pot_shared.specs.Coming.{came_in}
use Rattle.pot_shared.specs.Groups.{AreFirstPasses}
use Rattle.pot_shared.specs.Leaving.{AreLogs}
use Rattle.pot_session.specs.Serving.{came_by}
use Rattle.pot_shared.proofs.ComingLemmas.{came_of}

-- the archives that logs brought are those that came since the openings
pub came_since : (old new : Known) (logs : List (List Entry)) → AreFirstPasses old.groups old.index → AreLogs logs (section_of old new) → length logs ≡ length old.groups.names → (n : ℕ)
    → times n (came_by logs) ≡ times n (came_in (length old.groups.names) (gained old.groups new.groups))
came_since old new logs f are long n =
    came_of (λ l. l) logs (gained old.groups new.groups) each n ∙ ap (λ k. times n (came_in k (gained old.groups new.groups))) long
  where
    each : (k : ℕ) (l : List Entry) → slice_get logs k ≡ Some l → arrivals l ≡ arrivals (gained old.groups new.groups k)
    each k l q =
        (let p = f.each k (let w = slice_get_within logs k l q in omega (arith, w, long)) in
        let none : arrivals (entries_of (view_at old.groups k).seen) ≡ [] = ap (λ (v : GroupPass). arrivals (entries_of v.seen)) p.is ∙ p.none in
        ap arrivals (are k l q) ∙ (arrivals-append (entries_of (view_at old.groups k).seen) (gained old.groups new.groups k) ∙ ap (λ x. x ++ arrivals (gained old.groups new.groups k)) none))
