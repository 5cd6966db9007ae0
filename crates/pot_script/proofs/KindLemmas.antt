-- The first word of a line tells its kind, and the kind tells which command a line may be of.
use Rattle.std.proofs.Common.{◌≡◌, ◌<◌, ℕ, List, [], ◌∷◌, get_or, refl, sym, ap, ◌∙◌, arith}
use Rattle.std.specs.Prelude.{codes, Option, Some, None, if◌then◌else◌}
use Rattle.std.specs.Str.{bytes_eq}
use Rattle.pot_bytes.specs.declared.rack.Geometry.{Geometry}
use Rattle.pot_script.specs.declared.command.Command.{Command}
use Rattle.pot_script.specs.declared.command.Command.TheVariants as commands
use Rattle.pot_script.specs.declared.kind.Kind.{Kind}
use Rattle.pot_script.specs.declared.kind.Kind.TheVariants as kinds
use Rattle.pot_script.specs.Kinds.{keyword, kind_of}

-- lines of each kind are those of one command
pub only_store : (P : Command → Type 0) → ((name file : List ℕ) → P (commands.Store name file)) → (c : Command) → kind_of c ≡ kinds.Store → P c
only_store P p (commands.Store name file) e = p name file
only_store P p _ e = absurd (cc)

pub only_fetch : (P : Command → Type 0) → ((name : List ℕ) → P (commands.Fetch name)) → (c : Command) → kind_of c ≡ kinds.Fetch → P c
only_fetch P p (commands.Fetch name) e = p name
only_fetch P p _ e = absurd (cc)

pub only_list : (P : Command → Type 0) → P commands.List → (c : Command) → kind_of c ≡ kinds.List → P c
only_list P p commands.List e = p
only_list P p _ e = absurd (cc)

pub only_status : (P : Command → Type 0) → P commands.Status → (c : Command) → kind_of c ≡ kinds.Status → P c
only_status P p commands.Status e = p
only_status P p _ e = absurd (cc)

pub only_scrub : (P : Command → Type 0) → ((group : ℕ) → P (commands.Scrub group)) → (c : Command) → kind_of c ≡ kinds.Scrub → P c
only_scrub P p (commands.Scrub group) e = p group
only_scrub P p _ e = absurd (cc)

pub only_repair : (P : Command → Type 0) → ((group : ℕ) → P (commands.Repair group)) → (c : Command) → kind_of c ≡ kinds.Repair → P c
only_repair P p (commands.Repair group) e = p group
only_repair P p _ e = absurd (cc)

pub only_replace : (P : Command → Type 0) → ((from to : ℕ) → P (commands.Replace from to)) → (c : Command) → kind_of c ≡ kinds.Replace → P c
only_replace P p (commands.Replace from to) e = p from to
only_replace P p _ e = absurd (cc)

pub only_migrate : (P : Command → Type 0) → ((from to : ℕ) → P (commands.Migrate from to)) → (c : Command) → kind_of c ≡ kinds.Migrate → P c
only_migrate P p (commands.Migrate from to) e = p from to
only_migrate P p _ e = absurd (cc)

pub only_together : (P : Command → Type 0) → ((count : ℕ) → P (commands.Together count)) → (c : Command) → kind_of c ≡ kinds.Together → P c
only_together P p (commands.Together count) e = p count
only_together P p _ e = absurd (cc)

pub only_end : (P : Command → Type 0) → P commands.End → (c : Command) → kind_of c ≡ kinds.End → P c
only_end P p commands.End e = p
only_end P p _ e = absurd (cc)

pub only_renew : (P : Command → Type 0) → ((name : List ℕ) (geometry : Geometry) → P (commands.Renew name geometry)) → (c : Command) → kind_of c ≡ kinds.Renew → P c
only_renew P p (commands.Renew name geometry) e = p name geometry
only_renew P p _ e = absurd (cc)

pub only_quit : (P : Command → Type 0) → P commands.Quit → (c : Command) → kind_of c ≡ kinds.Quit → P c
only_quit P p commands.Quit e = p
only_quit P p _ e = absurd (cc)

-- the kind whose lines begin with the word
unfoldable kind_named : List ℕ → Option Kind
kind_named word =
    if bytes_eq word (codes "store") then Some kinds.Store
    else (if bytes_eq word (codes "fetch") then Some kinds.Fetch
    else (if bytes_eq word (codes "list") then Some kinds.List
    else (if bytes_eq word (codes "status") then Some kinds.Status
    else (if bytes_eq word (codes "scrub") then Some kinds.Scrub
    else (if bytes_eq word (codes "repair") then Some kinds.Repair
    else (if bytes_eq word (codes "replace") then Some kinds.Replace
    else (if bytes_eq word (codes "migrate") then Some kinds.Migrate
    else (if bytes_eq word (codes "together") then Some kinds.Together
    else (if bytes_eq word (codes "end") then Some kinds.End
    else (if bytes_eq word (codes "renew") then Some kinds.Renew
    else (if bytes_eq word (codes "quit") then Some kinds.Quit
    else None)))))))))))

kind_named-keyword : (kind : Kind) → kind_named (keyword kind) ≡ Some kind
unfolding kind_named
kind_named-keyword kinds.Store = refl
kind_named-keyword kinds.Fetch = refl
kind_named-keyword kinds.List = refl
kind_named-keyword kinds.Status = refl
kind_named-keyword kinds.Scrub = refl
kind_named-keyword kinds.Repair = refl
kind_named-keyword kinds.Replace = refl
kind_named-keyword kinds.Migrate = refl
kind_named-keyword kinds.Together = refl
kind_named-keyword kinds.End = refl
kind_named-keyword kinds.Renew = refl
kind_named-keyword kinds.Quit = refl

-- the first word tells the kind
pub keyword_injective : (j k : Kind) → keyword j ≡ keyword k → j ≡ k
keyword_injective j k e =
    let same : Some j ≡ Some k = sym (kind_named-keyword j) ∙ ap kind_named e ∙ kind_named-keyword k in
    cc

-- all kinds, in the order of the code
abbrev pub all_kinds : List Kind
all_kinds =
    kinds.Store ∷ kinds.Fetch ∷ kinds.List ∷ kinds.Status ∷ kinds.Scrub ∷ kinds.Repair ∷ kinds.Replace ∷ kinds.Migrate ∷ kinds.Together ∷ kinds.End
    ∷ kinds.Renew ∷ kinds.Quit ∷ []

-- what holds of each of them holds of each kind
pub every_kind : (P : Kind → Type 0) → ((i : ℕ) (d : Kind) → i < 12 → P (get_or all_kinds i d)) → (kind : Kind) → P kind
every_kind P h kinds.Store = h 0 kinds.Store (omega arith)
every_kind P h kinds.Fetch = h 1 kinds.Store (omega arith)
every_kind P h kinds.List = h 2 kinds.Store (omega arith)
every_kind P h kinds.Status = h 3 kinds.Store (omega arith)
every_kind P h kinds.Scrub = h 4 kinds.Store (omega arith)
every_kind P h kinds.Repair = h 5 kinds.Store (omega arith)
every_kind P h kinds.Replace = h 6 kinds.Store (omega arith)
every_kind P h kinds.Migrate = h 7 kinds.Store (omega arith)
every_kind P h kinds.Together = h 8 kinds.Store (omega arith)
every_kind P h kinds.End = h 9 kinds.Store (omega arith)
every_kind P h kinds.Renew = h 10 kinds.Store (omega arith)
every_kind P h kinds.Quit = h 11 kinds.Store (omega arith)
