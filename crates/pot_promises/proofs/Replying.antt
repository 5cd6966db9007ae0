-- How many replies a command has, and what its first reply says.
use Rattle.std.proofs.Common.{◌≡◌, ◌+◌, ℕ, zero, suc, List, [], ◌∷◌, ◌++◌, length, Some, refl, ap, ◌∙◌, subst, arith}
use Rattle.std.specs.Prelude.{slice_get}
use Rattle.pot_script.specs.declared.command.Command.{Command}
use Rattle.pot_script.specs.declared.command.Command.TheVariants as commands
use Rattle.pot_script.specs.declared.reply.Reply.{Reply}
use Rattle.pot_replies.specs.Sections.{Section, MovesThenRest}
use Rattle.pot_replies.specs.Settings.{Setting}
use Rattle.pot_replies.specs.Listings.{StatusLine}
use Rattle.pot_commands.specs.Rows.{Row, replies_from}
use Rattle.pot_promises.specs.Answers.{count_replies}

length-replies_from : (g : ℕ) (lines : List StatusLine) → length (replies_from g lines) ≡ length lines
length-replies_from g [] = refl
length-replies_from g (l ∷ ls) = ap suc (length-replies_from (suc g) ls)

-- each command has as many replies as its kind says
pub as_many : (s : Setting) (job : ℕ) (c : Command) (rs : List Reply) (w : Section) (h : MovesThenRest w) → Row s job c rs w h → length rs ≡ count_replies s.rack c
as_many s job (commands.Store name file) [] w h row = absurd row.1
as_many s job (commands.Store name file) (r ∷ []) w h row = refl
as_many s job (commands.Store name file) (r ∷ q ∷ rs) w h row = absurd row.1
as_many s job (commands.Fetch name) [] w h row = absurd row.1
as_many s job (commands.Fetch name) (r ∷ []) w h row = refl
as_many s job (commands.Fetch name) (r ∷ q ∷ rs) w h row = absurd row.1
as_many s job commands.List [] w h row = absurd row.1
as_many s job commands.List (r ∷ []) w h row = refl
as_many s job commands.List (r ∷ q ∷ rs) w h row = absurd row.1
as_many s job commands.Status rs w h row =
    ap length row.1.are ∙ (length-replies_from 0 row.1.lines ∙ row.1.status.count)
as_many s job (commands.Scrub group) [] w h row = absurd row.1
as_many s job (commands.Scrub group) (r ∷ []) w h row = refl
as_many s job (commands.Scrub group) (r ∷ q ∷ rs) w h row = absurd row.1
as_many s job (commands.Repair group) [] w h row = absurd row.1
as_many s job (commands.Repair group) (r ∷ []) w h row = refl
as_many s job (commands.Repair group) (r ∷ q ∷ rs) w h row = absurd row.1
as_many s job (commands.Replace from to) [] w h row = absurd row.1
as_many s job (commands.Replace from to) (r ∷ []) w h row = refl
as_many s job (commands.Replace from to) (r ∷ q ∷ rs) w h row = absurd row.1
as_many s job (commands.Migrate from to) [] w h row = absurd row.1
as_many s job (commands.Migrate from to) (r ∷ []) w h row = refl
as_many s job (commands.Migrate from to) (r ∷ q ∷ rs) w h row = absurd row.1
as_many s job (commands.Renew name geometry) [] w h row = absurd row.1
as_many s job (commands.Renew name geometry) (r ∷ []) w h row = refl
as_many s job (commands.Renew name geometry) (r ∷ q ∷ rs) w h row = absurd row.1
as_many s job (commands.Together count) rs w h row = absurd row.1
as_many s job commands.End rs w h row = absurd row.1
as_many s job commands.Quit rs w h row = absurd row.1

-- the element behind others
pub element_behind : {X : Type 0} (xs ys : List X) (k : ℕ) (x : X) → slice_get (xs ++ ys) (length xs + k) ≡ Some x → slice_get ys k ≡ Some x
element_behind [] ys k x at = subst (λ n. slice_get ys n ≡ Some x) (let e : 0 + k ≡ k = omega arith in e) at
element_behind (z ∷ zs) ys k x at =
    element_behind zs ys k x (subst (λ n. slice_get (z ∷ (zs ++ ys)) n ≡ Some x) (let e : suc (length zs) + k ≡ suc (length zs + k) = omega arith in e) at)

pub element_pushed : {X : Type 0} (xs ys : List X) (k : ℕ) (x : X) → slice_get ys k ≡ Some x → slice_get (xs ++ ys) (length xs + k) ≡ Some x
element_pushed [] ys k x at = subst (λ n. slice_get ys n ≡ Some x) (let e : k ≡ 0 + k = omega arith in e) at
element_pushed (z ∷ zs) ys k x at =
    subst (λ n. slice_get (z ∷ (zs ++ ys)) n ≡ Some x) (let e : suc (length zs + k) ≡ suc (length zs) + k = omega arith in e) (element_pushed zs ys k x at)

-- and before others
pub element_in_front : {X : Type 0} (xs ys : List X) (k : ℕ) (x : X) → slice_get xs k ≡ Some x → slice_get (xs ++ ys) k ≡ Some x
element_in_front [] ys k x at = absurd (cc at)
element_in_front (z ∷ zs) ys zero x at = at
element_in_front (z ∷ zs) ys (suc k) x at = element_in_front zs ys k x at
